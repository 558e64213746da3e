-- What a walk is after it was to be moved on by one item.
use Rattle.std.specs.Prelude.{◌≡◌, Bool, true, false}
use Rattle.log_spec.specs.Logs.{Item}
use Rattle.part_log.specs.Parts.{Log, log_with}

-- it has one more item, its last; or it is as it was
abbrev pub Advances : Log → Bool → Log → Type 0
Advances old true new = (item : Item) × (new ≡ log_with old item)
Advances old false new = new ≡ old
