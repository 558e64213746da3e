use Rattle.std.proofs.Common.{◌≡◌, ◌-◌}
use Rattle.batch_text.specs.Causes.{after_records}
use Rattle.batch_text.proofs.sizes.after_records.Given as goal

abbrev pub invariant-loop : goal.invariant-loop
invariant-loop l = after_records l.number l.bytes ≡ after_records (l.number - l.counter) l.rest
