use Rattle.std.proofs.Common.{◌≡◌, take, refl, Some, option_map}
use Rattle.commands.specs.Images.{first_bytes}
use Rattle.commands.proofs.image.read_first.Goals as goal

pub returns : goal.returns
returns g c = λ bytes known.
    let left : option_map (take c.take-first.result.limit) (g.R.Read.remaining c.take-first.result.inner)
    ≡ Some (first_bytes bytes) = rw (c.take-first.ensures.inner, c.take-first.ensures.limit, known) refl in
    c.read_whole.ensures (first_bytes bytes) left
