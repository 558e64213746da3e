use Rattle.std.proofs.Common.{◌≡◌, drop, find}
use Rattle.std.specs.Ordering.{int_eq}
use Rattle.machine_spec.specs.{declared.helper.Helper.Helper, Machine.signature_of}
use Rattle.machine_spec.proofs.helper.find_helper.Given as goal

abbrev pub invariant-loop-helper : goal.invariant-loop-helper
invariant-loop-helper l =
    find (λ (h : Helper). int_eq (signature_of h).number l.number) l.helpers
    ≡ find (λ (h : Helper). int_eq (signature_of h).number l.number) (drop l.helper-index l.helpers)
