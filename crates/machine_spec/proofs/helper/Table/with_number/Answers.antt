use Rattle.std.proofs.Common.{◌≡◌, ℤ, FitsSigned, w32, subst}
use Rattle.std.proofs.lemmas.Int.{to_z-of_z}
use Rattle.machine_spec.specs.declared.helper.TheConstants.{HELPERS, TABLE_TWO}
use Rattle.machine_spec.specs.Signatures.{helper_among}
use Rattle.machine_spec.proofs.helper.Table.with_number.Goals as goal

pub returns-in-Two : goal.returns-in-Two
returns-in-Two c =
    let fits : FitsSigned w32 c.args.number = c.ranges.number in
    rw c.in-Two.is (subst (λ (n : ℤ). c.find_helper-in-Two.result ≡ helper_among TABLE_TWO n)
    (to_z-of_z w32 c.args.number fits) c.find_helper-in-Two.ensures)

pub returns-in-Three : goal.returns-in-Three
returns-in-Three c =
    let fits : FitsSigned w32 c.args.number = c.ranges.number in
    rw c.in-Three.is (subst (λ (n : ℤ). c.find_helper-in-Three.result ≡ helper_among HELPERS n)
    (to_z-of_z w32 c.args.number fits) c.find_helper-in-Three.ensures)
