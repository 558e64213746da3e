-- What an instruction whose checks pass is known of: an operation takes the kinds of its operands.
use Rattle.std.proofs.Common.{◌≡◌, ℕ, ℤ, true, false, Some, None, arith}
use Rattle.std.proofs.lemmas.Bool.{not-false}
use Rattle.machine_spec.specs.declared.{operation.Width.Width, operation.Operation.Operation, instruction.Size.Size}
use Rattle.machine_spec.specs.declared.{instruction.Source.Source, instruction.Region.Region}
use Rattle.machine_spec.specs.declared.{helper.TheConstants.HELPERS, helper.Helper.Helper}
use Rattle.machine_spec.specs.declared.summary.Direction.TheVariants.{Write}
use Rattle.machine_spec.specs.declared.instruction.Instruction.TheVariants.{Compute, Store, Call}
use Rattle.std.specs.List.{list_any}
use Rattle.machine_spec.specs.{Machine.signature_of, Machine.helper_of}
use Rattle.verifier_spec.specs.{declared.state.Abs.Abs, declared.state.Abstract.Abstract, Kinds.kind_at, Kinds.range_of}
use Rattle.verifier_spec.specs.declared.state.Abs.TheVariants as abs
use Rattle.verifier_spec.specs.Checks.{source_kind, can_move, can_compute_kinds, reach_at, may_leave_stack}
use Rattle.verifier_spec.specs.Checks.{is_wrong_argument_kind, failed_check}
use Rattle.verifier_spec.proofs.Safety.{passes}

pub can_compute_passes : (s : Abstract) (width : Width) (operation : Operation) (dst : ℕ) (source : Source) →
    failed_check HELPERS (Compute width operation dst source) s ≡ None →
    can_compute_kinds s width operation (kind_at s dst) (source_kind s width source) ≡ true
can_compute_passes s width operation dst source pass =
    not-false _ (passes HELPERS (Compute width operation dst source) s pass).operands

-- an operation that takes an address moves it
pub moves_parts : (s : Abstract) (width : Width) (operation : Operation) (region : Region) (low high : ℤ) (by : Abs) →
    can_compute_kinds s width operation (abs.Addr region low high) by ≡ true →
    can_move operation low high (range_of s by) ≡ true
moves_parts s width operation region low high by can = grind arith

-- a store stays in the stack
pub store_inside : (s : Abstract) (size : Size) (base : ℕ) (offset : ℤ) (source : Source) →
    failed_check HELPERS (Store size base offset source) s ≡ None →
    may_leave_stack (reach_at Write (kind_at s base) offset size) ≡ false
store_inside s size base offset source pass = (passes HELPERS (Store size base offset source) s pass).stack_bounds

-- the arguments of a helper that is called are of their kinds
pub arguments_right : (s : Abstract) (number : ℤ) (helper : Helper) → failed_check HELPERS (Call number) s ≡ None →
    helper_of number ≡ Some helper → list_any (is_wrong_argument_kind s) (signature_of helper).arguments ≡ false
arguments_right s number helper pass is = rw is at ((passes HELPERS (Call number) s pass).argument)
