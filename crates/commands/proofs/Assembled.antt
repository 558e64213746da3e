-- What files have after a text was assembled.
use Rattle.std.proofs.Common.{◌≡◌, ◌⊎◌, ℕ, List, Option, Result, Ok, Err, refl, inl, inr}
use Rattle.wire_spec.specs.Memory.{IsFault}
use Rattle.bpf_asm.specs.{declared.fault.AsmFault.AsmFault}
use Rattle.bpf_asm.specs.declared.fault.AsmFault.TheVariants as asm
use Rattle.commands.specs.{declared.status.Status.Status, Texts.WritesAs, Texts.status_of_fault}
use Rattle.commands.specs.declared.status.Status.TheVariants.{Failed}

-- a file or memory failed, and the file has what it had
pub unwritten : (said : Result (List ℕ) AsmFault) {status : Status} {before after : Option (List ℕ)} →
    status ≡ Failed → after ≡ before → WritesAs said status before after
unwritten (Ok image) is_failed same = inl is_failed
unwritten (Err fault) is_failed same = (inl is_failed, same)

-- the fault of a text was reported
pub told_text : (said : Result (List ℕ) AsmFault) (fault : AsmFault) (status : Status) (file : Option (List ℕ)) →
    IsFault asm.Memory fault said → (status ≡ status_of_fault fault) ⊎ (status ≡ Failed) →
    WritesAs said status file file
told_text said asm.Memory status file is (inl is_failed) = unwritten said is_failed refl
told_text said fault status file is (inl same) = rw (is (λ e. cc)) (inr same, refl)
told_text said fault status file is (inr is_failed) = unwritten said is_failed refl
