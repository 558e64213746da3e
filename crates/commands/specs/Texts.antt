-- What `asm` and `dis` do with an image's text.
use Rattle.std.specs.Prelude.{◌≡◌, ◌⊎◌, ℕ, List, Option, Result, Ok, Err, IfSome}
use Rattle.std.specs.Io.KnownBytes.{Appends}
use Rattle.machine_spec.specs.{declared.instruction.IsaFault.IsaFault, declared.instruction.Placed.Placed}
use Rattle.machine_spec.specs.Image.{read_image}
use Rattle.machine_spec.specs.declared.instruction.IsaFault.TheVariants as fault
use Rattle.verifier_spec.specs.declared.fault.LoadFault.TheVariants.{Isa}
use Rattle.bpf_asm.specs.{Writing.text_of, declared.fault.AsmFault.AsmFault}
use Rattle.bpf_asm.specs.declared.fault.AsmFault.TheVariants as asm
use Rattle.commands.specs.{declared.image.Refused.Refused, declared.status.Status.Status, Stops.status_of_refused}
use Rattle.commands.specs.declared.image.Refused.TheVariants as refused
use Rattle.commands.specs.declared.status.Status.TheVariants as exit

-- the refusal of an image that has no code; that memory ran out is a refusal of its own
abbrev pub refusal_of : IsaFault → Refused
refusal_of fault.Size = refused.Image (Isa fault.Size)
refusal_of (fault.Opcode slot) = refused.Image (Isa (fault.Opcode slot))
refusal_of (fault.Register slot) = refused.Image (Isa (fault.Register slot))
refusal_of (fault.Unused slot) = refused.Image (Isa (fault.Unused slot))
refusal_of (fault.Wide slot) = refused.Image (Isa (fault.Wide slot))
refusal_of (fault.NotInProfile slot) = refused.Image (Isa (fault.NotInProfile slot))
refusal_of fault.Memory = refused.Memory

-- the text of code that was read, or the image's refusal
abbrev pub disassembly_of : Result (List Placed) IsaFault → Result (List ℕ) Refused
disassembly_of (Ok code) = Ok (text_of code)
disassembly_of (Err reported) = Err (refusal_of reported)

-- what `dis` prints of an image: the text of its code, or its refusal
abbrev pub disassembly : List ℕ → Result (List ℕ) Refused
disassembly image = disassembly_of (read_image image)

-- A call that prints an answer, seen by view, ends with this status: standard output got all of the text, or it got
-- nothing and the refusal was reported, unless a file, standard output or memory failed.
abbrev pub PrintsAs : {X : Type 0} → (X → List ℕ) → Result X Refused → Status → Option (List ℕ) → Option (List ℕ) →
    Type 0
PrintsAs view (Ok text) status before after =
    (status ≡ exit.Failed) ⊎ ((status ≡ exit.Done) × Appends before after (view text))
PrintsAs view (Err reported) status before after =
    (status ≡ exit.Failed) ⊎ ((status ≡ status_of_refused reported) × (after ≡ before))

-- the status of a text's fault: a line is refused, or memory ran out
abbrev pub status_of_fault : AsmFault → Status
status_of_fault (asm.Word _) = exit.Refused
status_of_fault (asm.Operand _) = exit.Refused
status_of_fault (asm.Number _) = exit.Refused
status_of_fault (asm.Register _) = exit.Refused
status_of_fault (asm.Size _) = exit.Refused
status_of_fault asm.Memory = exit.Failed

-- A call that writes the image of a text ends with this status: the file has the image, or the text's fault was
-- reported, unless a file or memory failed. A refused text writes no file: what the file had before it has after, also
-- where memory failed.
abbrev pub WritesAs : Result (List ℕ) AsmFault → Status → (before after : Option (List ℕ)) → Type 0
WritesAs (Ok image) status before after =
    (status ≡ exit.Failed) ⊎ ((status ≡ exit.Done) × IfSome after (λ bytes. bytes ≡ image))
WritesAs (Err reported) status before after =
    ((status ≡ exit.Failed) ⊎ (status ≡ status_of_fault reported)) × (after ≡ before)
