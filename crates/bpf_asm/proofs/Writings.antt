-- The text of code, instruction after instruction.
use Rattle.std.proofs.Common.{◌≡◌, ℕ, zero, suc, ◌+◌, List, [], ◌∷◌, ◌++◌, take, Some, add-one, append_assoc, slice_get}
use Rattle.std.proofs.Common.{option_map}
use Rattle.std.proofs.{lemmas.List.append-nil, lemmas.Option.same_Some}
use Rattle.machine_spec.specs.declared.{instruction.Instruction.Instruction, instruction.Placed.Placed}
use Rattle.bpf_asm.specs.Writing.{line_text, text_of}

one_more : (code : List Placed) (k : ℕ) (i : Instruction) →
    option_map (λ p. p.instruction) (slice_get code k) ≡ Some i →
    text_of (take k code) ++ line_text i ≡ text_of (take (suc k) code)
one_more [] k i e = absurd cc
one_more (p ∷ code) zero i e = rw (← same_Some p.instruction i e, append-nil)
one_more (p ∷ code) (suc k) i e = rw (append_assoc (line_text p.instruction), one_more code k i e)

pub text_more : (code : List Placed) (k : ℕ) (i : Instruction) →
    option_map (λ p. p.instruction) (slice_get code k) ≡ Some i →
    text_of (take k code) ++ line_text i ≡ text_of (take (k + 1) code)
text_more code k i e = rw add-one (one_more code k i e)
