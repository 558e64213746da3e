-- Slots and instructions side by side.
use Rattle.std.proofs.Common.{◌≡◌, ℕ, zero, suc, List, [], ◌∷◌, ◌++◌, length, Some, refl, ap, slice_get}
use Rattle.machine_spec.specs.declared.{instruction.Instruction.Instruction, instruction.Placed.Placed}
use Rattle.bpf_isa.specs.Code.{placed_of}

pub placed_length : (slots : List ℕ) (instructions : List Instruction) → length slots ≡ length instructions →
    length (placed_of slots instructions) ≡ length instructions
placed_length [] [] e = refl
placed_length (s ∷ slots) (i ∷ instructions) e = ap suc (placed_length slots instructions cc)
placed_length _ _ e = absurd cc

pub placed_push : (slots : List ℕ) (instructions : List Instruction) (slot : ℕ) (instruction : Instruction) →
    length slots ≡ length instructions
    → placed_of (slots ++ slot ∷ []) (instructions ++ instruction ∷ []) ≡ placed_of slots instructions
    ++ record { slot = slot; instruction = instruction } ∷ []
placed_push [] [] slot instruction e = refl
placed_push (s ∷ slots) (i ∷ instructions) slot instruction e =
    ap (λ (l : List Placed). record { slot = s; instruction = i } ∷ l)
    (placed_push slots instructions slot instruction cc)
placed_push _ _ slot instruction e = absurd cc

pub placed_get : (slots : List ℕ) (instructions : List Instruction) (k slot : ℕ) (instruction : Instruction) →
    slice_get slots k ≡ Some slot → slice_get instructions k ≡ Some instruction
    → slice_get (placed_of slots instructions) k ≡ Some (record { slot = slot; instruction = instruction })
placed_get (s ∷ slots) (i ∷ instructions) zero slot instruction a b = cc
placed_get (s ∷ slots) (i ∷ instructions) (suc k) slot instruction a b =
    placed_get slots instructions k slot instruction a b
placed_get _ _ k slot instruction a b = absurd cc
