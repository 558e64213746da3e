-- Spelling code instruction after instruction, as a loop does.
use Rattle.std.proofs.Common.{◌≡◌, ℕ, zero, suc, ◌+◌, ◌≤◌, List, [], ◌∷◌, ◌++◌, length, take, Some, sym, ap, subst, ◌∙◌}
use Rattle.std.proofs.Common.{add-one, append_assoc, slice_get, option_map}
use Rattle.std.proofs.{lemmas.List.append-nil, lemmas.List.take_all, lemmas.List.Concat.flat_map-cons}
use Rattle.std.proofs.lemmas.Option.{same_Some}
use Rattle.machine_spec.specs.{declared.instruction.Instruction.Instruction, declared.instruction.Placed.Placed}
use Rattle.machine_spec.specs.Image.{IsCodeOf}
use Rattle.bpf_isa.specs.{Code.AreBytes, Code.HasImage, Spelling.spelling, Spelling.image_bytes}
use Rattle.bpf_isa.proofs.Walk.{code_spelled}

abbrev spelled_one : Placed → List ℕ
spelled_one placed = spelling placed.instruction

one_more : (code : List Placed) (k : ℕ) (i : Instruction) →
    option_map (λ p. p.instruction) (slice_get code k) ≡ Some i →
    image_bytes (take k code) ++ spelling i ≡ image_bytes (take (suc k) code)
one_more [] k i e = absurd cc
one_more (p ∷ code) zero i e =
    let same : p.instruction ≡ i = same_Some p.instruction i e in
    rw flat_map-cons (rw (← same) (sym (append-nil (spelling p.instruction))))
one_more (p ∷ code) (suc k) i e =
    simp (flat_map-cons, append_assoc, one_more code k i e)

pub spelled_more : (code : List Placed) (k : ℕ) (i : Instruction) →
    option_map (λ p. p.instruction) (slice_get code k) ≡ Some i →
    image_bytes (take k code) ++ spelling i ≡ image_bytes (take (k + 1) code)
spelled_more code k i e = rw add-one (one_more code k i e)

pub spelled_all : (code : List Placed) (k : ℕ) (bytes : List ℕ) → length code ≤ k → bytes ≡ image_bytes (take k code) →
    bytes ≡ image_bytes code
spelled_all code k bytes past e = e ∙ ap (λ (c : List Placed). image_bytes c) (take_all k code past)

-- the spelling of code that has an image is that image
pub spelled_is : (code : List Placed) (bytes image : List ℕ) → bytes ≡ image_bytes code → AreBytes image →
    IsCodeOf image code → bytes ≡ image
spelled_is code bytes image e fits is = e ∙ sym (code_spelled image code fits is)

pub spelled_code : (code : List Placed) (bytes : List ℕ) → bytes ≡ image_bytes code → HasImage code →
    IsCodeOf bytes code
spelled_code code bytes e has =
    subst (λ (b : List ℕ). IsCodeOf b code) (sym (spelled_is code bytes has.image e has.bytes has.is_code)) has.is_code
