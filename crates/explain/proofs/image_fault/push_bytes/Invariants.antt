use Rattle.std.proofs.Common.{◌≡◌, ◌++◌, string_bytes, slice_index}
use Rattle.explain.specs.{ImageFaults.byte_text, Texts.texts_below}
use Rattle.explain.proofs.image_fault.push_bytes.Given as goal

abbrev pub invariant-loop-i : goal.invariant-loop-i
invariant-loop-i l = string_bytes l.text ≡ string_bytes l.initial.text
    ++ texts_below l.i (λ i. byte_text (slice_index l.bytes i))
