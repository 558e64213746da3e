use Rattle.std.proofs.Common.{◌≡◌, ◌++◌, string_bytes}
use Rattle.verifier_spec.specs.Kinds.{kind_at}
use Rattle.explain.specs.Texts.{register_text, texts_below}
use Rattle.explain.proofs.listing.push_registers.Given as goal

abbrev pub invariant-loop-register : goal.invariant-loop-register
invariant-loop-register l = string_bytes l.text ≡ string_bytes l.initial.text
    ++ texts_below l.register (λ r. register_text r (kind_at l.state r))
