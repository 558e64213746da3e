use Rattle.std.proofs.Common.{◌≡◌, ℕ, List, ◌++◌, length, take, drop, sym, ap, ◌∙◌}
use Rattle.std.specs.Int.{w32, to_be_bytes}
use Rattle.std.proofs.lemmas.List.{take_at}
use Rattle.wire_spec.specs.Checksum.{checksum}
use Rattle.batch.proofs.Written.{sealed_length}
use Rattle.batch.proofs.writing.finish.Goals as goal

pub returns : goal.returns
returns c =
    let out = c.args.out.items in
    let now : c.deref_mut.result.now ≡ out = c.deref_mut.ensures.value in
    let sealed : c.seal.new.out ≡ take 17 out ++ (to_be_bytes w32 (checksum (drop 21 out)) ++ drop 21 out) =
    c.seal.ensures ∙ ap (λ (s : List ℕ). take 17 s ++ (to_be_bytes w32 (checksum (drop 21 s)) ++ drop 21 s)) now in
    let len : length c.seal.new.out ≡ c.args.out.len =
    sealed_length out c.seal.new.out (checksum (drop 21 out)) c.requires sealed ∙ ap length (sym now)
    ∙ c.deref_mut.ensures.len in
    take_at c.seal.new.out (drop (length c.seal.new.out) out) c.args.out.len len ∙ sealed
