use Rattle.std.proofs.Common.{◌≡◌, ℕ, List, ◌++◌, length, drop, ap, ◌∙◌, arith}
use Rattle.std.proofs.lemmas.List.{take_at, length-append, length-drop}
use Rattle.row_batch.proofs.front.with_front.Goals as goal

pub returns : goal.returns
returns c =
    let out = c.args.out.items in
    let front = c.args.front.now in
    let now : c.deref_mut.result.now ≡ out = c.deref_mut.ensures.value in
    let put : c.put_front.new.out ≡ front ++ drop (length front) out =
    c.put_front.ensures ∙ ap (λ (s : List ℕ). front ++ drop (length front) s) now in
    let len : length c.put_front.new.out ≡ c.args.out.len =
    omega (
      arith,
      ap length put,
      length-append front (drop (length front) out),
      length-drop (length front) out,
      c.requires,
      ap length now,
      c.deref_mut.ensures.len,
    ) in
    take_at c.put_front.new.out (drop (length c.put_front.new.out) out) c.args.out.len len ∙ put
