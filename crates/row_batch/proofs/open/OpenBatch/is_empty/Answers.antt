use Rattle.std.proofs.Common.{ℕ, length, sym, ap, ◌∙◌, ◌==◌}
use Rattle.row_batch.proofs.OpenLaws.{count_in}
use Rattle.row_batch.proofs.open.OpenBatch.is_empty.Goals as goal

pub returns : goal.returns
returns c =
    let inside = c.self.inside in
    ap (λ (n : ℕ). n == 0) (sym (count_in inside.base inside.count inside.latest inside.bytes.items c.self.invariant)
    ∙ ap length c.self.view_is)
