use Rattle.std.proofs.Common.{rules, ◌≡◌, ◌∷◌, [], ap, ◌∙◌, true, false, length, slice_set, replicate, ℕ}
use Rattle.explain.proofs.Marks.{first_found}
use Rattle.explain.proofs.loops.marks_to.Goals as goal

pub mark_all-requires : goal.mark_all-requires
mark_all-requires c =
    let none : c.in_ok-marks.marks.items ≡ replicate (length c.args.graph.now) false =
    c.in_ok-marks.ensures.items_if_clones_equal (λ y e. e)
    ∙ ap (λ (n : ℕ). replicate n false) (c.len.ensures.is_length ∙ ap length c.code.ensures) in
    let set : c.deref_mut.result.now ≡ slice_set c.in_ok-marks.marks.items c.args.to true = search rules in
    let list : c.push.new.self.items ≡ c.args.to ∷ [] = search rules in
    rw (set, none, list) (first_found c.args.graph.now c.args.to c.requires)
