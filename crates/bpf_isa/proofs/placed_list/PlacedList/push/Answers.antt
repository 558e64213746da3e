use Rattle.std.proofs.Common.{rules, ◌≡◌, List, [], ◌∷◌, ◌++◌, ap, ◌∙◌}
use Rattle.machine_spec.specs.declared.instruction.Placed.{Placed}
use Rattle.bpf_isa.proofs.SideBySide.{placed_push}
use Rattle.bpf_isa.proofs.placed_list.PlacedList.push.Goals as goal

pub returns : goal.returns
returns c =
    let slots : c.push.new.self.items ≡ c.self.inside.slots.items ++ c.args.placed.slot ∷ [] = search rules in
    let instructions : c.push-2.new.self.items ≡ c.self.inside.instructions.items ++ c.args.placed.instruction ∷ [] =
    search rules in
    rw (slots, instructions) (placed_push c.self.inside.slots.items c.self.inside.instructions.items
    c.args.placed.slot c.args.placed.instruction c.self.invariant
    ∙ ap (λ (l : List Placed). l ++ c.args.placed ∷ []) c.self.view_is)
