use Rattle.std.proofs.Common.{rules, ◌≡◌, length, sym, ap, ◌∙◌}
use Rattle.bpf_isa.proofs.SideBySide.{placed_length}
use Rattle.bpf_isa.proofs.placed_list.PlacedList.len.Goals as goal

pub returns : goal.returns
returns c =
    let count : c.len.result ≡ length c.self.inside.instructions.items = search rules in
    count ∙ sym (placed_length c.self.inside.slots.items c.self.inside.instructions.items c.self.invariant)
    ∙ ap length c.self.view_is
