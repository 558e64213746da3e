use Rattle.std.proofs.Common.{◌<◌, List, length, refl, ap, sym, ◌∙◌, arith, slice_get}
use Rattle.std.proofs.lemmas.Option.{slice_get_read}
use Rattle.machine_spec.specs.declared.instruction.Placed.{Placed}
use Rattle.bpf_isa.proofs.SideBySide.{placed_length, placed_get}
use Rattle.bpf_isa.proofs.placed_list.PlacedList.get.Goals as goal

pub index-requires : goal.index-requires
index-requires c = omega (arith, placed_length _ _ c.self.invariant, ap length c.self.view_is)

pub index-requires-2 : goal.index-requires-2
index-requires-2 c = omega (arith, placed_length _ _ c.self.invariant, ap length c.self.view_is)

pub returns : goal.returns
returns c =
    let slots = c.self.inside.slots.items in
    let instructions = c.self.inside.instructions.items in
    let long = placed_length slots instructions c.self.invariant in
    let within : c.args.k < length instructions = omega (arith, ap length c.self.view_is) in
    let slot = slice_get_read slots _ c.args.k c.index.result.now refl (omega arith) c.index.ensures in
    let instruction = slice_get_read instructions _ c.args.k c.index-2.result.now refl within c.index-2.ensures in
    ap (λ (l : List Placed). slice_get l c.args.k) (sym c.self.view_is)
    ∙ placed_get slots instructions c.args.k _ _ slot instruction
