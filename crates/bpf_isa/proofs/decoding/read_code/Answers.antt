use Rattle.std.proofs.Common.{◌≡◌, ◌+◌, [], ◌∷◌, ◌++◌, length-append, refl, sym, ap, ◌∙◌, length, arith, rules}
use Rattle.std.proofs.lemmas.Result.{err_from_is_err_and}
use Rattle.machine_spec.specs.{Image.slots_of, declared.instruction.Placed.Placed}
use Rattle.bpf_isa.proofs.Bytes.{some_slots}
use Rattle.bpf_isa.proofs.Reading.{starts, table_none, goes_on, ends, is_done, kept}
use Rattle.bpf_isa.proofs.decoding.read_code.Goals as goal

pub loop-slot-init : goal.loop-slot-init
loop-slot-init c =
    let none : c.in_ok-placed.placed ≡ [] = search rules in
    let numbers : c.in_ok-numbers.numbers ≡ [] = search rules in
    rw (none, numbers)
    (record { slots = refl; few = omega arith; table = table_none; so_far = starts c.args.image.now })

pub returns-in_err-instruction : goal.returns-in_err-instruction
returns-in_err-instruction c =
    let p = err_from_is_err_and c.from_residual-in_err-instruction.result
    c.from_residual-in_err-instruction.ensures.1 in
    let total = ends c.args.image.now c.loop-slot.placed c.loop-slot.slot c.in_err-instruction.field-0.0 _
    c.loop-slot.invariant.few c.loop-slot-test.true (sym c.in_err-instruction.ensures) c.loop-slot.invariant.so_far in
    rw (p.1, p.2) (λ _. total)

pub loop-slot-preserved : goal.loop-slot-preserved
loop-slot-preserved c =
    let front = c.loop-slot.placed in
    let p : Placed = record { slot = c.loop-slot.slot; instruction = c.in_ok-instruction.instruction } in
    let pushed : c.push.new.placed ≡ front
    ++ record { slot = length c.loop-slot.numbers; instruction = c.in_ok-instruction.instruction } ∷ [] =
    search rules in
    let slots : length c.push.new.numbers ≡ length c.loop-slot.numbers + slots_of c.in_ok-instruction.instruction =
    search rules in
    let code : c.push.new.placed ≡ front ++ p ∷ [] = rw c.loop-slot.invariant.slots at pushed in
    let longer : length c.push.new.placed ≡ length front + 1 = ap length code ∙ length-append front (p ∷ []) in
    let so_far = goes_on c.args.image.now front c.loop-slot.slot c.in_ok-instruction.instruction _
    c.loop-slot.invariant.few c.loop-slot-test.true (sym c.in_ok-instruction.ensures) c.loop-slot.invariant.so_far in
    let some = some_slots c.in_ok-instruction.instruction in
    record {
      slots = omega arith;
      few = omega arith;
      table = search rules;
      so_far = rw (longer, code, c.slots_of-slot.ensures.is) so_far;
    }

pub invariant_of-result : goal.invariant_of-result
invariant_of-result c =
    kept c.args.image.now c.loop-slot.placed c.loop-slot.numbers (λ i. omega (arith, c.type_inv.image i)) c.requires
    (is_done c.args.image.now c.loop-slot.placed c.loop-slot.slot _ _ c.loop-slot-test.false
    c.loop-slot.invariant.so_far)
    c.loop-slot.invariant.table
