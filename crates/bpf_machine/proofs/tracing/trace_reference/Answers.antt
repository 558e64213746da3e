use Rattle.std.proofs.Common.{◌<◌, ◌^◌, ap, ◌∙◌, arith}
use Rattle.machine_spec.specs.Image.{program_of, slot_count}
use Rattle.machine_spec.specs.{Values.Value, Machine.Input, Machine.State, Meaning.outcome_of}
use Rattle.helpers.specs.Emitted.{emissions_in}
use Rattle.bpf_machine.specs.States.{state_in}
use Rattle.bpf_machine.proofs.Bounds.{near_of, step_further}
use Rattle.bpf_machine.proofs.Going.{ends_trapped, ends_out, small_slot, small_count}
use Rattle.bpf_machine.proofs.tracing.trace_reference.Goals as goal

pub advance-requires-clause-slot : goal.advance-requires-clause-slot
advance-requires-clause-slot c =
    let small : slot_count c.args.image.now < 2 ^ 61 = omega arith in
    let input : Input = record { given = c.args.given.now; place = c.args.place.now } in
    small_slot (program_of c.args.image.now c.args.table) input (state_in c.args.given.now c.steps.machine)
    c.steps.count c.steps.invariant small

pub advance-requires-clause-near : goal.advance-requires-clause-near
advance-requires-clause-near c =
    let small : slot_count c.args.image.now < 2 ^ 61 = omega arith in
    let input : Input = record { given = c.args.given.now; place = c.args.place.now } in
    near_of (program_of c.args.image.now c.args.table) input c.steps.count (state_in c.args.given.now c.steps.machine)
    c.steps.invariant small

pub overflow_add-count : goal.overflow_add-count
overflow_add-count c =
    let small : slot_count c.args.image.now < 2 ^ 61 = omega arith in
    let input : Input = record { given = c.args.given.now; place = c.args.place.now } in
    let few = small_count (program_of c.args.image.now c.args.table) input (state_in c.args.given.now c.steps.machine)
    c.steps.count c.steps.invariant small in
    omega (arith, few)

pub steps-smaller : goal.steps-smaller
steps-smaller c = omega (arith, step_further _ _ _ _ (rw c.in-Stepped.is at c.in_ok-advance.ensures))

pub returns-in-Trapped : goal.returns-in-Trapped
returns-in-Trapped c =
    ends_trapped _ _ _ _ _ c.steps.invariant (rw c.in-Trapped.is at c.in_ok-advance.ensures)

pub overflow_add-result : goal.overflow_add-result
overflow_add-result c =
    let small : slot_count c.args.image.now < 2 ^ 61 = omega arith in
    let input : Input = record { given = c.args.given.now; place = c.args.place.now } in
    let few = small_count (program_of c.args.image.now c.args.table) input (state_in c.args.given.now c.steps.machine)
    c.steps.count c.steps.invariant small in
    omega (arith, few)

pub returns-in-Ended : goal.returns-in-Ended
returns-in-Ended c =
    let exit = rw c.in-Ended.is at c.in_ok-advance.ensures in
    ends_out _ _ _ _ _ c.steps.invariant exit.0
    (c.in_ok-outcome-in-Ended.ensures ∙ ap (λ (v : Value). outcome_of v
    (emissions_in c.args.given.now c.advance.new.self.emitter.list)) c.get-answer.ensures
    ∙ ap (λ (u : State). outcome_of (u.registers 0) u.emitted.emissions) exit.1)
