-- What is known of a step and of an end, once the instruction is fetched.
use Rattle.std.proofs.Common.{◌≡◌, ℕ, ◌+◌, ◌<◌, ◌^◌, false, Some, refl, arith}
use Rattle.machine_spec.specs.{declared.instruction.Instruction.Instruction, declared.instruction.Trap.Trap}
use Rattle.machine_spec.specs.{declared.outcome.Outcome.Outcome, Image.Program, Image.slot_count, Summaries.summary_of}
use Rattle.machine_spec.specs.{Traps.calls_wrongly, Traps.trap_at}
use Rattle.machine_spec.specs.Machine.{Input, State, access_of}
use Rattle.machine_spec.specs.Meaning.{Reaches, outcome_of}
use Rattle.machine_spec.proofs.{Free.is_free}
use Rattle.bpf_machine.specs.declared.tracing.End.TheVariants as end
use Rattle.bpf_machine.specs.{Straight.IsWritable, Advances.IsNext, Advances.IsExit, Ends.EndsOnlyIn}
use Rattle.bpf_machine.proofs.{Bounds.bounded, Only.ends_only}

module _ (program : Program) (input : Input) (s : State) where
  pub writable : (i : Instruction) → IsNext program input s i → IsWritable (access_of (summary_of i).memory s.registers)
  writable i next = let free = is_free program input s i next.no_trap next.form in
      record { record_stays = free.record_write; in_stack = free.stack_bounds }

  pub rightly : (i : Instruction) → IsNext program input s i → calls_wrongly input (summary_of i).call s ≡ false
  rightly i next = (is_free program input s i next.no_trap next.form).argument

  pub ends_trapped : (n : ℕ) (reported : Trap) → Reaches program input n s → trap_at program input s ≡ Some reported →
      EndsOnlyIn program input (end.Trap reported) n
  ends_trapped n reported chain trap =
      ends_only program input (end.Trap reported) n (record { last = s; chain = chain; trap = trap })

  pub ends_out : (n : ℕ) (outcome : Outcome) → Reaches program input n s → IsExit program input s →
      outcome ≡ outcome_of (s.registers 0) s.emitted.emissions → EndsOnlyIn program input (end.Out outcome) (n + 1)
  ends_out n outcome chain at is =
      ends_only program input (end.Out outcome) (n + 1) (record {
        steps = n;
        last = s;
        count = refl;
        chain = chain;
        end =
            record { form = at.form; no_trap = at.no_trap; outcome_is = is };
      })

  -- the count and the slot are small
  pub small_slot : (n : ℕ) → Reaches program input n s → slot_count program.image < 2 ^ 61 → s.slot < 2 ^ 62
  small_slot n chain small = let b = bounded program input n s chain in omega (arith, b.within)

  pub small_count : (n : ℕ) → Reaches program input n s → slot_count program.image < 2 ^ 61 → n < 2 ^ 62
  small_count n chain small = let b = bounded program input n s chain in omega (arith, b.within, b.counted)
