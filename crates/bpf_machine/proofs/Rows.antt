-- What a state without a trap is known of.
use Rattle.std.proofs.Common.{◌≡◌, ◌<◌, Bool, true, false, if◌then◌else◌, ◌≤◌, nat_lt, Option, Some, None, refl, sym}
use Rattle.std.proofs.Common.{ap, ◌∙◌}
use Rattle.std.proofs.lemmas.Bool.{cond-true, cond-false, ltb-true, lt-ltb, le-ltb}
use Rattle.std.proofs.lemmas.Option.{none-some}
use Rattle.machine_spec.specs.{declared.instruction.Instruction.Instruction, declared.instruction.Trap.Trap}
use Rattle.machine_spec.specs.{declared.summary.Summary.Summary, Summaries.summary_of, Machine.Input, Machine.State}
use Rattle.machine_spec.specs.declared.instruction.Trap.TheVariants as trap
use Rattle.machine_spec.specs.Image.{Program, slot_count, form_at}
use Rattle.machine_spec.specs.Traps.{first_of, traps, trap_of, trap_at}

-- its slot lies in the image
pub slot_within : (program : Program) (input : Input) (s : State) → trap_at program input s ≡ None →
    s.slot < slot_count program.image
unfolding trap_at
slot_within program input s e = from (nat_lt s.slot (slot_count program.image)) refl e
  where
    from : (b : Bool) → nat_lt s.slot (slot_count program.image) ≡ b →
        (if b then trap_of program input (form_at program.image s.slot) s else Some trap.RanOff) ≡ None →
        s.slot < slot_count program.image
    from true is e = ltb-true s.slot (slot_count program.image) is
    from false is e = absurd (none-some trap.RanOff (sym e))

-- ---- the trap of a state, from its slot on

pub past_end : (program : Program) (input : Input) (s : State) → slot_count program.image ≤ s.slot →
    trap_at program input s ≡ Some trap.RanOff
unfolding trap_at
past_end program input s past = cond-false _ _ _ (le-ltb s.slot (slot_count program.image) past)

trap_inside : (program : Program) (input : Input) (s : State) → s.slot < slot_count program.image →
    trap_at program input s ≡ trap_of program input (form_at program.image s.slot) s
unfolding trap_at
trap_inside program input s within = cond-true _ _ _ (lt-ltb s.slot (slot_count program.image) within)

pub no_form : (program : Program) (input : Input) (s : State) → s.slot < slot_count program.image →
    form_at program.image s.slot ≡ None → trap_at program input s ≡ Some trap.Form
no_form program input s within e = trap_inside program input s within ∙ ap (λ o. trap_of program input o s) e

pub trap_is : (program : Program) (input : Input) (s : State) (i : Instruction) (m : Summary) (reported : Option Trap) →
    s.slot < slot_count program.image → form_at program.image s.slot ≡ Some i → m ≡ summary_of i →
    reported ≡ first_of (traps program input m s) → trap_at program input s ≡ reported
trap_is program input s i m reported within form summary is =
    trap_inside program input s within ∙ ap (λ o. trap_of program input o s) form
    ∙ sym (is ∙ ap (λ n. first_of (traps program input n s)) summary)
