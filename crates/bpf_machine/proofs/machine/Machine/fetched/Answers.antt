use Rattle.std.proofs.Common.{◌≡◌, None, sym, ◌∙◌, arith, rules}
use Rattle.bpf_machine.proofs.Rows.{past_end, no_form, trap_is}
use Rattle.bpf_machine.proofs.machine.Machine.fetched.Goals as goal

pub returns-then-self-slot_count : goal.returns-then-self-slot_count
returns-then-self-slot_count c = past_end _ _ _ (omega arith)

pub returns-in_default : goal.returns-in_default
returns-in_default c =
    let none : c.form_at.result ≡ None = search rules in
    no_form _ _ _ (omega arith) (sym c.form_at.ensures.is_form ∙ none)

pub returns-in-Some-trap_of : goal.returns-in-Some-trap_of
returns-in-Some-trap_of c =
    trap_is _ _ _ _ _ _ (omega arith) (sym c.in-Some.ensures.is_form) c.of.ensures c.in-Some-trap_of.ensures

pub returns-in-None : goal.returns-in-None
returns-in-None c = record {
  form = sym c.in-Some.ensures.is_form;
  no_trap = trap_is _ _ _ _ _ _ (omega arith) (sym c.in-Some.ensures.is_form) c.of.ensures c.in-None.ensures;
  registers = c.in-Some.ensures.has_registers;
}
