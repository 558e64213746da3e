use Rattle.std.proofs.Common.{◌≡◌, ℕ, ap, sym, ◌∙◌}
use Rattle.std.specs.List.{list_any}
use Rattle.machine_spec.specs.declared.{helper.Argument.Argument, helper.Signature.Signature}
use Rattle.machine_spec.specs.{Traps.argument_registers, Values.is_nothing, Machine.signature_of}
use Rattle.bpf_machine.specs.Views.{registers_of}
use Rattle.bpf_machine.proofs.ReadParts.{reads_each}
use Rattle.bpf_machine.proofs.traps.is_call_nothing.Goals as goal

pub returns-in-Some : goal.returns-in-Some
returns-in-Some c =
    let registers = registers_of c.args.registers.now in
    rw c.in-Some.is (c.is_one_nothing.ensures ∙ ap (λ (s : Signature).
    list_any (λ (a : Argument). list_any (λ (r : ℕ). is_nothing (registers r)) (argument_registers a)) s.arguments)
    c.signature.ensures ∙ sym (reads_each registers (signature_of c.in-Some.helper).arguments))
