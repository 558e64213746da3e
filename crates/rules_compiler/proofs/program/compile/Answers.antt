use Rattle.std.proofs.Common.{◌≤◌, sym, ap, ◌∙◌, subst, length, List}
use Rattle.std.specs.List.{flat_map}
use Rattle.bpf_isa.specs.Spelling.{spelling}
use Rattle.machine_spec.specs.declared.instruction.Instruction.{Instruction}
use Rattle.machine_spec.specs.declared.limits.TheConstants.{MAX_SLOTS}
use Rattle.rules.specs.Lines.{lines_of}
use Rattle.rules_compiler.specs.{Programs.IsProgramOf}
use Rattle.rules_compiler.proofs.Whole.{is_program, registers}
use Rattle.rules_compiler.proofs.program.compile.Goals as goal

pub image_of-requires : goal.image_of-requires
image_of-requires c k d low =
    let lines = lines_of c.args.rules.now in
    let same = c.deref.ensures.value ∙ c.in_ok-code.ensures.code in
    let few = subst (λ (l : List Instruction). length l ≤ MAX_SLOTS) c.in_ok-code.ensures.code c.in_ok-code.ensures.few in
    registers lines c.rules_have_texts.ensures few c.deref.result.now same k d low

pub returns-clause-program : goal.returns-clause-program
returns-clause-program c =
    let lines = lines_of c.args.rules.now in
    let same = c.deref.ensures.value ∙ c.in_ok-code.ensures.code in
    let image = c.in_ok-image.ensures.image ∙ ap (λ (l : List Instruction). flat_map spelling l) same in
    let few = subst (λ (l : List Instruction). length l ≤ MAX_SLOTS) c.in_ok-code.ensures.code c.in_ok-code.ensures.few in
    subst (IsProgramOf lines) (sym image) (is_program lines c.rules_have_texts.ensures few)
