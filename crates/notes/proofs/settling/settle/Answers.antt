use Rattle.std.proofs.Common.{◌∙◌, length}
use Rattle.machine_spec.specs.Image.{helpers_of}
use Rattle.verifier_spec.specs.Annotation.{claim_at}
use Rattle.notes.specs.Derived.{at_targets}
use Rattle.notes.proofs.{Derived.derived_same, Derived.proper_same, Steps.marked_given}
use Rattle.notes.proofs.settling.settle.Goals as goal

pub returns-clause-states : goal.returns-clause-states
returns-clause-states c =
    let code = c.args.code.now in
    let old = c.args.states.now in
    let kept = c.keep_marked.new.states in
    c.derive.ensures.states
    ∙ derived_same (helpers_of c.args.table) code (at_targets code old) (claim_at kept)
    (marked_given code c.args.targets.now old kept c.requires.targets c.requires.long
    c.keep_marked.ensures.length c.keep_marked.ensures.each)

pub returns-clause-proper : goal.returns-clause-proper
returns-clause-proper c =
    let code = c.args.code.now in
    let old = c.args.states.now in
    let kept = c.keep_marked.new.states in
    proper_same (helpers_of c.args.table) code (at_targets code old) (claim_at kept) (length code)
    (marked_given code c.args.targets.now old kept c.requires.targets c.requires.long c.keep_marked.ensures.length
    c.keep_marked.ensures.each) c.derive.ensures.proper
