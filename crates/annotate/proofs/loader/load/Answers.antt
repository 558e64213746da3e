use Rattle.std.proofs.Common.{refl, sym, subst, ◌∙◌}
use Rattle.machine_spec.specs.Image.{helpers_of, program_of}
use Rattle.verifier_spec.specs.{Run.Annotated, JoinedStates.joined_states}
use Rattle.annotate.specs.Loads.{Accepts}
use Rattle.verifier_spec.proofs.Faults.{fault_of-kind}
use Rattle.annotate.proofs.Answered.{isa_refused}
use Rattle.annotate.proofs.Best.{joined_best, joined_annotation, claimed_refused, no_claims_fault}
use Rattle.annotate.proofs.loader.load.Goals as goal

pub returns-in-Err-clause-answer : goal.returns-in-Err-clause-answer
returns-in-Err-clause-answer c =
    isa_refused (program_of c.args.image.now c.args.table) c.in-Err.fault c.in-Err.ensures.exact

pub returns-in-Some-clause-answer : goal.returns-in-Some-clause-answer
returns-in-Some-clause-answer c = λ ne.
    let joined = c.in-Ok-join_all.ensures in
    claimed_refused (program_of c.args.image.now c.args.table) c.in-Ok.code c.in-Ok.ensures.is_code
    (joined_states (helpers_of c.args.table) c.in-Ok.code) c.in-Some.fault c.in-Ok.ensures.exact refl joined.proper
    (sym joined.fault ∙ c.in-Some.is)

pub returns-in-Some-clause-other : goal.returns-in-Some-clause-other
returns-in-Some-clause-other c = λ is.
    no_claims_fault (program_of c.args.image.now c.args.table) c.in-Ok.code c.in-Ok.ensures.is_code
    (joined_states (helpers_of c.args.table) c.in-Ok.code) c.in-Some.fault refl
    (sym c.in-Ok-join_all.ensures.fault ∙ c.in-Some.is) is

pub returns-in-Some-clause-memory : goal.returns-in-Some-clause-memory
returns-in-Some-clause-memory c = λ is.
    let helpers = helpers_of c.args.table in
    absurd (fault_of-kind helpers c.in-Ok.code (joined_states helpers c.in-Ok.code) c.in-Some.fault
    (sym c.in-Ok-join_all.ensures.fault ∙ c.in-Some.is) is)

pub keep_joined-requires-clause-annotation : goal.keep_joined-requires-clause-annotation
keep_joined-requires-clause-annotation c =
    let joined = c.in-Ok-join_all.ensures in
    joined_annotation (helpers_of c.args.table) c.in-Ok.code c.deref.result.now (c.deref.ensures.value ∙ joined.states)
    joined.proper (sym joined.fault ∙ c.in_default-fault.is)

pub returns-in-Ok-keep_joined-clause-answer : goal.returns-in-Ok-keep_joined-clause-answer
returns-in-Ok-keep_joined-clause-answer c =
    let helpers = helpers_of c.args.table in
    let code = c.in-Ok.code in
    let joined = c.in-Ok-join_all.ensures in
    subst (λ (v : Annotated). Accepts (program_of c.args.image.now c.args.table) v) (sym c.in-Ok-keep_joined.ensures)
    (record {
      table = refl;
      read = c.in-Ok.ensures.exact;
      code = c.in-Ok.ensures.is_code;
      claims = refl;
      annotation = joined_annotation helpers code (joined_states helpers code) refl joined.proper
          (sym joined.fault ∙ c.in_default-fault.is);
      best = joined_best helpers code (joined_states helpers code) refl joined.proper;
    })
