use Rattle.std.proofs.Common.{List, sym, subst, ◌∙◌}
use Rattle.machine_spec.specs.declared.outcome.Place.{Place}
use Rattle.exec.specs.{Abreast.AreGiven, Endings.outcomes_of}
use Rattle.log_item.specs.Programs.{RunsSafelyOnEach}
use Rattle.item_rows.proofs.BlockLaws.{places_given}
use Rattle.item_rows.proofs.batch_run.BatchRun.run_block.Goals as goal

pub run_block-requires-clause-given : goal.run_block-requires-clause-given
run_block-requires-clause-given c =
    let run = c.args.self.now in
    subst (λ (ps : List Place). AreGiven c.args.records.now ps)
    (sym (c.as_slice.ensures.value ∙ c.in_ok-places.ensures))
    (places_given run.origin.now run.batch.now c.requires.origin c.args.offset c.args.records.now c.requires.fits
    c.requires.few)

pub returns-clause-outcomes : goal.returns-clause-outcomes
returns-clause-outcomes c =
    subst (λ (ps : List Place). RunsSafelyOnEach c.args.program.now c.args.records.now ps
    (outcomes_of c.args.records.now c.run_block.new.block)) c.as_slice.ensures.value c.in_ok-run_block.ensures.safe
