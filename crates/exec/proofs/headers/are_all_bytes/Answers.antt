use Rattle.std.proofs.Common.{get_or, below_more, subst, ◌∙◌, arith}
use Rattle.std.proofs.lemmas.List.{get_or_default}
use Rattle.exec.specs.Runs.{HasRecordBytes}
use Rattle.exec.proofs.headers.are_all_bytes.Goals as goal

pub loop-i-init : goal.loop-i-init
loop-i-init c = record { each = λ i g lt. absurd (omega arith) }

pub loop-i-preserved : goal.loop-i-preserved
loop-i-preserved c = record {
  each = λ k d. below_more (λ i. HasRecordBytes (get_or c.args.given.now i d)) c.loop-i.i
      (λ i lt. c.loop-i.invariant.each i d lt) (subst HasRecordBytes
      (c.index-given-i.is ∙ get_or_default c.args.given.now c.loop-i.i c.index-given-i.result d c.loop-i-test.true)
      c.are_record_bytes.ensures) k;
}
