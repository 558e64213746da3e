use Rattle.klog_c.proofs.GivenLaws.{explained}
use Rattle.klog_c.proofs.explaining.explain_into.Goals as goal

pub returns-in-Ok : goal.returns-in-Ok
returns-in-Ok c =
    explained c.args.bytes.now c.args.number c.in-Some.named c.in-Some.ensures c.args.text.now.place.object
    c.put_explanation.new.text.place.object c.put_explanation.result c.args.is_refused_alone c.in-Ok.given
    c.in-Ok.ensures (rw c.extent_of.ensures at c.put_explanation.ensures)
