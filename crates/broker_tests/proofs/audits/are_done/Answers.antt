use denote.Param.{param}
use denote.RattleType.{RattleType}
use denote.Param.Send.{IsSend, sendable}
use Rattle.std.proofs.Common.{rules}
use Rattle.std.proofs.Crossing.{crosses}
use Rattle.cell_facts.proofs.CellFacts.TheSendSync.{the_send as facts}
use Rattle.part_log.specs.contracts.receipt.Receipt as Receipt
use Rattle.part_log.specs.contracts.log_trail.Trail as Trail
use Rattle.part_log.specs.contracts.note.Note as Note
use Rattle.part_log.specs.declared.names.Names as names
use Rattle.broker_tests.specs.contracts.audits.Job as Job
use Rattle.broker_tests.proofs.audits.are_done.Goals as goal

-- receipts may go to another thread, since the facts that they have may
job_send : (Id : RattleType) (members : names.Ghosts Id.Denot) → IsSend Id → IsSend (Job.the_row Id members)
job_send Id members id =
    let trail : IsSend (Trail.the_row Id members) = search (sendable, crosses, facts) depth 20 in
    let note : IsSend (Note.the_row Id members) = search (sendable, crosses, facts) depth 20 in
    let receipt : IsSend (Receipt.the_row Id members) = search (sendable, crosses) depth 20 in
    search (sendable, crosses) depth 20

pub map_vec-requires-send-J : goal.map_vec-requires-send-J
map_vec-requires-send-J g c κs within =
    let job : IsSend (Job.the_row (param 0 g.row.Id) g.Id.Names) = job_send (param 0 g.row.Id)
    g.Id.Names c.type_bounds.send-Id in
    search (job, rules) depth 40
