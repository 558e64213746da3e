use Rattle.std.proofs.Common.{◌≡◌, take}
use Rattle.kafka_record.proofs.sharing.share_list.Given as goal

abbrev pub invariant-loop-header : goal.invariant-loop-header
invariant-loop-header l = l.list.items ≡ take l.header-index l.headers
