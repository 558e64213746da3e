use Rattle.batch.proofs.Found.{is_found, is_only}
use Rattle.batch.proofs.packed.decode_packed.Goals as goal

pub returns-clause-found : goal.returns-clause-found
returns-clause-found c = is_found c.args.bytes c.packed_of.result c.packed_of.ensures.bytes c.packed_of.ensures.gives

pub returns-clause-only : goal.returns-clause-only
returns-clause-only c = is_only c.args.bytes c.packed_of.result c.packed_of.ensures.bytes c.packed_of.ensures.gives
