use Rattle.log_spec.proofs.OneRows.{one_rows}
use Rattle.item_rows.proofs.laws.one_list_of_rows.Goals as goal

pub returns : goal.returns
returns c = one_rows
