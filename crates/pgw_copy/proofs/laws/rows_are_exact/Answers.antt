use Rattle.pgw_copy.proofs.RowLaws.{copy_data, copy_fail, copy_response}
use Rattle.pgw_copy.proofs.laws.rows_are_exact.Goals as goal

pub returns : goal.returns
returns c = record {
  copy_data = copy_data;
  copy_fail = copy_fail;
  copy_response = copy_response;
}
