use Rattle.std.proofs.Common.{rules}
use Rattle.pgw_wire.specs.Reading.{rest_at, read_end}
use Rattle.pgw_query.specs.Rows.{data_row_of}
use Rattle.pgw_query.proofs.data.DataRowMessage.decode_body.Goals as goal

pub returns-in_err-payload : goal.returns-in_err-payload
unfolding data_row_of rest_at read_end
returns-in_err-payload c = search rules

pub returns : goal.returns
unfolding data_row_of rest_at read_end
returns c = search rules
