use Rattle.std.proofs.Common.{append_assoc, rules}
use Rattle.pgw_query.proofs.data.FieldDescriptionField.put.Goals as goal

pub returns : goal.returns
returns c = search (rules, append_assoc)
