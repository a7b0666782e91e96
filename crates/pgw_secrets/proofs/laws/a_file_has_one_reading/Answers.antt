use Rattle.pgw_secrets.specs.PasswordFile.{file_lines}
use Rattle.pgw_secrets.proofs.Lines.{same_entries}
use Rattle.pgw_secrets.proofs.laws.a_file_has_one_reading.Goals as goal

pub returns : goal.returns
returns c file one other a b = same_entries (file_lines file) one other a b
