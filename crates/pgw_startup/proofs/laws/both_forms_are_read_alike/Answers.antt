use Rattle.pgw_startup.proofs.VersionLaws.{alike, first, later}
use Rattle.pgw_startup.proofs.laws.both_forms_are_read_alike.Goals as goal

pub returns : goal.returns
returns c = record { alike = alike; first = first; later = later }
