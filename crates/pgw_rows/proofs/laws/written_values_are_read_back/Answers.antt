use Rattle.std.proofs.Common.{Some, refl, ap}
use Rattle.pgw_rows.proofs.WrittenLaws.{shorts, integers, longs, texts, octets}
use Rattle.pgw_rows.proofs.laws.written_values_are_read_back.Goals as goal

pub returns-clause-shorts : goal.returns-clause-shorts
returns-clause-shorts c = shorts

pub returns-clause-integers : goal.returns-clause-integers
returns-clause-integers c = integers

pub returns-clause-longs : goal.returns-clause-longs
returns-clause-longs c = longs

pub returns-clause-texts : goal.returns-clause-texts
returns-clause-texts c = texts

pub returns-clause-octets : goal.returns-clause-octets
returns-clause-octets c = λ x h. record { from_binary = refl; from_text = ap Some (octets x h) }
