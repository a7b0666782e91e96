use Rattle.std.proofs.Common.{refl}
use Rattle.std.proofs.lemmas.Slice.Eq.{slice_eq-Decides}
use Rattle.pgw_wire.proofs.equality.equality_of_parts_is_exact.Goals as goal

pub returns-clause-listed : goal.returns-clause-listed
returns-clause-listed g c x y = slice_eq-Decides c.requires x y _ refl

pub returns-clause-boxed : goal.returns-clause-boxed
returns-clause-boxed g c = c.requires
