use Rattle.std.proofs.Common.{◌≡◌, map, take}
use Rattle.pgw_query.specs.Fields.{type_of}
use Rattle.pgw_dialogue.proofs.answers.types.Given as goal

abbrev pub invariant-loop-oid : goal.invariant-loop-oid
invariant-loop-oid l = l.types ≡ map type_of (take l.oid-index l.oids)
