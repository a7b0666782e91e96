use Rattle.std.proofs.Common.{◌≡◌, ◌++◌, take}
use Rattle.std.specs.Prelude.{codes}
use Rattle.std.specs.List.{flat_map}
use Rattle.pgw_prog_sessions.specs.AnswerLines.{oid_text}
use Rattle.pgw_prog_sessions.proofs.answer_lines.put_more_oids.Given as goal

abbrev pub invariant-loop-datatype : goal.invariant-loop-datatype
invariant-loop-datatype l =
    l.out.items ≡ l.fn.out.items ++ flat_map (λ t. codes "," ++ oid_text t) (take l.datatype-index l.types)
