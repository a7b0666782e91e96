use Rattle.std.proofs.Common.{codes, sym, ap, ◌∙◌}
use Rattle.std.specs.Cmp.Lexicographic.{bytes_decides}
use Rattle.std.specs.Prelude.{string_bytes}
use Rattle.pgw_prog_script.specs.Line.{script_number}
use Rattle.pgw_prog.proofs.CommandLaws.{limit_is}
use Rattle.pgw_prog.proofs.command.limit_of.Goals as goal

pub returns-in-len4-up : goal.returns-in-len4-up
returns-in-len4-up c =
    let named =
    sym c.as_str.ensures.value
    ∙ (bytes_decides c.as_str.result.now (codes "connect")).0 (sym c.eq.ensures ∙ c.if-eq.true) in
    limit_is string_bytes c.args.words.now c.word-item.result c.limit-item.result c.read_number.result
    c.in-len4-up.len_at_least c.word-item.is c.limit-item.is
    named (c.read_number.ensures ∙ ap script_number c.as_bytes.ensures.value)
