use Rattle.pgw_prog_script.proofs.GrammarLaws.{scripts, faults, once}
use Rattle.pgw_prog_script.proofs.grammar.grammar_is_read.Goals as goal

pub returns : goal.returns
returns g c =
    let form = g.D.Draft.form in
    record { scripts = scripts form; faults = faults form; one = once form }
