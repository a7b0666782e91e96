use Rattle.std.proofs.Common.{ap, sym, ◌∙◌}
use Rattle.std.specs.Option.{option_copied}
use Rattle.pgw_prog_script.proofs.ServerLaws.{server_line}
use Rattle.pgw_prog_script.proofs.script.ScriptDraftDraft.read.Goals as goal

pub returns-in-Some-clause-step : goal.returns-in-Some-clause-step
returns-in-Some-clause-step c =
    rw (server_line c.args.line.now c.in-Some.digits.now (sym c.behind_word.ensures
    ∙ ap option_copied c.in-Some.is)) c.take_server.ensures.step
