use Rattle.std.specs.Prelude.{string_bytes}
use Rattle.pgw_prog.proofs.CommandLaws.{session_is}
use Rattle.pgw_prog.proofs.command.session_from.Goals as goal

pub returns-clause-named : goal.returns-clause-named
returns-clause-named c =
    session_is string_bytes c.args.words.items c.remove.new.self.items c.remove-text.new.self.items
    c.remove-2.new.self.items c.remove-text.result c.from_string.result c.args.limit
    c.in_ok-queries_from.field-0
    c.requires c.remove.ensures.by_index.2 c.remove-text.ensures.value c.remove-text.ensures.by_index.2
    c.remove-2.ensures.by_index.2 c.from_string.ensures c.in_ok-queries_from.ensures
