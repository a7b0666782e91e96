-- Options and the words behind them, as texts.
use Rattle.std.specs.Prelude.{map, string_bytes}
use Rattle.pgw_prog_commands.specs.declared.options.Parted.{Parted}
use Rattle.pgw_prog_commands.specs.Options.{WordParts}

abbrev pub parts : Parted → WordParts
parts p = (p.options, map string_bytes p.rest.now)
