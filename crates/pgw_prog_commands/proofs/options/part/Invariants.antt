use Rattle.std.proofs.Common.{◌≡◌, length, map}
use Rattle.std.specs.Prelude.{string_bytes}
use Rattle.pgw_prog_commands.specs.Options.{no_options, parted}
use Rattle.pgw_prog_commands.proofs.options.part.Given as goal

abbrev pub invariant-loop-parted : goal.invariant-loop-parted
invariant-loop-parted l = parted l.parted.options (map string_bytes l.parted.rest.now)
    ≡ parted no_options (map string_bytes l.words)

abbrev pub decreases-loop-parted : goal.decreases-loop-parted
decreases-loop-parted l = length l.parted.rest.now
