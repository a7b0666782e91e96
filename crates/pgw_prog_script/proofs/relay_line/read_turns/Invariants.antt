use Rattle.std.proofs.Common.{◌≡◌, ◌∷◌, [], map, take}
use Rattle.pgw_config.specs.Pieces.{all_read}
use Rattle.pgw_prog_script.specs.RelayLine.{side_in}
use Rattle.pgw_prog_script.proofs.relay_line.read_turns.Given as goal

abbrev pub invariant-loop-letter : goal.invariant-loop-letter
invariant-loop-letter l = l.turns ≡ all_read side_in (map (λ letter. letter ∷ []) (take l.letter-index l.letters))
