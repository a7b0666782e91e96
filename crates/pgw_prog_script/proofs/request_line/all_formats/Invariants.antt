use Rattle.std.proofs.Common.{◌≡◌, map, take}
use Rattle.pgw_config.specs.Pieces.{all_read}
use Rattle.pgw_prog_script.specs.RequestLine.{format_in}
use Rattle.pgw_prog_script.proofs.request_line.all_formats.Given as goal

abbrev pub invariant-loop-piece : goal.invariant-loop-piece
invariant-loop-piece l = l.all ≡ all_read format_in (map (λ piece. piece.now) (take l.piece-index l.pieces))
