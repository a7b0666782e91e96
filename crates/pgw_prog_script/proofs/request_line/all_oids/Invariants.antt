use Rattle.std.proofs.Common.{◌≡◌, map, take}
use Rattle.pgw_config.specs.Pieces.{all_read}
use Rattle.pgw_prog_script.specs.RequestLine.{oid_in}
use Rattle.pgw_prog_script.proofs.request_line.all_oids.Given as goal

abbrev pub invariant-loop-piece : goal.invariant-loop-piece
invariant-loop-piece l = l.all ≡ all_read oid_in (map (λ piece. piece.now) (take l.piece-index l.pieces))
