use Rattle.std.proofs.Common.{take}
use Rattle.std.specs.List.{concat}
use Rattle.pgw_session.specs.Input.{input_with}
use Rattle.example_dialogue.proofs.PieceLaws.{SoFar}
use Rattle.example_dialogue.proofs.push.over_pieces.Given as goal

abbrev pub invariant-loop-piece : goal.invariant-loop-piece
invariant-loop-piece l =
    SoFar (input_with l.fn.config l.fn.requests l.fn.nonce) l.fn.limit l.dialogue
    (concat (take l.piece-index l.pieces)) l.fn.out.items l.out.items
