use Rattle.std.proofs.Common.{◌++◌, ◌∙◌, List, ℕ, refl, ap}
use Rattle.pgw_session.specs.Input.{input_with}
use Rattle.pgw_dialogue.proofs.CallLaws.{starts}
use Rattle.pgw_dialogue.proofs.dialogue.Dialogue.start.Goals as goal

pub returns-clause-starts : goal.returns-clause-starts
returns-clause-starts c =
    starts (input_with c.args.config.now c.args.requests.now c.args.nonce.now) c.args.limit _
    c.start.new.out.items c.args.out.now.items c.extend_from_slice.new.self.items c.in-Ok-start.ensures.start
    (c.in-Ok-extend_from_slice.ensures.ok
    ∙ ap (λ (b : List ℕ). c.args.out.now.items ++ b) c.as_slice.ensures) refl c.new.ensures refl refl
