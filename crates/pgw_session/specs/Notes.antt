-- What a client notes of a session, and of which conversation it is a view. Not part of the claims of `run_session` on
-- transcripts, whose proofs it carries; those on dialogues rest on it.
use Rattle.std.specs.Prelude.{ℕ, suc, List, [], ◌∷◌, ◌++◌, drop, length, Option, Some, None}
use Rattle.pgw_backend.specs.declared.backend.PgWireBackendMessage.{PgWireBackendMessage as Backend}
use Rattle.pgw_session.specs.declared.types.Request.{Request}
use Rattle.pgw_session.specs.declared.types.Answer.{Answer}
use Rattle.pgw_session.specs.declared.tally.Tally.{Tally}
use Rattle.pgw_session.specs.declared.notes.Notes.{Notes}
use Rattle.pgw_session.specs.declared.stage.Stage.TheVariants.{Starting}
use Rattle.pgw_session.specs.Input.{Input}
use Rattle.pgw_session.specs.Standings.{first_standing, standing_by, standing_of}
use Rattle.pgw_session.specs.Answers.{answer_by, answers_of, tally_after, tally_of, no_tally}
use Rattle.pgw_machine.specs.Course.{Course, run}
use Rattle.pgw_session.specs.Machine.{Notebook, End, rules_by, beginning_by}
use Rattle.pgw_session.specs.Talk.{Talk, heard_of, first_passed}

-- the answer of the request that closes; the startup segment has none
abbrev pub answer_for : Option Request → Tally → List Answer
answer_for None t = []
answer_for (Some q) t = answer_by q t ∷ []

abbrev pub first_or : Option Backend → Backend → Option Backend
first_or None m = Some m
first_or (Some first) m = Some first

abbrev pub notes_book : Notebook Notes
notes_book = record {
  stage = λ n. n.stage;
  closed = λ n. n.closed;
  first_passed = λ n. n.first_passed;
  standing = λ n. n.standing;
  opens = λ n fs stage. record n { stage = stage };
  takes =
      λ n m fs stage. record n
      { stage = stage; standing = standing_by n.standing m; tally = tally_after n.tally m };
  closes =
      λ n m q. record n {
        stage = Starting;
        standing = standing_by n.standing m;
        tally = no_tally;
        answers = n.answers ++ answer_for q (tally_after n.tally m);
        closed = suc n.closed;
      };
  passes =
      λ n m. record n {
        standing = standing_by n.standing m;
        first_passed = first_or n.first_passed m;
      };
}

abbrev pub first_notes : Input → Notes
first_notes input =
    record {
      stage = Starting;
      standing = first_standing input.config;
      tally = no_tally;
      answers =
          [];
      closed = 0;
      first_passed = None;
    }

-- what a client notes of the bytes
unfoldable pub noted_of : Input → List ℕ → Course Notes (End Notes)
noted_of input bytes =
    run (rules_by notes_book input) (beginning_by notes_book input (first_notes input)) bytes

-- what it notes of a conversation
abbrev pub view : Input → Talk → Notes
view input t = record {
  stage = t.stage;
  standing = standing_of input.config (heard_of t);
  tally = tally_of t.open_events;
  answers = answers_of input.requests (drop 1 t.closed);
  closed = length t.closed;
  first_passed = first_passed t.passed;
}
