-- The conversation: the machine that notes the events, cut into segments. Not part of the claims of `run_session` on
-- transcripts, whose proofs it carries; those on dialogues rest on it.
use Rattle.std.specs.Prelude.{◌≡◌, ℕ, List, [], ◌∷◌, ◌++◌, length, map, Option, Some, None}
use Rattle.pgw_types.specs.declared.error.PgWireError.{PgWireError}
use Rattle.pgw_backend.specs.declared.backend.PgWireBackendMessage.{PgWireBackendMessage as Backend}
use Rattle.pgw_session.specs.declared.stage.Stage.{Stage}
use Rattle.pgw_session.specs.declared.stage.Stage.TheVariants.{Starting}
use Rattle.pgw_session.specs.Input.{Input}
use Rattle.pgw_session.specs.Events.{Event, Sent, Got, all_events}
use Rattle.pgw_session.specs.Standings.{standing_of}
use Rattle.pgw_machine.specs.Course.{Course, Waits, Over, Rules, run}
use Rattle.pgw_session.specs.Machine.{Notebook, End, Outcome, Complete, Unencoded, rules_by, beginning_by}

-- The segments that have closed; the events of the open one and how far it has come; and what was got since a message
-- that has no place there, that first.
pub record Talk : Type 0 where
  pub closed : List (List Event)
  pub open_events : List Event
  pub stage : Stage
  pub passed : List Backend

-- the events so far
abbrev pub said : Talk → List Event
said t = all_events t.closed ++ t.open_events

-- and all that was got
abbrev pub heard_of : Talk → List Event
heard_of t = said t ++ map Got t.passed

abbrev pub first_passed : List Backend → Option Backend
first_passed [] = None
first_passed (m ∷ ms) = Some m

-- some segments have closed, and none is open
abbrev pub between : List (List Event) → Talk
between closed = record { closed = closed; open_events = []; stage = Starting; passed = [] }

abbrev pub talk_book : Input → Notebook Talk
talk_book input = record {
  stage = λ t. t.stage;
  closed = λ t. length t.closed;
  first_passed = λ t. first_passed t.passed;
  standing = λ t. standing_of input.config (heard_of t);
  opens =
      λ t fs stage. record {
        closed = t.closed;
        open_events = t.open_events ++ map Sent fs;
        stage = stage;
        passed = t.passed;
      };
  takes =
      λ t m fs stage. record {
        closed = t.closed;
        open_events = t.open_events ++ Got m ∷ map Sent fs;
        stage = stage;
        passed = [];
      };
  closes = λ t m q. between (t.closed ++ (t.open_events ++ Got m ∷ []) ∷ []);
  passes =
      λ t m. record {
        closed = t.closed;
        open_events = t.open_events;
        stage = t.stage;
        passed = t.passed ++ m ∷ [];
      };
}

abbrev pub Ending : Type 0
Ending = End Talk

-- the end of a whole conversation
abbrev pub whole_talk : List (List Event) → Ending
whole_talk segments = record { notes = between segments; outcome = Complete }

abbrev pub talk_rules : Input → Rules Talk Ending Backend PgWireError
talk_rules input = rules_by (talk_book input) input

abbrev pub beginning : Input → Course Talk Ending
beginning input = beginning_by (talk_book input) input (between [])

-- the conversation of the bytes
unfoldable pub conversation : Input → List ℕ → Course Talk Ending
conversation input bytes = run (talk_rules input) (beginning input) bytes

-- it ended by what was got
abbrev pub EndsByGot : Outcome → Type 0
EndsByGot Complete = ⊥
EndsByGot (Unencoded e) = ⊥
EndsByGot o = Unit {0}

-- what was got has been refused: messages are passed over, or it ended the conversation with an error
abbrev pub HasRefused : Course Talk Ending → Type 0
HasRefused (Waits t sent pending) = (m : Backend) × (ms : List Backend) × (t.passed ≡ m ∷ ms)
HasRefused (Over e sent) = EndsByGot e.outcome
