-- Which bytes a client stands for: those that it was given, and those that it put out, with the requests asked so far.
use Rattle.std.specs.Prelude.{◌≡◌, ◌⊎◌, ◌<◌, ℕ, ◌+◌, List, [], ◌∷◌, ◌++◌, drop, length, Option, Some, None}
use Rattle.pgw_backend.specs.Front.{front, More}
use Rattle.pgw_machine.specs.Course.{Begins, Waits}
use Rattle.pgw_session.specs.declared.notes.Notes.{Notes}
use Rattle.pgw_session.specs.declared.stage.Stage.{Stage}
use Rattle.pgw_session.specs.declared.stage.Stage.TheVariants.{Answering, PassingOver}
use Rattle.pgw_session.specs.declared.types.Answer.{Answer}
use Rattle.pgw_session.specs.declared.types.Request.{Request}
use Rattle.pgw_session.specs.Answers.{answers_of, no_tally}
use Rattle.pgw_session.specs.Events.{Event, all_events}
use Rattle.pgw_session.specs.Input.{Input, input_with}
use Rattle.pgw_session.specs.Notes.{view}
use Rattle.pgw_session.specs.Standings.{first_standing, standing_of}
use Rattle.pgw_session.specs.Talk.{Talk, conversation}
use Rattle.pgw_session.specs.Transcript.{EncodesSent, IsTranscript, SpellsGot}
use Rattle.pgw_dialogue.specs.Dialogue.{DialogueSettles}
use Rattle.pgw_client_push.specs.Behind.{notes_behind}
use Rattle.pgw_client_push.specs.declared.client.PushClient.{PushClient}
use Rattle.pgw_client_push.specs.declared.state.State.{State}
use Rattle.pgw_client_push.specs.declared.state.State.TheVariants as state

-- the request that was asked last, if there is one
abbrev pub asks : Option (List Request) → List Request
asks None = []
asks (Some qs) = qs

-- what the client's machine goes by: the last request alone
abbrev pub last_input : PushClient → Input
last_input c = input_with c.config (asks c.asked) c.nonce

-- ---- how far it has come

-- a segment is open, and it may take one more byte
abbrev pub IsOpen : PushClient → Type 0
IsOpen c = (c.state ≡ state.Open) × (0 < c.room)

-- it can be asked
abbrev pub IsIdle : PushClient → Type 0
IsIdle c = c.state ≡ state.Idle

abbrev pub IsStarvedPush : PushClient → Type 0
IsStarvedPush c = c.state ≡ state.Starved

abbrev pub IsPushBroken : PushClient → Type 0
IsPushBroken c = (c.state ≡ state.Refused) ⊎ IsStarvedPush c

-- ---- what it notes

-- a stage of a request's segment
abbrev pub IsRequests : Stage → Type 0
IsRequests (Answering k rows) = Unit {0}
IsRequests PassingOver = Unit {0}
IsRequests stage = ⊥

-- The open segment is that of the last request, behind those before it; or it is the startup segment.
abbrev pub IsLastSegment : Option (List Request) → List Request → List Answer → Notes → Type 0
IsLastSegment None before earlier notes = (before ≡ []) × (earlier ≡ [])
IsLastSegment (Some qs) before earlier notes =
    (q : Request) × (qs ≡ q ∷ []) × IsRequests notes.stage × (notes.closed ≡ 1)
    × (notes.answers ≡ [])

-- with the segments before the open one they are the notes of the conversation
pub record NotesAt (input : Input) (asked : Option (List Request)) (notes : Notes) (t : Talk)
    : Type 0 where
  pub before : List Request
  pub earlier : List Answer
  pub are : input.requests ≡ before ++ asks asked
  pub notes_are : view input t ≡ notes_behind (length before) earlier notes
  pub last : IsLastSegment asked before earlier notes

-- the conversation of these bytes waits between two messages
pub record PushWaits (input : Input) (asked : Option (List Request)) (notes : Notes)
    (done put : List ℕ) : Type 0 where
  pub talk : Talk
  pub waits : conversation input done ≡ Waits talk put []
  pub notes_at : NotesAt input asked notes talk

-- ---- what it stands for

-- the conversation of the bytes given waits within a message
pub record StandsOpen (c : PushClient) (input : Input) (given put : List ℕ) : Type 0 where
  pub done : List ℕ
  pub cut : given ≡ done ++ c.inbox
  pub comes : PushWaits input c.asked c.notes done put
  pub partial : front c.notes.standing.version c.inbox ≡ More

-- The front of the bytes given and all that was put out make a transcript of the requests asked so far. The answers that
-- are kept are the last of it, or none; what was given behind is kept for the next request.
pub record StandsIdle (c : PushClient) (input : Input) (given put : List ℕ) : Type 0 where
  pub done : List ℕ
  pub cut : given ≡ done ++ c.inbox
  pub segments : List (List Event)
  pub transcript : IsTranscript input segments
  pub got : SpellsGot (first_standing input.config) (all_events segments) done
  pub put_is : EncodesSent (all_events segments) put
  pub standing : c.notes.standing ≡ standing_of input.config (all_events segments)
  pub earlier : List Answer
  pub answers : answers_of input.requests (drop 1 segments) ≡ earlier ++ c.notes.answers
  pub fresh : (c.notes.tally ≡ no_tally) × (c.notes.first_passed ≡ None)

abbrev pub PushStandsIn : State → PushClient → Input → ℕ → List ℕ → List ℕ → Type 0
PushStandsIn state.Open c input limit given put = StandsOpen c input given put
PushStandsIn state.Idle c input limit given put = StandsIdle c input given put
PushStandsIn state.Refused c input limit given put =
    DialogueSettles (conversation input given) limit given put
PushStandsIn state.Starved c input limit given put = Begins (conversation input given) put

pub record StandsFor (input : Input) (limit : ℕ) (c : PushClient) (given put : List ℕ) : Type
    0 where
  pub config : c.config ≡ input.config
  pub nonce : c.nonce ≡ input.nonce
  pub room : length given + c.room ≡ limit
  pub stands : PushStandsIn c.state c input limit given put
