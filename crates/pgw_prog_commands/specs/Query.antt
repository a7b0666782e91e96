-- What the command `query` does, and the status it ends with.
use Rattle.std.specs.Prelude.{◌≡◌, ℕ, List, Result, Ok, Err}
use Rattle.pgw_prog_output.specs.declared.printer.RowFormat.{RowFormat}
use Rattle.pgw_prog_output.specs.declared.asking.AnswerEnd.{AnswerEnd}
use Rattle.pgw_prog_output.specs.declared.asking.AnswerEnd.TheVariants as ends
use Rattle.pgw_prog_output.specs.Asking.{AskedAll, CountsEnd}
use Rattle.pgw_client_calls.specs.State.{ClientState}
use Rattle.pgw_prog_commands.specs.declared.places.Place.{Place}
use Rattle.pgw_prog_commands.specs.declared.places.NoSession.{NoSession}
use Rattle.pgw_prog_commands.specs.declared.places.NoSession.TheVariants as why
use Rattle.pgw_prog_commands.specs.Telling.{Telling}
use Rattle.pgw_prog_commands.specs.Places.{DialsInTurn, IsClosed, TriesAll}
use Rattle.pgw_prog_commands.specs.Talking.{line_of_client}

-- the status of a session
abbrev pub query_status : AnswerEnd → ℕ
query_status ends.Well = 0
query_status ends.Failed = 1
query_status ends.Misplaced = 1
query_status ends.Lost = 1
query_status ends.NoOutput = 3
query_status ends.NoMemory = 4

-- and where there is none
abbrev pub status_without : NoSession → ℕ
status_without why.Refused = 1
status_without why.Memory = 4

-- The queries were asked in turn of a client, over the bytes that its link and its buffer had, and
-- what was printed is the text of the answers that came over it; and then the client that this left
-- was closed.
pub record HoldsQuerySession {Y X : Type 0} (t : Telling Y X) (f : RowFormat)
    (queries : List (List ℕ))
    (first : ClientState X) (mid new : Y) (wrote printed : List ℕ) (before now status : ℕ)
    : Type 0 where
  pub last : ClientState X
  pub how : AnswerEnd
  pub asked : AskedAll f queries (line_of_client t.tape t.faults first)
      (line_of_client t.tape t.faults last)
      wrote printed how
  pub closed : IsClosed t last mid new
  pub status_is : status ≡ query_status how
  pub counts : CountsEnd before now how

-- no place let the client in, and nothing was printed
pub record HeldNone (why : NoSession) (wrote printed : List ℕ) (before now status : ℕ)
    : Type 0 where
  pub printed_is : printed ≡ wrote
  pub status_is : status ≡ status_without why
  pub calm : now ≡ before

abbrev pub HoldsQueryCommand : {Y X : Type 0} → Telling Y X → RowFormat → List (List ℕ) →
    Result (ClientState X) NoSession → Y → Y → List ℕ → List ℕ → ℕ → ℕ → ℕ → Type 0
HoldsQueryCommand t f queries (Ok c) mid new wrote printed before now status =
    HoldsQuerySession t f queries c mid new wrote printed before now status
HoldsQueryCommand t f queries (Err why) mid new wrote printed before now status =
    HeldNone why wrote printed before now status × (new ≡ mid)

-- The places were tried in their order, each dialled once at most, and the session was held with
-- the client that was let in, if one was.
pub record RanQuery {Y X : Type 0} (t : Telling Y X) (f : RowFormat) (places : List Place)
    (queries : List (List ℕ)) (old new : Y) (wrote printed : List ℕ) (before now status : ℕ)
    : Type 0 where
  pub mid : Y
  pub entered : Result (ClientState X) NoSession
  pub tries : TriesAll t places old mid entered
  pub dials : DialsInTurn places (t.dials old) (t.dials mid)
  pub held : HoldsQueryCommand t f queries entered mid new wrote printed before now status
