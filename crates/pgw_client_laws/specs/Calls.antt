-- A client's call, by its answer.
use Rattle.std.specs.Prelude.{◌≡◌, ◌⊎◌, ◌≤◌, ℕ, ◌+◌, Bool, true, false, List, [], ◌++◌, length, Result, Ok, Err}
use Rattle.pgw_types.specs.declared.error.PgWireError.{PgWireError}
use Rattle.pgw_backend.specs.Front.{BackendFront, front, More, Bad}
use Rattle.pgw_backend.specs.declared.backend.PgWireBackendMessage.{PgWireBackendMessage as Backend}
use Rattle.pgw_backend.specs.declared.client_error.PgWireClientError.{PgWireClientError as ClientError}
use Rattle.pgw_backend.specs.declared.client_error.PgWireClientError.TheVariants as client
use Rattle.pgw_frontend.specs.Frontend.{encodings}
use Rattle.pgw_session.specs.declared.types.Request.{Request}
use Rattle.pgw_session.specs.declared.types.Request.TheVariants as request
use Rattle.pgw_session.specs.declared.types.Response.{Response}
use Rattle.pgw_session.specs.declared.types.Answer.{Answer}
use Rattle.pgw_session.specs.declared.types.Answer.TheVariants as answer
use Rattle.pgw_session.specs.Events.{Event}
use Rattle.pgw_session.specs.Requests.{kind_of, sends_of, passes_over, behind_error}
use Rattle.pgw_session.specs.Segments.{IsRequestSegment, sends}
use Rattle.pgw_session.specs.Transcript.{SpellsGot}
use Rattle.pgw_handlers.specs.Client.{Client}
use Rattle.pgw_client_calls.specs.Line.{Line, Reasons}
use Rattle.pgw_client_calls.specs.Talk.{Next, CallEnd}
use Rattle.pgw_client_laws.specs.Turns.{standing_of_client, Does, IsAnswered, IsPassedSegment, IsCallFront, IsOpenFor, Opened}

-- the request has no encoding: nothing was written, and none of the bytes was taken
abbrev pub IsRefusedCall : Request → Client → List ℕ → List ℕ → PgWireError → Client → List ℕ
    → Type 0
IsRefusedCall q c bytes sent why info rest =
    (encodings (sends_of q) ≡ Err why) × (sent ≡ []) × (info ≡ c) × (rest ≡ bytes)

-- The call is answered by its own segment, or one is passed over, and the client goes on. No other error leaves it so.
abbrev pub AnswersCall : {A : Type 0} → (A → Answer) → Request → Client → List ℕ → List ℕ → Client
    → List ℕ → Result A ClientError → Type 0
AnswersCall give q c bytes sent info rest (Ok x) =
    Does (IsAnswered q (give x)) c bytes sent info rest
AnswersCall give q c bytes sent info rest (Err (client.RemoteError e)) =
    Does (IsAnswered q (answer.Remote e)) c bytes sent info rest
AnswersCall give q c bytes sent info rest (Err (client.UnexpectedMessage m)) =
    Does (IsPassedSegment q m) c bytes sent info rest
AnswersCall give q c bytes sent info rest (Err (client.PgWireError why)) =
    IsRefusedCall q c bytes sent why info rest
AnswersCall give q c bytes sent info rest (Err e) = ⊥

-- a front of the segment was exchanged, and this stands at the front of the bytes left
abbrev pub StopsCall : Request → Client → List ℕ → List ℕ → ClientError → Client → List ℕ
    → BackendFront → Type 0
StopsCall q c bytes sent e info rest next =
    Does (IsCallFront q e) c bytes sent info rest × (front info.protocol_version rest ≡ next)

-- of what is due in a front of the segment not all was written and flushed, which P says why
abbrev pub IsUnwritten : Reasons → Request → Client → List ℕ → List ℕ → Client → List ℕ → Type 0
IsUnwritten P q c bytes sent info rest =
    (lost : List ℕ) × P.unsent lost × (e : ClientError)
    × Does (IsCallFront q e) c bytes (sent ++ lost) info rest

-- A message has no place: where others are passed over behind it, the bytes end before ReadyForQuery; or it is next.
abbrev pub CallMisplaces : Bool → Reasons → Request → Client → List ℕ → List ℕ → Backend → Client
    → List ℕ → Type 0
CallMisplaces true P q c bytes sent m info rest =
    P.halts client.UnexpectedEOF
    × StopsCall q c bytes sent (client.UnexpectedMessage m) info rest More
CallMisplaces false P q c bytes sent m info rest =
    (left : List ℕ) × Does (Opened q (IsOpenFor (kind_of q) false m)) c bytes sent info left
    × Next info left m rest

-- Memory was wanting. What was written is whole messages: none, or the opening, or that and Sync where the request has one.
abbrev pub IsStarvedCall : Request → List ℕ → Type 0
IsStarvedCall q sent =
    (sent ≡ [])
    ⊎ ((encodings (sends_of q) ≡ Ok sent) ⊎
    (encodings (sends_of q ++ sends (behind_error (kind_of q))) ≡ Ok sent))

-- Its error leaves the client unusable: memory was wanting; the bytes left cannot be read; or they end within a message,
-- and no more came; or not all was written and flushed; or a message has no place. P says why no more bytes came, and why bytes were
-- not written. No other error does.
abbrev pub BreaksClient : {A : Type 0} → Reasons → Request → Client → List ℕ → List ℕ → Client
    → List ℕ → Result A ClientError → Type 0
BreaksClient P q c bytes sent info rest (Err client.OutOfMemory) = IsStarvedCall q sent
BreaksClient P q c bytes sent info rest (Err (client.PgWireError why)) =
    (e : ClientError) × StopsCall q c bytes sent e info rest (Bad why)
BreaksClient P q c bytes sent info rest (Err client.ReadLimit) =
    P.halts client.ReadLimit × (e : ClientError) × StopsCall q c bytes sent e info rest More
BreaksClient P q c bytes sent info rest (Err client.IoError) =
    (P.halts client.IoError × (e : ClientError) × StopsCall q c bytes sent e info rest More)
    ⊎ IsUnwritten P q c bytes sent info rest
BreaksClient P q c bytes sent info rest (Err client.UnexpectedEOF) =
    P.halts client.UnexpectedEOF × StopsCall q c bytes sent client.UnexpectedEOF info rest More
BreaksClient P q c bytes sent info rest (Err (client.RemoteError e)) =
    P.halts client.UnexpectedEOF × StopsCall q c bytes sent (client.RemoteError e) info rest More
BreaksClient P q c bytes sent info rest (Err (client.UnexpectedMessage m)) =
    CallMisplaces (passes_over (kind_of q)) P q c bytes sent m info rest
BreaksClient P q c bytes sent info rest result = ⊥

abbrev pub Comes : {A : Type 0} → (A → Answer) → Reasons → Request → Client → List ℕ → List ℕ
    → Client → List ℕ → Result A ClientError → Bool → Type 0
Comes give P q c bytes sent info rest result false =
    AnswersCall give q c bytes sent info rest result
Comes give P q c bytes sent info rest result true = BreaksClient P q c bytes sent info rest result

-- a simple query came to this end
abbrev pub SimpleCallEnds : List ℕ → Client → List ℕ → List ℕ → Reasons → CallEnd (List Response)
    → Type 0
SimpleCallEnds q c bytes sent P end =
    Comes answer.Responses P (request.Simple q) c bytes sent end.info end.rest end.answer
    end.broken

-- ---- where a whole segment comes

-- The call gives the segment's answer; or memory was wanting; or what it sends was not written and flushed whole, or has
-- no encoding.
abbrev pub CallReports : {A : Type 0} → (A → Answer) → Reasons → Request → Answer → Client
    → List ℕ → List ℕ → Client → List ℕ → Result A ClientError → Type 0
CallReports give P q a c bytes sent info rest (Ok x) = give x ≡ a
CallReports give P q a c bytes sent info rest (Err (client.RemoteError e)) = answer.Remote e ≡ a
CallReports give P q a c bytes sent info rest (Err client.OutOfMemory) = Unit {0}
CallReports give P q a c bytes sent info rest (Err client.IoError) =
    IsUnwritten P q c bytes sent info rest
CallReports give P q a c bytes sent info rest (Err (client.PgWireError why)) =
    encodings (sends_of q) ≡ Err why
CallReports give P q a c bytes sent info rest (Err e) = ⊥

-- ---- where a link still has a whole segment

-- The request has an encoding, and the bytes in the buffer and those to come begin with bytes that
-- spell the messages of this segment of it, and that the limit lets the client read.
pub record StillHas (q : Request) (c : Client) (old : Line) (coming : List ℕ) (es : List Event)
    : Type 0 where
  pub segment : IsRequestSegment q es
  pub spelled : List ℕ
  pub more : List ℕ
  pub begins : old.buffer ++ coming ≡ spelled ++ more
  pub got : SpellsGot (standing_of_client c) es spelled
  pub within : old.read + length spelled ≤ old.limit + length old.buffer
  pub sent : List ℕ
  pub put : encodings (sends_of q) ≡ Ok sent

-- the call gives this answer and leaves a client that can be used; or memory was wanting
abbrev pub IsReported : {A : Type 0} → (A → Answer) → Answer → Result A ClientError → Bool →
    Type 0
IsReported give a (Ok x) broken = (give x ≡ a) × (broken ≡ false)
IsReported give a (Err (client.RemoteError e)) broken = (answer.Remote e ≡ a) × (broken ≡ false)
IsReported give a (Err client.OutOfMemory) broken = Unit {0}
IsReported give a (Err e) broken = ⊥
