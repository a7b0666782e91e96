-- What a call of extended queries comes to, by the meaning of its handler.
use Rattle.std.specs.Prelude.{◌≡◌, ℕ, Bool, true, false, List, [], ◌∷◌, ◌++◌, Option, Some, None, Result, Ok, Err}
use Rattle.pgw_backend.specs.declared.backend.PgWireBackendMessage.{PgWireBackendMessage as Backend}
use Rattle.pgw_backend.specs.declared.backend.PgWireBackendMessage.TheVariants as backend
use Rattle.pgw_backend.specs.declared.client_error.PgWireClientError.{PgWireClientError as ClientError}
use Rattle.pgw_backend.specs.declared.client_error.PgWireClientError.TheVariants as client
use Rattle.pgw_session.specs.declared.stage.Kind.{Kind}
use Rattle.pgw_session.specs.declared.stage.Role.{Role}
use Rattle.pgw_session.specs.declared.stage.Role.TheVariants.{Taken, Closing, Completing, Misplaced}
use Rattle.pgw_query.specs.Rows.{ErrorResponse}
use Rattle.pgw_backend.specs.ClientError.{IsUnexpected}
use Rattle.pgw_session.specs.Requests.{role, behind_error, sync as sync_message, kind_of, sends_of}
use Rattle.pgw_frontend.specs.declared.frontend.PgWireFrontendMessage.{PgWireFrontendMessage as Frontend}
use Rattle.pgw_frontend.specs.declared.frontend.PgWireFrontendMessage.TheVariants as frontend
use Rattle.pgw_session.specs.declared.types.Request.{Request}
use Rattle.pgw_handlers.specs.Client.{Client}
use Rattle.pgw_handlers.specs.Handling.{HandlerView, standing, IsCaused}
use Rattle.pgw_handlers.specs.Extended.{ExtendedCall, parse, bind, execute, describe, close, sync, flush, on_parameter_description, on_row_description, on_data_row, on_command_complete, on_portal_suspended, on_notice, on_notification, Given, Gift, nothing, types, columns, response, tag}
use Rattle.pgw_client_calls.specs.Line.{Reasons}
use Rattle.pgw_client_calls.specs.Talk.{fresh, Next, Lack, Passing, client_after, IsCutPiece, is_refusal}
use Rattle.pgw_client_calls.specs.declared.gathered.Gathered.{Gathered}

abbrev pub Meaning : Type 0 → Type 0 → Type 1
Meaning H R = HandlerView H → ExtendedCall → HandlerView H → Given R → Type 0

-- of no message
abbrev pub none_gathered : {R : Type 0} → Gathered (List R)
none_gathered = record { types = []; columns = []; responses = [] }

-- its responses as a list, of which `listed` says what it is
abbrev pub as_lists : {S R : Type 0} → (S → List R) → Gathered S → Gathered (List R)
as_lists listed g =
    record { types = g.types; columns = g.columns; responses = listed g.responses }

abbrev pub in_lists : {S R : Type 0} → (S → List R) →
    Result (Gathered S × Bool) ClientError → Result (Gathered (List R) × Bool) ClientError
in_lists listed (Ok x) = Ok (as_lists listed x.0, x.1)
in_lists listed (Err e) = Err e

-- the handler's function for a message, if it has one
abbrev pub call_for : Backend → Option ExtendedCall
call_for (backend.ParameterDescription m) = Some (on_parameter_description m)
call_for (backend.RowDescription m) = Some (on_row_description m)
call_for (backend.DataRow m) = Some (on_data_row m)
call_for (backend.CommandComplete m) = Some (on_command_complete m)
call_for (backend.PortalSuspended m) = Some on_portal_suspended
call_for (backend.NoticeResponse m) = Some (on_notice m)
call_for (backend.NotificationResponse m) = Some (on_notification m)
call_for m = None

-- what its reply adds
abbrev pub with_gift : {R : Type 0} → Gathered (List R) → Gift R → Gathered (List R)
with_gift g nothing = g
with_gift g (types ts) = record g { types = ts }
with_gift g (columns fs) = record g { columns = fs }
with_gift g (response r) = record g { responses = g.responses ++ r ∷ [] }
with_gift g (tag t) = g

-- a message is heeded by its function, or tells of the connection, or nothing
abbrev pub HeedsBy : {H R : Type 0} → Meaning H R → Option ExtendedCall → H → Client
    → Gathered (List R) → Backend → H → Gathered (List R) → Type 0
HeedsBy M None h c g m after more = (after ≡ h) × (more ≡ g)
HeedsBy {R = R} M (Some call) h c g m after more =
    (gift : Gift R) × M (standing h (fresh c)) call (standing after (fresh c)) (Ok gift)
    × (more ≡ with_gift g gift)

abbrev pub Heeds : {H R : Type 0} → Meaning H R → H → Client → Gathered (List R) → Backend → H
    → Gathered (List R) → Type 0
Heeds M h c g m after more = HeedsBy M (call_for m) h c g m after more

-- its function refuses it
abbrev pub RefusesBy : {H R : Type 0} → Meaning H R → Option ExtendedCall → H → Client → H
    → ClientError → Type 0
RefusesBy M None h c after e = ⊥
RefusesBy M (Some call) h c after e =
    M (standing h (fresh c)) call (standing after (fresh c)) (Err e)

-- how a call ended: its answer and whether the portal was suspended, the handler, what the client knows, whether it
-- cannot be used any more, and the bytes left in its buffer
pub record Finish (H R : Type 0) : Type 0 where
  pub answer : Result (Gathered (List R) × Bool) ClientError
  pub handler : H
  pub info : Client
  pub broken : Bool
  pub rest : List ℕ

abbrev pub finish : {H R : Type 0} → Result (Gathered (List R) × Bool) ClientError → H → Client
    → Bool → List ℕ → Finish H R
finish answer h c broken rest =
    record { answer = answer; handler = h; info = c; broken = broken; rest = rest }

abbrev pub is_suspended : Backend → Bool
is_suspended (backend.PortalSuspended m) = true
is_suspended m = false

-- the handler sends Sync, where one is due
abbrev pub Syncs : {H R : Type 0} → Meaning H R → Option Frontend → HandlerView H → HandlerView H
    → Type 0
Syncs M None before after = after ≡ before
Syncs M (Some m) before after = M before sync after (Ok nothing) × (after.sight.broken ≡ false)

-- the answer behind messages that were passed over: the error, or the outcome where none came
abbrev pub outcome_behind : {R : Type 0} → Gathered (List R) → ClientError → Bool
    → Result (Gathered (List R) × Bool) ClientError
outcome_behind g client.UnexpectedEOF false = Ok (g, false)
outcome_behind g e broken = Err e

-- What becomes of a message by the table of requests, in which a notification has no place; but of
-- that the handler is asked.
abbrev pub call_role : Kind → Backend → Role
call_role k (backend.NotificationResponse m) = Taken false
call_role k m = role k false m

-- whether a message has a place
abbrev pub IsPlaced : Role → Type 0
IsPlaced Misplaced = ⊥
IsPlaced r = Unit {0}

-- A message behind which the answer is over and ReadyForQuery is awaited: one that completes a portal, behind which Sync
-- is due; or the server's error, behind which it is due by the table. With where the handler stands then, the error so far
-- (UnexpectedEOF: none), and what was gathered.
pub data EndsAnswer {H R : Type 0} (M : Meaning H R) (k : Kind) (h : H) (c : Client)
    (g : Gathered (List R)) : Backend
    → Option Frontend → HandlerView H → ClientError → Gathered (List R) → Type 0 where
  completing : (m : Backend) (after : H) (more : Gathered (List R)) → call_role k m ≡ Completing
      → Heeds M h c g m after more →
      EndsAnswer M k h c g m (Some sync_message) (standing after (fresh c)) client.UnexpectedEOF
      more
  failing : (m : ErrorResponse)
      → EndsAnswer M k h c g (backend.ErrorResponse m) (behind_error k) (standing h (fresh c))
      (client.RemoteError m) g

-- From a handler, what the client knows and what was gathered, over the bytes to come, to the bytes written and the end:
-- the messages of one call, by the table of requests (`place`). P says why no more bytes came, and why bytes were not
-- written.
pub data Exchange {H R : Type 0} (M : Meaning H R) (P : Reasons) (k : Kind) : H → Client
    → Gathered (List R) → List ℕ → List ℕ → Finish H R → Type 0 where
  lacks : (h : H) (c : Client) (g : Gathered (List R)) (bytes rest : List ℕ) (e : ClientError)
      → Lack P c bytes rest e → Exchange M P k h c g bytes [] (finish (Err e) h c true rest)
  -- a message is taken
  takes : (h : H) (c : Client) (g : Gathered (List R)) (bytes : List ℕ) (m : Backend)
      (rest : List ℕ) (rows : Bool) (after : H) (more : Gathered (List R)) (sent : List ℕ)
      (last : Finish H R) →
      Next c bytes m rest → call_role k m ≡ Taken rows → Heeds M h c g m after more
      → Exchange M P k after (client_after m c) more rest sent last
      → Exchange M P k h c g bytes sent last
  -- it closes the call
  closes : (h : H) (c : Client) (g : Gathered (List R)) (bytes : List ℕ) (m : Backend)
      (rest : List ℕ) (after : H) (more : Gathered (List R)) →
      Next c bytes m rest → call_role k m ≡ Closing → Heeds M h c g m after more
      → Exchange M P k h c g bytes []
      (finish (Ok (more, is_suspended m)) after (client_after m c) false rest)
  -- it ends the answer: Sync is sent where one is due, and what comes is passed over up to ReadyForQuery
  ends : (h : H) (c : Client) (g : Gathered (List R)) (bytes : List ℕ) (m : Backend)
      (rest : List ℕ) (due : Option Frontend) (before s : HandlerView H) (e : ClientError)
      (more : Gathered (List R)) (x : ClientError) (last : Client) (left : List ℕ)
      (broken : Bool) →
      Next c bytes m rest → EndsAnswer M k h c g m due before e more → Syncs M due before s
      → Passing P e s.sight.client rest x last left broken →
      Exchange M P k h c g bytes s.sight.wrote
      (finish (outcome_behind more x broken) s.handler last broken left)
  -- Sync is not sent: the handler answers an error, and what it put is dropped; or it is not written whole,
  -- or not flushed
  unsynced : (h : H) (c : Client) (g : Gathered (List R)) (bytes : List ℕ) (m : Backend)
      (rest : List ℕ) (due : Frontend) (before after : HandlerView H) (e x : ClientError)
      (more : Gathered (List R)) →
      Next c bytes m rest → EndsAnswer M k h c g m (Some due) before e more
      → M before sync after (Err x) → IsCaused x 0 0 after.sight.broken
      → after.sight.broken ≡ false
      → Exchange M P k h c g bytes []
      (finish (Err x) after.handler after.sight.client true rest)
  unwritten : (h : H) (c : Client) (g : Gathered (List R)) (bytes : List ℕ) (m : Backend)
      (rest : List ℕ) (due : Frontend) (before after : HandlerView H) (e : ClientError)
      (more : Gathered (List R)) (part : List ℕ) →
      Next c bytes m rest → EndsAnswer M k h c g m (Some due) before e more
      → M before sync after (Ok nothing) → after.sight.broken ≡ false
      → IsCutPiece P after.sight.wrote part →
      Exchange M P k h c g bytes part
      (finish (Err client.IoError) after.handler after.sight.client true rest)
  -- the handler refuses a message that has a place, or a notification
  refuses : (h : H) (c : Client) (g : Gathered (List R)) (bytes : List ℕ) (m : Backend)
      (rest : List ℕ) (after : H) (e : ClientError) →
      Next c bytes m rest → IsPlaced (call_role k m) → RefusesBy M (call_for m) h c after e
      → IsCaused e 0 0 false
      → Exchange M P k h c g bytes [] (finish (Err e) after c true rest)
  -- a message has no place
  misplaced : (h : H) (c : Client) (g : Gathered (List R)) (bytes : List ℕ) (m : Backend)
      (rest : List ℕ) (e : ClientError) →
      Next c bytes m rest → call_role k m ≡ Misplaced → IsUnexpected m e
      → Exchange M P k h c g bytes [] (finish (Err e) h c true rest)
  starves : (h after : H) (c last : Client) (g : Gathered (List R)) (bytes rest : List ℕ)
      → Exchange M P k h c g bytes [] (finish (Err client.OutOfMemory) after last true rest)

-- ---- a call

-- the handler's functions for the messages that open a request's segment
abbrev pub calls_for : List Frontend → List ExtendedCall
calls_for [] = []
calls_for (frontend.Parse m ∷ ms) = parse m ∷ calls_for ms
calls_for (frontend.Bind m ∷ ms) = bind m ∷ calls_for ms
calls_for (frontend.Execute m ∷ ms) = execute m ∷ calls_for ms
calls_for (frontend.Describe m ∷ ms) = describe m ∷ calls_for ms
calls_for (frontend.Close m ∷ ms) = close m ∷ calls_for ms
calls_for (frontend.Sync m ∷ ms) = sync ∷ calls_for ms
calls_for (frontend.Flush m ∷ ms) = flush ∷ calls_for ms
calls_for (m ∷ ms) = calls_for ms

-- they are called one after the other, up to the first that answers an error
pub data CallsInOrder {H R : Type 0} (M : Meaning H R) : List ExtendedCall → HandlerView H
    → HandlerView H → Result (Unit {0}) ClientError → Type 0 where
  opened : (s : HandlerView H) → CallsInOrder M [] s s (Ok tt)
  goes : (call : ExtendedCall) (calls : List ExtendedCall) (s s1 s2 : HandlerView H)
      (result : Result (Unit {0}) ClientError)
      → M s call s1 (Ok nothing) → CallsInOrder M calls s1 s2 result
      → CallsInOrder M (call ∷ calls) s s2 result
  stops : (call : ExtendedCall) (calls : List ExtendedCall) (s s1 : HandlerView H)
      (e : ClientError)
      → M s call s1 (Err e) → CallsInOrder M (call ∷ calls) s s1 (Err e)

-- The request's messages are opened by the handler and written as one piece before the first message is heard.
pub data Requested {H R : Type 0} (M : Meaning H R) (P : Reasons) (q : Request) (h : H)
    (c : Client) (bytes : List ℕ) : List ℕ
    → Finish H R → Type 0 where
  opened : (after : HandlerView H) (sent : List ℕ) (last : Finish H R)
      → CallsInOrder M (calls_for (sends_of q)) (standing h (fresh c)) after (Ok tt)
      → after.sight.broken ≡ false →
      Exchange M P (kind_of q) after.handler after.sight.client none_gathered bytes sent last
      → Requested M P q h c bytes (after.sight.wrote ++ sent) last
  unwritten : (after : HandlerView H) (part : List ℕ)
      → CallsInOrder M (calls_for (sends_of q)) (standing h (fresh c)) after (Ok tt)
      → after.sight.broken ≡ false → IsCutPiece P after.sight.wrote part →
      Requested M P q h c bytes part
      (finish (Err client.IoError) after.handler after.sight.client true bytes)
  -- nothing is written; where the encoder refuses a message, the client stays usable
  refused : (after : HandlerView H) (e : ClientError)
      → CallsInOrder M (calls_for (sends_of q)) (standing h (fresh c)) after (Err e)
      → is_refusal e ≡ true → after.sight.broken ≡ false →
      Requested M P q h c bytes [] (finish (Err e) after.handler after.sight.client false bytes)
  breaks : (after : HandlerView H) (e : ClientError)
      → CallsInOrder M (calls_for (sends_of q)) (standing h (fresh c)) after (Err e)
      → is_refusal e ≡ false → IsCaused e 0 0 after.sight.broken
      → after.sight.broken ≡ false →
      Requested M P q h c bytes [] (finish (Err e) after.handler after.sight.client true bytes)
  starves : (after : H) (last : Client) (rest : List ℕ)
      → Requested M P q h c bytes [] (finish (Err client.OutOfMemory) after last true rest)
