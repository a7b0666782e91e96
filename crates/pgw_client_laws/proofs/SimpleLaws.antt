-- A call of a simple query with the default handler is one segment.
use Rattle.std.proofs.Common.{◌≡◌, ◌⊎◌, ℕ, Bool, true, false, List, [], ◌∷◌, ◌++◌, fold, is_some, Option, Some, None, Ok, Err, inl, inr, refl, sym, ◌∙◌, ap, subst}
use Rattle.pgw_backend.specs.ClientError.{IsUnexpected}
use Rattle.pgw_backend.specs.declared.backend.PgWireBackendMessage.{PgWireBackendMessage as Backend}
use Rattle.pgw_backend.specs.declared.backend.PgWireBackendMessage.TheVariants as backend
use Rattle.pgw_backend.specs.declared.client_error.PgWireClientError.{PgWireClientError as ClientError}
use Rattle.pgw_backend.specs.declared.client_error.PgWireClientError.TheVariants as client
use Rattle.pgw_query.specs.declared.data.DataRow.{DataRow}
use Rattle.pgw_query.specs.declared.response.CommandComplete.{CommandComplete}
use Rattle.pgw_query.specs.Rows.{ErrorResponse}
use Rattle.pgw_query.specs.declared.response.ReadyForQuery.{ReadyForQuery}
use Rattle.pgw_session.specs.declared.types.Request.TheVariants as request
use Rattle.pgw_session.specs.declared.types.Response.{Response}
use Rattle.pgw_session.specs.declared.types.Answer.TheVariants as answer
use Rattle.pgw_session.specs.declared.types.ExecuteResult.{ExecuteResult}
use Rattle.pgw_session.specs.declared.tally.Tally.{Tally}
use Rattle.pgw_session.specs.declared.tally.Opened.{Opened}
use Rattle.pgw_session.specs.declared.stage.Kind.TheVariants as kind
use Rattle.pgw_session.specs.declared.stage.Role.{Role}
use Rattle.pgw_session.specs.declared.stage.Role.TheVariants.{Taken, Misplaced}
use Rattle.pgw_session.specs.Events.{Event, Got}
use Rattle.pgw_session.specs.Requests.{kind_of, role}
use Rattle.pgw_session.specs.Segments.{IsAnswer, IsPassedOver, is_ready}
use Rattle.pgw_session.specs.Answers.{tally_after, no_tally, answer_by, tally_at}
use Rattle.pgw_handlers.specs.declared.client_info.ReadyState.TheVariants.{Pending, Ready}
use Rattle.pgw_handlers.specs.Client.{Client, Sight}
use Rattle.pgw_handlers.specs.Handling.{HandlerView, standing, CallAnswer as HandlerAnswer, IsCaused}
use Rattle.pgw_handlers.specs.Sending.{NotSent}
use Rattle.pgw_handlers.specs.Simple.{HeardInQuery, simple_query}
use Rattle.pgw_handlers_default.specs.declared.simple.DefaultSimpleQueryHandler.{DefaultSimpleQueryHandler}
use Rattle.pgw_handlers_default.specs.Simple.{with_tally, role_of, is_misplaced, NotesUnless, query_bytes, AsksSimpleQuery, QueryMeans}
use Rattle.pgw_client_calls.specs.Talk.{fresh, Next, client_after, in_place_of, passes, is_refusal, IsCutPiece, CallEnd, end, CallTalk, OpensTalk}
use Rattle.pgw_client_calls.specs.Line.{Line, Reasons, Pause}
use Rattle.pgw_handlers.specs.declared.client_info.ReadyState.{ReadyState}
use Rattle.pgw_client_laws.proofs.Openings.{IsLinkEnd, one_encoding, one_refused, never_rose, paused_ends}
use Rattle.pgw_client_laws.specs.Turns.{standing_of_client, AreExchanged, Does}
use Rattle.pgw_client_laws.specs.Turns.{IsPassing, error_behind}
use Rattle.pgw_client_laws.specs.Calls.{IsUnwritten, SimpleCallEnds}
use Rattle.pgw_client_laws.proofs.Tallies.{fold_remote, error_remote}
use Rattle.pgw_client_laws.proofs.Called.{called, cut_opening}
use Rattle.pgw_client_laws.proofs.Exchanges.{exchanged_none, got_one, got_last}
use Rattle.pgw_client_laws.proofs.Came.{in_place_of_none, Shape, Came, within, taken_onto, came_onto, lacking, lacked, Lacking, AreQuiet, PassingTo, passing_to, kept_stays}
use Rattle.pgw_wire.specs.declared.empty.EmptyResponse.{EmptyResponse}

-- ---- what a message does to the tally

-- whether rows may come is whether a result is open, and no error has come
abbrev pub Follows : Tally → Backend → Bool → Type 0
Follows t m next =
    (role kind.Simple (is_some t.opened) m ≡ Taken next) × (is_some (tally_after t m).opened ≡ next)
    × ((tally_after t m).remote ≡ None)

follows_row : (t : Tally) (row : DataRow) (o : Option Opened) → t.opened ≡ o → t.remote ≡ None
    → is_misplaced (role kind.Simple (is_some t.opened) (backend.DataRow row)) ≡ false
    → Follows t (backend.DataRow row) true
follows_row t row None is none taken =
    let misplaced : is_misplaced (role kind.Simple (is_some t.opened) (backend.DataRow row)) ≡ true =
    rw is refl in absurd (cc)
follows_row t row (Some opened) is none taken = rw (is, none) (refl, refl, refl)

follows_complete : (t : Tally) (m : CommandComplete) (x : Option (ExecuteResult (List DataRow))) → t.executed ≡ x
    → t.remote ≡ None → Follows t (backend.CommandComplete m) false
follows_complete t m None is none = rw (none, is) (refl, refl, refl)
follows_complete t m (Some x) is none = rw (none, is) (refl, refl, refl)

follows_empty : (t : Tally) (m : EmptyResponse 73) (x : Option (ExecuteResult (List DataRow))) → t.executed ≡ x
    → t.remote ≡ None → Follows t (backend.EmptyQueryResponse m) (is_some t.opened)
follows_empty t m None is none = rw (none, is) (refl, refl, refl)
follows_empty t m (Some x) is none = rw (none, is) (refl, refl, refl)

-- ---- what the default handler does with a message

-- it goes on: the message is taken, and noted
pub record Heeded (h : DefaultSimpleQueryHandler) (c : Client) (m : Backend)
    (after : HandlerView DefaultSimpleQueryHandler) : Type 0 where
  pub next : Bool
  pub follows : Follows h.tally m next
  pub tally : after.handler.tally ≡ tally_after h.tally m
  pub info : after.sight.client ≡ client_after m c
  pub wrote : after.sight.wrote ≡ []

noted : (h : DefaultSimpleQueryHandler) (c : Client) (m : Backend) (after : HandlerView DefaultSimpleQueryHandler)
    (next : Bool)
    → client_after m c ≡ c → Follows h.tally m next
    → after ≡ with_tally (tally_after h.tally m) (standing h (fresh c)) → Heeded h c m after
noted h c m after next same follows is = record {
  next = next;
  follows = follows;
  tally = ap (λ (s : HandlerView DefaultSimpleQueryHandler). s.handler.tally) is;
  info = ap (λ (s : HandlerView DefaultSimpleQueryHandler). s.sight.client) is ∙ sym same;
  wrote = ap (λ (s : HandlerView DefaultSimpleQueryHandler). s.sight.wrote) is;
}

noted_row : (h : DefaultSimpleQueryHandler) (c : Client) (row : DataRow)
    (after : HandlerView DefaultSimpleQueryHandler) (b : Bool)
    → is_misplaced (role_of h.tally (backend.DataRow row)) ≡ b → h.tally.remote ≡ None →
    NotesUnless b (standing h (fresh c)) (backend.DataRow row) after (Ok Pending)
    → Heeded h c (backend.DataRow row) after
noted_row h c row after true is none heard = absurd (heard.1)
noted_row h c row after false is none heard =
    noted h c (backend.DataRow row) after true refl (follows_row h.tally row h.tally.opened refl none is) heard.0

pub heeded : (h : DefaultSimpleQueryHandler) (c : Client) (m : Backend)
    (after : HandlerView DefaultSimpleQueryHandler)
    → h.tally.remote ≡ None → HeardInQuery QueryMeans (standing h (fresh c)) m after (Ok Pending)
    → Heeded h c m after
heeded h c (backend.RowDescription m) after none heard =
    noted h c (backend.RowDescription m) after true refl (rw none (refl, refl, refl)) heard.0
heeded h c (backend.DataRow m) after none heard =
    noted_row h c m after (is_misplaced (role_of h.tally (backend.DataRow m))) refl none heard
heeded h c (backend.CommandComplete m) after none heard =
    noted h c (backend.CommandComplete m) after false refl (follows_complete h.tally m h.tally.executed refl none)
    heard.0
heeded h c (backend.EmptyQueryResponse m) after none heard =
    noted h c (backend.EmptyQueryResponse m) after (is_some h.tally.opened) refl
    (follows_empty h.tally m h.tally.executed refl none) heard.0
heeded h c (backend.NoticeResponse m) after none heard = record {
  next = is_some h.tally.opened;
  follows = rw none (refl, refl, refl);
  tally = ap (λ (s : HandlerView DefaultSimpleQueryHandler). s.handler.tally) heard.0 ∙ rw none refl;
  info = ap (λ (s : HandlerView DefaultSimpleQueryHandler). s.sight.client) heard.0;
  wrote = ap (λ (s : HandlerView DefaultSimpleQueryHandler). s.sight.wrote) heard.0;
}
heeded h c (backend.ParameterStatus m) after none heard = record {
  next = is_some h.tally.opened;
  follows = rw none (refl, refl, refl);
  tally = ap (λ (s : HandlerView DefaultSimpleQueryHandler). s.handler.tally) heard.0 ∙ rw none refl;
  info = ap (λ (s : HandlerView DefaultSimpleQueryHandler). s.sight.client) heard.0;
  wrote = ap (λ (s : HandlerView DefaultSimpleQueryHandler). s.sight.wrote) heard.0;
}
heeded h c (backend.ReadyForQuery m) after none heard = let answer = heard.1 in absurd (cc)
heeded h c (backend.ErrorResponse m) after none heard = absurd (heard.1)
heeded h c m after none heard = absurd (heard.1)

-- it ends the query: ReadyForQuery
pub record Closed (h : DefaultSimpleQueryHandler) (c : Client) (m : Backend)
    (after : HandlerView DefaultSimpleQueryHandler) (x : List Response) : Type 0 where
  pub ready : ReadyForQuery
  pub message : m ≡ backend.ReadyForQuery ready
  pub given : x ≡ h.tally.responses
  pub info : after.sight.client ≡ client_after m c
  pub wrote : after.sight.wrote ≡ []

ready_is : {x y : List Response} → Ready x ≡ Ready y → x ≡ y
ready_is {x} {y} e = cc

abbrev ok : ReadyState (List Response) → HandlerAnswer (List Response)
ok r = Ok r

ok_ready_is : {x y : List Response} → ok (Ready x) ≡ ok (Ready y) → x ≡ y
ok_ready_is {x} {y} e = cc

pending_not : {A : Type 0} (x : List Response) → Ready x ≡ Pending → A
pending_not x e = absurd (cc)

ok_pending_not : {A : Type 0} (x : List Response) → ok (Ready x) ≡ ok Pending → A
ok_pending_not x e = absurd (cc)

closed_row : (h : DefaultSimpleQueryHandler) (c : Client) (row : DataRow)
    (after : HandlerView DefaultSimpleQueryHandler) (x : List Response) (b : Bool)
    → NotesUnless b (standing h (fresh c)) (backend.DataRow row) after (Ok (Ready x))
    → Closed h c (backend.DataRow row) after x
closed_row h c row after x true heard = absurd (heard.1)
closed_row h c row after x false heard = pending_not x heard.1

pub closed : (h : DefaultSimpleQueryHandler) (c : Client) (m : Backend)
    (after : HandlerView DefaultSimpleQueryHandler) (x : List Response)
    → HeardInQuery QueryMeans (standing h (fresh c)) m after (Ok (Ready x)) → Closed h c m after x
closed h c (backend.RowDescription m) after x heard = pending_not x heard.1
closed h c (backend.DataRow m) after x heard =
    closed_row h c m after x (is_misplaced (role_of h.tally (backend.DataRow m))) heard
closed h c (backend.CommandComplete m) after x heard = pending_not x heard.1
closed h c (backend.EmptyQueryResponse m) after x heard = pending_not x heard.1
closed h c (backend.NoticeResponse m) after x heard = ok_pending_not x heard.1
closed h c (backend.ParameterStatus m) after x heard = pending_not x heard.1
closed h c (backend.ReadyForQuery m) after x heard = record {
  ready = m;
  message = refl;
  given = ok_ready_is heard.1;
  info = ap (λ (s : HandlerView DefaultSimpleQueryHandler). s.sight.client) heard.0;
  wrote = ap (λ (s : HandlerView DefaultSimpleQueryHandler). s.sight.wrote) heard.0;
}
closed h c (backend.ErrorResponse m) after x heard = absurd (heard.1)
closed h c m after x heard = absurd (heard.1)

-- its error: memory was wanting; or it is the server's; or the message has no place
abbrev pub IsErrorOf : Tally → Backend → ClientError → Type 0
IsErrorOf t m client.OutOfMemory = Unit {0}
IsErrorOf t m (client.RemoteError x) = m ≡ backend.ErrorResponse x
IsErrorOf t m (client.UnexpectedMessage x) = (x ≡ m) × (role kind.Simple (is_some t.opened) m ≡ Misplaced)
IsErrorOf t m e = ⊥

abbrev pub Failed : DefaultSimpleQueryHandler → Client → Backend → HandlerView DefaultSimpleQueryHandler
    → ClientError → Type 0
Failed h c m after e = (after.sight ≡ fresh c) × IsErrorOf h.tally m e

unexpected_is : (t : Tally) (m : Backend) (e : ClientError) → role kind.Simple (is_some t.opened) m ≡ Misplaced
    → IsUnexpected m e → IsErrorOf t m e
unexpected_is t m client.OutOfMemory is u = tt
unexpected_is t m (client.UnexpectedMessage x) is u = (u, is)
unexpected_is t m e is u = absurd u

memory_is : (t : Tally) (m : Backend) (e : ClientError) → e ≡ client.OutOfMemory → IsErrorOf t m e
memory_is t m e is = subst (IsErrorOf t m) (sym is) tt

sight_is : {h : DefaultSimpleQueryHandler} {s : Sight} {after : HandlerView DefaultSimpleQueryHandler}
    → after ≡ standing h s → after.sight ≡ s
sight_is is = ap (λ (s : HandlerView DefaultSimpleQueryHandler). s.sight) is

misplaced_row : (t : Tally) (row : DataRow) (o : Option Opened) → t.opened ≡ o
    → is_misplaced (role kind.Simple (is_some t.opened) (backend.DataRow row)) ≡ true
    → role kind.Simple (is_some t.opened) (backend.DataRow row) ≡ Misplaced
misplaced_row t row None is so = rw is refl
misplaced_row t row (Some o) is so =
    let taken : is_misplaced (role kind.Simple (is_some t.opened) (backend.DataRow row)) ≡ false =
    rw is refl in absurd (cc)

failed_row : (h : DefaultSimpleQueryHandler) (c : Client) (row : DataRow)
    (after : HandlerView DefaultSimpleQueryHandler) (e : ClientError) (b : Bool)
    → is_misplaced (role_of h.tally (backend.DataRow row)) ≡ b →
    NotesUnless b (standing h (fresh c)) (backend.DataRow row) after (Err e)
    → Failed h c (backend.DataRow row) after e
failed_row h c row after e true is heard = (
  sight_is heard.0,
  unexpected_is h.tally (backend.DataRow row) e
      (misplaced_row h.tally row h.tally.opened refl is) heard.1,
)
failed_row h c row after e false is heard = (heard.0, memory_is h.tally (backend.DataRow row) e heard.1)

pub failed : (h : DefaultSimpleQueryHandler) (c : Client) (m : Backend)
    (after : HandlerView DefaultSimpleQueryHandler) (e : ClientError)
    → HeardInQuery QueryMeans (standing h (fresh c)) m after (Err e) → Failed h c m after e
failed h c (backend.RowDescription m) after e heard =
    (heard.0, memory_is h.tally (backend.RowDescription m) e heard.1)
failed h c (backend.DataRow m) after e heard =
    failed_row h c m after e (is_misplaced (role_of h.tally (backend.DataRow m))) refl heard
failed h c (backend.CommandComplete m) after e heard =
    (heard.0, memory_is h.tally (backend.CommandComplete m) e heard.1)
failed h c (backend.EmptyQueryResponse m) after e heard =
    (heard.0, memory_is h.tally (backend.EmptyQueryResponse m) e heard.1)
failed h c (backend.NoticeResponse m) after e heard = let answer = heard.1 in absurd (cc)
failed h c (backend.ParameterStatus m) after e heard =
    (sight_is heard.0, memory_is h.tally (backend.ParameterStatus m) e heard.1)
failed h c (backend.ReadyForQuery m) after e heard = let answer = heard.1 in absurd (cc)
failed h c (backend.ErrorResponse m) after e heard =
    (sight_is heard.0, subst (IsErrorOf h.tally (backend.ErrorResponse m)) (sym heard.1) refl)
failed h c m after e heard = (sight_is heard.0, unexpected_is h.tally m e refl heard.1)

-- ---- a call, by what it comes to

abbrev Handler : Type 0
Handler = DefaultSimpleQueryHandler

-- where a query stands, and how its events go from there
abbrev from : List ℕ → Tally → Shape
from q t = within (request.Simple q) (is_some t.opened) t

abbrev To : List ℕ → Reasons → Tally → Client → List ℕ → List ℕ → CallEnd (List Response) → Type 0
To q P t c bytes sent end =
    Came (from q t) answer.Responses P c bytes sent end.info end.rest end.answer end.broken

pub answered_none : (q : List ℕ) (t : Tally) (ready : ReadyForQuery) → t.remote ≡ None
    → answer_by (request.Simple q) (tally_after t (backend.ReadyForQuery ready)) ≡ answer.Responses t.responses
answered_none q t ready none = rw none refl

hears_on : (q : List ℕ) (P : Reasons) (h : Handler) (c : Client) (bytes : List ℕ) (m : Backend) (rest : List ℕ)
    (after : HandlerView Handler) (sent : List ℕ) (last : CallEnd (List Response))
    → h.tally.remote ≡ None →
    Next c bytes m rest → Heeded h c m after → To q P after.handler.tally after.sight.client rest sent last
    → To q P h.tally c bytes (after.sight.wrote ++ sent) last
hears_on q P h c bytes m rest after sent last none next heeds x =
    let t = tally_after h.tally m in
    let taken : role (kind_of (request.Simple q)) (is_some h.tally.opened) m ≡ Taken (is_some t.opened) =
    heeds.follows.0 ∙ ap Taken (sym heeds.follows.1) in
    let y : To q P t after.sight.client rest sent last =
    subst (λ (u : Tally). To q P u after.sight.client rest sent last) heeds.tally x in
    let z : To q P h.tally c bytes sent last =
    came_onto (from q t) (from q h.tally) after.sight.client c rest bytes [] sent last.info last.rest
    (taken_onto (request.Simple q) (is_some h.tally.opened) (is_some t.opened) h.tally c after.sight.client m
    bytes rest taken next heeds.info) answer.Responses P last.answer last.broken y in
    subst (λ (w : List ℕ). To q P h.tally c bytes (w ++ sent) last) (sym heeds.wrote) z

closes_on : (q : List ℕ) (P : Reasons) (h : Handler) (c : Client) (bytes : List ℕ) (m : Backend) (rest : List ℕ)
    (after : HandlerView Handler) (x : List Response)
    → h.tally.remote ≡ None →
    Next c bytes m rest → Closed h c m after x
    → To q P h.tally c bytes after.sight.wrote (end (Ok x) after.sight.client false rest)
closes_on q P h c bytes m rest after x none next closed =
    let segment : IsAnswer kind.Simple (is_some h.tally.opened) (Got m ∷ []) =
    rw closed.message (record {
      ms = [];
      behind = is_some h.tally.opened;
      last = backend.ReadyForQuery closed.ready;
      rest = [];
      are = refl;
      taken = refl;
      ends = refl;
    }) in
    let given : answer_by (request.Simple q) (tally_after h.tally m) ≡ answer.Responses x =
    rw (closed.message, closed.given) (answered_none q h.tally closed.ready none) in
    subst (λ (d : Client). Does
    (λ es. IsAnswer kind.Simple (is_some h.tally.opened) es ×
    (answer_by (request.Simple q) (fold tally_at h.tally es) ≡ answer.Responses x)) c bytes
    after.sight.wrote d rest) (sym closed.info)
    (subst (λ (w : List ℕ). Does
    (λ es. IsAnswer kind.Simple (is_some h.tally.opened) es ×
    (answer_by (request.Simple q) (fold tally_at h.tally es) ≡ answer.Responses x)) c bytes w
    (client_after m c) rest) (sym closed.wrote)
    (Got m ∷ [], (segment, given), got_last c m bytes rest next))

-- ---- behind an error

told_misplaced : (c : Client) (rows : Bool) (m : Backend) → role kind.Simple rows m ≡ Misplaced
    → client_after m c ≡ c
told_misplaced c rows (backend.ParameterStatus m) is = absurd (cc)
told_misplaced c rows (backend.ReadyForQuery m) is = absurd (cc)
told_misplaced c rows m is = refl

pub answered_remote : (q : List ℕ) (t : Tally) (e : ErrorResponse) → t.remote ≡ Some e
    → answer_by (request.Simple q) t ≡ answer.Remote e
answered_remote q t e is = rw is refl

-- what is exchanged behind a message that tells nothing
behind : (c d : Client) (m : Backend) (bytes rest : List ℕ) (es : List Event) (info : Client) (left : List ℕ)
    → Next c bytes m rest → client_after m c ≡ c → d ≡ c →
    AreExchanged d.config (standing_of_client d) rest [] es info left
    → AreExchanged c.config (standing_of_client c) bytes [] (Got m ∷ es) info left
behind c d m bytes rest es info left next same is x =
    got_one c d m bytes rest [] es info left next (is ∙ sym same) x

error_answered : (q : List ℕ) (t : Tally) (e : ErrorResponse) (es : List Event) → t.remote ≡ None
    → IsPassedOver es → (from q t).answered (answer.Remote e) (Got (backend.ErrorResponse e) ∷ es)
error_answered q t e es none passed = (
  record {
    ms = [];
    behind = is_some t.opened;
    last = backend.ErrorResponse e;
    rest = es;
    are = refl;
    taken =
        refl;
    ends = (es, refl, passed);
  },
  answered_remote q (fold tally_at (tally_after t (backend.ErrorResponse e)) es) e
      (fold_remote (tally_after t (backend.ErrorResponse e)) e es (error_remote t e none)),
)

error_stops : (q : List ℕ) (t : Tally) (e : ErrorResponse) (es : List Event) → AreQuiet es
    → (from q t).stops (client.RemoteError e) (Got (backend.ErrorResponse e) ∷ es)
error_stops q t e es quiet =
    record {
      ms = [];
      behind = is_some t.opened;
      rest = Got (backend.ErrorResponse e) ∷ es;
      are = refl;
      taken =
          refl;
      ends = inr (backend.ErrorResponse e, es, refl, (quiet.0, quiet.1, quiet.2), refl);
    }

message_passed : (q : List ℕ) (t : Tally) (m : Backend) (es : List Event)
    → role kind.Simple (is_some t.opened) m ≡ Misplaced → IsPassedOver es → (from q t).passed m (Got m ∷ es)
message_passed q t m es is passed =
    record {
      ms = [];
      behind = is_some t.opened;
      rest = es;
      are = refl;
      taken = refl;
      misplaced = is;
      passed =
          passed;
      passes = refl;
    }

message_stops : (q : List ℕ) (t : Tally) (m : Backend) (es : List Event)
    → role kind.Simple (is_some t.opened) m ≡ Misplaced → AreQuiet es
    → (from q t).stops (client.UnexpectedMessage m) (Got m ∷ es)
message_stops q t m es is quiet =
    record {
      ms = [];
      behind = is_some t.opened;
      rest = Got m ∷ es;
      are = refl;
      taken = refl;
      ends = inr (
        m,
        es,
        refl,
        subst (λ (r : Role). IsPassing kind.Simple r es) (sym is) (quiet.0, quiet.1, quiet.2, refl),
        ap (λ (r : Role). error_behind r m es) (sym is),
      );
    }

pub not_misplaced : (rows : Bool) (m : Backend) → is_ready m ≡ true → role kind.Simple rows m ≡ Misplaced → ⊥
not_misplaced rows (backend.ReadyForQuery m) ready is = cc
not_misplaced rows m ready is = cc

module _ (q : List ℕ) (P : Reasons) (ends : (x : ClientError) → P.halts x → IsLinkEnd x) (h : Handler)
    (none : h.tally.remote ≡ None) (c : Client) (bytes : List ℕ) (m : Backend) (rest : List ℕ)
    (next : Next c bytes m rest) (after : HandlerView Handler) (same : after.sight ≡ fresh c) where
  known : after.sight.client ≡ c
  known = ap (λ (s : Sight). s.client) same

  error_passes_over : (e : ErrorResponse) (x : ClientError) (last : Client) (left : List ℕ) (broken : Bool)
      → m ≡ backend.ErrorResponse e
      → PassingTo P (client.RemoteError e) after.sight.client rest x last left broken →
      To q P h.tally c bytes [] (end (Err x) last broken left)
  error_passes_over e x last left false is d =
      let y = d.0 in
      let kept_is : x ≡ client.RemoteError e = d.1 ∙ kept_stays (client.RemoteError e) (y.1).ms refl in
      subst (λ (z : ClientError). To q P h.tally c bytes [] (end (Err z) last false left)) (sym kept_is) (
        Got m ∷ y.0,
        subst (λ (z : Backend). (from q h.tally).answered (answer.Remote e) (Got z ∷ y.0)) (sym is)
            (error_answered q h.tally e y.0 none y.1),
        behind c after.sight.client m bytes rest y.0 last left next
            (ap (λ (z : Backend). client_after z c) is) known y.2,
      )
  error_passes_over e x last left true is (inl starved) =
      subst (λ (z : ClientError). To q P h.tally c bytes [] (end (Err z) last true left)) (sym starved) (inl refl)
  error_passes_over e x last left true is (inr d) =
      let y = d.0 in
      let kept_is : x ≡ in_place_of (client.RemoteError e) d.1 =
      d.2 ∙ ap (λ (z : ClientError). in_place_of z d.1) (kept_stays (client.RemoteError e) (y.1).0 refl) in
      subst (λ (z : ClientError). To q P h.tally c bytes [] (end (Err z) last true left)) (sym kept_is)
      (lacked (List Response) (from q h.tally) P ends c bytes [] last left (client.RemoteError e) d.1 tt d.3 (
        Got m ∷ y.0,
        subst (λ (z : Backend). (from q h.tally).stops (client.RemoteError e) (Got z ∷ y.0)) (sym is)
            (error_stops q h.tally e y.0 y.1),
        behind c after.sight.client m bytes rest y.0 last left next
            (ap (λ (z : Backend). client_after z c) is) known y.2,
      ))

  message_passes_over : (x : ClientError) (last : Client) (left : List ℕ) (broken : Bool)
      → role kind.Simple (is_some h.tally.opened) m ≡ Misplaced
      → PassingTo P (client.UnexpectedMessage m) after.sight.client rest x last left broken →
      To q P h.tally c bytes [] (end (Err x) last broken left)
  message_passes_over x last left false is d =
      let y = d.0 in
      let kept_is : x ≡ client.UnexpectedMessage m =
      d.1 ∙ kept_stays (client.UnexpectedMessage m) (y.1).ms refl in
      subst (λ (z : ClientError). To q P h.tally c bytes [] (end (Err z) last false left)) (sym kept_is) (
        Got m ∷ y.0,
        message_passed q h.tally m y.0 is y.1,
        behind c after.sight.client m bytes rest y.0 last left
            next (told_misplaced c (is_some h.tally.opened) m is) known y.2,
      )
  message_passes_over x last left true is (inl starved) =
      subst (λ (z : ClientError). To q P h.tally c bytes [] (end (Err z) last true left)) (sym starved) (inl refl)
  message_passes_over x last left true is (inr d) =
      let y = d.0 in
      let kept_is : x ≡ in_place_of (client.UnexpectedMessage m) d.1 =
      d.2 ∙ ap (λ (z : ClientError). in_place_of z d.1) (kept_stays (client.UnexpectedMessage m) (y.1).0 refl)
      in
      subst (λ (z : ClientError). To q P h.tally c bytes [] (end (Err z) last true left)) (sym kept_is)
      (lacked (List Response) (from q h.tally) P ends c bytes [] last left (client.UnexpectedMessage m) d.1 refl
      d.3 (
        Got m ∷ y.0,
        message_stops q h.tally m y.0 is y.1,
        behind c after.sight.client m bytes rest y.0 last left
            next (told_misplaced c (is_some h.tally.opened) m is) known y.2,
      ))

  passes_over_on : (e x : ClientError) (last : Client) (left : List ℕ) (broken : Bool) → IsErrorOf h.tally m e
      → passes e ≡ true → PassingTo P e after.sight.client rest x last left broken
      → To q P h.tally c bytes [] (end (Err x) last broken left)
  passes_over_on (client.RemoteError e) x last left broken is passed d =
      error_passes_over e x last left broken is d
  passes_over_on (client.UnexpectedMessage n) x last left broken is passed d =
      message_passes_over x last left broken is.1
      (subst (λ (z : Backend). PassingTo P (client.UnexpectedMessage z) after.sight.client rest x last left
      broken) is.0 d)
  passes_over_on e x last left broken is passed d = let no_error : false ≡ true = passed in absurd (cc)

  breaks_on : (e : ClientError) → IsErrorOf h.tally m e → passes e ≡ false
      → To q P h.tally c bytes [] (end (Err e) after.sight.client true rest)
  breaks_on client.OutOfMemory is why = inl refl
  breaks_on (client.RemoteError e) is why = absurd (cc)
  breaks_on (client.UnexpectedMessage e) is why = absurd (cc)
  breaks_on e is why = absurd is

  fails_on : (e : ClientError) → IsErrorOf h.tally m e → passes e ≡ true → is_ready m ≡ true
      → To q P h.tally c bytes [] (end (Err e) after.sight.client false rest)
  fails_on (client.RemoteError e) is passed ready = let other : is_ready m ≡ false = rw is refl in absurd (cc)
  fails_on (client.UnexpectedMessage e) is passed ready =
      absurd (not_misplaced (is_some h.tally.opened) m ready is.1)
  fails_on e is passed ready = let no_error : false ≡ true = passed in absurd (cc)

-- ---- the messages of a query

lacks_on : (q : List ℕ) (P : Reasons) (ends : (x : ClientError) → P.halts x → IsLinkEnd x) (h : Handler)
    (c : Client) (bytes rest : List ℕ) (e : ClientError)
    → (e ≡ client.OutOfMemory) ⊎ (Lacking P c rest e × (rest ≡ bytes)) →
    To q P h.tally c bytes [] (end (Err e) c true rest)
lacks_on q P ends h c bytes rest e (inl starved) =
    subst (λ (z : ClientError). To q P h.tally c bytes [] (end (Err z) c true rest)) (sym starved) (inl refl)
lacks_on q P ends h c bytes rest e (inr l) =
    subst (λ (z : ClientError). To q P h.tally c bytes [] (end (Err z) c true rest)) (in_place_of_none e)
    (lacked (List Response) (from q h.tally) P ends c bytes [] c rest client.UnexpectedEOF e tt l.0 (
      [],
      record {
        ms = [];
        behind = is_some h.tally.opened;
        rest = [];
        are = refl;
        taken = refl;
        ends = inl (refl, refl);
      },
      subst (λ (b : List ℕ). AreExchanged c.config (standing_of_client c) b [] [] c
          rest) l.1 (exchanged_none c.config (standing_of_client c) rest),
    ))

pub unwritten_not : (P : Reasons) (h : Handler) (c : Client) (m : Backend) (after : HandlerView Handler)
    (answer : ReadyState (List Response)) (part : List ℕ)
    → h.tally.remote ≡ None → HeardInQuery QueryMeans (standing h (fresh c)) m after (Ok answer)
    → IsCutPiece P after.sight.wrote part → ⊥
unwritten_not P h c m after Pending part none heard cut = cut.0 (heeded h c m after none heard).wrote
unwritten_not P h c m after (Ready x) part none heard cut = cut.0 (closed h c m after x heard).wrote

pub talk_to : (q : List ℕ) (P : Reasons) (ends : (x : ClientError) → P.halts x → IsLinkEnd x) (h : Handler)
    (c : Client) (bytes sent : List ℕ) (last : CallEnd (List Response))
    → CallTalk (HeardInQuery QueryMeans) P passes h c bytes sent last →
    h.tally.remote ≡ None → To q P h.tally c bytes sent last
talk_to q P ends _ _ _ _ _ (CallTalk.lacks h c bytes rest e l) none =
    lacks_on q P ends h c bytes rest e (lacking P c bytes rest e l)
talk_to q P ends _ _ _ _ _ (CallTalk.hears h c bytes m rest after sent last next heard usable quiet talk) none =
    let heeds = heeded h c m after none heard in
    hears_on q P h c bytes m rest after sent last none next heeds
    (talk_to q P ends after.handler after.sight.client rest sent last talk
    (ap (λ (t : Tally). t.remote) heeds.tally
    ∙ heeds.follows.2))
talk_to q P ends _ _ _ _ _ (CallTalk.closes h c bytes m rest after x next heard usable ready) none =
    closes_on q P h c bytes m rest after x none next (closed h c m after x heard)
talk_to q P ends _ _ _ _ _ (CallTalk.unwritten h c bytes m rest after answer part next heard usable cut) none =
    absurd (unwritten_not P h c m after answer part none heard cut)
talk_to q P ends _ _ _ _ _ (CallTalk.breaks h c bytes m rest after e next heard caused why usable) none =
    let f = failed h c m after e heard in
    breaks_on q P ends h none c bytes m rest next after f.0 e f.1 why
talk_to q P ends _ _ _ _ _ (CallTalk.fails h c bytes m rest after e next heard goes usable ready) none =
    let f = failed h c m after e heard in
    fails_on q P ends h none c bytes m rest next after f.0 e f.1 goes ready
talk_to q P ends _ _ _ _ _
    (CallTalk.passes_over h c bytes m rest after e x last left broken next heard goes usable other passing) none =
    let f = failed h c m after e heard in
    passes_over_on q P ends h none c bytes m rest next after f.0 e x last left broken f.1 goes
    (passing_to P e after.sight.client rest x last left broken passing)
talk_to q P ends _ _ _ _ _ (CallTalk.starves h c bytes last rest) none = inl refl

-- ---- a query

-- the opening of a query
opened_to : (q : List ℕ) (P : Reasons) (ends : (x : ClientError) → P.halts x → IsLinkEnd x) (h : Handler)
    (c : Client) (bytes sent : List ℕ) (last : CallEnd (List Response)) (after : HandlerView Handler)
    → AsksSimpleQuery q (standing h (fresh c)) after (Ok Pending) →
    CallTalk (HeardInQuery QueryMeans) P passes after.handler after.sight.client bytes sent last
    → SimpleCallEnds q c bytes (after.sight.wrote ++ sent) P last
opened_to q P ends h c bytes sent last after asks talk =
    let s = asks.1 in
    let info : after.sight.client ≡ c = ap (λ (x : Sight). x.client) s.after in
    let wrote : after.sight.wrote ≡ s.bytes = ap (λ (x : Sight). x.wrote) s.after in
    let x =
    talk_to q P ends after.handler after.sight.client bytes sent last talk
    (ap (λ (t : Tally). t.remote) asks.0) in
    let y : To q P no_tally c bytes sent last =
    subst (λ (d : Client). To q P no_tally d bytes sent last) info
    (subst (λ (t : Tally). To q P t after.sight.client bytes sent last) asks.0 x) in
    subst (λ (w : List ℕ). SimpleCallEnds q c bytes (w ++ sent) P last) (sym wrote)
    (called answer.Responses P (request.Simple q) c s.bytes bytes sent last.info last.rest last.answer last.broken
    (one_encoding _ s.bytes s.spells) y)

-- the opening was not written whole, or not flushed
pub unwritten_opening : (q : List ℕ) (P : Reasons) (h : Handler) (c : Client) (bytes part : List ℕ)
    (after : HandlerView Handler)
    → AsksSimpleQuery q (standing h (fresh c)) after (Ok Pending) → IsCutPiece P after.sight.wrote part →
    IsUnwritten P (request.Simple q) c bytes part after.sight.client bytes
unwritten_opening q P h c bytes part after asks cut =
    let s = asks.1 in
    let wrote : after.sight.wrote ≡ s.bytes = ap (λ (x : Sight). x.wrote) s.after in
    cut_opening P (request.Simple q) c bytes part cut.1 after.sight.client cut.3 (one_encoding _ _ (s.spells
    ∙ ap Ok (sym wrote ∙ cut.2))) (ap (λ (x : Sight). x.client) s.after)

refused_to : (q : List ℕ) (P : Reasons) (h : Handler) (c : Client) (bytes : List ℕ) (after : HandlerView Handler)
    (e : ClientError)
    → AsksSimpleQuery q (standing h (fresh c)) after (Err e) → is_refusal e ≡ true →
    SimpleCallEnds q c bytes [] P (end (Err e) after.sight.client false bytes)
refused_to q P h c bytes after (client.PgWireError why) asks is = go asks.1
  where
    go : NotSent (query_bytes q) (fresh c) after.sight (client.PgWireError why)
        ⊎ ((after.sight ≡ fresh c) × (client.PgWireError why ≡ client.OutOfMemory))
        → SimpleCallEnds q c bytes [] P (end (Err (client.PgWireError why)) after.sight.client false bytes)
    go (inl n) = (one_refused _ why n.1, refl, ap (λ (x : Sight). x.client) n.2, refl)
    go (inr n) = let other = n.1 in absurd (cc)
refused_to q P h c bytes after e asks is = let not_one : false ≡ true = is in absurd (cc)

unsent_to : (q : List ℕ) (P : Reasons) (h : Handler) (c : Client) (bytes : List ℕ) (after : HandlerView Handler)
    (e : ClientError)
    → NotSent (query_bytes q) (fresh c) after.sight e → IsCaused e 0 0 after.sight.broken → is_refusal e ≡ false →
    SimpleCallEnds q c bytes [] P (end (Err e) after.sight.client true bytes)
unsent_to q P h c bytes after client.OutOfMemory n caused why = inl refl
unsent_to q P h c bytes after client.Broken n caused why = let broken : false ≡ true = n.0 in absurd (cc)
unsent_to q P h c bytes after client.IoError n caused why = absurd (never_rose caused)
unsent_to q P h c bytes after (client.PgWireError x) n caused why =
    let refusal : true ≡ false = why in absurd (cc)
unsent_to q P h c bytes after e n caused why = absurd n

breaks_to : (q : List ℕ) (P : Reasons) (h : Handler) (c : Client) (bytes : List ℕ) (after : HandlerView Handler)
    (e : ClientError)
    → AsksSimpleQuery q (standing h (fresh c)) after (Err e) → IsCaused e 0 0 after.sight.broken
    → is_refusal e ≡ false →
    SimpleCallEnds q c bytes [] P (end (Err e) after.sight.client true bytes)
breaks_to q P h c bytes after e asks caused why = go asks.1
  where
    go : NotSent (query_bytes q) (fresh c) after.sight e ⊎ ((after.sight ≡ fresh c) × (e ≡ client.OutOfMemory))
        → SimpleCallEnds q c bytes [] P (end (Err e) after.sight.client true bytes)
    go (inl n) = unsent_to q P h c bytes after e n caused why
    go (inr n) =
        subst (λ (z : ClientError). SimpleCallEnds q c bytes [] P (end (Err z) after.sight.client true bytes))
        (sym n.1) (inl refl)

pub asked_to : (q : List ℕ) (P : Reasons) (ends : (x : ClientError) → P.halts x → IsLinkEnd x) (h : Handler)
    (c : Client) (bytes sent : List ℕ) (last : CallEnd (List Response)) →
    OpensTalk (λ old new answer. QueryMeans old (simple_query q) new answer) (HeardInQuery QueryMeans) P passes h
    c bytes sent last
    → SimpleCallEnds q c bytes sent P last
asked_to q P ends h c bytes _ _ (OpensTalk.opened after sent last asks usable talk) =
    opened_to q P ends h c bytes sent last after asks talk
asked_to q P ends h c bytes _ _ (OpensTalk.unwritten after part asks usable cut) =
    inr (unwritten_opening q P h c bytes part after asks cut)
asked_to q P ends h c bytes _ _ (OpensTalk.refused after e asks is usable) =
    refused_to q P h c bytes after e asks is
asked_to q P ends h c bytes _ _ (OpensTalk.breaks after e asks caused why usable) =
    breaks_to q P h c bytes after e asks caused why
asked_to q P ends h c bytes _ _ (OpensTalk.starves last rest) = inl refl

pub simple_call : (q : List ℕ) (before now : Line) (h : Handler) (c : Client) (bytes sent : List ℕ)
    (last : CallEnd (List Response)) →
    OpensTalk (λ old new answer. QueryMeans old (simple_query q) new answer) (HeardInQuery QueryMeans)
    (Pause before now) passes h c bytes sent last
    → SimpleCallEnds q c bytes sent (Pause before now) last
simple_call q before now h c bytes sent last asked =
    asked_to q (Pause before now) (paused_ends before now) h c bytes sent last asked
