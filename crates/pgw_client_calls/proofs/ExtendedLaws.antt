-- The steps of a call of extended queries.
use Rattle.std.proofs.Common.{◌≡◌, ◌⊎◌, Bool, true, false, List, [], ◌∷◌, ◌++◌, Option, Some, Result, Ok, Err, refl, sym, ap, subst, ◌∙◌, inl, inr}
use Rattle.pgw_frontend.specs.declared.frontend.PgWireFrontendMessage.{PgWireFrontendMessage as Frontend}
use Rattle.pgw_frontend.specs.declared.frontend.PgWireFrontendMessage.TheVariants as frontend
use Rattle.pgw_ext.specs.declared.parse.Parse.{Parse}
use Rattle.pgw_ext.specs.declared.bind.Bind.{Bind}
use Rattle.pgw_ext.specs.declared.execute.Execute.{Execute}
use Rattle.pgw_ext.specs.declared.target.Describe.{Describe}
use Rattle.pgw_ext.specs.declared.target.Close.{Close}
use Rattle.pgw_backend.specs.declared.client_error.PgWireClientError.{PgWireClientError as ClientError}
use Rattle.pgw_backend.specs.declared.client_error.PgWireClientError.TheVariants as client
use Rattle.pgw_backend.specs.declared.backend.PgWireBackendMessage.{PgWireBackendMessage as Backend}
use Rattle.pgw_backend.specs.declared.backend.PgWireBackendMessage.TheVariants as backend
use Rattle.pgw_query.specs.declared.data.RowDescription.{RowDescription}
use Rattle.pgw_query.specs.declared.data.DataRow.{DataRow}
use Rattle.pgw_query.specs.declared.description.ParameterDescription.{ParameterDescription}
use Rattle.pgw_query.specs.declared.response.CommandComplete.{CommandComplete}
use Rattle.pgw_query.specs.Rows.{NoticeResponse}
use Rattle.pgw_query.specs.declared.notification.NotificationResponse.{NotificationResponse}
use Rattle.pgw_session.specs.declared.stage.Kind.{Kind}
use Rattle.pgw_session.specs.declared.stage.Role.TheVariants.{Failing}
use Rattle.pgw_handlers.specs.Client.{Client, Sight}
use Rattle.pgw_handlers.specs.Handling.{HandlerView, standing, CallAnswer, OfError}
use Rattle.pgw_handlers.specs.Extended.{ExtendedCall, on_portal_suspended, on_notice, on_notification, given_nothing, sync, nothing}
use Rattle.pgw_client_calls.specs.declared.gathered.Gathered.{Gathered}
use Rattle.pgw_client_calls.specs.Talk.{fresh, client_after, first_error_of}
use Rattle.pgw_client_calls.specs.Line.{Line}
use Rattle.pgw_client_calls.specs.Reading.{PassedOver}
use Rattle.pgw_client_calls.specs.Calls.{HandlerOpens as Begins, starved, wrote, cut, refused}
use Rattle.pgw_client_calls.specs.Extended.{Meaning, calls_for, call_for, HeedsBy, RefusesBy, call_role, CallsInOrder, opened, goes, stops}
use Rattle.pgw_client_calls.specs.ExtendedSteps as steps
use Rattle.pgw_client_calls.specs.ExtendedSteps.{Heeded, heeds, refuses, wants, TookMessage, Synced, spares, sends, cuts, SettlesSync, passed_answer, is_sync_due, state_or_error, HeededOne, TookOne, LineExchange, HeededNext, MakesCall, AnswersGathered, gathered_as}
use Rattle.pgw_client_calls.proofs.CallLaws.{opened_well}
use Rattle.pgw_wire.specs.declared.empty.EmptyRequest.{EmptyRequest}
use Rattle.pgw_wire.specs.declared.empty.EmptyResponse.{EmptyResponse}

-- ---- openings

pub opens_call : {H R : Type 0} (M : Meaning H R) (call : ExtendedCall) (s s1 : HandlerView H)
    (r : Result (Unit {0}) ClientError)
    → M s call s1 (given_nothing r) → CallsInOrder M (call ∷ []) s s1 r
opens_call M call s s1 (Ok x) heard = goes call [] s s1 s1 (Ok tt) heard (opened s1)
opens_call M call s s1 (Err e) heard = stops call [] s s1 e heard

-- openings behind one another
opens_both : {H R : Type 0} (M : Meaning H R) (calls more : List ExtendedCall) (s s1 s2 : HandlerView H)
    (r : Result (Unit {0}) ClientError)
    → CallsInOrder M calls s s1 (Ok tt) → CallsInOrder M more s1 s2 r → CallsInOrder M (calls ++ more) s s2 r
opens_both M calls more s s1 s2 r (opened s3) o = o
opens_both M calls more s s1 s2 r (goes call calls2 s3 mid s4 r2 heard rest) o =
    goes call (calls2 ++ more) s mid s2 r heard (opens_both M calls2 more mid s1 s2 r rest o)

-- an error ends them
opens_short : {H R : Type 0} (M : Meaning H R) (calls more : List ExtendedCall) (s s1 : HandlerView H)
    (e : ClientError)
    → CallsInOrder M calls s s1 (Err e) → CallsInOrder M (calls ++ more) s s1 (Err e)
opens_short M calls more s s1 e (goes call calls2 s3 mid s4 r2 heard rest) =
    goes call (calls2 ++ more) s mid s1 (Err e) heard (opens_short M calls2 more mid s1 e rest)
opens_short M calls more s s1 e (stops call calls2 s3 s4 e2 heard) = stops call (calls2 ++ more) s s1 e heard

one_call : (m : Frontend) (ms : List Frontend) → calls_for (m ∷ ms) ≡ calls_for (m ∷ []) ++ calls_for ms
one_call (frontend.Parse x) ms = refl
one_call (frontend.Bind x) ms = refl
one_call (frontend.Execute x) ms = refl
one_call (frontend.Describe x) ms = refl
one_call (frontend.Close x) ms = refl
one_call (frontend.Sync x) ms = refl
one_call (frontend.Flush x) ms = refl
one_call m ms = refl

pub opens_on : {H R : Type 0} (M : Meaning H R) (m : Frontend) (all ms : List Frontend) (s s1 s2 : HandlerView H)
    (r : Result (Unit {0}) ClientError)
    → all ≡ m ∷ ms → CallsInOrder M (calls_for (m ∷ [])) s s1 (Ok tt) → CallsInOrder M (calls_for ms) s1 s2 r
    → CallsInOrder M (calls_for all) s s2 r
opens_on M m all ms s s1 s2 r is one o =
    subst (λ (calls : List ExtendedCall). CallsInOrder M calls s s2 r) (sym (ap calls_for is
    ∙ one_call m ms)) (opens_both M (calls_for (m ∷ [])) (calls_for ms) s s1 s2 r one o)

pub opens_until : {H R : Type 0} (M : Meaning H R) (m : Frontend) (all ms : List Frontend) (s s1 : HandlerView H)
    (e : ClientError)
    → all ≡ m ∷ ms → CallsInOrder M (calls_for (m ∷ [])) s s1 (Err e)
    → CallsInOrder M (calls_for all) s s1 (Err e)
opens_until M m all ms s s1 e is one =
    subst (λ (calls : List ExtendedCall). CallsInOrder M calls s s1 (Err e)) (sym (ap calls_for is
    ∙ one_call m ms)) (opens_short M (calls_for (m ∷ [])) (calls_for ms) s s1 e one)

pub opens_none : {H R : Type 0} (M : Meaning H R) (ms : List Frontend) (s : HandlerView H) → ms ≡ []
    → CallsInOrder M (calls_for ms) s s (Ok tt)
opens_none M ms s is = subst (λ (l : List Frontend). CallsInOrder M (calls_for l) s s (Ok tt)) (sym is) (opened s)

-- a message that has no function
pub opens_nothing : {H R : Type 0} (M : Meaning H R) (m : Frontend) (s : HandlerView H)
    → ((x : Parse) → m ≡ frontend.Parse x → ⊥) → ((x : Bind) → m ≡ frontend.Bind x → ⊥)
    → ((x : Execute) → m ≡ frontend.Execute x → ⊥) → ((x : Describe) → m ≡ frontend.Describe x → ⊥)
    → ((x : Close) → m ≡ frontend.Close x → ⊥) → ((x : EmptyRequest 83) → m ≡ frontend.Sync x → ⊥)
    → ((x : EmptyRequest 72) → m ≡ frontend.Flush x → ⊥) → CallsInOrder M (calls_for (m ∷ [])) s s (Ok tt)
opens_nothing M (frontend.Parse x) s a b c d e f g = absurd (a x refl)
opens_nothing M (frontend.Bind x) s a b c d e f g = absurd (b x refl)
opens_nothing M (frontend.Execute x) s a b c d e f g = absurd (c x refl)
opens_nothing M (frontend.Describe x) s a b c d e f g = absurd (d x refl)
opens_nothing M (frontend.Close x) s a b c d e f g = absurd (e x refl)
opens_nothing M (frontend.Sync x) s a b c d e f g = absurd (f x refl)
opens_nothing M (frontend.Flush x) s a b c d e f g = absurd (g x refl)
opens_nothing M m s a b c d e f g = opened s

-- ---- one message

-- a message that no function heeds
pub heeded_none : {H R : Type 0} (M : Meaning H R) (h : H) (c : Client) (g : Gathered (List R)) (m : Backend)
    → ((x : ParameterDescription) → m ≡ backend.ParameterDescription x → ⊥)
    → ((x : RowDescription) → m ≡ backend.RowDescription x → ⊥)
    → ((x : DataRow) → m ≡ backend.DataRow x → ⊥) → ((x : CommandComplete) → m ≡ backend.CommandComplete x → ⊥)
    → ((x : EmptyResponse 115) → m ≡ backend.PortalSuspended x → ⊥)
    → ((x : NoticeResponse) → m ≡ backend.NoticeResponse x → ⊥)
    → ((x : NotificationResponse) → m ≡ backend.NotificationResponse x → ⊥) → Heeded M h c g m h g (Ok tt)
heeded_none M h c g (backend.ParameterDescription x) a b d e f i j = absurd (a x refl)
heeded_none M h c g (backend.RowDescription x) a b d e f i j = absurd (b x refl)
heeded_none M h c g (backend.DataRow x) a b d e f i j = absurd (d x refl)
heeded_none M h c g (backend.CommandComplete x) a b d e f i j = absurd (e x refl)
heeded_none M h c g (backend.PortalSuspended x) a b d e f i j = absurd (f x refl)
heeded_none M h c g (backend.NoticeResponse x) a b d e f i j = absurd (i x refl)
heeded_none M h c g (backend.NotificationResponse x) a b d e f i j = absurd (j x refl)
heeded_none M h c g m a b d e f i j = heeds (refl, refl)

-- a function that gives nothing
heeded_by : {H R : Type 0} (M : Meaning H R) (h : H) (c : Client) (g : Gathered (List R)) (m : Backend)
    (call : ExtendedCall) (after : H) (r : Result (Unit {0}) ClientError)
    → call_for m ≡ Some call → M (standing h (fresh c)) call (standing after (fresh c)) (given_nothing r)
    → OfError r 0 0 false
    → Heeded M h c g m after g r
heeded_by M h c g m call after (Ok y) is heard caused =
    heeds (subst (λ (o : Option ExtendedCall). HeedsBy M o h c g m after g) (sym is) (nothing, heard, refl))
heeded_by M h c g m call after (Err e) is heard caused =
    refuses e (subst (λ (o : Option ExtendedCall). RefusesBy M o h c after e) (sym is) heard) caused

pub heeded_done : {H R : Type 0} (M : Meaning H R) (h : H) (c : Client) (g : Gathered (List R))
    (x : EmptyResponse 115) (after : H) (r : Result (Unit {0}) ClientError)
    → M (standing h (fresh c)) on_portal_suspended (standing after (fresh c)) (given_nothing r)
    → OfError r 0 0 false
    → Heeded M h c g (backend.PortalSuspended x) after g r
heeded_done M h c g x after r heard caused =
    heeded_by M h c g (backend.PortalSuspended x) on_portal_suspended after r refl heard caused

pub heeded_notice : {H R : Type 0} (M : Meaning H R) (h : H) (c : Client) (g : Gathered (List R))
    (x : NoticeResponse) (after : H) (r : Result (Unit {0}) ClientError)
    → M (standing h (fresh c)) (on_notice x) (standing after (fresh c)) (given_nothing r) → OfError r 0 0 false
    → Heeded M h c g (backend.NoticeResponse x) after g r
heeded_notice M h c g x after r heard caused =
    heeded_by M h c g (backend.NoticeResponse x) (on_notice x) after r refl heard caused

pub heeded_notification : {H R : Type 0} (M : Meaning H R) (h : H) (c : Client) (g : Gathered (List R))
    (x : NotificationResponse) (after : H) (r : Result (Unit {0}) ClientError)
    → M (standing h (fresh c)) (on_notification x) (standing after (fresh c)) (given_nothing r)
    → OfError r 0 0 false
    → Heeded M h c g (backend.NotificationResponse x) after g r
heeded_notification M h c g x after r heard caused =
    heeded_by M h c g (backend.NotificationResponse x) (on_notification x) after r refl heard caused

-- a message that is refused tells nothing
refused_told : {H R : Type 0} (M : Meaning H R) (h : H) (c : Client) (m : Backend) (after : H) (e : ClientError)
    → RefusesBy M (call_for m) h c after e → client_after m c ≡ c
refused_told M h c (backend.ParameterStatus x) after e r = absurd r
refused_told M h c (backend.ReadyForQuery x) after e r = absurd r
refused_told M h c m after e r = refl

pub took_well : {H R : Type 0} (M : Meaning H R) (h : H) (c info : Client) (g more : Gathered (List R))
    (m : Backend) (after : H) (broken : Bool)
    → Heeded M h c g m after more (Ok tt) → info ≡ client_after m c → broken ≡ false
    → TookMessage M h c g m after info more (Ok tt) broken
took_well M h c info g more m after broken (heeds x) same usable =
    subst (λ (b : Bool). TookMessage M h c g m after info more (Ok tt) b) (sym usable) (steps.takes x same)

pub took_ill : {H R : Type 0} (M : Meaning H R) (h : H) (c info : Client) (g more : Gathered (List R))
    (m : Backend) (after : H) (e : ClientError)
    → Heeded M h c g m after more (Err e) → info ≡ client_after m c
    → TookMessage M h c g m after info more (Err e) true
took_ill M h c info g more m after e (refuses e2 x caused) same =
    steps.refuses e x caused (same ∙ refused_told M h c m after e x)
took_ill M h c info g more m after e wants same = steps.wants

-- ---- Sync

pub sync_well : {H R : Type 0} (M : Meaning H R) (h handler : H) (c info : Client) (s0 s : Sight) (old new : Line)
    (due : Bool) (synced : Result (Unit {0}) ClientError) (broken : Bool)
    → due ≡ true → s0 ≡ fresh c → M (standing h s0) sync (standing handler s) (given_nothing synced)
    → Begins s.broken s.wrote old new synced (Ok tt) broken → info ≡ s.client
    → Synced M h c old new handler info due (Ok tt) broken
sync_well M h handler c info s0 s old new false synced broken asked cleared heard begun same = absurd cc
sync_well M h handler c info s0 s old new true synced broken asked cleared heard begun same =
    let well = opened_well s.broken broken s.wrote old new synced begun in
    let said =
    subst (λ (r : Result (Unit {0}) ClientError). M (standing h s0) sync (standing handler s)
    (given_nothing r)) well.0 heard in
    subst (λ (b : Bool). Synced M h c old new handler info true (Ok tt) b) (sym well.3)
    (sends s (subst (λ (x : Sight). M (standing h x) sync (standing handler s) (Ok nothing)) cleared said) well.1
    well.2 same)

synced_by : {H R : Type 0} (M : Meaning H R) (h handler : H) (c info : Client) (s : Sight) (old new : Line)
    (synced result : Result (Unit {0}) ClientError) (e : ClientError) (broken : Bool)
    → M (standing h (fresh c)) sync (standing handler s) (given_nothing synced) → OfError synced 0 0 s.broken
    → Begins s.broken s.wrote old new synced result broken → result ≡ Err e → info ≡ s.client
    → Synced M h c old new handler info true (Err e) true
synced_by M h handler c info s old new synced result e broken heard caused (starved synced2 wanting same) is
    info_is =
    let x : client.OutOfMemory ≡ e = cc in
    subst (λ (y : ClientError). Synced M h c old new handler info true (Err y) true) x (steps.wants same)
synced_by M h handler c info s old new synced result e broken heard caused (wrote usable put) is info_is = absurd
    cc
synced_by M h handler c info s old new synced result e broken heard caused (cut usable put) is info_is =
    let x : client.IoError ≡ e = cc in
    subst (λ (y : ClientError). Synced M h c old new handler info true (Err y) true) x
    (cuts s heard usable put info_is)
synced_by M h handler c info s old new synced result e broken heard caused (refused e2 usable same) is info_is =
    let x : e2 ≡ e = cc in
    subst (λ (y : ClientError). Synced M h c old new handler info true (Err y) true) x
    (steps.refuses s e2 heard caused usable same info_is)

pub sync_ill : {H R : Type 0} (M : Meaning H R) (h handler : H) (c info : Client) (s0 s : Sight) (old new : Line)
    (due : Bool) (synced : Result (Unit {0}) ClientError) (e : ClientError) (broken : Bool)
    → due ≡ true → s0 ≡ fresh c → M (standing h s0) sync (standing handler s) (given_nothing synced)
    → OfError synced 0 0 s.broken → Begins s.broken s.wrote old new synced (Err e) broken → info ≡ s.client
    → Synced M h c old new handler info due (Err e) true
sync_ill M h handler c info s0 s old new false synced e broken asked cleared heard caused begun same = absurd cc
sync_ill M h handler c info s0 s old new true synced e broken asked cleared heard caused begun same =
    synced_by M h handler c info s old new synced (Err e) e broken
    (subst (λ (x : Sight). M (standing h x) sync (standing handler s) (given_nothing synced)) cleared heard)
    caused begun refl same

-- a client that could be used
pub sync_spared : {H R : Type 0} (M : Meaning H R) (h : H) (c : Client) (line : Line) (due broken : Bool)
    → due ≡ false → broken ≡ false → Synced M h c line line h c due (Ok tt) broken
sync_spared M h c line true broken asked usable = absurd cc
sync_spared M h c line false broken asked usable =
    subst (λ (b : Bool). Synced M h c line line h c false (Ok tt) b) (sym usable) (spares refl refl refl)

-- ---- behind the end of an answer

pub settled_well : {H R : Type 0} (M : Meaning H R) (due : Bool) (h : H) (c between info : Client)
    (old mid new : Line) (e x : ClientError) (handler : H) (answer : CallAnswer Bool) (was broken : Bool)
    → Synced M h c old mid handler between due (Ok tt) was → PassedOver e between mid new x info broken
    → answer ≡ passed_answer x broken → SettlesSync M due h c old new e handler info answer broken
settled_well M due h c between info old mid new e x handler answer was broken synced p is =
    subst (λ (a : CallAnswer Bool). SettlesSync M due h c old new e handler info a broken) (sym is)
    (steps.passes mid between x broken was synced p)

pub settled_ill : {H R : Type 0} (M : Meaning H R) (due : Bool) (h : H) (c info : Client) (old new : Line)
    (e x : ClientError) (handler : H) (broken : Bool)
    → Synced M h c old new handler info due (Err x) broken → broken ≡ true
    → SettlesSync M due h c old new e handler info (Err x) broken
settled_ill M due h c info old new e x handler broken synced is =
    subst (λ (b : Bool). SettlesSync M due h c old new e handler info (Err x) b) (sym is)
    (steps.stops x (subst (λ (b : Bool). Synced M h c old new handler info due (Err x) b) is synced))

pub never : (broken : Bool) → (broken ≡ true) ⊎ (false ≡ true) → broken ≡ true
never broken (inl is) = is
never broken (inr absurd_is) = absurd (let no : false ≡ true = absurd_is in cc)

-- ---- a message by its place

pub heeded_failed : {H R : Type 0} (M : Meaning H R) (k : Kind) (h : H) (c : Client) (g : Gathered (List R))
    (m : Backend) (old new : Line) (handler : H) (info : Client) (answer : CallAnswer Bool) (broken due : Bool)
    (e : ClientError)
    → call_role k m ≡ Failing → due ≡ is_sync_due k → e ≡ first_error_of client.UnexpectedEOF m
    → SettlesSync M due h c old new e handler info answer broken
    → HeededOne M k h c g m old new handler info g answer broken
heeded_failed M k h c g m old new handler info answer broken due e is asked error s =
    steps.fails answer broken is
    (subst (λ (d : Bool). SettlesSync M d h c old new (first_error_of client.UnexpectedEOF m) handler info
    answer broken) asked (subst (λ (x : ClientError). SettlesSync M due h c old new x handler info answer
    broken) error s)) refl
