-- What is sent in a transcript: the startup message, what logs in, what opens requests, and Sync.
use Rattle.std.proofs.Common.{◌≡◌, ◌≤◌, ℕ, zero, suc, Bool, true, false, List, [], ◌∷◌, ◌++◌, length, map, Option, Some, None, inl, inr, arith, refl, ◌∙◌, ap, sym, subst, length-append}
use Rattle.std.specs.List.{All}
use Rattle.std.proofs.lemmas.List.Elements.{All-head, All-tail}
use Rattle.pgw_startup.specs.declared.authentication.Authentication.TheVariants as authentication
use Rattle.pgw_backend.specs.declared.backend.PgWireBackendMessage.{PgWireBackendMessage as Backend}
use Rattle.pgw_backend.specs.declared.backend.PgWireBackendMessage.TheVariants as backend
use Rattle.pgw_frontend.specs.declared.frontend.PgWireFrontendMessage.{PgWireFrontendMessage as Frontend}
use Rattle.pgw_backend.specs.declared.client_error.PgWireClientError.{PgWireClientError as ClientError}
use Rattle.pgw_session.specs.declared.types.Request.{Request}
use Rattle.pgw_session.specs.declared.stage.Kind.{Kind}
use Rattle.pgw_session.specs.declared.stage.Kind.TheVariants as kind
use Rattle.pgw_session.specs.declared.stage.Stage.{Stage}
use Rattle.pgw_session.specs.declared.stage.Stage.TheVariants.{Starting, Challenged, Proving, Admitted, Answering, PassingOver}
use Rattle.pgw_session.specs.declared.stage.Next.{Next}
use Rattle.pgw_session.specs.declared.stage.Next.TheVariants.{Goes, Closes}
use Rattle.pgw_session.specs.declared.stage.Role.{Role}
use Rattle.pgw_session.specs.declared.stage.Role.TheVariants.{Taken, Closing, Completing, Failing, Misplaced}
use Rattle.pgw_scram.specs.declared.exchange.ClientLogin.{ClientLogin}
use Rattle.pgw_session.specs.Input.{Input}
use Rattle.pgw_session.specs.Events.{Event, Sent, Got, all_events, sents}
use Rattle.pgw_session.specs.Logins.{must_bind, cleartext_message, md5_message, scram_login, first_message, final_message, methods_refusal, first_refusal, final_refusal}
use Rattle.pgw_session.specs.Requests.{sends_of, sync, behind_error, passes_over, role}
use Rattle.pgw_session.specs.Segments.{IsRequestSegment, startup_message, is_news, is_early, is_ready, sends}
use Rattle.pgw_session.specs.Transcript.{AreSegments, IsTranscript, IsLegalPrefix}
use Rattle.pgw_session.specs.Table.{next_after, stage_for, news_or, next_unless, unless_bound, by_welcome, by_login, by_first, by_final, by_role, by_ready, misplaced}
use Rattle.pgw_session.proofs.Hears.{sents_append, sents_sends}
use Rattle.pgw_session.proofs.Events.{joined_cut, sents_gots}
use Rattle.pgw_session.proofs.Grammar.{Rest, RestBy, rest_by, rest_sent}

-- each of the messages has the property
abbrev pub AreSent : (Frontend → Type 0) → List Frontend → Type 0
AreSent P [] = Unit {0}
AreSent P (m ∷ ms) = P m × AreSent P ms

-- each message that a client may send has it
pub record MaySend (input : Input) (P : Frontend → Type 0) : Type 0 where
  pub startup : P (startup_message input)
  pub cleartext : P (cleartext_message input)
  pub md5 : (salt : List ℕ) → P (md5_message input salt)
  pub first : (login : ClientLogin) → P (first_message login)
  pub final : (login : ClientLogin) (text : List ℕ) → P (final_message login text)
  pub sends : All (λ q. AreSent P (sends_of q)) input.requests
  pub round : P sync

sent_append : (P : Frontend → Type 0) (xs ys : List Frontend) → AreSent P xs → AreSent P ys → AreSent P (xs ++ ys)
sent_append P [] ys x y = y
sent_append P (m ∷ xs) ys x y = (x.0, sent_append P xs ys x.1 y)

sent_front : (P : Frontend → Type 0) (xs ys : List Frontend) → AreSent P (xs ++ ys) → AreSent P xs
sent_front P [] ys all = tt
sent_front P (m ∷ xs) ys all = (all.0, sent_front P xs ys all.1)

sent_behind : (P : Frontend → Type 0) (xs ys : List Frontend) → AreSent P (xs ++ ys) → AreSent P ys
sent_behind P [] ys all = all
sent_behind P (m ∷ xs) ys all = sent_behind P xs ys all.1

-- ---- what is sent right behind a message

abbrev ReplySent : (Frontend → Type 0) → Next → Type 0
ReplySent P (Goes s reply) = AreSent P (sends reply)
ReplySent P n = Unit {0}

unless_sent : (P : Frontend → Type 0) (o : Option ClientError) (n : Next) → ReplySent P n
    → ReplySent P (next_unless o n)
unless_sent P None n r = r
unless_sent P (Some e) n r = tt

news_sent : (P : Frontend → Type 0) (b : Bool) (s : Stage) (n : Next) → ReplySent P n
    → ReplySent P (news_or b s n)
news_sent P true s n r = tt
news_sent P false s n r = r

welcome_sent : (P : Frontend → Type 0) (m : Backend) → ReplySent P (by_welcome m)
welcome_sent P (backend.Authentication a) = tt
welcome_sent P m = tt

unbound_sent : (P : Frontend → Type 0) (b : Bool) (n : Next) → ReplySent P n → ReplySent P (unless_bound b n)
unbound_sent P true n r = tt
unbound_sent P false n r = r

login_sent : (input : Input) (P : Frontend → Type 0) (m : Backend) → MaySend input P
    → ReplySent P (by_login input m)
login_sent input P (backend.Authentication authentication.CleartextPassword) may =
    unbound_sent P (must_bind input) _ (may.cleartext, tt)
login_sent input P (backend.Authentication (authentication.MD5Password salt)) may =
    unbound_sent P (must_bind input) _ (may.md5 salt, tt)
login_sent input P (backend.ReadyForQuery ready) may = unbound_sent P (must_bind input) Closes tt
login_sent input P (backend.Authentication (authentication.SASL methods)) may =
    unless_sent P (methods_refusal input methods) _ (may.first (scram_login input methods), tt)
login_sent input P (backend.Authentication authentication.Ok) may = tt
login_sent input P m may = tt

first_sent : (input : Input) (P : Frontend → Type 0) (login : ClientLogin) (m : Backend) → MaySend input P
    → ReplySent P (by_first login m)
first_sent input P login (backend.Authentication (authentication.SASLContinue first)) may =
    unless_sent P (first_refusal login first) _ (may.final login first, tt)
first_sent input P login (backend.Authentication authentication.Ok) may = tt
first_sent input P login m may = tt

last_sent : (P : Frontend → Type 0) (expected : List ℕ) (m : Backend) → ReplySent P (by_final expected m)
last_sent P expected (backend.Authentication (authentication.SASLFinal final)) =
    unless_sent P (final_refusal expected final) _ tt
last_sent P expected (backend.Authentication authentication.Ok) = tt
last_sent P expected m = tt

sent_if : (P : Frontend → Type 0) (o : Option Frontend) → ((m : Frontend) → o ≡ Some m → P m)
    → AreSent P (sends o)
sent_if P None p = tt
sent_if P (Some m) p = (p m refl, tt)

is_sync : (k : Kind) (m : Frontend) → behind_error k ≡ Some m → m ≡ sync
is_sync kind.Simple m is = cc
is_sync kind.Prepare m is = cc
is_sync kind.Bind m is = cc
is_sync kind.Execute m is = cc
is_sync kind.DescribeStatement m is = cc
is_sync kind.DescribePortal m is = cc
is_sync kind.Close m is = cc
is_sync kind.Query m is = cc

error_sent : (P : Frontend → Type 0) (k : Kind) → P sync → AreSent P (sends (behind_error k))
error_sent P k one = sent_if P (behind_error k) (λ m is. subst P (sym (is_sync k m is)) one)

role_sent : (P : Frontend → Type 0) (k : Kind) (x : Role) → P sync → ReplySent P (by_role k x)
role_sent P k (Taken rows) one = tt
role_sent P k Closing one = tt
role_sent P k Completing one = (one, tt)
role_sent P k Failing one = error_sent P k one
role_sent P k Misplaced one = go (passes_over k)
  where
    go : (b : Bool) → ReplySent P (misplaced b)
    go true = tt
    go false = tt

ready_sent : (P : Frontend → Type 0) (b : Bool) → ReplySent P (by_ready b)
ready_sent P true = tt
ready_sent P false = tt

reply_sent : (input : Input) (P : Frontend → Type 0) (s : Stage) (m : Backend) → MaySend input P
    → ReplySent P (next_after input s m)
reply_sent input P Starting m may =
    news_sent P (is_early (must_bind input) m) Starting _ (login_sent input P m may)
reply_sent input P (Challenged login) m may = first_sent input P login m may
reply_sent input P (Proving expected) m may = last_sent P expected m
reply_sent input P Admitted m may = news_sent P (is_news m) Admitted _ (welcome_sent P m)
reply_sent input P (Answering k rows) m may = role_sent P k (role k rows m) may.round
reply_sent input P PassingOver m may = ready_sent P (is_ready m)

-- ---- a transcript

sents_parts : (P : Frontend → Type 0) (xs ys : List Event) → AreSent P (sents xs) → AreSent P (sents ys)
    → AreSent P (sents (xs ++ ys))
sents_parts P xs ys x y = subst (AreSent P) (sym (sents_append xs ys)) (sent_append P (sents xs) (sents ys) x y)

sends_parts : (P : Frontend → Type 0) (fs : List Frontend) (es : List Event) → AreSent P fs → AreSent P (sents es)
    → AreSent P (sents (map Sent fs ++ es))
sends_parts P fs es x y = sents_parts P (map Sent fs) es (subst (AreSent P) (sym (sents_sends fs)) x) y

-- what may follow at a stage, for answers up to a length
abbrev RestSent : Input → (Frontend → Type 0) → ℕ → Type 0
RestSent input P n = (s : Stage) (es : List Event) → length es ≤ n → Rest input s es → AreSent P (sents es)

behind_sent : (input : Input) (P : Frontend → Type 0) (n : ℕ) → RestSent input P n → (x : Next) (es : List Event)
    → ReplySent P x → length es ≤ n → RestBy input x es → AreSent P (sents es)
behind_sent input P n rec (Goes stage reply) es sent le r =
    let shorter : length r.0 ≤ n = omega (arith, le, ap length r.1, length-append (map Sent (sends reply)) r.0) in
    subst (λ (l : List Event). AreSent P (sents l)) (sym r.1)
    (sends_parts P (sends reply) r.0 sent (rec stage r.0 shorter r.2))
behind_sent input P n rec Closes es sent le none = subst (λ (l : List Event). AreSent P (sents l)) (sym none) tt
behind_sent input P n rec x es sent le r = absurd r

rest_sent_by : (input : Input) (P : Frontend → Type 0) (n : ℕ) → MaySend input P → RestSent input P n
rest_sent_by input P n may s [] le rest = tt
rest_sent_by input P n may s (Sent m ∷ es) le rest = absurd (rest_sent input s m es rest)
rest_sent_by input P zero may s (Got m ∷ es) le rest = absurd (omega (arith, le))
rest_sent_by input P (suc n) may s (Got m ∷ es) le rest =
    behind_sent input P n (rest_sent_by input P n may) (next_after input s m) es (reply_sent input P s m may)
    (omega (arith, le)) (rest_by input s m es rest)

segment_sent : (input : Input) (P : Frontend → Type 0) (q : Request) (es : List Event) → MaySend input P
    → AreSent P (sends_of q) → IsRequestSegment q es → AreSent P (sents es)
segment_sent input P q es may opening seg =
    subst (λ (l : List Event). AreSent P (sents l)) (sym seg.1)
    (sends_parts P (sends_of q) seg.0 opening
    (rest_sent_by input P (length seg.0) may (stage_for q) seg.0 (omega arith) seg.2))

segments_sent : (input : Input) (P : Frontend → Type 0) (qs : List Request) (segments : List (List Event))
    → MaySend input P → All (λ q. AreSent P (sends_of q)) qs → AreSegments qs segments
    → AreSent P (sents (all_events segments))
segments_sent input P [] [] may all segs = tt
segments_sent input P [] (es ∷ segments) may all segs = absurd segs
segments_sent input P (q ∷ qs) [] may all segs = absurd segs
segments_sent input P (q ∷ qs) (es ∷ segments) may all segs =
    sents_parts P es (all_events segments)
    (segment_sent input P q es may (All-head (λ q. AreSent P (sends_of q)) q qs all) segs.0)
    (segments_sent input P qs segments may (All-tail (λ q. AreSent P (sends_of q)) q qs all) segs.1)

-- each message sent in a transcript has the property
pub transcript_sent : (input : Input) (P : Frontend → Type 0) (segments : List (List Event)) → MaySend input P
    → IsTranscript input segments → AreSent P (sents (all_events segments))
transcript_sent input P [] may transcript = absurd transcript
transcript_sent input P (es ∷ segments) may transcript =
    let start = transcript.0 in
    let first =
    sends_parts P (startup_message input ∷ []) start.0 (may.startup, tt)
    (rest_sent_by input P (length start.0) may Starting start.0 (omega arith) start.2) in
    sents_parts P es (all_events segments) (subst (λ (l : List Event). AreSent P (sents l)) (sym start.1) first)
    (segments_sent input P input.requests segments may may.sends transcript.1)

-- so does each message sent in a legal prefix
pub prefix_sent : (input : Input) (P : Frontend → Type 0) (es : List Event) → MaySend input P
    → IsLegalPrefix input es → AreSent P (sents es)
prefix_sent input P es may (inl w) =
    subst (λ (l : List Event). AreSent P (sents l)) w.2 (transcript_sent input P w.0 may w.1)
prefix_sent input P es may (inr (inr (inl none))) = subst (λ (l : List Event). AreSent P (sents l)) (sym none) tt
prefix_sent input P es may (inr (inr (inr b))) =
    subst (λ (l : List Event). AreSent P (sents l)) (sym b.1)
    (may.startup, subst (AreSent P) (sym (sents_gots [] b.0)) tt)
prefix_sent input P es may (inr (inl p)) =
    sent_front P (sents es) (sents (p.rest ++ all_events p.later))
    (subst (AreSent P) (sents_append es (p.rest ++ all_events p.later))
    (subst (λ (l : List Event). AreSent P (sents l)) (joined_cut p.closed p.part p.rest p.later
    ∙ ap (λ (l : List Event). l ++ (p.rest ++ all_events p.later)) (sym p.are))
    (transcript_sent input P _ may p.transcript)))

-- and each that is due behind one
pub due_sent : (input : Input) (P : Frontend → Type 0) (es : List Event) (due : List Frontend) → MaySend input P
    → IsLegalPrefix input (es ++ map Sent due) → AreSent P due
due_sent input P es due may legal =
    sent_behind P (sents es) due (subst (AreSent P) (sents_append es (map Sent due)
    ∙ ap (λ (l : List Frontend). sents es ++ l) (sents_sends due))
    (prefix_sent input P (es ++ map Sent due) may legal))
