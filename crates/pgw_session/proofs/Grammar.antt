-- The table and the grammar of segments are one.
use Rattle.std.proofs.Common.{◌≡◌, ◌⊎◌, ℕ, Bool, true, false, not, List, [], ◌∷◌, ◌++◌, map, fold, Option, Some, None, inl, inr, refl, sym, ap, ◌∙◌, subst}
use Rattle.std.proofs.lemmas.List.{map-append}
use Rattle.std.proofs.lemmas.List.Sums.{fold-append}
use Rattle.pgw_startup.specs.declared.authentication.Authentication.TheVariants as authentication
use Rattle.pgw_backend.specs.declared.backend.PgWireBackendMessage.{PgWireBackendMessage as Backend}
use Rattle.pgw_backend.specs.declared.backend.PgWireBackendMessage.TheVariants as backend
use Rattle.pgw_frontend.specs.declared.frontend.PgWireFrontendMessage.{PgWireFrontendMessage as Frontend}
use Rattle.pgw_frontend.specs.declared.frontend.PgWireFrontendMessage.TheVariants as frontend
use Rattle.pgw_backend.specs.declared.client_error.PgWireClientError.{PgWireClientError as ClientError}
use Rattle.pgw_query.specs.declared.response.ReadyForQuery.{ReadyForQuery}
use Rattle.pgw_query.specs.declared.response.TransactionStatus.TheVariants as status
use Rattle.pgw_session.specs.declared.types.Request.{Request}
use Rattle.pgw_session.specs.declared.types.Request.TheVariants as request
use Rattle.pgw_session.specs.declared.types.Target.TheVariants as target
use Rattle.pgw_session.specs.declared.stage.Kind.{Kind}
use Rattle.pgw_session.specs.declared.stage.Kind.TheVariants as kind
use Rattle.pgw_session.specs.declared.stage.Stage.{Stage}
use Rattle.pgw_session.specs.declared.stage.Stage.TheVariants.{Starting, Challenged, Proving, Admitted, Answering, PassingOver}
use Rattle.pgw_session.specs.declared.stage.Next.{Next}
use Rattle.pgw_session.specs.declared.stage.Next.TheVariants.{Goes, Closes, Wrong, Refuses, PassesOver}
use Rattle.pgw_scram.specs.Base64.{nonce_text}
use Rattle.pgw_scram.specs.declared.exchange.ClientLogin.{ClientLogin}
use Rattle.pgw_session.specs.Input.{Input}
use Rattle.pgw_session.specs.Events.{Event, Sent, Got}
use Rattle.pgw_session.specs.Transcript.{IsEarly}
use Rattle.pgw_session.specs.Logins.{SessionLogin, Unasked, Cleartext, Md5, Scram, login_events, must_bind, IsAccepted, cleartext_message, md5_message, scram_login, first_message, final_message, methods_refusal, first_refusal, expected_of, final_refusal}
use Rattle.pgw_session.specs.declared.stage.Role.{Role}
use Rattle.pgw_session.specs.declared.stage.Role.TheVariants.{Taken, Closing, Completing, Failing, Misplaced}
use Rattle.pgw_session.specs.Requests.{sends_of, passes_over, role}
use Rattle.pgw_session.specs.Segments.{IsStartupSegment, AreAll, IsUpToReady, is_ready, is_other, is_news, is_early, IsBegun, startup_message, IsPassedOver, IsGreeting, AreTaken, IsEnd, IsAnswer, IsSimple, sends}
use Rattle.pgw_session.specs.Table.{next_after, news_or, by_login, unless_bound, by_welcome, by_first, by_final, by_role, by_ready, next_unless, misplaced, stage_for}
use Rattle.pgw_session.specs.Failures.{LoginPlace, Before, AtFirst, AtFinal, Behind, place_at, place_of, refusal_at}
use Rattle.pgw_session.proofs.LoginTexts.{some_first, some_final}

-- server-final in its place, and the welcome
abbrev IsFinal : List ℕ → List Event → Type 0
IsFinal expected es =
    (final : List ℕ) × (more : List Event)
    × (es ≡ Got (backend.Authentication (authentication.SASLFinal final)) ∷ more)
    × (final_refusal expected final ≡ None) × IsUpToReady is_news more

-- server-first in its place
abbrev IsFirst : ClientLogin → List Event → Type 0
IsFirst login es =
    (first : List ℕ) × (more : List Event)
    × (es ≡ Got (backend.Authentication (authentication.SASLContinue first)) ∷ Sent (final_message login first) ∷
    more)
    × (first_refusal login first ≡ None) × IsFinal (expected_of login first) more

-- what may follow at a stage, to the segment's end
abbrev pub Rest : Input → Stage → List Event → Type 0
Rest input Starting es = IsGreeting input es
Rest input (Challenged login) es = IsFirst login es
Rest input (Proving expected) es = IsFinal expected es
Rest input Admitted es = IsUpToReady is_news es
Rest input (Answering k rows) es = IsAnswer k rows es
Rest input PassingOver es = IsPassedOver es

-- as Rest, behind a message
abbrev pub RestBy : Input → Next → List Event → Type 0
RestBy input (Goes s reply) es = (more : List Event) × (es ≡ map Sent (sends reply) ++ more) × Rest input s more
RestBy input Closes es = es ≡ []
RestBy input n es = ⊥

-- ---- up to ReadyForQuery

-- where ReadyForQuery has not the property: a message with it, and the same behind; or ReadyForQuery
abbrev IsUpFrom : (Backend → Bool) → Backend → List Event → Bool → Type 0
IsUpFrom p m es true = IsUpToReady p es
IsUpFrom p m es false = (ready : ReadyForQuery) × (m ≡ backend.ReadyForQuery ready) × (es ≡ [])

up_from : (p : Backend → Bool) (m : Backend) (es : List Event)
    → ((r : ReadyForQuery) → p (backend.ReadyForQuery r) ≡ false) → IsUpToReady p (Got m ∷ es)
    → IsUpFrom p m es (p m)
up_from p m es ends r = go r.ms r.are r.all
  where
    go : (ms : List Backend) → Got m ∷ es ≡ map Got ms ++ Got (backend.ReadyForQuery r.ready) ∷ [] → AreAll p ms
        → IsUpFrom p m es (p m)
    go [] are all =
        let same : m ≡ backend.ReadyForQuery r.ready = cc in
        let none : es ≡ [] = cc in
        subst (IsUpFrom p m es) (sym (ends r.ready) ∙ ap p (sym same)) (r.ready, same, none)
    go (x ∷ ms) are all =
        let same : x ≡ m = cc in
        let rest : es ≡ map Got ms ++ Got (backend.ReadyForQuery r.ready) ∷ [] = cc in
        subst (IsUpFrom p m es) (sym all.0
        ∙ ap p same) (record { ms = ms; ready = r.ready; are = rest; all = all.1 })

up_more : (p : Backend → Bool) (m : Backend) (es : List Event) → p m ≡ true → IsUpToReady p es
    → IsUpToReady p (Got m ∷ es)
up_more p m es is r =
    record { ms = m ∷ r.ms; ready = r.ready; are = ap (λ (l : List Event). Got m ∷ l) r.are; all = (is, r.all) }

up_last : (p : Backend → Bool) (ready : ReadyForQuery) (es : List Event) → es ≡ []
    → IsUpToReady p (Got (backend.ReadyForQuery ready) ∷ es)
up_last p ready es none =
    record {
      ms = [];
      ready = ready;
      are = ap (λ (l : List Event). Got (backend.ReadyForQuery ready) ∷ l) none;
      all = tt;
    }

-- ---- from the grammar to the table

welcome_by : (input : Input) (m : Backend) (es : List Event) (b : Bool) → IsUpFrom is_news m es b
    → RestBy input (news_or b Admitted (by_welcome m)) es
welcome_by input m es true r = (es, refl, r)
welcome_by input m es false r = subst (λ x. RestBy input (by_welcome x) es) (sym r.1) r.2

-- where no login must be bound, all news are early
early_open : (m : Backend) → is_early false m ≡ is_news m
early_open (backend.Authentication authentication.Ok) = refl
early_open (backend.Authentication a) = refl
early_open m = refl

-- what is early is news
pub early_news : (b : Bool) (m : Backend) → is_early b m ≡ true → is_news m ≡ true
early_news b (backend.Authentication authentication.Ok) is = refl
early_news b (backend.Authentication a) is = is
early_news b m is = is

-- as long as nothing was asked, news are still news
unasked_by : (input : Input) (m : Backend) (es : List Event) (b : Bool) → must_bind input ≡ false
    → IsUpFrom is_news m es b → RestBy input (news_or b Starting (by_login input m)) es
unasked_by input m es true free r =
    (es, refl, record { news = []; login = Unasked; rest = es; are = refl; all = tt; accepted = free; ends = r })
unasked_by input m es false free r =
    subst (λ x. RestBy input (by_login input x) es) (sym r.1)
    (subst (λ b. RestBy input (unless_bound b Closes) es) (sym free) r.2)

unless_by : (input : Input) (o : Option ClientError) (n : Next) (es : List Event) → o ≡ None → RestBy input n es
    → RestBy input (next_unless o n) es
unless_by input o n es none r = subst (λ x. RestBy input (next_unless x n) es) (sym none) r

unless_free : (input : Input) (n : Next) (es : List Event) → must_bind input ≡ false → RestBy input n es
    → RestBy input (unless_bound (must_bind input) n) es
unless_free input n es free r = subst (λ b. RestBy input (unless_bound b n) es) (sym free) r

greeting_by : (input : Input) (m : Backend) (es : List Event) → IsGreeting input (Got m ∷ es)
    → RestBy input (next_after input Starting m) es
greeting_by input m es g = go g.news g.login g.are g.all g.accepted
  where
    go : (news : List Backend) (login : SessionLogin)
        → Got m ∷ es ≡ map Got news ++ (login_events input login ++ g.rest)
        → AreAll (is_early (must_bind input)) news → IsAccepted input login
        → RestBy input (next_after input Starting m) es
    go (x ∷ news) login are all accepted =
        let same : x ≡ m = cc in
        let rest : es ≡ map Got news ++ (login_events input login ++ g.rest) = cc in
        subst (λ b. RestBy input (news_or b Starting (by_login input m)) es) (sym all.0
        ∙ ap (is_early (must_bind input)) same) (
          es,
          refl,
          record {
            news = news;
            login = login;
            rest = g.rest;
            are = rest;
            all = all.1;
            accepted = accepted;
            ends = g.ends;
          },
        )
    go [] Unasked are all accepted =
        subst (λ b. RestBy input (news_or b Starting (by_login input m)) es) (sym (ap (λ b. is_early b m) accepted
        ∙ early_open m))
        (unasked_by input m es (is_news m) accepted
        (up_from is_news m es (λ r. refl) (subst (IsUpToReady is_news) (sym are) g.ends)))
    go [] Cleartext are all accepted =
        let same : m ≡ backend.Authentication authentication.CleartextPassword = cc in
        let rest : es ≡ Sent _ ∷ g.rest = cc in
        subst (λ x. RestBy input (next_after input Starting x) es) (sym same)
        (unless_free input (Goes Admitted (Some (cleartext_message input))) es accepted
        (g.rest, rest, g.ends))
    go [] (Md5 salt) are all accepted =
        let same : m ≡ backend.Authentication (authentication.MD5Password salt) = cc in
        let rest : es ≡ Sent _ ∷ g.rest = cc in
        subst (λ x. RestBy input (next_after input Starting x) es) (sym same)
        (unless_free input (Goes Admitted (Some (md5_message input salt))) es accepted (g.rest, rest, g.ends))
    go [] (Scram methods first final) are all accepted =
        let same : m ≡ backend.Authentication (authentication.SASL methods) = cc in
        let rest : es ≡ Sent _ ∷ Got (backend.Authentication (authentication.SASLContinue first)) ∷ Sent
        (final_message (scram_login input methods) first) ∷ Got
        (backend.Authentication (authentication.SASLFinal final)) ∷ g.rest = cc in
        subst (λ x. RestBy input (next_after input Starting x) es) (sym same)
        (unless_by input (methods_refusal input methods) _ es accepted.0
        (_, rest, (first, _, refl, accepted.1, (final, g.rest, refl, accepted.2, g.ends))))

answer_by : (input : Input) (k : Kind) (rows : Bool) (m : Backend) (es : List Event)
    → IsAnswer k rows (Got m ∷ es) → RestBy input (by_role k (role k rows m)) es
answer_by input k rows m es r = go r.ms r.are r.taken
  where
    ends : (x : Role) → IsEnd k x es → RestBy input (by_role k x) es
    ends (Taken next) e = absurd e
    ends Closing e = e
    ends Completing e = e
    ends Failing e = e
    ends Misplaced e = absurd e

    go : (ms : List Backend) → Got m ∷ es ≡ map Got ms ++ Got r.last ∷ r.rest → AreTaken k rows ms r.behind
        → RestBy input (by_role k (role k rows m)) es
    go [] are taken =
        let same : r.last ≡ m = cc in
        let rest : r.rest ≡ es = cc in
        ends (role k rows m) (subst (λ b. IsEnd k (role k b m) es) (sym taken)
        (subst (λ x. IsEnd k (role k r.behind x) es) same (subst (IsEnd k (role k r.behind r.last)) rest r.ends)))
    go (x ∷ ms) are taken =
        let same : x ≡ m = cc in
        let rest : es ≡ map Got ms ++ Got r.last ∷ r.rest = cc in
        subst (λ o. RestBy input (by_role k o) es) (sym taken.1 ∙ ap (role k rows) same) (
          es,
          refl,
          record {
            ms = ms;
            behind = r.behind;
            last = r.last;
            rest = r.rest;
            are = rest;
            taken = taken.2;
            ends = r.ends;
          },
        )

passing_by : (input : Input) (m : Backend) (es : List Event) (b : Bool) → IsUpFrom is_other m es (not b)
    → RestBy input (by_ready b) es
passing_by input m es true r = r.2
passing_by input m es false r = (es, refl, r)

pub rest_by : (input : Input) (s : Stage) (m : Backend) (es : List Event) → Rest input s (Got m ∷ es)
    → RestBy input (next_after input s m) es
rest_by input Starting m es r = greeting_by input m es r
rest_by input (Challenged login) m es r =
    let same : m ≡ backend.Authentication (authentication.SASLContinue r.0) = let are = r.2 in cc in
    let rest : es ≡ Sent (final_message login r.0) ∷ r.1 = let are = r.2 in cc in
    subst (λ x. RestBy input (by_first login x) es) (sym same)
    (unless_by input (first_refusal login r.0) _ es r.3 (r.1, rest, r.4))
rest_by input (Proving expected) m es r =
    let same : m ≡ backend.Authentication (authentication.SASLFinal r.0) = let are = r.2 in cc in
    let rest : es ≡ r.1 = let are = r.2 in cc in
    subst (λ x. RestBy input (by_final expected x) es) (sym same)
    (unless_by input (final_refusal expected r.0) _ es r.3 (r.1, rest, r.4))
rest_by input Admitted m es r = welcome_by input m es (is_news m) (up_from is_news m es (λ x. refl) r)
rest_by input (Answering k rows) m es r = answer_by input k rows m es r
rest_by input PassingOver m es r = passing_by input m es (is_ready m) (up_from is_other m es (λ x. refl) r)

-- ---- from the table to the grammar

abbrev IfGoes : Input → (s : Stage) → Backend → List Event → Option ClientError → Next → Type 0
IfGoes input s m es None n = RestBy input n es → Rest input s (Got m ∷ es)
IfGoes input s m es (Some e) n = Unit {0}

by_unless : (input : Input) (s : Stage) (m : Backend) (es : List Event) (o : Option ClientError) (n : Next)
    → (o ≡ None → RestBy input n es → Rest input s (Got m ∷ es)) → RestBy input (next_unless o n) es
    → Rest input s (Got m ∷ es)
by_unless input s m es None n f r = f refl r
by_unless input s m es (Some e) n f r = absurd r

by_welcomed : (input : Input) (m : Backend) (es : List Event) → RestBy input (by_welcome m) es
    → IsUpToReady is_news (Got m ∷ es)
by_welcomed input (backend.ReadyForQuery ready) es r = up_last is_news ready es r
by_welcomed input m es r = absurd r

news_by : (input : Input) (s : Stage) (m : Backend) (es : List Event) (now b : Bool) (n : Next) → now ≡ b
    → (now ≡ true → Rest input s es → Rest input s (Got m ∷ es)) → (RestBy input n es → Rest input s (Got m ∷ es))
    → RestBy input (news_or b s n) es → Rest input s (Got m ∷ es)
news_by input s m es now true n is f g r = f is (subst (Rest input s) (sym r.1) r.2)
news_by input s m es now false n is f g r = g r

if_free : (input : Input) (b : Bool) (n : Next) (es : List Event) → RestBy input (unless_bound b n) es
    → (b ≡ false) × RestBy input n es
if_free input true n es r = absurd r
if_free input false n es r = (refl, r)

asked_by : (input : Input) (m : Backend) (es : List Event) → RestBy input (by_login input m) es
    → IsGreeting input (Got m ∷ es)
asked_by input (backend.Authentication authentication.CleartextPassword) es r =
    let f = if_free input (must_bind input) (Goes Admitted (Some (cleartext_message input))) es r in
    record {
      news = [];
      login = Cleartext;
      rest = f.1.0;
      are = ap
          (λ (l : List Event). Got (backend.Authentication authentication.CleartextPassword) ∷ l) f.1.1;
      all =
          tt;
      accepted = f.0;
      ends = f.1.2;
    }
asked_by input (backend.Authentication (authentication.MD5Password salt)) es r =
    let f = if_free input (must_bind input) (Goes Admitted (Some (md5_message input salt))) es r in
    record {
      news = [];
      login = Md5 salt;
      rest = f.1.0;
      are = ap
          (λ (l : List Event). Got (backend.Authentication (authentication.MD5Password salt)) ∷ l) f.1.1;
      all =
          tt;
      accepted = f.0;
      ends = f.1.2;
    }
asked_by input (backend.Authentication (authentication.SASL methods)) es r =
    by_unless input Starting (backend.Authentication (authentication.SASL methods)) es
    (methods_refusal input methods) _ goes r
  where
    goes : methods_refusal input methods ≡ None
        → RestBy input (Goes (Challenged (scram_login input methods))
        (Some (first_message (scram_login input methods)))) es
        → IsGreeting input (Got (backend.Authentication (authentication.SASL methods)) ∷ es)
    goes accepted r =
        let f = r.2 in
        let g = f.4 in
        record {
          news = [];
          login = Scram methods f.0 g.0;
          rest = g.1;
          are = ap (λ (l : List Event). Got (backend.Authentication (authentication.SASL methods)) ∷ l) (r.1
              ∙ ap (λ (l : List Event). Sent _ ∷ l) (f.2
              ∙ ap (λ (l : List Event). Got (backend.Authentication (authentication.SASLContinue f.0)) ∷ Sent
              (final_message (scram_login input methods) f.0) ∷ l) g.2));
          all = tt;
          accepted = (accepted, f.3, g.3);
          ends = g.4;
        }
asked_by input (backend.ReadyForQuery ready) es r =
    let f = if_free input (must_bind input) Closes es r in
    record {
      news = [];
      login = Unasked;
      rest = Got (backend.ReadyForQuery ready) ∷ es;
      are = refl;
      all = tt;
      accepted = f.0;
      ends = up_last is_news ready es f.1;
    }
asked_by input (backend.Authentication authentication.Ok) es r = absurd r
asked_by input m es r = absurd r

pub taken_more : (k : Kind) (rows next : Bool) (m : Backend) (es : List Event) → role k rows m ≡ Taken next
    → IsAnswer k next es → IsAnswer k rows (Got m ∷ es)
taken_more k rows next m es is r =
    record {
      ms = m ∷ r.ms;
      behind = r.behind;
      last = r.last;
      rest = r.rest;
      are = ap
          (λ (l : List Event). Got m ∷ l) r.are;
      taken = (next, is, r.taken);
      ends = r.ends;
    }

by_answer : (input : Input) (k : Kind) (rows : Bool) (m : Backend) (es : List Event) (x : Role)
    → role k rows m ≡ x → RestBy input (by_role k x) es → IsAnswer k rows (Got m ∷ es)
by_answer input k rows m es x is r = go x is r
  where
    ended : (x : Role) → role k rows m ≡ x → IsEnd k x es → IsAnswer k rows (Got m ∷ es)
    ended x is e =
        record {
          ms = [];
          behind = rows;
          last = m;
          rest = es;
          are = refl;
          taken = refl;
          ends = subst
              (λ y. IsEnd k y es) (sym is) e;
        }

    wrong : (b : Bool) → RestBy input (misplaced b) es → ⊥
    wrong true r = r
    wrong false r = r

    go : (x : Role) → role k rows m ≡ x → RestBy input (by_role k x) es → IsAnswer k rows (Got m ∷ es)
    go (Taken next) is r = taken_more k rows next m es is (subst (IsAnswer k next) (sym r.1) r.2)
    go Closing is r = ended Closing is r
    go Completing is r = ended Completing is r
    go Failing is r = ended Failing is r
    go Misplaced is r = absurd (wrong (passes_over k) r)

by_passing : (input : Input) (m : Backend) (es : List Event) → RestBy input (by_ready (is_ready m)) es
    → IsPassedOver (Got m ∷ es)
by_passing input (backend.ReadyForQuery ready) es r = up_last is_other ready es r
by_passing input m es r = up_more is_other m es refl (subst IsPassedOver (sym r.1) r.2)

pub by_rest : (input : Input) (s : Stage) (m : Backend) (es : List Event) → RestBy input (next_after input s m) es
    → Rest input s (Got m ∷ es)
by_rest input Starting m es r =
    news_by input Starting m es (is_early (must_bind input) m) (is_early (must_bind input) m) (by_login input m)
    refl
    (λ is g. record {
      news = m ∷ g.news;
      login = g.login;
      rest = g.rest;
      are = ap (λ (l : List Event). Got m ∷ l) g.are;
      all = (is, g.all);
      accepted = g.accepted;
      ends = g.ends;
    })
    (asked_by input m es) r
by_rest input (Challenged login) m es r = firsts m r
  where
    firsts : (m : Backend) → RestBy input (by_first login m) es → IsFirst login (Got m ∷ es)
    firsts (backend.Authentication (authentication.SASLContinue first)) r =
        by_unless input (Challenged login) (backend.Authentication (authentication.SASLContinue first)) es
        (first_refusal login first) _
        (λ accepted r. (
          first,
          r.0,
          ap (λ (l : List Event). Got
              (backend.Authentication (authentication.SASLContinue first)) ∷ l) r.1,
          accepted,
          r.2,
        )) r
    firsts (backend.Authentication authentication.Ok) r = absurd r
    firsts m r = absurd r
by_rest input (Proving expected) m es r = finals m r
  where
    finals : (m : Backend) → RestBy input (by_final expected m) es → IsFinal expected (Got m ∷ es)
    finals (backend.Authentication (authentication.SASLFinal final)) r =
        by_unless input (Proving expected) (backend.Authentication (authentication.SASLFinal final)) es
        (final_refusal expected final) _
        (λ accepted r. (
          final,
          r.0,
          ap (λ (l : List Event). Got
              (backend.Authentication (authentication.SASLFinal final)) ∷ l) r.1,
          accepted,
          r.2,
        )) r
    finals (backend.Authentication authentication.Ok) r = absurd r
    finals m r = absurd r
by_rest input Admitted m es r =
    news_by input Admitted m es (is_news m) (is_news m) (by_welcome m) refl (λ is u. up_more is_news m es is u)
    (by_welcomed input m es) r
by_rest input (Answering k rows) m es r = by_answer input k rows m es (role k rows m) refl r
by_rest input PassingOver m es r = by_passing input m es r

-- ---- each stage can end

pub idle : ReadyForQuery
idle = record { status = status.Idle }

pub up_now : (p : Backend → Bool) → IsUpToReady p (Got (backend.ReadyForQuery idle) ∷ [])
up_now p = up_last p idle [] refl

some_final_rest : (login : ClientLogin) (first : List ℕ)
    → (m : Backend) × (es : List Event) × IsFinal (expected_of login first) (Got m ∷ es)
some_final_rest login first =
    let f =
    some_final login first in (_, _, (f.0, Got (backend.ReadyForQuery idle) ∷ [], refl, f.1, up_now is_news))

-- each row has a message that closes it, with nothing before it
closing : (k : Kind) (rows : Bool) → (m : Backend) × (role k rows m ≡ Closing)
closing kind.Bind rows = (backend.BindComplete (record {}), refl)
closing kind.Execute rows = (backend.PortalSuspended (record {}), refl)
closing kind.Simple rows = (backend.ReadyForQuery idle, refl)
closing kind.Prepare rows = (backend.ReadyForQuery idle, refl)
closing kind.DescribeStatement rows = (backend.ReadyForQuery idle, refl)
closing kind.DescribePortal rows = (backend.ReadyForQuery idle, refl)
closing kind.Close rows = (backend.ReadyForQuery idle, refl)
closing kind.Query rows = (backend.ReadyForQuery idle, refl)

-- the nonce is the session's, and the signature that is expected is that behind some server-first; before a login block
-- there need be nothing that ends it
abbrev pub Expects : Input → Stage → Type 0
Expects input Starting = ⊥
Expects input (Challenged login) = login.nonce ≡ nonce_text input.nonce
Expects input (Proving expected) = (login : ClientLogin) × (first : List ℕ) × (expected ≡ expected_of login first)
Expects input s = Unit {0}

pub some_got : (input : Input) (s : Stage) → Expects input s
    → (m : Backend) × (es : List Event) × Rest input s (Got m ∷ es)
some_got input Starting e = absurd e
some_got input (Challenged login) e =
    let f =
    some_first input login e in let g =
    some_final_rest login f.0 in (_, _, (f.0, Got g.0 ∷ g.1, refl, f.1, g.2))
some_got input (Proving expected) e =
    let g = some_final_rest e.0 e.1 in (g.0, g.1, subst (λ (x : List ℕ). IsFinal x (Got g.0 ∷ g.1)) (sym e.2) g.2)
some_got input Admitted e = (_, _, up_now is_news)
some_got input (Answering k rows) e =
    let c =
    closing k rows in (
      c.0,
      [],
      record {
        ms = [];
        behind = rows;
        last = c.0;
        rest = [];
        are = refl;
        taken = refl;
        ends = subst (λ x. IsEnd k x []) (sym c.1) refl;
      },
    )
some_got input PassingOver e = (_, _, up_now is_other)

pub some_rest : (input : Input) (s : Stage) → Expects input s → (es : List Event) × Rest input s es
some_rest input s e = let g = some_got input s e in (Got g.0 ∷ g.1, g.2)

-- ---- what may follow begins with a message of the server

abbrev BeginsGot : List Event → Type 0
BeginsGot [] = ⊥
BeginsGot (Sent m ∷ es) = ⊥
BeginsGot (Got m ∷ es) = Unit {0}

got_up : (p : Backend → Bool) (es : List Event) → IsUpToReady p es → BeginsGot es
got_up p es r = subst BeginsGot (sym r.are) (go r.ms)
  where
    go : (ms : List Backend) → BeginsGot (map Got ms ++ Got (backend.ReadyForQuery r.ready) ∷ [])
    go [] = tt
    go (m ∷ ms) = tt

got_greeting : (input : Input) (es : List Event) → IsGreeting input es → BeginsGot es
got_greeting input es g = subst BeginsGot (sym g.are) (go g.news g.login)
  where
    go : (ms : List Backend) (login : SessionLogin)
        → BeginsGot (map Got ms ++ (login_events input login ++ g.rest))
    go (m ∷ ms) login = tt
    go [] Unasked = got_up is_news g.rest g.ends
    go [] Cleartext = tt
    go [] (Md5 salt) = tt
    go [] (Scram methods first final) = tt

got_answer : (k : Kind) (rows : Bool) (es : List Event) → IsAnswer k rows es → BeginsGot es
got_answer k rows es r = subst BeginsGot (sym r.are) (go r.ms)
  where
    go : (ms : List Backend) → BeginsGot (map Got ms ++ Got r.last ∷ r.rest)
    go [] = tt
    go (m ∷ ms) = tt

begins_got : (input : Input) (s : Stage) (es : List Event) → Rest input s es → BeginsGot es
begins_got input Starting es r = got_greeting input es r
begins_got input (Challenged login) es r = subst BeginsGot (sym r.2) tt
begins_got input (Proving expected) es r = subst BeginsGot (sym r.2) tt
begins_got input Admitted es r = got_up is_news es r
begins_got input (Answering k rows) es r = got_answer k rows es r
begins_got input PassingOver es r = got_up is_other es r

pub rest_nil : (input : Input) (s : Stage) → Rest input s [] → ⊥
rest_nil input s r = begins_got input s [] r

pub rest_sent : (input : Input) (s : Stage) (m : Frontend) (es : List Event) → Rest input s (Sent m ∷ es) → ⊥
rest_sent input s m es r = begins_got input s (Sent m ∷ es) r

-- ---- where a segment stands

simple_before : (es : List Event) (m : Backend) (more : List Event) → IsSimple (es ++ Got m ∷ more) → IsSimple es
simple_before [] m more l = l
simple_before (Got x ∷ es) m more l = l
simple_before (Sent (frontend.Query q) ∷ es) m more l = tt
simple_before (Sent f ∷ es) m more l = l

simple_behind : (es : List Event) (m : Backend) (more : List Event) → IsSimple es → IsSimple (es ++ Got m ∷ more)
simple_behind [] m more l = absurd l
simple_behind (Got x ∷ es) m more l = l
simple_behind (Sent (frontend.Query q) ∷ es) m more l = tt
simple_behind (Sent f ∷ es) m more l = l

place_sends : (p : LoginPlace) (fs : List Frontend) → fold place_at p (map Sent fs) ≡ p
place_sends p [] = refl
place_sends p (f ∷ fs) = place_sends p fs

place_more : (es : List Event) (m : Backend) (fs : List Frontend)
    → place_of (es ++ Got m ∷ map Sent fs) ≡ place_at (place_of es) (Got m)
place_more es m fs = fold-append place_at Before es (Got m ∷ map Sent fs) ∙ place_sends _ fs

-- the startup segment, with its login block at a place
abbrev Logs : List (List Event) → List Event → LoginPlace → Type 0
Logs closed es p = (closed ≡ []) × (place_of es ≡ p) × (IsSimple es → ⊥)

-- what is known of the closed segments and the open one's events at a stage
abbrev pub StandsAt : Input → List (List Event) → List Event → Stage → Type 0
StandsAt input closed es Starting = Logs closed es Before × IsBegun input es
StandsAt input closed es (Challenged login) =
    (methods : List (List ℕ)) × (login ≡ scram_login input methods) × Logs closed es (AtFirst methods)
StandsAt input closed es (Proving expected) =
    (methods : List (List ℕ)) × (first : List ℕ) × (expected ≡ expected_of (scram_login input methods) first)
    × Logs closed es (AtFinal methods first)
StandsAt input closed es Admitted = Logs closed es Behind
StandsAt input closed es (Answering k rows) =
    (closed ≡ [] → ⊥) × (IsSimple es → passes_over k ≡ true) × (passes_over k ≡ true → IsSimple es)
StandsAt input closed es PassingOver = closed ≡ [] → ⊥

-- it has begun, or can end
abbrev pub Comes : Input → List (List Event) → List Event → Stage → Type 0
Comes input closed es s = ((closed ≡ []) × IsBegun input es) ⊎ Expects input s

pub stands_comes : (input : Input) (closed : List (List Event)) (es : List Event) (s : Stage)
    → StandsAt input closed es s → Comes input closed es s
stands_comes input closed es Starting stands = inl (stands.0.0, stands.1)
stands_comes input closed es (Challenged login) stands = inr (ap (λ (l : ClientLogin). l.nonce) stands.1)
stands_comes input closed es (Proving expected) stands = inr (scram_login input stands.0, stands.1, stands.2)
stands_comes input closed es Admitted stands = inr tt
stands_comes input closed es (Answering k rows) stands = inr tt
stands_comes input closed es PassingOver stands = inr tt

-- and behind a message
abbrev pub StandsBy : Input → List (List Event) → List Event → Backend → Next → Type 0
StandsBy input closed es m (Goes s reply) = StandsAt input closed (es ++ Got m ∷ map Sent (sends reply)) s
StandsBy input closed es m Closes = Unit {0}
StandsBy input closed es m Wrong = (IsSimple es → ⊥) × (closed ≡ [] → refusal_at input (place_of es) m ≡ None)
StandsBy input closed es m (Refuses e) = (closed ≡ []) × (refusal_at input (place_of es) m ≡ Some e)
StandsBy input closed es m PassesOver = IsSimple es

logs_on : (closed : List (List Event)) (es : List Event) (p q : LoginPlace) (m : Backend) (fs : List Frontend)
    → Logs closed es p → place_at p (Got m) ≡ q → Logs closed (es ++ Got m ∷ map Sent fs) q
logs_on closed es p q m fs l is = (
  l.0,
  place_more es m fs ∙ ap (λ x. place_at x (Got m)) l.1
      ∙ is,
  λ simple. l.2 (simple_before es m (map Sent fs) simple),
)

logs_wrong : (input : Input) (closed : List (List Event)) (es : List Event) (p : LoginPlace) (m : Backend)
    → Logs closed es p → refusal_at input p m ≡ None → StandsBy input closed es m Wrong
logs_wrong input closed es p m l is = (l.2, λ none. ap (λ x. refusal_at input x m) l.1 ∙ is)

logs_refused : (input : Input) (closed : List (List Event)) (es : List Event) (p : LoginPlace) (m : Backend)
    (e : ClientError)
    → Logs closed es p → refusal_at input p m ≡ Some e → StandsBy input closed es m (Refuses e)
logs_refused input closed es p m e l is = (l.0, ap (λ x. refusal_at input x m) l.1 ∙ is)

logs_unless : (input : Input) (closed : List (List Event)) (es : List Event) (p : LoginPlace) (m : Backend)
    (o : Option ClientError) (n : Next)
    → Logs closed es p → refusal_at input p m ≡ o → StandsBy input closed es m n
    → StandsBy input closed es m (next_unless o n)
logs_unless input closed es p m None n l is s = s
logs_unless input closed es p m (Some e) n l is s = logs_refused input closed es p m e l is

logs_unbound : (input : Input) (closed : List (List Event)) (es : List Event) (m : Backend) (b : Bool) (n : Next)
    → Logs closed es Before → refusal_at input Before m ≡ None → StandsBy input closed es m n
    → StandsBy input closed es m (unless_bound b n)
logs_unbound input closed es m true n l is s = logs_wrong input closed es Before m l is
logs_unbound input closed es m false n l is s = s

-- a message more
begun_on : (input : Input) (es : List Event) (m : Backend) → IsBegun input es
    → is_early (must_bind input) m ≡ true → IsBegun input (es ++ Got m ∷ [])
begun_on input es m b is = (
  b.0 ++ m ∷ [],
  ap (λ (l : List Event). l ++ Got m ∷ []) b.1
      ∙ ap (λ (l : List Event). Sent (startup_message input) ∷ l) (sym (map-append Got b.0 (m ∷ []))),
  all_more
      b.0 b.2,
)
  where
    all_more : (ms : List Backend) → AreAll (is_early (must_bind input)) ms
        → AreAll (is_early (must_bind input)) (ms ++ m ∷ [])
    all_more [] all = (is, tt)
    all_more (x ∷ ms) all = (all.0, all_more ms all.1)

-- a front of what is early is early
pub early_front : (input : Input) (xs ys : List Event) → IsBegun input (xs ++ ys) → IsEarly input xs
early_front input [] ys b = inl refl
early_front input (x ∷ xs) ys b =
    let are = b.1 in
    let same : x ≡ Sent (startup_message input) = cc in
    let rest : xs ++ ys ≡ map Got b.0 = cc in
    let f = fronts xs b.0 rest b.2 in
    inr (
      f.0,
      ap (λ (e : Event). e ∷ xs) same
          ∙ ap (λ (l : List Event). Sent (startup_message input) ∷ l) f.1,
      f.2,
    )
  where
    fronts : (xs : List Event) (news : List Backend) → xs ++ ys ≡ map Got news
        → AreAll (is_early (must_bind input)) news
        → (ms : List Backend) × (xs ≡ map Got ms) × AreAll (is_early (must_bind input)) ms
    fronts [] news are all = ([], refl, tt)
    fronts (x ∷ xs) [] are all = absurd cc
    fronts (x ∷ xs) (n ∷ news) are all =
        let same : x ≡ Got n = cc in
        let rest : xs ++ ys ≡ map Got news = cc in
        let f = fronts xs news rest all.1 in
        (n ∷ f.0, ap (λ (e : Event). e ∷ xs) same ∙ ap (λ (l : List Event). Got n ∷ l) f.1, (all.0, f.2))

known_place : (p : LoginPlace) (m : Backend) → is_news m ≡ true → place_at p (Got m) ≡ p
known_place p (backend.Authentication authentication.Ok) is = refl
known_place p (backend.Authentication a) is = cc
known_place p m is = refl

welcome_stands : (input : Input) (closed : List (List Event)) (es : List Event) (m : Backend)
    → Logs closed es Behind → StandsBy input closed es m (by_welcome m)
welcome_stands input closed es (backend.ReadyForQuery ready) l = tt
welcome_stands input closed es (backend.ErrorResponse e) l =
    logs_refused input closed es Behind (backend.ErrorResponse e) _ l refl
welcome_stands input closed es (backend.Authentication a) l =
    logs_wrong input closed es Behind (backend.Authentication a) l refl
welcome_stands input closed es m l = logs_wrong input closed es Behind m l refl

login_stands : (input : Input) (closed : List (List Event)) (es : List Event) (m : Backend)
    → Logs closed es Before → StandsBy input closed es m (by_login input m)
login_stands input closed es (backend.Authentication authentication.CleartextPassword) l =
    logs_unbound input closed es (backend.Authentication authentication.CleartextPassword) (must_bind input)
    (Goes Admitted (Some (cleartext_message input))) l refl
    (logs_on closed es Before Behind _ (cleartext_message input ∷ []) l refl)
login_stands input closed es (backend.Authentication (authentication.MD5Password salt)) l =
    logs_unbound input closed es (backend.Authentication (authentication.MD5Password salt)) (must_bind input)
    (Goes Admitted (Some (md5_message input salt))) l refl
    (logs_on closed es Before Behind _ (md5_message input salt ∷ []) l refl)
login_stands input closed es (backend.Authentication (authentication.SASL methods)) l =
    logs_unless input closed es Before (backend.Authentication (authentication.SASL methods))
    (methods_refusal input methods) _ l refl (
      methods,
      refl,
      logs_on closed es Before (AtFirst methods) _
          (first_message (scram_login input methods) ∷ []) l refl,
    )
login_stands input closed es (backend.ReadyForQuery ready) l =
    logs_unbound input closed es (backend.ReadyForQuery ready) (must_bind input) Closes l refl tt
login_stands input closed es (backend.ErrorResponse e) l =
    logs_refused input closed es Before (backend.ErrorResponse e) _ l refl
login_stands input closed es (backend.Authentication authentication.Ok) l =
    logs_wrong input closed es Before (backend.Authentication authentication.Ok) l refl
login_stands input closed es m l = logs_wrong input closed es Before m l refl

first_stands : (input : Input) (closed : List (List Event)) (es : List Event) (methods : List (List ℕ))
    (m : Backend)
    → Logs closed es (AtFirst methods) → StandsBy input closed es m (by_first (scram_login input methods) m)
first_stands input closed es methods (backend.Authentication (authentication.SASLContinue first)) l =
    logs_unless input closed es (AtFirst methods) (backend.Authentication (authentication.SASLContinue first))
    (first_refusal (scram_login input methods) first) _ l refl (
      methods,
      first,
      refl,
      logs_on closed es (AtFirst methods) (AtFinal methods first) _
          (final_message (scram_login input methods) first ∷ []) l refl,
    )
first_stands input closed es methods (backend.ErrorResponse e) l =
    logs_refused input closed es (AtFirst methods) (backend.ErrorResponse e) _ l refl
first_stands input closed es methods (backend.Authentication authentication.Ok) l =
    logs_wrong input closed es (AtFirst methods) (backend.Authentication authentication.Ok) l refl
first_stands input closed es methods m l = logs_wrong input closed es (AtFirst methods) m l refl

final_stands : (input : Input) (closed : List (List Event)) (es : List Event) (methods : List (List ℕ))
    (first : List ℕ) (m : Backend)
    → Logs closed es (AtFinal methods first)
    → StandsBy input closed es m (by_final (expected_of (scram_login input methods) first) m)
final_stands input closed es methods first (backend.Authentication (authentication.SASLFinal final)) l =
    logs_unless input closed es (AtFinal methods first) (backend.Authentication (authentication.SASLFinal final))
    (final_refusal (expected_of (scram_login input methods) first) final) _ l refl
    (logs_on closed es (AtFinal methods first) Behind _ [] l refl)
final_stands input closed es methods first (backend.ErrorResponse e) l =
    logs_refused input closed es (AtFinal methods first) (backend.ErrorResponse e) _ l refl
final_stands input closed es methods first (backend.Authentication authentication.Ok) l =
    logs_wrong input closed es (AtFinal methods first) (backend.Authentication authentication.Ok) l refl
final_stands input closed es methods first m l = logs_wrong input closed es (AtFinal methods first) m l refl

role_stands : (input : Input) (closed : List (List Event)) (es : List Event) (k : Kind) (rows : Bool)
    (m : Backend) (x : Role)
    → StandsAt input closed es (Answering k rows) → StandsBy input closed es m (by_role k x)
role_stands input closed es k rows m (Taken next) s =
    (s.0, λ simple. s.1 (simple_before es m [] simple), λ passes. simple_behind es m [] (s.2 passes))
role_stands input closed es k rows m Closing s = tt
role_stands input closed es k rows m Completing s = s.0
role_stands input closed es k rows m Failing s = s.0
role_stands input closed es k rows m Misplaced s = go (passes_over k) refl
  where
    go : (b : Bool) → passes_over k ≡ b → StandsBy input closed es m (misplaced b)
    go true is = s.2 is
    go false is = (λ simple. let passes = s.1 simple in cc, λ none. absurd (s.0 none))

pub stands_by : (input : Input) (closed : List (List Event)) (es : List Event) (s : Stage) (m : Backend)
    → StandsAt input closed es s → StandsBy input closed es m (next_after input s m)
stands_by input closed es Starting m l = go (is_early (must_bind input) m) refl
  where
    go : (b : Bool) → is_early (must_bind input) m ≡ b
        → StandsBy input closed es m (news_or b Starting (by_login input m))
    go true is = (
      logs_on closed es Before Before m [] l.0 (known_place Before m (early_news (must_bind input) m is)),
      begun_on input es m l.1 is,
    )
    go false is = login_stands input closed es m l.0
stands_by input closed es (Challenged login) m l =
    subst (λ (x : ClientLogin). StandsBy input closed es m (by_first x m)) (sym l.1)
    (first_stands input closed es l.0 m l.2)
stands_by input closed es (Proving expected) m l =
    subst (λ e. StandsBy input closed es m (by_final e m)) (sym l.2) (final_stands input closed es l.0 l.1 m l.3)
stands_by input closed es Admitted m l = go (is_news m) refl
  where
    go : (b : Bool) → is_news m ≡ b → StandsBy input closed es m (news_or b Admitted (by_welcome m))
    go true is = logs_on closed es Behind Behind m [] l (known_place Behind m is)
    go false is = welcome_stands input closed es m l
stands_by input closed es (Answering k rows) m s = role_stands input closed es k rows m (role k rows m) s
stands_by input closed es PassingOver m s = go (is_ready m)
  where
    go : (b : Bool) → StandsBy input closed es m (by_ready b)
    go true = tt
    go false = s

-- where a request's segment is opened
pub stands_first : (input : Input) (q : Request) (closed : List (List Event)) → (closed ≡ [] → ⊥)
    → StandsAt input closed (map Sent (sends_of q)) (stage_for q)
stands_first input (request.Simple query) closed some = (some, λ l. refl, λ l. tt)
stands_first input (request.Prepare name query types) closed some =
    (some, λ l. absurd l, λ l. let e : false ≡ true = l in cc)
stands_first input (request.Bind portal statement parameters formats) closed some =
    (some, λ l. absurd l, λ l. let e : false ≡ true = l in cc)
stands_first input (request.Execute portal max_rows) closed some =
    (some, λ l. absurd l, λ l. let e : false ≡ true = l in cc)
stands_first input (request.Describe (target.Statement name)) closed some =
    (some, λ l. absurd l, λ l. let e : false ≡ true = l in cc)
stands_first input (request.Describe (target.Portal name)) closed some =
    (some, λ l. absurd l, λ l. let e : false ≡ true = l in cc)
stands_first input (request.Close (target.Statement name)) closed some =
    (some, λ l. absurd l, λ l. let e : false ≡ true = l in cc)
stands_first input (request.Close (target.Portal name)) closed some =
    (some, λ l. absurd l, λ l. let e : false ≡ true = l in cc)
stands_first input (request.Query query types parameters) closed some =
    (some, λ l. absurd l, λ l. let e : false ≡ true = l in cc)

-- ---- the startup segment is the same whatever is requested

events_same : (input : Input) (qs : List Request) (login : SessionLogin)
    → login_events (record input { requests = qs }) login ≡ login_events input login
events_same input qs Unasked = refl
events_same input qs Cleartext = refl
events_same input qs (Md5 salt) = refl
events_same input qs (Scram methods first final) = refl

accepted_same : (input : Input) (qs : List Request) (login : SessionLogin) → IsAccepted input login
    → IsAccepted (record input { requests = qs }) login
accepted_same input qs Unasked a = a
accepted_same input qs Cleartext a = a
accepted_same input qs (Md5 salt) a = a
accepted_same input qs (Scram methods first final) a = a

pub startup_same : (input : Input) (qs : List Request) (es : List Event) → IsStartupSegment input es
    → IsStartupSegment (record input { requests = qs }) es
startup_same input qs es s =
    let g = s.2 in (
      s.0,
      s.1,
      record {
        news = g.news;
        login = g.login;
        rest = g.rest;
        are = g.are
            ∙ ap (λ (l : List Event). map Got g.news ++ (l ++ g.rest)) (sym (events_same input qs g.login));
        all = g.all;
        accepted = accepted_same input qs g.login g.accepted;
        ends = g.ends;
      },
    )
