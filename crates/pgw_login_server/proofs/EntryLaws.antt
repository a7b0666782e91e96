-- A client is let in only behind what it is asked for.
use Rattle.std.proofs.Common.{◌≡◌, true, false, ℕ, List, [], ◌∷◌, ◌++◌, Option, Ok, Err, refl, sym, ap, subst, ◌∙◌, drop, append_assoc}
use Rattle.std.specs.List.{list_any}
use Rattle.std.proofs.lemmas.List.{append-nil}
use Rattle.std.proofs.lemmas.List.Elements.{Contains-append_left}
use Rattle.pgw_frontend.specs.declared.frontend.PgWireFrontendMessage.{PgWireFrontendMessage as Message}
use Rattle.pgw_frontend.specs.declared.frontend.PgWireFrontendMessage.TheVariants as frontend
use Rattle.pgw_backend.specs.declared.backend.PgWireBackendMessage.{PgWireBackendMessage as Backend}
use Rattle.pgw_machine.specs.Course.{Move, On, Ends, Course, Waits, Over, sent_of}
use Rattle.pgw_machine.specs.Play.{Leads, waits, stops, breaks, ends, goes, course_behind}
use Rattle.pgw_login.specs.Client.{LoginClient}
use Rattle.pgw_login.specs.Login.{Login, login_seen}
use Rattle.pgw_login.specs.Acts.{Standing, standing_in_login, Answer}
use Rattle.pgw_login.specs.declared.client_info.PgWireConnectionState.TheVariants.{ReadyForQuery}
use Rattle.pgw_login.specs.declared.state.LoginState.{LoginState}
use Rattle.pgw_login_server.specs.Server.{Stage, ServerEnding, begins_within, answer_move, Handles, Steps, server_encodings, serving}
use Rattle.pgw_login_server.specs.Taken.{Acts, Taken, server_reply, put_by, taken_step, taken_in, IsPut, Accounts}
use Rattle.pgw_login_server.specs.Entry.{lets_in, MayAsk, IsGuarded, IsNamed}

-- ---- the bytes

is_put_of : (answer : Answer) (s : Standing) (stage : Stage) (out : List ℕ) (move : Move Stage ServerEnding)
    → move ≡ answer_move answer s stage out → put_by move ≡ out
is_put_of (Ok done) s stage out move is = ap put_by is
is_put_of (Err e) s stage out move is = ap put_by is

module _ (means : Acts) where
  handled_put : (stage : Stage) (m : Message) (move : Move Stage ServerEnding) (h : Handles means stage m move)
      → server_encodings h.1 ≡ Ok (put_by move)
  handled_put stage m move h = h.5 ∙ ap (λ (l : List ℕ). Ok l) (sym (is_put_of h.2 h.0 stage h.3 move h.6))

  step_put : (stage : Stage) (m : Message) (move : Move Stage ServerEnding) (step : Steps means stage m move)
      → IsPut m (server_reply means stage m move step) (put_by move)
  step_put stage (frontend.SslNegotiation n) move step = (refl, ap put_by step)
  step_put stage (frontend.CancelRequest r) move step = ap (λ (l : List ℕ). Ok l) (sym (ap put_by step))
  step_put stage m move step = handled_put stage m move step

  sent_behind : (out : List ℕ) (c : Course Stage ServerEnding) → sent_of (course_behind out c) ≡ out ++ sent_of c
  sent_behind out (Waits stage sent pending) = refl
  sent_behind out (Over ending sent) = refl

  pub accounts : (stage : Stage) (bytes : List ℕ) (course : Course Stage ServerEnding)
      (way : Leads (serving means) stage bytes course)
      → Accounts (taken_in means stage bytes course way) bytes (sent_of course)
  accounts stage bytes course (waits s bs more) = refl
  accounts stage bytes course (stops s bs why ending bad refuses) = refl
  accounts stage bytes course (breaks s bs ending b) = refl
  accounts stage bytes course (ends s bs m len ending out read step) =
      (len, [], read, step_put s m (Ends ending out) step, sym (append-nil out), refl)
  accounts stage bytes course (goes s next bs m len out c read step on) =
      (len, sent_of c, read, step_put s m (On next out) step, sent_behind out c, accounts next (drop len bs) c on)

-- ---- what is kept on the way

-- a message with its proof was taken
abbrev pub IsProven : (List Taken → Taken → Type 0) → List Taken → Type 0
IsProven Proves taken_step =
    (earlier : List Taken) × (later : List Taken) × (t : Taken) × (taken_step ≡ earlier ++ t ∷ later)
    × Proves earlier t

pub still_proven : (Proves : List Taken → Taken → Type 0) (ts : List Taken) (more : Taken) → IsProven Proves ts
    → IsProven Proves (ts ++ more ∷ [])
still_proven Proves ts more (earlier, later, t, is, p) = (
  earlier,
  later ++ more ∷ [],
  t,
  ap (λ (l : List Taken). l ++ more ∷ []) is
      ∙ append_assoc earlier (t ∷ later) (more ∷ []),
  p,
)

pub now_proven : (Proves : List Taken → Taken → Type 0) (ts : List Taken) (t : Taken) → Proves ts t
    → IsProven Proves (ts ++ t ∷ [])
now_proven Proves ts t p = (ts, [], t, refl, p)

pub still_named : (client : LoginClient) (ts : List Taken) (more : Taken) (login : Login)
    → IsNamed client ts login
    → IsNamed client (ts ++ more ∷ []) login
still_named client ts more login n = record {
  startup = n.startup;
  opening = n.opening;
  came = Contains-append_left ts
      (more ∷ []) n.opening n.came;
  is_startup = n.is_startup;
  names = n.names;
}

-- what holds of a client and its login behind these messages
pub record IsKnown (Proves : List Taken → Taken → Type 0) (Keeps : List Taken → Login → LoginState → Type 0)
    (first : LoginClient) (ts : List Taken) (client : LoginClient) (login : LoginState) : Type 0 where
  pub fresh : login.started ≡ false → client ≡ first
  pub named : login.started ≡ true → IsNamed first ts (login_seen client)
  pub ready : client.state ≡ ReadyForQuery → IsProven Proves ts
  pub keeps : Keeps ts (login_seen client) login

-- what an act is to keep
pub record Goes (Proves : List Taken → Taken → Type 0) (Keeps : List Taken → Login → LoginState → Type 0)
    (first : LoginClient) (ts : List Taken) (t : Taken) (after : Standing) (sent : List Backend) (answer : Answer)
    : Type 0
  where
    pub says : list_any lets_in sent ≡ true → Proves ts t
    pub keeps : answer ≡ Ok tt → IsKnown Proves Keeps first (ts ++ t ∷ []) after.client after.login

module _ (means : Acts) (Proves : List Taken → Taken → Type 0) (Keeps : List Taken → Login → LoginState → Type 0)
    (first : LoginClient) (same : (ts : List Taken) (more : Taken) (login : Login) (state : LoginState)
    → Keeps ts login state
    → Keeps (ts ++ more ∷ []) login state)
    (acts_so : (ts : List Taken) (t : Taken) (m : Message) (before after : Standing) (sent : List Backend)
    (answer : Answer) → IsKnown Proves Keeps first ts before.client before.login
    → t.stage.client ≡ before.client → t.stage.login ≡ before.login → t.message ≡ m → t.said ≡ sent
    → means m before after sent answer → Goes Proves Keeps first ts t after sent answer) where
  still_known : (ts : List Taken) (more : Taken) (client : LoginClient) (login : LoginState)
      → IsKnown Proves Keeps first ts client login → IsKnown Proves Keeps first (ts ++ more ∷ []) client login
  still_known ts more client login k = record {
    fresh = k.fresh;
    named = λ on. still_named first ts more (login_seen client) (k.named on);
    ready = λ is. still_proven Proves ts more (k.ready is);
    keeps = same ts more (login_seen client) login k.keeps;
  }

  -- behind a step
  Stays : List Taken → Move Stage ServerEnding → Type 0
  Stays ts (On next out) = IsKnown Proves Keeps first ts next.client next.login
  Stays ts (Ends ending out) = Unit {0}

  stays_moved : (ts : List Taken) (answer : Answer) (s : Standing) (stage : Stage) (out : List ℕ)
      → (answer ≡ Ok tt → IsKnown Proves Keeps first ts s.client s.login)
      → Stays ts (answer_move answer s stage out)
  unfolding Stays
  stays_moved ts (Ok done) s stage out k = k refl
  stays_moved ts (Err e) s stage out k = tt

  handled_goes : (ts : List Taken) (stage : Stage) (m : Message) (move : Move Stage ServerEnding)
      (h : Handles means stage m move) → IsKnown Proves Keeps first ts stage.client stage.login
      → (list_any lets_in h.1 ≡ true → Proves ts (record {
        stage = stage;
        message = m;
        said = h.1;
        put = put_by move;
      })) × Stays (ts ++ record { stage = stage; message = m; said = h.1; put = put_by move } ∷ []) move
  unfolding Stays
  handled_goes ts stage m move h k =
      let t : Taken = record { stage = stage; message = m; said = h.1; put = put_by move } in
      let g =
      acts_so ts t m (standing_in_login stage.client stage.login 0) h.0 h.1 h.2 k refl refl refl refl h.4 in
      (g.says, subst (Stays (ts ++ t ∷ [])) (sym h.6) (stays_moved (ts ++ t ∷ []) h.2 h.0 stage h.3 g.keeps))

  step_goes : (ts : List Taken) (stage : Stage) (m : Message) (move : Move Stage ServerEnding)
      (step : Steps means stage m move) → IsKnown Proves Keeps first ts stage.client stage.login
      → (list_any lets_in (server_reply means stage m move step) ≡ true → Proves ts
      (taken_step means stage m move step))
      × Stays (ts ++ taken_step means stage m move step ∷ []) move
  unfolding Stays
  step_goes ts stage (frontend.SslNegotiation n) move step k =
      let t : Taken =
      record { stage = stage; message = frontend.SslNegotiation n; said = []; put = put_by move } in
      ((λ says. absurd cc), subst (Stays (ts ++ t ∷ [])) (sym step) (still_known ts t stage.client stage.login k))
  step_goes ts stage (frontend.CancelRequest r) move step k =
      let t : Taken =
      record { stage = stage; message = frontend.CancelRequest r; said = []; put = put_by move } in
      ((λ says. absurd cc), subst (Stays (ts ++ t ∷ [])) (sym step) tt)
  step_goes ts stage m move step k = handled_goes ts stage m move step k

  -- each message that lets in has its proof behind those before it
  Each : List Taken → List Taken → Type 0
  Each ts [] = Unit {0}
  Each ts (t ∷ more) = (list_any lets_in t.said ≡ true → Proves ts t) × Each (ts ++ t ∷ []) more

  each_on : (stage : Stage) (bytes : List ℕ) (course : Course Stage ServerEnding)
      (way : Leads (serving means) stage bytes course) (ts : List Taken)
      → IsKnown Proves Keeps first ts stage.client stage.login → Each ts (taken_in means stage bytes course way)
  unfolding Each Stays
  each_on stage bytes course (waits s bs more) ts k = tt
  each_on stage bytes course (stops s bs why ending bad refuses) ts k = tt
  each_on stage bytes course (breaks s bs ending b) ts k = tt
  each_on stage bytes course (ends s bs m len ending out read step) ts k =
      ((step_goes ts s m (Ends ending out) step k).0, tt)
  each_on stage bytes course (goes s next bs m len out c read step on) ts k =
      let g = step_goes ts s m (On next out) step k in
      (g.0, each_on next (drop len bs) c on (ts ++ taken_step means s m (On next out) step ∷ []) g.1)

  found : (ts all earlier later : List Taken) (t : Taken) → all ≡ earlier ++ t ∷ later → Each ts all
      → list_any lets_in t.said ≡ true → Proves (ts ++ earlier) t
  unfolding Each
  found ts [] [] later t is each says = absurd cc
  found ts [] (e ∷ earlier) later t is each says = absurd cc
  found ts (a ∷ all) [] later t is each says =
      let one : a ≡ t = cc in
      subst (λ (l : List Taken). Proves l t) (sym (append-nil ts))
      (subst (Proves ts) one (each.0 (ap (λ (x : Taken). list_any lets_in x.said) one ∙ says)))
  found ts (a ∷ all) (e ∷ earlier) later t is each says =
      let one : a ≡ e = cc in
      let rest : all ≡ earlier ++ t ∷ later = cc in
      let p : Proves ((ts ++ a ∷ []) ++ earlier) t = found (ts ++ a ∷ []) all earlier later t rest each.1 says in
      subst (λ (l : List Taken). Proves l t) (append_assoc ts (a ∷ []) earlier
      ∙ ap (λ (x : Taken). ts ++ x ∷ earlier) one) p

  ready_behind : (out : List ℕ) (c : Course Stage ServerEnding) → MayAsk (course_behind out c) → MayAsk c
  ready_behind out (Waits stage sent pending) is = is
  ready_behind out (Over ending sent) is = is

  ready_on : (stage : Stage) (bytes : List ℕ) (course : Course Stage ServerEnding)
      (way : Leads (serving means) stage bytes course) (ts : List Taken)
      → IsKnown Proves Keeps first ts stage.client stage.login → MayAsk course
      → IsProven Proves (ts ++ taken_in means stage bytes course way)
  unfolding Stays
  ready_on stage bytes course (waits s bs more) ts k is =
      subst (IsProven Proves) (sym (append-nil ts)) (k.ready is)
  ready_on stage bytes course (stops s bs why ending bad refuses) ts k is = absurd is
  ready_on stage bytes course (breaks s bs ending b) ts k is = absurd is
  ready_on stage bytes course (ends s bs m len ending out read step) ts k is = absurd is
  ready_on stage bytes course (goes s next bs m len out c read step on) ts k is =
      let t : Taken = taken_step means s m (On next out) step in
      subst (IsProven Proves) (append_assoc ts (t ∷ []) (taken_in means next (drop len bs) c on))
      (ready_on next (drop len bs) c on (ts ++ t ∷ []) (step_goes ts s m (On next out) step k).1
      (ready_behind out c is))

  pub guarded : (bound : Option ℕ) (login : LoginState) (bytes : List ℕ) (course : Course Stage ServerEnding)
      → IsKnown Proves Keeps first [] first login
      → (way : Leads (serving means) (begins_within bound first login) bytes course)
      → Accounts (taken_in means (begins_within bound first login) bytes course way) bytes (sent_of course)
      × IsGuarded Proves (taken_in means (begins_within bound first login) bytes course way) course
  guarded bound login bytes course k way = (
    accounts means (begins_within bound first login) bytes course way,
    record {
      said = λ earlier later t is says. found []
          (taken_in means (begins_within bound first login) bytes course way) earlier later t
          is (each_on (begins_within bound first login) bytes course way [] k) says;
      ready = λ is. ready_on (begins_within bound first login) bytes course way [] k is;
    },
  )
