-- What the server does with each message of the client's.
use Rattle.std.proofs.Common.{lit<, ◌≡◌, ◌≢◌, ◌⊎◌, ℕ, ◌<◌, ◌≤◌, ◌-◌, true, List, [], ◌∷◌, ◌++◌, length, take, Option, Some, None, Result, Ok, Err, refl, sym, ap, subst, ◌∙◌}
use Rattle.std.specs.Prelude.{codes}
use Rattle.atomic_table.specs.Seated.{TableId}
use Rattle.pgw_types.specs.declared.error.PgWireError.{PgWireError}
use Rattle.pgw_types.specs.declared.error.PgWireError.TheVariants.{OutOfMemory}
use Rattle.pgw_wire.specs.Framing as framing
use Rattle.pgw_wire.specs.Writing as writing
use Rattle.pgw_startup.specs.declared.startup.Startup.{Startup}
use Rattle.pgw_backend.specs.Backend.{backend_encoding}
use Rattle.pgw_backend.specs.declared.backend.PgWireBackendMessage.{PgWireBackendMessage as Backend}
use Rattle.pgw_frontend.specs.Frontend.{encoding}
use Rattle.pgw_frontend.specs.FrontendTexts.{IsSoundFrontend}
use Rattle.pgw_frontend.specs.declared.frontend.PgWireFrontendMessage.{PgWireFrontendMessage as Frontend}
use Rattle.pgw_frontend.specs.declared.frontend.PgWireFrontendMessage.TheVariants as frontend
use Rattle.pgw_machine.specs.Course.{Move, On, Ends, Course, Waits, Over}
use Rattle.pgw_machine.specs.Play.{Play, Leads, waits, stops, breaks, ends, goes, course_behind}
use Rattle.pgw_machine.specs.Fronts.{Deed, deeds_in, TakesFront, awaits, breaks_off, ends_by, goes_by}
use Rattle.pgw_machine.proofs.FrontLaws.{taken_from}
use Rattle.pgw_login.specs.Acts.{Standing, standing_in_login, Answer}
use Rattle.pgw_login_server.specs.Server.{Stage, Refused, ServerEnding, server_ending, stage_after, Handles, server_encodings, bound_at, stage_front, serving}
use Rattle.pgw_login_sasl.specs.Methods.{bound_methods}
use Rattle.pgw_login_sasl.specs.Sasl.{sasl_request}
use Rattle.pgw_scram.specs.declared.binding.ClientBinding.{ClientBinding}
use Rattle.pgw_scram.specs.declared.binding.ClientBinding.TheVariants as binding
use Rattle.pgw_session.specs.Logins.{method_of}
use Rattle.pgw_session.specs.Segments.{startup_parameters}
use Rattle.pgw_login_pair.specs.declared.parties.PairInput.{PairInput}
use Rattle.pgw_login_pair.specs.Server.{scram_end, Means, methods}
use Rattle.pgw_login_pair.specs.World.{client_input, client_login, unknown, first_login, first_stage}
use Rattle.pgw_login_pair.specs.Parties.{party_messages, heard_by, raw}
use Rattle.std.specs.Prelude.{IsUtf8}
use Rattle.pgw_startup.specs.Password.{initial_response, initial_response_of}
use Rattle.pgw_startup.specs.declared.password.PasswordMessageFamily.TheVariants as family
use Rattle.pgw_scram.specs.declared.server.ScramServerAuthWaitingForClientFinal.{ScramServerAuthWaitingForClientFinal as WaitingForClientFinal}
use Rattle.pgw_scram.specs.Server.{scram_offer, accepted}
use Rattle.pgw_scram.proofs.Base64Laws.{ascii_utf8}
use Rattle.pgw_registry.specs.Generator.{unused}
use Rattle.pgw_login.specs.Acts.{with_sasl}
use Rattle.pgw_login.specs.Finish.{introduction, login_ready}
use Rattle.pgw_login.specs.Provider.{default_provider, default_parameters}
use Rattle.pgw_login.specs.declared.state.SASLState.TheVariants.{ScramServerFirstSent}
use Rattle.pgw_login_pair.proofs.Firsts.{IsNamed, method, first_body, continue_with, first_ok, first_err}
use Rattle.pgw_login_pair.proofs.Finals.{final_with, CanDraw, Drawn, known_by, CanSend, welcome, finished_at, proved_at, final_ok, final_err}
use Rattle.pgw_login_pair.proofs.Acts.{opened, startup_ok, startup_err}
use Rattle.pgw_login_pair.proofs.Meets.{steady_at}
use Rattle.pgw_login_pair.proofs.Readings.{reads_startup, reads_password, initial_reads}

-- ---- a handler's step

on_is_no_end : {S R : Type 0} {s : S} {r : R} {a b : List ℕ} → On s a ≡ Ends r b → ⊥
on_is_no_end h = cc

on_is : {S R : Type 0} {s t : S} {a b : List ℕ} → ◌≡◌ {A = Move S R} (On s a) (On t b) → (s ≡ t) × (a ≡ b)
on_is h = (cc, cc)

ends_is : {S R : Type 0} {s t : R} {a b : List ℕ} → ◌≡◌ {A = Move S R} (Ends s a) (Ends t b) → (s ≡ t) × (a ≡ b)
ends_is h = (cc, cc)

module _ (means : Frontend → Standing → Standing → List Backend → Answer → Type 0) (m : Frontend) (stage : Stage)
  where
    -- it went on
    pub record WentOn (next : Stage) (out : List ℕ) (sent : List Backend) : Type 0 where
      pub to : Standing
      pub did : means m (standing_in_login stage.client stage.login 0) to sent (Ok tt)
      pub put : server_encodings sent ≡ Ok out
      pub is : next ≡ stage_after to true stage

    -- it was refused
    pub record WasRefused (ending : ServerEnding) (out : List ℕ) (sent : List Backend) : Type 0 where
      pub to : Standing
      pub why : PgWireError
      pub did : means m (standing_in_login stage.client stage.login 0) to sent (Err why)
      pub put : server_encodings sent ≡ Ok out
      pub is : ending ≡ server_ending (Refused why) (stage_after to stage.started stage)
      pub calm : to.faults ≡ 0

    pub went_on : (next : Stage) (out : List ℕ) → (h : Handles means stage m (On next out)) → WentOn next out h.1
    went_on next out (to, sent, Ok tt, put, did, enc, is, calm) =
        let e = on_is is in
        record { to = to; did = did; put = enc ∙ ap Ok (sym e.1); is = e.0 }
    went_on next out (to, sent, Err why, put, did, enc, is, calm) = absurd (on_is_no_end is)

    pub was_refused : (ending : ServerEnding) (out : List ℕ) → (h : Handles means stage m (Ends ending out))
        → WasRefused ending out h.1
    was_refused ending out (to, sent, Ok tt, put, did, enc, is, calm) = absurd (on_is_no_end (sym is))
    was_refused ending out (to, sent, Err why, put, did, enc, is, calm) =
        let e = ends_is is in
        record { to = to; why = why; did = did; put = enc ∙ ap Ok (sym e.1); is = e.0; calm = calm }

-- one message alone
pub one_put : (m : Backend) (out : List ℕ) → server_encodings (m ∷ []) ≡ Ok out → backend_encoding m ≡ Ok out
one_put m out is = go (backend_encoding m) refl
  where
    go : (r : Result (List ℕ) PgWireError) → backend_encoding m ≡ r → backend_encoding m ≡ Ok out
    go (Ok g) e = let h : server_encodings (m ∷ []) ≡ Ok g = rw e refl in e ∙ sym h ∙ is
    go (Err why) e = let h : server_encodings (m ∷ []) ≡ Err why = rw e refl in let both = sym h ∙ is in absurd cc

-- it has not ended for want of memory
abbrev pub IsCalm : Course Stage ServerEnding → Type 0
IsCalm (Waits stage out pending) = Unit {0}
IsCalm (Over ending out) = ending.cause ≢ Refused OutOfMemory

pub still_calm : (out : List ℕ) (c : Course Stage ServerEnding) → IsCalm (course_behind out c) → IsCalm c
still_calm out (Waits s o p) calm = tt
still_calm out (Over e o) calm = calm

-- ---- the startup message

abbrev pub startup_of : PairInput → Startup
startup_of input =
    record {
      protocol_number_major = 3;
      protocol_number_minor = 0;
      parameters = startup_parameters
          (client_input input);
    }

methods_written : (hash : Option (List ℕ))
    → (g : List ℕ) × (backend_encoding (sasl_request (codes "SCRAM-SHA-256" ∷ bound_methods hash)) ≡ Ok g)
unfolding backend_encoding framing.encoded writing.u32 writing.text writing.refused_if
methods_written None = (82 ∷ 0 ∷ 0 ∷ 0 ∷ 23 ∷ 0 ∷ 0 ∷ 0 ∷ 10 ∷ (codes "SCRAM-SHA-256" ++ 0 ∷ 0 ∷ []), refl)
methods_written (Some hash) = (
  82 ∷ 0 ∷ 0 ∷ 0 ∷ 42 ∷ 0 ∷ 0 ∷ 0 ∷ 10 ∷
      (codes "SCRAM-SHA-256" ++ 0 ∷ (codes "SCRAM-SHA-256-PLUS" ++ 0 ∷ 0 ∷ [])),
  refl,
)

pub sasl_written : (input : PairInput) → (g : List ℕ) × (backend_encoding (sasl_request (methods input)) ≡ Ok g)
sasl_written input = methods_written input.server_hash

named_utf8 : (b : ClientBinding) → IsUtf8 (method_of b)
named_utf8 binding.None = ascii_utf8 (codes "SCRAM-SHA-256") refl
named_utf8 binding.NotOffered = ascii_utf8 (codes "SCRAM-SHA-256") refl
named_utf8 (binding.EndPoint hash) = ascii_utf8 (codes "SCRAM-SHA-256-PLUS") refl

pub method_utf8 : (input : PairInput) → IsUtf8 (method input)
method_utf8 input = named_utf8 (client_login input).binding

module _ (generator : TableId) (input : PairInput) where
  abbrev play : Play Stage ServerEnding Frontend PgWireError
  play = serving (Means input)

  abbrev pub heard_on : (s : Stage) (bytes : List ℕ) (c : Course Stage ServerEnding) → Leads play s bytes c
      → List Frontend
  heard_on s bytes c leads = heard_by play (deeds_in play s bytes c leads)

  abbrev pub said_on : (s : Stage) (bytes : List ℕ) (c : Course Stage ServerEnding) → Leads play s bytes c
      → List Backend
  said_on s bytes c leads = party_messages (Means input) (deeds_in play s bytes c leads)

  -- behind the startup message
  abbrev pub stage_opened : Stage
  stage_opened =
      stage_after (opened (startup_of input) (standing_in_login unknown (first_login generator input) 0)) true
      (first_stage generator input)

  abbrev pub asked : Backend
  asked = sasl_request (methods input)

  -- where the startup message and what follows it lead
  pub data TakesStartup (g : List ℕ) (count : ℕ) (rest : List ℕ) : Course Stage ServerEnding → List Frontend
      → List Backend → Type 0 where
    waits_still : count < length g
        → TakesStartup g count rest (Waits (first_stage generator input) [] (take count g)) [] []
    went : (next : Stage) → (out : List ℕ) → (c : Course Stage ServerEnding) → length g ≤ count
        → next ≡ stage_opened → backend_encoding asked ≡ Ok out
        → (on : Leads play next (take (count - length g) rest) c)
        → TakesStartup g count rest (course_behind out c)
        (frontend.Startup (startup_of input) ∷ heard_on next (take (count - length g) rest) c on)
        (asked ∷ said_on next (take (count - length g) rest) c on)

  startup_from : (g : List ℕ) (count : ℕ) (rest : List ℕ) (c : Course Stage ServerEnding) (ds : List (Deed play))
      → IsCalm c
      → TakesFront play (first_stage generator input) g (frontend.Startup (startup_of input)) count rest c ds
      → TakesStartup g count rest c (heard_by play ds) (party_messages (Means input) ds)
  startup_from g count rest c ds calm (awaits short) = waits_still short
  startup_from g count rest c ds calm (breaks_off ending b) = absurd (calm (ap (λ (x : ServerEnding). x.cause) b))
  startup_from g count rest c ds calm (ends_by ending out long step) =
      let r =
      was_refused (Means input) (frontend.Startup (startup_of input)) (first_stage generator input) ending out
      step in
      absurd (startup_err input (startup_of input) (standing_in_login unknown (first_login generator input) 0)
      r.to step.1 r.why (sasl_written input).0 refl refl refl refl refl r.calm (sasl_written input).1
      (λ e. calm (ap (λ (x : ServerEnding). x.cause) r.is
      ∙ ap Refused e)) r.did)
  startup_from g count rest c ds calm (goes_by next out c' long step on) =
      let w =
      went_on (Means input) (frontend.Startup (startup_of input)) (first_stage generator input) next out step
      in
      let s =
      startup_ok input (startup_of input) (standing_in_login unknown (first_login generator input) 0) w.to
      step.1 refl refl refl w.did in
      subst (λ (l : List Backend). TakesStartup g count rest (course_behind out c')
      (frontend.Startup (startup_of input) ∷ heard_on next (take (count - length g) rest) c' on)
      (l ++ said_on next (take (count - length g) rest) c' on)) (sym s.1)
      (went next out c' long (w.is
      ∙ ap (λ (x : Standing). stage_after x true (first_stage generator input)) s.0)
      (one_put asked out (ap server_encodings (sym s.1)
      ∙ w.put)) on)

  pub takes_startup : (g : List ℕ) (count : ℕ) (rest bytes : List ℕ) (c : Course Stage ServerEnding)
      → IsSoundFrontend (frontend.Startup (startup_of input))
      → encoding (frontend.Startup (startup_of input)) ≡ Ok g → bytes ≡ take count (g ++ rest) → IsCalm c
      → (leads : Leads play (first_stage generator input) bytes c)
      → TakesStartup g count rest c (heard_on (first_stage generator input) bytes c leads)
      (said_on (first_stage generator input) bytes c leads)
  takes_startup g count rest bytes c sound is are calm leads =
      startup_from g count rest c (deeds_in play (first_stage generator input) bytes c leads) calm
      (taken_from play steady_at (first_stage generator input) g (frontend.Startup (startup_of input)) count rest
      bytes c (reads_startup (first_stage generator input) (startup_of input) g refl sound (lit< tt) is) are
      leads)

  -- ---- client-first

  -- it has offered
  abbrev pub stage_offered : WaitingForClientFinal → Stage
  stage_offered waiting =
      stage_after (record (standing_in_login stage_opened.client stage_opened.login 0)
      { login = with_sasl (ScramServerFirstSent waiting) stage_opened.login }) true stage_opened

  -- why client-first is refused
  abbrev pub Declines : List ℕ → PgWireError → Type 0
  Declines text why =
      (scram_offer (scram_end input) text input.stored input.server_nonce ≡ Err why)
      ⊎ ((first : List ℕ) × (waiting : WaitingForClientFinal) ×
      (scram_offer (scram_end input) text input.stored input.server_nonce ≡ Ok (first, waiting))
      × (backend_encoding (continue_with first) ≡ Err why))

  abbrev pub first_raw : List ℕ → List ℕ
  first_raw text = initial_response (first_body input text)

  -- where client-first and what follows it lead
  pub data TakesFirst (text : List ℕ) (here : Stage) (g : List ℕ) (count : ℕ) (rest : List ℕ) : Course Stage
      ServerEnding
      → List Frontend → List Backend → Type 0 where
    waits_first : count < length g → TakesFirst text here g count rest (Waits here [] (take count g)) [] []
    refused_first : (ending : ServerEnding) → (why : PgWireError) → length g ≤ count → ending.cause ≡ Refused why
        → Declines text why → TakesFirst text here g count rest (Over ending []) (raw (first_raw text) ∷ []) []
    went_first : (next : Stage) → (out : List ℕ) → (c : Course Stage ServerEnding) → (first : List ℕ)
        → (waiting : WaitingForClientFinal) → length g ≤ count
        → scram_offer (scram_end input) text input.stored input.server_nonce ≡ Ok (first, waiting)
        → next ≡ stage_offered waiting → backend_encoding (continue_with first) ≡ Ok out
        → (on : Leads play next (take (count - length g) rest) c)
        → TakesFirst text here g count rest (course_behind out c)
        (raw (first_raw text) ∷ heard_on next (take (count - length g) rest) c on)
        (continue_with first ∷ said_on next (take (count - length g) rest) c on)

  none_put : (out : List ℕ) → server_encodings [] ≡ Ok out → out ≡ []
  none_put out is = cc

  first_from : (text : List ℕ) (is_named : IsNamed input text) (here : Stage) (g : List ℕ) (count : ℕ)
      (rest : List ℕ) (c : Course Stage ServerEnding) (ds : List (Deed play))
      → here ≡ stage_opened → initial_response_of (first_raw text) ≡ Ok (first_body input text) → IsCalm c
      → TakesFront play here g (raw (first_raw text)) count rest c ds
      → TakesFirst text here g count rest c (heard_by play ds) (party_messages (Means input) ds)
  first_from text is_named here g count rest c ds is reads calm (awaits short) = waits_first short
  first_from text is_named here g count rest c ds is reads calm (breaks_off ending b) =
      absurd (calm (ap (λ (x : ServerEnding). x.cause) b))
  first_from text is_named here g count rest c ds is reads calm (ends_by ending out long step) =
      let r = was_refused (Means input) (raw (first_raw text)) here ending out step in
      let did : Means input (raw (first_raw text)) (standing_in_login stage_opened.client stage_opened.login 0)
      r.to step.1 (Err r.why) =
      subst (λ (s : Stage). Means input (raw (first_raw text)) (standing_in_login s.client s.login 0) r.to
      step.1 (Err r.why)) is r.did in
      let e =
      first_err input (first_raw text) text is_named
      (standing_in_login stage_opened.client stage_opened.login 0) r.to step.1 r.why
      (record { started = refl; sasl = refl }) reads refl r.calm
      (λ e. calm (ap (λ (x : ServerEnding). x.cause) r.is
      ∙ ap Refused e)) did in
      let none : out ≡ [] = none_put out (ap server_encodings (sym e.0) ∙ r.put) in
      subst (λ (l : List Backend). TakesFirst text here g count rest (Over ending out) (raw (first_raw text) ∷ [])
      (l ++ [])) (sym e.0)
      (subst (λ (o : List ℕ). TakesFirst text here g count rest (Over ending o) (raw (first_raw text) ∷ []) [])
      (sym none) (refused_first ending r.why long (ap (λ (x : ServerEnding). x.cause) r.is) e.1))
  first_from text is_named here g count rest c ds is reads calm (goes_by next out c' long step on) =
      let w = went_on (Means input) (raw (first_raw text)) here next out step in
      let did : Means input (raw (first_raw text)) (standing_in_login stage_opened.client stage_opened.login 0)
      w.to step.1 (Ok tt) =
      subst (λ (s : Stage). Means input (raw (first_raw text)) (standing_in_login s.client s.login 0) w.to
      step.1 (Ok tt)) is w.did in
      let s =
      first_ok input (first_raw text) text is_named
      (standing_in_login stage_opened.client stage_opened.login 0) w.to step.1
      (record { started = refl; sasl = refl }) reads did in
      subst (λ (l : List Backend). TakesFirst text here g count rest (course_behind out c')
      (raw (first_raw text) ∷ heard_on next (take (count - length g) rest) c' on)
      (l ++ said_on next (take (count - length g) rest) c' on)) (sym s.4)
      (went_first next out c' s.0 s.1 long s.2 (w.is
      ∙ (λ i. stage_after (s.3 i) true (is i)))
      (one_put (continue_with s.0) out (ap server_encodings (sym s.4)
      ∙ w.put)) on)

  pub takes_first : (text : List ℕ) (is_named : IsNamed input text) (here : Stage) (g : List ℕ) (count : ℕ)
      (rest bytes : List ℕ) (c : Course Stage ServerEnding)
      → here ≡ stage_opened
      → encoding (frontend.PasswordMessageFamily (family.SASLInitialResponse (first_body input text))) ≡ Ok g
      → bytes ≡ take count (g ++ rest) → IsCalm c
      → (leads : Leads play here bytes c)
      → TakesFirst text here g count rest c (heard_on here bytes c leads) (said_on here bytes c leads)
  takes_first text is_named here g count rest bytes c is enc are calm leads =
      first_from text is_named here g count rest c (deeds_in play here bytes c leads) is
      (initial_reads (first_body input text) g (method_utf8 input) enc) calm
      (taken_from play steady_at here g (raw (first_raw text)) count rest bytes c
      (reads_password here (family.SASLInitialResponse (first_body input text)) g
      (ap (λ (s : Stage). s.started) is) (ap bound_at is) enc) are leads)

  -- ---- client-final

  -- where client-final finds it
  abbrev pub before_final : WaitingForClientFinal → Standing
  before_final waiting = standing_in_login (stage_offered waiting).client (stage_offered waiting).login 0

  abbrev pub due : (waiting : WaitingForClientFinal) → Drawn (proved_at (before_final waiting)) → List ℕ
      → List Backend
  due waiting d final = final_with final ∷ welcome (known_by (proved_at (before_final waiting)) d)

  -- nothing but want of memory stops the end of a login
  pub record IsAble : Type 0 where
    pub draws : CanDraw (unused generator 100000)
    pub finals : (waiting : WaitingForClientFinal) (text final : List ℕ) → accepted waiting text ≡ Ok final
        → CanSend (final_with final ∷ [])
    pub tells : (waiting : WaitingForClientFinal) (d : Drawn (proved_at (before_final waiting)))
        → CanSend (introduction (known_by (proved_at (before_final waiting)) d)
        (Some (default_parameters default_provider (known_by (proved_at (before_final waiting)) d))))
    pub readies : CanSend (login_ready ∷ [])

  abbrev pub stage_finished : (waiting : WaitingForClientFinal) → Drawn (proved_at (before_final waiting)) → Stage
  stage_finished waiting d =
      stage_after (finished_at (proved_at (before_final waiting)) d) true (stage_offered waiting)

  -- where client-final and what follows it lead
  pub data TakesFinal (waiting : WaitingForClientFinal) (text : List ℕ) (here : Stage) (g : List ℕ) (count : ℕ)
      (rest : List ℕ) : Course Stage ServerEnding
      → List Frontend → List Backend → Type 0 where
    awaits_final : count < length g
        → TakesFinal waiting text here g count rest (Waits here [] (take count g)) [] []
    refused_final : (ending : ServerEnding) → (why : PgWireError) → length g ≤ count → ending.cause ≡ Refused why
        → accepted waiting text ≡ Err why
        → TakesFinal waiting text here g count rest (Over ending []) (raw text ∷ []) []
    went_final : (next : Stage) → (out : List ℕ) → (c : Course Stage ServerEnding) → (final : List ℕ)
        → (d : Drawn (proved_at (before_final waiting))) → length g ≤ count → accepted waiting text ≡ Ok final
        → next ≡ stage_finished waiting d → server_encodings (due waiting d final) ≡ Ok out
        → (on : Leads play next (take (count - length g) rest) c)
        → TakesFinal waiting text here g count rest (course_behind out c)
        (raw text ∷ heard_on next (take (count - length g) rest) c on)
        (due waiting d final ++ said_on next (take (count - length g) rest) c on)

  final_from : (able : IsAble) (waiting : WaitingForClientFinal) (text : List ℕ) (here : Stage) (g : List ℕ)
      (count : ℕ) (rest : List ℕ) (c : Course Stage ServerEnding) (ds : List (Deed play))
      → here ≡ stage_offered waiting → IsCalm c
      → TakesFront play here g (raw text) count rest c ds
      → TakesFinal waiting text here g count rest c (heard_by play ds) (party_messages (Means input) ds)
  final_from able waiting text here g count rest c ds is calm (awaits short) = awaits_final short
  final_from able waiting text here g count rest c ds is calm (breaks_off ending b) =
      absurd (calm (ap (λ (x : ServerEnding). x.cause) b))
  final_from able waiting text here g count rest c ds is calm (ends_by ending out long step) =
      let r = was_refused (Means input) (raw text) here ending out step in
      let did : Means input (raw text) (before_final waiting) r.to step.1 (Err r.why) =
      subst (λ (s : Stage). Means input (raw text) (standing_in_login s.client s.login 0) r.to step.1
      (Err r.why)) is r.did in
      let e =
      final_err input text waiting (before_final waiting) r.to step.1 r.why
      (record { started = refl; sasl = refl }) refl able.draws refl r.calm (able.finals waiting text)
      (able.tells waiting) able.readies (λ e. calm (ap (λ (x : ServerEnding). x.cause) r.is
      ∙ ap Refused e)) did in
      let none : out ≡ [] = none_put out (ap server_encodings (sym e.0) ∙ r.put) in
      subst (λ (l : List Backend). TakesFinal waiting text here g count rest (Over ending out) (raw text ∷ [])
      (l ++ [])) (sym e.0)
      (subst (λ (o : List ℕ). TakesFinal waiting text here g count rest (Over ending o) (raw text ∷ []) [])
      (sym none) (refused_final ending r.why long (ap (λ (x : ServerEnding). x.cause) r.is) e.1))
  final_from able waiting text here g count rest c ds is calm (goes_by next out c' long step on) =
      let w = went_on (Means input) (raw text) here next out step in
      let did : Means input (raw text) (before_final waiting) w.to step.1 (Ok tt) =
      subst (λ (s : Stage). Means input (raw text) (standing_in_login s.client s.login 0) w.to step.1 (Ok tt))
      is w.did in
      let s =
      final_ok input text waiting (before_final waiting) w.to step.1 (record { started = refl; sasl = refl })
      refl did in
      subst (λ (l : List Backend). TakesFinal waiting text here g count rest (course_behind out c')
      (raw text ∷ heard_on next (take (count - length g) rest) c' on)
      (l ++ said_on next (take (count - length g) rest) c' on)) (sym s.4)
      (went_final next out c' s.0 s.2 long s.1 (w.is
      ∙ (λ i. stage_after (s.3 i) true (is i))) (ap server_encodings (sym s.4) ∙ w.put) on)

  pub takes_final : (able : IsAble) (waiting : WaitingForClientFinal) (text : List ℕ) (here : Stage) (g : List ℕ)
      (count : ℕ) (rest bytes : List ℕ) (c : Course Stage ServerEnding)
      → here ≡ stage_offered waiting
      → encoding (frontend.PasswordMessageFamily (family.SASLResponse (record { payload = text }))) ≡ Ok g
      → bytes ≡ take count (g ++ rest) → IsCalm c
      → (leads : Leads play here bytes c)
      → TakesFinal waiting text here g count rest c (heard_on here bytes c leads) (said_on here bytes c leads)
  takes_final able waiting text here g count rest bytes c is enc are calm leads =
      final_from able waiting text here g count rest c (deeds_in play here bytes c leads) is calm
      (taken_from play steady_at here g (raw text) count rest bytes c
      (reads_password here (family.SASLResponse (record { payload = text })) g
      (ap (λ (s : Stage). s.started) is) (ap bound_at is) enc) are leads)

  -- ---- nothing more

  -- no byte more comes
  pub takes_none : (here : Stage) (bytes : List ℕ) (c : Course Stage ServerEnding) → bytes ≡ [] → IsCalm c
      → (leads : Leads play here bytes c)
      → (c ≡ Waits here [] []) × (heard_on here bytes c leads ≡ []) × (said_on here bytes c leads ≡ [])
  takes_none here bytes c none calm (waits s bs more) = (ap (λ (l : List ℕ). Waits s [] l) none, refl, refl)
  takes_none here bytes c none calm (stops s bs why ending bad refuses) =
      let h = sym (ap (stage_front s) none ∙ (steady_at s).none) ∙ bad in absurd cc
  takes_none here bytes c none calm (breaks s bs ending b) = absurd (calm (ap (λ (x : ServerEnding). x.cause) b))
  takes_none here bytes c none calm (ends s bs m len ending out whole step) =
      let h = sym (ap (stage_front s) none ∙ (steady_at s).none) ∙ whole in absurd cc
  takes_none here bytes c none calm (goes s next bs m len out c' whole step on) =
      let h = sym (ap (stage_front s) none ∙ (steady_at s).none) ∙ whole in absurd cc
