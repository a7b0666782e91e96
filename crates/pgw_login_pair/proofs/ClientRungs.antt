-- What the client does with each message of the server's.
use Rattle.std.proofs.Common.{◌≡◌, ◌⊎◌, inl, inr, ℕ, ◌<◌, ◌≤◌, ◌-◌, List, [], ◌∷◌, ◌++◌, length, take, map, Option, Some, None, Result, Ok, Err, refl, sym, ap, subst, ◌∙◌}
use Rattle.std.proofs.lemmas.List.{append-nil}
use Rattle.pgw_types.specs.declared.error.PgWireError.{PgWireError}
use Rattle.pgw_backend.specs.declared.backend.PgWireBackendMessage.{PgWireBackendMessage as Backend}
use Rattle.pgw_backend.specs.declared.client_error.PgWireClientError.{PgWireClientError as ClientError}
use Rattle.pgw_frontend.specs.Frontend.{encodings}
use Rattle.pgw_frontend.specs.declared.frontend.PgWireFrontendMessage.{PgWireFrontendMessage as Frontend}
use Rattle.pgw_machine.specs.Course.{Move, On, Ends, Course, Waits, Over, Rules, run}
use Rattle.pgw_machine.specs.Play.{Leads, play_of, course_behind}
use Rattle.pgw_machine.proofs.CourseLaws.{run_over}
use Rattle.pgw_machine.specs.Fronts.{IsReadAs, Deed, deeds_in, TakesFront, awaits, breaks_off, ends_by, goes_by}
use Rattle.pgw_machine.proofs.FrontLaws.{taken_from, run_leads, run_behind}
use Rattle.pgw_session.specs.declared.stage.Stage.{Stage as Place}
use Rattle.pgw_session.specs.declared.stage.Stage.TheVariants.{Starting, Challenged, Proving, Admitted}
use Rattle.std.specs.Prelude.{codes}
use Rattle.pgw_types.specs.declared.context.ProtocolVersion.{ProtocolVersion}
use Rattle.pgw_types.specs.declared.context.ProtocolVersion.TheVariants.{PROTOCOL3_0}
use Rattle.pgw_scram.proofs.Base64Laws.{ascii_utf8}
use Rattle.pgw_backend.specs.Backend.{backend_encoding}
use Rattle.pgw_backend.specs.Front.{AwaitsBackend, typed_phase}
use Rattle.pgw_backend.specs.Texts.{IsSound, Suits}
use Rattle.pgw_session.specs.Reading.{version_front as reading_of_server}
use Rattle.pgw_session.specs.Standings.{standing_of}
use Rattle.pgw_session.specs.Talk.{heard_of}
use Rattle.pgw_login_pair.proofs.Readings.{reads_backend}
use Rattle.pgw_session.specs.Events.{Event as Said, Sent, Got}
use Rattle.pgw_session.specs.Input.{Input}
use Rattle.pgw_scram.specs.declared.exchange.ClientLogin.{ClientLogin}
use Rattle.pgw_session.specs.Logins.{methods_refusal, first_refusal, final_refusal, expected_of, first_message, final_message}
use Rattle.pgw_session.specs.Machine.{Outcome, Unencoded, Refused, sending, moves_by}
use Rattle.pgw_session.specs.Table.{next_unless}
use Rattle.pgw_session.specs.declared.stage.Next.TheVariants.{Goes}
use Rattle.pgw_session.specs.Segments.{startup_message}
use Rattle.pgw_session.specs.Talk.{Talk, Ending, between, talk_book, talk_rules, beginning, conversation}
use Rattle.pgw_session.proofs.ReadingLaws.{steady_by}
use Rattle.pgw_login_sasl.specs.Methods.{bound_methods}
use Rattle.pgw_login_sasl.specs.Sasl.{sasl_request}
use Rattle.pgw_login_pair.specs.declared.parties.PairInput.{PairInput}
use Rattle.pgw_login_pair.specs.Server.{methods}
use Rattle.pgw_login_pair.specs.World.{client_input, client_login}
use Rattle.pgw_login_pair.proofs.Firsts.{continue_with}
use Rattle.pgw_login_pair.proofs.Finals.{final_with}

-- the startup segment is open, with these events, at this place
abbrev pub talking : List Said → Place → Talk
talking es place = record { closed = []; open_events = es; stage = place; passed = [] }

abbrev pub over_by : Talk → Outcome → Ending
over_by t o = record { notes = t; outcome = o }

on_is_no_end : {S R : Type 0} {s : S} {r : R} {a b : List ℕ} → On s a ≡ Ends r b → ⊥
on_is_no_end h = cc

on_is : {S R : Type 0} {s t : S} {a b : List ℕ} → ◌≡◌ {A = Move S R} (On s a) (On t b) → (s ≡ t) × (a ≡ b)
on_is h = (cc, cc)

ends_is : {S R : Type 0} {s t : R} {a b : List ℕ} → ◌≡◌ {A = Move S R} (Ends s a) (Ends t b) → (s ≡ t) × (a ≡ b)
ends_is h = (cc, cc)

methods_sound : (hash : Option (List ℕ)) → IsSound (sasl_request (codes "SCRAM-SHA-256" ∷ bound_methods hash))
methods_sound None = (ascii_utf8 (codes "SCRAM-SHA-256") refl, tt)
methods_sound (Some hash) =
    (ascii_utf8 (codes "SCRAM-SHA-256") refl, (ascii_utf8 (codes "SCRAM-SHA-256-PLUS") refl, tt))

module _ (input : PairInput) where
  abbrev pub given : Input
  given = client_input input

  abbrev login : ClientLogin
  login = client_login input

  abbrev pub rules : Rules Talk Ending Backend PgWireError
  rules = talk_rules given

  abbrev pub LeadsClient : Talk → List ℕ → Course Talk Ending → Type 0
  LeadsClient = Leads (play_of rules)

  -- what a message does to it
  pub data Does (t : Talk) (g : List ℕ) (count : ℕ) (rest : List ℕ) : Move Talk Ending → Course Talk Ending
      → Type 0 where
    still : (move : Move Talk Ending) → count < length g → Does t g count rest move (Waits t [] (take count g))
    ended : (ending : Ending) → (out : List ℕ) → length g ≤ count
        → Does t g count rest (Ends ending out) (Over ending out)
    on : (next : Talk) → (out : List ℕ) → (c : Course Talk Ending) → length g ≤ count
        → LeadsClient next (take (count - length g) rest) c
        → Does t g count rest (On next out) (course_behind out c)

  does_from : (t : Talk) (m : Backend) (g : List ℕ) (count : ℕ) (rest : List ℕ) (c : Course Talk Ending)
      (ds : List (Deed (play_of rules))) (move : Move Talk Ending)
      → rules.step t m ≡ move → TakesFront (play_of rules) t g m count rest c ds → Does t g count rest move c
  does_from t m g count rest c ds move is (awaits short) = still move short
  does_from t m g count rest c ds move is (breaks_off ending b) = absurd b
  does_from t m g count rest c ds move is (ends_by ending out long step) =
      subst (λ (x : Move Talk Ending). Does t g count rest x (Over ending out)) (step
      ∙ is) (ended ending out long)
  does_from t m g count rest c ds move is (goes_by next out c' long step leads) =
      subst (λ (x : Move Talk Ending). Does t g count rest x (course_behind out c')) (step
      ∙ is) (on next out c' long leads)

  pub does : (t : Talk) (m : Backend) (g : List ℕ) (count : ℕ) (rest bytes : List ℕ) (c : Course Talk Ending)
      (move : Move Talk Ending)
      → rules.step t m ≡ move → IsReadAs (rules.read t) g m → bytes ≡ take count (g ++ rest)
      → LeadsClient t bytes c → Does t g count rest move c
  does t m g count rest bytes c move is reads are leads =
      does_from t m g count rest c (deeds_in (play_of rules) t bytes c leads) move is
      (taken_from (play_of rules) (steady_by (talk_book given) given) t g m count rest bytes c reads are
      leads)

  -- ---- the beginning

  abbrev pub started : Talk
  started = talking (Sent (startup_message given) ∷ []) Starting

  pub starts : (g bytes : List ℕ) → encodings (startup_message given ∷ []) ≡ Ok g
      → (c : Course Talk Ending) × LeadsClient started bytes c × (conversation given bytes ≡ course_behind g c)
  unfolding conversation
  starts g bytes is =
      let first : Course Talk Ending = Waits started [] [] in
      let begins : beginning given ≡ course_behind g first =
      rw is (ap (λ (l : List ℕ). Waits started l []) (sym (append-nil g))) in (
        run rules first bytes,
        run_leads rules (steady_by (talk_book given) given) started bytes,
        ap
            (λ (b : Course Talk Ending). run rules b bytes) begins
            ∙ run_behind rules g first bytes,
      )

  pub never_starts : (e : PgWireError) (bytes : List ℕ) → encodings (startup_message given ∷ []) ≡ Err e
      → conversation given bytes ≡ Over (over_by (between []) (Unencoded e)) []
  unfolding conversation
  never_starts e bytes is =
      let begins : beginning given ≡ Over (over_by (between []) (Unencoded e)) [] = rw is refl in
      ap (λ (b : Course Talk Ending). run rules b bytes) begins
      ∙ run_over rules (over_by (between []) (Unencoded e)) [] bytes

  -- ---- what it does with each message

  -- a message that may be refused, and that is answered
  replying : (t mid next : Talk) (e : Option ClientError) (m : Frontend) → Move Talk Ending
  replying t mid next (Some e) m = Ends (over_by t (Refused e)) []
  replying t mid next None m = sending mid next (encodings (m ∷ []))

  abbrev pub asked : Backend
  asked = sasl_request (methods input)

  abbrev pub first_sent : Frontend
  first_sent = first_message login

  -- client-first was sent
  abbrev pub challenged : Talk
  challenged = talking (Sent (startup_message given) ∷ Got asked ∷ Sent first_sent ∷ []) (Challenged login)

  -- client-first has no encoding
  abbrev pub unsent_first : Talk
  unsent_first = talking (Sent (startup_message given) ∷ Got asked ∷ []) (Challenged login)

  asked_step : rules.step started asked ≡ replying started unsent_first challenged
      (methods_refusal given (methods input)) first_sent
  unfolding replying
  asked_step = go (methods_refusal given (methods input))
    where
      go : (e : Option ClientError)
          → moves_by (talk_book given) given started asked
          (next_unless e (Goes (Challenged login) (Some first_sent))) ≡ replying started unsent_first
          challenged e first_sent
      go None = refl
      go (Some e) = refl

  -- client-final was sent
  abbrev pub proving : List ℕ → Talk
  proving first =
      talking (Sent (startup_message given) ∷ Got asked ∷ Sent first_sent ∷ Got (continue_with first) ∷ Sent
      (final_message login first) ∷ []) (Proving (expected_of login first))

  abbrev pub unsent_final : List ℕ → Talk
  unsent_final first =
      talking (Sent (startup_message given) ∷ Got asked ∷ Sent first_sent ∷ Got (continue_with first) ∷ [])
      (Proving (expected_of login first))

  continue_step : (first : List ℕ)
      → rules.step challenged (continue_with first) ≡ replying challenged (unsent_final first) (proving first)
      (first_refusal login first) (final_message login first)
  unfolding replying
  continue_step first = go (first_refusal login first)
    where
      go : (e : Option ClientError)
          → moves_by (talk_book given) given challenged (continue_with first)
          (next_unless e (Goes (Proving (expected_of login first)) (Some (final_message login first)))) ≡
          replying challenged (unsent_final first) (proving first) e (final_message login first)
      go None = refl
      go (Some e) = refl

  -- the login is done; this much was got behind it
  abbrev pub welcomed : (first final : List ℕ) → List Backend → Talk
  welcomed first final ms =
      talking ((Sent (startup_message given) ∷ Got asked ∷ Sent first_sent ∷ Got (continue_with first) ∷ Sent
      (final_message login first) ∷ Got (final_with final) ∷ []) ++ map Got ms) Admitted

  proved_move : (first final : List ℕ) → Option ClientError → Move Talk Ending
  proved_move first final (Some e) = Ends (over_by (proving first) (Refused e)) []
  proved_move first final None = On (welcomed first final []) []

  final_step : (first final : List ℕ)
      → rules.step (proving first) (final_with final) ≡ proved_move first final
      (final_refusal (expected_of login first) final)
  unfolding proved_move
  final_step first final = go (final_refusal (expected_of login first) final)
    where
      go : (e : Option ClientError)
          → moves_by (talk_book given) given (proving first) (final_with final)
          (next_unless e (Goes Admitted None)) ≡ proved_move first final e
      go None = refl
      go (Some e) = refl

  -- ---- where each message leads

  -- it is awaited still
  abbrev pub Still : Talk → List ℕ → ℕ → Course Talk Ending → Type 0
  Still t g count c = (count < length g) × (c ≡ Waits t [] (take count g))

  -- it was taken, and bytes were put out
  abbrev pub Led : Talk → List ℕ → List ℕ → ℕ → List ℕ → Course Talk Ending → Type 0
  Led next out g count rest c =
      (length g ≤ count) × (d : Course Talk Ending) × LeadsClient next (take (count - length g) rest) d
      × (c ≡ course_behind out d)

  pub does_end : (t : Talk) (g : List ℕ) (count : ℕ) (rest : List ℕ) (move : Move Talk Ending)
      (c : Course Talk Ending) (ending : Ending) (out : List ℕ)
      → move ≡ Ends ending out → Does t g count rest move c
      → Still t g count c ⊎ ((length g ≤ count) × (c ≡ Over ending out))
  does_end t g count rest move c ending out is (still m short) = inl (short, refl)
  does_end t g count rest move c ending out is (ended e o long) =
      let same = ends_is is in inr (long, λ i. Over (same.0 i) (same.1 i))
  does_end t g count rest move c ending out is (on next o c' long leads) = absurd (on_is_no_end is)

  pub does_on : (t : Talk) (g : List ℕ) (count : ℕ) (rest : List ℕ) (move : Move Talk Ending)
      (c : Course Talk Ending) (next : Talk) (out : List ℕ)
      → move ≡ On next out → Does t g count rest move c → Still t g count c ⊎ Led next out g count rest c
  does_on t g count rest move c next out is (still m short) = inl (short, refl)
  does_on t g count rest move c next out is (ended e o long) = absurd (on_is_no_end (sym is))
  does_on t g count rest move c next out is (on n o c' long leads) =
      let same = on_is is in
      inr (
        long,
        c',
        subst (λ (x : Talk). LeadsClient x (take (count - length g) rest) c') same.0 leads,
        ap
            (λ (l : List ℕ). course_behind l c') same.1,
      )

  -- a message that may be refused and is answered: it is awaited; refused; or taken, and its answer has no encoding, or is sent
  pub data Replies (t mid next : Talk) (refusal : Option ClientError) (m : Frontend) (g : List ℕ) (count : ℕ)
      (rest : List ℕ) (c : Course Talk Ending) : Type 0 where
    waits_for : Still t g count c → Replies t mid next refusal m g count rest c
    declines : (e : ClientError) → refusal ≡ Some e → length g ≤ count → c ≡ Over (over_by t (Refused e)) []
        → Replies t mid next refusal m g count rest c
    unwritten : (e : PgWireError) → refusal ≡ None → encodings (m ∷ []) ≡ Err e → length g ≤ count
        → c ≡ Over (over_by mid (Unencoded e)) [] → Replies t mid next refusal m g count rest c
    replies : (out : List ℕ) → refusal ≡ None → encodings (m ∷ []) ≡ Ok out → Led next out g count rest c
        → Replies t mid next refusal m g count rest c

  replies_from : (t mid next : Talk) (refusal : Option ClientError) (m : Frontend) (g : List ℕ) (count : ℕ)
      (rest : List ℕ) (c : Course Talk Ending) (e : Option ClientError) (r : Result (List ℕ) PgWireError)
      → refusal ≡ e → encodings (m ∷ []) ≡ r → Does t g count rest (replying t mid next refusal m) c
      → Replies t mid next refusal m g count rest c
  unfolding replying
  replies_from t mid next refusal m g count rest c (Some e) r is enc d =
      let move : replying t mid next refusal m ≡ Ends (over_by t (Refused e)) [] =
      ap (λ (x : Option ClientError). replying t mid next x m) is in
      elim (does_end t g count rest (replying t mid next refusal m) c (over_by t (Refused e)) [] move d)
      [ inl s ↦ waits_for s | inr o ↦ declines e is o.0 o.1 ]
  replies_from t mid next refusal m g count rest c None (Err e) is enc d =
      let move : replying t mid next refusal m ≡ Ends (over_by mid (Unencoded e)) [] =
      ap (λ (x : Option ClientError). replying t mid next x m) is ∙ ap (sending mid next) enc in
      elim (does_end t g count rest (replying t mid next refusal m) c (over_by mid (Unencoded e)) [] move d)
      [ inl s ↦ waits_for s | inr o ↦ unwritten e is enc o.0 o.1 ]
  replies_from t mid next refusal m g count rest c None (Ok out) is enc d =
      let move : replying t mid next refusal m ≡ On next out =
      ap (λ (x : Option ClientError). replying t mid next x m) is ∙ ap (sending mid next) enc in
      elim (does_on t g count rest (replying t mid next refusal m) c next out move d)
      [ inl s ↦ waits_for s | inr o ↦ replies out is enc o ]

  -- it reads at 3.0
  version_started : (standing_of given.config (heard_of started)).version ≡ PROTOCOL3_0
  unfolding standing_of
  version_started = refl

  version_challenged : (standing_of given.config (heard_of challenged)).version ≡ PROTOCOL3_0
  unfolding standing_of
  version_challenged = refl

  version_proving : (first : List ℕ) → (standing_of given.config (heard_of (proving first))).version ≡ PROTOCOL3_0
  unfolding standing_of
  version_proving first = refl

  reads_at : (t : Talk) (m : Backend) (g : List ℕ) → (standing_of given.config (heard_of t)).version ≡ PROTOCOL3_0
      → IsSound m → Suits PROTOCOL3_0 m → AwaitsBackend (typed_phase PROTOCOL3_0) m → backend_encoding m ≡ Ok g
      → IsReadAs (rules.read t) g m
  reads_at t m g version sound suits phase enc =
      subst (λ (v : ProtocolVersion). IsReadAs (reading_of_server v) g m) (sym version)
      (reads_backend PROTOCOL3_0 m g sound suits phase enc)

  pub takes_asked : (g : List ℕ) (count : ℕ) (rest bytes : List ℕ) (c : Course Talk Ending)
      → backend_encoding asked ≡ Ok g → bytes ≡ take count (g ++ rest) → LeadsClient started bytes c
      → Replies started unsent_first challenged (methods_refusal given (methods input)) first_sent g count rest c
  takes_asked g count rest bytes c enc are leads =
      replies_from started unsent_first challenged (methods_refusal given (methods input)) first_sent g count rest
      c (methods_refusal given (methods input)) (encodings (first_sent ∷ [])) refl refl
      (does started asked g count rest bytes c
      (replying started unsent_first challenged (methods_refusal given (methods input)) first_sent) asked_step
      (reads_at started asked g version_started (methods_sound input.server_hash) tt (refl, refl) enc) are
      leads)

  pub takes_continue : (first g : List ℕ) (count : ℕ) (rest bytes : List ℕ) (c : Course Talk Ending)
      → backend_encoding (continue_with first) ≡ Ok g → bytes ≡ take count (g ++ rest)
      → LeadsClient challenged bytes c
      → Replies challenged (unsent_final first) (proving first) (first_refusal login first)
      (final_message login first) g count rest c
  takes_continue first g count rest bytes c enc are leads =
      replies_from challenged (unsent_final first) (proving first) (first_refusal login first)
      (final_message login first) g count rest c (first_refusal login first)
      (encodings (final_message login first ∷ [])) refl refl
      (does challenged (continue_with first) g count rest bytes c
      (replying challenged (unsent_final first) (proving first) (first_refusal login first)
      (final_message login first)) (continue_step first)
      (reads_at challenged (continue_with first) g version_challenged tt tt (refl, refl) enc) are
      leads)

  -- ---- server-final

  pub data Verifies (first final : List ℕ) (g : List ℕ) (count : ℕ) (rest : List ℕ) (c : Course Talk Ending) :
      Type 0 where
    waits_final : Still (proving first) g count c → Verifies first final g count rest c
    declines_final : (e : ClientError) → final_refusal (expected_of login first) final ≡ Some e → length g ≤ count
        → c ≡ Over (over_by (proving first) (Refused e)) [] → Verifies first final g count rest c
    admits : final_refusal (expected_of login first) final ≡ None
        → Led (welcomed first final []) [] g count rest c → Verifies first final g count rest c

  verifies_from : (first final : List ℕ) (g : List ℕ) (count : ℕ) (rest : List ℕ) (c : Course Talk Ending)
      (e : Option ClientError)
      → final_refusal (expected_of login first) final ≡ e
      → Does (proving first) g count rest
      (proved_move first final (final_refusal (expected_of login first) final)) c
      → Verifies first final g count rest c
  unfolding proved_move
  verifies_from first final g count rest c (Some e) is d =
      let move : proved_move first final (final_refusal (expected_of login first) final) ≡ Ends
      (over_by (proving first) (Refused e)) [] =
      ap (proved_move first final) is in
      elim (does_end (proving first) g count rest
      (proved_move first final (final_refusal (expected_of login first) final)) c
      (over_by (proving first) (Refused e)) [] move d)
      [ inl s ↦ waits_final s | inr o ↦ declines_final e is o.0 o.1 ]
  verifies_from first final g count rest c None is d =
      let move : proved_move first final (final_refusal (expected_of login first) final) ≡ On
      (welcomed first final []) [] =
      ap (proved_move first final) is in
      elim (does_on (proving first) g count rest
      (proved_move first final (final_refusal (expected_of login first) final)) c (welcomed first final []) []
      move d) [ inl s ↦ waits_final s | inr o ↦ admits is o ]

  pub takes_verifier : (first final g : List ℕ) (count : ℕ) (rest bytes : List ℕ) (c : Course Talk Ending)
      → backend_encoding (final_with final) ≡ Ok g → bytes ≡ take count (g ++ rest)
      → LeadsClient (proving first) bytes c → Verifies first final g count rest c
  takes_verifier first final g count rest bytes c enc are leads =
      verifies_from first final g count rest c (final_refusal (expected_of login first) final) refl
      (does (proving first) (final_with final) g count rest bytes c
      (proved_move first final (final_refusal (expected_of login first) final)) (final_step first final)
      (reads_at (proving first) (final_with final) g (version_proving first) tt tt (refl, refl) enc) are
      leads)
