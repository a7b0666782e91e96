-- Where two parties are, by the messages that were taken.
use Rattle.std.proofs.Common.{◌≡◌, ◌≢◌, ◌⊎◌, inl, inr, ℕ, zero, suc, ◌+◌, ◌<◌, ◌≤◌, ◌-◌, Bool, true, false, List, [], ◌∷◌, ◌++◌, length, take, map, Option, Some, None, Result, Ok, Err, refl, sym, ap, subst, ◌∙◌, append_assoc, arith, length-append}
use Rattle.std.specs.Prelude.{not, codes}
use Rattle.std.proofs.lemmas.List.{append-nil}
use Rattle.atomic_table.specs.Seated.{TableId}
use Rattle.pgw_types.specs.declared.error.PgWireError.{PgWireError}
use Rattle.pgw_types.specs.declared.error.PgWireError.TheVariants.{InvalidPassword}
use Rattle.pgw_backend.specs.Backend.{backend_encoding}
use Rattle.pgw_backend.specs.declared.backend.PgWireBackendMessage.{PgWireBackendMessage as Backend}
use Rattle.pgw_backend.specs.declared.client_error.PgWireClientError.{PgWireClientError as ClientError}
use Rattle.pgw_backend.specs.declared.client_error.PgWireClientError.TheVariants as client_error
use Rattle.pgw_frontend.specs.Frontend.{encoding, both, encodings as client_encodings}
use Rattle.pgw_frontend.specs.FrontendSpells.{as_read}
use Rattle.pgw_frontend.specs.FrontendTexts.{IsSoundFrontend}
use Rattle.pgw_frontend.specs.declared.frontend.PgWireFrontendMessage.{PgWireFrontendMessage as Frontend}
use Rattle.pgw_frontend.specs.declared.frontend.PgWireFrontendMessage.TheVariants as frontend
use Rattle.pgw_machine.specs.Course.{Course, Waits, Over, sent_of}
use Rattle.pgw_machine.specs.Play.{Leads, waits, stops, breaks, ends, goes, course_behind}
use Rattle.pgw_scram.specs.declared.exchange.ClientLogin.{ClientLogin}
use Rattle.pgw_scram.specs.Exchange.{client_first, client_final}
use Rattle.pgw_scram.specs.Server.{scram_offer, accepted}
use Rattle.pgw_scram.specs.declared.server.ScramServerAuthWaitingForClientFinal.{ScramServerAuthWaitingForClientFinal as WaitingForClientFinal}
use Rattle.std.proofs.Common.{ltb, cond}
use Rattle.pgw_types.specs.declared.error.PgWireError.TheVariants.{InvalidScramMessage, MessageTooLarge}
use Rattle.pgw_types.specs.declared.error.ScramMessageFault.{ScramMessageFault}
use Rattle.pgw_types.specs.declared.error.ScramMessageFault.TheVariants as fault
use Rattle.pgw_wire.specs.Framing as framing
use Rattle.pgw_wire.specs.declared.framing.Framing.TheVariants.{Typed}
use Rattle.pgw_startup.specs.Login.{authentication}
use Rattle.pgw_startup.specs.declared.authentication.Authentication.TheVariants as auth
use Rattle.pgw_scram.specs.Readers.{read_client_first}
use Rattle.pgw_scram.specs.Answers.{unless_so}
use Rattle.pgw_scram.specs.Binding.{gs2_header, binding_text}
use Rattle.pgw_scram.specs.Offers.{bound, is_misbound}
use Rattle.pgw_scram.specs.declared.binding.ClientBinding.{ClientBinding}
use Rattle.pgw_scram.specs.Server.{scram_offer_as, offered_with, unless_misbound}
use Rattle.pgw_scram.specs.declared.messages.ClientFirst.{ClientFirst}
use Rattle.pgw_scram.specs.declared.password.Password.{Password as Kept}
use Rattle.pgw_scram.specs.declared.server.ScramServerAuth.{ScramServerAuth}
use Rattle.pgw_login_server.specs.Server.{Stage, ServerEnding, server_encodings, serving}
use Rattle.pgw_session.specs.Events.{Event as Said, Sent, Got, sents}
use Rattle.pgw_session.specs.Input.{Input}
use Rattle.pgw_session.specs.Logins.{method_of, methods_refusal, first_refusal, final_refusal, expected_of, final_message}
use Rattle.pgw_session.specs.Machine.{Outcome, Complete, Refused as OutcomeRefused, Unencoded, error_of}
use Rattle.pgw_session.specs.Segments.{startup_message}
use Rattle.pgw_session.specs.Talk.{Talk, Ending, conversation, talk_book}
use Rattle.pgw_session.proofs.ReadingLaws.{steady_by}
use Rattle.pgw_session.proofs.Events.{encodings_append}
use Rattle.pgw_login_pair.specs.declared.parties.PairInput.{PairInput}
use Rattle.pgw_login_pair.specs.declared.parties.ServerEnd.{ServerEnd}
use Rattle.pgw_login_pair.specs.declared.parties.ServerEnd.TheVariants as of_server
use Rattle.pgw_login_pair.specs.Server.{scram_end, Means, methods}
use Rattle.pgw_login_pair.specs.World.{client_input, client_login, first_stage}
use Rattle.pgw_login_pair.specs.Parties.{IsFrontOf, events_in, gots, server_end, raw, PartyTexts, proof_due, verifier_due, SaysVerifier, IsBoundTo, offer_made, ServerCause, declined, unoffered, unproved}
use Rattle.pgw_login_pair.proofs.Meets.{behind_grows}
use Rattle.pgw_login_pair.proofs.Firsts.{first_body, continue_with}
use Rattle.pgw_login_pair.proofs.ServerRungs.{one_put, method_utf8, IsCalm, still_calm, startup_of, Declines, first_raw, stage_opened, stage_offered, heard_on, said_on, takes_none, before_final, due, stage_finished, IsAble, TakesFinal, awaits_final, refused_final, went_final, takes_final, TakesFirst, waits_first, refused_first, went_first, takes_first, TakesStartup, waits_still, went, takes_startup}
use Rattle.pgw_login_pair.specs.Parties.{server_over}
use Rattle.pgw_login_pair.proofs.Finals.{final_with, welcome, Drawn, known_by, proved_at}
use Rattle.pgw_login_pair.proofs.Bound.{login_bound, awaited}
use Rattle.pgw_login_pair.proofs.Texts.{header_read, login_named, binding_read, was_offered, was_accepted, was_refused, owed, assured}
use Rattle.pgw_login_pair.proofs.Readings.{initial_reads}
use Rattle.pgw_scram.specs.Base64.{base64}
use Rattle.pgw_scram.specs.Formulas.{client_proof, proof_by, server_signature, signature_by, auth_message}
use Rattle.pgw_scram.specs.Readers.{read_client_final}
use Rattle.pgw_scram.specs.declared.messages.ClientFinal.{ClientFinal}
use Rattle.pgw_login_pair.proofs.Welcome.{puts_one, puts_join, AreGreetings, IsAtFirst, first_on, admitted, Greeted, waits_news, greeted, greets, Ready, waits_ready, is_ready, takes_ready, first_put, parts_put}
use Rattle.pgw_session.specs.Standings.{standing_of}
use Rattle.pgw_session.specs.Talk.{between}
use Rattle.pgw_login.specs.Finish.{introduction, login_ready}
use Rattle.pgw_login.specs.Provider.{default_provider, default_parameters}
use Rattle.pgw_login_pair.proofs.ClientRungs.{over_by, LeadsClient, asked, first_sent, rules, started, starts, never_starts, challenged, unsent_first, unsent_final, Replies, waits_for, declines, unwritten, replies, takes_asked, takes_continue, proving, Verifies, waits_final, declines_final, admits, takes_verifier}

-- ---- encodings of several messages

pub sent_one : (m : Frontend) (out : List ℕ) → client_encodings (m ∷ []) ≡ Ok out → encoding m ≡ Ok out
sent_one m out is = go (encoding m) refl
  where
    go : (r : Result (List ℕ) PgWireError) → encoding m ≡ r → encoding m ≡ Ok out
    go (Ok g) e =
        let h : client_encodings (m ∷ []) ≡ Ok (g ++ []) =
        rw e refl in e ∙ ap Ok (sym (append-nil g)) ∙ sym h ∙ is
    go (Err why) e = let h : client_encodings (m ∷ []) ≡ Err why = rw e refl in let both = sym h ∙ is in absurd cc

sent_join : (xs ys : List Frontend) (a b : List ℕ) → client_encodings xs ≡ Ok a → client_encodings ys ≡ Ok b
    → client_encodings (xs ++ ys) ≡ Ok (a ++ b)
sent_join xs ys a b x y =
    encodings_append xs ys ∙ ap (λ (r : Result (List ℕ) PgWireError). both r (client_encodings ys)) x
    ∙ ap (both (Ok a)) y

take_nothing : (n : ℕ) → ◌≡◌ {A = List ℕ} (take n []) []
take_nothing zero = refl
take_nothing (suc n) = refl

no_bytes : (n : ℕ) (l : List ℕ) → l ≡ [] → take n l ≡ []
no_bytes n l is = ap (take n) is ∙ take_nothing n

end_behind : (out : List ℕ) (c : Course Stage ServerEnding) → server_end (course_behind out c) ≡ server_end c
end_behind out (Waits s o p) = refl
end_behind out (Over e o) = refl

never_salted : (server : ScramServerAuth) (opening : ClientFirst) (salt : Option (List ℕ))
    (stored nonce user : List ℕ)
    → offered_with server opening salt stored nonce ≡ Err (InvalidPassword user) → ⊥
never_salted server opening None stored nonce user is = cc
never_salted server opening (Some salt) stored nonce user is = cc

never_bound : (server : ScramServerAuth) (opening : ClientFirst) (stored : Kept) (nonce user : List ℕ) (b : Bool)
    → unless_misbound (unless_so (not b) (InvalidScramMessage fault.ChannelBinding))
    (offered_with server opening stored.salt stored.password nonce) ≡ Err (InvalidPassword user) → ⊥
never_bound server opening stored nonce user true is = cc
never_bound server opening stored nonce user false is =
    never_salted server opening stored.salt stored.password nonce user is

never_offered : (server : ScramServerAuth) (text : List ℕ) (stored : Kept) (nonce user : List ℕ)
    → scram_offer server text stored nonce ≡ Err (InvalidPassword user) → ⊥
never_offered server text stored nonce user is = go (read_client_first text) refl
  where
    go : (r : Result ClientFirst ScramMessageFault) → read_client_first text ≡ r → ⊥
    go (Err why) e =
        let h : scram_offer server text stored nonce ≡ Err (InvalidScramMessage why) =
        ap (λ (r : Result ClientFirst ScramMessageFault). scram_offer_as server r stored nonce) e in let both =
        sym h
        ∙ is in cc
    go (Ok opening) e =
        never_bound server opening stored nonce user (is_misbound server.certificate_hash opening.header)
        (sym (ap (λ (r : Result ClientFirst ScramMessageFault). scram_offer_as server r stored nonce) e) ∙ is)

never_encoded : (first user : List ℕ) → backend_encoding (continue_with first) ≡ Err (InvalidPassword user) → ⊥
unfolding backend_encoding framing.encoded
never_encoded first user is =
    go (ltb 30000 (framing.saturated (length (authentication (auth.SASLContinue first)) + framing.length_field
    (Typed 82)))) is
  where
    go : (b : Bool)
        → cond b (Err (MessageTooLarge 30000 (framing.saturated
        (length (authentication (auth.SASLContinue first)) + framing.length_field (Typed 82)))))
        (Ok (framing.header (Typed 82) (length (authentication (auth.SASLContinue first)))
        ++ authentication (auth.SASLContinue first))) ≡ Err (InvalidPassword user) → ⊥
    go true h = cc
    go false h = cc

-- ---- one place of two parties

module _ (generator : TableId) (input : PairInput) where
  abbrev given : Input
  given = client_input input

  abbrev login : ClientLogin
  login = client_login input

  -- client-first, and client-final behind an offer
  abbrev pub text : List ℕ
  text = client_first login

  abbrev pub last : List ℕ → List ℕ
  last first = client_final login first

  abbrev pub IsOffer : List ℕ → WaitingForClientFinal → Type 0
  IsOffer first waiting = offer_made input ≡ Ok (first, waiting)

  -- why the client is lost
  pub data ClientCause : ClientError → Type 0 where
    no_startup : (e : PgWireError) → client_encodings (startup_message given ∷ []) ≡ Err e
        → ClientCause (client_error.PgWireError e)
    no_method : (e : ClientError) → methods_refusal given (methods input) ≡ Some e → ClientCause e
    no_first : (e : PgWireError) → client_encodings (first_sent input ∷ []) ≡ Err e
        → ClientCause (client_error.PgWireError e)
    bad_first : (e : ClientError) → (first : List ℕ) → (waiting : WaitingForClientFinal) → IsOffer first waiting
        → first_refusal login first ≡ Some e → ClientCause e
    no_final : (e : PgWireError) → (first : List ℕ) → (waiting : WaitingForClientFinal) → IsOffer first waiting
        → first_refusal login first ≡ None → client_encodings (final_message login first ∷ []) ≡ Err e
        → ClientCause (client_error.PgWireError e)
    bad_final : (e : ClientError) → (first : List ℕ) → (waiting : WaitingForClientFinal) → (final : List ℕ)
        → IsOffer first waiting → first_refusal login first ≡ None → accepted waiting (last first) ≡ Ok final
        → final_refusal (expected_of login first) final ≡ Some e → ClientCause e

  -- why the server is: client-first is declined
  declined_by : (why : PgWireError) → Declines generator input text why → ServerCause input why
  declined_by why (inl off) = declined why off
  declined_by why (inr (first, offer, off, bad)) = unoffered why first offer off bad

  -- the client took the verifier that it awaits
  abbrev pub Trusts : List Backend → Type 0
  Trusts said =
      (head : Backend) × (first : List ℕ) × (final : List ℕ) × (more : List Backend)
      × (said ≡ head ∷ continue_with first ∷ final_with final ∷ more)
      × (final_refusal (expected_of login first) final ≡ None)

  -- one of them has not taken all bytes, or the server is lost
  abbrev pub IsShort : (to_server to_client : List ℕ) (by_server by_client : ℕ) (server : ServerEnd) → Type 0
  IsShort to_server to_client by_server by_client server =
      (by_server < length to_server)
      ⊎ ((by_client < length to_client) ⊎
      ((why : PgWireError) × (server ≡ of_server.Refused why) × ServerCause input why))

  pub data ClientAt (to_server to_client : List ℕ) (by_server by_client : ℕ) (course : Course Talk Ending)
      (server : ServerEnd) (events : List Said) (said : List Backend) : Type 0 where
    waiting : (t : Talk) → (out pending : List ℕ) → course ≡ Waits t out pending → t.closed ≡ []
        → IsShort to_server to_client by_server by_client server
        → ClientAt to_server to_client by_server by_client course server events said
    lost : (t : Talk) → (o : Outcome) → (e : ClientError) → (out : List ℕ) → course ≡ Over (over_by t o) out
        → error_of o ≡ Some e → ClientCause e
        → ClientAt to_server to_client by_server by_client course server events said
    won : (t : Talk) → (out : List ℕ) → course ≡ Over (over_by t Complete) out → gots events ≡ said
        → server ≡ of_server.Finished → Trusts said
        → ClientAt to_server to_client by_server by_client course server events said

  pub data ServerAt (server : ServerEnd) (heard : List Frontend) (said : List Backend) : Type 0 where
    waiting : server ≡ of_server.Waiting → ServerAt server heard said
    lost : (why : PgWireError) → server ≡ of_server.Refused why → ServerCause input why
        → ((user : List ℕ) → why ≡ InvalidPassword user → (x : PartyTexts input heard said) ×
        ((x.closing).proof ≢ proof_due x))
        → ServerAt server heard said
    finished : server ≡ of_server.Finished → (x : PartyTexts input heard said) → (x.closing).proof ≡ proof_due x
        → SaysVerifier x
        → ((hash own : List ℕ) → input.client_hash ≡ Some hash → input.server_hash ≡ Some own → IsBoundTo own x)
        → ServerAt server heard said

  pub record Rung (to_server to_client : List ℕ) (by_server by_client : ℕ) (course : Course Talk Ending)
      (server : ServerEnd) (heard : List Frontend) (said : List Backend) : Type 0 where
    pub events : List Said
    pub events_are : events_in course ≡ events
    pub sent : client_encodings (sents events) ≡ Ok to_server
    pub spoke : server_encodings said ≡ Ok to_client
    pub got_by_server : IsFrontOf heard (map as_read (sents events))
    pub got_by_client : IsFrontOf (gots events) said
    pub client : ClientAt to_server to_client by_server by_client course server events said
    pub server_is : ServerAt server heard said

  client_none : (t : Talk) (bytes : List ℕ) (c : Course Talk Ending) → bytes ≡ [] → LeadsClient input t bytes c
      → c ≡ Waits t [] []
  client_none t bytes c none (waits s bs more) = ap (λ (l : List ℕ). Waits s [] l) none
  client_none t bytes c none (stops s bs why ending bad refuses) =
      let h = sym (ap ((rules input).read s) none ∙ (steady_by (talk_book given) given s).none) ∙ bad in absurd cc
  client_none t bytes c none (breaks s bs ending b) = absurd b
  client_none t bytes c none (ends s bs m len ending out whole step) =
      let h =
      sym (ap ((rules input).read s) none ∙ (steady_by (talk_book given) given s).none) ∙ whole in absurd cc
  client_none t bytes c none (goes s next bs m len out c' whole step on) =
      let h =
      sym (ap ((rules input).read s) none ∙ (steady_by (talk_book given) given s).none) ∙ whole in absurd cc

  events_behind : (out : List ℕ) (c : Course Talk Ending) → events_in (course_behind out c) ≡ events_in c
  events_behind out (Waits t o p) = refl
  events_behind out (Over e o) = refl

  abbrev startup : Frontend
  startup = frontend.Startup (startup_of input)

  abbrev ask : Backend
  ask = asked input

  -- ---- the server has asked, and took no more

  at_opened : (S A : List ℕ) (k K : ℕ) (course cc : Course Talk Ending) (next : Stage) (j : ℕ)
      (c : Course Stage ServerEnding)
      → course ≡ course_behind S cc → sent_of cc ≡ [] → backend_encoding ask ≡ Ok A
      → next ≡ stage_opened generator input → IsCalm c
      → (on : Leads (serving (Means input)) next (take j (sent_of cc)) c)
      → (events : List Said) → events_in cc ≡ events → client_encodings (sents events) ≡ Ok S
      → IsFrontOf (startup ∷ []) (map as_read (sents events)) → IsFrontOf (gots events) (ask ∷ [])
      → ((to_client : List ℕ) (server : ServerEnd) → to_client ≡ A → ClientAt (sent_of course) to_client k K
      course server events (ask ∷ []))
      → Rung (sent_of course) (sent_of (course_behind A c)) k K course (server_end (course_behind A c))
      (startup ∷ heard_on generator input next (take j (sent_of cc)) c on)
      (ask ∷ said_on generator input next (take j (sent_of cc)) c on)
  at_opened S A k K course cc next j c is none enc here calm on events are put heard said client =
      let n = takes_none generator input next (take j (sent_of cc)) c (no_bytes j (sent_of cc) none) calm on in
      let to_client : sent_of (course_behind A c) ≡ A =
      behind_grows A c ∙ ap (λ (x : Course Stage ServerEnding). A ++ sent_of x) n.0 ∙ append-nil A in
      let to_server : sent_of course ≡ S =
      ap sent_of is ∙ behind_grows S cc ∙ ap (λ (l : List ℕ). S ++ l) none ∙ append-nil S in
      let server : server_end (course_behind A c) ≡ of_server.Waiting =
      end_behind A c ∙ ap server_end n.0 ∙ ap (λ (s : Stage). server_end (Waits s [] [])) here in
      subst (λ (h : List Frontend). Rung (sent_of course) (sent_of (course_behind A c)) k K course
      (server_end (course_behind A c)) (startup ∷ h)
      (ask ∷ said_on generator input next (take j (sent_of cc)) c on)) (sym n.1)
      (subst (λ (s : List Backend). Rung (sent_of course) (sent_of (course_behind A c)) k K course
      (server_end (course_behind A c)) (startup ∷ []) (ask ∷ s)) (sym n.2)
      (record {
        events = events;
        events_are = ap events_in is ∙ events_behind S cc ∙ are;
        sent = put ∙ ap Ok (sym to_server);
        spoke = puts_one ask A enc ∙ ap Ok (sym to_client);
        got_by_server = heard;
        got_by_client = said;
        client = client (sent_of (course_behind A c)) (server_end (course_behind A c)) to_client;
        server_is = waiting server;
      }))

  -- ---- the server has offered, and took no more

  at_offered : (S A B C : List ℕ) (k K : ℕ) (course cc dd : Course Talk Ending) (first : List ℕ)
      (offer : WaitingForClientFinal) (next : Stage) (j : ℕ) (c : Course Stage ServerEnding)
      → course ≡ course_behind S cc → cc ≡ course_behind C dd → sent_of dd ≡ [] → backend_encoding ask ≡ Ok A
      → backend_encoding (continue_with first) ≡ Ok B → next ≡ stage_offered generator input offer → IsCalm c
      → (on : Leads (serving (Means input)) next (take j (sent_of dd)) c)
      → (events : List Said) → events_in dd ≡ events → client_encodings (sents events) ≡ Ok (S ++ C)
      → IsFrontOf (startup ∷ raw (first_raw generator input text) ∷ []) (map as_read (sents events))
      → IsFrontOf (gots events) (ask ∷ continue_with first ∷ [])
      → ((to_client : List ℕ) (server : ServerEnd) → to_client ≡ A ++ B → ClientAt (sent_of course) to_client k K
      course server events (ask ∷ continue_with first ∷ []))
      → Rung (sent_of course) (sent_of (course_behind A (course_behind B c))) k K course
      (server_end (course_behind A (course_behind B c)))
      (startup ∷ raw (first_raw generator input text) ∷ heard_on generator input next
      (take j (sent_of dd)) c on)
      (ask ∷ continue_with first ∷ said_on generator input next (take j (sent_of dd)) c on)
  at_offered S A B C k K course cc dd first offer next j c is also none enc enc2 here calm on events are put heard
      said client =
      let n = takes_none generator input next (take j (sent_of dd)) c (no_bytes j (sent_of dd) none) calm on in
      let to_client : sent_of (course_behind A (course_behind B c)) ≡ A ++ B =
      behind_grows A (course_behind B c)
      ∙ ap (λ (l : List ℕ). A ++ l) (behind_grows B c
      ∙ ap (λ (x : Course Stage ServerEnding). B ++ sent_of x) n.0 ∙ append-nil B) in
      let to_server : sent_of course ≡ S ++ C =
      ap sent_of is ∙ behind_grows S cc
      ∙ ap (λ (l : List ℕ). S ++ l) (ap sent_of also ∙ behind_grows C dd
      ∙ ap (λ (l : List ℕ). C ++ l) none ∙ append-nil C) in
      let server : server_end (course_behind A (course_behind B c)) ≡ of_server.Waiting =
      end_behind A (course_behind B c) ∙ end_behind B c ∙ ap server_end n.0
      ∙ ap (λ (s : Stage). server_end (Waits s [] [])) here in
      subst (λ (h : List Frontend). Rung (sent_of course) (sent_of (course_behind A (course_behind B c))) k K
      course (server_end (course_behind A (course_behind B c)))
      (startup ∷ raw (first_raw generator input text) ∷ h)
      (ask ∷ continue_with first ∷ said_on generator input next (take j (sent_of dd)) c on)) (sym n.1)
      (subst (λ (s : List Backend). Rung (sent_of course) (sent_of (course_behind A (course_behind B c))) k K
      course (server_end (course_behind A (course_behind B c)))
      (startup ∷ raw (first_raw generator input text) ∷ []) (ask ∷ continue_with first ∷ s)) (sym n.2)
      (record {
        events = events;
        events_are = ap events_in is ∙ events_behind S cc ∙ ap events_in also ∙ events_behind C dd ∙ are;
        sent = put ∙ ap Ok (sym to_server);
        spoke =
            puts_join (ask ∷ []) (continue_with first ∷ []) A B (puts_one ask A enc)
            (puts_one (continue_with first) B enc2)
            ∙ ap Ok (sym to_client);
        got_by_server = heard;
        got_by_client = said;
        client =
            client (sent_of (course_behind A (course_behind B c)))
            (server_end (course_behind A (course_behind B c))) to_client;
        server_is = waiting server;
      }))

  -- ---- the texts exchanged

  abbrev first_in : Frontend
  first_in = raw (first_raw generator input text)

  exchanged_at : (first : List ℕ) (offer : WaitingForClientFinal) (C : List ℕ) (later : List Backend)
      (closing : ClientFinal)
      → IsOffer first offer → client_encodings (first_sent input ∷ []) ≡ Ok C
      → read_client_final (last first) ≡ Ok closing
      → (x : PartyTexts input (startup ∷ first_in ∷ raw (last first) ∷ []) (ask ∷ continue_with first ∷ later))
      × (x.closing ≡ closing) × (proof_due x ≡ owed offer closing) × (verifier_due x ≡ assured offer closing)
      × (x.later ≡ later)
  unfolding client_proof server_signature
  exchanged_at first offer C later closing off enc closes =
      let o = was_offered (scram_end input) text input.stored input.server_nonce first offer off in (
        record {
          startup = startup_of input;
          first_body = first_raw generator input text;
          final = last first;
          first = text;
          offer = first;
          opening = o.opening;
          closing = closing;
          later = later;
          heard_are = refl;
          said_are = refl;
          initial =
              initial_reads (first_body input text) C (method_utf8 input) (sent_one (first_sent input) C enc)
              ∙ ap (λ (b : ClientBinding). Ok (record { auth_method = method_of b; payload = Some text }))
              (login_bound input);
          opens = o.reads;
          closes = closes;
          header_is = header_read login o.opening o.reads ∙ ap gs2_header (login_bound input);
          binding_is = binding_read login first closing closes ∙ ap binding_text (login_bound input);
        },
        refl,
        λ i. base64 (proof_by (sym o.key i) (auth_message (sym o.bare i) (sym o.offer i) closing.without_proof)),
        λ i. base64 (signature_by (sym o.own_key i)
            (auth_message (sym o.bare i) (sym o.offer i) closing.without_proof)),
        refl,
      )

  -- where both have a hash, it is bound to the server's own
  abbrev pub IsOwn : {heard : List Frontend} {said : List Backend} → PartyTexts input heard said → Type 0
  IsOwn x = (hash own : List ℕ) → input.client_hash ≡ Some hash → input.server_hash ≡ Some own → IsBoundTo own x

  proved_by : (first : List ℕ) (offer : WaitingForClientFinal) (C : List ℕ) (more : List Backend) (final : List ℕ)
      → IsOffer first offer → client_encodings (first_sent input ∷ []) ≡ Ok C
      → accepted offer (last first) ≡ Ok final
      → (x : PartyTexts input (startup ∷ first_in ∷ raw (last first) ∷ [])
      (ask ∷ continue_with first ∷ final_with final ∷ more))
      × ((x.closing).proof ≡ proof_due x) × SaysVerifier x × IsOwn x
  proved_by first offer C more final off enc acc =
      let a = was_accepted offer (last first) final acc in
      let o = was_offered (scram_end input) text input.stored input.server_nonce first offer off in
      let x = exchanged_at first offer C (final_with final ∷ more) a.0 off enc a.1 in (
        x.0,
        ap (λ (c : ClientFinal). c.proof) x.1 ∙ a.3 ∙ sym x.2,
        (
          more,
          x.4
              ∙ ap (λ (f : List ℕ). final_with f ∷ more) (sym a.4
              ∙ ap (λ (l : List ℕ). codes "v=" ++ l) (sym x.3)),
        ),
        λ hash own client server. ap (λ (c : ClientFinal). c.binding) x.1 ∙ a.2 ∙ o.binding
            ∙ ap (λ (h : List ℕ). base64 (bound h input.server_hash)) (header_read login o.opening o.reads
            ∙ ap gs2_header (login_bound input))
            ∙ awaited input hash own client server,
      )

  disproved_by : (first : List ℕ) (offer : WaitingForClientFinal) (C : List ℕ) (later : List Backend)
      (user : List ℕ)
      → IsOffer first offer → client_encodings (first_sent input ∷ []) ≡ Ok C
      → accepted offer (last first) ≡ Err (InvalidPassword user)
      → (x : PartyTexts input (startup ∷ first_in ∷ raw (last first) ∷ []) (ask ∷ continue_with first ∷ later))
      × ((x.closing).proof ≢ proof_due x)
  disproved_by first offer C later user off enc acc =
      let a = was_refused offer (last first) user acc in
      let x = exchanged_at first offer C later a.0 off enc a.1 in
      (x.0, λ same. a.3 (sym (ap (λ (c : ClientFinal). c.proof) x.1) ∙ same ∙ x.2))

  -- ---- the server has finished

  sents_more : (es : List Said) (ms : List Backend) → sents (es ++ map Got ms) ≡ sents es
  sents_more [] [] = refl
  sents_more [] (m ∷ ms) = sents_more [] ms
  sents_more (Sent f ∷ es) ms = ap (λ (l : List Frontend). f ∷ l) (sents_more es ms)
  sents_more (Got m ∷ es) ms = sents_more es ms

  gots_more : (es : List Said) (ms : List Backend) → gots (es ++ map Got ms) ≡ gots es ++ ms
  gots_more [] [] = refl
  gots_more [] (m ∷ ms) = ap (λ (l : List Backend). m ∷ l) (gots_more [] ms)
  gots_more (Sent f ∷ es) ms = gots_more es ms
  gots_more (Got m ∷ es) ms = ap (λ (l : List Backend). m ∷ l) (gots_more es ms)

  -- behind client-final, and behind server-final
  abbrev proving_events : List ℕ → List Said
  proving_events first =
      Sent (startup_message given) ∷ Got ask ∷ Sent (first_sent input) ∷ Got (continue_with first) ∷ Sent
      (final_message login first) ∷ []

  abbrev admitted_events : (first final : List ℕ) → List Said
  admitted_events first final =
      Sent (startup_message given) ∷ Got ask ∷ Sent (first_sent input) ∷ Got (continue_with first) ∷ Sent
      (final_message login first) ∷ Got (final_with final) ∷ []

  at_finished : (S A B F C D : List ℕ) (k K : ℕ) (course cc dd ee : Course Talk Ending) (first final : List ℕ)
      (offer : WaitingForClientFinal) (d : Drawn (proved_at (before_final generator input offer))) (next : Stage)
      (j : ℕ) (c : Course Stage ServerEnding)
      → course ≡ course_behind S cc → cc ≡ course_behind C dd → dd ≡ course_behind D ee → sent_of ee ≡ []
      → backend_encoding ask ≡ Ok A → backend_encoding (continue_with first) ≡ Ok B
      → server_encodings (due generator input offer d final) ≡ Ok F
      → client_encodings (startup_message given ∷ []) ≡ Ok S → client_encodings (first_sent input ∷ []) ≡ Ok C
      → client_encodings (final_message login first ∷ []) ≡ Ok D
      → IsOffer first offer → accepted offer (last first) ≡ Ok final
      → next ≡ stage_finished generator input offer d → IsCalm c
      → (on : Leads (serving (Means input)) next (take j (sent_of ee)) c)
      → (events : List Said) → events_in ee ≡ events → sents events ≡ sents (proving_events first)
      → IsFrontOf (gots events) (ask ∷ continue_with first ∷ due generator input offer d final)
      → ((to_client : List ℕ) (server : ServerEnd) → to_client ≡ A ++ (B ++ F) → server ≡ of_server.Finished →
      ClientAt (sent_of course) to_client k K course server events
      (ask ∷ continue_with first ∷ due generator input offer d final))
      → Rung (sent_of course) (sent_of (course_behind A (course_behind B (course_behind F c)))) k K course
      (server_end (course_behind A (course_behind B (course_behind F c))))
      (startup ∷ first_in ∷ raw (last first) ∷ heard_on generator input next (take j (sent_of ee)) c on)
      (ask ∷ continue_with first ∷
      (due generator input offer d final ++ said_on generator input next (take j (sent_of ee)) c
      on))
  at_finished S A B F C D k K course cc dd ee first final offer d next j c is also too none encA encB encF encS
      encC encD off acc here calm on events are sent said client =
      let n = takes_none generator input next (take j (sent_of ee)) c (no_bytes j (sent_of ee) none) calm on in
      let dues = due generator input offer d final in
      let server_c = course_behind A (course_behind B (course_behind F c)) in
      let to_client : sent_of server_c ≡ A ++ (B ++ F) =
      behind_grows A (course_behind B (course_behind F c))
      ∙ ap (λ (l : List ℕ). A ++ l) (behind_grows B (course_behind F c)
      ∙ ap (λ (l : List ℕ). B ++ l) (behind_grows F c
      ∙ ap (λ (x : Course Stage ServerEnding). F ++ sent_of x) n.0 ∙ append-nil F)) in
      let to_server : sent_of course ≡ S ++ (C ++ D) =
      ap sent_of is ∙ behind_grows S cc
      ∙ ap (λ (l : List ℕ). S ++ l) (ap sent_of also ∙ behind_grows C dd
      ∙ ap (λ (l : List ℕ). C ++ l) (ap sent_of too ∙ behind_grows D ee
      ∙ ap (λ (l : List ℕ). D ++ l) none ∙ append-nil D)) in
      let server : server_end server_c ≡ of_server.Finished =
      end_behind A (course_behind B (course_behind F c)) ∙ end_behind B (course_behind F c) ∙ end_behind F c
      ∙ ap server_end n.0 ∙ ap (λ (s : Stage). server_end (Waits s [] [])) here in
      let proof =
      proved_by first offer C (welcome (known_by (proved_at (before_final generator input offer)) d)) final
      off encC acc in
      let puts : client_encodings (sents (proving_events first)) ≡ Ok (S ++ (C ++ D)) =
      sent_join (startup_message given ∷ []) (first_sent input ∷ final_message login first ∷ []) S (C ++ D)
      encS (sent_join (first_sent input ∷ []) (final_message login first ∷ []) C D encC encD) in
      subst (λ (h : List Frontend). Rung (sent_of course) (sent_of server_c) k K course (server_end server_c)
      (startup ∷ first_in ∷ raw (last first) ∷ h)
      (ask ∷ continue_with first ∷ (dues ++ said_on generator input next (take j (sent_of ee)) c on)))
      (sym n.1)
      (subst (λ (s : List Backend). Rung (sent_of course) (sent_of server_c) k K course (server_end server_c)
      (startup ∷ first_in ∷ raw (last first) ∷ []) (ask ∷ continue_with first ∷ s))
      (sym (ap (λ (l : List Backend). dues ++ l) n.2
      ∙ append-nil dues))
      (record {
        events = events;
        events_are =
            ap events_in is ∙ events_behind S cc ∙ ap events_in also ∙ events_behind C dd ∙ ap events_in too
            ∙ events_behind D ee ∙ are;
        sent = ap client_encodings sent ∙ puts ∙ ap Ok (sym to_server);
        spoke =
            puts_join (ask ∷ []) (continue_with first ∷ dues) A (B ++ F) (puts_one ask A encA)
            (puts_join (continue_with first ∷ []) dues B F (puts_one (continue_with first) B encB) encF)
            ∙ ap Ok (sym to_client);
        got_by_server = ([], ap (map as_read) sent);
        got_by_client = said;
        client = client (sent_of server_c) (server_end server_c) to_client server;
        server_is = finished server proof.0 proof.1 proof.2 proof.3;
      }))

  -- ---- what the client makes of it

  admitted_first : (first final : List ℕ) → IsAtFirst given.config (admitted_events first final)
  unfolding standing_of
  admitted_first first final = refl

  greeted_first : (ms : List Backend) (es : List Said) → AreGreetings ms → IsAtFirst given.config es
      → IsAtFirst given.config (es ++ map Got ms)
  greeted_first [] es all is = subst (IsAtFirst given.config) (sym (append-nil es)) is
  greeted_first (m ∷ ms) es all is =
      subst (IsAtFirst given.config) (append_assoc es (Got m ∷ []) (map Got ms))
      (greeted_first ms (es ++ Got m ∷ []) all.1 (first_on given.config es m all.0 is))

  ended_events : (es : List Said) → events_in (Over (over_by (between (es ∷ [])) Complete) []) ≡ es
  ended_events es = append-nil ((es ++ []) ++ []) ∙ append-nil (es ++ []) ∙ append-nil es

  module _ (S A B F C D : List ℕ) (k K : ℕ) (course cc dd : Course Talk Ending) (first final : List ℕ)
      (offer : WaitingForClientFinal) (d : Drawn (proved_at (before_final generator input offer))) (next : Stage)
      (j : ℕ) (c : Course Stage ServerEnding)
      (is : course ≡ course_behind S cc) (also : cc ≡ course_behind C dd) (encA : backend_encoding ask ≡ Ok A)
      (encB : backend_encoding (continue_with first) ≡ Ok B)
      (encF : server_encodings (due generator input offer d final) ≡ Ok F)
      (encS : client_encodings (startup_message given ∷ []) ≡ Ok S)
      (encC : client_encodings (first_sent input ∷ []) ≡ Ok C)
      (encD : client_encodings (final_message login first ∷ []) ≡ Ok D)
      (off : IsOffer first offer) (fine : first_refusal login first ≡ None)
      (acc : accepted offer (last first) ≡ Ok final) (here : next ≡ stage_finished generator input offer d)
      (calm : IsCalm c) (longA : length A ≤ K) (longB : length B ≤ K - length A) where
    abbrev dues : List Backend
    dues = due generator input offer d final

    abbrev intro : List Backend
    intro =
        introduction (known_by (proved_at (before_final generator input offer)) d)
        (Some (default_parameters default_provider
        (known_by (proved_at (before_final generator input offer)) d)))

    Goal : (ee : Course Talk Ending) → Leads (serving (Means input)) next (take j (sent_of ee)) c → Type 0
    Goal ee on =
        Rung (sent_of course) (sent_of (course_behind A (course_behind B (course_behind F c)))) k K course
        (server_end (course_behind A (course_behind B (course_behind F c))))
        (startup ∷ first_in ∷ raw (last first) ∷ heard_on generator input next (take j (sent_of ee)) c on)
        (ask ∷ continue_with first ∷
        (dues ++ said_on generator input next (take j (sent_of ee)) c on))

    -- within the bytes
    within : (n : ℕ) → K - length A - length B < n → n ≤ length F → (to_client : List ℕ)
        → to_client ≡ A ++ (B ++ F) → K < length to_client
    within n short most to_client are =
        omega (arith, short, most, longA, longB, ap length are, length-append A (B ++ F), length-append B F)

    by_ready : (ee : Course Talk Ending) (on : Leads (serving (Means input)) next (take j (sent_of ee)) c)
        (f : Course Talk Ending) (G0 G1 G2 : List ℕ) (count : ℕ)
        → dd ≡ course_behind D ee → ee ≡ course_behind [] f → F ≡ G0 ++ (G1 ++ G2)
        → length G0 ≤ K - length A - length B → length G1 ≤ K - length A - length B - length G0
        → count ≡ K - length A - length B - length G0 - length G1
        → final_refusal (expected_of login first) final ≡ None
        → Ready input (admitted_events first final ++ map Got intro) G2 count f → Goal ee on
    unfolding Goal
    by_ready ee on f G0 G1 G2 count too same parts long0 long1 counts verified (waits_ready short at) =
        let ee_is : ee ≡ Waits (admitted input (admitted_events first final ++ map Got intro)) [] (take count G2) =
        same ∙ ap (course_behind []) at in
        at_finished S A B F C D k K course cc dd ee first final offer d next j c is also too (ap sent_of ee_is)
        encA encB encF encS encC encD off acc here calm on
        (admitted_events first final ++ map Got intro) (ap events_in ee_is
        ∙ append-nil (admitted_events first final ++ map Got intro))
        (sents_more (admitted_events first final) intro) (
          (login_ready ∷ []),
          ap (λ (l : List Backend). ask ∷ continue_with first ∷ l)
              (sym (ap (λ (l : List Backend). l ++ login_ready ∷ [])
              (gots_more (Got (final_with final) ∷ []) intro))),
        )
        (λ to_client server are ended. waiting (admitted input (admitted_events first final ++ map Got intro))
        (S ++ (C ++ (D ++ []))) (take count G2)
        (is ∙ ap (course_behind S) (also ∙ ap (course_behind C) (too ∙ ap (course_behind D) ee_is))) refl
        (inr (inl (within (length F)
        (omega (
          arith,
          short,
          counts,
          long0,
          long1,
          ap length parts,
          length-append G0 (G1 ++ G2),
          length-append G1 G2,
        )) (omega arith) to_client are))))
    by_ready ee on f G0 G1 G2 count too same parts long0 long1 counts verified (is_ready long at) =
        let es = (admitted_events first final ++ map Got intro) ++ Got login_ready ∷ [] in
        let all : es ≡ admitted_events first final ++ map Got (intro ++ login_ready ∷ []) =
        append_assoc (admitted_events first final) (map Got intro) (Got login_ready ∷ [])
        ∙ ap (λ (l : List Said). admitted_events first final ++ l) (map_last intro) in
        let ee_is : ee ≡ Over (over_by (between (es ∷ [])) Complete) [] = same ∙ ap (course_behind []) at in
        let gots_are : gots es ≡ ask ∷ continue_with first ∷ dues =
        ap gots all ∙ gots_more (admitted_events first final) (intro ++ login_ready ∷ []) in
        at_finished S A B F C D k K course cc dd ee first final offer d next j c is also too (ap sent_of ee_is)
        encA encB encF encS encC encD off acc here calm on
        es (ap events_in ee_is ∙ ended_events es) (ap sents all
        ∙ sents_more (admitted_events first final) (intro ++ login_ready ∷ [])) (
          [],
          sym gots_are
              ∙ sym (append-nil (gots es)),
        )
        (λ to_client server are ended. won (between (es ∷ [])) (S ++ (C ++ (D ++ []))) (is
        ∙ ap (course_behind S) (also
        ∙ ap (course_behind C) (too
        ∙ ap (course_behind D) ee_is))) gots_are ended
        (ask, first, final, intro ++ login_ready ∷ [], refl, verified))
      where
        map_last : (ms : List Backend) → map Got ms ++ Got login_ready ∷ [] ≡ map Got (ms ++ login_ready ∷ [])
        map_last [] = refl
        map_last (m ∷ ms) = ap (λ (l : List Said). Got m ∷ l) (map_last ms)

    news_events : (front : List Backend) (pending : List ℕ)
        → events_in (Waits (admitted input (admitted_events first final ++ map Got front)) [] pending) ≡
        admitted_events first final ++ map Got front
    news_events front pending = append-nil (admitted_events first final ++ map Got front)

    by_news : (ee : Course Talk Ending) (on : Leads (serving (Means input)) next (take j (sent_of ee)) c)
        (f : Course Talk Ending) (G0 G1 G2 : List ℕ)
        → dd ≡ course_behind D ee → ee ≡ course_behind [] f → F ≡ G0 ++ (G1 ++ G2)
        → length G0 ≤ K - length A - length B → backend_encoding login_ready ≡ Ok G2 → AreGreetings intro
        → final_refusal (expected_of login first) final ≡ None
        → Greeted input (admitted_events first final) intro G1 (K - length A - length B - length G0)
        (G2 ++ sent_of c) f
        → Goal ee on
    unfolding Goal
    by_news ee on f G0 G1 G2 too same parts long0 encR all verified (waits_news front back are short pending at) =
        let ee_is : ee ≡ Waits (admitted input (admitted_events first final ++ map Got front)) [] pending =
        same ∙ ap (course_behind []) at in
        let gots_are : ask ∷ continue_with first ∷ dues ≡ gots (admitted_events first final ++ map Got front) ++
        (back ++ login_ready ∷ []) =
        ap (λ (l : List Backend). ask ∷ continue_with first ∷ final_with final ∷ (l ++ login_ready ∷ [])) are
        ∙ ap (λ (l : List Backend). ask ∷ continue_with first ∷ final_with final ∷ l)
        (append_assoc front back (login_ready ∷ []))
        ∙ ap (λ (l : List Backend). l ++ (back ++ login_ready ∷ []))
        (sym (gots_more (admitted_events first final) front)) in
        at_finished S A B F C D k K course cc dd ee first final offer d next j c is also too (ap sent_of ee_is)
        encA encB encF encS encC encD off acc here calm on
        (admitted_events first final ++ map Got front) (ap events_in ee_is
        ∙ news_events front pending) (sents_more (admitted_events first final) front)
        (back ++ login_ready ∷ [], gots_are)
        (λ to_client server are ended. waiting (admitted input (admitted_events first final ++ map Got front))
        (S ++ (C ++ (D ++ []))) pending
        (is ∙ ap (course_behind S) (also ∙ ap (course_behind C) (too ∙ ap (course_behind D) ee_is))) refl
        (inr (inl (within (length G0 + length G1) (omega (arith, short, long0))
        (omega (arith, ap length parts, length-append G0 (G1 ++ G2), length-append G1 G2)) to_client are))))
    by_news ee on f G0 G1 G2 too same parts long0 encR all verified (greeted long leads) =
        by_ready ee on f G0 G1 G2 (K - length A - length B - length G0 - length G1) too same parts long0 long refl
        verified
        (takes_ready input (admitted_events first final ++ map Got intro) G2
        (K - length A - length B - length G0 - length G1) (sent_of c)
        (take (K - length A - length B - length G0 - length G1) (G2 ++ sent_of c)) f
        (greeted_first intro (admitted_events first final) all (admitted_first first final)) encR refl
        leads)

    by_verifier : (ee : Course Talk Ending) (on : Leads (serving (Means input)) next (take j (sent_of ee)) c)
        (G0 G1 G2 : List ℕ)
        → dd ≡ course_behind D ee → F ≡ G0 ++ (G1 ++ G2) → server_encodings intro ≡ Ok G1
        → backend_encoding login_ready ≡ Ok G2 → AreGreetings intro
        → Verifies input first final G0 (K - length A - length B) (G1 ++ (G2 ++ sent_of c)) ee → Goal ee on
    unfolding Goal
    by_verifier ee on G0 G1 G2 too parts encI encR all (waits_final (short, at)) =
        at_finished S A B F C D k K course cc dd ee first final offer d next j c is also too (ap sent_of at) encA
        encB encF encS encC encD off acc here calm on
        (proving_events first) (ap events_in at) refl (dues, refl)
        (λ to_client server are ended. waiting (proving input first) (S ++ (C ++ (D ++ [])))
        (take (K - length A - length B) G0)
        (is ∙ ap (course_behind S) (also
        ∙ ap (course_behind C) (too
        ∙ ap (course_behind D) at))) refl
        (inr (inl (within (length G0) short
        (omega (arith, ap length parts, length-append G0 (G1 ++ G2))) to_client are))))
    by_verifier ee on G0 G1 G2 too parts encI encR all (declines_final e refused long at) =
        at_finished S A B F C D k K course cc dd ee first final offer d next j c is also too (ap sent_of at) encA
        encB encF encS encC encD off acc here calm on
        (proving_events first) (ap events_in at) refl (dues, refl)
        (λ to_client server are ended. lost (proving input first) (OutcomeRefused e) e (S ++ (C ++ (D ++ []))) (is
        ∙ ap (course_behind S) (also
        ∙ ap (course_behind C) (too
        ∙ ap (course_behind D) at))) refl (bad_final e first offer final off fine acc refused))
    by_verifier ee on G0 G1 G2 too parts encI encR all (admits verified (long, f, leads, at)) =
        by_news ee on f G0 G1 G2 too at parts long encR all verified
        (greets input intro (admitted_events first final) G1 (K - length A - length B - length G0)
        (G2 ++ sent_of c) (take (K - length A - length B - length G0) (G1 ++ (G2 ++ sent_of c))) f
        (admitted_first first final) all encI refl leads)

    finishes : (ee : Course Talk Ending) (on : Leads (serving (Means input)) next (take j (sent_of ee)) c)
        → dd ≡ course_behind D ee → AreGreetings intro
        → LeadsClient input (proving input first) (take (K - length A - length B) (sent_of (course_behind F c)))
        ee
        → Goal ee on
    finishes ee on too all leads =
        let p = first_put (final_with final) (intro ++ login_ready ∷ []) F encF in
        let q = parts_put intro (login_ready ∷ []) p.1 p.3 in
        let parts : F ≡ p.0 ++ (q.0 ++ q.1) = p.4 ∙ ap (λ (l : List ℕ). p.0 ++ l) q.4 in
        let bytes : sent_of (course_behind F c) ≡ p.0 ++ (q.0 ++ (q.1 ++ sent_of c)) =
        behind_grows F c ∙ ap (λ (l : List ℕ). l ++ sent_of c) parts
        ∙ append_assoc p.0 (q.0 ++ q.1) (sent_of c)
        ∙ ap (λ (l : List ℕ). p.0 ++ l) (append_assoc q.0 q.1 (sent_of c)) in
        by_verifier ee on p.0 q.0 q.1 too parts q.2 (one_put login_ready q.1 q.3) all
        (takes_verifier input first final p.0 (K - length A - length B) (q.0 ++ (q.1 ++ sent_of c))
        (take (K - length A - length B) (sent_of (course_behind F c))) ee p.2
        (ap (take (K - length A - length B)) bytes) leads)

  -- ---- client-final

  -- what the server says at the end are greetings
  abbrev pub GreetsAll : Type 0
  GreetsAll =
      (offer : WaitingForClientFinal) (d : Drawn (proved_at (before_final generator input offer)))
      → AreGreetings (introduction (known_by (proved_at (before_final generator input offer)) d)
      (Some (default_parameters default_provider (known_by (proved_at (before_final generator input offer)) d))))

  three_sent : (S C D : List ℕ) (course cc dd ee : Course Talk Ending) → course ≡ course_behind S cc
      → cc ≡ course_behind C dd → dd ≡ course_behind D ee → sent_of ee ≡ [] → sent_of course ≡ S ++ (C ++ D)
  three_sent S C D course cc dd ee is also too none =
      ap sent_of is ∙ behind_grows S cc
      ∙ ap (λ (l : List ℕ). S ++ l) (ap sent_of also ∙ behind_grows C dd
      ∙ ap (λ (l : List ℕ). C ++ l) (ap sent_of too ∙ behind_grows D ee ∙ ap (λ (l : List ℕ). D ++ l) none
      ∙ append-nil D))

  rung_final : (able : IsAble generator input) (all : GreetsAll) (S A B C D : List ℕ) (k K : ℕ)
      (course cc dd ee : Course Talk Ending) (first : List ℕ) (offer : WaitingForClientFinal) (next : Stage)
      (c : Course Stage ServerEnding) (heard : List Frontend) (said : List Backend)
      → course ≡ course_behind S cc → cc ≡ course_behind C dd → dd ≡ course_behind D ee
      → backend_encoding ask ≡ Ok A → backend_encoding (continue_with first) ≡ Ok B
      → client_encodings (startup_message given ∷ []) ≡ Ok S → client_encodings (first_sent input ∷ []) ≡ Ok C
      → client_encodings (final_message login first ∷ []) ≡ Ok D
      → IsOffer first offer → first_refusal login first ≡ None → next ≡ stage_offered generator input offer
      → IsCalm c → length S ≤ k → length C ≤ k - length S → length A ≤ K → length B ≤ K - length A
      → LeadsClient input (proving input first) (take (K - length A - length B) (sent_of c)) ee
      → TakesFinal generator input offer (last first) next D (k - length S - length C) (sent_of ee) c heard
      said
      → Rung (sent_of course) (sent_of (course_behind A (course_behind B c))) k K course
      (server_end (course_behind A (course_behind B c))) (startup ∷ first_in ∷ heard)
      (ask ∷ continue_with first ∷ said)
  unfolding Goal
  rung_final able all S A B C D k K course cc dd ee first offer next c heard said is also too encA encB encS encC
      encD off fine here calm longS longC longA longB leads (awaits_final short) =
      let at : ee ≡ Waits (proving input first) [] [] =
      client_none (proving input first) (take (K - length A - length B) []) ee
      (take_nothing (K - length A - length B)) leads in
      let to_server : sent_of course ≡ S ++ (C ++ D) =
      three_sent S C D course cc dd ee is also too (ap sent_of at) in
      record {
        events = proving_events first;
        events_are =
            ap events_in is ∙ events_behind S cc ∙ ap events_in also ∙ events_behind C dd ∙ ap events_in too
            ∙ events_behind D ee ∙ ap events_in at;
        sent = sent_join (startup_message given ∷ []) (first_sent input ∷ final_message login first ∷ []) S
            (C ++ D) encS (sent_join (first_sent input ∷ []) (final_message login first ∷ []) C D encC encD)
            ∙ ap Ok (sym to_server);
        spoke =
            puts_join (ask ∷ []) (continue_with first ∷ []) A B (puts_one ask A encA)
            (puts_one (continue_with first) B encB)
            ∙ ap (λ (l : List ℕ). Ok (A ++ l)) (sym (append-nil B));
        got_by_server = (raw (last first) ∷ [], refl);
        got_by_client = ([], refl);
        client =
            waiting (proving input first) (S ++ (C ++ (D ++ []))) [] (is
            ∙ ap (course_behind S) (also
            ∙ ap (course_behind C) (too
            ∙ ap (course_behind D) at))) refl
            (inl (omega (
              arith,
              short,
              longS,
              longC,
              ap length to_server,
              length-append S (C ++ D),
              length-append C D,
            )));
        server_is = waiting (ap (λ (s : Stage). server_end (Waits s [] [])) here);
      }
  rung_final able all S A B C D k K course cc dd ee first offer next c heard said is also too encA encB encS encC
      encD off fine here calm longS longC longA longB leads (refused_final ending why long cause acc) =
      let at : ee ≡ Waits (proving input first) [] [] =
      client_none (proving input first) (take (K - length A - length B) []) ee
      (take_nothing (K - length A - length B)) leads in
      let to_server : sent_of course ≡ S ++ (C ++ D) =
      three_sent S C D course cc dd ee is also too (ap sent_of at) in
      record {
        events = proving_events first;
        events_are =
            ap events_in is ∙ events_behind S cc ∙ ap events_in also ∙ events_behind C dd ∙ ap events_in too
            ∙ events_behind D ee ∙ ap events_in at;
        sent = sent_join (startup_message given ∷ []) (first_sent input ∷ final_message login first ∷ []) S
            (C ++ D) encS (sent_join (first_sent input ∷ []) (final_message login first ∷ []) C D encC encD)
            ∙ ap Ok (sym to_server);
        spoke =
            puts_join (ask ∷ []) (continue_with first ∷ []) A B (puts_one ask A encA)
            (puts_one (continue_with first) B encB)
            ∙ ap (λ (l : List ℕ). Ok (A ++ l)) (sym (append-nil B));
        got_by_server = ([], refl);
        got_by_client = ([], refl);
        client =
            waiting (proving input first) (S ++ (C ++ (D ++ []))) [] (is
            ∙ ap (course_behind S) (also
            ∙ ap (course_behind C) (too
            ∙ ap (course_behind D) at))) refl
            (inr (inr (why, ap server_over cause, unproved why first offer off fine acc)));
        server_is =
            lost why (ap server_over cause) (unproved why first offer off fine acc)
            (λ user named. disproved_by first offer C [] user off encC (acc
            ∙ ap (λ (e : PgWireError). Err e) named));
      }
  rung_final able all S A B C D k K course cc dd ee first offer next c heard said is also too encA encB encS encC
      encD off fine here calm longS longC longA longB leads (went_final next' F c' final d long acc here' encF on) =
      finishes S A B F C D k K course cc dd first final offer d next' (k - length S - length C - length D) c' is
      also encA encB encF encS encC encD off fine acc here' (still_calm F c' calm) longA longB ee on too
      (all offer d) leads

  -- ---- server-first

  abbrev challenged_events : List Said
  challenged_events = Sent (startup_message given) ∷ Got ask ∷ Sent (first_sent input) ∷ []

  two_put : (S C : List ℕ) → client_encodings (startup_message given ∷ []) ≡ Ok S
      → client_encodings (first_sent input ∷ []) ≡ Ok C
      → client_encodings (startup_message given ∷ first_sent input ∷ []) ≡ Ok (S ++ C)
  two_put S C encS encC = sent_join (startup_message given ∷ []) (first_sent input ∷ []) S C encS encC

  rung_continue : (able : IsAble generator input) (all : GreetsAll) (S A B C : List ℕ) (k K : ℕ)
      (course cc dd : Course Talk Ending) (first : List ℕ) (offer : WaitingForClientFinal) (next : Stage)
      (c : Course Stage ServerEnding)
      → course ≡ course_behind S cc → cc ≡ course_behind C dd → backend_encoding ask ≡ Ok A
      → backend_encoding (continue_with first) ≡ Ok B → client_encodings (startup_message given ∷ []) ≡ Ok S
      → client_encodings (first_sent input ∷ []) ≡ Ok C
      → IsOffer first offer → next ≡ stage_offered generator input offer → IsCalm c → length S ≤ k
      → length C ≤ k - length S → length A ≤ K
      → (on : Leads (serving (Means input)) next (take (k - length S - length C) (sent_of dd)) c)
      → Replies input (challenged input) (unsent_final input first) (proving input first)
      (first_refusal login first) (final_message login first) B (K - length A) (sent_of c) dd
      → Rung (sent_of course) (sent_of (course_behind A (course_behind B c))) k K course
      (server_end (course_behind A (course_behind B c)))
      (startup ∷ first_in ∷ heard_on generator input next (take (k - length S - length C) (sent_of dd)) c
      on) (ask ∷ continue_with first ∷ said_on generator input next
      (take (k - length S - length C) (sent_of dd)) c on)
  rung_continue able all S A B C k K course cc dd first offer next c is also encA encB encS encC off here calm
      longS longC longA on (waits_for (short, at)) =
      at_offered S A B C k K course cc dd first offer next (k - length S - length C) c is also (ap sent_of at)
      encA encB here calm on challenged_events (ap events_in at) (two_put S C encS encC) ([], refl)
      (continue_with first ∷ [], refl)
      (λ to_client server are. waiting (challenged input) (S ++ (C ++ [])) (take (K - length A) B) (is
      ∙ ap (course_behind S) (also
      ∙ ap (course_behind C) at)) refl
      (inr (inl (omega (arith, short, longA, ap length are, length-append A B)))))
  rung_continue able all S A B C k K course cc dd first offer next c is also encA encB encS encC off here calm
      longS longC longA on (declines e refused long at) =
      at_offered S A B C k K course cc dd first offer next (k - length S - length C) c is also (ap sent_of at)
      encA encB here calm on challenged_events (ap events_in at) (two_put S C encS encC) ([], refl)
      (continue_with first ∷ [], refl)
      (λ to_client server are. lost (challenged input) (OutcomeRefused e) e (S ++ (C ++ [])) (is
      ∙ ap (course_behind S) (also ∙ ap (course_behind C) at)) refl (bad_first e first offer off refused))
  rung_continue able all S A B C k K course cc dd first offer next c is also encA encB encS encC off here calm
      longS longC longA on (unwritten e fine bad long at) =
      at_offered S A B C k K course cc dd first offer next (k - length S - length C) c is also (ap sent_of at)
      encA encB here calm on (challenged_events ++ Got (continue_with first) ∷ []) (ap events_in at)
      (two_put S C encS encC) ([], refl) ([], refl)
      (λ to_client server are. lost (unsent_final input first) (Unencoded e) (client_error.PgWireError e)
      (S ++ (C ++ [])) (is
      ∙ ap (course_behind S) (also ∙ ap (course_behind C) at)) refl (no_final e first offer off fine bad))
  rung_continue able all S A B C k K course cc dd first offer next c is also encA encB encS encC off here calm
      longS longC longA on (replies D fine encD (longB, ee, leads, too)) =
      let bytes : take (k - length S - length C) (sent_of dd) ≡ take (k - length S - length C) (D ++ sent_of ee) =
      ap (take (k - length S - length C)) (ap sent_of too ∙ behind_grows D ee) in
      rung_final able all S A B C D k K course cc dd ee first offer next c
      (heard_on generator input next (take (k - length S - length C) (sent_of dd)) c on)
      (said_on generator input next (take (k - length S - length C) (sent_of dd)) c on)
      is also too encA encB encS encC encD off fine here calm longS longC longA longB leads
      (takes_final generator input able offer (last first) next D (k - length S - length C) (sent_of ee)
      (take (k - length S - length C) (sent_of dd)) c here (sent_one (final_message login first) D encD) bytes
      calm on)

  -- ---- client-first

  declines_by : (P : PgWireError → Type 0) {a b : PgWireError} → a ≡ b → P a → P b
  declines_by P same h = subst P same h

  -- it is not refused for a password
  never_declines : (user : List ℕ) → Declines generator input text (InvalidPassword user) → ⊥
  never_declines user (inl off) = never_offered (scram_end input) text input.stored input.server_nonce user off
  never_declines user (inr (first, offer, off, enc)) = never_encoded first user enc

  two_sent : (S C : List ℕ) (course cc dd : Course Talk Ending) → course ≡ course_behind S cc
      → cc ≡ course_behind C dd → sent_of dd ≡ [] → sent_of course ≡ S ++ C
  two_sent S C course cc dd is also none =
      ap sent_of is ∙ behind_grows S cc
      ∙ ap (λ (l : List ℕ). S ++ l) (ap sent_of also ∙ behind_grows C dd ∙ ap (λ (l : List ℕ). C ++ l) none
      ∙ append-nil C)

  rung_first : (able : IsAble generator input) (all : GreetsAll) (S A C : List ℕ) (k K : ℕ)
      (course cc dd : Course Talk Ending) (next : Stage) (c : Course Stage ServerEnding) (heard : List Frontend)
      (said : List Backend)
      → course ≡ course_behind S cc → cc ≡ course_behind C dd → backend_encoding ask ≡ Ok A
      → client_encodings (startup_message given ∷ []) ≡ Ok S → client_encodings (first_sent input ∷ []) ≡ Ok C
      → next ≡ stage_opened generator input → IsCalm c → length S ≤ k → length A ≤ K
      → LeadsClient input (challenged input) (take (K - length A) (sent_of c)) dd
      → TakesFirst generator input text next C (k - length S) (sent_of dd) c heard said
      → Rung (sent_of course) (sent_of (course_behind A c)) k K course (server_end (course_behind A c))
      (startup ∷ heard) (ask ∷ said)
  rung_first able all S A C k K course cc dd next c heard said is also encA encS encC here calm longS longA leads
      (waits_first short) =
      let at : dd ≡ Waits (challenged input) [] [] =
      client_none (challenged input) (take (K - length A) []) dd (take_nothing (K - length A)) leads in
      let to_server : sent_of course ≡ S ++ C = two_sent S C course cc dd is also (ap sent_of at) in
      record {
        events = challenged_events;
        events_are =
            ap events_in is ∙ events_behind S cc ∙ ap events_in also ∙ events_behind C dd ∙ ap events_in at;
        sent = two_put S C encS encC ∙ ap Ok (sym to_server);
        spoke = puts_one ask A encA ∙ ap Ok (sym (append-nil A));
        got_by_server = (first_in ∷ [], refl);
        got_by_client = ([], refl);
        client =
            waiting (challenged input) (S ++ (C ++ [])) [] (is
            ∙ ap (course_behind S) (also
            ∙ ap (course_behind C) at)) refl
            (inl (omega (arith, short, longS, ap length to_server, length-append S C)));
        server_is = waiting (ap (λ (s : Stage). server_end (Waits s [] [])) here);
      }
  rung_first able all S A C k K course cc dd next c heard said is also encA encS encC here calm longS longA leads
      (refused_first ending why long cause decl) =
      let at : dd ≡ Waits (challenged input) [] [] =
      client_none (challenged input) (take (K - length A) []) dd (take_nothing (K - length A)) leads in
      let to_server : sent_of course ≡ S ++ C = two_sent S C course cc dd is also (ap sent_of at) in
      record {
        events = challenged_events;
        events_are =
            ap events_in is ∙ events_behind S cc ∙ ap events_in also ∙ events_behind C dd ∙ ap events_in at;
        sent = two_put S C encS encC ∙ ap Ok (sym to_server);
        spoke = puts_one ask A encA ∙ ap Ok (sym (append-nil A));
        got_by_server = ([], refl);
        got_by_client = ([], refl);
        client =
            waiting (challenged input) (S ++ (C ++ [])) [] (is
            ∙ ap (course_behind S) (also
            ∙ ap (course_behind C) at)) refl
            (inr (inr (why, ap server_over cause, declined_by why decl)));
        server_is =
            lost why (ap server_over cause) (declined_by why decl)
            (λ user named. absurd
            (never_declines user (declines_by (λ w. Declines generator input text w) named decl)));
      }
  rung_first able all S A C k K course cc dd next c heard said is also encA encS encC here calm longS longA leads
      (went_first next' B c' first offer long off here' encB on) =
      let bytes : take (K - length A) (sent_of (course_behind B c')) ≡ take (K - length A) (B ++ sent_of c') =
      ap (take (K - length A)) (behind_grows B c') in
      rung_continue able all S A B C k K course cc dd first offer next' c' is also encA encB encS encC off here'
      (still_calm B c' calm) longS long longA on
      (takes_continue input first B (K - length A) (sent_of c')
      (take (K - length A) (sent_of (course_behind B c'))) dd encB bytes leads)

  -- ---- the request to log in

  abbrev opening_events : List Said
  opening_events = Sent (startup_message given) ∷ []

  rung_asked : (able : IsAble generator input) (all : GreetsAll) (S A : List ℕ) (k K : ℕ)
      (course cc : Course Talk Ending) (next : Stage) (c : Course Stage ServerEnding)
      → course ≡ course_behind S cc → backend_encoding ask ≡ Ok A
      → client_encodings (startup_message given ∷ []) ≡ Ok S → next ≡ stage_opened generator input → IsCalm c
      → length S ≤ k
      → (on : Leads (serving (Means input)) next (take (k - length S) (sent_of cc)) c)
      → Replies input (started input) (unsent_first input) (challenged input)
      (methods_refusal given (methods input)) (first_sent input) A K (sent_of c) cc
      → Rung (sent_of course) (sent_of (course_behind A c)) k K course (server_end (course_behind A c))
      (startup ∷ heard_on generator input next (take (k - length S) (sent_of cc)) c on)
      (ask ∷ said_on generator input next (take (k - length S) (sent_of cc)) c on)
  rung_asked able all S A k K course cc next c is encA encS here calm longS on (waits_for (short, at)) =
      at_opened S A k K course cc next (k - length S) c is (ap sent_of at) encA here calm on opening_events
      (ap events_in at) encS ([], refl) (ask ∷ [], refl)
      (λ to_client server are. waiting (started input) (S ++ []) (take K A) (is
      ∙ ap (course_behind S) at) refl (inr (inl (omega (arith, short, ap length are)))))
  rung_asked able all S A k K course cc next c is encA encS here calm longS on (declines e refused long at) =
      at_opened S A k K course cc next (k - length S) c is (ap sent_of at) encA here calm on opening_events
      (ap events_in at) encS ([], refl) (ask ∷ [], refl)
      (λ to_client server are. lost (started input) (OutcomeRefused e) e (S ++ []) (is
      ∙ ap (course_behind S) at) refl (no_method e refused))
  rung_asked able all S A k K course cc next c is encA encS here calm longS on (unwritten e fine bad long at) =
      at_opened S A k K course cc next (k - length S) c is (ap sent_of at) encA here calm on
      (opening_events ++ Got ask ∷ []) (ap events_in at) encS ([], refl) ([], refl)
      (λ to_client server are. lost (unsent_first input) (Unencoded e) (client_error.PgWireError e) (S ++ []) (is
      ∙ ap (course_behind S) at) refl (no_first e bad))
  rung_asked able all S A k K course cc next c is encA encS here calm longS on
      (replies C fine encC (longA, dd, leads, also)) =
      let bytes : take (k - length S) (sent_of cc) ≡ take (k - length S) (C ++ sent_of dd) =
      ap (take (k - length S)) (ap sent_of also ∙ behind_grows C dd) in
      rung_first able all S A C k K course cc dd next c
      (heard_on generator input next (take (k - length S) (sent_of cc)) c on)
      (said_on generator input next (take (k - length S) (sent_of cc)) c on)
      is also encA encS encC here calm longS longA leads
      (takes_first generator input text (login_named login) next C (k - length S) (sent_of dd)
      (take (k - length S) (sent_of cc)) c here (sent_one (first_sent input) C encC) bytes calm on)

  -- ---- the startup message

  rung_startup : (able : IsAble generator input) (all : GreetsAll) (S : List ℕ) (k K : ℕ)
      (course cc : Course Talk Ending) (server : Course Stage ServerEnding) (heard : List Frontend)
      (said : List Backend)
      → course ≡ course_behind S cc → client_encodings (startup_message given ∷ []) ≡ Ok S → IsCalm server
      → LeadsClient input (started input) (take K (sent_of server)) cc
      → TakesStartup generator input S k (sent_of cc) server heard said
      → Rung (sent_of course) (sent_of server) k K course (server_end server) heard said
  rung_startup able all S k K course cc server heard said is encS calm leads (waits_still short) =
      let at : cc ≡ Waits (started input) [] [] =
      client_none (started input) (take K []) cc (take_nothing K) leads in
      let to_server : sent_of course ≡ S =
      ap sent_of is ∙ behind_grows S cc ∙ ap (λ (l : List ℕ). S ++ l) (ap sent_of at) ∙ append-nil S in
      record {
        events = opening_events;
        events_are = ap events_in is ∙ events_behind S cc ∙ ap events_in at;
        sent = encS ∙ ap Ok (sym to_server);
        spoke = refl;
        got_by_server = (startup ∷ [], refl);
        got_by_client = ([], refl);
        client =
            waiting (started input) (S ++ []) [] (is
            ∙ ap (course_behind S) at) refl (inl (omega (arith, short, ap length to_server)));
        server_is = waiting refl;
      }
  rung_startup able all S k K course cc server heard said is encS calm leads (went next A c long here encA on) =
      let bytes : take K (sent_of (course_behind A c)) ≡ take K (A ++ sent_of c) =
      ap (take K) (behind_grows A c) in
      rung_asked able all S A k K course cc next c is encA encS here (still_calm A c calm) long on
      (takes_asked input A K (sent_of c) (take K (sent_of (course_behind A c))) cc encA bytes leads)

  -- ---- where they are, by the bytes that each has taken

  known_start : (r : Result (List ℕ) PgWireError)
      → ((g : List ℕ) × (r ≡ Ok g)) ⊎ ((e : PgWireError) × (r ≡ Err e))
  known_start (Ok g) = inl (g, refl)
  known_start (Err e) = inr (e, refl)

  unopened : (e : PgWireError) (k K : ℕ) (course : Course Talk Ending) (server : Course Stage ServerEnding)
      (bytes : List ℕ)
      → client_encodings (startup_message given ∷ []) ≡ Err e
      → course ≡ Over (over_by (between []) (Unencoded e)) [] → bytes ≡ take k (sent_of course)
      → IsCalm server
      → (leads : Leads (serving (Means input)) (first_stage generator input) bytes server)
      → Rung (sent_of course) (sent_of server) k K course (server_end server)
      (heard_on generator input (first_stage generator input) bytes server leads)
      (said_on generator input (first_stage generator input) bytes server leads)
  unopened e k K course server bytes bad at these calm leads =
      let n =
      takes_none generator input (first_stage generator input) bytes server (these
      ∙ no_bytes k (sent_of course) (ap sent_of at)) calm leads in
      subst (λ (h : List Frontend). Rung (sent_of course) (sent_of server) k K course (server_end server) h
      (said_on generator input (first_stage generator input) bytes server leads)) (sym n.1)
      (subst (λ (s : List Backend). Rung (sent_of course) (sent_of server) k K course (server_end server) [] s)
      (sym n.2)
      (record {
        events = [];
        events_are = ap events_in at;
        sent = ap (λ (l : List ℕ). Ok l) (sym (ap sent_of at));
        spoke = ap (λ (l : List ℕ). Ok l) (sym (ap sent_of n.0));
        got_by_server = ([], refl);
        got_by_client = ([], refl);
        client = lost (between []) (Unencoded e) (client_error.PgWireError e) [] at refl (no_startup e bad);
        server_is = waiting (ap server_end n.0);
      }))

  -- the startup message has an encoding
  abbrev pub Opens : Type 0
  Opens = (g : List ℕ) × (client_encodings (startup_message given ∷ []) ≡ Ok g)

  pub climb : (able : Opens → IsAble generator input) (all : Opens → GreetsAll) (k K : ℕ)
      (course : Course Talk Ending) (server : Course Stage ServerEnding) (bytes : List ℕ)
      → IsSoundFrontend startup → course ≡ conversation given (take K (sent_of server))
      → bytes ≡ take k (sent_of course) → IsCalm server
      → (leads : Leads (serving (Means input)) (first_stage generator input) bytes server)
      → Rung (sent_of course) (sent_of server) k K course (server_end server)
      (heard_on generator input (first_stage generator input) bytes server leads)
      (said_on generator input (first_stage generator input) bytes server leads)
  climb able all k K course server bytes sound are these calm leads =
      elim (known_start (client_encodings (startup_message given ∷ []))) [
        | inl r ↦
            let b = starts input r.0 (take K (sent_of server)) r.1 in
            let is : course ≡ course_behind r.0 b.0 = are ∙ b.2 in
            rung_startup (able r) (all r) r.0 k K course b.0 server
            (heard_on generator input (first_stage generator input) bytes server leads)
            (said_on generator input (first_stage generator input) bytes server leads) is r.1 calm b.1
            (takes_startup generator input r.0 k (sent_of b.0) bytes server sound
            (sent_one (startup_message given) r.0 r.1) (these
            ∙ ap (take k) (ap sent_of is ∙ behind_grows r.0 b.0)) calm leads)
        | inr r ↦ unopened r.0 k K course server bytes r.1 (are
            ∙ never_starts input r.0 (take K (sent_of server)) r.1) these calm leads
      ]
