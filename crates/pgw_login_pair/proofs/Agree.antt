-- What holds of two parties, by where they are.
use Rattle.std.proofs.Common.{◌≡◌, ◌≢◌, inl, inr, ℕ, zero, suc, ◌<◌, ◌-◌, List, [], ◌∷◌, ◌++◌, length, take, map, fold, Option, Some, None, Result, Ok, Err, refl, sym, ap, subst, ◌∙◌, arith}
use Rattle.std.proofs.lemmas.List.{take_all}
use Rattle.pgw_types.specs.declared.error.PgWireError.{PgWireError}
use Rattle.pgw_types.specs.declared.error.PgWireError.TheVariants.{InvalidPassword, InvalidScramMessage, OutOfMemory}
use Rattle.pgw_types.specs.declared.error.ScramMessageFault.TheVariants as fault
use Rattle.pgw_backend.specs.declared.backend.PgWireBackendMessage.{PgWireBackendMessage as Backend}
use Rattle.pgw_backend.specs.declared.client_error.PgWireClientError.{PgWireClientError as ClientError}
use Rattle.pgw_frontend.specs.Frontend.{encodings as client_encodings}
use Rattle.pgw_frontend.specs.FrontendSpells.{as_read}
use Rattle.pgw_frontend.specs.FrontendTexts.{IsSoundFrontend}
use Rattle.pgw_frontend.specs.declared.frontend.PgWireFrontendMessage.{PgWireFrontendMessage as Frontend}
use Rattle.pgw_frontend.specs.declared.frontend.PgWireFrontendMessage.TheVariants as frontend
use Rattle.pgw_config.specs.declared.config.Config.{Config}
use Rattle.pgw_machine.specs.Course.{Course, Waits, Over, sent_of}
use Rattle.pgw_login_server.specs.Server.{Stage, ServerEnding}
use Rattle.pgw_session.specs.declared.standing.Standing.{Standing as Told}
use Rattle.pgw_session.specs.Events.{Event as Said, Sent, Got, sents}
use Rattle.pgw_session.specs.Machine.{Complete, error_of}
use Rattle.pgw_session.specs.Standings.{standing_at, standing_of, first_standing}
use Rattle.pgw_session.specs.Talk.{Talk, Ending, conversation}
use Rattle.pgw_dialogue.specs.Answers.{answer_to, answer_at, waiting_answer, ending_answer, taken_of}
use Rattle.pgw_dialogue.specs.declared.phase.DialoguePhase.{DialoguePhase}
use Rattle.pgw_dialogue.specs.declared.phase.DialoguePhase.TheVariants as phase
use Rattle.pgw_handlers.specs.declared.client_info.ServerInformation.{ServerInformation}
use Rattle.pgw_login_pair.specs.declared.parties.PairInput.{PairInput}
use Rattle.pgw_login_pair.specs.declared.parties.PairOutcome.{PairOutcome}
use Rattle.pgw_login_pair.specs.declared.parties.ClientEnd.TheVariants as of_client
use Rattle.pgw_login_pair.specs.declared.parties.ServerEnd.{ServerEnd}
use Rattle.pgw_login_pair.specs.declared.parties.ServerEnd.TheVariants as of_server
use Rattle.pgw_login_pair.specs.World.{client_config, client_input, client_login, most, talk}
use Rattle.pgw_login_pair.specs.Parties.{events_in, gots, information_of, client_by, server_end, PartyTexts, proof_due, verifier_due, SaysVerifier, IsBoundTo, ServerCause, HaveDifferentHashes, ShareAPassword, AreHonestParties, HasTakenAll, is_refused_client, is_refused_server, Pairs, TwoParty, heard_in, said_in}
use Rattle.pgw_login_pair.specs.Parties.{server_over}
use Rattle.pgw_login_pair.specs.Sound.{IsSoundInput}
use Rattle.pgw_login_pair.proofs.Bound.{written, same_text}
use Rattle.pgw_login_pair.proofs.Meets.{short}
use Rattle.pgw_login_pair.proofs.NoMemory.{starved, has_memory}
use Rattle.pgw_login_pair.proofs.Texts.{verifier_same}
use Rattle.pgw_login_pair.proofs.Firsts.{continue_with}
use Rattle.pgw_login_pair.proofs.Finals.{final_with}
use Rattle.pgw_scram.specs.Exchange.{signature}
use Rattle.pgw_scram.specs.Formulas.{auth_message, server_signature}
use Rattle.pgw_scram.specs.Refusals.{scram_refusal}
use Rattle.pgw_backend.specs.ClientError.{of_scram}
use Rattle.std.specs.Prelude.{codes, option_map}
use Rattle.pgw_login_pair.proofs.Misbound.{different_hashes}
use Rattle.pgw_login_pair.proofs.ServerRungs.{IsCalm, IsAble, startup_of}
use Rattle.pgw_login_pair.proofs.Ladder.{Rung, ClientAt, ServerAt, ClientCause, Trusts, IsShort, waiting, lost, won, finished, climb, Opens, GreetsAll}

none_mapped : {A B : Type 0} (f : A → B) (o : Option A) → option_map f o ≡ None → o ≡ None
none_mapped f None is = refl
none_mapped f (Some x) is = absurd cc

-- ---- what is told hangs on what was got

standing_gots : (s : Told) (es : List Said) → fold standing_at s es ≡ fold standing_at s (map Got (gots es))
standing_gots s [] = refl
standing_gots s (Sent m ∷ es) = standing_gots s es
standing_gots s (Got m ∷ es) = standing_gots (standing_at s (Got m)) es

told_of : (config : Config) (es : List Said) → standing_of config es ≡ standing_of config (map Got (gots es))
unfolding standing_of
told_of config es = standing_gots (first_standing config) es

-- ---- what is answered there

waits_on : (room : ℕ) → 0 < room → waiting_answer room 0 ≡ Ok phase.Waiting
waits_on zero none = absurd (omega (arith, none))
waits_on (suc room) some = refl

module _ (input : PairInput) (l : List ℕ) (small : length l < most) (course : Course Talk Ending)
    (is : conversation (client_input input) (taken_of most l) ≡ course) where
  answers : answer_to (client_input input) most l ≡ answer_at (most - length l) course
  answers = ap (answer_at (most - length l)) is

  waits_here : (t : Talk) (out pending : List ℕ) → course ≡ Waits t out pending → t.closed ≡ []
      → answer_to (client_input input) most l ≡ Ok phase.Waiting
  waits_here t out pending at none =
      answers ∙ ap (answer_at (most - length l)) at ∙ ap (λ c. waiting_answer (most - length l) (length c)) none
      ∙ waits_on (most - length l) (omega (arith, small))

  refused_here : (ending : Ending) (out : List ℕ) (e : ClientError) → course ≡ Over ending out
      → error_of ending.outcome ≡ Some e → answer_to (client_input input) most l ≡ Err e
  refused_here ending out e at why = answers ∙ ap (answer_at (most - length l)) at ∙ ap ending_answer why

  done_here : (ending : Ending) (out : List ℕ) → course ≡ Over ending out → ending.outcome ≡ Complete
      → answer_to (client_input input) most l ≡ Ok phase.Done
  done_here ending out at whole =
      answers ∙ ap (answer_at (most - length l)) at ∙ ap (λ o. ending_answer (error_of o)) whole

-- ---- the clauses

not_ready : {i : ServerInformation} → of_client.Waiting ≡ of_client.Ready i → ⊥
not_ready h = cc

not_refused : {i : ServerInformation} {e : ClientError} → of_client.Refused e ≡ of_client.Ready i → ⊥
not_refused h = cc

waiting_no_refusal : {e : ClientError} → of_client.Waiting ≡ of_client.Refused e → ⊥
waiting_no_refusal h = cc

refusal_is : {e d : ClientError} → of_client.Refused e ≡ of_client.Refused d → e ≡ d
refusal_is h = cc

ready_is : {i j : ServerInformation} → of_client.Ready i ≡ of_client.Ready j → i ≡ j
ready_is h = cc

waiting_not_finished : of_server.Waiting ≡ of_server.Finished → ⊥
waiting_not_finished h = cc

refused_not_finished : {e : PgWireError} → of_server.Refused e ≡ of_server.Finished → ⊥
refused_not_finished h = cc

waiting_not_refused : {e : PgWireError} → of_server.Waiting ≡ of_server.Refused e → ⊥
waiting_not_refused h = cc

finished_not_refused : {e : PgWireError} → of_server.Finished ≡ of_server.Refused e → ⊥
finished_not_refused h = cc

refused_is : {e d : PgWireError} → of_server.Refused e ≡ of_server.Refused d → e ≡ d
refused_is h = cc

-- one list of messages has one offer and one server-final
said_same : {a b : Backend} {f g h k : List ℕ} {l m n : List Backend}
    → ◌≡◌ {A = List Backend} (a ∷ continue_with f ∷ l) (b ∷ continue_with g ∷ final_with h ∷ m)
    → ◌≡◌ {A = List Backend} l (final_with k ∷ n) → (f ≡ g) × (k ≡ h)
said_same x y = (cc, cc)

module _ (input : PairInput) (o : PairOutcome) (p : Pairs input o) (small : length o.to_client < most) where
  abbrev course : Course Talk Ending
  course = talk input (take o.taken_by_client o.to_client)

  abbrev heard : List Frontend
  heard = heard_in p.generator input (take o.taken_by_server o.to_server) p.world.server p.serves

  abbrev said : List Backend
  said = said_in p.generator input (take o.taken_by_server o.to_server) p.world.server p.serves

  -- where they are
  abbrev Place : Type 0
  Place =
      Rung p.generator input o.to_server o.to_client o.taken_by_server o.taken_by_client course o.server heard
      said

  taken_length : length (take o.taken_by_client o.to_client) < most
  taken_length = let s = short o.taken_by_client o.to_client in omega (arith, s, small)

  calm_by : (c : Course Stage ServerEnding) → (server_end c ≡ of_server.Refused OutOfMemory → ⊥) → IsCalm c
  calm_by (Waits s out pending) h = tt
  calm_by (Over e out) h = λ is. h (ap server_over is)

  place : (able : Opens p.generator input → IsAble p.generator input)
      (all : Opens p.generator input → GreetsAll p.generator input)
      → IsSoundFrontend (frontend.Startup (startup_of input)) → Place
  place able all sound =
      let conv : course ≡ conversation (client_input input) (take o.taken_by_client o.to_client) =
      ap (conversation (client_input input))
      (take_all most (take o.taken_by_client o.to_client) (omega (arith, taken_length))) in
      let calm : IsCalm p.world.server = calm_by p.world.server (λ h. p.no_memory_server (p.server ∙ h)) in
      let r =
      climb p.generator input able all o.taken_by_server o.taken_by_client course p.world.server
      (take o.taken_by_server o.to_server) sound (conv
      ∙ ap (λ (l : List ℕ). conversation (client_input input) (take o.taken_by_client l)) p.served)
      (ap (take o.taken_by_server) p.wrote) calm p.serves in
      subst (λ (l : List ℕ). Rung p.generator input l o.to_client o.taken_by_server o.taken_by_client course
      o.server heard said) (sym p.wrote)
      (subst (λ (l : List ℕ). Rung p.generator input (sent_of course) l o.taken_by_server o.taken_by_client course
      o.server heard said) (sym p.served)
      (subst (λ (s : ServerEnd). Rung p.generator input (sent_of course) (sent_of p.world.server)
      o.taken_by_server o.taken_by_client course s heard said) (sym p.server) r))

  -- the client's end by its answer
  end_by : (answer : Result DialoguePhase ClientError)
      → answer_to (client_input input) most (take o.taken_by_client o.to_client) ≡ answer
      → o.client ≡ client_by (standing_of (client_config input) (events_in course)) answer
  end_by answer is = p.client ∙ ap (client_by (standing_of (client_config input) (events_in course))) is

  module _ (r : Place) where
    abbrev Here : Type 0
    Here = ClientAt p.generator input o.to_server o.to_client o.taken_by_server o.taken_by_client course o.server
        r.events said

    waits_so : (t : Talk) (out pending : List ℕ) → course ≡ Waits t out pending → t.closed ≡ []
        → o.client ≡ of_client.Waiting
    waits_so t out pending at none =
        end_by (Ok phase.Waiting)
        (waits_here input (take o.taken_by_client o.to_client) taken_length course refl t out pending at none)

    refused_so : (ending : Ending) (out : List ℕ) (e : ClientError) → course ≡ Over ending out
        → error_of ending.outcome ≡ Some e → o.client ≡ of_client.Refused e
    refused_so ending out e at why =
        end_by (Err e) (refused_here input (take o.taken_by_client o.to_client) taken_length course refl ending out
        e at why)

    done_so : (ending : Ending) (out : List ℕ) → course ≡ Over ending out → ending.outcome ≡ Complete
        → o.client ≡ of_client.Ready (information_of (standing_of (client_config input) (events_in course)))
    done_so ending out at whole =
        end_by (Ok phase.Done)
        (done_here input (take o.taken_by_client o.to_client) taken_length course refl ending out at whole)

    -- the verifier that was said is the one that the client awaits
    trusted_by : (x : PartyTexts input heard said) → SaysVerifier x → Trusts p.generator input said
        → signature (client_login input) x.offer ≡ verifier_due x
    trusted_by x (more, says) (head, first, final, rest, is, verified) =
        let same = said_same (sym x.said_are ∙ is) says in
        verifier_same (server_signature (input.stored).password
        (auth_message (x.opening).bare x.offer (x.closing).without_proof)) (signature (client_login input) x.offer)
        (ap (λ (f : List ℕ). scram_refusal (signature (client_login input) f) (codes "v=" ++ verifier_due x))
        same.0
        ∙ ap (scram_refusal (signature (client_login input) first)) same.1
        ∙ none_mapped of_scram (scram_refusal (signature (client_login input) first) final) verified)

    finished_by : ServerAt p.generator input o.server heard said → o.server ≡ of_server.Finished
        → (x : PartyTexts input heard said) × ((x.closing).proof ≡ proof_due x) × SaysVerifier x
    finished_by (waiting at) is = absurd (waiting_not_finished (sym at ∙ is))
    finished_by (lost why at cause other) is = absurd (refused_not_finished (sym at ∙ is))
    finished_by (finished at x proof says own) is = (x, proof, says)

    ready_by : ServerAt p.generator input o.server heard said → Here → (information : ServerInformation)
        → o.client ≡ of_client.Ready information
        → (o.server ≡ of_server.Finished)
        × (information ≡ information_of (standing_of (client_config input) (map Got said)))
        × (x : PartyTexts input heard said) × ((x.closing).proof ≡ proof_due x) × SaysVerifier x
        × (signature (client_login input) x.offer ≡ verifier_due x)
    ready_by server (waiting t out pending at none short) information is =
        absurd (not_ready (sym (waits_so t out pending at none) ∙ is))
    ready_by server (lost t outcome e out at why cause) information is =
        absurd (not_refused (sym (refused_so (record { notes = t; outcome = outcome }) out e at why) ∙ is))
    ready_by server (won t out at gots_are ended trusts) information is =
        let same = ready_is (sym is ∙ done_so (record { notes = t; outcome = Complete }) out at refl) in
        let f = finished_by server ended in (
          ended,
          same ∙ ap information_of (told_of (client_config input) (events_in course)
              ∙ ap (λ (ms : List Backend). standing_of (client_config input) (map Got ms)) (ap gots r.events_are
              ∙ gots_are)),
          f.0,
          f.1,
          f.2,
          trusted_by f.0 f.2 trusts,
        )

    -- the client wrote the text of its hash, and the server took that of its own
    bound_by : IsSoundInput input → ServerAt p.generator input o.server heard said → (hash own : List ℕ)
        → input.client_hash ≡ Some hash → input.server_hash ≡ Some own → o.server ≡ of_server.Finished
        → (hash ≡ own) × ((x : PartyTexts input heard said) × IsBoundTo own x)
    bound_by sound (waiting at) hash own client server is = absurd (waiting_not_finished (sym at ∙ is))
    bound_by sound (lost why at cause other) hash own client server is =
        absurd (refused_not_finished (sym at ∙ is))
    bound_by sound (finished at x proof says bound) hash own client server is =
        let texts =
        sym (written input hash own client server) ∙ sym x.binding_is ∙ bound hash own client server in (
          same_text hash own (sound.client_bytes hash client) (sound.server_bytes own server) texts,
          (x, bound hash own client server),
        )

    misbound_by : ServerAt p.generator input o.server heard said
        → o.server ≡ of_server.Refused (InvalidScramMessage fault.ChannelBinding) → HaveDifferentHashes input
    misbound_by (waiting at) is = absurd (waiting_not_refused (sym at ∙ is))
    misbound_by (lost why at cause other) is =
        different_hashes p.generator input why cause (refused_is (sym at ∙ is))
    misbound_by (finished at x proof says own) is = absurd (finished_not_refused (sym at ∙ is))

    password_by : ServerAt p.generator input o.server heard said → (user : List ℕ)
        → o.server ≡ of_server.Refused (InvalidPassword user)
        → (x : PartyTexts input heard said) × ((x.closing).proof ≢ proof_due x)
    password_by (waiting at) user is = absurd (waiting_not_refused (sym at ∙ is))
    password_by (lost why at cause other) user is = other user (refused_is (sym at ∙ is))
    password_by (finished at x proof says own) user is = absurd (finished_not_refused (sym at ∙ is))

    memory_by : Here → o.client ≡ of_client.Refused starved → ⊥
    memory_by (waiting t out pending at none short) is =
        waiting_no_refusal (sym (waits_so t out pending at none) ∙ is)
    memory_by (lost t outcome e out at why cause) is =
        has_memory p.generator input e cause
        (refusal_is (sym (refused_so (record { notes = t; outcome = outcome }) out e at why) ∙ is))
    memory_by (won t out at gots_are ended trusts) is =
        not_refused (sym is ∙ done_so (record { notes = t; outcome = Complete }) out at refl)

    cause_by : ServerAt p.generator input o.server heard said → (why : PgWireError)
        → o.server ≡ of_server.Refused why → ServerCause input why
    cause_by (waiting at) why is = absurd (waiting_not_refused (sym at ∙ is))
    cause_by (lost own at cause other) why is = subst (ServerCause input) (refused_is (sym at ∙ is)) cause
    cause_by (finished at x proof says own) why is = absurd (finished_not_refused (sym at ∙ is))

    module _ (no_client : (e : ClientError) → ClientCause p.generator input e → ⊥) where
      never_client : Here → is_refused_client o.client → ⊥
      never_client (waiting t out pending at none short) h =
          subst is_refused_client (waits_so t out pending at none) h
      never_client (lost t outcome e out at why cause) h = no_client e cause
      never_client (won t out at gots_are ended trusts) h =
          subst is_refused_client (done_so (record { notes = t; outcome = Complete }) out at refl) h

      module _ (no_server : (why : PgWireError) → ServerCause input why → ⊥) where
        never_server : ServerAt p.generator input o.server heard said → is_refused_server o.server → ⊥
        never_server (waiting at) h = subst is_refused_server at h
        never_server (lost why at cause other) h = no_server why cause
        never_server (finished at x proof says own) h = subst is_refused_server at h

        not_short : HasTakenAll o
            → IsShort p.generator input o.to_server o.to_client o.taken_by_server o.taken_by_client o.server → ⊥
        not_short all (inl h) = omega (arith, all.0, h)
        not_short all (inr (inl h)) = omega (arith, all.1, h)
        not_short all (inr (inr (why, at, cause))) = no_server why cause

        all_by : HasTakenAll o → Here
            → ((information : ServerInformation) × (o.client ≡ of_client.Ready information))
            × (o.server ≡ of_server.Finished)
        all_by all (waiting t out pending at none short) = absurd (not_short all short)
        all_by all (lost t outcome e out at why cause) = absurd (no_client e cause)
        all_by all (won t out at gots_are ended trusts) = (
          (
            information_of (standing_of (client_config input) (events_in course)),
            done_so
                (record { notes = t; outcome = Complete }) out at refl,
          ),
          ended,
        )

      module _ (misbound : (why : PgWireError) → ServerCause input why → why ≡ InvalidScramMessage
          fault.ChannelBinding) (never_ends : o.server ≡ of_server.Finished → ⊥) where
        refused_by : HasTakenAll o → Here
            → o.server ≡ of_server.Refused (InvalidScramMessage fault.ChannelBinding)
        refused_by all (waiting t out pending at none (inl h)) = absurd (omega (arith, all.0, h))
        refused_by all (waiting t out pending at none (inr (inl h))) = absurd (omega (arith, all.1, h))
        refused_by all (waiting t out pending at none (inr (inr (why, is, cause)))) =
            is ∙ ap of_server.Refused (misbound why cause)
        refused_by all (lost t outcome e out at why cause) = absurd (no_client e cause)
        refused_by all (won t out at gots_are ended trusts) = absurd (never_ends ended)

  pub agree : (able : Opens p.generator input → IsAble p.generator input)
      (all : Opens p.generator input → GreetsAll p.generator input)
      → IsSoundFrontend (frontend.Startup (startup_of input)) → IsSoundInput input
      → (ShareAPassword input → ((e : ClientError) → ClientCause p.generator input e → ⊥) ×
      ((why : PgWireError) → ServerCause input why → (why ≡ InvalidScramMessage fault.ChannelBinding) ×
      HaveDifferentHashes input))
      → TwoParty input o
  agree able all sound fits share =
      let r = place able all sound in
      let no_server : AreHonestParties input → (why : PgWireError) → ServerCause input why → ⊥ =
      λ h why cause. h.1 ((share h.0).1 why cause).1 in (
        p,
        record {
          sent = ap (λ (es : List Said). client_encodings (sents es)) r.events_are ∙ r.sent;
          spoke = r.spoke;
          got_by_server = (
            (r.got_by_server).0,
            ap (λ (es : List Said). map as_read (sents es)) r.events_are
                ∙ (r.got_by_server).1,
          );
          got_by_client = (
            (r.got_by_client).0,
            (r.got_by_client).1
                ∙ ap (λ (es : List Said). gots es ++ (r.got_by_client).0) (sym r.events_are),
          );
          ready = ready_by r r.server_is r.client;
          finished = finished_by r r.server_is;
          bound = bound_by r fits r.server_is;
          misbound = misbound_by r r.server_is;
          no_memory = memory_by r r.client;
          cause = cause_by r r.server_is;
          password = password_by r r.server_is;
          honest =
              λ h. (
                never_client r (share h.0).0 r.client,
                never_server r (share h.0).0 (no_server h)
                    r.server_is,
              );
          all_taken = λ h all. all_by r (share h.0).0 (no_server h) all r.client;
          different_hashes = λ h two. (
            never_client r (share h).0 r.client,
            λ all. refused_by r (share h).0 (λ why cause. ((share h).1 why cause).0)
                (λ is. two.4 (bound_by r fits r.server_is two.0 two.1 two.2 two.3 is).0) all r.client,
          );
        },
      )
