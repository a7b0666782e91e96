-- The client's side: where its calls leave it.
use Rattle.std.proofs.Common.{◌≡◌, ◌≢◌, ◌⊎◌, inl, inr, ℕ, zero, suc, ◌+◌, ◌-◌, ◌<◌, ◌≤◌, List, [], ◌∷◌, ◌++◌, length, take, Some, Result, Ok, Err, refl, sym, ap, subst, ◌∙◌, arith}
use Rattle.std.proofs.lemmas.List.{append-nil, take_all}
use Rattle.pgw_types.specs.declared.error.PgWireError.{PgWireError}
use Rattle.pgw_backend.specs.declared.client_error.PgWireClientError.{PgWireClientError as ClientError}
use Rattle.pgw_backend.specs.declared.client_error.PgWireClientError.TheVariants as client
use Rattle.pgw_frontend.specs.Frontend.{encodings}
use Rattle.pgw_machine.specs.Course.{Waits, Over, run, sent_of}
use Rattle.pgw_session.specs.Events.{Event as Said, all_events}
use Rattle.pgw_session.specs.Input.{Input, input_with}
use Rattle.pgw_session.specs.Machine.{Complete, Unencoded}
use Rattle.pgw_session.specs.Segments.{startup_message}
use Rattle.pgw_session.specs.Standings.{standing_of}
use Rattle.pgw_session.specs.Talk.{Talk, between, conversation, heard_of}
use Rattle.pgw_session.specs.Transcript.{report_of}
use Rattle.pgw_session.specs.declared.standing.Standing.{Standing as Told}
use Rattle.pgw_session.specs.declared.types.SessionReport.{SessionReport}
use Rattle.pgw_session.proofs.Events.{clean_heard}
use Rattle.pgw_session.proofs.Sound.{SoundAt, conversation_sound}
use Rattle.pgw_dialogue.specs.Machine.{report_at}
use Rattle.pgw_config.specs.declared.config.Config.{Config}
use Rattle.pgw_session.specs.declared.types.Request.{Request}
use Rattle.pgw_dialogue.specs.Answers.{answer_to, answer_at, taken_of, waiting_answer, Tells}
use Rattle.pgw_dialogue.specs.Dialogue.{IsBehind, IsBroken, IsDone, IsStarved, Stands, StandsIn, StartCause, Starts, Takes}
use Rattle.pgw_dialogue.specs.declared.dialogue.Dialogue.{Dialogue}
use Rattle.pgw_dialogue.specs.declared.phase.DialoguePhase.{DialoguePhase}
use Rattle.pgw_dialogue.specs.declared.phase.DialoguePhase.TheVariants as phase
use Rattle.pgw_dialogue.specs.declared.phase.State.{State}
use Rattle.pgw_dialogue.specs.declared.phase.State.TheVariants as state
use Rattle.pgw_dialogue.proofs.AnswerLaws.{ended_as, waiting_tells}
use Rattle.pgw_handlers.specs.declared.client_info.ServerInformation.{ServerInformation}
use Rattle.pgw_login_pair.specs.declared.client_side.ClientSide.{ClientSide}
use Rattle.pgw_login_pair.specs.declared.parties.PairInput.{PairInput}
use Rattle.pgw_login_pair.specs.declared.parties.ClientEnd.TheVariants as of_client
use Rattle.pgw_login_pair.specs.Parties.{client_by, client_end, events_in, information_of}
use Rattle.pgw_login_pair.specs.Sides.{ClientAt, ClientTook, IsGoing, PartyStands}
use Rattle.pgw_login_pair.specs.World.{client_config, client_input, handed, most, party_bytes, talk}
use Rattle.pgw_login_pair.proofs.ClientRungs.{never_starts, over_by, started}
use Rattle.pgw_login_pair.proofs.Events.{client_takes}
use Rattle.pgw_login_pair.proofs.Meets.{piece_taken}

-- ---- it goes on

at_broken : (s : State) → (s ≡ state.Going) ⊎ (s ≡ state.Done) → (s ≡ state.Refused) ⊎ (s ≡ state.Starved) → ⊥
at_broken s (inl going) (inl broken) = let both = sym going ∙ broken in absurd cc
at_broken s (inl going) (inr broken) = let both = sym going ∙ broken in absurd cc
at_broken s (inr done) (inl broken) = let both = sym done ∙ broken in absurd cc
at_broken s (inr done) (inr broken) = let both = sym done ∙ broken in absurd cc

not_broken : (d : Dialogue) (p : DialoguePhase) → IsBehind d (Ok p) → IsBroken d → ⊥
not_broken d phase.Waiting h broken = at_broken d.state (inl h.0) broken
not_broken d phase.Ready h broken = at_broken d.state (inl h.0) broken
not_broken d phase.Done h broken = at_broken d.state (inr h) broken

module _ (input : PairInput) where
  abbrev given : Input
  given = client_input input

  answer_is : (taken : List ℕ) → Result DialoguePhase ClientError → Type 0
  answer_is taken answer = answer_to given most taken ≡ answer

  -- ---- a piece

  pub refused_took : (side : ClientSide) (bytes : List ℕ) (count : ℕ) (e : ClientError) → side.dialogue ≡ Err e
      → ClientAt input side (take side.taken bytes) → ClientTook input side side bytes count
  refused_took side bytes count e is at =
      let kept : PartyStands input (Err e) side.phase (take side.taken bytes) (side.out).items =
      subst (λ x. PartyStands input x side.phase (take side.taken bytes) (side.out).items) is at.keeps in
      let none : length (handed (answer_to given most (take side.taken bytes)) (party_bytes count side.taken bytes))
      ≡ 0 =
      ap (λ (r : Result DialoguePhase ClientError). length (handed r (party_bytes count side.taken bytes)))
      kept.0 in
      record { taken = omega (arith, none); is_at = at }

  -- where its dialogue's call answered this
  module _ (old new : ClientSide) (bytes : List ℕ) (count : ℕ) (d after : Dialogue)
      (answer : Result DialoguePhase ClientError) (piece : List ℕ)
      (is_next : piece ≡ party_bytes count old.taken bytes) (long : old.taken ≤ length bytes)
      (here : old.dialogue ≡ Ok d) (going : IsBehind d (Ok old.phase))
      (takes : Takes d after piece (old.out).items (new.out).items answer)
      (starved : IsStarved after → IsStarved d ⊎ (answer ≡ Err client.OutOfMemory))
      (ample : answer ≢ Err client.OutOfMemory)
      (taken : new.taken ≡ old.taken + length piece) (at : ClientAt input old (take old.taken bytes)) where
    abbrev before : List ℕ
    before = take old.taken bytes

    kept : PartyStands input (Ok d) old.phase before (old.out).items
    kept = subst (λ x. PartyStands input x old.phase before (old.out).items) here at.keeps

    all : take new.taken bytes ≡ before ++ piece
    all = ap (λ n. take n bytes) taken ∙ piece_taken old.taken bytes piece long (count, is_next)

    took_taken : new.taken ≡ old.taken + length
        (handed (answer_to given most before) (party_bytes count old.taken bytes))
    took_taken =
        taken ∙ ap (λ (l : List ℕ). old.taken + length l) is_next
        ∙ ap (λ (r : Result DialoguePhase ClientError). old.taken + length
        (handed r (party_bytes count old.taken bytes))) (sym kept.1)

    took_at : ((put : List ℕ) → Stands given most after (before ++ piece) put → answer ≡ answer_to given most
        (before ++ piece) → PartyStands input new.dialogue new.phase (before ++ piece) put)
        → ClientAt input new (before ++ piece)
    took_at keeps =
        let t =
        client_takes given most d after before (old.out).items piece (old.out).items (new.out).items answer
        kept.0 (not_broken d old.phase going) takes starved ample in
        record {
          sent = takes.puts ∙ t.sent;
          tells =
              subst (λ (l : List ℕ). Tells given most (before ++ piece) l
              (answer_to given most (before ++ piece))) (sym takes.puts)
              (subst (Tells given most (before ++ piece) ((old.out).items ++ takes.out)) t.answer
              t.tells);
          keeps =
              subst (PartyStands input new.dialogue new.phase (before ++ piece)) (sym takes.puts)
              (keeps ((old.out).items ++ takes.out) t.stands t.answer);
        }

    took_by : ((put : List ℕ) → Stands given most after (before ++ piece) put → answer ≡ answer_to given most
        (before ++ piece) → PartyStands input new.dialogue new.phase (before ++ piece) put)
        → ClientTook input old new bytes count
    took_by keeps = record { taken = took_taken; is_at = subst (ClientAt input new) (sym all) (took_at keeps) }

    pub took_ok : (p : DialoguePhase) → answer ≡ Ok p → new.dialogue ≡ Ok after → new.phase ≡ p
        → ClientTook input old new bytes count
    took_ok p is there now =
        took_by (λ put stands same. subst (λ x. PartyStands input x new.phase (before ++ piece) put) (sym there) (
          stands,
          sym same
              ∙ is ∙ ap Ok (sym now),
        ))

    pub took_err : (e : ClientError) → answer ≡ Err e → new.dialogue ≡ Err e
        → ClientTook input old new bytes count
    took_err e is there =
        took_by (λ put stands same. subst (λ x. PartyStands input x new.phase (before ++ piece) put) (sym there) (
          sym same
              ∙ is,
          λ lacks. ample (is ∙ ap Err lacks),
        ))

  -- ---- the beginning

  first_talk : (g : List ℕ) → encodings (startup_message given ∷ []) ≡ Ok g
      → conversation given [] ≡ Waits (started input) g []
  unfolding conversation run
  first_talk g is = rw is refl

  waits_on : (room : ℕ) → 0 < room → waiting_answer room 0 ≡ Ok phase.Waiting
  waits_on zero none = absurd (omega (arith, none))
  waits_on (suc room) some = refl

  no_bytes : taken_of most [] ≡ []
  no_bytes = take_all most [] (omega arith)

  pub begun_ok : (side : ClientSide) (d : Dialogue) → side.dialogue ≡ Ok d → side.phase ≡ phase.Waiting
      → Starts given most [] (side.out).items (Ok d) → ClientAt input side []
  begun_ok side d is now (put, encoded, puts, stands, going, room) =
      let talks : conversation given (taken_of most []) ≡ Waits (started input) put [] =
      ap (conversation given) no_bytes ∙ first_talk put encoded in
      let answers : answer_to given most [] ≡ Ok phase.Waiting =
      ap (answer_at (most - 0)) talks ∙ waits_on (most - 0) (omega arith) in
      record {
        sent = puts ∙ sym (ap sent_of talks);
        tells =
            subst (λ (l : List ℕ). Tells given most [] l (answer_to given most [])) (sym puts)
            (subst (Tells given most [] put) (waits_on (most - 0) (omega arith)
            ∙ sym answers)
            (waiting_tells given most [] put [] (started input) (most - 0) 0 talks refl
            (λ full. absurd (omega (arith, full)))));
        keeps =
            subst (λ (l : List ℕ). PartyStands input side.dialogue side.phase [] l) (sym puts)
            (subst (λ x. PartyStands input x side.phase [] put) (sym is) (
              stands,
              answers
                  ∙ ap Ok (sym now),
            ));
      }

  unsent : (side : ClientSide) (e : ClientError) (why : PgWireError) → side.dialogue ≡ Err e
      → e ≢ client.OutOfMemory → (side.out).items ≡ [] → e ≡ client.PgWireError why
      → encodings (startup_message given ∷ []) ≡ Err why → ClientAt input side []
  unsent side e why is ample puts same bad =
      let talks : conversation given (taken_of most []) ≡ Over (over_by (between []) (Unencoded why)) [] =
      never_starts input why (taken_of most []) bad in
      let answers : answer_to given most [] ≡ Err e = ap (answer_at (most - 0)) talks ∙ ap Err (sym same) in
      record {
        sent = puts ∙ sym (ap sent_of talks);
        tells =
            subst (λ (l : List ℕ). Tells given most [] l (answer_to given most [])) (sym puts)
            (subst (Tells given most [] []) (sym answers)
            (ended_as given most [] [] (over_by (between []) (Unencoded why)) (Unencoded why) e talks refl
            (ap Some (sym same))));
        keeps = subst (λ x. PartyStands input x side.phase [] (side.out).items) (sym is) (answers, ample);
      }

  pub begun_err : (side : ClientSide) (e : ClientError) → side.dialogue ≡ Err e → e ≢ client.OutOfMemory
      → Starts given most [] (side.out).items (Err e) → ClientAt input side []
  begun_err side e is ample (puts, cause) = go e refl cause
    where
      go : (x : ClientError) → e ≡ x → StartCause given x → ClientAt input side []
      go client.OutOfMemory same c = absurd (ample same)
      go (client.InvalidConfig key) same c = absurd cc
      go (client.PgWireError why) same c = unsent side e why is ample puts same c.1
      go x same c = absurd c

  input_is : (config : Config) (requests : List Request) (nonce : List ℕ) → config ≡ client_config input
      → requests ≡ [] → nonce ≡ input.client_nonce → input_with config requests nonce ≡ given
  input_is config requests nonce a b c =
      ap (λ x. input_with x requests nonce) a ∙ ap (λ x. input_with (client_config input) x nonce) b
      ∙ ap (λ (x : List ℕ). input_with (client_config input) [] x) c

  pub begun : (side : ClientSide) (config : Config) (requests : List Request) (nonce old : List ℕ)
      → config ≡ client_config input → requests ≡ [] → nonce ≡ input.client_nonce → old ≡ []
      → side.phase ≡ phase.Waiting
      → Starts (input_with config requests nonce) most old (side.out).items side.dialogue
      → side.dialogue ≢ Err client.OutOfMemory → ClientAt input side []
  begun side config requests nonce old a b c none now starts ample =
      let s : Starts given most [] (side.out).items side.dialogue =
      subst (λ (l : List ℕ). Starts given most l (side.out).items side.dialogue) none
      (subst (λ x. Starts x most old (side.out).items side.dialogue)
      (input_is config requests nonce a b c) starts) in
      go side.dialogue refl s
    where
      go : (r : Result Dialogue ClientError) → side.dialogue ≡ r → Starts given most [] (side.out).items r
          → ClientAt input side []
      go (Ok d) is s = begun_ok side d is now s
      go (Err e) is s = begun_err side e is (λ lacks. ample (is ∙ ap Err lacks)) s

  -- ---- the end

  abbrev told : List ℕ → Told
  told taken = standing_of (client_config input) (events_in (talk input taken))

  abbrev told_in : SessionReport → ServerInformation
  told_in r = record { parameters = r.parameters; process_id = r.process_id; secret_key = r.secret_key }

  -- a whole conversation has neither a segment open nor a message passed over
  whole_heard : (taken put : List ℕ) (t : Talk) → conversation given taken ≡ Over (over_by t Complete) put
      → heard_of t ≡ all_events t.closed
  whole_heard taken put t is =
      let final = subst (SoundAt given taken) is (conversation_sound given taken) in
      let cause = final.cause in
      sym (clean_heard t cause.2) ∙ ap (λ (o : List Said). all_events t.closed ++ o) cause.1
      ∙ append-nil (all_events t.closed)

  told_report : (closed : List (List Said))
      → told_in (report_of given closed) ≡ information_of (standing_of (client_config input) (all_events closed))
  unfolding report_of
  told_report closed = refl

  pub ended_done : (taken put : List ℕ) (d : Dialogue) (report : SessionReport) → IsDone d
      → PartyStands input (Ok d) phase.Done taken put → report ≡ report_at d.notes
      → of_client.Ready (told_in report) ≡ client_end input taken
  ended_done taken put d report done kept is =
      let s : StandsIn state.Done d given most taken put =
      subst (λ x. StandsIn x d given most taken put) done (kept.0).stands in
      let heard : events_in (talk input taken) ≡ all_events (s.0).closed =
      ap events_in s.1 ∙ whole_heard (taken_of most taken) put s.0 s.1 in
      ap of_client.Ready (ap told_in (is ∙ s.2) ∙ told_report (s.0).closed
      ∙ ap (λ (es : List Said). information_of (standing_of (client_config input) es)) (sym heard))
      ∙ sym (ap (client_by (told taken)) kept.1)

  pub ended_waiting : (taken put : List ℕ) (d : Dialogue) → PartyStands input (Ok d) phase.Waiting taken put
      → of_client.Waiting ≡ client_end input taken
  ended_waiting taken put d kept = sym (ap (client_by (told taken)) kept.1)

  pub ended_between : (taken put : List ℕ) (d : Dialogue) → PartyStands input (Ok d) phase.Ready taken put
      → of_client.Waiting ≡ client_end input taken
  ended_between taken put d kept = sym (ap (client_by (told taken)) kept.1)

  pub ended_refused : (side : ClientSide) (taken : List ℕ) (e : ClientError) → side.dialogue ≡ Err e
      → ClientAt input side taken → of_client.Refused e ≡ client_end input taken
  ended_refused side taken e is at =
      let kept : PartyStands input (Err e) side.phase taken (side.out).items =
      subst (λ x. PartyStands input x side.phase taken (side.out).items) is at.keeps in
      sym (ap (client_by (told taken)) kept.0)

  pub going_keeps : (side : ClientSide) (taken : List ℕ) (d : Dialogue) → side.dialogue ≡ Ok d
      → ClientAt input side taken → PartyStands input (Ok d) side.phase taken (side.out).items
  going_keeps side taken d is at = subst (λ x. PartyStands input x side.phase taken (side.out).items) is at.keeps

  -- it never ends for want of memory
  refused_is : {a b : ClientError} → of_client.Refused a ≡ of_client.Refused b → a ≡ b
  refused_is h = cc

  by_answer : (t : Told) (r : Result DialoguePhase ClientError)
      → client_by t r ≡ of_client.Refused client.OutOfMemory → r ≡ Err client.OutOfMemory
  by_answer t (Ok phase.Waiting) h = cc
  by_answer t (Ok phase.Ready) h = cc
  by_answer t (Ok phase.Done) h = cc
  by_answer t (Err e) h = ap Err (refused_is h)

  keeps_memory : (kept : Result Dialogue ClientError) (p : DialoguePhase) (taken put : List ℕ)
      → PartyStands input kept p taken put → answer_to given most taken ≡ Err client.OutOfMemory → ⊥
  keeps_memory (Ok d) p taken put kept lacks = let both = sym kept.1 ∙ lacks in absurd cc
  keeps_memory (Err e) p taken put kept lacks =
      let both : ◌≡◌ {A = Result DialoguePhase ClientError} (Err e) (Err client.OutOfMemory) =
      sym kept.0 ∙ lacks in kept.1 cc

  pub never_starved : (side : ClientSide) (taken : List ℕ) → ClientAt input side taken
      → client_end input taken ≡ of_client.Refused client.OutOfMemory → ⊥
  never_starved side taken at h =
      keeps_memory side.dialogue side.phase taken (side.out).items at.keeps
      (by_answer (told taken) (answer_to given most taken) h)

-- one that has begun goes on
pub begun_going : (input : Input) (old out : List ℕ) (r : Result Dialogue ClientError)
    → Starts input most old out r → IsGoing r phase.Waiting
begun_going input old out (Ok d) (put, encoded, puts, stands, going, room) = (going, omega (arith, room))
begun_going input old out (Err e) h = tt
