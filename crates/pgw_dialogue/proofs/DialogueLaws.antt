-- What a dialogue stands for behind a call.
use Rattle.std.proofs.Common.{◌≡◌, ◌≤◌, ℕ, zero, suc, ◌+◌, ◌-◌, List, [], ◌∷◌, ◌++◌, length, take, Bool, true, false, Some, Result, Ok, Err, inl, inr, arith, refl, ◌∙◌, ap, sym, subst, length-append}
use Rattle.std.proofs.lemmas.List.{append-nil, take_all, take-append-le, length-take}
use Rattle.std.proofs.Math.Seq.{take-append-add}
use Rattle.pgw_backend.specs.declared.client_error.PgWireClientError.{PgWireClientError as ClientError}
use Rattle.pgw_backend.specs.declared.client_error.PgWireClientError.TheVariants as client
use Rattle.pgw_machine.specs.Course.{Waits, Over}
use Rattle.pgw_session.specs.declared.notes.Notes.{Notes}
use Rattle.pgw_session.specs.Input.{Input}
use Rattle.pgw_session.specs.Machine.{End, error_of}
use Rattle.pgw_session.specs.Notes.{view}
use Rattle.pgw_session.specs.Talk.{Talk, Ending, conversation}
use Rattle.pgw_dialogue.specs.Machine.{NotesCourse, report_at, runs}
use Rattle.pgw_machine.specs.Course.{Begins}
use Rattle.pgw_dialogue.proofs.WireLaws.{memory_or}
use Rattle.pgw_dialogue.specs.declared.dialogue.Dialogue.{Dialogue}
use Rattle.pgw_dialogue.specs.declared.phase.DialoguePhase.{DialoguePhase}
use Rattle.pgw_dialogue.specs.declared.phase.DialoguePhase.TheVariants as phase
use Rattle.pgw_dialogue.specs.declared.phase.State.{State}
use Rattle.pgw_dialogue.specs.declared.phase.State.TheVariants as state
use Rattle.pgw_dialogue.specs.Answers.{TakeCause, answer_at, answer_behind, ending_answer, state_behind, taken_of, waiting_answer}
use Rattle.pgw_dialogue.specs.Dialogue.{AnswersDialogue, input_at, IsBehind, IsBroken, DialogueSettles, Stands, StandsIn, Takes}
use Rattle.pgw_dialogue.specs.Steps.{DialogueCameTo, Stopped, TookInbox}
use Rattle.pgw_dialogue.proofs.AnswerLaws.{done_tells, ended_as, waiting_tells}
use Rattle.pgw_dialogue.proofs.TalkLaws.{begins_in, begins_on, carried, noted, over_in, over_on, waits_in, whole_in}

-- ---- the bytes taken

-- behind bytes below the limit, of a piece no more than there is room for
taken_behind : (limit room : ℕ) (given piece : List ℕ) → length given + room ≡ limit
    → taken_of limit (given ++ piece) ≡ given ++ take room piece
taken_behind limit room given piece is =
    ap (λ n. take n (given ++ piece)) (sym is) ∙ take-append-add given piece room

pub taken_below : (limit : ℕ) (given : List ℕ) → length given ≤ limit → taken_of limit given ≡ given
taken_below limit given le = take_all limit given le

-- more bytes given are more bytes taken
pub split : (limit : ℕ) (given piece : List ℕ)
    → (more : List ℕ) × (taken_of limit (given ++ piece) ≡ taken_of limit given ++ more)
split limit [] piece = (taken_of limit piece, ends limit)
  where
    ends : (n : ℕ) → take n piece ≡ take n [] ++ take n piece
    ends zero = refl
    ends (suc n) = refl
split zero (b ∷ given) piece = ([], refl)
split (suc limit) (b ∷ given) piece = let s = split limit given piece in (s.0, ap (λ (l : List ℕ). b ∷ l) s.1)

-- ---- one pair

pub stands_as : (input : Input) (limit : ℕ) (d : Dialogue) (given put : List ℕ) (s : State) → input_at d ≡ input
    → d.state ≡ s → StandsIn s d input limit given put → Stands input limit d given put
stands_as input limit d given put s made is h =
    record { made_for = made; stands = subst (λ x. StandsIn x d input limit given put) (sym is) h }

pub stands_in : (input : Input) (limit : ℕ) (d : Dialogue) (given put : List ℕ) (s : State) → d.state ≡ s
    → Stands input limit d given put → StandsIn s d input limit given put
stands_in input limit d given put s is h = subst (λ x. StandsIn x d input limit given put) is h.stands

-- where the conversation waits
waiting_stands : (input : Input) (limit : ℕ) (given put : List ℕ) (d : Dialogue) (t : Talk) (room closed : ℕ)
    → input_at d ≡ input → conversation input (taken_of limit given) ≡ Waits t put d.inbox
    → d.notes ≡ view input t
    → d.room ≡ room → limit - length given ≡ room → d.state ≡ state_behind (waiting_answer room closed)
    → Stands input limit d given put
waiting_stands input limit given put d t zero closed made is notes room left to =
    stands_as input limit d given put state.Refused made to (inr ((t, d.inbox, is), omega (arith, left)))
waiting_stands input limit given put d t (suc room) zero made is notes here left to =
    stands_as input limit d given put state.Going made to (
      t,
      ap (conversation input) (sym (taken_below limit given (omega (arith, left))))
          ∙ is,
      notes,
      omega (arith, here, left),
    )
waiting_stands input limit given put d t (suc room) (suc closed) made is notes here left to =
    stands_as input limit d given put state.Going made to (
      t,
      ap (conversation input) (sym (taken_below limit given (omega (arith, left))))
          ∙ is,
      notes,
      omega (arith, here, left),
    )

waiting_answers : (input : Input) (limit : ℕ) (given put pending : List ℕ) (t : Talk) (room closed : ℕ)
    → conversation input (taken_of limit given) ≡ Waits t put pending → limit - length given ≡ room
    → length t.closed ≡ closed
    → AnswersDialogue input limit given put (waiting_answer room closed)
waiting_answers input limit given put pending t room closed is left count = record {
  answer =
      inl (ap (λ n. waiting_answer n closed) (sym left) ∙ ap (waiting_answer (limit - length given)) (sym count)
      ∙ sym (ap (answer_at (limit - length given)) is));
  tells = waiting_tells input limit given put pending t room closed is count (λ none. omega (arith, left, none));
}

-- where a call was refused
refused_state : (e : ClientError) → (e ≡ client.OutOfMemory → ⊥) → state_behind (Err e) ≡ state.Refused
refused_state client.OutOfMemory ne = absurd (ne refl)
refused_state e ne = refl

starved_state : (e : ClientError) → e ≡ client.OutOfMemory → state_behind (Err e) ≡ state.Starved
starved_state e is = ap (λ x. state_behind (Err x)) is

refused_pair : (input : Input) (limit : ℕ) (given put : List ℕ) (d : Dialogue) (e : ClientError)
    → input_at d ≡ input → Stopped (noted input (conversation input (taken_of limit given))) put e
    → d.state ≡ state_behind (Err e)
    → Stands input limit d given put × AnswersDialogue input limit given put (Err e)
refused_pair input limit given put d e made stopped to =
    let conv = conversation input (taken_of limit given) in
    elim (memory_or e) [
      | inl is ↦ (
        stands_as input limit d given put state.Starved made (to
            ∙ starved_state e is) (begins_in input conv put stopped.begins),
        record { answer = inr (ap Err is); tells = subst (TakeCause input limit given put) (sym is) tt },
      )
      | inr ne ↦
          let s = stopped.cause ne in
          let o = over_in input conv s.0 put s.1 in
          let why : error_of (o.0).outcome ≡ Some e = ap (λ (x : End Notes). error_of x.outcome) o.2 ∙ s.2 in (
            stands_as input limit d given put state.Refused made (to
                ∙ refused_state e ne) (inl (o.0, e, o.1, why)),
            record {
              answer = inl (sym (ap (answer_at (limit - length given)) o.1 ∙ ap ending_answer why));
              tells = ended_as input limit given put o.0 (o.0).outcome e o.1 refl why;
            },
          )
    ]

-- behind some bytes
pair_on : (input : Input) (limit : ℕ) (given put : List ℕ) (d : Dialogue) (fed : Result Bool ClientError)
    → input_at d ≡ input
    → DialogueCameTo (noted input (conversation input (taken_of limit given))) d.notes d.inbox put fed
    → d.room ≡ limit - length given → d.state ≡ state_behind (answer_behind fed d.room (d.notes).closed)
    → Stands input limit d given put
    × AnswersDialogue input limit given put (answer_behind fed d.room (d.notes).closed)
pair_on input limit given put d (Ok true) made came left to =
    let w = whole_in input (taken_of limit given) came.0 put (report_at d.notes) came.1 came.2 in (
      stands_as input limit d given put state.Done made to w,
      record {
        answer = inl (sym (ap (answer_at (limit - length given)) w.1));
        tells = done_tells input limit
            given put w.0 w.1;
      },
    )
pair_on input limit given put d (Ok false) made came left to =
    let w = waits_in input (conversation input (taken_of limit given)) d.notes put d.inbox came in (
      waiting_stands input limit given put d w.0 d.room (d.notes).closed made w.1 w.2 refl (sym left) to,
      waiting_answers input limit given put d.inbox w.0 d.room (d.notes).closed w.1 (sym left)
          (sym (ap (λ (n : Notes). n.closed) w.2)),
    )
pair_on input limit given put d (Err e) made came left to = refused_pair input limit given put d e made came to

-- ---- a call that takes bytes

-- for each pair that it stood for
pair_behind : (old new : Dialogue) (piece out : List ℕ) (fed : Result Bool ClientError) → old.state ≡ state.Going
    → input_at new ≡ input_at old
    → ((sent : List ℕ) → DialogueCameTo (runs (input_at old) old.notes sent (old.inbox ++ take old.room piece))
    new.notes new.inbox (sent ++ out) fed)
    → new.room ≡ old.room - length (take old.room piece)
    → new.state ≡ state_behind (answer_behind fed new.room (new.notes).closed)
    → (input : Input) (limit : ℕ) (given put : List ℕ) → Stands input limit old given put
    → Stands input limit new (given ++ piece) (put ++ out)
    × AnswersDialogue input limit (given ++ piece) (put ++ out)
    (answer_behind fed new.room (new.notes).closed)
pair_behind old new piece out fed going made came left to input limit given put s =
    let g = stands_in input limit old given put state.Going going s in
    let bytes = take old.room piece in
    let course : runs (input_at old) old.notes put (old.inbox ++ bytes) ≡ noted input
    (conversation input (taken_of limit (given ++ piece))) =
    ap (λ (i : Input). runs i old.notes put (old.inbox ++ bytes)) s.made_for
    ∙ ap (λ (n : Notes). runs input n put (old.inbox ++ bytes)) g.2
    ∙ carried input given put old.inbox bytes g.0 g.1
    ∙ ap (λ (b : List ℕ). noted input (conversation input b)) (sym (taken_behind limit old.room given piece g.3))
    in
    let room : new.room ≡ limit - length (given ++ piece) =
    omega (arith, left, length-take old.room piece, length-append given piece, g.3) in
    pair_on input limit (given ++ piece) (put ++ out) new fed (made
    ∙ s.made_for) (subst (λ (c : NotesCourse). DialogueCameTo c new.notes new.inbox (put ++ out) fed) course
    (came put)) room to

pub takes : (old new : Dialogue) (piece old_out new_out : List ℕ) (fed : Result Bool ClientError)
    (result : Result DialoguePhase ClientError)
    → old.state ≡ state.Going → input_at new ≡ input_at old
    → TookInbox (input_at old) old.notes new.notes (old.inbox ++ take old.room piece) new.inbox old_out new_out
    fed
    → new.room ≡ old.room - length (take old.room piece) → result ≡ answer_behind fed new.room (new.notes).closed
    → new.state ≡ state_behind result → Takes old new piece old_out new_out result
takes old new piece old_out new_out fed result going made took left answer to =
    let state_is = to ∙ ap state_behind answer in
    record {
      out = took.0;
      puts = took.1;
      stands =
          λ input limit given put s.
          (pair_behind old new piece took.0 fed going made took.2 left state_is input limit given put s).0;
      answers = λ input limit given put s not.
          subst (AnswersDialogue input limit (given ++ piece) (put ++ took.0)) (sym answer)
          ((pair_behind old new piece took.0 fed going made took.2 left state_is input limit given put s).1);
    }

-- ---- one that passes them over

over_stays : (input : Input) (limit : ℕ) (given piece put : List ℕ) (e : Ending)
    → conversation input (taken_of limit given) ≡ Over e put
    → conversation input (taken_of limit (given ++ piece)) ≡ Over e put
over_stays input limit given piece put e is =
    let s =
    split limit given piece in ap (conversation input) s.1 ∙ over_on input (taken_of limit given) s.0 e put is

settles_on : (input : Input) (limit : ℕ) (given piece put : List ℕ)
    → DialogueSettles (conversation input (taken_of limit given)) limit given put
    → DialogueSettles (conversation input (taken_of limit (given ++ piece))) limit (given ++ piece) put
settles_on input limit given piece put (inl o) =
    inl (o.0, o.1, over_stays input limit given piece put o.0 o.2, o.3)
settles_on input limit given piece put (inr w) =
    let same = take-append-le limit given piece w.1 in
    inr (
      (
        (w.0).0,
        (w.0).1,
        ap (conversation input) same
            ∙ (w.0).2,
      ),
      omega (arith, w.1, length-append given piece),
    )

-- whatever state but the first it is in
stands_still : (d : Dialogue) (s : State) → d.state ≡ s → (s ≡ state.Going → ⊥)
    → (input : Input) (limit : ℕ) (given piece put : List ℕ) → Stands input limit d given put
    → Stands input limit d (given ++ piece) put
stands_still d state.Going is not input limit given piece put h = absurd (not refl)
stands_still d state.Done is not input limit given piece put h =
    let x = stands_in input limit d given put state.Done is h in
    stands_as input limit d (given ++ piece) put state.Done h.made_for is
    (x.0, over_stays input limit given piece put _ x.1, x.2)
stands_still d state.Refused is not input limit given piece put h =
    stands_as input limit d (given ++ piece) put state.Refused h.made_for is
    (settles_on input limit given piece put (stands_in input limit d given put state.Refused is h))
stands_still d state.Starved is not input limit given piece put h =
    let s = split limit given piece in
    let b =
    begins_on input (taken_of limit given) s.0 put (stands_in input limit d given put state.Starved is h) in
    stands_as input limit d (given ++ piece) put state.Starved h.made_for is
    (subst (λ (l : List ℕ). Begins (conversation input l) put) (sym s.1) b)

-- the transcript is whole
done_answers : (d : Dialogue) → d.state ≡ state.Done → (input : Input) (limit : ℕ) (given piece put : List ℕ)
    → Stands input limit d given put → AnswersDialogue input limit (given ++ piece) put (Ok phase.Done)
done_answers d is input limit given piece put h =
    let x = stands_in input limit d given put state.Done is h in
    let on = over_stays input limit given piece put _ x.1 in
    record {
      answer = inl (sym (ap (answer_at (limit - length (given ++ piece))) on));
      tells = done_tells input
          limit (given ++ piece) put x.0 on;
    }

pub takes_done : (d : Dialogue) (piece out : List ℕ) → d.state ≡ state.Done
    → Takes d d piece out out (Ok phase.Done)
takes_done d piece out is = record {
  out = [];
  puts = sym (append-nil out);
  stands =
      λ input limit given put h. subst (Stands input limit d (given ++ piece)) (sym (append-nil put))
      (stands_still d state.Done is (λ e. cc) input limit given piece put h);
  answers =
      λ input limit given put h not. subst
      (λ (p : List ℕ). AnswersDialogue input limit (given ++ piece) p (Ok phase.Done)) (sym (append-nil put))
      (done_answers d is input limit given piece put h);
}

takes_refused : (d : Dialogue) (s : State) (piece out : List ℕ) → d.state ≡ s → (s ≡ state.Going → ⊥) → IsBroken d
    → Takes d d piece out out (Err client.Broken)
takes_refused d s piece out is not broken = record {
  out = [];
  puts = sym (append-nil out);
  stands =
      λ input limit given put h. subst (Stands input limit d (given ++ piece)) (sym (append-nil put))
      (stands_still d s is not input limit given piece put h);
  answers = λ input limit given put h sound. absurd (sound broken);
}

pub takes_broken : (d : Dialogue) (piece out : List ℕ) → IsBroken d → Takes d d piece out out (Err client.Broken)
takes_broken d piece out (inl is) = takes_refused d state.Refused piece out is (λ e. cc) (inl is)
takes_broken d piece out (inr is) = takes_refused d state.Starved piece out is (λ e. cc) (inr is)

-- ---- where it is then

waiting_behind : (d : Dialogue) (room closed : ℕ) → d.room ≡ room
    → d.state ≡ state_behind (waiting_answer room closed) → IsBehind d (waiting_answer room closed)
waiting_behind d zero closed here to = inl to
waiting_behind d (suc room) zero here to = (to, omega (arith, here))
waiting_behind d (suc room) (suc closed) here to = (to, omega (arith, here))

refused_behind : (d : Dialogue) (e : ClientError) → d.state ≡ state_behind (Err e) → IsBroken d
refused_behind d e to =
    elim (memory_or e) [ inl is ↦ inr (to ∙ starved_state e is) | inr ne ↦ inl (to ∙ refused_state e ne) ]

pub is_behind : (d : Dialogue) (fed : Result Bool ClientError)
    → d.state ≡ state_behind (answer_behind fed d.room (d.notes).closed)
    → IsBehind d (answer_behind fed d.room (d.notes).closed)
is_behind d (Ok true) to = to
is_behind d (Ok false) to = waiting_behind d d.room (d.notes).closed refl to
is_behind d (Err e) to = refused_behind d e to

-- a state of want of memory comes of want of memory
pub starved_by : (r : Result DialoguePhase ClientError) → state_behind r ≡ state.Starved
    → r ≡ Err client.OutOfMemory
starved_by (Ok phase.Waiting) is = absurd (cc)
starved_by (Ok phase.Ready) is = absurd (cc)
starved_by (Ok phase.Done) is = absurd (cc)
starved_by (Err (client.InvalidConfig x)) is = absurd (cc)
starved_by (Err (client.UnknownConfig x)) is = absurd (cc)
starved_by (Err (client.InvalidUtf8ConfigValue x)) is = absurd (cc)
starved_by (Err client.UnexpectedEOF) is = absurd (cc)
starved_by (Err (client.UnexpectedMessage m)) is = absurd (cc)
starved_by (Err client.IoError) is = absurd (cc)
starved_by (Err (client.PgWireError x)) is = absurd (cc)
starved_by (Err (client.RemoteError x)) is = absurd (cc)
starved_by (Err (client.FromSqlError x)) is = absurd (cc)
starved_by (Err client.DataRowIndexOutOfBounds) is = absurd (cc)
starved_by (Err (client.ScramError x)) is = absurd (cc)
starved_by (Err (client.UnsupportedSASLAuthMethods x)) is = absurd (cc)
starved_by (Err client.ReadLimit) is = absurd (cc)
starved_by (Err client.Broken) is = absurd (cc)
starved_by (Err client.OutOfMemory) is = refl
