-- Where a session over a stream is, call by call.
use Rattle.std.proofs.Common.{◌≡◌, ◌⊎◌, ◌<◌, ◌≤◌, ℕ, zero, suc, ◌+◌, ◌-◌, List, [], ◌∷◌, ◌++◌, length, Option, Some, None, Result, Ok, Err, Bool, true, false, inl, inr, arith, refl, ◌∙◌, ap, sym, subst, append_assoc, length-append}
use Rattle.std.proofs.lemmas.List.{append-nil}
use Rattle.tokio.specs.declared.io.async_read.AsyncRead as AsyncRead
use Rattle.tokio.specs.declared.io.async_write.AsyncWrite as AsyncWrite
use Rattle.pgw_backend.specs.declared.client_error.PgWireClientError.{PgWireClientError as ClientError}
use Rattle.pgw_backend.specs.declared.client_error.PgWireClientError.TheVariants as client
use Rattle.pgw_machine.specs.Course.{Course, Waits, Over, CourseWaits, sent_of}
use Rattle.pgw_link.specs.Tape.{Tape}
use Rattle.pgw_session.specs.Input.{Input}
use Rattle.pgw_session.specs.Machine.{error_of}
use Rattle.pgw_session.specs.Talk.{Talk, Ending, conversation}
use Rattle.pgw_dialogue.specs.Answers.{TakeCause, answer_at, ending_answer, taken_of, waiting_answer}
use Rattle.pgw_dialogue.specs.Dialogue.{AnswersDialogue, IsBehind, IsBroken, IsDone, IsStarved, Stands}
use Rattle.pgw_dialogue.specs.declared.dialogue.Dialogue.{Dialogue}
use Rattle.pgw_dialogue.specs.declared.phase.DialoguePhase.{DialoguePhase}
use Rattle.pgw_dialogue.specs.declared.phase.DialoguePhase.TheVariants as phase
use Rattle.pgw_dialogue.specs.declared.phase.State.TheVariants as state
use Rattle.pgw_dialogue.proofs.DialogueLaws.{taken_below}
use Rattle.pgw_dialogue.proofs.ToldLaws.{sent_is}
use Rattle.pgw_dialogue.proofs.WireLaws.{memory_or}
use Rattle.pgw_tokio_moving.specs.Calls.{Call, Gave, Ended, Wrote, Flushed, Waited, Unread, Unwritten, Unflushed, CallGoesOn}
use Rattle.pgw_tokio_moving.specs.declared.engine.Engine as Engine
use Rattle.pgw_tokio_moving.specs.declared.engine.Turn.{Turn}
use Rattle.pgw_tokio_moving.specs.declared.engine.Turn.TheVariants as turn
use Rattle.pgw_tokio_moving.specs.Moving.{Mover, MovesStreamBytes, Step}
use Rattle.pgw_tokio.specs.declared.engine.SessionEngine.{SessionEngine}
use Rattle.pgw_tokio.specs.Engine.{Feeds, StandsAs}
use Rattle.pgw_tokio.specs.First.{refusal_of, turn_of}
use Rattle.pgw_tokio.specs.Tape.{with_call, tape_after}

-- why it stops, where these bytes were taken and those put out
abbrev pub Stops : Input → ℕ → List ℕ → List ℕ → ClientError → Type 0
Stops input limit taken put e =
    (e ≡ client.OutOfMemory) ⊎ (((ending : Ending) × (conversation input taken ≡ Over ending put) ×
    (error_of ending.outcome ≡ Some e))
    ⊎ ((e ≡ client.ReadLimit) × CourseWaits (conversation input taken) put × (length taken ≡ limit)))

-- that is no failed call of the stream
abbrev pub Fails : Input → ℕ → List ℕ → List ℕ → ClientError → Type 0
Fails input limit taken put e = (e ≡ client.IoError → ⊥) × Stops input limit taken put e

-- how it stands behind its dialogue's last answer
abbrev pub StandsSo : Input → ℕ → Turn → Option ClientError → Dialogue → List ℕ → List ℕ → Type 0
StandsSo input limit turn.More refusal d taken put = (refusal ≡ None) × (d.state ≡ state.Going)
StandsSo input limit turn.Over None d taken put = IsDone d
StandsSo input limit turn.Over (Some e) d taken put = Fails input limit taken put e

-- whether anything was written since the last flush
abbrev pub Flushing : Bool → Tape → Type 0
Flushing false t = t.flushed ≡ length t.wrote
Flushing true t = t.flushed < length t.wrote

pub record UnderWay {S : Type 0} (input : Input) (limit : ℕ) (t : Tape) (h : Mover S SessionEngine) : Type 0
  where
    pub dialogue : Dialogue
    pub is : h.engine.dialogue ≡ Some dialogue
    pub stands : Stands input limit dialogue t.took (t.wrote ++ h.out)
    pub so : StandsSo input limit h.turn h.engine.refusal dialogue t.took (t.wrote ++ h.out)
    pub room : length t.took + h.engine.room ≡ limit
    pub not_ended : t.ended ≡ []
    pub reads : t.reads ≤ length t.took
    pub writes : t.writes ≤ length t.wrote
    pub flushing : Flushing h.unflushed t

-- ---- what an answer means

waiting_fails : (room closed : ℕ) (e : ClientError) → Err e ≡ waiting_answer room closed
    → (room ≡ 0) × (e ≡ client.ReadLimit)
waiting_fails zero closed e is = (refl, cc)
waiting_fails (suc room) zero e is = cc
waiting_fails (suc room) (suc closed) e is = cc

ending_fails : (o : Option ClientError) (e : ClientError) → Err e ≡ ending_answer o → o ≡ Some e
ending_fails None e is = cc
ending_fails (Some x) e is = cc

stops_by : (input : Input) (limit : ℕ) (taken put : List ℕ) (e : ClientError) (c : Course Talk Ending)
    → conversation input taken ≡ c → Err e ≡ answer_at (limit - length taken) c → sent_of c ≡ put
    → length taken ≤ limit
    → Stops input limit taken put e
stops_by input limit taken put e (Waits t sent pending) is answer same within =
    let w = waiting_fails (limit - length taken) (length t.closed) e answer in
    inr (inr (
      w.1,
      (t, pending, is ∙ ap (λ (l : List ℕ). Waits t l pending) same),
      omega (arith, w.0, within),
    ))
stops_by input limit taken put e (Over ending sent) is answer same within =
    inr (inl (ending, is ∙ ap (Over ending) same, ending_fails (error_of ending.outcome) e answer))

-- the error that a call answered
stops_so : (input : Input) (limit : ℕ) (d : Dialogue) (taken put : List ℕ) (e : ClientError)
    → length taken ≤ limit
    → Stands input limit d taken put → AnswersDialogue input limit taken put (Err e)
    → (IsStarved d → e ≡ client.OutOfMemory)
    → Stops input limit taken put e
stops_so input limit d taken put e within stands answers starved = elim (memory_or e) [
  | inl is ↦ inl is
  | inr not ↦ elim answers.answer [
    | inl is ↦
        let whole = taken_below limit taken within in
        let sent = sent_is input limit d taken put stands (λ lacks. not (starved lacks)) in
        stops_by input limit taken put e (conversation input (taken_of limit taken))
        (ap (conversation input) (sym whole)) is sent within
    | inr lacks ↦ inl (cc)
  ]
]

so_behind : (input : Input) (limit : ℕ) (d : Dialogue) (taken put : List ℕ)
    (r : Result DialoguePhase ClientError)
    → length taken ≤ limit → Stands input limit d taken put → IsBehind d r
    → AnswersDialogue input limit taken put r
    → (IsStarved d → r ≡ Err client.OutOfMemory) → StandsSo input limit (turn_of r) (refusal_of r) d taken put
so_behind input limit d taken put (Ok phase.Waiting) within stands behind answers starved = (refl, behind.0)
so_behind input limit d taken put (Ok phase.Ready) within stands behind answers starved = (refl, behind.0)
so_behind input limit d taken put (Ok phase.Done) within stands behind answers starved = behind
so_behind input limit d taken put (Err e) within stands behind answers starved = (
  λ io. subst (TakeCause input limit taken put) io answers.tells,
  stops_so input limit d taken put e within stands answers (λ lacks. let lack = starved lacks in cc),
)

-- ---- a call

some_same : {A : Type 0} {a b : A} → Some a ≡ Some b → a ≡ b
some_same is = cc

pub flushed_in : (b : Bool) (t : Tape) → Flushing b t → t.flushed ≤ length t.wrote
flushed_in true t f = omega (arith, f)
flushed_in false t f = omega (arith, f)

pub going_in : (input : Input) (limit : ℕ) (d : Dialogue) (taken put : List ℕ) (t : Turn)
    (refusal : Option ClientError)
    → t ≡ turn.More → StandsSo input limit t refusal d taken put → d.state ≡ state.Going
going_in input limit d taken put turn.More refusal is so = so.1
going_in input limit d taken put turn.Over refusal is so = cc

module _ {S : Type 0} (input : Input) (limit : ℕ) where
  gave : (t : Tape) (old new : Mover S SessionEngine) (bytes : List ℕ) → UnderWay input limit t old
      → 0 < length bytes
      → old.out ≡ [] → old.unflushed ≡ false → old.turn ≡ turn.More → length bytes ≤ old.engine.room
      → Feeds old.engine bytes new.out new.turn new.engine → new.unflushed ≡ false
      → UnderWay input limit (with_call t (Gave bytes)) new
  gave t old new bytes u some empty flushed more fits f still =
      let same : f.before ≡ u.dialogue = some_same (sym f.was ∙ u.is) in
      let going : f.before.state ≡ state.Going = ap (λ (d : Dialogue). d.state) same
      ∙ going_in input limit u.dialogue t.took (t.wrote ++ old.out) old.turn old.engine.refusal more u.so in
      let before : Stands input limit f.before t.took t.wrote =
      subst (λ (d : Dialogue). Stands input limit d t.took t.wrote) (sym same)
      (subst (Stands input limit u.dialogue t.took)
      (ap (λ (l : List ℕ). t.wrote ++ l) empty ∙ append-nil t.wrote)
      u.stands) in
      let out : f.takes.out ≡ new.out = sym f.takes.puts in
      let after = subst (λ (l : List ℕ). Stands input limit f.after (t.took ++ bytes) (t.wrote ++ l)) out
      (f.takes.stands input limit t.took t.wrote before) in
      let sound : IsBroken f.before → ⊥ = λ broken. elim broken
      [ inl is ↦ absurd (let no = sym is ∙ going in cc) | inr is ↦ absurd (let no = sym is ∙ going in cc) ] in
      let answers =
      subst (λ (l : List ℕ). AnswersDialogue input limit (t.took ++ bytes) (t.wrote ++ l) f.answer) out
      (f.takes.answers input limit t.took t.wrote before sound) in
      let size = length-append t.took bytes in
      let room : length (t.took ++ bytes) + new.engine.room ≡ limit =
      omega (arith, u.room, fits, size, f.room) in
      let starved : IsStarved f.after → f.answer ≡ Err client.OutOfMemory =
      λ lacks. elim (f.starved lacks) [ inl was ↦ absurd (sound (inr was)) | inr is ↦ is ] in
      let so = so_behind input limit f.after (t.took ++ bytes) (t.wrote ++ new.out) f.answer
      (omega (arith, room))
      after f.behind answers starved in
      record {
        dialogue = f.after;
        is = f.is;
        stands = after;
        so = subst (λ (o : Option ClientError). StandsSo input limit new.turn o f.after (t.took ++ bytes)
            (t.wrote ++ new.out)) (sym f.refused)
            (subst (λ (x : Turn). StandsSo input limit x (refusal_of f.answer) f.after (t.took ++ bytes)
            (t.wrote ++ new.out)) (sym f.turned) so);
        room = room;
        not_ended = u.not_ended;
        reads = omega (arith, u.reads, size, some);
        writes = u.writes;
        flushing = subst (λ b. Flushing b (with_call t (Gave bytes))) (sym still)
            (subst (λ b. Flushing b t) flushed u.flushing);
      }

  wrote : (t : Tape) (old : Mover S SessionEngine) (stream : S) (bytes out : List ℕ)
      → UnderWay input limit t old
      → 0 < length bytes → old.out ≡ bytes ++ out
      → UnderWay input limit (with_call t (Wrote bytes))
      (record old { stream = stream; out = out; unflushed = true })
  wrote t old stream bytes out u some are =
      let same : t.wrote ++ old.out ≡ (t.wrote ++ bytes) ++ out = ap (λ (l : List ℕ). t.wrote ++ l) are
      ∙ sym (append_assoc t.wrote bytes out) in
      let size = length-append t.wrote bytes in
      record {
        dialogue = u.dialogue;
        is = u.is;
        stands = subst (Stands input limit u.dialogue t.took) same u.stands;
        so = subst (StandsSo input limit old.turn old.engine.refusal u.dialogue t.took) same u.so;
        room = u.room;
        not_ended = u.not_ended;
        reads = u.reads;
        writes = omega (arith, u.writes, size, some);
        flushing = omega (arith, flushed_in old.unflushed t u.flushing, size, some);
      }

  flushed : (t : Tape) (old : Mover S SessionEngine) (stream : S) → UnderWay input limit t old
      → UnderWay input limit (with_call t Flushed) (record old { stream = stream; unflushed = false })
  flushed t old stream u = record {
    dialogue = u.dialogue;
    is = u.is;
    stands = u.stands;
    so = u.so;
    room = u.room;
    not_ended = u.not_ended;
    reads = u.reads;
    writes = u.writes;
    flushing = refl;
  }

  waited : (t : Tape) (old : Mover S SessionEngine) (stream : S) → UnderWay input limit t old
      → UnderWay input limit t (record old { stream = stream })
  waited t old stream u = record {
    dialogue = u.dialogue;
    is = u.is;
    stands = u.stands;
    so = u.so;
    room = u.room;
    not_ended = u.not_ended;
    reads = u.reads;
    writes = u.writes;
    flushing = u.flushing;
  }

-- ---- some calls

module _ {S : Type 0} (reader : AsyncRead.Ghosts S) (writer : AsyncWrite.Ghosts S)
    (engine : Engine.Ghosts SessionEngine) where
  -- the members of the engine are those of a dialogue
  pub record IsSessions : Type 0 where
    pub takes : (old new : SessionEngine) (given put : List ℕ) (t : Turn) → engine.takes old given put t new
        → Feeds old given put t new
    pub room : (e : SessionEngine) → engine.room e ≡ e.room
    pub stands : (e : SessionEngine) (t : Turn) → engine.stands e t → StandsAs e t

  call_on : IsSessions → (input : Input) (limit : ℕ) (t : Tape) (old new : Mover S SessionEngine) (call : Call)
      → CallGoesOn call → Step reader writer engine old call new → UnderWay input limit t old
      → UnderWay input limit (with_call t call) new
  call_on are input limit t old new (Gave bytes) on step u =
      let d = step.1 in
      gave input limit t old new bytes u (step.0).1 (d.0).0 (d.0).1 d.1
      (omega (arith, d.2, are.room old.engine))
      (are.takes _ _ _ _ _ d.3) d.4
  call_on are input limit t old new Ended on step u = absurd on
  call_on are input limit t old new (Wrote bytes) on step u =
      let d = step.1 in
      subst (UnderWay input limit (with_call t (Wrote bytes))) (sym d.1)
      (wrote input limit t old new.stream bytes new.out u (step.0).1 d.0)
  call_on are input limit t old new Flushed on step u =
      let d = step.1 in
      subst (UnderWay input limit (with_call t Flushed)) (sym d.2) (flushed input limit t old new.stream u)
  call_on are input limit t old new Waited on step u =
      subst (UnderWay input limit t) (sym step.1) (waited input limit t old new.stream u)
  call_on are input limit t old new (Unread e) on step u = absurd on
  call_on are input limit t old new (Unwritten e) on step u = absurd on
  call_on are input limit t old new (Unflushed e) on step u = absurd on

  pub runs_on : IsSessions → (input : Input) (limit : ℕ) (t : Tape) (old new : Mover S SessionEngine)
      (calls : List Call) → MovesStreamBytes reader writer engine old calls new → UnderWay input limit t old
      → UnderWay input limit (tape_after t calls) new
  runs_on are input limit t old new [] runs u = subst (UnderWay input limit t) runs u
  runs_on are input limit t old new (call ∷ calls) runs u =
      runs_on are input limit (with_call t call) runs.0 new calls runs.3
      (call_on are input limit t old runs.0 call runs.1 runs.2 u)
