-- Where a call of a client is, call by call of its stream, and what it comes to.
use Rattle.std.proofs.Common.{◌≡◌, ℕ, true, false, arith, length-append, List, [], ◌∷◌, ◌++◌, Option, Some, None, Result, Ok, Err, inl, inr, refl, ◌∙◌, ap, sym, subst, append_assoc}
use Rattle.std.proofs.lemmas.List.{append-nil}
use Rattle.std.specs.declared.io.Error.{Error}
use Rattle.tokio.specs.declared.io.async_read.AsyncRead as AsyncRead
use Rattle.tokio.specs.declared.io.async_write.AsyncWrite as AsyncWrite
use Rattle.pgw_backend.specs.declared.client_error.PgWireClientError.{PgWireClientError as ClientError}
use Rattle.pgw_backend.specs.declared.client_error.PgWireClientError.TheVariants as client
use Rattle.pgw_dialogue.specs.declared.phase.DialoguePhase.{DialoguePhase}
use Rattle.pgw_dialogue.specs.declared.phase.DialoguePhase.TheVariants as phase
use Rattle.pgw_dialogue.specs.Dialogue.{AnswersDialogue}
use Rattle.pgw_dialogue.specs.Wire.{IsEndError}
use Rattle.pgw_link.specs.Tape.{Tape}
use Rattle.pgw_session.specs.declared.types.Request.{Request}
use Rattle.pgw_session.specs.Input.{Input}
use Rattle.pgw_tokio_moving.specs.Calls.{Call, Gave, Ended, Wrote, Flushed, Waited, Unread, Unwritten, Unflushed, CallGoesOn, fault_of}
use Rattle.pgw_tokio_moving.specs.declared.engine.Turn.{Turn}
use Rattle.pgw_tokio_moving.specs.declared.engine.Turn.TheVariants as turn
use Rattle.pgw_tokio_moving.specs.Moving.{Mover, MovesStreamBytes, Step}
use Rattle.pgw_client_push.specs.declared.client.PushClient.{PushClient}
use Rattle.pgw_client_push.specs.Calls.{HasAnswer, IsLeft}
use Rattle.pgw_client_push.specs.Standing.{IsPushBroken, IsIdle, IsOpen, StandsFor}
use Rattle.pgw_client_push.specs.Told.{asked_of}
use Rattle.pgw_tokio.specs.declared.calling.ClientEngine.{ClientEngine}
use Rattle.pgw_tokio.specs.Calling.{MeansEnd, client_members}
use Rattle.pgw_tokio.specs.Failing.{Fails, IsStreamFlushed}
use Rattle.pgw_tokio.specs.Feeding.{FeedsClient}
use Rattle.pgw_tokio.specs.First.{refusal_of, turn_of}
use Rattle.pgw_tokio.specs.Tape.{with_call, tape_after}
use Rattle.pgw_tokio.proofs.UnderLaws.{Flushing, flushed_in}

-- ---- what an answer means

refused_by : (r : Result DialoguePhase ClientError) (e : ClientError) → refusal_of r ≡ Some e → r ≡ Err e
refused_by (Ok p) e is = cc
refused_by (Err x) e is = cc

pub answers_by : (input : Input) (limit : ℕ) (given put : List ℕ) (r : Result DialoguePhase ClientError)
    (refusal : Option ClientError) → refusal ≡ refusal_of r → AnswersDialogue input limit given put r
    → (e : ClientError) → refusal ≡ Some e → AnswersDialogue input limit given put (Err e)
answers_by input limit given put r refusal refused answers e is =
    subst (AnswersDialogue input limit given put) (refused_by r e (sym refused ∙ is)) answers

pub broken_by : (c : PushClient) (r : Result DialoguePhase ClientError) (refusal : Option ClientError)
    → refusal ≡ refusal_of r → IsLeft c r → (e : ClientError) → refusal ≡ Some e → IsPushBroken c
broken_by c r refusal refused left e is = subst (IsLeft c) (refused_by r e (sym refused ∙ is)) left

pub more_by : (r : Result DialoguePhase ClientError) (t : Turn) (refusal : Option ClientError) → t ≡ turn_of r
    → refusal ≡ refusal_of r → t ≡ turn.More → refusal ≡ None
more_by (Ok p) t refusal turned refused more = refused
more_by (Err e) t refusal turned refused more = let no = sym more ∙ turned in cc

pub has_by : (c : PushClient) (r : Result DialoguePhase ClientError) (t : Turn) (refusal : Option ClientError)
    → t ≡ turn_of r → refusal ≡ refusal_of r → HasAnswer c r → t ≡ turn.Over → refusal ≡ None
    → HasAnswer c (Ok phase.Done)
has_by c (Ok phase.Waiting) t refusal turned refused has over none = let no = sym over ∙ turned in cc
has_by c (Ok phase.Ready) t refusal turned refused has over none = let no = sym over ∙ turned in cc
has_by c (Ok phase.Done) t refusal turned refused has over none = has
has_by c (Err e) t refusal turned refused has over none = let no = sym none ∙ refused in cc

-- no refusal is a failed call, and no end
not_refused : (input : Input) (limit : ℕ) (given put : List ℕ)
    → AnswersDialogue input limit given put (Err client.IoError)
    → ⊥
not_refused input limit given put answers = answers.tells

not_ended : IsEndError client.IoError → ⊥
not_ended end = end

-- ---- the error of a call that failed

module _ {S : Type 0} (reader : AsyncRead.Ghosts S) (writer : AsyncWrite.Ghosts S) where
  fault_call : (old new : Mover S ClientEngine) (call : Call) → CallGoesOn call
      → Step reader writer client_members old call new → new.engine.fault ≡ old.engine.fault
  fault_call old new (Gave bytes) on step = ((step.1).3).1
  fault_call old new Ended on step = absurd on
  fault_call old new (Wrote bytes) on step = ap (λ (h : Mover S ClientEngine). h.engine.fault) (step.1).1
  fault_call old new Flushed on step = ap (λ (h : Mover S ClientEngine). h.engine.fault) (step.1).2
  fault_call old new Waited on step = ap (λ (h : Mover S ClientEngine). h.engine.fault) step.1
  fault_call old new (Unread e) on step = absurd on
  fault_call old new (Unwritten e) on step = absurd on
  fault_call old new (Unflushed e) on step = absurd on

  -- none of these calls failed, and what is kept of an earlier one stays
  pub fault_runs : (old new : Mover S ClientEngine) (calls : List Call)
      → MovesStreamBytes reader writer client_members old calls new → new.engine.fault ≡ old.engine.fault
  fault_runs old new [] runs = ap (λ (h : Mover S ClientEngine). h.engine.fault) (sym runs)
  fault_runs old new (call ∷ calls) runs = fault_runs runs.0 new calls runs.3
      ∙ fault_call old runs.0 call runs.1 runs.2

-- ---- call by call

module _ {S : Type 0} (asked : Option (List Request)) where
  -- no end has come, what was written is flushed or is to be, a client that was refused is broken, and one that was not
  -- was asked this
  pub record Paced (t : Tape) (h : Mover S ClientEngine) : Type 0 where
    pub not_ended : t.ended ≡ []
    pub flushing : Flushing h.unflushed t
    pub broken : (e : ClientError) → h.engine.refusal ≡ Some e → IsPushBroken h.engine.client
    pub more : h.turn ≡ turn.More → h.engine.refusal ≡ None
    pub asked_is : h.engine.refusal ≡ None → asked_of h.engine.client ≡ asked

  module _ (reader : AsyncRead.Ghosts S) (writer : AsyncWrite.Ghosts S) where
    paced_call : (t : Tape) (old new : Mover S ClientEngine) (call : Call) → CallGoesOn call
        → Step reader writer client_members old call new → Paced t old → Paced (with_call t call) new
    paced_call t old new (Gave bytes) on step u =
        let d = step.1 in
        let f : FeedsClient old.engine.client new.engine.client new.engine.refusal bytes new.out new.turn = (d.3).0 in
        record {
          not_ended = u.not_ended;
          flushing = subst (λ b. Flushing b (with_call t (Gave bytes))) (sym d.4)
              (subst (λ b. Flushing b t) (d.0).1 u.flushing);
          broken = broken_by new.engine.client f.answer new.engine.refusal f.refused f.left;
          more = more_by f.answer new.turn new.engine.refusal f.turned f.refused;
          asked_is = λ none. f.asked ∙ u.asked_is (u.more d.1);
        }
    paced_call t old new Ended on step u = absurd on
    paced_call t old new (Wrote bytes) on step u =
        let d = step.1 in
        subst (Paced (with_call t (Wrote bytes))) (sym d.1) (record {
          not_ended = u.not_ended;
          flushing = omega (
            arith,
            flushed_in old.unflushed t u.flushing,
            length-append t.wrote bytes,
            (step.0).1,
          );
          broken = u.broken;
          more = u.more;
          asked_is = u.asked_is;
        })
    paced_call t old new Flushed on step u =
        subst (Paced (with_call t Flushed)) (sym (step.1).2)
        (record {
          not_ended = u.not_ended;
          flushing = refl;
          broken = u.broken;
          more = u.more;
          asked_is =
              u.asked_is;
        })
    paced_call t old new Waited on step u =
        subst (Paced t) (sym step.1)
        (record {
          not_ended = u.not_ended;
          flushing = u.flushing;
          broken = u.broken;
          more = u.more;
          asked_is = u.asked_is;
        })
    paced_call t old new (Unread e) on step u = absurd on
    paced_call t old new (Unwritten e) on step u = absurd on
    paced_call t old new (Unflushed e) on step u = absurd on

    pub paced_runs : (t : Tape) (old new : Mover S ClientEngine) (calls : List Call)
        → MovesStreamBytes reader writer client_members old calls new → Paced t old → Paced (tape_after t calls) new
    paced_runs t old new [] runs u = subst (Paced t) runs u
    paced_runs t old new (call ∷ calls) runs u =
        paced_runs (with_call t call) runs.0 new calls runs.3 (paced_call t old runs.0 call runs.1 runs.2 u)

  -- what was written is flushed
  pub flushed_at : (t : Tape) (h : Mover S ClientEngine) → Paced t h → h.unflushed ≡ false → IsStreamFlushed t
  flushed_at t h p still = subst (λ b. Flushing b t) still p.flushing

module _ {S : Type 0} where
  -- the client stands for the bytes given and put out, of which some are not written; where it was refused, that has
  -- its cause; and where it is over, it has its answer
  pub record UnderCall (input : Input) (limit : ℕ) (given put : List ℕ) (t : Tape) (h : Mover S ClientEngine) :
      Type 0
    where
      pub stands : StandsFor input limit h.engine.client (given ++ t.took) (put ++ (t.wrote ++ h.out))
      pub answers : (e : ClientError) → h.engine.refusal ≡ Some e
          → AnswersDialogue input limit (given ++ t.took) (put ++ (t.wrote ++ h.out)) (Err e)
      pub has : h.turn ≡ turn.Over → h.engine.refusal ≡ None → HasAnswer h.engine.client (Ok phase.Done)

  module _ (reader : AsyncRead.Ghosts S) (writer : AsyncWrite.Ghosts S) where
    module _ (input : Input) (limit : ℕ) (given put : List ℕ) where
      gave : (t : Tape) (old new : Mover S ClientEngine) (bytes : List ℕ) → UnderCall input limit given put t old
          → old.out ≡ []
          → FeedsClient old.engine.client new.engine.client new.engine.refusal bytes new.out new.turn
          → UnderCall input limit given put (with_call t (Gave bytes)) new
      gave t old new bytes u empty f =
          let c = new.engine.client in
          let put_is : put ++ (t.wrote ++ old.out) ≡ put ++ t.wrote =
          ap (λ (l : List ℕ). put ++ (t.wrote ++ l)) empty
          ∙ ap (λ (l : List ℕ). put ++ l) (append-nil t.wrote) in
          let before = subst (StandsFor input limit old.engine.client (given ++ t.took)) put_is u.stands in
          let given_is : (given ++ t.took) ++ bytes ≡ given ++ (t.took ++ bytes) =
          append_assoc given t.took bytes in
          let out_is : f.takes.out ≡ new.out = sym f.takes.puts in
          let all_is : (put ++ t.wrote) ++ f.takes.out ≡ put ++ (t.wrote ++ new.out) =
          ap (λ (l : List ℕ). (put ++ t.wrote) ++ l) out_is ∙ append_assoc put t.wrote new.out in
          let stands = subst (λ (g : List ℕ). StandsFor input limit c g (put ++ (t.wrote ++ new.out))) given_is
          (subst (StandsFor input limit c ((given ++ t.took) ++ bytes)) all_is
          (f.takes.stands input limit (given ++ t.took) (put ++ t.wrote) before)) in
          let answers =
          subst (λ (g : List ℕ). AnswersDialogue input limit g (put ++ (t.wrote ++ new.out)) f.answer)
          given_is
          (subst (λ (l : List ℕ). AnswersDialogue input limit ((given ++ t.took) ++ bytes) l f.answer) all_is
          (f.takes.answers input limit (given ++ t.took) (put ++ t.wrote) before)) in
          record {
            stands = stands;
            answers = answers_by input limit (given ++ (t.took ++ bytes)) (put ++ (t.wrote ++ new.out)) f.answer
                new.engine.refusal f.refused answers;
            has = has_by c f.answer new.turn new.engine.refusal f.turned f.refused
                (f.takes.answered input limit (given ++ t.took) (put ++ t.wrote) before);
          }

      wrote : (t : Tape) (old : Mover S ClientEngine) (stream : S) (bytes out : List ℕ)
          → UnderCall input limit given put t old → old.out ≡ bytes ++ out
          → UnderCall input limit given put (with_call t (Wrote bytes))
          (record old { stream = stream; out = out; unflushed = true })
      wrote t old stream bytes out u are =
          let same : put ++ (t.wrote ++ old.out) ≡ put ++ ((t.wrote ++ bytes) ++ out) =
          ap (λ (l : List ℕ). put ++ l)
          (ap (λ (l : List ℕ). t.wrote ++ l) are ∙ sym (append_assoc t.wrote bytes out)) in
          record {
            stands = subst (StandsFor input limit old.engine.client (given ++ t.took)) same u.stands;
            answers = λ e is. subst (λ (l : List ℕ). AnswersDialogue input limit (given ++ t.took) l (Err e)) same
                (u.answers e is);
            has = u.has;
          }

      call_on : (t : Tape) (old new : Mover S ClientEngine) (call : Call) → CallGoesOn call
          → Step reader writer client_members old call new → UnderCall input limit given put t old
          → UnderCall input limit given put (with_call t call) new
      call_on t old new (Gave bytes) on step u =
          let d = step.1 in
          gave t old new bytes u (d.0).0 (d.3).0
      call_on t old new Ended on step u = absurd on
      call_on t old new (Wrote bytes) on step u =
          let d = step.1 in
          subst (UnderCall input limit given put (with_call t (Wrote bytes))) (sym d.1)
          (wrote t old new.stream bytes new.out u d.0)
      call_on t old new Flushed on step u =
          subst (UnderCall input limit given put (with_call t Flushed)) (sym (step.1).2)
          (record { stands = u.stands; answers = u.answers; has = u.has })
      call_on t old new Waited on step u =
          subst (UnderCall input limit given put t) (sym step.1)
          (record { stands = u.stands; answers = u.answers; has = u.has })
      call_on t old new (Unread e) on step u = absurd on
      call_on t old new (Unwritten e) on step u = absurd on
      call_on t old new (Unflushed e) on step u = absurd on

      pub runs_under : (t : Tape) (old new : Mover S ClientEngine) (calls : List Call)
          → MovesStreamBytes reader writer client_members old calls new → UnderCall input limit given put t old
          → UnderCall input limit given put (tape_after t calls) new
      runs_under t old new [] runs u = subst (UnderCall input limit given put t) runs u
      runs_under t old new (call ∷ calls) runs u =
          runs_under (with_call t call) runs.0 new calls runs.3 (call_on t old runs.0 call runs.1 runs.2 u)

  -- ---- the end

  module _ (input : Input) (limit : ℕ) (given put : List ℕ) where
    pub sent_all : (t : Tape) (h : Mover S ClientEngine) → UnderCall input limit given put t h → h.out ≡ []
        → StandsFor input limit h.engine.client (given ++ t.took) (put ++ t.wrote)
    sent_all t h u empty =
        subst (StandsFor input limit h.engine.client (given ++ t.took))
        (ap (λ (l : List ℕ). put ++ l) (ap (λ (l : List ℕ). t.wrote ++ l) empty ∙ append-nil t.wrote)) u.stands

    -- it was refused
    pub over_refused : (t : Tape) (h : Mover S ClientEngine) (e : ClientError) (asked : Option (List Request))
        → Paced asked t h → UnderCall input limit given put t h → h.out ≡ [] → h.unflushed ≡ false
        → h.engine.refusal ≡ Some e
        → Fails input limit given put t h.engine.client None e
    over_refused t h e asked p u empty still is =
        let same : put ++ (t.wrote ++ h.out) ≡ put ++ t.wrote =
        ap (λ (l : List ℕ). put ++ l) (ap (λ (l : List ℕ). t.wrote ++ l) empty ∙ append-nil t.wrote) in
        let answers = subst (λ (l : List ℕ). AnswersDialogue input limit (given ++ t.took) l (Err e)) same
        (u.answers e is) in
        record {
          rest = h.out;
          stands = u.stands;
          cause = (empty, flushed_at asked t h p still, inl (p.not_ended, answers));
          io = λ io. absurd (not_refused input limit (given ++ t.took) (put ++ t.wrote)
              (subst (λ x. AnswersDialogue input limit (given ++ t.took) (put ++ t.wrote) (Err x)) io answers));
        }

    -- the stream's end came
    pub over_ended : (t : Tape) (h : Mover S ClientEngine) (e : ClientError) (asked : Option (List Request))
        → Paced asked t h → UnderCall input limit given put t h → h.out ≡ [] → h.unflushed ≡ false
        → MeansEnd h.engine.client e
        → Fails input limit given put (with_call t Ended) h.engine.client None e
    over_ended t h e asked p u empty still means =
        let flushed = flushed_at asked t h p still in
        record {
          rest = h.out;
          stands = u.stands;
          cause = (
            empty,
            flushed,
            inr (
              ap (λ (l : List ℕ). l ++ t.flushed ∷ []) p.not_ended ∙ ap (λ n. n ∷ []) flushed,
              means.0,
              means.1 input limit (given ++ t.took) (put ++ t.wrote) (sent_all t h u empty),
            ),
          );
          io = λ io. absurd (not_ended (subst IsEndError io means.0));
        }

    -- a call of the stream failed
    pub over_fault : (t : Tape) (h : Mover S ClientEngine) (call : Call) (f : Error) → fault_of call ≡ Some f
        → t.ended ≡ [] → UnderCall input limit given put t h
        → Fails input limit given put (with_call t call) h.engine.client (Some f) client.IoError
    over_fault t h (Gave bytes) f is unended u = cc
    over_fault t h Ended f is unended u = cc
    over_fault t h (Wrote bytes) f is unended u = cc
    over_fault t h Flushed f is unended u = cc
    over_fault t h Waited f is unended u = cc
    over_fault t h (Unread x) f is unended u =
        record { rest = h.out; stands = u.stands; cause = (unended, refl); io = λ io. (f, refl) }
    over_fault t h (Unwritten x) f is unended u =
        record { rest = h.out; stands = u.stands; cause = (unended, refl); io = λ io. (f, refl) }
    over_fault t h (Unflushed x) f is unended u =
        record { rest = h.out; stands = u.stands; cause = (unended, refl); io = λ io. (f, refl) }

-- ---- where it is then

-- other names of the same
pub fails_same : (input : Input) (limit : ℕ) (given put : List ℕ) (t u : Tape) (c d : PushClient)
    (f g : Option Error) (e : ClientError) → t ≡ u → c ≡ d → f ≡ g → Fails input limit given put t c f e
    → Fails input limit given put u d g e
fails_same input limit given put t u c d f g e tape push fault fails =
    subst (λ x. Fails input limit given put u d x e) fault
    (subst (λ x. Fails input limit given put u x f e) push
    (subst (λ x. Fails input limit given put x c f e) tape fails))

-- a client that is broken, or that has a segment open, can't be asked
pub broken_not_idle : (c : PushClient) → IsPushBroken c → IsIdle c → ⊥
broken_not_idle c broken idle = elim broken
    [ inl is ↦ let no = sym is ∙ idle in cc | inr is ↦ let no = sym is ∙ idle in cc ]

pub open_not_idle : (c : PushClient) → IsOpen c → IsIdle c → ⊥
open_not_idle c waits idle = let no = sym waits.0 ∙ idle in cc
