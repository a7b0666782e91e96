-- The contract of a session over a link.
use Rattle.std.specs.Prelude.{◌≡◌, ◌⊎◌, ◌<◌, ℕ, List, codes, Option, Some, None, Result, Err, IfOk, IfSome, IsErrOf}
use Rattle.pgw_types.specs.Counts.{Rose}
use Rattle.pgw_link.specs.Tape.{Tape, MovedBy}
use Rattle.pgw_link.specs.Foresight.{TapeEnds, Foreseen}
use Rattle.pgw_backend.specs.declared.client_error.PgWireClientError.{PgWireClientError}
use Rattle.pgw_backend.specs.declared.client_error.PgWireClientError.TheVariants as client
use Rattle.pgw_session.specs.declared.types.SessionReport.{SessionReport}
use Rattle.pgw_session.specs.Demands.{refused_config}
use Rattle.pgw_session.specs.Events.{Event}
use Rattle.pgw_session.specs.Input.{Input}
use Rattle.pgw_session.specs.Transcript.{Completed, Completes, report_of}
use Rattle.pgw_dialogue.specs.Demands.{RefusesKey}
use Rattle.pgw_client.specs.Session.{IoHasCause, Causes, AnswersReport, KeepsPace, TellsSession, InLockstep, LeavesFlushed}
use Rattle.pgw_client.specs.SessionSteps.{LinkSession}

-- What a link told before a session and behind it: its history, the bytes to come where they are known, how often it had
-- failed.
pub record LinkSpan : Type 0 where
  pub old : Tape
  pub new : Tape
  pub was : Option (List ℕ)
  pub is : Option (List ℕ)
  pub before : ℕ
  pub now : ℕ

abbrev pub link_span : {L : Type 0} → (L → Tape) → (L → Option (List ℕ)) → (L → ℕ) → L → L
    → LinkSpan
link_span tape left faults old new =
    record {
      old = tape old;
      new = tape new;
      was = left old;
      is = left new;
      before = faults old;
      now = faults new;
    }

-- All that is promised of a session with this input and limit over a link, with its answer: the contract of `run_session`,
-- which whoever holds a session cites. What is to come on the link is known where `foretells` holds.
pub record OverLink (input : Input) (limit : ℕ) (foretells : Type 0) (link : LinkSpan)
    (outcome : Result SessionReport PgWireClientError) : Type 0 where
  -- A configuration that demands an encrypted connection, or else a bound login without a certificate's hash, is refused
  -- by that key, or memory is wanting: nothing was read or written.
  pub refused : IfSome (refused_config input.config)
      (λ key. RefusesKey key outcome × (link.new ≡ link.old))
  -- No other is refused so, but for a user name that has no prepared form.
  pub demands : (key : List ℕ) → outcome ≡ Err (client.InvalidConfig key)
      → (refused_config input.config ≡ Some key) ⊎ (key ≡ codes "user")
  -- IoError comes only where a call of the link failed,
  pub cause : IoHasCause link.before link.now outcome
  -- and there no other answer does.
  pub failing : link.before < link.now → IsErrOf outcome client.IoError
  -- A report is that of a completed session: a transcript for this input, whose bytes were read and written.
  pub completed : IfOk outcome
      (λ report. MovedBy link.old link.new (λ taken sent. Completed input taken sent report))
  -- Each error has its cause, and no other comes.
  pub causes : Causes input limit link.old link.new outcome
  -- Where nothing is demanded that is refused, whatever the answer: the bytes taken are those of a legal prefix. What was
  -- written are the encodings of the messages sent in it, all of them, or a front of them after IoError and want of
  -- memory.
  pub told : refused_config input.config ≡ None
      → MovedBy link.old link.new (TellsSession input outcome)
  -- It is within the limit, in few calls.
  pub paced : MovedBy link.old link.new (KeepsPace limit link.old link.new)
  -- The link's end is answered at most once, behind it nothing is asked for any more. Then, whatever the answer, all that
  -- was written had been flushed, the bytes taken complete no transcript and end within a message, and nothing is due. No
  -- body can know which of its reads the end will answer. So this refuses every read that waits for nothing wanted: one
  -- before a message that is due was written and flushed, and one behind the last ReadyForQuery.
  pub lockstep : InLockstep input link.old link.new
  -- Where nothing is demanded that is refused, what was written was flushed, but after IoError.
  pub flushed : refused_config input.config ≡ None → LeavesFlushed link.old link.new outcome
  -- Where nothing is demanded that is refused, it is a session by the record that laws cite: as that a dialogue which is
  -- given the same bytes puts out the same and answers the same.
  pub session : refused_config input.config ≡ None
      → LinkSession input limit link.old link.new outcome
  -- Of a link that knows what is to come: the bytes taken are its front, and the end is answered behind the last byte.
  pub foreseen : foretells → Foreseen link.was link.is link.old link.new
  pub ends : foretells → TapeEnds link.is link.old link.new
  -- Where nothing is demanded that is refused, the bytes to come are known and complete a transcript within the limit,
  -- and no call of the link failed, its report is the answer.
  pub reports : foretells → refused_config input.config ≡ None → (whole : List ℕ)
      → link.was ≡ Some whole
      → (segments : List (List Event)) → Completes input limit whole segments
      → (Rose link.before link.now → ⊥) → AnswersReport (report_of input segments) outcome
