-- The session of a script.
use Rattle.std.specs.Prelude.{◌≡◌, ◌≢◌, ◌⊎◌, ◌<◌, ◌≤◌, ◌+◌, ◌*◌, ◌++◌, ◌||◌, nat_lt, ℕ, List, [], length, Some, None, Result, Ok, Err, IsErrOf}
use Rattle.std.specs.List.{Any}
use Rattle.pgw_link.specs.Tape.{Tape, new_tape}
use Rattle.pgw_link.specs.Calls.{is_reached, call_number}
use Rattle.pgw_link.specs.Memory.{Making}
use Rattle.pgw_types.specs.declared.config_error.ConfigError.{ConfigError}
use Rattle.pgw_types.specs.declared.config_error.ConfigError.TheVariants as config_error
use Rattle.pgw_backend.specs.ClientError.{of_config}
use Rattle.pgw_backend.specs.declared.client_error.PgWireClientError.{PgWireClientError}
use Rattle.pgw_backend.specs.declared.client_error.PgWireClientError.TheVariants as client
use Rattle.pgw_config.specs.declared.config.Config.{Config}
use Rattle.pgw_config.specs.Parse.{HasOutcome}
use Rattle.pgw_session.specs.declared.types.SessionReport.{SessionReport}
use Rattle.pgw_session.specs.Demands.{refused_config}
use Rattle.pgw_session.specs.Events.{Event}
use Rattle.pgw_session.specs.Input.{Input, input_with}
use Rattle.pgw_session.specs.Transcript.{Completes, report_of}
use Rattle.pgw_client.specs.OverLink.{LinkSpan, OverLink}
use Rattle.pgw_prog_script.specs.declared.script.Script.{Script}
use Rattle.pgw_prog.specs.declared.printed.Printed.{Printed}
use Rattle.pgw_prog_sessions.specs.SessionText.{session_text}

-- the session that the script asks for, with this configuration
abbrev pub script_input : Script → Config → Input
script_input s config =
    input_with (record config
    { protocol_version = s.protocol_version; certificate_hash = s.certificate_hash })
    s.requests s.nonce

-- the link that the script describes
abbrev pub script_making : Script → Making
script_making s =
    record { server = s.server; cut = s.cut; reads = s.fail_reads; writes = s.fail_writes }

-- a new link in memory, what it tells after some calls, what is to come then, and how many calls failed
abbrev pub memory_span : Making → Tape → List ℕ → ℕ → LinkSpan
memory_span made after left faults =
    record {
      old = new_tape;
      new = after;
      was = Some made.server;
      is = Some left;
      before = 0;
      now
          = faults;
    }

-- one of these numbers is that of a call, counted from 1, and is at most this
abbrev pub NamesCall : List ℕ → ℕ → Type 0
NamesCall numbers most = Any (λ n. (0 < n) × (n ≤ most)) numbers

-- a listed read is at most one more than the bytes read, or a listed write at most one more than the bytes written
abbrev pub IsNear : Making → List ℕ → List ℕ → Type 0
IsNear made taken sent =
    NamesCall made.reads (length taken + 1) ⊎ NamesCall made.writes (length sent + 1)

-- no call moved more bytes than the cut
pub record InCuts (made : Making) (after : Tape) : Type 0 where
  pub reads : length after.took ≤ made.cut * after.reads
  pub writes : length after.wrote ≤ made.cut * after.writes

-- What a session over a new link in memory gives: what the link tells afterwards, what is to come, how many calls failed,
-- the answer.
pub record MemorySession (input : Input) (limit : ℕ) (made : Making) (after : Tape)
    (left : List ℕ)
    (faults : ℕ) (outcome : Result SessionReport PgWireClientError) : Type 0 where
  -- what a session over any link gives
  pub over : OverLink input limit (Unit {0}) (memory_span made after left faults) outcome
  -- the cut holds of each call
  pub cut : InCuts made after
  -- a call failed just where one was made whose number is listed
  pub fails : nat_lt 0 faults
      ≡ (is_reached made.reads (call_number after.reads) || is_reached made.writes
      (call_number after.writes))
  -- so the error of the link comes only where a listed call is near,
  pub io_near : IsErrOf outcome client.IoError → IsNear made after.took after.wrote
  -- and never where none is listed
  pub no_io : made.reads ≡ [] → made.writes ≡ [] → IsErrOf outcome client.IoError → ⊥

abbrev pub exit_status : Result SessionReport PgWireClientError → ℕ
exit_status (Ok report) = 0
exit_status (Err e) = 1

-- what is printed is the text of such a session, for which memory sufficed
pub record PrintsSession (input : Input) (limit : ℕ) (made : Making) (p : Printed) : Type 0 where
  pub after : Tape
  pub left : List ℕ
  pub faults : ℕ
  pub outcome : Result SessionReport PgWireClientError
  pub session : MemorySession input limit made after left faults outcome
  pub memory : IsErrOf outcome client.OutOfMemory → ⊥
  pub text : p.text.items ≡ session_text after.wrote outcome
  pub status : p.status ≡ exit_status outcome

-- this text, and this status
abbrev pub Says : Printed → List ℕ → ℕ → Type 0
Says p text status = (p.text.items ≡ text) × (p.status ≡ status)

-- what is printed where the connection text has this outcome: the text of the session with its configuration, or the
-- refusal, which is not want of memory, and that nothing was sent
abbrev pub PrintsOutcome : Script → Result Config ConfigError → Printed → Type 0
PrintsOutcome s (Ok config) p = PrintsSession (script_input s config) s.limit (script_making s) p
PrintsOutcome s (Err e) p =
    (e ≢ config_error.OutOfMemory) × Says p (session_text [] (Err (of_config e))) 1

-- what is printed is what the one outcome of the script's connection text gives
pub record Holds (s : Script) (p : Printed) : Type 0 where
  pub outcome : Result Config ConfigError
  pub has : HasOutcome s.config outcome
  pub only : (other : Result Config ConfigError) → HasOutcome s.config other → other ≡ outcome
  pub prints : PrintsOutcome s outcome p

-- a script whose connection text is a configuration that demands nothing that is refused, that lists no call to fail,
-- and whose server's bytes complete a transcript with these segments within the limit
pub record CanComplete (s : Script) (segments : List (List Event)) : Type 0 where
  pub config : Config
  pub means : HasOutcome s.config (Ok config)
  pub clear : refused_config (script_input s config).config ≡ None
  pub no_reads : s.fail_reads ≡ []
  pub no_writes : s.fail_writes ≡ []
  pub completes : Completes (script_input s config) s.limit s.server segments

-- what is printed of it: the bytes sent in the transcript, and its report
abbrev pub completed_text : (s : Script) (segments : List (List Event)) → CanComplete s segments
    → List ℕ
completed_text s segments can =
    session_text can.completes.sent (Ok (report_of (script_input s can.config) segments))

-- of the script's link a listed read is at most one more than the server's bytes, or a listed write at most one more than
-- these bytes sent
abbrev pub FailsNear : Script → List ℕ → Type 0
FailsNear s sent = IsNear (script_making s) s.server sent
