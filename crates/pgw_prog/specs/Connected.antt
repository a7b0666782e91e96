-- The session with the server that a connection text names.
use Rattle.std.specs.Prelude.{◌≡◌, ◌≢◌, ◌⊎◌, ℕ, List, [], ◌∷◌, ◌++◌, true, Option, Some, None, Result, Ok, Err, IsErrOf}
use Rattle.pgw_types.specs.Counts.{Rose}
use Rattle.pgw_link.specs.Tape.{Tape, new_tape}
use Rattle.pgw_link.specs.Dials.{DialTape, NotDialled, CountsClose}
use Rattle.pgw_types.specs.declared.address.Address.{Address}
use Rattle.pgw_types.specs.declared.config_error.ConfigError.{ConfigError}
use Rattle.pgw_types.specs.declared.config_error.ConfigError.TheVariants as config_error
use Rattle.pgw_backend.specs.ClientError.{of_config}
use Rattle.pgw_backend.specs.declared.client_error.PgWireClientError.{PgWireClientError}
use Rattle.pgw_backend.specs.declared.client_error.PgWireClientError.TheVariants as client
use Rattle.pgw_config.specs.declared.config.Config.{Config}
use Rattle.pgw_config.specs.Address.{address_of}
use Rattle.pgw_config.specs.Parse.{HasOutcome}
use Rattle.pgw_session.specs.declared.types.SessionReport.{SessionReport}
use Rattle.pgw_session.specs.Demands.{refused_config}
use Rattle.pgw_session.specs.Events.{Event}
use Rattle.pgw_session.specs.Input.{Input, input_with}
use Rattle.pgw_session.specs.Transcript.{Completes, report_of}
use Rattle.pgw_prog.specs.declared.command.Command.{Command}
use Rattle.pgw_prog.specs.declared.command.Command.TheVariants as command
use Rattle.pgw_prog.specs.declared.command.Connection.{Connection}
use Rattle.pgw_prog.specs.declared.printed.Printed.{Printed}
use Rattle.pgw_prog.specs.Held.{Says, exit_status}
use Rattle.pgw_client.specs.OverLink.{OverLink}
use Rattle.pgw_prog_sessions.specs.SessionText.{report_lines, error_line, result_text}

-- the session that is asked for, with this configuration
abbrev pub input_for : Connection → List ℕ → Config → Input
input_for asked nonce config = input_with config asked.requests nonce

-- ---- the dialer

-- the connection text is a configuration, which leads to this address
abbrev pub TextLeadsTo : Connection → Config → Address → Type 0
TextLeadsTo asked config address =
    HasOutcome asked.text (Ok config) × (address_of config ≡ Ok address)

-- the bytes that the next of these links has to come
abbrev pub next_offer : Option (List (List ℕ)) → Option (List ℕ)
next_offer None = None
next_offer (Some []) = None
next_offer (Some (bytes ∷ more)) = Some bytes

-- What a dialer told before a command and behind it: its history, the bytes that its next link had to come where they are
-- known, which is where `foretells` holds, how often it had failed. `same`: it is as it was.
pub record DialSpan : Type 1 where
  pub old : DialTape
  pub new : DialTape
  pub foretells : Type 0
  pub offer : Option (List ℕ)
  pub before : ℕ
  pub now : ℕ
  pub same : Type 0

abbrev pub dial_span : {D : Type 0} → (D → DialTape) → Type 0 → (D → Option (List (List ℕ))) →
    (D → ℕ) → D → D → DialSpan
dial_span tape foretells offers faults old new =
    record {
      old = tape old;
      new = tape new;
      foretells = foretells;
      offer = next_offer (offers old);
      before = faults old;
      now = faults new;
      same = new ≡ old;
    }

-- one link was dialled, and closed, when it told this
pub record DialsAndShuts (to : Address) (old new : DialTape) (after : Tape) : Type 0 where
  pub dialled : new.dialled ≡ old.dialled ++ (to, true) ∷ []
  pub shut : new.shut ≡ old.shut ++ after ∷ []

-- ---- the answer

-- why there is no link, which is the answer: the dial failed, or memory was wanting
abbrev pub NoLinkFor : DialSpan → Result SessionReport PgWireClientError → Type 0
NoLinkFor dialer outcome =
    ((outcome ≡ Err client.IoError) × Rose dialer.before dialer.now)
    ⊎ ((outcome ≡ Err client.OutOfMemory) × (dialer.now ≡ dialer.before))

-- the dial gave no link
pub record FoundNoLink (to : Address) (dialer : DialSpan)
    (outcome : Result SessionReport PgWireClientError) : Type 0 where
  pub why : NoLinkFor dialer outcome
  pub tape : NotDialled to dialer.old dialer.new

-- A session was held over a new link of the dialer, which was closed: what the link told then, and how often it had failed.
-- Where a call of it failed, the dialer's count rose.
pub record HoldsDialerSession (input : Input) (limit : ℕ) (to : Address) (dialer : DialSpan)
    (outcome : Result SessionReport PgWireClientError) : Type 0 where
  pub after : Tape
  pub once : DialsAndShuts to dialer.old dialer.new after
  pub faults : ℕ
  pub counts : CountsClose dialer.before dialer.now faults
  pub was : Option (List ℕ)
  pub offered : dialer.foretells → was ≡ dialer.offer
  pub is : Option (List ℕ)
  pub over : OverLink input limit dialer.foretells
      (record { old = new_tape; new = after; was = was; is = is; before = 0; now = faults })
      outcome

-- one of the two
abbrev pub IsDialOutcome : Input → ℕ → Address → DialSpan → Result SessionReport PgWireClientError
    → Type 0
IsDialOutcome input limit to dialer outcome =
    FoundNoLink to dialer outcome ⊎ HoldsDialerSession input limit to dialer outcome

-- ---- the dialer, whatever is printed

-- it was used once, for the session with this configuration: the dial gave no link, or one over which that was held
abbrev pub UsedOnce : List ℕ → Connection → Config → Address → DialSpan → Type 0
UsedOnce nonce asked config to dialer =
    (outcome : Result SessionReport PgWireClientError)
    × IsDialOutcome (input_for asked nonce config) asked.limit to dialer outcome

-- it is as it was, or it was used once, at the address of the configuration
abbrev pub LeavesFor : List ℕ → Connection → Config → DialSpan → Type 0
LeavesFor nonce asked config dialer =
    dialer.same
    ⊎ ((to : Address) × (address_of config ≡ Ok to) × UsedOnce nonce asked config to dialer)

-- it is so for the configuration of the connection text; no other command touches it
abbrev pub LeavesDialer : List ℕ → Command → DialSpan → Type 0
LeavesDialer nonce (command.Connect asked) dialer =
    dialer.same
    ⊎ ((config : Config) × (to : Address) × TextLeadsTo asked config to
    × UsedOnce nonce asked config to dialer)
LeavesDialer nonce _ dialer = dialer.same

-- ---- what is printed

-- a refusal, which is not want of memory
abbrev pub PrintsRefusal : ConfigError → Printed → Type 0
PrintsRefusal e p = (e ≢ config_error.OutOfMemory) × Says p (error_line (of_config e)) 1

-- the answer, for which memory sufficed
pub record PrintsTalk (input : Input) (limit : ℕ) (to : Address) (dialer : DialSpan) (p : Printed)
    : Type 0 where
  pub outcome : Result SessionReport PgWireClientError
  pub talked : IsDialOutcome input limit to dialer outcome
  pub memory : IsErrOf outcome client.OutOfMemory → ⊥
  pub says : Says p (result_text outcome) (exit_status outcome)

-- what is printed at the address, or of the refusal that there is none
abbrev pub PrintsAtAddress : List ℕ → DialSpan → Connection → Config → Result Address ConfigError
    → Printed → Type 0
PrintsAtAddress nonce dialer asked config (Ok address) p =
    PrintsTalk (input_for asked nonce config) asked.limit address dialer p
PrintsAtAddress nonce dialer asked config (Err e) p = PrintsRefusal e p

-- what is printed where the connection text has this outcome
abbrev pub PrintsBy : List ℕ → DialSpan → Connection → Result Config ConfigError → Printed
    → Type 0
PrintsBy nonce dialer asked (Ok config) p =
    PrintsAtAddress nonce dialer asked config (address_of config) p
PrintsBy nonce dialer asked (Err e) p = PrintsRefusal e p

-- what is printed is what the one outcome of the connection text gives
pub record PrintsConnection (nonce : List ℕ) (dialer : DialSpan) (asked : Connection)
    (p : Printed) : Type 0 where
  pub outcome : Result Config ConfigError
  pub has : HasOutcome asked.text outcome
  pub only : (other : Result Config ConfigError) → HasOutcome asked.text other → other ≡ outcome
  pub prints : PrintsBy nonce dialer asked outcome p

-- ---- completeness

-- the text is a configuration that demands nothing that is refused and leads to an address, and the bytes that are
-- offered complete a transcript with these segments within the limit
pub record CanConnect (asked : Connection) (nonce offer : List ℕ) (segments : List (List Event)) :
    Type 0 where
  pub config : Config
  pub address : Address
  pub leads : TextLeadsTo asked config address
  pub clear : refused_config config ≡ None
  pub completes : Completes (input_for asked nonce config) asked.limit offer segments

-- its report is printed, or memory ran out
abbrev pub PrintsReport : (asked : Connection) (nonce offer : List ℕ)
    (segments : List (List Event))
    → CanConnect asked nonce offer segments → List ℕ → List ℕ → ℕ → Type 0
PrintsReport asked nonce offer segments can before now status =
    (status ≡ 4)
    ⊎ ((status ≡ 0) × (now ≡ before ++ report_lines
    (report_of (input_for asked nonce can.config) segments)))
