-- What the program prints, and the status it ends with.
use Rattle.std.specs.Prelude.{◌≡◌, ◌⊎◌, ◌<◌, ◌≤◌, ℕ, ◌+◌, List, ◌++◌, true, false, length, take}
use Rattle.std.specs.Prelude.{codes, decimal, Some, Err}
use Rattle.pgw_types.specs.Counts.{Rose}
use Rattle.pgw_link.specs.Stream.{SourceTape, SinkTape}
use Rattle.pgw_backend.specs.declared.client_error.PgWireClientError.TheVariants as client
use Rattle.pgw_session.specs.Events.{Event}
use Rattle.pgw_prog_script.specs.declared.script.Script.{Script}
use Rattle.pgw_prog_script.specs.declared.pair_script.PairScript.{PairScript}
use Rattle.pgw_prog_script.specs.declared.relay_script.RelayScript.{RelayScript}
use Rattle.pgw_prog_script.specs.declared.pool_script.PoolScript.{PoolScript}
use Rattle.pgw_prog.specs.declared.printed.Printed.{Printed}
use Rattle.pgw_prog.specs.declared.command.Command.{Command}
use Rattle.pgw_prog.specs.declared.command.Command.TheVariants as kind
use Rattle.pgw_prog.specs.declared.command.Connection.{Connection}
use Rattle.pgw_prog.specs.declared.program.ScriptKind.{ScriptKind}
use Rattle.pgw_prog.specs.declared.program.ScriptKind.TheVariants as scripts
use Rattle.pgw_prog.specs.declared.program.Stop.{Stop}
use Rattle.pgw_prog.specs.declared.program.Stop.TheVariants as stop
use Rattle.pgw_prog_script.specs.Form.{Form}
use Rattle.pgw_prog_script.specs.Grammar.{IsScriptIn, IsFaultIn}
use Rattle.pgw_prog_script.specs.Script.{IsScript, session_form}
use Rattle.pgw_prog_script.specs.PairScript.{IsPairScript, pair_form}
use Rattle.pgw_prog_script.specs.RelayScript.{IsRelayScript, relay_form}
use Rattle.pgw_prog_script.specs.PoolScript.{IsPoolScript, pool_form}
use Rattle.pgw_prog.specs.declared.command.NewSecret.{NewSecret}
use Rattle.pgw_prog.specs.declared.passfile.Asked.{Asked}
use Rattle.pgw_prog.specs.Command.{reads_source}
use Rattle.pgw_prog.specs.Connected.{DialSpan, PrintsConnection, LeavesDialer, CanConnect, PrintsReport}
use Rattle.pgw_prog.specs.Generated.{PrintsGen, SaysGen}
use Rattle.pgw_prog.specs.Held.{Says, Holds, CanComplete, FailsNear, completed_text}
use Rattle.pgw_prog.specs.Pair.{PrintsPair, PrintsPairText}
use Rattle.pgw_prog.specs.Passfile.{AnswersPassfile, PrintsFound}
use Rattle.pgw_prog.specs.Relay.{PrintsRelay, PrintsRelayText}
use Rattle.pgw_prog.specs.Pool.{PrintsPool, PrintsPoolText}
use Rattle.pgw_prog.specs.Secret.{SaysSecret, PrintsSecret}
use Rattle.pgw_prog_sessions.specs.Pieces.{line_end}
use Rattle.pgw_prog_sessions.specs.SessionText.{error_line, session_text}
use Rattle.pgw_prog.specs.Transfer.{SourceSpan, SinkSpan, TookWhole, TookFront, TookTooMany}

-- the line with this number is the first outside the grammar
abbrev pub SaysLine : ℕ → Printed → Type 0
SaysLine n p = Says p (codes "line " ++ decimal n ++ line_end) 2

-- a text in the grammar gives what is printed of its script, and another the number of its first line outside the grammar
abbrev pub AnswersText : {L P S : Type 0} → Form L P S → (S → Printed → Type 0) → List ℕ → Printed
    → Type 0
AnswersText {S = S} form prints text p =
    ((script : S) × IsScriptIn form text script × prints script p)
    ⊎ ((n : ℕ) × IsFaultIn form text n × SaysLine n p)

-- what a text gives, read as a script of this kind: its session, its login, what its proxy passes on, or what its pool's
-- calls give
abbrev pub ScriptPrints : ScriptKind → List ℕ → Printed → Type 0
ScriptPrints scripts.Session text p = AnswersText session_form Holds text p
ScriptPrints scripts.Pair text p = AnswersText pair_form PrintsPair text p
ScriptPrints scripts.Relay text p = AnswersText relay_form PrintsRelay text p
ScriptPrints scripts.Pool text p = AnswersText pool_form PrintsPool text p

-- of a source that gave a whole text, what the text gives; a script has at most 16777216 bytes
abbrev pub AnswersScript : ScriptKind → SourceSpan → Printed → Type 0
AnswersScript kind source p =
    (TookTooMany source.old source.new × Says p (codes "script too long\n") 2)
    ⊎ ((text : List ℕ) × TookWhole source.old source.new text × ScriptPrints kind text p)

-- what a command prints: of a script of any kind, and of a file of passwords, by the bytes that were read for it; help
-- and version are fixed texts; a session with a server is told by `Connects`, `gen` prints what it made, and a secret is that
-- of a password and of words that were drawn
abbrev pub PrintsCommand : List ℕ → List ℕ → List ℕ → List ℕ → SourceSpan → DialSpan → Command
    → Printed
    → Type 0
PrintsCommand help version nonce words source dialer kind.Help p = Says p help 0
PrintsCommand help version nonce words source dialer kind.Version p = Says p version 0
PrintsCommand help version nonce words source dialer kind.Script p =
    AnswersScript scripts.Session source p
PrintsCommand help version nonce words source dialer kind.Pair p =
    AnswersScript scripts.Pair source p
PrintsCommand help version nonce words source dialer kind.Relay p =
    AnswersScript scripts.Relay source p
PrintsCommand help version nonce words source dialer kind.Pool p =
    AnswersScript scripts.Pool source p
PrintsCommand help version nonce words source dialer (kind.Connect asked) p =
    PrintsConnection nonce dialer asked p
PrintsCommand help version nonce words source dialer (kind.Gen rows start) p =
    SaysGen rows start p
PrintsCommand help version nonce words source dialer (kind.Secret asked) p =
    SaysSecret asked.password asked.count words p
PrintsCommand help version nonce words source dialer (kind.Passfile asked) p =
    AnswersPassfile asked source p
PrintsCommand help version nonce words source dialer kind.Usage p = Says p (codes "usage\n") 2

-- the whole text of the answer behind what was written before, and its status
pub record PrintsAnswer (told : Printed → Type 0) (old new : SinkTape) (status : ℕ) : Type 0 where
  pub printed : Printed
  pub answers : told printed
  pub wrote : new.wrote ≡ old.wrote ++ printed.text.items
  pub ends : status ≡ printed.status

-- a front of the text of the answer behind what was written before
pub record PrintsFront (told : Printed → Type 0) (old new : SinkTape) : Type 0 where
  pub printed : Printed
  pub answers : told printed
  pub count : ℕ
  pub count_in : count ≤ length printed.text.items
  pub wrote : new.wrote ≡ old.wrote ++ take count printed.text.items

-- the text is a script that completes its session
pub record Completing (text : List ℕ) (script : Script) (segments : List (List Event)) : Type 0
  where
    pub is_script : IsScript text script
    pub can : CanComplete script segments

-- memory ran out, or the status is 0 and the whole text of the completed session is written
abbrev pub PrintsWhole : (text : List ℕ) (script : Script) (segments : List (List Event))
    → Completing text script segments → List ℕ → List ℕ → ℕ → Type 0
PrintsWhole text script segments c before now status =
    (status ≡ 4) ⊎ ((status ≡ 0) × (now ≡ before ++ completed_text script segments c.can))

-- the text that was read is a script that lists a read to fail near to the server's bytes, or a write near to these sent
abbrev pub ListsFailure : SourceTape → SourceTape → List ℕ → Type 0
ListsFailure old new sent =
    (text : List ℕ) × TookWhole old new text × (script : Script) × IsScript text script
    × FailsNear script sent

-- bytes were written, with at most one write more than bytes
pub record AppendsToSink (old new : SinkTape) : Type 0 where
  pub sent : List ℕ
  pub wrote : new.wrote ≡ old.wrote ++ sent
  pub writes : new.writes ≤ old.writes + length sent + 1

-- the count of the source's faults rose where it failed, which was before its end, and stayed where memory ran out
abbrev pub CountsStop : Stop → SourceSpan → Type 0
CountsStop stop.Source source =
    Rose source.before source.now × (source.new.ended ≡ source.old.ended)
CountsStop stop.OutOfMemory source = source.now ≡ source.before

-- All that is promised of a run of the program: the texts of its help and its version, the nonce of a login and the words of
-- a salt, the command, what the source, the sink and the dialer told before and behind it, and the status that it ends with.
pub record ProgramRan (help version nonce words : List ℕ) (command : Command)
    (source : SourceSpan) (sink : SinkSpan) (dialer : DialSpan) (status : ℕ) : Type 0 where
  pub status_in : status ≤ 4
  -- At 0, 1 and 2 the whole text of the answer is written, and the status is the answer's.
  pub prints : status ≤ 2
      → PrintsAnswer (PrintsCommand help version nonce words source dialer command) sink.old
      sink.new status
  -- 3 comes only where a read of the source failed, and then nothing is written, or where a write failed: what is written
  -- then is a front of the text.
  pub fault : status ≡ 3 →
      ((reads_source command ≡ true) × Rose source.before source.now × sink.same)
      ⊎ (Rose sink.before sink.now × PrintsFront
      (PrintsCommand help version nonce words source dialer command) sink.old sink.new)
  -- It comes wherever one failed.
  pub source_fault : source.before < source.now → (status ≡ 3) × sink.same
  pub sink_fault : sink.before < sink.now → status ≡ 3
  -- At 4 memory ran out, and nothing is written.
  pub silent : status ≡ 4 → sink.same
  -- A script that was read whole, that lists no call to fail, and whose server's bytes complete its session, is printed
  -- whole.
  pub completes : (Rose sink.before sink.now → ⊥) → command ≡ kind.Script
      → (text : List ℕ) → TookWhole source.old source.new text
      → (script : Script) (segments : List (List Event)) (c : Completing text script segments)
      → PrintsWhole text script segments c sink.old.wrote sink.new.wrote status
  -- IoError is printed only of a script that lists a read at most one more than the server's bytes, or a write at most one
  -- more than the bytes sent. That the read is near to the bytes read is told by `prints`, of the session printed.
  pub io : command ≡ kind.Script → status ≡ 1 → (sent : List ℕ)
      → sink.new.wrote ≡ sink.old.wrote ++ session_text sent (Err client.IoError)
      → ListsFailure source.old source.new sent
  -- At most one read more than bytes read, and one write more than bytes written. No command reads but for a script or a
  -- file of passwords.
  pub reads : TookFront source
  pub writes : AppendsToSink sink.old sink.new
  pub unread : reads_source command ≡ false → source.same
  -- Whatever the status: at most one dial is made, to the address of the connection text, over its link the session is held
  -- and no more, and the link is closed; no other command and no refused text touches the dialer.
  pub dials : dialer.before ≤ dialer.now
  pub leaves : LeavesDialer nonce command dialer
  -- A session with a server, whose bytes are known to come and complete it, is reported whole.
  pub connects : dialer.foretells → (Rose dialer.before dialer.now → ⊥)
      → (Rose sink.before sink.now → ⊥)
      → (asked : Connection) → command ≡ kind.Connect asked → (offer : List ℕ)
      → dialer.offer ≡ Some offer
      → (segments : List (List Event)) (can : CanConnect asked nonce offer segments)
      → PrintsReport asked nonce offer segments can sink.old.wrote sink.new.wrote status
  -- Of a session with a server IoError is printed only where the dialer's count rose.
  pub connect_io : (asked : Connection) → command ≡ kind.Connect asked → status ≡ 1
      → sink.new.wrote ≡ sink.old.wrote ++ error_line client.IoError
      → Rose dialer.before dialer.now
  -- Of a session of any size the number of its rows is printed, the length of its stream, and the digest of its rows.
  pub generates : (Rose sink.before sink.now → ⊥) → (rows start : ℕ)
      → command ≡ kind.Gen rows start
      → PrintsGen rows start sink.old.wrote sink.new.wrote status
  -- Of a pair script that was read whole, where both ends are behind its events is printed.
  pub pairs : (Rose sink.before sink.now → ⊥) → command ≡ kind.Pair
      → (text : List ℕ) → TookWhole source.old source.new text
      → (script : PairScript) → IsPairScript text script
      → PrintsPairText script sink.old.wrote sink.new.wrote status
  -- Of a relay script that was read whole, what its proxy passes on and records is printed.
  pub relays : (Rose sink.before sink.now → ⊥) → command ≡ kind.Relay
      → (text : List ℕ) → TookWhole source.old source.new text
      → (script : RelayScript) → IsRelayScript text script
      → PrintsRelayText script sink.old.wrote sink.new.wrote status
  -- Of a pool script that was read whole, what the calls of its pool give is printed, or why no pool was started, or which
  -- line names a lease that is not out.
  pub pools : (Rose sink.before sink.now → ⊥) → command ≡ kind.Pool
      → (text : List ℕ) → TookWhole source.old source.new text
      → (script : PoolScript) → IsPoolScript text script
      → PrintsPoolText script sink.old.wrote sink.new.wrote status
  -- Of a password and a count the secret is printed, with the first words as its salt.
  pub secrets : (Rose sink.before sink.now → ⊥) → (asked : NewSecret)
      → command ≡ kind.Secret asked
      → PrintsSecret asked.password asked.count words sink.old.wrote sink.new.wrote status
  -- Of a file of passwords that was read whole, the password of the first entry that matches is printed, or none.
  pub finds : (Rose sink.before sink.now → ⊥) → (asked : Asked) → command ≡ kind.Passfile asked
      → (file : List ℕ) → TookWhole source.old source.new file
      → PrintsFound asked file sink.old.wrote sink.new.wrote status
