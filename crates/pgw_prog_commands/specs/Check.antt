-- What the command `check` does, and the status it ends with.
use Rattle.std.specs.Prelude.{◌≡◌, ℕ, List, [], ◌++◌, take, unwrap_or, false, Result, Ok, Err}
use Rattle.pgw_types.specs.Counts.{Rose}
use Rattle.pgw_backend.specs.declared.client_error.PgWireClientError.{PgWireClientError as ClientError}
use Rattle.pgw_config.specs.declared.config.Config.{Config}
use Rattle.pgw_config.specs.Address.{address_of}
use Rattle.pgw_client_calls.specs.State.{ClientState}
use Rattle.pgw_client_calls.specs.Closing.{Closed}
use Rattle.pgw_prog_commands.specs.declared.notes.LoginNotes.{LoginNotes}
use Rattle.pgw_prog_commands.specs.declared.places.Place.{Place}
use Rattle.pgw_prog_commands.specs.declared.places.NoSession.{NoSession}
use Rattle.pgw_prog_commands.specs.declared.places.NoSession.TheVariants as why
use Rattle.pgw_prog_commands.specs.Places.{TriesAll}
use Rattle.pgw_prog_commands.specs.Telling.{Telling}
use Rattle.pgw_prog_commands.specs.declared.report.CheckReport.{CheckReport}
use Rattle.pgw_prog_commands.specs.Report.{report_text}

-- the status where no client was let in
abbrev pub unchecked_status : NoSession → ℕ
unchecked_status why.Refused = 1
unchecked_status why.Memory = 4

-- the user and the database that a configuration asks for: the server takes the user's name for
-- that of the database where none is sent
abbrev pub named_user : Config → List ℕ
named_user config = unwrap_or config.user []

abbrev pub named_database : Config → List ℕ
named_database config = unwrap_or config.dbname (named_user config)

-- A text is that of a report of what a client knows and of what was noted of its login.
pub record TellsCheckReport {X : Type 0} (notes : LoginNotes) (c : ClientState X) (text : List ℕ)
    : Type 0 where
  pub report : CheckReport
  pub server : address_of (c.known).config ≡ Ok (report.server).now
  pub login : report.login ≡ notes.kind
  pub proved : report.proved ≡ notes.proved
  pub version : report.version ≡ (c.known).protocol_version
  pub user : (report.user).now ≡ named_user (c.known).config
  pub database : (report.database).now ≡ named_database (c.known).config
  pub process_id : report.process_id ≡ (c.known).process_id
  pub parameters : (report.parameters).now ≡ (c.known).parameters
  pub text_is : text ≡ report_text report

-- A client was let in, and could be used; it took leave by Terminate, and its link was closed.
pub record Visited {Y X : Type 0} (t : Telling Y X) (places : List Place) (old new : Y)
    (c : ClientState X) : Type 0 where
  pub mid : Y
  pub let_in : TriesAll t places old mid (Ok c)
  pub usable : c.broken ≡ false
  pub result : Result (Unit {0}) ClientError
  pub closed : Closed false (t.tape c.link) (t.faults c.link) (t.dials mid) (t.dials new)
      (t.failed mid) (t.failed new) result

-- A text was printed whole; or a front of it, where a write failed.
pub data PrintsText (text wrote printed : List ℕ) (before now : ℕ) : ℕ → Type 0 where
  whole : printed ≡ wrote ++ text → now ≡ before → PrintsText text wrote printed before now 0
  front : (count : ℕ) → printed ≡ wrote ++ take count text → Rose before now
      → PrintsText text wrote printed before now 3

-- A client was let in at the first place that lets one in, and its report was printed; or memory
-- was wanting for it; or none was let in; and else nothing was printed.
pub data IsCheckRun {Y X : Type 0} (t : Telling Y X) (places : List Place) (notes : LoginNotes)
    (old new : Y) (wrote printed : List ℕ) (before now : ℕ) : ℕ → Type 0 where
  told : (c : ClientState X) (text : List ℕ) (status : ℕ) → Visited t places old new c
      → TellsCheckReport notes c text → PrintsText text wrote printed before now status
      → IsCheckRun t places notes old new wrote printed before now status
  starved : (c : ClientState X) → Visited t places old new c → printed ≡ wrote → now ≡ before
      → IsCheckRun t places notes old new wrote printed before now 4
  refused : (why : NoSession) → TriesAll {X = X} t places old new (Err why) → printed ≡ wrote
      → now ≡ before
      → IsCheckRun t places notes old new wrote printed before now (unchecked_status why)
