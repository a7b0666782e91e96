-- A client that was let in can be used.
use Rattle.std.proofs.Common.{◌≡◌, ◌∙◌, ℕ, List, [], ◌++◌, Bool, false, Option, Some, None, Result, Ok, Err, refl, sym}
use Rattle.std.proofs.Common.{ap, subst}
use Rattle.pgw_backend.specs.declared.client_error.PgWireClientError.{PgWireClientError as ClientError}
use Rattle.pgw_backend.specs.declared.client_error.PgWireClientError.TheVariants as client
use Rattle.pgw_session.specs.declared.types.Response.{Response}
use Rattle.pgw_client_calls.specs.State.{ClientState}
use Rattle.pgw_prog_commands.specs.declared.places.Place.{Place}
use Rattle.pgw_prog_commands.specs.declared.places.NoSession.{NoSession}
use Rattle.pgw_prog_commands.specs.declared.targets.Fit.TheVariants as fit
use Rattle.pgw_prog_commands.specs.Targets.{wanted_of, fit_of}
use Rattle.pgw_prog_commands.specs.Fitting.{AsksPlace}
use Rattle.pgw_prog_commands.specs.Telling.{Telling}
use Rattle.pgw_prog_commands.specs.Places.{IsClosed, PlaceLetsIn, Looks, TriesAll, no_more, next, stopped, let_in}
use Rattle.pgw_prog_commands.specs.declared.notes.LoginNotes.{LoginNotes}
use Rattle.pgw_config.specs.declared.config.Config.{Config}
use Rattle.pgw_config.specs.Address.{address_of}
use Rattle.pgw_prog_commands.specs.declared.report.CheckReport.{CheckReport}
use Rattle.pgw_prog_commands.specs.Report.{report_text}
use Rattle.pgw_prog_commands.specs.Check.{TellsCheckReport, Visited, named_user, named_database}

module _ {Y X : Type 0} (t : Telling Y X) where
  -- a server will do only behind an answer
  answered : (read_only : Bool) (before after : ClientState X) (answer : Result (List Response) ClientError)
      → before.broken ≡ false → AsksPlace t.knows t.left t.tape t.faults before after answer
      → fit.Fits ≡ fit_of read_only answer → after.broken ≡ false
  answered read_only before after (Ok responses) fine asks is = asks.usable fine
  answered read_only before after (Err client.OutOfMemory) fine asks is = absurd (cc is)
  answered read_only before after (Err e) fine asks is = absurd (cc is)

  looked : (wanted : Option Bool) (before after : ClientState X) → before.broken ≡ false
      → Looks t wanted before after fit.Fits → after.broken ≡ false
  looked None before after fine l = ap (λ (c : ClientState X). c.broken) l.0 ∙ fine
  looked (Some read_only) before after fine l = answered read_only before after l.0 fine l.1 l.2

  one_usable : (place : Place) (old new : Y) (c : ClientState X) → PlaceLetsIn t place old new c
      → c.broken ≡ false
  one_usable place old new c l =
      looked (wanted_of place.config.target_session_attrs) l.first c l.login.usable l.keeps.1

  usable : (places : List Place) (old new : Y) (c : ClientState X) (result : Result (ClientState X) NoSession)
      → result ≡ Ok c → TriesAll t places old new result → c.broken ≡ false
  usable places old new c result is (no_more d) = absurd (cc is)
  usable places old new c result is (next place more first mid last r p rest) =
      usable more mid new c result is rest
  usable places old new c result is (stopped place more first last why p) = absurd (cc is)
  usable places old new c result is (let_in place more first last d l) =
      let same : d ≡ c = cc is in
      rw (sym same) (one_usable place old new d l)

  pub visited : (places : List Place) (old mid new : Y) (c : ClientState X) → TriesAll t places old mid (Ok c)
      → IsClosed t c mid new → Visited t places old new c
  visited places old mid new c tried closed =
      let fine = usable places old mid c (Ok c) refl tried in
      record {
        mid = mid;
        let_in = tried;
        usable = fine;
        result = closed.0;
        closed = rw (sym fine) closed.1;
      }

-- the text of a report, by its parts
pub tells : {X : Type 0} (notes : LoginNotes) (c : ClientState X) (config : Config) (r : CheckReport)
    (start text :
    List ℕ)
    → text ≡ start ++ report_text r → start ≡ [] → config ≡ (c.known).config
    → address_of config ≡ Ok (r.server).now → r.login ≡ notes.kind → r.proved ≡ notes.proved
    → r.version ≡ (c.known).protocol_version → (r.user).now ≡ named_user config
    → (r.database).now ≡ named_database config → r.process_id ≡ (c.known).process_id
    → (r.parameters).now ≡ (c.known).parameters → TellsCheckReport notes c text
tells notes c config r start text is none same leads login proved version user database process parameters =
    record {
      report = r;
      server = subst (λ (k : Config). address_of k ≡ Ok (r.server).now) same leads;
      login = login;
      proved = proved;
      version = version;
      user = user ∙ ap named_user same;
      database = database ∙ ap named_database same;
      process_id = process;
      parameters = parameters;
      text_is = is ∙ ap (λ (t : List ℕ). t ++ report_text r) none;
    }
