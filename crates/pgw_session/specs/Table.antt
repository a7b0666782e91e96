-- The table: what a message does at a stage of the open segment. Not part of the claims of `run_session` on transcripts,
-- whose proofs it carries; those on dialogues rest on it.
use Rattle.std.specs.Prelude.{ℕ, Bool, true, false, List, Option, Some, None}
use Rattle.pgw_startup.specs.declared.authentication.Authentication.TheVariants as authentication
use Rattle.pgw_backend.specs.declared.backend.PgWireBackendMessage.{PgWireBackendMessage as Backend}
use Rattle.pgw_backend.specs.declared.backend.PgWireBackendMessage.TheVariants as backend
use Rattle.pgw_backend.specs.declared.client_error.PgWireClientError.{PgWireClientError as ClientError}
use Rattle.pgw_backend.specs.declared.client_error.PgWireClientError.TheVariants as client
use Rattle.pgw_scram.specs.declared.exchange.ClientLogin.{ClientLogin}
use Rattle.pgw_session.specs.declared.types.Request.{Request}
use Rattle.pgw_session.specs.declared.stage.Kind.{Kind}
use Rattle.pgw_session.specs.declared.stage.Stage.{Stage}
use Rattle.pgw_session.specs.declared.stage.Stage.TheVariants.{Starting, Challenged, Proving, Admitted, Answering, PassingOver}
use Rattle.pgw_session.specs.declared.stage.Next.{Next}
use Rattle.pgw_session.specs.declared.stage.Next.TheVariants.{Goes, Closes, Wrong, Refuses, PassesOver}
use Rattle.pgw_session.specs.Input.{Input}
use Rattle.pgw_session.specs.Logins.{must_bind, cleartext_message, md5_message, scram_login, first_message, final_message, methods_refusal, first_refusal, expected_of, final_refusal}
use Rattle.pgw_session.specs.declared.stage.Role.{Role}
use Rattle.pgw_session.specs.declared.stage.Role.TheVariants.{Taken, Closing, Completing, Failing, Misplaced}
use Rattle.pgw_session.specs.Requests.{kind_of, sync, behind_error, passes_over, role}
use Rattle.pgw_session.specs.Segments.{is_news, is_early, is_ready}

-- news are taken at a stage of the startup segment; else it is by the message
abbrev pub news_or : Bool → Stage → Next → Next
news_or true s next = Goes s None
news_or false s next = next

-- behind a login block, or before it
abbrev pub by_welcome : Backend → Next
by_welcome (backend.ReadyForQuery m) = Closes
by_welcome (backend.ErrorResponse e) = Refuses (client.RemoteError e)
by_welcome m = Wrong

-- it is refused, or goes on
abbrev pub next_unless : Option ClientError → Next → Next
next_unless None next = next
next_unless (Some e) next = Refuses e

-- what lets a client in that is not bound has no place where a login must be
abbrev pub unless_bound : Bool → Next → Next
unless_bound true next = Wrong
unless_bound false next = next

abbrev pub by_login : Input → Backend → Next
by_login input (backend.Authentication authentication.CleartextPassword) =
    unless_bound (must_bind input) (Goes Admitted (Some (cleartext_message input)))
by_login input (backend.Authentication (authentication.MD5Password salt)) =
    unless_bound (must_bind input) (Goes Admitted (Some (md5_message input salt)))
by_login input (backend.Authentication (authentication.SASL methods)) =
    next_unless (methods_refusal input methods)
    (Goes (Challenged (scram_login input methods))
    (Some (first_message (scram_login input methods))))
by_login input (backend.ReadyForQuery m) = unless_bound (must_bind input) Closes
by_login input m = by_welcome m

-- within a SCRAM login
abbrev pub by_first : ClientLogin → Backend → Next
by_first login (backend.Authentication (authentication.SASLContinue first)) =
    next_unless (first_refusal login first)
    (Goes (Proving (expected_of login first)) (Some (final_message login first)))
by_first login (backend.ErrorResponse e) = Refuses (client.RemoteError e)
by_first login m = Wrong

abbrev pub by_final : List ℕ → Backend → Next
by_final expected (backend.Authentication (authentication.SASLFinal final)) =
    next_unless (final_refusal expected final) (Goes Admitted None)
by_final expected (backend.ErrorResponse e) = Refuses (client.RemoteError e)
by_final expected m = Wrong

abbrev pub misplaced : Bool → Next
misplaced true = PassesOver
misplaced false = Wrong

-- the row of a request
abbrev pub by_role : Kind → Role → Next
by_role k (Taken rows) = Goes (Answering k rows) None
by_role k Closing = Closes
by_role k Completing = Goes PassingOver (Some sync)
by_role k Failing = Goes PassingOver (behind_error k)
by_role k Misplaced = misplaced (passes_over k)

abbrev pub by_ready : Bool → Next
by_ready true = Closes
by_ready false = Goes PassingOver None

-- what a message does at a stage
abbrev pub next_after : Input → Stage → Backend → Next
next_after input Starting m = news_or (is_early (must_bind input) m) Starting (by_login input m)
next_after input (Challenged login) m = by_first login m
next_after input (Proving expected) m = by_final expected m
next_after input Admitted m = news_or (is_news m) Admitted (by_welcome m)
next_after input (Answering k rows) m = by_role k (role k rows m)
next_after input PassingOver m = by_ready (is_ready m)

-- the stage behind a request's opening
abbrev pub stage_for : Request → Stage
stage_for q = Answering (kind_of q) false
