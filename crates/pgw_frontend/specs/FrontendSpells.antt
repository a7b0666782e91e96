-- Which bytes spell which message of a client, and in which phase they are read.
use Rattle.std.specs.Prelude.{◌≡◌, ℕ, ◌<◌, ◌^◌, List, [], Option, Some, None, true, false}
use Rattle.pgw_types.specs.declared.context.ProtocolVersion.{ProtocolVersion}
use Rattle.pgw_types.specs.declared.context.DecodeContext.{DecodeContext}
use Rattle.pgw_wire.specs.Reading.{name_of}
use Rattle.pgw_wire.specs.Formats.{SpellsTyped, NoBody, SpellsUntyped}
use Rattle.pgw_startup.specs.Startup.{SpellsStartup}
use Rattle.pgw_startup.specs.Password.{SpellsRaw, password_body}
use Rattle.pgw_wire.specs.Keys.{SuitsKey}
use Rattle.pgw_startup.specs.declared.password.PasswordMessageFamily.TheVariants as family
use Rattle.pgw_control.specs.Openings.{SpellsCoded, SpellsCancelRequest}
use Rattle.pgw_query.specs.Rows.{SpellsQuery}
use Rattle.pgw_ext.specs.Rows.{SpellsParse, SpellsBind, SpellsClose, SpellsDescribe, SpellsExecute}
use Rattle.pgw_copy.specs.Rows.{SpellsCopyData, SpellsCopyFail}
use Rattle.pgw_frontend.specs.declared.frontend.SslNegotiationMetaMessage.TheVariants as negotiation
use Rattle.pgw_frontend.specs.declared.frontend.PgWireFrontendMessage.{PgWireFrontendMessage}
use Rattle.pgw_frontend.specs.declared.frontend.PgWireFrontendMessage.TheVariants as frontend
use Rattle.pgw_wire.specs.declared.limits.TheConstants.{LARGE_LIMIT, SMALL_BACKEND_LIMIT, SMALL_LIMIT}

-- these bytes, and no others, spell the message; that no encryption is asked for is spelled by none
unfoldable pub SpellsFrontend : ProtocolVersion → PgWireFrontendMessage → List ℕ → Type 0
SpellsFrontend version (frontend.SslNegotiation (negotiation.PostgresSsl m)) =
    SpellsCoded 80877103
SpellsFrontend version (frontend.SslNegotiation (negotiation.PostgresGss m)) =
    SpellsCoded 80877104
SpellsFrontend version (frontend.SslNegotiation negotiation.None) = λ bytes. bytes ≡ []
SpellsFrontend version (frontend.Startup m) = SpellsUntyped SMALL_LIMIT SpellsStartup m
SpellsFrontend version (frontend.CancelRequest m) =
    SpellsUntyped SMALL_LIMIT (SpellsCancelRequest version) m
SpellsFrontend version (frontend.PasswordMessageFamily m) =
    SpellsTyped 112 SMALL_LIMIT SpellsRaw m
SpellsFrontend version (frontend.PortalSuspended m) = SpellsTyped 115 SMALL_BACKEND_LIMIT NoBody m
SpellsFrontend version (frontend.Query m) = SpellsTyped 81 LARGE_LIMIT SpellsQuery m
SpellsFrontend version (frontend.Parse m) = SpellsTyped 80 LARGE_LIMIT SpellsParse m
SpellsFrontend version (frontend.Bind m) = SpellsTyped 66 LARGE_LIMIT SpellsBind m
SpellsFrontend version (frontend.Close m) = SpellsTyped 67 SMALL_LIMIT SpellsClose m
SpellsFrontend version (frontend.Describe m) = SpellsTyped 68 SMALL_LIMIT SpellsDescribe m
SpellsFrontend version (frontend.Execute m) = SpellsTyped 69 SMALL_LIMIT SpellsExecute m
SpellsFrontend version (frontend.Flush m) = SpellsTyped 72 SMALL_LIMIT NoBody m
SpellsFrontend version (frontend.Sync m) = SpellsTyped 83 SMALL_LIMIT NoBody m
SpellsFrontend version (frontend.Terminate m) = SpellsTyped 88 SMALL_LIMIT NoBody m
SpellsFrontend version (frontend.CopyData m) = SpellsTyped 100 LARGE_LIMIT SpellsCopyData m
SpellsFrontend version (frontend.CopyDone m) = SpellsTyped 99 SMALL_LIMIT NoBody m
SpellsFrontend version (frontend.CopyFail m) = SpellsTyped 102 SMALL_LIMIT SpellsCopyFail m

-- whether the context awaits a first message, or one with a type byte
abbrev pub AwaitsFirst : DecodeContext → Type 0
AwaitsFirst ctx = (ctx.awaiting_frontend_ssl ≡ false) × (ctx.awaiting_frontend_startup ≡ true)

abbrev pub AwaitsTyped : DecodeContext → Type 0
AwaitsTyped ctx = (ctx.awaiting_frontend_ssl ≡ false) × (ctx.awaiting_frontend_startup ≡ false)

-- the phase in which the message is read; a minor version has 16 bits, as every value of the program's has.
-- A PortalSuspended is never read of a client, and that no encryption is asked for has no bytes
abbrev pub AwaitsFrontend : DecodeContext → PgWireFrontendMessage → Type 0
AwaitsFrontend ctx (frontend.SslNegotiation (negotiation.PostgresSsl m)) =
    ctx.awaiting_frontend_ssl ≡ true
AwaitsFrontend ctx (frontend.SslNegotiation (negotiation.PostgresGss m)) =
    ctx.awaiting_frontend_ssl ≡ true
AwaitsFrontend ctx (frontend.SslNegotiation negotiation.None) = ⊥
AwaitsFrontend ctx (frontend.Startup m) = AwaitsFirst ctx × (m.protocol_number_minor < 2 ^ 16)
AwaitsFrontend ctx (frontend.CancelRequest m) = AwaitsFirst ctx
AwaitsFrontend ctx (frontend.PortalSuspended m) = ⊥
AwaitsFrontend ctx m = AwaitsTyped ctx

-- ---- what comes back of a message

-- an empty name comes back as none
abbrev pub name_again : Option (List ℕ) → Option (List ℕ)
name_again None = None
name_again (Some t) = name_of t

-- and what a body is read as cannot be told from its bytes
abbrev pub as_read : PgWireFrontendMessage → PgWireFrontendMessage
as_read (frontend.PasswordMessageFamily m) =
    frontend.PasswordMessageFamily (family.Raw (password_body m))
as_read (frontend.Parse m) =
    frontend.Parse (record { name = name_again m.name; query = m.query; type_oids = m.type_oids })
as_read (frontend.Bind m) = frontend.Bind (record {
  portal_name = name_again m.portal_name;
  statement_name = name_again m.statement_name;
  parameter_format_codes = m.parameter_format_codes;
  parameters = m.parameters;
  result_column_format_codes = m.result_column_format_codes;
})
as_read (frontend.Close m) =
    frontend.Close (record { target_type = m.target_type; name = name_again m.name })
as_read (frontend.Describe m) =
    frontend.Describe (record { target_type = m.target_type; name = name_again m.name })
as_read (frontend.Execute m) =
    frontend.Execute (record { name = name_again m.name; max_rows = m.max_rows })
as_read m = m

-- only a key hangs on the version
abbrev pub SuitsFrontend : ProtocolVersion → PgWireFrontendMessage → Type 0
SuitsFrontend version (frontend.CancelRequest m) = SuitsKey version m.secret_key
SuitsFrontend version m = Unit {0}

-- whether the message begins with a type byte
abbrev pub HasTypeByte : PgWireFrontendMessage → Type 0
HasTypeByte (frontend.SslNegotiation m) = ⊥
HasTypeByte (frontend.Startup m) = ⊥
HasTypeByte (frontend.CancelRequest m) = ⊥
HasTypeByte m = Unit {0}
