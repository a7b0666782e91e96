-- How a login begins (Protocol Flow, "Start-up").
use Rattle.std.specs.Prelude.{◌≡◌, ◌⊎◌, ℕ, pos, ◌==◌, List, [], ◌∷◌, fold, Option, Some, None, Result, Ok, Err, if◌then◌else◌}
use Rattle.std.specs.FinMap as map
use Rattle.pgw_types.specs.declared.error.PgWireError.{PgWireError}
use Rattle.pgw_types.specs.declared.error.PgWireError.TheVariants.{UnsupportedProtocolVersion}
use Rattle.pgw_types.specs.declared.context.ProtocolVersion.{ProtocolVersion}
use Rattle.pgw_types.specs.declared.context.ProtocolVersion.TheVariants.{PROTOCOL3_0, PROTOCOL3_2}
use Rattle.pgw_wire.specs.Pairs.{Held}
use Rattle.pgw_startup.specs.declared.startup.Startup.{Startup}
use Rattle.pgw_backend.specs.declared.backend.PgWireBackendMessage.{PgWireBackendMessage as Message}
use Rattle.pgw_backend.specs.declared.backend.PgWireBackendMessage.TheVariants as backend
use Rattle.pgw_login.specs.Client.{LoginClient, with_version, with_metadata, with_state}
use Rattle.pgw_login.specs.Acts.{Standing, Answer, Then, StartsLogin, LoginRefuses, OrNoMemory, Sets, Sends}
use Rattle.pgw_login.specs.declared.client_info.PgWireConnectionState.TheVariants.{AuthenticationInProgress}

-- 196610 is version 3.2, and there are no options that the server does not know
abbrev pub offer : Message
offer =
    backend.NegotiateProtocolVersion
    (record { newest_minor_protocol = pos 196610; unsupported_options = [] })

-- the version for a minor one of 3, and what the client is told where it is another
abbrev pub by_minor : ℕ → ProtocolVersion × Option Message
by_minor minor =
    if minor == 0 then (PROTOCOL3_0, None) else
    (if minor == 2 then (PROTOCOL3_2, None) else (PROTOCOL3_2, Some offer))

abbrev pub negotiation : Startup → Result (ProtocolVersion × Option Message) PgWireError
negotiation s =
    if s.protocol_number_major == 3 then Ok (by_minor s.protocol_number_minor) else Err
    (UnsupportedProtocolVersion s.protocol_number_major s.protocol_number_minor)

abbrev pub offered_messages : Option Message → List Message
offered_messages None = []
offered_messages (Some m) = m ∷ []

abbrev pub LoginSettlesVersion : Result (ProtocolVersion × Option Message) PgWireError → Standing
    → Standing → List Message → Answer → Type 0
LoginSettlesVersion (Err e) = LoginRefuses e
LoginSettlesVersion (Ok (version, offered)) =
    Then (Sends (offered_messages offered)) (Sets (with_version version))

-- the client is told where the version is another than it asked for, and the version is set
abbrev pub Negotiates : Startup → Standing → Standing → List Message → Answer → Type 0
Negotiates s = LoginSettlesVersion (negotiation s)

-- a later value replaces an earlier one
abbrev pub saved : Held → Held → Held
saved old new = fold (λ m p. map.insert m p.0 p.1) old (map.entries new)

abbrev pub Saves : Startup → Standing → Standing → List Message → Answer → Type 0
Saves s = OrNoMemory (Sets (λ c. with_metadata (saved c.metadata s.parameters) c))

-- the login begins, the version is settled, and the parameters are saved
abbrev pub BeginsLogin : Startup → Standing → Standing → List Message → Answer → Type 0
BeginsLogin s = Then StartsLogin (Then (Negotiates s) (Saves s))

-- where something is asked for, the client is in authentication from then on
abbrev pub Opens : Startup → Standing → Standing → List Message → Answer → Type 0
Opens s = Then (BeginsLogin s) (Sets (with_state AuthenticationInProgress))
