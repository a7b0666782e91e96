-- Versions of the protocol.
use Rattle.std.specs.Prelude.{ℕ, ℤ, pos, ◌+◌, ◌*◌, Option, Some, None, ◌==◌, if◌then◌else◌, true, false}
use Rattle.pgw_types.specs.declared.context.DecodeContext.{DecodeContext}
use Rattle.pgw_types.specs.declared.context.ProtocolVersion.{ProtocolVersion}
use Rattle.pgw_types.specs.declared.context.ProtocolVersion.TheVariants.{PROTOCOL3_0, PROTOCOL3_2, PROTOCOL3_9999}

-- the major and the minor number
abbrev pub version_number : ProtocolVersion → ℕ × ℕ
version_number PROTOCOL3_0 = (3, 0)
version_number PROTOCOL3_2 = (3, 2)
version_number PROTOCOL3_9999 = (3, 9999)

-- the version of a major and a minor number
abbrev pub version_from : ℕ → ℕ → Option ProtocolVersion
version_from major minor =
    if major == 3 then (if minor == 0 then Some PROTOCOL3_0 else
    (if minor == 2 then Some PROTOCOL3_2 else None)) else None

-- both numbers in one, the major one in the upper 16 bits
abbrev pub version_code : ProtocolVersion → ℤ
version_code v = let n = version_number v in pos (n.0 * 65536 + n.1)

-- as a connection begins: the client's first message has no type byte
abbrev pub first_context : ProtocolVersion → DecodeContext
first_context version =
    record {
      protocol_version = version;
      awaiting_frontend_ssl = true;
      awaiting_frontend_startup =
          true;
      awaiting_backend_ssl_response = false;
      awaiting_backend_gss_response = false;
    }
