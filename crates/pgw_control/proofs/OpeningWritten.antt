-- What is written of the requests spells them.
use Rattle.std.proofs.Common.{◌≡◌, ℕ, ◌+◌, ◌<◌, ◌^◌, List, ◌++◌, length, None, Ok, refl, append_assoc, lit<}
use Rattle.std.specs.Int.{w32, to_be_bytes}
use Rattle.pgw_types.specs.declared.context.ProtocolVersion.{ProtocolVersion}
use Rattle.pgw_wire.specs.declared.framing.Framing.TheVariants.{Code}
use Rattle.pgw_wire.specs.Framing.{encoded}
use Rattle.pgw_wire.specs.Writing.{i32, u32}
use Rattle.pgw_wire.specs.Keys.{key_bytes, key_fault, SuitsKey}
use Rattle.pgw_wire.proofs.WrittenLaws.{encoded_parts, i32_written, key_written, code_written}
use Rattle.pgw_control.specs.declared.cancel.CancelRequest.{CancelRequest}
use Rattle.pgw_control.specs.Sound.{IsCancelRequest}
use Rattle.pgw_control.specs.Openings.{cancel_request, SpellsCancelRequest, SpellsCoded}

pub coded_written : (code : ℕ) (g : List ℕ) → code < 2 ^ 32 → encoded Code 10000 None (u32 code) ≡ Ok g
    → SpellsCoded code g
coded_written code g small is =
    let p = encoded_parts Code 10000 None (u32 code) g (lit< tt) is in
    (to_be_bytes w32 (length (u32 code) + 4), u32 code, p.2, refl, code_written code small)

-- ---- CancelRequest

pub cancel_written : (v : ProtocolVersion) (m : CancelRequest) → IsCancelRequest m → SuitsKey v m.secret_key
    → key_fault m.secret_key ≡ None → SpellsCancelRequest v m (cancel_request m)
cancel_written v m sound suits fine = (
  u32 80877102,
  i32 m.pid ++ key_bytes m.secret_key,
  append_assoc (u32 80877102) (i32 m.pid) (key_bytes m.secret_key),
  code_written 80877102 (lit< tt),
  (
    i32 m.pid,
    key_bytes m.secret_key,
    refl,
    i32_written m.pid sound.0,
    key_written v m.secret_key sound.1 suits
        fine,
  ),
)
