-- What is written of the login's messages spells them.
use Rattle.std.proofs.Common.{◌≡◌, ℕ, pos, ◌<◌, ◌^◌, not, Bool, true, false, ltb, eqb, List, [], ◌∷◌, ◌++◌, length, Some, None, refl, sym, append_assoc, arith, lit<, IsUtf8}
use Rattle.std.specs.List.{flat_map, list_any}
use Rattle.std.specs.Int.{w32}
use Rattle.std.proofs.lemmas.Bool.{ltb-false, or_parts, eqb-true, eqb-false}
use Rattle.std.proofs.lemmas.Int.{ints}
use Rattle.std.proofs.lemmas.List.{append-nil}
use Rattle.std.proofs.lemmas.Str.{IsUtf8-nil}
use Rattle.pgw_types.specs.declared.context.ProtocolVersion.{ProtocolVersion}
use Rattle.pgw_wire.specs.Writing.{text, i32, u32, has_zero, refused_if}
use Rattle.pgw_wire.specs.Keys.{key_bytes, key_fault, SuitsKey}
use Rattle.pgw_wire.specs.Formats.{SpellsText, SpellsInt, SpellsName}
use Rattle.std.specs.Prelude.{FitsSigned}
use Rattle.pgw_wire.proofs.FieldLaws.{wide32}
use Rattle.pgw_wire.proofs.WrittenLaws.{code_written, i32_written, key_written, text_written, int_written, many_written, marked_written, unrefused, lossy-IsUtf8}
use Rattle.pgw_startup.specs.declared.authentication.Authentication.{Authentication}
use Rattle.pgw_startup.specs.declared.authentication.Authentication.TheVariants as auth
use Rattle.pgw_startup.specs.declared.parameter_status.ParameterStatus.{ParameterStatus}
use Rattle.pgw_startup.specs.declared.backend_key_data.BackendKeyData.{BackendKeyData}
use Rattle.pgw_startup.specs.declared.negotiate.NegotiateProtocolVersion.{NegotiateProtocolVersion}
use Rattle.pgw_startup.specs.Sound.{IsAuthentication, IsParameterStatus, IsBackendKeyData, IsNegotiate}
use Rattle.pgw_startup.specs.Login.{SpellsAuthentication, SpellsParameterStatus, SpellsBackendKeyData, SpellsNegotiate, authentication, is_method_refused, authentication_fault, parameter_status, parameter_status_fault, backend_key_data, negotiate, is_options_refused}

-- an empty text is the mark of a list
end_written : SpellsName None (0 ∷ [])
end_written = ([], refl, refl, lossy-IsUtf8 [] IsUtf8-nil)

positive : (n : ℕ) → eqb n 0 ≡ false → 0 < n
positive n h = omega (arith, eqb-false n 0 h)

method_written : (t : List ℕ) → IsUtf8 t → is_method_refused t ≡ false → SpellsName (Some t) (text t)
method_written t utf8 fine =
    let p = or_parts (eqb (length t) 0) (has_zero t) fine in (text_written t p.1 utf8, positive (length t) p.0)

pub authentication_written : (m : Authentication) → IsAuthentication m → authentication_fault m ≡ None
    → SpellsAuthentication m (authentication m)
authentication_written auth.Ok sound fine = (u32 0, [], sym (append-nil (u32 0)), code_written 0 (lit< tt), refl)
authentication_written auth.KerberosV5 sound fine =
    (u32 2, [], sym (append-nil (u32 2)), code_written 2 (lit< tt), refl)
authentication_written auth.CleartextPassword sound fine =
    (u32 3, [], sym (append-nil (u32 3)), code_written 3 (lit< tt), refl)
authentication_written (auth.MD5Password salt) sound fine =
    (u32 5, salt, refl, code_written 5 (lit< tt), (refl, four (length salt) (unrefused _ fine)))
  where
    four : (n : ℕ) → not (eqb n 4) ≡ false → n ≡ 4
    four n h = eqb-true n 4 (negated (eqb n 4) h)
      where
        negated : (b : Bool) → not b ≡ false → b ≡ true
        negated true h = refl
        negated false h = absurd cc
authentication_written (auth.SASL methods) sound fine = (
  u32 10,
  flat_map text methods ++ 0 ∷ [],
  append_assoc (u32 10) (flat_map text methods) (0 ∷ []),
  code_written
      10 (lit< tt),
  marked_written SpellsName text (0 ∷ []) IsUtf8 is_method_refused end_written method_written
      methods sound (unrefused _ fine),
)
authentication_written (auth.SASLContinue bytes) sound fine =
    (u32 11, bytes, refl, code_written 11 (lit< tt), refl)
authentication_written (auth.SASLFinal bytes) sound fine = (u32 12, bytes, refl, code_written 12 (lit< tt), refl)

pub parameter_status_written : (m : ParameterStatus) → IsParameterStatus m → parameter_status_fault m ≡ None
    → SpellsParameterStatus m (parameter_status m)
parameter_status_written m sound fine =
    let p = or_parts (has_zero m.name) (has_zero m.value) (unrefused _ fine) in
    (text m.name, text m.value, refl, text_written m.name p.0 sound.0, text_written m.value p.1 sound.1)

pub backend_key_data_written : (v : ProtocolVersion) (m : BackendKeyData) → IsBackendKeyData m
    → SuitsKey v m.secret_key → key_fault m.secret_key ≡ None → SpellsBackendKeyData v m (backend_key_data m)
backend_key_data_written v m sound suits fine = (
  i32 m.pid,
  key_bytes m.secret_key,
  refl,
  i32_written m.pid sound.0,
  key_written v m.secret_key sound.1 suits
      fine,
)

count_written : (n : ℕ) → n < 2 ^ 31 → SpellsInt w32 (pos n) (u32 n)
unfolding u32
count_written n small =
    let fits : FitsSigned w32 (pos n) = omega (arith, ints, small) in int_written w32 wide32 (pos n) fits

pub negotiate_written : (m : NegotiateProtocolVersion) → IsNegotiate m
    → refused_if (is_options_refused m.unsupported_options) ≡ None → SpellsNegotiate m (negotiate m)
negotiate_written m sound fine =
    let p =
    or_parts (ltb 2147483647 (length m.unsupported_options)) (list_any has_zero m.unsupported_options)
    (unrefused _ fine) in
    let few : length m.unsupported_options < 2 ^ 31 = omega (arith, ltb-false _ _ p.0) in (
      i32 m.newest_minor_protocol,
      u32 (length m.unsupported_options) ++ flat_map text m.unsupported_options,
      append_assoc (i32 m.newest_minor_protocol) (u32 (length m.unsupported_options))
          (flat_map text m.unsupported_options),
      i32_written m.newest_minor_protocol sound.0,
      (
        u32 (length m.unsupported_options),
        flat_map text m.unsupported_options,
        refl,
        count_written (length m.unsupported_options) few,
        many_written SpellsText text IsUtf8 has_zero (λ t utf8 none. text_written t none utf8)
            m.unsupported_options sound.1 p.1,
      ),
    )
