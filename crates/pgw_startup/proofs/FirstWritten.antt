-- What is written of the messages without a type byte, and of the client's answers, spells them.
use Rattle.std.proofs.Common.{◌≡◌, ℕ, pos, negsuc, ◌<◌, ◌^◌, not, Bool, true, false, eqb, List, [], ◌∷◌, ◌++◌, length, Option, Some, None, Ok, refl, append_assoc, arith, lit<, IsUtf8, length-append}
use Rattle.std.specs.Prelude.{FitsSigned}
use Rattle.std.proofs.lemmas.Int.{ints}
use Rattle.std.specs.FinMap as map
use Rattle.std.specs.Int.{w16, w32}
use Rattle.std.proofs.lemmas.Bool.{or_parts, eqb-true, eqb-false}
use Rattle.std.proofs.lemmas.Str.{IsUtf8-nil}
use Rattle.pgw_wire.specs.declared.framing.Framing.TheVariants.{Typed, Untyped}
use Rattle.pgw_wire.specs.Framing.{encoded}
use Rattle.pgw_wire.specs.Formats.{SpellsNat, SpellsInt, SpellsTyped, SpellsUntyped}
use Rattle.pgw_wire.specs.Writing.{text, u16, u32, has_zero, refused_if}
use Rattle.pgw_wire.specs.Pairs.{pair_written, pairs_written, is_pair_refused}
use Rattle.pgw_wire.proofs.FieldLaws.{wide16, wide32}
use Rattle.pgw_wire.proofs.WrittenLaws.{typed_written, text_written, nat_written, int_written, marked_written, unrefused, encoded_parts, lossy-IsUtf8, i32_written}
use Rattle.pgw_startup.specs.declared.startup.Startup.{Startup}
use Rattle.pgw_startup.specs.Sound.{IsPair, IsStartup}
use Rattle.pgw_startup.specs.Startup.{startup, is_startup_refused, SpellsPair, SpellsStartup}
use Rattle.pgw_startup.specs.declared.sasl.SASLInitialResponse.{SASLInitialResponse}
use Rattle.pgw_startup.specs.Login.{is_method_refused}
use Rattle.pgw_startup.specs.declared.password.Password.{Password}
use Rattle.pgw_startup.specs.declared.sasl.SASLResponse.{SASLResponse}
use Rattle.pgw_startup.specs.Password.{SpellsPassword, data_written, SpellsData, initial_response, SpellsInitialResponse, SpellsResponse}
use Rattle.pgw_wire.proofs.UntypedLaws.{untyped_written}
use Rattle.pgw_startup.proofs.PairsLaws.{positive, from_entries}

-- ---- Startup

number_written : (n : ℕ) → n < 2 ^ 16 → SpellsNat w16 n (u16 n)
unfolding u16
number_written n small = nat_written w16 wide16 n small

pair_spelled : (p : List ℕ × List ℕ) → IsPair p → is_pair_refused p ≡ false → SpellsPair (Some p) (pair_written p)
pair_spelled p sound fine =
    let q = or_parts (eqb (length p.0) 0) _ fine in
    let r = or_parts (has_zero p.0) (has_zero p.1) q.1 in (
      (text p.0, text p.1, refl, text_written p.0 r.0 sound.0, text_written p.1 r.1 sound.1),
      positive (length p.0)
          (eqb-false (length p.0) 0 q.0),
    )

mark_spelled : SpellsPair None (0 ∷ [])
mark_spelled = ([], refl, refl, lossy-IsUtf8 [] IsUtf8-nil)

is_three : (n : ℕ) → not (eqb n 3) ≡ false → n ≡ 3
is_three n h = eqb-true n 3 (negated (eqb n 3) h)
  where
    negated : (b : Bool) → not b ≡ false → b ≡ true
    negated true h = refl
    negated false h = absurd cc

pub startup_written : (m : Startup) → IsStartup m → refused_if (is_startup_refused m) ≡ None
    → SpellsStartup m (startup m)
startup_written m sound fine =
    let p = or_parts (not (eqb m.protocol_number_major 3)) _ (unrefused _ fine) in (
      is_three m.protocol_number_major p.0,
      (
        u16 m.protocol_number_major,
        u16 m.protocol_number_minor ++ (pairs_written m.parameters ++ 0 ∷ []),
        simp append_assoc,
        number_written m.protocol_number_major sound.0,
        (
          u16 m.protocol_number_minor,
          pairs_written m.parameters ++ 0 ∷ [],
          refl,
          number_written m.protocol_number_minor sound.1,
          (
            map.entries m.parameters,
            marked_written SpellsPair pair_written (0 ∷ []) IsPair is_pair_refused
                mark_spelled pair_spelled (map.entries m.parameters) sound.2 p.1,
            from_entries m.parameters,
          ),
        ),
      ),
    )

pub startup_spelled : (m : Startup) (g : List ℕ) → IsStartup m
    → encoded Untyped 10000 (refused_if (is_startup_refused m)) (startup m) ≡ Ok g
    → SpellsUntyped 10000 SpellsStartup m g
startup_spelled m g sound is =
    untyped_written Untyped 10000 SpellsStartup m (refused_if (is_startup_refused m)) (startup m) g refl
    (λ n. refl) (lit< tt) is (startup_written m sound)

-- ---- the client's answers

minus_one : FitsSigned w32 (negsuc 0)
minus_one = omega (arith, ints)

len_written : (n : ℕ) → n < 2 ^ 31 → SpellsInt w32 (pos n) (u32 n)
unfolding u32
len_written n small =
    let fits : FitsSigned w32 (pos n) = omega (arith, ints, small) in int_written w32 wide32 (pos n) fits

data_spelled : (o : Option (List ℕ)) → length (data_written o) < 2 ^ 31 → SpellsData o (data_written o)
unfolding data_written
data_spelled None small = i32_written (negsuc 0) minus_one
data_spelled (Some payload) small = (
  u32 (length payload),
  refl,
  len_written (length payload)
      (omega (arith, length-append (u32 (length payload)) payload, small)),
)

pub password_written : (m : Password) (g : List ℕ) → IsUtf8 m.password
    → encoded (Typed 112) 10000 (refused_if (has_zero m.password)) (text m.password) ≡ Ok g
    → SpellsTyped 112 10000 SpellsPassword m g
password_written m g sound is =
    typed_written 112 10000 SpellsPassword m (refused_if (has_zero m.password)) (text m.password) g (lit< tt) is
    (λ fine. text_written m.password (unrefused _ fine) sound)

pub initial_written : (m : SASLInitialResponse) (g : List ℕ) → IsUtf8 m.auth_method
    → encoded (Typed 112) 10000 (refused_if (is_method_refused m.auth_method)) (initial_response m) ≡ Ok g
    → SpellsTyped 112 10000 SpellsInitialResponse m g
initial_written m g sound is =
    let p =
    encoded_parts (Typed 112) 10000 (refused_if (is_method_refused m.auth_method)) (initial_response m) g
    (lit< tt) is in
    let few : length (data_written m.payload) < 2 ^ 31 =
    omega (arith, p.0, length-append (text m.auth_method) (data_written m.payload)) in
    let fine = or_parts (eqb (length m.auth_method) 0) (has_zero m.auth_method) (unrefused _ p.1) in
    typed_written 112 10000 SpellsInitialResponse m (refused_if (is_method_refused m.auth_method))
    (initial_response m) g (lit< tt) is
    (λ none. (
      text m.auth_method,
      data_written m.payload,
      refl,
      text_written m.auth_method fine.1 sound,
      data_spelled m.payload few,
    ))

pub response_written : (m : SASLResponse) (g : List ℕ) → encoded (Typed 112) 10000 None m.payload ≡ Ok g
    → SpellsTyped 112 10000 SpellsResponse m g
response_written m g is = typed_written 112 10000 SpellsResponse m None m.payload g (lit< tt) is (λ fine. refl)
