-- What is written spells what it was written of.
use Rattle.std.proofs.Common.{◌≡◌, ℕ, ℤ, ◌+◌, ◌<◌, ◌≤◌, ◌^◌, inl, inr, Bool, true, false, cond, ltb, List, [], ◌∷◌, ◌++◌, length, Option, Some, None, Result, Ok, refl, sym, ap, ◌∙◌, append_assoc, arith, IsUtf8}
use Rattle.std.specs.List.{flat_map, list_any, AllByRecursion}
use Rattle.std.specs.Int.{Width, w32, to_be_bytes, cast_signed, cast_unsigned}
use Rattle.std.specs.Prelude.{FitsSigned}
use Rattle.std.proofs.lemmas.Bool.{ltb-false, or_parts}
use Rattle.std.proofs.lemmas.Int.{to_z-of_z}
use Rattle.std.proofs.lemmas.List.Concat.{flat_map-cons}
use Rattle.std.proofs.Math.Facts.{Fits-of_z, Fits-lt-pow}
use Rattle.std.proofs.lemmas.Str.{utf8_lossy-IsUtf8}
use Rattle.bstr.proofs.lemmas.LossyLemmas.{lossy_chars-utf8_lossy}
use mir.Val.{bits}
use Rattle.pgw_types.specs.declared.error.PgWireError.{PgWireError}
use Rattle.pgw_types.specs.declared.context.ProtocolVersion.{ProtocolVersion}
use Rattle.pgw_types.specs.declared.context.ProtocolVersion.TheVariants.{PROTOCOL3_0, PROTOCOL3_2, PROTOCOL3_9999}
use Rattle.pgw_wire.specs.declared.secret_key.SecretKey.{SecretKey}
use Rattle.pgw_wire.specs.declared.secret_key.SecretKey.TheVariants.{I32, Bytes}
use Rattle.pgw_wire.specs.declared.framing.Framing.{Framing}
use Rattle.pgw_wire.specs.declared.framing.Framing.TheVariants.{Typed}
use Rattle.pgw_wire.specs.Reading.{◌>>=◌, lossy}
use Rattle.pgw_wire.specs.Writing.{text, i32, u32, has_zero, refused_if}
use Rattle.pgw_wire.specs.Keys.{is_no_key, SpellsKey, key_bytes, key_fault, IsKey, SuitsKey}
use Rattle.pgw_wire.specs.Framing.{header, saturated, length_field, body_or, encoded}
use Rattle.pgw_wire.specs.Formats.{SpellsText, SpellsNat, SpellsInt, SpellsMany, SpellsMarked, SpellsTyped}
use Rattle.pgw_wire.proofs.Laws.{bind_ok, ok_is, chosen}
use Rattle.pgw_wire.proofs.FieldLaws.{IsWide, wide32}

-- ---- fields

-- UTF-8 is read as itself
pub lossy-IsUtf8 : (t : List ℕ) → IsUtf8 t → lossy t ≡ t
unfolding lossy
lossy-IsUtf8 t h = lossy_chars-utf8_lossy t ∙ utf8_lossy-IsUtf8 t h

pub text_written : (t : List ℕ) → has_zero t ≡ false → IsUtf8 t → SpellsText t (text t)
unfolding text
text_written t none utf8 = (t, refl, none, lossy-IsUtf8 t utf8)

pub nat_written : (w : Width) → IsWide w → (n : ℕ) → n < 2 ^ bits w → SpellsNat w n (to_be_bytes w n)
nat_written w wide n small = (wide.len n, wide.again n small)

pub int_written : (w : Width) → IsWide w → (z : ℤ) → FitsSigned w z
    → SpellsInt w z (to_be_bytes w (cast_unsigned w z))
int_written w wide z fits = (
  wide.len (cast_unsigned w z),
  ap (cast_signed w)
      (wide.again (cast_unsigned w z) (Fits-lt-pow (Fits-of_z fits)))
      ∙ to_z-of_z w z fits,
)

pub code_written : (n : ℕ) → n < 2 ^ 32 → SpellsNat w32 n (u32 n)
unfolding u32
code_written n small = nat_written w32 wide32 n small

pub i32_written : (z : ℤ) → FitsSigned w32 z → SpellsInt w32 z (i32 z)
unfolding i32
i32_written z fits = int_written w32 wide32 z fits

-- ---- keys

no_key : (b : Bool) (e : PgWireError) → cond b (Some e) None ≡ None → b ≡ false
no_key true e is = absurd cc
no_key false e is = refl

pub key_written : (v : ProtocolVersion) (key : SecretKey) → IsKey key → SuitsKey v key → key_fault key ≡ None
    → SpellsKey v key (key_bytes key)
unfolding i32
key_written PROTOCOL3_0 (I32 n) sound suits fine = int_written w32 wide32 n sound
key_written PROTOCOL3_0 (Bytes bytes) sound suits fine = absurd suits
key_written PROTOCOL3_2 (I32 n) sound suits fine = absurd suits
key_written PROTOCOL3_2 (Bytes bytes) sound suits fine =
    let p =
    or_parts (ltb (length bytes) 4) (ltb 256 (length bytes)) (no_key (is_no_key bytes) _ fine) in
    (refl, ltb-false _ _ p.0, ltb-false _ _ p.1)
key_written PROTOCOL3_9999 (I32 n) sound suits fine = absurd suits
key_written PROTOCOL3_9999 (Bytes bytes) sound suits fine =
    let p =
    or_parts (ltb (length bytes) 4) (ltb 256 (length bytes)) (no_key (is_no_key bytes) _ fine) in
    (refl, ltb-false _ _ p.0, ltb-false _ _ p.1)

-- ---- lists

pub many_written : {A : Type 0} (Spells : A → List ℕ → Type 0) (spelled : A → List ℕ) (Sound : A → Type 0)
    (refused : A → Bool)
    → ((x : A) → Sound x → refused x ≡ false → Spells x (spelled x))
    → (xs : List A) → AllByRecursion Sound xs → list_any refused xs ≡ false
    → SpellsMany Spells xs (flat_map spelled xs)
many_written Spells spelled Sound refused one [] sound fine = refl
many_written Spells spelled Sound refused one (x ∷ xs) sound fine =
    let parts = or_parts (refused x) (list_any refused xs) fine in (
      spelled x,
      flat_map spelled xs,
      flat_map-cons spelled x xs,
      one x sound.0 parts.0,
      many_written Spells
          spelled Sound refused one xs sound.1 parts.1,
    )

pub marked_written : {A : Type 0} (Spells : Option A → List ℕ → Type 0) (spelled : A → List ℕ) (mark : List ℕ)
    (Sound : A → Type 0) (refused : A → Bool)
    → Spells None mark → ((x : A) → Sound x → refused x ≡ false → Spells (Some x) (spelled x))
    → (xs : List A) → AllByRecursion Sound xs → list_any refused xs ≡ false
    → SpellsMarked Spells xs (flat_map spelled xs ++ mark)
marked_written Spells spelled mark Sound refused end one [] sound fine = end
marked_written Spells spelled mark Sound refused end one (x ∷ xs) sound fine =
    let parts = or_parts (refused x) (list_any refused xs) fine in (
      spelled x,
      flat_map spelled xs ++ mark,
      ap (λ (f : List ℕ). f ++ mark) (flat_map-cons spelled x xs)
          ∙ append_assoc (spelled x) (flat_map spelled xs) mark,
      one x sound.0 parts.0,
      marked_written Spells
          spelled mark Sound refused end one xs sound.1 parts.1,
    )

-- ---- messages

pub unrefused : (b : Bool) → refused_if b ≡ None → b ≡ false
unfolding refused_if
unrefused true is = absurd cc
unrefused false is = refl

body_is : (fault : Option PgWireError) (body g : List ℕ) → body_or fault body ≡ Ok g → (fault ≡ None) × (g ≡ body)
body_is None body g is = (refl, cc)
body_is (Some e) body g is = absurd cc

-- what is written is within the limit, has no fault, and is a header and the body
pub encoded_parts : (framing : Framing) (limit : ℕ) (fault : Option PgWireError) (body g : List ℕ)
    → limit < 2 ^ 31 → encoded framing limit fault body ≡ Ok g
    → (length body + length_field framing ≤ limit) × (fault ≡ None)
    × (g ≡ header framing (length body) ++ body)
unfolding encoded
encoded_parts framing limit fault body g small is =
    elim (chosen (ltb limit (saturated (length body + length_field framing))) _ _ _ is) [
      | inl h ↦ absurd cc
      | inr h ↦
          let within : saturated (length body + length_field framing) ≤ limit = ltb-false _ _ h.0 in
          let b = body_is fault (header framing (length body) ++ body) g h.1 in
          (omega (arith, within, small), b.0, b.1)
    ]

pub typed_written : {M : Type 0} (byte limit : ℕ) (P : M → List ℕ → Type 0) (m : M) (fault : Option PgWireError)
    (body g : List ℕ)
    → limit < 2 ^ 31 → encoded (Typed byte) limit fault body ≡ Ok g → (fault ≡ None → P m body)
    → SpellsTyped byte limit P m g
typed_written byte limit P m fault body g small is law =
    let p = encoded_parts (Typed byte) limit fault body g small is in (
      to_be_bytes w32 (length body + 4),
      body,
      p.2,
      nat_written w32 wide32 (length body + 4)
          (omega (arith, p.0, small)),
      p.0,
      law p.1,
    )

pub appended : (r : Result (List ℕ) PgWireError) (old new : List ℕ) → (r >>= λ b. Ok (old ++ b)) ≡ Ok new
    → (g : List ℕ) × (r ≡ Ok g) × (new ≡ old ++ g)
appended r old new is =
    let a = bind_ok r (λ b. Ok (old ++ b)) new is in
    (a.0, a.1, sym (ok_is (old ++ a.0) new a.2))
