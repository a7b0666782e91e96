-- The messages of the extended query (PostgreSQL 18, section 54.7, Message Formats).
use Rattle.std.specs.Prelude.{ℕ, ℤ, Bool, List, ◌++◌, Option, Result, ◌||◌}
use Rattle.std.specs.Int.{w8, w16, w32}
use Rattle.pgw_types.specs.declared.error.PgWireError.{PgWireError}
use Rattle.pgw_types.specs.declared.context.DecodeContext.{DecodeContext}
use Rattle.pgw_wire.specs.Reading.{nat_at, int_at, text_at, name_at, all_of}
use Rattle.pgw_wire.specs.Formats.{pair_at, Pair, made_at, SpellsText, SpellsNat, SpellsInt, SpellsName}
use Rattle.pgw_wire.specs.Writing.{text, i16, u32, has_zero}
use Rattle.pgw_wire.specs.Counted.{counted16_at, SpellsCounted16, counted16, is_too_long}
use Rattle.pgw_ext.specs.Kinds.{name, is_name_refused}
use Rattle.pgw_wire.specs.Values.{nullable_at, SpellsNullable, nullable}
use Rattle.pgw_ext.specs.declared.parse.Parse.{Parse}
use Rattle.pgw_ext.specs.declared.bind.Bind.{Bind}
use Rattle.pgw_ext.specs.declared.target.Close.{Close}
use Rattle.pgw_ext.specs.declared.target.Describe.{Describe}
use Rattle.pgw_ext.specs.declared.execute.Execute.{Execute}

-- ---- Parse

abbrev pub parse_from : Option (List ℕ) × (List ℕ × List ℕ) → Parse
parse_from p = record { name = p.0; query = p.1.0; type_oids = p.1.1 }

unfoldable pub parse_of : DecodeContext → List ℕ → Result Parse PgWireError
parse_of ctx bytes =
    all_of (made_at parse_from (pair_at name_at (pair_at text_at (counted16_at 4 (nat_at w32))))
    bytes)

abbrev pub SpellsParse : Parse → List ℕ → Type 0
SpellsParse m =
    Pair SpellsName (Pair SpellsText (SpellsCounted16 (SpellsNat w32)))
    (m.name, (m.query, m.type_oids))

abbrev pub parse : Parse → List ℕ
parse m = name m.name ++ text m.query ++ counted16 u32 m.type_oids

abbrev pub is_parse_refused : Parse → Bool
is_parse_refused m = is_name_refused m.name || (has_zero m.query || is_too_long m.type_oids)

-- ---- Bind

-- a bind's parts, in order
abbrev pub BindParts : Type 0
BindParts = Option (List ℕ) × (Option (List ℕ) × (List ℤ × (List (Option (List ℕ)) × List ℤ)))

abbrev pub bind_from : BindParts → Bind
bind_from p =
    record {
      portal_name = p.0;
      statement_name = p.1.0;
      parameter_format_codes = p.1.1.0;
      parameters = p.1.1.1.0;
      result_column_format_codes = p.1.1.1.1;
    }

abbrev pub bind_parts : Bind → BindParts
bind_parts m = (
  m.portal_name,
  (
    m.statement_name,
    (
      m.parameter_format_codes,
      (m.parameters, m.result_column_format_codes),
    ),
  ),
)

unfoldable pub bind_of : DecodeContext → List ℕ → Result Bind PgWireError
bind_of ctx bytes =
    all_of (made_at bind_from
    (pair_at name_at (pair_at name_at (pair_at (counted16_at 2 (int_at w16))
    (pair_at (counted16_at 4 nullable_at) (counted16_at 2 (int_at w16)))))) bytes)

abbrev pub SpellsBind : Bind → List ℕ → Type 0
SpellsBind m =
    Pair SpellsName (Pair SpellsName (Pair (SpellsCounted16 (SpellsInt w16))
    (Pair (SpellsCounted16 SpellsNullable) (SpellsCounted16 (SpellsInt w16))))) (bind_parts m)

abbrev pub bind : Bind → List ℕ
bind m =
    name m.portal_name ++ name m.statement_name ++ counted16 i16 m.parameter_format_codes ++
    counted16 nullable m.parameters ++ counted16 i16 m.result_column_format_codes

abbrev pub is_bind_refused : Bind → Bool
is_bind_refused m =
    (is_name_refused m.portal_name || is_name_refused m.statement_name) ||
    (is_too_long m.parameter_format_codes ||
    (is_too_long m.parameters || is_too_long m.result_column_format_codes))

-- ---- Close, Describe

-- what is meant: a byte for its kind, and its name
unfoldable pub target_at : List ℕ → Result ((ℕ × Option (List ℕ)) × List ℕ) PgWireError
target_at = pair_at (nat_at w8) name_at

abbrev pub SpellsTarget : ℕ × Option (List ℕ) → List ℕ → Type 0
SpellsTarget = Pair (SpellsNat w8) SpellsName

unfoldable pub close_of : DecodeContext → List ℕ → Result Close PgWireError
close_of ctx bytes =
    all_of (made_at (λ p. record { target_type = p.0; name = p.1 }) target_at bytes)

abbrev pub SpellsClose : Close → List ℕ → Type 0
SpellsClose m = SpellsTarget (m.target_type, m.name)

unfoldable pub describe_of : DecodeContext → List ℕ → Result Describe PgWireError
describe_of ctx bytes =
    all_of (made_at (λ p. record { target_type = p.0; name = p.1 }) target_at bytes)

abbrev pub SpellsDescribe : Describe → List ℕ → Type 0
SpellsDescribe m = SpellsTarget (m.target_type, m.name)

-- ---- Execute

unfoldable pub execute_of : DecodeContext → List ℕ → Result Execute PgWireError
execute_of ctx bytes =
    all_of (made_at (λ p. record { name = p.0; max_rows = p.1 }) (pair_at name_at (int_at w32))
    bytes)

abbrev pub SpellsExecute : Execute → List ℕ → Type 0
SpellsExecute m = Pair SpellsName (SpellsInt w32) (m.name, m.max_rows)
