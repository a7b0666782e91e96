-- Each row of the message table is exact.
use Rattle.std.proofs.Common.{refl, arith, lit<}
use Rattle.std.specs.Int.{w8, w16, w32}
use Rattle.pgw_types.specs.declared.context.DecodeContext.{DecodeContext}
use Rattle.pgw_wire.specs.Reading.{nat_at, int_at, text_at, name_at}
use Rattle.pgw_wire.specs.Formats.{IsRow, ReadsFormat, ReadsLast, SpellsText, SpellsNat, SpellsInt, SpellsName}
use Rattle.pgw_wire.proofs.Laws.{pair_reads}
use Rattle.pgw_wire.proofs.FieldLaws.{text_reads, nat_reads, int_reads}
use Rattle.pgw_wire.proofs.FrameLaws.{reads_last, made_last}
use Rattle.pgw_wire.proofs.MarkLaws.{name_reads}
use Rattle.pgw_wire.proofs.MessageLaws.{is_row}
use Rattle.pgw_wire.specs.Values.{nullable_at, SpellsNullable}
use Rattle.pgw_wire.specs.Counted.{counted16_at, SpellsCounted16}
use Rattle.pgw_ext.specs.Rows.{parse_from, parse_of, SpellsParse, bind_from, bind_parts, bind_of, SpellsBind, target_at, SpellsTarget, close_of, SpellsClose, describe_of, SpellsDescribe, execute_of, SpellsExecute}
use Rattle.pgw_wire.proofs.ValueLaws.{nullable_reads, nullable_least}
use Rattle.pgw_wire.proofs.CountedLaws.{counted16_reads}

-- ---- Parse

oids_reads : ReadsFormat (counted16_at 4 (nat_at w32)) (SpellsCounted16 (SpellsNat w32))
oids_reads = counted16_reads (nat_at w32) (SpellsNat w32) 4 (λ x f h. omega (arith, h.0)) (nat_reads w32)

pub parse : (ctx : DecodeContext) → IsRow 80 1073741822 (parse_of ctx) SpellsParse
unfolding parse_of
parse ctx = is_row 80 1073741822 (lit< tt) _ SpellsParse
    (made_last parse_from (λ m. (m.name, (m.query, m.type_oids))) _ _ (λ x. refl) (λ y. refl)
    (reads_last _ _ (pair_reads name_at SpellsName _ _ name_reads
    (pair_reads text_at SpellsText _ _ text_reads oids_reads))))

-- ---- Bind

codes_reads : ReadsFormat (counted16_at 2 (int_at w16)) (SpellsCounted16 (SpellsInt w16))
codes_reads = counted16_reads (int_at w16) (SpellsInt w16) 2 (λ x f h. omega (arith, h.0)) (int_reads w16)

parameters_reads : ReadsFormat (counted16_at 4 nullable_at) (SpellsCounted16 SpellsNullable)
parameters_reads = counted16_reads nullable_at SpellsNullable 4 nullable_least nullable_reads

pub bind : (ctx : DecodeContext) → IsRow 66 1073741822 (bind_of ctx) SpellsBind
unfolding bind_of
bind ctx = is_row 66 1073741822 (lit< tt) _ SpellsBind
    (made_last bind_from bind_parts _ _ (λ x. refl) (λ y. refl)
    (reads_last _ _ (pair_reads name_at SpellsName _ _ name_reads
    (pair_reads name_at SpellsName _ _ name_reads
    (pair_reads (counted16_at 2 (int_at w16)) (SpellsCounted16 (SpellsInt w16)) _ _ codes_reads
    (pair_reads (counted16_at 4 nullable_at) (SpellsCounted16 SpellsNullable) _ _ parameters_reads
    codes_reads))))))

-- ---- Close, Describe

target_reads : ReadsLast target_at SpellsTarget
unfolding target_at
target_reads = reads_last _ _ (pair_reads (nat_at w8) (SpellsNat w8) name_at SpellsName (nat_reads w8) name_reads)

pub close : (ctx : DecodeContext) → IsRow 67 10000 (close_of ctx) SpellsClose
unfolding close_of
close ctx = is_row 67 10000 (lit< tt) _ SpellsClose
    (made_last (λ p. record { target_type = p.0; name = p.1 }) (λ m. (m.target_type, m.name)) target_at
    SpellsTarget (λ x. refl) (λ y. refl) target_reads)

pub describe : (ctx : DecodeContext) → IsRow 68 10000 (describe_of ctx) SpellsDescribe
unfolding describe_of
describe ctx = is_row 68 10000 (lit< tt) _ SpellsDescribe
    (made_last (λ p. record { target_type = p.0; name = p.1 }) (λ m. (m.target_type, m.name)) target_at
    SpellsTarget (λ x. refl) (λ y. refl) target_reads)

-- ---- Execute

pub execute : (ctx : DecodeContext) → IsRow 69 10000 (execute_of ctx) SpellsExecute
unfolding execute_of
execute ctx = is_row 69 10000 (lit< tt) _ SpellsExecute
    (made_last (λ p. record { name = p.0; max_rows = p.1 }) (λ m. (m.name, m.max_rows)) _ _ (λ x. refl)
    (λ y. refl)
    (reads_last _ _ (pair_reads name_at SpellsName (int_at w32) (SpellsInt w32) name_reads (int_reads w32))))
