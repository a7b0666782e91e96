-- Each row of the message table is exact.
use Rattle.std.proofs.Common.{ℕ, refl, lit<}
use Rattle.pgw_types.specs.declared.context.DecodeContext.{DecodeContext}
use Rattle.pgw_wire.specs.Reading.{text_at, rest_at}
use Rattle.pgw_wire.specs.Formats.{IsRow, SpellsText, IsRest}
use Rattle.pgw_wire.proofs.FieldLaws.{text_reads}
use Rattle.pgw_wire.proofs.FrameLaws.{reads_last, rest_reads, made_last}
use Rattle.pgw_wire.proofs.MessageLaws.{is_row}
use Rattle.pgw_copy.specs.Rows.{columns_at, SpellsColumns, copy_data_of, SpellsCopyData, copy_fail_of, SpellsCopyFail, copy_response_of, SpellsCopyResponse}
use Rattle.pgw_copy.proofs.ColumnLaws.{columns_reads}

pub copy_data : (ctx : DecodeContext) → IsRow 100 1073741822 (copy_data_of ctx) SpellsCopyData
unfolding copy_data_of
copy_data ctx =
    is_row 100 1073741822 (lit< tt) _ SpellsCopyData
    (made_last (λ b. record { payload = b }) (λ m. m.payload) rest_at IsRest (λ x. refl) (λ y. refl)
    rest_reads)

pub copy_fail : (ctx : DecodeContext) → IsRow 102 10000 (copy_fail_of ctx) SpellsCopyFail
unfolding copy_fail_of
copy_fail ctx =
    is_row 102 10000 (lit< tt) _ SpellsCopyFail
    (made_last (λ t. record { message = t }) (λ m. m.message) text_at SpellsText (λ x. refl) (λ y. refl)
    (reads_last text_at SpellsText text_reads))

pub copy_response : (byte : ℕ) (ctx : DecodeContext)
    → IsRow byte 30000 (copy_response_of byte ctx) SpellsCopyResponse
unfolding copy_response_of
copy_response byte ctx = is_row byte 30000 (lit< tt) _ SpellsCopyResponse
    (made_last (λ p. record { format = p.0; columns = p.1; column_formats = p.2 })
    (λ m. (m.format, m.columns, m.column_formats)) columns_at SpellsColumns (λ x. refl) (λ y. refl)
    (reads_last columns_at SpellsColumns columns_reads))
