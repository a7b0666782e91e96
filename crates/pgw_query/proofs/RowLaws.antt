-- Each row of the message table is exact.
use Rattle.std.proofs.Common.{◌≡◌, ℕ, ◌≤◌, eqb, List, [], ◌∷◌, length, Ok, refl, sym, ap, subst, arith, lit<, length-append}
use Rattle.std.specs.Int.{w8, w16, w32}
use Rattle.std.proofs.lemmas.Bool.{eqb-true}
use Rattle.pgw_types.specs.declared.context.DecodeContext.{DecodeContext}
use Rattle.pgw_wire.specs.Reading.{text_at, nat_at, int_at, rest_at, marked_list_at}
use Rattle.pgw_wire.specs.Formats.{tried_at, counted_at, IsRow, ReadsFormat, ReadsLast, SpellsText, SpellsNat, SpellsInt, IsRest, SpellsCounted, SpellsMarked}
use Rattle.pgw_wire.proofs.Laws.{pair_reads, made_reads, tried_reads, ok_is, chosen}
use Rattle.pgw_wire.proofs.FieldLaws.{text_reads, nat_reads, int_reads}
use Rattle.pgw_wire.proofs.FrameLaws.{reads_last, rest_reads, pair_last, made_last, counted_reads, count16}
use Rattle.pgw_wire.proofs.MessageLaws.{is_row}
use Rattle.pgw_wire.proofs.CountedLaws.{counted16_reads}
use Rattle.pgw_wire.specs.Counted.{counted16_at, SpellsCounted16}
use Rattle.std.proofs.Common.{inl, inr}
use Rattle.pgw_query.specs.declared.response.TransactionStatus.{TransactionStatus}
use Rattle.pgw_query.specs.declared.response.TransactionStatus.TheVariants.{Idle, Transaction, Error}
use Rattle.pgw_query.specs.Rows.{status_of_byte, status_byte, ready_for_query_of, command_complete_of, query_of, row_description_of, data_row_of, field_at, field_of, field_parts, SpellsCommandComplete, SpellsQuery, SpellsRowDescription, SpellsDataRow, SpellsField, parameter_description_of, SpellsParameterDescription, notification_response_of, SpellsNotificationResponse, codes_at, SpellsInfoResponse, info_response_of}
use Rattle.pgw_wire.specs.Codes.{code_at, SpellsCode}
use Rattle.pgw_wire.specs.CodeLaws.{code_shrinks}
use Rattle.pgw_wire.proofs.MarkLaws.{marked_reads, code_reads}

pub command_complete : (ctx : DecodeContext) → IsRow 67 30000 (command_complete_of ctx) SpellsCommandComplete
unfolding command_complete_of
command_complete ctx =
    is_row 67 30000 (lit< tt) _ SpellsCommandComplete
    (made_last (λ t. record { tag = t }) (λ m. m.tag) text_at SpellsText (λ x. refl) (λ y. refl)
    (reads_last text_at SpellsText text_reads))

pub query : (ctx : DecodeContext) → IsRow 81 1073741822 (query_of ctx) SpellsQuery
unfolding query_of
query ctx =
    is_row 81 1073741822 (lit< tt) _ SpellsQuery
    (made_last (λ t. record { query = t }) (λ m. m.query) text_at SpellsText (λ x. refl) (λ y. refl)
    (reads_last text_at SpellsText text_reads))

field_reads : ReadsFormat field_at SpellsField
unfolding field_at
field_reads = made_reads field_of field_parts _ _ (λ x. refl) (λ y. refl)
    (pair_reads text_at SpellsText _ _ text_reads
    (pair_reads (int_at w32) (SpellsInt w32) _ _ (int_reads w32)
    (pair_reads (int_at w16) (SpellsInt w16) _ _ (int_reads w16)
    (pair_reads (nat_at w32) (SpellsNat w32) _ _ (nat_reads w32)
    (pair_reads (int_at w16) (SpellsInt w16) _ _ (int_reads w16)
    (pair_reads (int_at w32) (SpellsInt w32) _ _ (int_reads w32) (int_reads w16)))))))

pub data_row : (ctx : DecodeContext) → IsRow 68 2147483647 (data_row_of ctx) SpellsDataRow
unfolding data_row_of
data_row ctx =
    is_row 68 2147483647 (lit< tt) _ SpellsDataRow
    (made_last (λ p. record { payload = p.1; field_count = p.0 }) (λ m. (m.field_count, m.payload)) _ _
    (λ x. refl) (λ y. refl)
    (pair_last (int_at w16) (SpellsInt w16) rest_at IsRest (int_reads w16) rest_reads))

field_least : (f : _) (bytes : List ℕ) → SpellsField f bytes → 19 ≤ length bytes
field_least f bytes h =
    let a = h.3 in let b = h.4 in let c = b.4 in let d = c.4 in let e = d.4 in let g = e.4 in
    omega (
      arith,
      ap length h.2,
      length-append h.0 h.1,
      ap length a.1,
      length-append a.0 (0 ∷ []),
      ap length b.2,
      length-append b.0 b.1,
      b.3.0,
      ap length c.2,
      length-append c.0 c.1,
      c.3.0,
      ap length d.2,
      length-append d.0 d.1,
      d.3.0,
      ap length e.2,
      length-append e.0 e.1,
      e.3.0,
      ap length g.2,
      length-append g.0 g.1,
      g.3.0,
      g.4.0,
    )

pub row_description : (ctx : DecodeContext) → IsRow 84 2147483647 (row_description_of ctx) SpellsRowDescription
unfolding row_description_of
row_description ctx = is_row 84 2147483647 (lit< tt) _ SpellsRowDescription
    (made_last (λ fields. record { fields = fields }) (λ m. m.fields) _ _ (λ x. refl) (λ y. refl)
    (reads_last (counted_at w16 19 field_at) (SpellsCounted w16 SpellsField)
    (counted_reads w16 count16 field_at SpellsField 19 (lit< tt) field_least field_reads)))

status_back : (b : ℕ) (s : TransactionStatus) → status_of_byte b ≡ Ok s → status_byte s ≡ b
unfolding status_of_byte
status_back b s e =
    elim (chosen (eqb b 73) _ _ _ e) [
      | inl h ↦ subst (λ (t : TransactionStatus). status_byte t ≡ b) (ok_is Idle s h.1) (sym (eqb-true _ _ h.0))
      | inr h ↦ elim (chosen (eqb b 84) _ _ _ h.1) [
        | inl h ↦ subst (λ (t : TransactionStatus). status_byte t ≡ b) (ok_is Transaction s h.1)
            (sym (eqb-true _ _ h.0))
        | inr h ↦ elim (chosen (eqb b 69) _ _ _ h.1) [
          | inl h ↦ subst (λ (t : TransactionStatus). status_byte t ≡ b) (ok_is Error s h.1)
              (sym (eqb-true _ _ h.0))
          | inr h ↦ absurd cc
        ]
      ]
    ]

status_again : (s : TransactionStatus) → status_of_byte (status_byte s) ≡ Ok s
unfolding status_of_byte
status_again Idle = refl
status_again Transaction = refl
status_again Error = refl

pub ready_for_query : (ctx : DecodeContext)
    → IsRow 90 30000 (ready_for_query_of ctx) (λ m. SpellsNat w8 (status_byte m.status))
unfolding ready_for_query_of
ready_for_query ctx = is_row 90 30000 (lit< tt) _ (λ m. SpellsNat w8 (status_byte m.status))
    (made_last (λ s. record { status = s }) (λ m. m.status) _ _ (λ x. refl) (λ y. refl)
    (reads_last (tried_at status_of_byte (nat_at w8)) (λ s. SpellsNat w8 (status_byte s))
    (tried_reads status_of_byte status_byte (nat_at w8) (SpellsNat w8) status_back status_again
    (nat_reads w8))))

pub parameter_description : (ctx : DecodeContext)
    → IsRow 116 2147483647 (parameter_description_of ctx) SpellsParameterDescription
unfolding parameter_description_of
parameter_description ctx = is_row 116 2147483647 (lit< tt) _ SpellsParameterDescription
    (made_last (λ types. record { types = types }) (λ m. m.types) _ _ (λ x. refl) (λ y. refl)
    (reads_last (counted16_at 4 (nat_at w32)) (SpellsCounted16 (SpellsNat w32))
    (counted16_reads (nat_at w32) (SpellsNat w32) 4 (λ x f h. omega (arith, h.0)) (nat_reads w32))))

pub notification_response : (ctx : DecodeContext)
    → IsRow 65 2147483647 (notification_response_of ctx) SpellsNotificationResponse
unfolding notification_response_of
notification_response ctx = is_row 65 2147483647 (lit< tt) _ SpellsNotificationResponse
    (made_last (λ p. record { pid = p.0; channel = p.1.0; payload = p.1.1 })
    (λ m. (m.pid, (m.channel, m.payload))) _ _ (λ x. refl) (λ y. refl)
    (reads_last _ _ (pair_reads (int_at w32) (SpellsInt w32) _ _ (int_reads w32)
    (pair_reads text_at SpellsText text_at SpellsText text_reads text_reads))))

codes_reads : ReadsLast codes_at (SpellsMarked SpellsCode)
unfolding codes_at
codes_reads =
    reads_last (marked_list_at code_at) (SpellsMarked SpellsCode)
    (marked_reads code_at SpellsCode code_shrinks code_reads)

pub info_response : (byte : ℕ) (ctx : DecodeContext)
    → IsRow byte 2147483647 (info_response_of byte ctx) SpellsInfoResponse
unfolding info_response_of
info_response byte ctx =
    is_row byte 2147483647 (lit< tt) _ SpellsInfoResponse
    (made_last (λ fields. record { fields = fields }) (λ m. m.fields) codes_at (SpellsMarked SpellsCode)
    (λ x. refl) (λ y. refl) codes_reads)
