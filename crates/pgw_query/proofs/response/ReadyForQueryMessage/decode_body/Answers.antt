-- A byte that names a status, and nothing behind it.
use Rattle.std.proofs.Common.{◌≡◌, ℕ, List, Ok, refl, sym}
use Rattle.std.specs.Int.{w8}
use Rattle.pgw_types.specs.declared.context.DecodeContext.{DecodeContext}
use Rattle.pgw_wire.specs.Reading.{nat_at, read_end}
use Rattle.pgw_query.specs.declared.response.TransactionStatus.{TransactionStatus}
use Rattle.pgw_query.specs.Rows.{status_of_byte, ready_for_query_of}
use Rattle.pgw_query.proofs.response.ReadyForQueryMessage.decode_body.Goals as goal

status_alone : (ctx : DecodeContext) (bytes rest : List ℕ) (byte : ℕ) (status : TransactionStatus)
    (nothing : Unit {0})
    → nat_at w8 bytes ≡ Ok (byte, rest) → status_of_byte byte ≡ Ok status → read_end rest ≡ Ok nothing
    → ready_for_query_of ctx bytes ≡ Ok (record { status = status })
unfolding ready_for_query_of
status_alone ctx bytes rest byte status nothing is named end = rw (is, named, end) refl

pub returns : goal.returns
returns c =
    let is = rw c.new-reader.ensures at c.in_ok-byte.ensures in
    status_alone c.args._ctx.now c.args.body.now c.take_u8.new.self c.in_ok-byte.byte c.in_ok-status.status
    c.in_ok-finish.field-0 is (sym c.in_ok-status.ensures) c.in_ok-finish.ensures
