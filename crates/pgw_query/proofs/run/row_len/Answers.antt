use Rattle.std.proofs.Common.{sym}
use Rattle.pgw_query.proofs.RunLaws.{stands}
use Rattle.pgw_query.proofs.run.row_len.Goals as goal

pub returns : goal.returns
returns c =
    stands c.args.bytes.now c.length_at-len.result c.if-bytes-ne-MESSAGE_TYPE_BYTE_DATA_ROW.false
    (sym c.length_at-len.ensures) c.if-len-lt6.false c.if-len-gt2147483647.false c.if-bytes-end.false
