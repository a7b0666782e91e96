use Rattle.std.proofs.Common.{sym, ap}
use Rattle.std.specs.Result.{result_ok}
use Rattle.base64.specs.GeneralPurpose.{decoded_of}
use Rattle.pgw_scram.specs.Base64.{salt_of}
use Rattle.pgw_scram.proofs.encoding.decode_salt.Goals as goal

pub returns-in-Ok : goal.returns-in-Ok
unfolding salt_of decoded_of
returns-in-Ok c = sym (ap result_ok c.in-Ok.ensures.ok)

pub returns-in-Err-DecodeError : goal.returns-in-Err-DecodeError
unfolding salt_of decoded_of
returns-in-Err-DecodeError c =
    let failed =
    rw c.in-Err-DecodeError.field-0-is at c.in-Err-DecodeError.ensures.err in sym (ap result_ok failed)
