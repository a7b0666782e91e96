use Rattle.std.proofs.Common.{refl, sym, ◌∙◌}
use Rattle.pgw_scram.specs.Base64.{base64}
use Rattle.pgw_secrets.proofs.Parts.{not_decoded}
use Rattle.pgw_secrets.proofs.keys.decode.Goals as goal

pub returns-in-Ok : goal.returns-in-Ok
unfolding base64
returns-in-Ok c = (sym c.as_bytes.ensures.value ∙ c.in-Ok.ensures.exact (refl, refl), c.in-Ok.ensures.bytes)

pub returns-in-Err-DecodeError : goal.returns-in-Err-DecodeError
returns-in-Err-DecodeError c = λ bytes e is.
    let failed = rw c.in-Err-DecodeError.field-0-is at c.in-Err-DecodeError.ensures.err in
    not_decoded c.as_bytes.result.now bytes c.in-Err-DecodeError.field-0-0 failed (c.as_bytes.ensures.value
    ∙ e) is
