use Rattle.std.proofs.Common.{Result, Ok, Err, refl}
use Rattle.std.specs.Result.{OnErr}
use Rattle.pgw_codec.proofs.codec.PgWireMessageClientCodec.write.Goals as goal

on_err : {T E : Type 0} (r : Result T E) {P : Type 0} → P → OnErr r P
on_err (Ok x) p = tt
on_err (Err e) p = p

pub returns-in_err-encode-clause-kept : goal.returns-in_err-encode-clause-kept
returns-in_err-encode-clause-kept c = on_err c.from_residual.result refl
