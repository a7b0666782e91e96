use Rattle.std.proofs.Common.{Result, Ok, Err, refl}
use Rattle.std.specs.Result.{OnErr}
use Rattle.pgw_config.proofs.setters.store.Goals as goal

on_err : {T E : Type 0} (r : Result T E) {P : Type 0} → P → OnErr r P
on_err (Ok x) p = tt
on_err (Err e) p = p

pub returns-in_err-from_str-clause-err : goal.returns-in_err-from_str-clause-err
returns-in_err-from_str-clause-err c = on_err c.from_residual.result refl
