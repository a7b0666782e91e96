-- What a pool script comes to.
use Rattle.std.proofs.Common.{◌≡◌, ◌≢◌, true, false, ℕ, ◌+◌, ◌<◌, List, [], ◌∷◌, ◌++◌, length, take, drop, get_or, Option, Some, None, Result, Ok, Err, refl, sym, ap, subst, ◌∙◌, arith}
use Rattle.std.specs.Prelude.{Vec, MatchOption}
use Rattle.std.specs.declared.alloc.Global.{Global}
use Rattle.std.specs.Result.{IfOk, OnOk}
use Rattle.std.proofs.lemmas.List.{drop_more, length-take-le, take-append-drop}
use Rattle.pgw_types.specs.declared.config_error.ConfigError.{ConfigError}
use Rattle.pgw_types.specs.declared.memory.OutOfMemory.{OutOfMemory}
use Rattle.pgw_config.specs.declared.config.Config.{Config}
use Rattle.pgw_config.specs.Parse.{HasOutcome, IsParsed}
use Rattle.pgw_config.specs.Answers.{IsConfigAnswer}
use Rattle.pgw_prog_script.specs.declared.pool_line.PoolCall.{PoolCall}
use Rattle.pgw_prog_script.specs.declared.pool_line.PoolCall.TheVariants as call
use Rattle.pgw_prog_script.specs.declared.pool_script.PoolScript.{PoolScript}
use Rattle.pgw_prog_pool.specs.declared.run.PoolOutcome.{PoolOutcome}
use Rattle.pgw_prog_pool.specs.declared.run.PoolOutcome.TheVariants as outcome
use Rattle.pgw_prog_pool.specs.Standing.{PoolStanding, Calls, AllBack}
use Rattle.pgw_prog_pool.specs.Views.{MadeUpTo}
use Rattle.pgw_backend.specs.ClientError.{of_config}
use Rattle.pgw_backend.specs.declared.client_error.PgWireClientError.{PgWireClientError as ClientError}
use Rattle.pgw_types.specs.declared.config_error.ConfigError.TheVariants as config_error
use Rattle.pgw_prog_pool.specs.Lines.{wants_memory}
use Rattle.pgw_prog_pool.specs.Outcome.{PoolComesTo, ComesBy, RunsPool}

-- all calls were made, or those before one that names a lease which is not out
pub comes : (first there last : PoolStanding) (calls : List PoolCall) (lines : ℕ) (text : Vec ℕ Global)
    (stop : Option ℕ) (o : PoolOutcome)
    → MadeUpTo first calls there [] text.items stop → AllBack there last
    → MatchOption stop (o ≡ outcome.Told text) (λ at. o ≡ outcome.NotOut (lines + at + 1))
    → PoolComesTo first calls lines o
comes first there last calls lines text None o (all, made, put) back is =
    rw is (there, last, subst (λ t. Calls first calls t there) (sym put) made, back)
comes first there last calls lines text (Some at) o (lt, (all, made, put), names) back is =
    rw is record {
      done = take at calls;
      next = get_or calls at call.Lend;
      behind = drop (at + 1) calls;
      cut = sym (take-append-drop at calls) ∙ ap (λ cs. take at calls ++ cs) (drop_more calls at call.Lend lt);
      text = all;
      there = there;
      made = made;
      names = names call.Lend;
      number = ap (λ n. lines + n + 1) (sym (length-take-le at calls (omega (arith, lt))));
    }

-- the connection text was read
pub configured : (s : PoolScript) (config : Config) (r : Result PoolOutcome OutOfMemory)
    → HasOutcome s.config (Ok config)
    → ((other : Result Config ConfigError) → HasOutcome s.config other → IsConfigAnswer (Ok config) other)
    → IfOk r (ComesBy s (Ok config)) → IfOk r (RunsPool s)
configured s config (Ok o) has only comes = record { outcome = Ok config; has = has; only = only; comes = comes }
configured s config (Err e) has only comes = tt

-- it was refused
pub refused : (s : PoolScript) (why : ConfigError) (e : ClientError) (r : Result PoolOutcome OutOfMemory)
    → e ≡ of_config why → IsParsed s.config (Err why)
    → ((other : Result Config ConfigError) → HasOutcome s.config other → IsConfigAnswer (Err why) other)
    → OnOk r (wants_memory e ≡ false) → IfOk r (λ o. o ≡ outcome.Refused e) → IfOk r (RunsPool s)
refused s why e (Ok o) same parsed only memory says =
    let other : why ≢ config_error.OutOfMemory = λ short.
    let told : true ≡ false = rw (same, short) at memory in
    cc in
    record {
      outcome = Err why;
      has = parsed other;
      only = λ outcome has. only outcome has other;
      comes = (
        other,
        says
            ∙ ap outcome.Refused same,
      );
    }
refused s why e (Err none) same parsed only memory says = tt
