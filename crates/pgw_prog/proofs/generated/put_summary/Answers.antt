use Rattle.std.proofs.Common.{◌≡◌, ℕ, List, ◌++◌, Result, Ok, Err, append_assoc}
use Rattle.std.specs.Result.{OnOk}
use Rattle.pgw_types.specs.declared.memory.OutOfMemory.{OutOfMemory}
use Rattle.pgw_prog.specs.Generated.{summary_text}
use Rattle.pgw_prog.proofs.generated.put_summary.Goals as goal

joined : (o a b c d e f g : List ℕ)
    → ((((((o ++ a) ++ b) ++ c) ++ d) ++ e) ++ f) ++ g ≡ o ++ ((((((a ++ b) ++ c) ++ d) ++ e) ++ f) ++ g)
joined o a b c d e f g = simp append_assoc

all_put : (r : Result Unit OutOfMemory) (o0 o1 o2 o3 o4 o5 o6 o7 a b c d e f g : List ℕ) → o1 ≡ o0 ++ a
    → o2 ≡ o1 ++ b → o3 ≡ o2 ++ c → o4 ≡ o3 ++ d → o5 ≡ o4 ++ e → o6 ≡ o5 ++ f → OnOk r (o7 ≡ o6 ++ g)
    → OnOk r (o7 ≡ o0 ++ ((((((a ++ b) ++ c) ++ d) ++ e) ++ f) ++ g))
all_put (Ok done) o0 o1 o2 o3 o4 o5 o6 o7 a b c d e f g h1 h2 h3 h4 h5 h6 h7 =
    let all = joined o0 a b c d e f g in
    cc
all_put (Err short) o0 o1 o2 o3 o4 o5 o6 o7 a b c d e f g h1 h2 h3 h4 h5 h6 h7 = tt

pub returns : goal.returns
unfolding summary_text
returns c =
    all_put _ _ _ _ _ _ _ _ _ _ _ _ _ _ _ _ c.in_ok-put.ensures c.in_ok-put_decimal.ensures c.in_ok-put-2.ensures
    c.in_ok-put_decimal-2.ensures c.in_ok-put-3.ensures c.in_ok-put_hex.ensures c.put-4.ensures
