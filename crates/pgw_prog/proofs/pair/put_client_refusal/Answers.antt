use Rattle.pgw_prog.specs.Pair.{client_refusal}
use Rattle.pgw_prog.proofs.PairLaws.{three_put}
use Rattle.pgw_prog.proofs.pair.put_client_refusal.Goals as goal

pub returns : goal.returns
unfolding client_refusal
returns c = three_put _ _ _ _ _ _ _ _ c.in_ok-put.ensures c.in_ok-put_client_name.ensures c.put-2.ensures
