use Rattle.pgw_prog.specs.Pair.{server_refusal}
use Rattle.pgw_prog.proofs.PairLaws.{three_put}
use Rattle.pgw_prog.proofs.pair.put_server_refusal.Goals as goal

pub returns : goal.returns
unfolding server_refusal
returns c = three_put _ _ _ _ _ _ _ _ c.in_ok-put.ensures c.in_ok-put_wire_name.ensures c.put-2.ensures
