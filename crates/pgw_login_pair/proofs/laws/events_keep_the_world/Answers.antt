use Rattle.pgw_login_pair.proofs.Meets.{first_meets, runs_meet}
use Rattle.pgw_login_pair.proofs.laws.events_keep_the_world.Goals as goal

pub returns : goal.returns
returns c =
    λ generator input events end runs. runs_meet generator input events _ end runs (first_meets generator input)
