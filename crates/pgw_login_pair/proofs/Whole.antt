-- Two parties agree.
use Rattle.std.proofs.Common.{◌≢◌, ◌<◌, length, refl, arith}
use Rattle.atomic_table.specs.Seated.{TableId}
use Rattle.pgw_registry.specs.Generator.{unused}
use Rattle.pgw_registry.specs.declared.error.PidError.TheVariants as pid
use Rattle.pgw_login_pair.specs.declared.parties.PairInput.{PairInput}
use Rattle.pgw_login_pair.specs.declared.parties.PairOutcome.{PairOutcome}
use Rattle.pgw_login_pair.specs.declared.parties.ServerEnd.TheVariants as of_server
use Rattle.pgw_login_pair.specs.Parties.{Pairs, HaveDifferentHashes, TwoParty}
use Rattle.pgw_login_pair.specs.Sound.{IsSoundInput}
use Rattle.pgw_login_pair.specs.World.{most}
use Rattle.pgw_login_pair.proofs.Able.{is_able, greets_all, startup_sound}
use Rattle.pgw_login_pair.proofs.Agree.{agree}
use Rattle.pgw_login_pair.proofs.Finals.{CanDraw}
use Rattle.pgw_login_pair.proofs.Honest.{never_client, misbound_alone}

-- the first seat of a generator, of which no other was made
can_draw : (generator : TableId) → CanDraw (unused generator 100000)
can_draw generator pid.PidsExhausted after h = absurd (let z = h.2 refl in omega (arith, z))
can_draw generator pid.OutOfMemory after h = refl

pub two_parties_agree : (input : PairInput) (o : PairOutcome) (p : Pairs input o) → IsSoundInput input
    → length o.to_client < most → TwoParty input o
two_parties_agree input o p sound small =
    agree input o p small (is_able p.generator input sound (can_draw p.generator))
    (greets_all p.generator input sound) (startup_sound p.generator input sound) sound
    (λ h. (never_client p.generator input sound h, misbound_alone p.generator input sound h))

-- what is bound is one hash
pub different_hashes_never_finish : (input : PairInput) (o : PairOutcome) → TwoParty input o
    → HaveDifferentHashes input → o.server ≢ of_server.Finished
different_hashes_never_finish input o (p, agree) (hash, own, client, server, other) is =
    other (agree.bound hash own client server is).0
