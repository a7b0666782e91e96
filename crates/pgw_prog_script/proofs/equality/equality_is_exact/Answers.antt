use Rattle.std.proofs.Common.{ap, refl}
use Rattle.std.proofs.lemmas.Bool.Decides.{Decides-eqb}
use Rattle.pgw_prog_script.specs.declared.lines.ScriptFault.TheVariants as fault
use Rattle.pgw_prog_script.specs.declared.script.Place.TheVariants as place
use Rattle.pgw_prog_script.specs.declared.pair_script.PairPlace.TheVariants as pair
use Rattle.pgw_prog_script.specs.declared.relay_script.RelayPlace.TheVariants as relay
use Rattle.pgw_prog_script.specs.declared.pool_script.PoolPlace.TheVariants as pool
use Rattle.pgw_prog_script.proofs.equality.equality_is_exact.Goals as goal

pub returns-clause-script_fault : goal.returns-clause-script_fault
returns-clause-script_fault c fault.OutOfMemory fault.OutOfMemory = (λ e. refl, λ e. refl)
returns-clause-script_fault c (fault.Line x) (fault.Line y) =
    (λ e. ap (λ z. fault.Line z) ((Decides-eqb x y).0 e), λ e. (Decides-eqb x y).1 cc)
returns-clause-script_fault c x y = (λ e. absurd cc, λ e. absurd cc)

pub returns-clause-place : goal.returns-clause-place
returns-clause-place c place.Start place.Start = (λ e. refl, λ e. refl)
returns-clause-place c place.Config place.Config = (λ e. refl, λ e. refl)
returns-clause-place c place.Protocol place.Protocol = (λ e. refl, λ e. refl)
returns-clause-place c place.Certificate place.Certificate = (λ e. refl, λ e. refl)
returns-clause-place c place.Nonce place.Nonce = (λ e. refl, λ e. refl)
returns-clause-place c place.Limit place.Limit = (λ e. refl, λ e. refl)
returns-clause-place c place.Cut place.Cut = (λ e. refl, λ e. refl)
returns-clause-place c place.Fail place.Fail = (λ e. refl, λ e. refl)
returns-clause-place c place.Request place.Request = (λ e. refl, λ e. refl)
returns-clause-place c place.Server place.Server = (λ e. refl, λ e. refl)
returns-clause-place c x y = (λ e. absurd cc, λ e. absurd cc)

pub returns-clause-pair_place : goal.returns-clause-pair_place
returns-clause-pair_place c pair.Start pair.Start = (λ e. refl, λ e. refl)
returns-clause-pair_place c pair.User pair.User = (λ e. refl, λ e. refl)
returns-clause-pair_place c pair.Password pair.Password = (λ e. refl, λ e. refl)
returns-clause-pair_place c pair.Stored pair.Stored = (λ e. refl, λ e. refl)
returns-clause-pair_place c pair.Salt pair.Salt = (λ e. refl, λ e. refl)
returns-clause-pair_place c pair.Count pair.Count = (λ e. refl, λ e. refl)
returns-clause-pair_place c pair.Client pair.Client = (λ e. refl, λ e. refl)
returns-clause-pair_place c pair.Server pair.Server = (λ e. refl, λ e. refl)
returns-clause-pair_place c pair.Words pair.Words = (λ e. refl, λ e. refl)
returns-clause-pair_place c pair.ClientHash pair.ClientHash = (λ e. refl, λ e. refl)
returns-clause-pair_place c pair.ServerHash pair.ServerHash = (λ e. refl, λ e. refl)
returns-clause-pair_place c pair.Event pair.Event = (λ e. refl, λ e. refl)
returns-clause-pair_place c x y = (λ e. absurd cc, λ e. absurd cc)

pub returns-clause-relay_place : goal.returns-clause-relay_place
returns-clause-relay_place c relay.Start relay.Start = (λ e. refl, λ e. refl)
returns-clause-relay_place c relay.Cut relay.Cut = (λ e. refl, λ e. refl)
returns-clause-relay_place c relay.Client relay.Client = (λ e. refl, λ e. refl)
returns-clause-relay_place c relay.Server relay.Server = (λ e. refl, λ e. refl)
returns-clause-relay_place c relay.Turns relay.Turns = (λ e. refl, λ e. refl)
returns-clause-relay_place c x y = (λ e. absurd cc, λ e. absurd cc)

pub returns-clause-pool_place : goal.returns-clause-pool_place
returns-clause-pool_place c pool.Start pool.Start = (λ e. refl, λ e. refl)
returns-clause-pool_place c pool.Config pool.Config = (λ e. refl, λ e. refl)
returns-clause-pool_place c pool.Nonce pool.Nonce = (λ e. refl, λ e. refl)
returns-clause-pool_place c pool.Limit pool.Limit = (λ e. refl, λ e. refl)
returns-clause-pool_place c pool.Cut pool.Cut = (λ e. refl, λ e. refl)
returns-clause-pool_place c pool.Server pool.Server = (λ e. refl, λ e. refl)
returns-clause-pool_place c pool.Call pool.Call = (λ e. refl, λ e. refl)
returns-clause-pool_place c x y = (λ e. absurd cc, λ e. absurd cc)
