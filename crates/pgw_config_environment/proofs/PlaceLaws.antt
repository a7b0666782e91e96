-- One more place.
use Rattle.std.proofs.Common.{◌≡◌, ◌+◌, ℕ, suc, List, [], ◌∷◌, ◌++◌, refl, arith}
use Rattle.pgw_config.specs.declared.config.Config.{Config}
use Rattle.pgw_config_environment.specs.Places.{first_places, config_at_place}

pub none_first : (config : Config) → first_places config 0 ≡ []
unfolding first_places
none_first config = refl

pub one_more : (config : Config) (n : ℕ) → first_places config (n + 1)
    ≡ first_places config n ++ config_at_place config n ∷ []
unfolding first_places
one_more config n =
    let e : n + 1 ≡ suc n = omega arith in
    rw e refl
