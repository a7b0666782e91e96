-- The lines of bytes of a relay script.
use Rattle.std.proofs.Common.{◌≡◌, ℕ, List, false, Option, Some, None, refl}
use Rattle.pgw_prog_script.specs.declared.relay_line.RelayLine.TheVariants as line
use Rattle.pgw_prog_script.specs.declared.relay_script.RelayPlace.{RelayPlace}
use Rattle.pgw_prog_script.specs.declared.relay_script.RelayPlace.TheVariants as place
use Rattle.pgw_prog_script.specs.declared.relay_script.RelayScript.{RelayScript}
use Rattle.pgw_prog_script.specs.Form.{step}
use Rattle.pgw_prog_script.specs.RequestLine.{make_line}
use Rattle.pgw_prog_script.specs.RelayScript.{relay_follows, relay_form}

-- they may not stand here, whatever they say
pub no_client : (p : RelayPlace) (s : RelayScript) (o : Option (List ℕ)) → relay_follows p place.Client ≡ false
    → step relay_form p s (make_line line.Client o) ≡ None
no_client p s None barred = refl
no_client p s (Some bytes) barred = rw barred refl

pub no_server : (p : RelayPlace) (s : RelayScript) (o : Option (List ℕ)) → relay_follows p place.Server ≡ false
    → step relay_form p s (make_line line.Server o) ≡ None
no_server p s None barred = refl
no_server p s (Some bytes) barred = rw barred refl
