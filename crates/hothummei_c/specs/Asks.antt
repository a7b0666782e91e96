-- Requests that are added one by one.
use Rattle.std.specs.Prelude.{◌≡◌, ◌⊎◌, ◌<◌, ℕ, zero, suc, pos, List, [], ◌∷◌, ◌++◌, Option, Result, Ok, Err}
use Rattle.pgw_types.specs.declared.memory.OutOfMemory.{OutOfMemory}
use Rattle.pgw_session.specs.declared.types.Request.{Request}
use Rattle.pgw_session.specs.declared.types.Request.TheVariants as request
use Rattle.pgw_session.specs.declared.types.Target.{Target}
use Rattle.pgw_session.specs.declared.types.Target.TheVariants as target
use Rattle.hothummei_c.specs.declared.session.Session.{Session}
use Rattle.hothummei_c.specs.Session.{AsksWithin}
use Rattle.hothummei_c.specs.Codes.{out_of_memory}
use Rattle.pgw_wire.specs.Reading.{name_of}

-- a request that was made is the last one now, or memory was wanting
abbrev pub AddsRequest : Session → Session → Result Request OutOfMemory → ℕ → Type 0
AddsRequest old new (Ok request) result =
    ((result ≡ 0) × (new ≡ record old { requests = old.requests ++ request ∷ [] }))
    ⊎ ((result ≡ out_of_memory) × (new ≡ old))
AddsRequest old new (Err e) result = (result ≡ out_of_memory) × (new ≡ old)

abbrev pub AsksRows : Session → Session → List ℕ → ℕ → ℕ → Type 0
AsksRows old new portal rows result =
    AsksWithin old new (2147483647 < rows) portal (request.Execute (name_of portal) (pos rows))
    result

-- a statement or a portal
abbrev pub numbered_target : ℕ → Option (List ℕ) → Target
numbered_target zero name = target.Statement name
numbered_target (suc n) name = target.Portal name

abbrev pub AddsParameter : Session → Session → Option (List ℕ) → ℕ → Type 0
AddsParameter old new value result =
    ((result ≡ 0) × (new ≡ record old { parameters = old.parameters ++ value ∷ [] }))
    ⊎ ((result ≡ out_of_memory) × (new ≡ old))
