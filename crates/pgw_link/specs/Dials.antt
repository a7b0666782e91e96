-- What a dialer tells of its dials and of its links, and what its calls do.
use Rattle.std.specs.Prelude.{◌≡◌, ◌<◌, ◌≤◌, ℕ, List, [], ◌∷◌, ◌++◌, Bool, true, false, Option, Some, Result, Ok, Err}
use Rattle.pgw_types.specs.declared.address.Address.{Address}
use Rattle.pgw_link.specs.declared.dialer.DialError.{DialError}
use Rattle.pgw_link.specs.declared.dialer.DialError.TheVariants as error
use Rattle.pgw_types.specs.Counts.{Rose}
use Rattle.pgw_link.specs.Tape.{Tape, new_tape}

-- the addresses that were dialled, and whether a link was made; what the links that were closed told then
pub record DialTape : Type 0 where
  pub dialled : List (Address × Bool)
  pub shut : List Tape

-- the tape of a dialer of which no call was made
abbrev pub new_dials : DialTape
new_dials = record { dialled = []; shut = [] }

-- a dial made a new link to this address
pub record Dialled (to : Address) (old new : DialTape) (link : Tape) : Type 0 where
  pub dialled : new.dialled ≡ old.dialled ++ (to, true) ∷ []
  pub fresh : link ≡ new_tape
  pub shut : new.shut ≡ old.shut

-- a dial to this address made no link
pub record NotDialled (to : Address) (old new : DialTape) : Type 0 where
  pub dialled : new.dialled ≡ old.dialled ++ (to, false) ∷ []
  pub shut : new.shut ≡ old.shut

-- a link that told this was closed
pub record Shut (old new : DialTape) (link : Tape) : Type 0 where
  pub dialled : new.dialled ≡ old.dialled
  pub shut : new.shut ≡ old.shut ++ link ∷ []

-- the count of faults rose where the dial failed, and stayed elsewhere
abbrev pub CountsDial : {T : Type 0} → ℕ → ℕ → Result T DialError → Type 0
CountsDial before now (Ok link) = now ≡ before
CountsDial before now (Err error.Fault) = (before ≤ now) × Rose before now
CountsDial before now (Err error.OutOfMemory) = now ≡ before

-- the count of faults rose where the closed link had faults, and stayed elsewhere
pub record CountsClose (before now link_faults : ℕ) : Type 0 where
  pub later : before ≤ now
  pub failed : 0 < link_faults → Rose before now
  pub clean : link_faults ≡ 0 → now ≡ before

-- the next of the links offered was made, which has its own bytes to come; the others are offered still
pub record MakesNext (was is : Option (List (List ℕ))) (left : Option (List ℕ)) : Type 0 where
  pub bytes : List ℕ
  pub more : List (List ℕ)
  pub offered : was ≡ Some (bytes ∷ more)
  pub own : left ≡ Some bytes
  pub still : is ≡ Some more
