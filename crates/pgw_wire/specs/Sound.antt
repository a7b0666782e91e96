-- What every list of the program is: its texts are UTF-8, and its numbers fit.
use Rattle.std.specs.Prelude.{ℕ, ℤ, List, ◌<◌, ◌^◌, FitsSigned, IsUtf8}
use Rattle.std.specs.List.{AllByRecursion}
use Rattle.std.specs.Int.{w16}

abbrev pub AreTexts : List (List ℕ) → Type 0
AreTexts ts = AllByRecursion IsUtf8 ts

-- an object identifier has 32 bits
abbrev pub IsOid : ℕ → Type 0
IsOid n = n < 2 ^ 32

abbrev pub AreOids : List ℕ → Type 0
AreOids oids = AllByRecursion IsOid oids

-- a format code has 16 bits
abbrev pub IsCode : ℤ → Type 0
IsCode z = FitsSigned w16 z

abbrev pub AreCodes : List ℤ → Type 0
AreCodes codes = AllByRecursion IsCode codes
