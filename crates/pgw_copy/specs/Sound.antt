-- What every message of the program is: its texts are UTF-8, and its numbers fit.
use Rattle.std.specs.Prelude.{ℤ, List, FitsSigned, IsUtf8}
use Rattle.std.specs.List.{AllByRecursion}
use Rattle.std.specs.Int.{w8, w16}
use Rattle.pgw_wire.specs.Sound.{IsCode}
use Rattle.pgw_copy.specs.declared.data.CopyFail.{CopyFail}

abbrev pub IsCopyFail : CopyFail → Type 0
IsCopyFail m = IsUtf8 m.message

-- the format of all, the number of columns, and the format of each
abbrev pub AreColumns : ℤ → ℤ → List ℤ → Type 0
AreColumns format columns codes =
    FitsSigned w8 format × FitsSigned w16 columns × AllByRecursion IsCode codes
