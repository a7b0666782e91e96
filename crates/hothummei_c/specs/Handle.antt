-- What lies behind a handle.
use Rattle.std.specs.Prelude.{ℕ}
use Rattle.std.specs.Ptr.{Ptr, block_ptr, null_ptr, room_at, lies_at}
use base.Fraction.{full_share}
use base.Fml.{Fml, ftrue, ffalse, fsep, fex, feq}
use Rattle.hothummei_c.specs.declared.session.Session.{Session}
use Rattle.hothummei_c.specs.contracts.session.Session.{the_row}

-- room for a session, at the start of a block
abbrev pub room_at_start : Ptr → Fml
room_at_start (block_ptr b o) = fsep (feq ℕ o 0) (room_at the_row (block_ptr b o))
room_at_start null_ptr = ffalse

-- a session lies there, at the start of a block; null has none
abbrev pub session_at : Ptr → Session → Fml
session_at (block_ptr b o) s = fsep (feq ℕ o 0) (lies_at the_row full_share (block_ptr b o) s)
session_at null_ptr s = ftrue

-- a session lies there of which this holds; or the handle is null, and that holds
abbrev pub session_or_null : Ptr → (Session → Type 0) → Type 0 → Fml
session_or_null (block_ptr b o) Is Null =
    fex Session (λ s. fsep (session_at (block_ptr b o) s) (fex (Is s) (λ _. ftrue)))
session_or_null null_ptr Is Null = fex Null (λ _. ftrue)

-- room again
abbrev pub room_behind : Ptr → Fml
room_behind (block_ptr b o) = room_at_start (block_ptr b o)
room_behind null_ptr = ftrue
