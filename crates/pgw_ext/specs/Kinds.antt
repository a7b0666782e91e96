-- Kinds of fields that the extended query has of its own (PostgreSQL 18, section 54.7, Message Formats).
use Rattle.std.specs.Prelude.{ℕ, List, [], ◌∷◌, Bool, false, Option, Some, None}
use Rattle.pgw_wire.specs.Writing.{text, has_zero}

-- ---- names

-- a text, or the empty one for none
unfoldable pub name : Option (List ℕ) → List ℕ
name None = 0 ∷ []
name (Some t) = text t

-- a name with a zero byte has no spelling
abbrev pub is_name_refused : Option (List ℕ) → Bool
is_name_refused None = false
is_name_refused (Some t) = has_zero t
