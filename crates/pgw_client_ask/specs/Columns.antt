-- Columns of a result, by their names.
use Rattle.std.specs.Prelude.{◌≡◌, ◌≢◌, ℕ, ◌<◌, List, length}
use Rattle.std.specs.List.{AllWithin, HoldsAt}
use Rattle.pgw_query.specs.declared.field_info.FieldInfo.{FieldInfo}

-- a column of this name stands at this place, and none before it has the name
pub record IsFirstColumn (fields : List FieldInfo) (name : List ℕ) (place : ℕ) : Type 0 where
  pub within : place < length fields
  pub named : HoldsAt (λ f. f.name ≡ name) fields place
  pub others : AllWithin (λ f. f.name ≢ name) fields 0 place
