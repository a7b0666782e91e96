-- Rows that wait: the first of a run lies where it is looked for.
use Rattle.std.specs.Prelude.{slice_range}
use Rattle.std.proofs.Common.{◌≡◌, ℕ, ℤ, ◌+◌, ◌-◌, ◌<◌, ◌≤◌, List, ◌∷◌, ◌++◌, length, take, drop, sym, ap, subst, ◌∙◌, arith, drop-drop, length-drop}
use Rattle.std.specs.Vec.Iter.{into_iter_items}
use Rattle.pgw_query.specs.declared.data.DataRow.{DataRow}
use Rattle.pgw_rows.specs.declared.unread.Unread.{Unread}
use Rattle.pgw_rows.specs.declared.unread.RowPlace.{RowPlace}
use Rattle.pgw_query.specs.Runs.{SpellsRows, row_end, row_in, rows_in, rows_of}
use Rattle.pgw_rows.specs.Unread.{IsRowPlace, IsUnread, row_at}
use Rattle.pgw_query.proofs.RunLaws.{Begins, begins}

-- the first row of the run
pub first_of : (u : Unread) → IsUnread u → 0 < u.left → Begins u.left (drop u.at u.bytes)
first_of u are some = begins u.left (drop u.at u.bytes) some are.1.0

pub ends_within : (u : Unread) → IsUnread u → 0 < u.left → u.at + row_end (drop u.at u.bytes) ≤ length u.bytes
ends_within u are some = let b = first_of u are some in omega (arith, b.head.1, are.0, length-drop u.at u.bytes)

pub is_place : (u : Unread) (place : RowPlace) → IsUnread u → 0 < u.left
    → place.field_count ≡ (row_in (drop u.at u.bytes)).field_count → place.from ≡ u.at + 7
    → place.to ≡ u.at + row_end (drop u.at u.bytes) → IsRowPlace u place
is_place u place are some count from to =
    let rest = drop u.at u.bytes in
    let end = row_end rest in
    let b = first_of u are some in
    let behind : drop end rest ≡ drop place.to u.bytes =
    drop-drop end u.at u.bytes ∙ ap (λ (k : ℕ). drop k u.bytes) (sym to) in
    let start : drop 7 rest ≡ drop place.from u.bytes =
    drop-drop 7 u.at u.bytes ∙ ap (λ (k : ℕ). drop k u.bytes) (sym from) in
    let long : end - 7 ≡ place.to - place.from = omega (arith, from, to) in
    let payload : slice_range rest 7 end ≡ slice_range u.bytes place.from place.to =
    ap (λ (k : ℕ). take k (drop 7 rest)) long ∙ ap (take (place.to - place.from)) start in
    let made : ℤ → List ℕ → DataRow = λ count payload. record { field_count = count; payload = payload } in
    let row : row_in rest ≡ row_at u place =
    ap (made (row_in rest).field_count) payload
    ∙ ap (λ (n : ℤ). made n (slice_range u.bytes place.from place.to)) (sym count) in
    let others : SpellsRows (rows_in (u.left - 1) (drop place.to u.bytes)) (drop place.to u.bytes) =
    subst (λ (l : List ℕ). SpellsRows (rows_in (u.left - 1) l) l) behind b.others in
    record {
      ordered = omega (arith, from, to, b.head.0);
      within = omega (arith, to, ends_within u are some);
      rows = ap (λ (l : List DataRow). l ++ rows_of (into_iter_items u.runs)) (b.are
          ∙ ap (λ (l : List ℕ). row_in rest ∷ rows_in (u.left - 1) l) behind
          ∙ ap (λ (r : DataRow). r ∷ rows_in (u.left - 1) (drop place.to u.bytes)) row);
      others = (omega (arith, to, ends_within u are some), (others, are.1.1));
    }
