-- Rows that are taken together are heard one after the other.
use Rattle.std.proofs.Common.{◌≡◌, ℕ, List, [], ◌∷◌, ◌++◌, Bool, true, false, Option, Some, None, Result, Ok, Err, refl, ap, sym, subst, ◌∙◌, append_assoc}
use Rattle.std.proofs.lemmas.List.{append-nil}
use Rattle.std.specs.Prelude.{IfOk}
use Rattle.std.specs.Option.{is_some}
use Rattle.pgw_types.specs.declared.memory.OutOfMemory.{OutOfMemory}
use Rattle.pgw_query.specs.declared.data.DataRow.{DataRow}
use Rattle.pgw_query.specs.Runs.{MovesRows}
use Rattle.pgw_session.specs.declared.tally.Tally.{Tally}
use Rattle.pgw_session.specs.declared.tally.Opened.{Opened}
use Rattle.pgw_handlers.specs.Simple as simple
use Rattle.pgw_handlers.specs.Extended as extended
use Rattle.pgw_handlers_default.specs.declared.simple.DefaultSimpleQueryHandler.{DefaultSimpleQueryHandler}
use Rattle.pgw_handlers_default.specs.declared.extended.DefaultExtendedQueryHandler.{DefaultExtendedQueryHandler}
use Rattle.pgw_handlers_default.specs.Simple.{QueryMeans}
use Rattle.pgw_handlers_default.specs.Extended.{ExtendedMeans}

-- ---- of a simple query

-- with this result open, and no error
abbrev open_at : Tally → Opened → DefaultSimpleQueryHandler
open_at t opened = record { tally = record t { opened = Some opened; remote = None } }

abbrev with_rows : Opened → List DataRow → Opened
with_rows opened rows = record opened { rows = opened.rows ++ rows }

rows_heard : (t : Tally) (opened : Opened) (rows : List DataRow)
    → simple.HearsRows QueryMeans rows (open_at t opened) (open_at t (with_rows opened rows))
rows_heard t opened [] =
    subst (λ (l : List DataRow).
    simple.HearsRows QueryMeans [] (open_at t opened) (open_at t (record opened { rows = l })))
    (sym (append-nil opened.rows)) (simple.none (open_at t opened))
rows_heard t opened (row ∷ rows) =
    let one = with_rows opened (row ∷ []) in
    let rest = subst (λ (l : List DataRow).
    simple.HearsRows QueryMeans rows (open_at t one) (open_at t (record opened { rows = l })))
    (append_assoc opened.rows (row ∷ []) rows) (rows_heard t one rows) in
    simple.hears row rows (open_at t opened) (open_at t one) (open_at t (with_rows opened (row ∷ rows)))
    (λ seen. (refl, refl)) rest

-- the rows of an open result
rows_noted : (t new : Tally) (opened : Opened) (put : List DataRow) (old_bytes new_bytes : List ℕ) (count : ℕ)
    → t.opened ≡ Some opened → t.remote ≡ None
    → new ≡ record t { opened = Some (record opened { rows = put }) }
    → MovesRows opened.rows put old_bytes new_bytes count
    → simple.TakesSimpleRows QueryMeans (record { tally = t }) (record { tally = new }) old_bytes new_bytes count
rows_noted t new opened put old_bytes new_bytes count is fine so m =
    let was : t ≡ record t { opened = Some opened; remote = None } =
    ap (λ o. record t { opened = o }) is ∙ ap (λ e. record t { opened = Some opened; remote = e }) fine in
    let now : new ≡ record t { opened = Some (with_rows opened m.rows); remote = None } =
    so ∙ ap (λ e. record t { opened = Some (record opened { rows = put }); remote = e }) fine
    ∙ ap (λ (l : List DataRow). record t { opened = Some (record opened { rows = l }); remote = None }) m.put in
    record {
      rows = m.rows;
      taken = m.taken;
      spelled = m.spelled;
      cut = m.cut;
      heard =
          subst (λ (x : Tally). simple.HearsRows QueryMeans m.rows (record { tally = x })
          (record { tally = new })) (sym was)
          (subst (λ (x : Tally). simple.HearsRows QueryMeans m.rows (open_at t opened) (record { tally = x }))
          (sym now)
          (rows_heard t opened m.rows));
      counted = m.counted;
    }

none_of : {A : Type 0} (o : Option A) (b : Bool) → b ≡ false → b ≡ is_some o → o ≡ None
none_of None b e f = refl
none_of (Some x) b e f = absurd cc

pub rows_noted_on : (t : Tally) (opened : Opened) (put : List DataRow) (old_bytes new_bytes : List ℕ)
    (failed : Bool) (result : Result ℕ OutOfMemory)
    → t.opened ≡ Some opened → failed ≡ false → failed ≡ is_some t.remote
    → IfOk result (MovesRows opened.rows put old_bytes new_bytes)
    → IfOk result (simple.TakesSimpleRows QueryMeans (record { tally = t })
    (record { tally = record t { opened = Some (record opened { rows = put }) } }) old_bytes new_bytes)
rows_noted_on t opened put old_bytes new_bytes failed (Ok count) is e f m =
    rows_noted t (record t { opened = Some (record opened { rows = put }) }) opened put old_bytes new_bytes count
    is (none_of t.remote failed e f) refl m
rows_noted_on t opened put old_bytes new_bytes failed (Err why) is e f m = tt

-- ---- of extended queries

rows_given : (h : DefaultExtendedQueryHandler) (rows : List DataRow)
    → extended.HearsRows ExtendedMeans rows rows h h
rows_given h [] = extended.none h
rows_given h (row ∷ rows) = extended.hears row row rows rows h h h (λ seen. (refl, refl)) (rows_given h rows)

rows_kept : (h : DefaultExtendedQueryHandler) (old new : List DataRow) (old_bytes new_bytes : List ℕ) (count : ℕ)
    → MovesRows old new old_bytes new_bytes count
    → extended.TakesExtendedRows ExtendedMeans h h old new old_bytes new_bytes count
rows_kept h old new old_bytes new_bytes count m = record {
  rows = m.rows;
  made = m.rows;
  taken = m.taken;
  spelled = m.spelled;
  cut = m.cut;
  heard = rows_given h m.rows;
  put = m.put;
  counted = m.counted;
}

pub rows_kept_on : (h : DefaultExtendedQueryHandler) (old new : List DataRow) (old_bytes new_bytes : List ℕ)
    (result : Result ℕ OutOfMemory)
    → IfOk result (MovesRows old new old_bytes new_bytes)
    → IfOk result (extended.TakesExtendedRows ExtendedMeans h h old new old_bytes new_bytes)
rows_kept_on h old new old_bytes new_bytes (Ok count) m = rows_kept h old new old_bytes new_bytes count m
rows_kept_on h old new old_bytes new_bytes (Err e) m = tt
