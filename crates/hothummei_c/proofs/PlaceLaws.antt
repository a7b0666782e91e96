-- Where rows lie.
use Rattle.std.proofs.Common.{◌≡◌, ℕ, zero, suc, ◌+◌, ◌-◌, ◌<◌, ◌≤◌, List, [], ◌∷◌, ◌++◌, length, drop, take, Option, Some, None, Result, Ok, Err, refl, sym, ap, subst, ◌∙◌, arith, append_assoc, length-drop}
use Rattle.std.specs.Prelude.{slice_get, OnOk}
use Rattle.std.proofs.lemmas.List.{append-nil, drop-drop}
use Rattle.pgw_query.specs.declared.data.DataRow.{DataRow}
use Rattle.pgw_query.specs.declared.run.Run.{Run}
use Rattle.pgw_query.specs.declared.run.Run.TheVariants as kind
use Rattle.pgw_query.specs.Runs.{AreRuns, HasHead, IsRun, SpellsRows, row_end, row_in, rows_in, rows_of, run_rows}
use Rattle.pgw_query.proofs.RunLaws.{begins}
use Rattle.hothummei_c.specs.declared.places.RowPlace.{RowPlace}
use Rattle.hothummei_c.specs.Places.{AddsMessages, AddsRun, LiesIn, LocatesAll, LocatesRow, messages_from, rows_in_run}

-- the rows of a run of messages lie where they are looked for
pub messages_lie : (runs : List Run) (run count : ℕ) (bytes : List ℕ)
    → slice_get runs run ≡ Some (kind.Messages count bytes) → (n at : ℕ)
    → SpellsRows (rows_in n (drop at bytes)) (drop at bytes)
    → LocatesAll runs (messages_from run n at bytes) (rows_in n (drop at bytes))
messages_lie runs run count bytes is zero at s = tt
messages_lie runs run count bytes is (suc n) at s =
    let here = drop at bytes in
    let b = begins (suc n) here (omega arith) s in
    let next : drop (row_end here) here ≡ drop (at + row_end here) bytes = drop-drop (row_end here) at bytes in
    let less : suc n - 1 ≡ n = omega arith in
    let others : SpellsRows (rows_in n (drop (row_end here) here)) (drop (row_end here) here) =
    subst (λ (k : ℕ). SpellsRows (rows_in k (drop (row_end here) here)) (drop (row_end here) here)) less
    b.others in
    let spelled : SpellsRows (rows_in n (drop (at + row_end here) bytes)) (drop (at + row_end here) bytes) =
    subst (λ (l : List ℕ). SpellsRows (rows_in n l) l) next others in (
      subst (λ (o : Option Run). LiesIn o at (row_in here)) (sym is) (b.head, refl),
      subst (λ (l : List ℕ). LocatesAll runs (messages_from run n (at + row_end here) bytes) (rows_in n l))
          (sym next) (messages_lie runs run count bytes is n (at + row_end here) spelled),
    )

-- places and others behind them
pub lie_behind : (runs : List Run) (places more : List RowPlace) (rows others : List DataRow)
    → LocatesAll runs places rows → LocatesAll runs more others
    → LocatesAll runs (places ++ more) (rows ++ others)
lie_behind runs [] more [] others l m = m
lie_behind runs [] more (row ∷ rows) others l m = absurd l
lie_behind runs (place ∷ places) more [] others l m = absurd l
lie_behind runs (place ∷ places) more (row ∷ rows) others l m =
    (l.0, lie_behind runs places more rows others l.1 m)

-- as many places as rows
pub as_many : (runs : List Run) (places : List RowPlace) (rows : List DataRow) → LocatesAll runs places rows
    → length places ≡ length rows
as_many runs [] [] l = refl
as_many runs [] (row ∷ rows) l = absurd l
as_many runs (place ∷ places) [] l = absurd l
as_many runs (place ∷ places) (row ∷ rows) l = ap suc (as_many runs places rows l.1)

-- the place by a number locates the row by that number
pub lies_at : (runs : List Run) (places : List RowPlace) (rows : List DataRow) (i : ℕ) (place : RowPlace)
    → LocatesAll runs places rows → slice_get places i ≡ Some place
    → (row : DataRow) × (slice_get rows i ≡ Some row) × LocatesRow runs place row
lies_at runs [] rows i place l is = absurd (cc)
lies_at runs (p ∷ places) [] i place l is = absurd l
lies_at runs (p ∷ places) (row ∷ rows) zero place l is =
    (row, refl, subst (λ (q : RowPlace). LocatesRow runs q row) (cc) l.0)
lies_at runs (p ∷ places) (row ∷ rows) (suc i) place l is = lies_at runs places rows i place l.1 is

pub none_at : (runs : List Run) (places : List RowPlace) (rows : List DataRow) (i : ℕ)
    → LocatesAll runs places rows → slice_get places i ≡ None → slice_get rows i ≡ None
none_at runs [] [] i l is = refl
none_at runs [] (row ∷ rows) i l is = absurd l
none_at runs (place ∷ places) [] i l is = absurd l
none_at runs (place ∷ places) (row ∷ rows) zero l is = absurd (cc)
none_at runs (place ∷ places) (row ∷ rows) (suc i) l is = none_at runs places rows i l.1 is

-- no two rows lie at a place
pub one_lies : (run : Option Run) (at : ℕ) (row other : DataRow) → LiesIn run at row → LiesIn run at other
    → row ≡ other
one_lies None at row other l m = absurd l
one_lies (Some (kind.Messages count bytes)) at row other l m = sym l.1 ∙ m.1
one_lies (Some (kind.Row alone)) at row other l m = sym l ∙ m

-- ---- adding the places of a run

-- what is left to be added, behind what was
pub record Adding (run count : ℕ) (bytes : List ℕ) (before now : List RowPlace) (left at : ℕ) : Type 0 where
  pub within : at ≤ length bytes
  pub spelled : SpellsRows (rows_in left (drop at bytes)) (drop at bytes)
  pub places : now ++ messages_from run left at bytes ≡ before ++ messages_from run count 0 bytes

-- the head of the next row stands there, and another place is behind it
pub record Next (run count : ℕ) (bytes : List ℕ) (before now : List RowPlace) (left at : ℕ) : Type 0 where
  pub head : HasHead (drop at bytes)
  pub room : at + row_end (drop at bytes) ≤ length bytes
  pub next : (more : List RowPlace) → more ≡ now ++ record { run = run; at = at } ∷ []
      → Adding run count bytes before more (left - 1) (at + row_end (drop at bytes))

pub adds : (run count : ℕ) (bytes : List ℕ) (before now : List RowPlace) (left at : ℕ) → 0 < left
    → Adding run count bytes before now left at → Next run count bytes before now left at
adds run count bytes before now zero at some a = absurd (omega (arith, some))
adds run count bytes before now (suc n) at some a =
    let here = drop at bytes in
    let b = begins (suc n) here (omega arith) a.spelled in
    let less : suc n - 1 ≡ n = omega arith in
    let long = length-drop at bytes in
    let room : at + row_end here ≤ length bytes = omega (arith, b.head.1, long, a.within) in
    record {
      head = b.head;
      room = room;
      next = λ more is. record {
        within = room;
        spelled =
            subst (λ (l : List ℕ). SpellsRows (rows_in (suc n - 1) l) l) (drop-drop (row_end here) at bytes)
            b.others;
        places =
            ap (λ (k : ℕ). more ++ messages_from run k (at + row_end here) bytes) less
            ∙ ap (λ (l : List RowPlace). l ++ messages_from run n (at + row_end here) bytes) is
            ∙ append_assoc now (record { run = run; at = at } ∷ [])
            (messages_from run n (at + row_end here) bytes)
            ∙ a.places;
      };
    }

pub added : (run count : ℕ) (bytes : List ℕ) (before now : List RowPlace) (left at : ℕ) → left ≡ 0
    → Adding run count bytes before now left at → now ≡ before ++ messages_from run count 0 bytes
added run count bytes before now left at is a =
    sym (append-nil now) ∙ ap (λ (k : ℕ). now ++ messages_from run k at bytes) (sym is) ∙ a.places

-- what holds where a call is Ok holds so of what follows
pub on_ok : {X E : Type 0} {P Q : Type 0} (r : Result X E) → (P → Q) → OnOk r P → OnOk r Q
on_ok (Ok x) f p = f p
on_ok (Err e) f p = tt

pub adds_messages : (runs : List Run) (run count : ℕ) (bytes : List ℕ) (here : Run) (old new : List RowPlace)
    → slice_get runs run ≡ Some here → here ≡ kind.Messages count bytes → IsRun here
    → AddsMessages run count bytes old new → AddsRun runs run old new
adds_messages runs run count bytes here old new stands is run_is adds =
    let there : slice_get runs run ≡ Some (kind.Messages count bytes) = stands ∙ ap Some is in
    let spelled = (subst IsRun is run_is).1 in (
      messages_from run count 0 bytes,
      adds,
      subst
          (λ (o : Option Run). LocatesAll runs (messages_from run count 0 bytes) (rows_in_run o)) (sym there)
          (messages_lie runs run count bytes there count 0 spelled),
    )

pub adds_row : (runs : List Run) (run : ℕ) (row : DataRow) (here : Run) (old new : List RowPlace)
    → slice_get runs run ≡ Some here → here ≡ kind.Row row → new ≡ old ++ record { run = run; at = 0 } ∷ []
    → AddsRun runs run old new
adds_row runs run row here old new stands is put =
    let there : slice_get runs run ≡ Some (kind.Row row) = stands ∙ ap Some is in (
      record { run = run; at = 0 } ∷ [],
      put,
      subst
          (λ (o : Option Run). LocatesAll runs (record { run = run; at = 0 } ∷ []) (rows_in_run o)) (sym there)
          (subst (λ (o : Option Run). LiesIn o 0 row) (sym there) refl, tt),
    )

pub adds_none : (runs : List Run) (run : ℕ) (old : List RowPlace) → slice_get runs run ≡ None
    → AddsRun runs run old old
adds_none runs run old none =
    ([], sym (append-nil old), subst (λ (o : Option Run). LocatesAll runs [] (rows_in_run o)) (sym none) tt)

-- each run is one
pub run_is : (runs : List Run) (n : ℕ) (here : Run) → AreRuns runs → slice_get runs n ≡ Some here → IsRun here
run_is [] n here are e = absurd (cc)
run_is (r ∷ runs) zero here are e = subst IsRun (cc) are.0
run_is (r ∷ runs) (suc n) here are e = run_is runs n here are.1 e

-- ---- the places of all runs

rows_before : (all : List Run) (n : ℕ)
    → rows_of (take (suc n) all) ≡ rows_of (take n all) ++ rows_in_run (slice_get all n)
rows_before [] zero = refl
rows_before [] (suc n) = refl
rows_before (x ∷ all) zero = append-nil (run_rows x)
rows_before (x ∷ all) (suc n) =
    ap (λ (l : List DataRow). run_rows x ++ l) (rows_before all n)
    ∙ sym (append_assoc (run_rows x) (rows_of (take n all)) (rows_in_run (slice_get all n)))

pub next_run : (runs : List Run) (run : ℕ) (places more : List RowPlace)
    → LocatesAll runs places (rows_of (take run runs)) → AddsRun runs run places more
    → LocatesAll runs more (rows_of (take (run + 1) runs))
next_run runs run places more l a =
    let same : suc run ≡ run + 1 = omega arith in
    let all : rows_of (take (run + 1) runs) ≡ rows_of (take run runs) ++ rows_in_run (slice_get runs run) =
    ap (λ (k : ℕ). rows_of (take k runs)) (sym same) ∙ rows_before runs run in
    subst (λ (ps : List RowPlace). LocatesAll runs ps (rows_of (take (run + 1) runs))) (sym a.1)
    (subst (LocatesAll runs (places ++ a.0)) (sym all)
    (lie_behind runs places a.0 (rows_of (take run runs)) (rows_in_run (slice_get runs run)) l a.2))
