-- Rows that are added up.
use Rattle.std.proofs.Common.{◌≡◌, ◌<◌, ◌≤◌, ◌+◌, ℕ, zero, suc, List, [], ◌∷◌, ◌++◌, length, take, get_or, Result, Ok, Err, refl, ap, sym, subst, ◌∙◌, append_assoc, arith}
use Rattle.std.proofs.lemmas.List.{append-nil, length-append}
use Rattle.std.specs.Result.{OnErr}
use Rattle.pgw_prog_sessions.specs.declared.summary.TooManyRows.{TooManyRows}
use Rattle.std.proofs.lemmas.Grind.{flat_map-append}
use Rattle.std.specs.List.{flat_map}
use Rattle.pgw_query.specs.declared.data.DataRow.{DataRow}
use Rattle.sha2.specs.Sha256.{sha256}
use Rattle.pgw_session.specs.declared.types.SessionReport.{SessionReport}
use Rattle.pgw_prog_sessions.specs.declared.summary.GenSummary.{GenSummary}
use Rattle.pgw_prog_sessions.specs.declared.summary.Sum.{Sum}
use Rattle.pgw_prog_sessions.specs.Summary.{AddsRowsToSum, AreTooMany, IsSum, payloads, report_rows, summary_of}

-- none
pub adds_none : (sum : Sum) → AddsRowsToSum [] sum sum
adds_none sum rows is = subst (λ (rs : List DataRow). IsSum sum rs) (sym (append-nil rows)) is

-- some, and others behind them
pub adds_on : (first mid last : Sum) (more behind : List DataRow) → AddsRowsToSum more first mid
    → AddsRowsToSum behind mid last → AddsRowsToSum (more ++ behind) first last
adds_on first mid last more behind one two rows is =
    subst (λ (rs : List DataRow). IsSum last rs) (append_assoc rows more behind)
    (two (rows ++ more) (one rows is))

-- one item more of a list
pub adds_item : {X : Type 0} (f : X → List DataRow) (first mid last : Sum) (done : List X) (x : X)
    → AddsRowsToSum (flat_map f done) first mid → AddsRowsToSum (f x) mid last
    → AddsRowsToSum (flat_map f (done ++ x ∷ [])) first last
adds_item f first mid last done x one two =
    subst (λ (rs : List DataRow). AddsRowsToSum rs first last) (sym (flat_map-append f done (x ∷ [])
    ∙ ap (λ (l : List DataRow). flat_map f done ++ l) (append-nil (f x))))
    (adds_on first mid last (flat_map f done) (f x) one two)

-- the payloads of one row more
pub payload_on : (rows done : List DataRow) (row : DataRow)
    → payloads (rows ++ done) ++ row.payload ≡ payloads (rows ++ (done ++ row ∷ []))
payload_on rows done row =
    sym (ap payloads (sym (append_assoc rows done (row ∷ [])))
    ∙ flat_map-append (λ (r : DataRow). r.payload) (rows ++ done) (row ∷ [])
    ∙ ap (λ (l : List ℕ). payloads (rows ++ done) ++ l) (append-nil row.payload))

-- how many rows, and their digest
pub summary_is : (rows : ℕ) (digest : List ℕ) (report : SessionReport) → rows ≡ length (report_rows report)
    → digest ≡ sha256 (payloads (report_rows report))
    → ◌≡◌ {A = GenSummary} (record { rows = rows; digest = digest }) (summary_of report)
summary_is rows digest report count hashed = rw (count, hashed) refl

-- ---- more than can be counted

-- those of the first items and of the next are among those of all
at_item : {X : Type 0} (f : X → List DataRow) (xs : List X) (i : ℕ) (x : X) → i < length xs → x ≡ get_or xs i x
    → length (flat_map f (take i xs)) + length (f x) ≤ length (flat_map f xs)
at_item f [] i x lt is = absurd (omega (arith, lt))
at_item f (y ∷ ys) zero x lt is =
    let same : length (f x) ≡ length (f y) = ap (λ z. length (f z)) is in
    omega (arith, same, length-append (f y) (flat_map f ys))
at_item f (y ∷ ys) (suc i) x lt is =
    let behind = at_item f ys i x (omega (arith, lt)) is in
    omega (arith, behind, length-append (f y) (flat_map f ys), length-append (f y) (flat_map f (take i ys)))

pub too_many_at : {X : Type 0} (f : X → List DataRow) (xs : List X) (i : ℕ) (x : X) (first mid : Sum)
    → i < length xs → x ≡ get_or xs i x → AddsRowsToSum (flat_map f (take i xs)) first mid → AreTooMany (f x) mid
    → AreTooMany (flat_map f xs) first
too_many_at f xs i x first mid lt is adds many rows sum =
    let done = flat_map f (take i xs) in
    let more = many (rows ++ done) (adds rows sum) in
    let part = at_item f xs i x lt is in
    omega (
      arith,
      more,
      part,
      length-append (rows ++ done) (f x),
      length-append rows done,
      length-append rows
          (flat_map f xs),
    )

pub at_err : {T P : Type 0} (r : Result T TooManyRows) → P → OnErr r P
at_err (Ok value) p = tt
at_err (Err e) p = p
