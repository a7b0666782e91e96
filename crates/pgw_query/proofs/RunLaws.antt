-- Rows as they lie: what spells them, and what is read off.
use Rattle.std.specs.Prelude.{slice_index, slice_range}
use Rattle.std.proofs.Common.{◌≡◌, ℕ, zero, suc, ◌+◌, ◌-◌, ◌<◌, ◌≤◌, List, [], ◌∷◌, ◌++◌, length, take, drop, refl, sym, ap, subst, ◌∙◌, arith, append_assoc, length-append, length-drop, drop-drop, take-add, take_at, drop_at, length-take-le, take-append-drop}
use Rattle.std.proofs.Math.Seq.{take-length}
use Rattle.std.proofs.lemmas.List.{length_push, append-nil}
use Rattle.std.proofs.lemmas.Grind.{flat_map-append}
use Rattle.std.specs.Int.{w16, w32, from_be_bytes, cast_signed}
use Rattle.pgw_query.specs.declared.data.DataRow.{DataRow}
use Rattle.pgw_query.specs.declared.run.Run.{Run}
use Rattle.pgw_query.specs.declared.run.Run.TheVariants as kind
use Rattle.pgw_query.specs.Runs.{AreRuns, HasHead, HasNoRow, IsRun, IsSpan, SpellsRow, SpellsRows, StandsTo, MovesRows, row_end, row_in, rows_from, rows_in, rows_of, run_rows}

-- `&bytes[at..]`
pub rest_of : (bytes : List ℕ) (at : ℕ) → take (length bytes - at) (drop at bytes) ≡ drop at bytes
rest_of bytes at = rw (← length-drop at bytes) (take-length (drop at bytes))

-- the parts of a row's message
record Parts (row : DataRow) (g : List ℕ) : Type 0 where
  head : List ℕ
  count : List ℕ
  whole : g ≡ 68 ∷ (head ++ (count ++ row.payload))
  four : length head ≡ 4
  two : length count ≡ 2
  stated : from_be_bytes w32 head ≡ length row.payload + 6
  counted : cast_signed w16 (from_be_bytes w16 count) ≡ row.field_count
  within : length row.payload + 6 ≤ 2147483647

parts_of : (row : DataRow) (g : List ℕ) → SpellsRow row g → Parts row g
parts_of row g s =
    let body : s.1 ≡ s.5.0 ++ row.payload = s.5.2 ∙ ap (λ (r : List ℕ). s.5.0 ++ r) s.5.4 in
    let long : length s.1 ≡ length row.payload + 2 =
    omega (arith, ap length body, length-append s.5.0 row.payload, s.5.3.0) in
    record {
      head = s.0;
      count = s.5.0;
      whole = s.2 ∙ ap (λ (b : List ℕ). 68 ∷ (s.0 ++ b)) body;
      four = s.3.0;
      two = s.5.3.0;
      stated = s.3.1 ∙ omega (arith, long);
      counted = s.5.3.1;
      within = omega (arith, long, s.4);
    }

-- what is read off where a row stands whole at the front
pub record FirstIs (row : DataRow) (g rest bytes : List ℕ) : Type 0 where
  pub byte : slice_index bytes 0 ≡ 68
  pub ends : row_end bytes ≡ length g
  pub least : 7 ≤ length g
  pub most : length g ≤ 2147483648
  pub whole : length g ≤ length bytes
  pub row_is : row_in bytes ≡ row
  pub rest_is : drop (row_end bytes) bytes ≡ rest

read_off : (row : DataRow) (g rest bytes : List ℕ) (p : Parts row g)
    → bytes ≡ 68 ∷ (p.head ++ (p.count ++ (row.payload ++ rest))) → FirstIs row g rest bytes
read_off row g rest bytes p is =
    let n = length row.payload in
    let stated : take 4 (drop 1 bytes) ≡ p.head =
    ap (λ (b : List ℕ). take 4 (drop 1 b)) is ∙ take_at p.head _ 4 p.four in
    let ends : row_end bytes ≡ 7 + n = omega (arith, ap (from_be_bytes w32) stated, p.stated) in
    let behind : drop 5 bytes ≡ p.count ++ (row.payload ++ rest) = ap (drop 5) is ∙ drop_at p.head _ 4 p.four in
    let counted : take 2 (drop 5 bytes) ≡ p.count = ap (take 2) behind ∙ take_at p.count _ 2 p.two in
    let left : drop 7 bytes ≡ row.payload ++ rest =
    sym (drop-drop 2 5 bytes) ∙ ap (drop 2) behind ∙ drop_at p.count _ 2 p.two in
    let payload : slice_range bytes 7 (row_end bytes) ≡ row.payload =
    ap (take (row_end bytes - 7)) left ∙ take_at row.payload rest (row_end bytes - 7) (omega (arith, ends)) in
    let long : length g ≡ 7 + n =
    ap length p.whole
    ∙ omega (
      arith,
      length-append p.head (p.count ++ row.payload),
      length-append p.count row.payload,
      p.four,
      p.two,
    ) in
    record {
      byte = ap (λ (b : List ℕ). slice_index b 0) is;
      ends = omega (arith, ends, long);
      least = omega (arith, long);
      most = omega (arith, long, p.within);
      whole =
          omega (
            arith,
            long,
            ap length is,
            length-append p.head (p.count ++ (row.payload ++ rest)),
            length-append
                p.count (row.payload ++ rest),
            length-append row.payload rest,
            p.four,
            p.two,
          );
      row_is = rw (payload, counted, p.counted) refl;
      rest_is =
          ap (λ (k : ℕ). drop k bytes) ends ∙ sym (drop-drop n 7 bytes) ∙ ap (drop n) left
          ∙ drop_at row.payload rest n refl;
    }

pub first_is : (row : DataRow) (g rest bytes : List ℕ) → SpellsRow row g → bytes ≡ g ++ rest
    → FirstIs row g rest bytes
first_is row g rest bytes s is =
    let p = parts_of row g s in
    read_off row g rest bytes p (is ∙ ap (λ (l : List ℕ). l ++ rest) p.whole
    ∙ ap (λ (l : List ℕ). 68 ∷ l) (append_assoc p.head (p.count ++ row.payload) rest
    ∙ ap (λ (l : List ℕ). p.head ++ l) (append_assoc p.count row.payload rest)))

-- ---- rows in turn

-- what the bytes of some rows are read as
pub rows_are : (rows : List DataRow) (bytes : List ℕ) → SpellsRows rows bytes → rows_in (length rows) bytes ≡ rows
rows_are [] bytes s = refl
rows_are (row ∷ rows) bytes s =
    let f = first_is row s.0 s.1 bytes s.3 s.2 in
    rw (f.row_is, f.rest_is) (ap (λ (l : List DataRow). row ∷ l) (rows_are rows s.1 s.4))

-- the first of some rows, and the others
pub record Begins (n : ℕ) (bytes : List ℕ) : Type 0 where
  pub head : HasHead bytes
  pub are : rows_in n bytes ≡ row_in bytes ∷ rows_in (n - 1) (drop (row_end bytes) bytes)
  pub others : SpellsRows (rows_in (n - 1) (drop (row_end bytes) bytes)) (drop (row_end bytes) bytes)

pub begins : (n : ℕ) (bytes : List ℕ) → 0 < n → SpellsRows (rows_in n bytes) bytes → Begins n bytes
begins zero bytes some s = absurd (omega (arith, some))
begins (suc n) bytes some s =
    let f = first_is (row_in bytes) s.0 s.1 bytes s.3 s.2 in
    let rest = drop (row_end bytes) bytes in
    let same : n ≡ suc n - 1 = omega arith in
    record {
      head = (omega (arith, f.ends, f.least), omega (arith, f.ends, f.whole));
      are = ap (λ (k : ℕ). row_in bytes ∷ rows_in k rest) same;
      others =
          subst (λ (k : ℕ). SpellsRows (rows_in k rest) rest) same
          (subst (λ (l : List ℕ). SpellsRows (rows_in n rest) l) (sym f.rest_is) s.4);
    }

-- ---- looking for them

-- a row stands where its length, its type byte and enough bytes do
pub stands : (bytes : List ℕ) (len : ℕ) → slice_index bytes 0 ≡ 68
    → from_be_bytes w32 (take 4 (drop 1 bytes)) ≡ len → 6 ≤ len → len ≤ 2147483647 → len + 1 ≤ length bytes
    → StandsTo bytes (len + 1)
stands [] len byte stated least most whole = absurd (omega (arith, whole))
stands (b ∷ bs) len byte stated least most whole =
    let n = len - 6 in
    let head = take 4 bs in
    let count = take 2 (drop 4 bs) in
    let payload = take n (drop 6 bs) in
    let parts : len + 1 ≡ suc (4 + (2 + n)) = omega (arith, least) in
    let all : take (len + 1) (b ∷ bs) ≡ 68 ∷ (head ++ (count ++ payload)) =
    ap (λ (k : ℕ). take k (b ∷ bs)) parts
    ∙ ap (λ (x : ℕ). x ∷ take (4 + (2 + n)) bs) byte
    ∙ ap (λ (l : List ℕ). 68 ∷ l) (take-add 4 (2 + n) bs
    ∙ ap (λ (l : List ℕ). head ++ l) (take-add 2 n (drop 4 bs)
    ∙ ap (λ (l : List ℕ). count ++ take n l) (drop-drop 2 4 bs))) in
    let four : length head ≡ 4 = omega (arith, length-take-le 4 bs (omega (arith, whole))) in
    let two : length count ≡ 2 =
    omega (arith, length-take-le 2 (drop 4 bs) (omega (arith, whole, length-drop 4 bs))) in
    let long : length payload ≡ n = length-take-le n (drop 6 bs) (omega (arith, whole, length-drop 6 bs)) in
    let body : length (count ++ payload) + 4 ≡ len =
    omega (arith, length-append count payload, two, long, least) in
    record {
      row = record { field_count = cast_signed w16 (from_be_bytes w16 count); payload = payload };
      spelled = (
        head,
        count ++ payload,
        all,
        (
          four,
          stated
              ∙ sym body,
        ),
        omega (arith, body, most),
        (count, payload, refl, (two, refl), refl),
      );
      some = omega arith;
      whole = whole;
    }

-- where one would have to, none does
pub none_short : (bytes : List ℕ) → length bytes < 7 → HasNoRow bytes
none_short bytes short row g rest s is =
    let f = first_is row g rest bytes s is in absurd (omega (arith, short, f.least, f.whole))

-- one row more
spells_on : (rows : List DataRow) (row : DataRow) (g h : List ℕ) → SpellsRows rows g → SpellsRow row h
    → SpellsRows (rows ++ row ∷ []) (g ++ h)
spells_on [] row g h s t = (h, [], ap (λ (l : List ℕ). l ++ h) s ∙ sym (append-nil h), t, refl)
spells_on (first ∷ rows) row g h s t =
    (s.0, s.1 ++ h, ap (λ (l : List ℕ). l ++ h) s.2 ∙ append_assoc s.0 s.1 h, s.3, spells_on rows row s.1 h s.4 t)

-- so many rows stand up to a place
pub record Spans (bytes : List ℕ) (rows end : ℕ) : Type 0 where
  pub done : List DataRow
  pub within : end ≤ length bytes
  pub fewer : rows ≤ end
  pub spelled : SpellsRows done (take end bytes)
  pub counted : length done ≡ rows

pub spans_none : (bytes : List ℕ) → Spans bytes 0 0
spans_none bytes = record { done = []; within = omega arith; fewer = omega arith; spelled = refl; counted = refl }

pub spans_on : (bytes : List ℕ) (rows end len : ℕ) → Spans bytes rows end → StandsTo (drop end bytes) len
    → Spans bytes (rows + 1) (end + len)
spans_on bytes rows end len s t = record {
  done = s.done ++ t.row ∷ [];
  within = omega (arith, s.within, t.whole, length-drop end bytes);
  fewer = omega (arith, s.fewer, t.some);
  spelled =
      subst (λ (l : List ℕ). SpellsRows (s.done ++ t.row ∷ []) l) (sym (take-add end len bytes))
      (spells_on s.done t.row (take end bytes) (take len (drop end bytes)) s.spelled t.spelled);
  counted = length_push s.done t.row ∙ ap (λ (n : ℕ). n + 1) s.counted;
}

none_then : (done : List DataRow) (bytes : List ℕ) (end : ℕ) → end ≤ length bytes
    → SpellsRows done (take end bytes) → length done ≡ 0 → end ≡ 0
none_then [] bytes end within s none = omega (arith, sym (length-take-le end bytes within) ∙ ap length s)
none_then (row ∷ rows) bytes end within s none = absurd (omega (arith, none))

pub spans_all : (bytes : List ℕ) (rows end : ℕ) → Spans bytes rows end → HasNoRow (drop end bytes)
    → IsSpan bytes (record { rows = rows; end = end })
spans_all bytes rows end s none = record {
  within = s.within;
  spelled =
      subst (λ (rs : List DataRow). SpellsRows rs (take end bytes))
      (sym (ap (λ (n : ℕ). rows_in n (take end bytes)) (sym s.counted)
      ∙ rows_are s.done (take end bytes) s.spelled)) s.spelled;
  none = λ is. none_then s.done bytes end s.within s.spelled (s.counted ∙ is);
  all = none;
}

-- ---- runs

-- as many as are read
pub rows_counted : (n : ℕ) (bytes : List ℕ) → length (rows_in n bytes) ≡ n
rows_counted zero bytes = refl
rows_counted (suc n) bytes = ap suc (rows_counted n (drop (row_end bytes) bytes))

-- one run more
are_on : (runs : List Run) (r : Run) → AreRuns runs → IsRun r → AreRuns (runs ++ r ∷ [])
are_on [] r are is = (is, tt)
are_on (first ∷ runs) r are is = (are.0, are_on runs r are.1 is)

rows_on : (runs : List Run) (r : Run) → rows_of (runs ++ r ∷ []) ≡ rows_of runs ++ run_rows r
rows_on runs r =
    flat_map-append run_rows runs (r ∷ [])
    ∙ ap (λ (l : List DataRow). rows_of runs ++ l) (append-nil (run_rows r))

-- what taking the rows at a front leaves
pub record Taken (runs new : List Run) (bytes left : List ℕ) (n : ℕ) : Type 0 where
  pub are : AreRuns new
  pub counted : length (rows_of new) ≡ length (rows_of runs) + n
  pub takes : MovesRows (rows_of runs) (rows_of new) bytes left n

pub taken : (runs new : List Run) (bytes run left : List ℕ) (n end : ℕ) → AreRuns runs
    → IsSpan bytes (record { rows = n; end = end }) → 0 < n → run ≡ slice_range bytes 0 end
    → new ≡ runs ++ kind.Messages n run ∷ [] → left ≡ drop end bytes → Taken runs new bytes left n
taken runs new bytes run left n end are span some cut is rest =
    let front : run ≡ take end bytes = cut ∙ ap (λ (k : ℕ). take k bytes) (omega arith) in
    let spelled : SpellsRows (rows_in n run) run =
    subst (λ (l : List ℕ). SpellsRows (rows_in n l) l) (sym front) span.spelled in
    let rows : rows_of new ≡ rows_of runs ++ rows_in n run = ap rows_of is ∙ rows_on runs (kind.Messages n run) in
    record {
      are = subst AreRuns (sym is) (are_on runs (kind.Messages n run) are (some, spelled));
      counted =
          ap length rows ∙ length-append (rows_of runs) (rows_in n run)
          ∙ ap (λ (k : ℕ). length (rows_of runs) + k) (rows_counted n run);
      takes = record {
        rows = rows_in n run;
        taken = run;
        spelled = spelled;
        cut = sym (take-append-drop end bytes) ∙ ap (λ (l : List ℕ). l ++ drop end bytes) (sym front)
            ∙ ap (λ (l : List ℕ). run ++ l) (sym rest);
        put = rows;
        counted = sym (rows_counted n run);
      };
    }

-- none was there to take
pub none_taken : (rows : List DataRow) (bytes : List ℕ) → MovesRows rows rows bytes bytes 0
none_taken rows bytes =
    record { rows = []; taken = []; spelled = refl; cut = refl; put = sym (append-nil rows); counted = refl }

-- a run of messages is opened
pub record Opened (count : ℕ) (bytes : List ℕ) (others : List Run) : Type 0 where
  pub some : 0 < count
  pub spelled : SpellsRows (rows_in count bytes) bytes
  pub others_are : AreRuns others

pub opened : (runs others : List Run) (first : Run) (count : ℕ) (bytes : List ℕ) → runs ≡ first ∷ others
    → first ≡ kind.Messages count bytes → AreRuns runs → Opened count bytes others
opened runs others first count bytes is what are =
    let h = subst AreRuns (is ∙ ap (λ (r : Run). r ∷ others) what) are in
    record { some = h.0.0; spelled = h.0.1; others_are = h.1 }

-- with no row left of the run before, the first of a run of messages comes next
pub next_of_run : (now : List DataRow) (left count : ℕ) (rest bytes slice behind : List ℕ)
    (runs others : List Run) (first : Run) (row : DataRow)
    → rows_from left rest runs ≡ now → left ≤ 0 → runs ≡ first ∷ others → first ≡ kind.Messages count bytes
    → AreRuns runs
    → slice ≡ bytes → row ≡ row_in slice → behind ≡ drop (row_end slice) slice
    → now ≡ row ∷ rows_from (count - 1) behind others
next_of_run now left count rest bytes slice behind runs others first row view over is what are same row_is
    behind_is =
    let o = opened runs others first count bytes is what are in
    let b = begins count bytes o.some o.spelled in
    let none : left ≡ 0 = omega (arith, over) in
    sym view
    ∙ ap (λ (k : ℕ). rows_from k rest runs) none
    ∙ ap rows_of (is ∙ ap (λ (r : Run). r ∷ others) what)
    ∙ ap (λ (l : List DataRow). l ++ rows_of others) b.are
    ∙ ap (λ (l : List ℕ). row_in l ∷ rows_from (count - 1) (drop (row_end l) l) others) (sym same)
    ∙ ap (λ (l : List ℕ). row_in slice ∷ rows_from (count - 1) l others) (sym behind_is)
    ∙ ap (λ (r : DataRow). r ∷ rows_from (count - 1) behind others) (sym row_is)
