-- A file is read line by line from its front.
use Rattle.std.proofs.Common.{◌≡◌, ℕ, ◌+◌, ◌<◌, ◌≤◌, ◌-◌, ◌==◌, Bool, true, false, not, inl, inr, List, [], ◌∷◌, ◌++◌, length, take, drop, map, get_or, drop-cons, add-one, append_assoc, Some, None, refl, sym, ap, subst, ◌∙◌, arith}
use Rattle.std.specs.List.{list_all, slice_split, slice_range}
use Rattle.std.proofs.lemmas.Bool.{and_parts, not-true}
use Rattle.std.proofs.lemmas.List.{take_more, take-append-drop, append-nil, length-append, length-take-le}
use Rattle.std.proofs.Math.Seq.{take-append_seam, drop-append-add}
use Rattle.pgw_secrets.specs.declared.password_file.Entry.{Entry}
use Rattle.pgw_secrets.specs.Found.{Lacks}
use Rattle.pgw_secrets.specs.PasswordFile.{WritesPassField, nothing, itself, is_colon, without_return, ends_in_return, file_lines, AreEntries, ended, passed_over, taken, IsFile}
use Rattle.pgw_secrets.specs.PasswordReader.{EntryParts, AreParts, passfile_line, BeginsFile, AddsPasswordEntry, is_special, is_escape, colon_from}
use Rattle.pgw_secrets.proofs.Marks.{lacks_append}
use Rattle.pgw_secrets.proofs.Fields.{colon_behind}

-- ---- lines

split_at : (front rest : List ℕ) → Lacks 10 front
    → slice_split (λ b. b == 10) (front ++ 10 ∷ rest) ≡ front ∷ slice_split (λ b. b == 10) rest
split_at [] rest h = refl
split_at (b ∷ front) rest h =
    let q = and_parts (not (b == 10)) (list_all (λ b. not (b == 10)) front) h in
    rw (not-true (b == 10) q.0, split_at front rest q.1) refl

split_none : (text : List ℕ) → Lacks 10 text → slice_split (λ b. b == 10) text ≡ text ∷ []
split_none [] h = refl
split_none (b ∷ text) h =
    let q = and_parts (not (b == 10)) (list_all (λ b. not (b == 10)) text) h in
    rw (not-true (b == 10) q.0, split_none text q.1) refl

pub first_line : (text : List ℕ) (at : ℕ) → Lacks 10 (take at text)
    → text ≡ take at text ++ 10 ∷ drop (at + 1) text
    → file_lines text ≡ without_return (take at text) ∷ file_lines (drop (at + 1) text)
first_line text at free cut =
    ap file_lines cut ∙ ap (map without_return) (split_at (take at text) (drop (at + 1) text) free)

pub last_line : (text : List ℕ) → Lacks 10 text → file_lines text ≡ without_return text ∷ []
last_line text free = ap (map without_return) (split_none text free)

-- ---- where a line ends

pub passed_more : (mark : ℕ) (text : List ℕ) (i : ℕ) → i < length text → (get_or text i 0 == mark) ≡ false
    → Lacks mark (take i text) → Lacks mark (take (i + 1) text)
passed_more mark text i below other free =
    let one : Lacks mark (get_or text i 0 ∷ []) = rw other refl in
    subst (Lacks mark) (sym (take_more text i 0 below))
    (lacks_append mark (take i text) (get_or text i 0 ∷ []) free one)

pub ends_here : (mark : ℕ) (text : List ℕ) (i : ℕ) → i < length text → get_or text i 0 ≡ mark
    → text ≡ take i text ++ mark ∷ drop (i + 1) text
ends_here mark text i below is =
    let rest : drop i text ≡ get_or text i 0 ∷ drop (i + 1) text = rw add-one (drop-cons text i 0 below) in
    sym (take-append-drop i text)
    ∙ ap (λ (l : List ℕ). take i text ++ l) (rest ∙ ap (λ b. b ∷ drop (i + 1) text) is)

-- ---- a step

goes_by : (line : List ℕ) (lines : List (List ℕ)) (entries new more : List Entry)
    → AddsPasswordEntry line entries new → AreEntries lines more
    → (rest : List Entry) × AreEntries (line ∷ lines) rest × (entries ++ rest ≡ new ++ more)
goes_by line lines entries new more (inl (e, is, n)) h =
    (e ∷ more, taken is h, sym (ap (λ (l : List Entry). l ++ more) n ∙ append_assoc entries (e ∷ []) more))
goes_by line lines entries new more (inr (none, n)) h =
    (more, passed_over none h, ap (λ (l : List Entry). l ++ more) (sym n))

pub goes_on : (bytes text behind : List ℕ) (line : List ℕ) (entries new more : List Entry)
    → file_lines text ≡ line ∷ file_lines behind → AddsPasswordEntry line entries new
    → ((m : List Entry) → IsFile text m → IsFile bytes (entries ++ m)) → IsFile behind more
    → IsFile bytes (new ++ more)
goes_on bytes text behind line entries new more lines adds so_far h =
    let g = goes_by line (file_lines behind) entries new more adds h in
    subst (IsFile bytes) g.2 (so_far g.0 (subst (λ (l : List (List ℕ)). AreEntries l g.0) (sym lines) g.1))

pub ends : (bytes text line : List ℕ) (entries new : List Entry) → file_lines text ≡ line ∷ []
    → AddsPasswordEntry line entries new
    → ((m : List Entry) → IsFile text m → IsFile bytes (entries ++ m)) → IsFile bytes new
ends bytes text line entries new lines adds so_far =
    let g = goes_by line [] entries new [] adds ended in
    subst (IsFile bytes) (g.2
    ∙ append-nil new) (so_far g.0 (subst (λ (l : List (List ℕ)). AreEntries l g.0) (sym lines) g.1))

-- ---- what stands at the front of a file's rest

pub cut_front : (text rest : List ℕ) → BeginsFile text rest → slice_range rest 0 (length text) ≡ text
cut_front text rest h =
    let all : slice_range rest 0 (length text) ≡ take (length text) rest = grind (arith) in
    all ∙ ap (take (length text)) h.cut ∙ take-append_seam text h.behind

pub front_fits : (text rest : List ℕ) → BeginsFile text rest → length text ≤ length rest
front_fits text rest h = omega (arith, ap length h.cut, length-append text h.behind)

pub head_begins : (head tail rest : List ℕ) → BeginsFile (head ++ 58 ∷ tail) rest → BeginsFile head rest
head_begins head tail rest h =
    record { behind = 58 ∷ tail ++ h.behind; cut = h.cut ∙ append_assoc head (58 ∷ tail) h.behind }

pub tail_begins : (head tail rest : List ℕ) → BeginsFile (head ++ 58 ∷ tail) rest
    → BeginsFile tail (drop (length head + 1) rest)
tail_begins head tail rest h = record {
  behind = h.behind;
  cut = ap (drop (length head + 1)) (h.cut ∙ append_assoc head (58 ∷ tail) h.behind)
      ∙ drop-append-add head (58 ∷ (tail ++ h.behind)) 1;
}

pub tail_fits : (head tail rest : List ℕ) → BeginsFile (head ++ 58 ∷ tail) rest → length head + 1 ≤ length rest
tail_fits head tail rest h = omega (arith, front_fits (head ++ 58 ∷ tail) rest h, length-append head (58 ∷ tail))

returned_by : (line : List ℕ) (b : Bool) → ends_in_return line ≡ b → BeginsFile (without_return line) line
returned_by line true e =
    record { behind = drop (length line - 1) line; cut = rw e (sym (take-append-drop (length line - 1) line)) }
returned_by line false e = record { behind = []; cut = rw e (sym (append-nil line)) }

pub line_begins : (end : ℕ) (rest : List ℕ) → BeginsFile (without_return (take end rest)) rest
line_begins end rest =
    let h = returned_by (take end rest) (ends_in_return (take end rest)) refl in
    record {
      behind = h.behind ++ drop end rest;
      cut = sym (take-append-drop end rest)
          ∙ ap (λ (l : List ℕ). l ++ drop end rest) h.cut
          ∙ append_assoc (without_return (take end rest)) h.behind (drop end rest);
    }

pub parts_begin : (line rest : List ℕ) (parts : EntryParts) → AreParts line parts → BeginsFile line rest
    → BeginsFile (passfile_line parts) rest
parts_begin line rest parts h begins =
    let whole : line ≡ passfile_line parts =
    h.first.cut
    ∙ ap (λ (l : List ℕ). parts.host ++ 58 ∷ l) (h.second.cut
    ∙ ap (λ (l : List ℕ). parts.port ++ 58 ∷ l) (h.third.cut
    ∙ ap (λ (l : List ℕ). parts.database ++ 58 ∷ l) h.fourth.cut)) in
    subst (λ (l : List ℕ). BeginsFile l rest) whole begins

pub next_begins : (head tail rest old new : List ℕ) → BeginsFile (head ++ 58 ∷ tail) rest → old ≡ rest
    → new ≡ drop (length head + 1) old → BeginsFile tail new
next_begins head tail rest old new h same advanced =
    subst (BeginsFile tail) (sym (advanced ∙ ap (drop (length head + 1)) same)) (tail_begins head tail rest h)

pub shorter : (text : List ℕ) (at : ℕ) → text ≡ take at text ++ 10 ∷ drop (at + 1) text
    → length (drop (at + 1) text) < length text
shorter text at cut = omega (arith, ap length cut, length-append (take at text) (10 ∷ drop (at + 1) text))

-- ---- the first colon or backslash

pub neither : (b : ℕ) (s t : Bool) → (b == 58) ≡ s → (b == 92) ≡ t → is_special b ≡ false
    → ((b == 58) ≡ false) × ((b == 92) ≡ false)
neither b true t e f h =
    let x : is_special b ≡ true = rw e refl in let y : true ≡ false = sym x ∙ h in absurd (cc)
neither b false true e f h =
    let x : is_special b ≡ true = rw (e, f) refl in let y : true ≡ false = sym x ∙ h in absurd (cc)
neither b false false e f h = (e, f)

pub both_passed : (text : List ℕ) (i : ℕ) → i < length text → is_special (get_or text i 0) ≡ false
    → Lacks 58 (take i text) × Lacks 92 (take i text)
    → Lacks 58 (take (i + 1) text) × Lacks 92 (take (i + 1) text)
both_passed text i below none free =
    let q = neither (get_or text i 0) (get_or text i 0 == 58) (get_or text i 0 == 92) refl refl none in
    (passed_more 58 text i below q.0 free.0, passed_more 92 text i below q.1 free.1)

writes_itself : (text : List ℕ) → Lacks 58 text → Lacks 92 text → WritesPassField is_colon text text
writes_itself [] a b = nothing
writes_itself (c ∷ text) a b =
    let p = and_parts (not (c == 58)) (list_all (λ b. not (b == 58)) text) a in
    let q = and_parts (not (c == 92)) (list_all (λ b. not (b == 92)) text) b in
    itself (not-true (c == 92) q.0) (not-true (c == 58) p.0) (writes_itself text p.1 q.1)

pub colon_found : (text : List ℕ) (at : ℕ) → at < length text → Lacks 58 (take at text) → Lacks 92 (take at text)
    → get_or text at 0 ≡ 58 → Some at ≡ colon_from false 0 text
colon_found text at below a b is =
    let cut = ends_here 58 text at below is in
    let found =
    colon_behind (take at text) (drop (at + 1) text) (take at text) 0 (writes_itself (take at text) a b) in
    let long : 0 + length (take at text) ≡ at = omega (arith, length-take-le at text (omega (arith, below))) in
    sym (ap (colon_from false 0) cut ∙ found ∙ ap (λ n. Some n) long)

pub no_colon : (text : List ℕ) (s : Bool) (n : ℕ) → Lacks 58 text → None ≡ colon_from s n text
unfolding colon_from
no_colon [] s n h = refl
no_colon (c ∷ text) true n h =
    no_colon text (is_escape true c) (n + 1) (and_parts (not (c == 58)) (list_all (λ b. not (b == 58)) text) h).1
no_colon (c ∷ text) false n h =
    let q = and_parts (not (c == 58)) (list_all (λ b. not (b == 58)) text) h in
    rw (not-true (c == 58) q.0) (no_colon text (is_escape false c) (n + 1) q.1)
