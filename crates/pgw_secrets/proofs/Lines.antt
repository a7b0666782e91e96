-- The entries of a file are read in one way.
use Rattle.std.proofs.Common.{◌≡◌, ℕ, ◌+◌, ◌<◌, ◌==◌, Bool, true, false, not, inl, inr, List, [], ◌∷◌, ◌++◌, length, take, drop, get_or, drop-cons, add-one, Result, Ok, Err, Option, Some, None, refl, sym, ap, subst, ◌∙◌}
use Rattle.std.proofs.lemmas.List.{take-append-drop}
use Rattle.std.specs.Prelude.{slice_index}
use Rattle.std.specs.List.{list_all}
use Rattle.pgw_secrets.specs.declared.password_file.Entry.{Entry}
use Rattle.std.specs.Result.{OnOk}
use Rattle.pgw_secrets.specs.Lookup.{IsFirstEntry}
use Rattle.pgw_secrets.specs.PasswordFile.{IsEntry, AreEntries, ended, passed_over, taken}
use Rattle.pgw_secrets.specs.PasswordReader.{value_from, IsCutAtColon, CutAt, EntryParts, AreParts, CutsIn, PartsIn, entry_of, AddsPasswordEntry}
use Rattle.pgw_secrets.proofs.Fields.{password_same, password_is, field_once, field_writes, field_same, field_is}

-- ---- parts

cut_once : (text f r g s : List ℕ) → IsCutAtColon text f r → IsCutAtColon text g s → (f ≡ g) × (r ≡ s)
cut_once text f r g s a b =
    field_once text f r (value_from false f) g s (value_from false g) a.cut a.writes b.cut b.writes

pub entry_parts : (line : List ℕ) (e : Entry) → IsEntry line e
    → (parts : EntryParts) × AreParts line parts × (entry_of parts ≡ e)
entry_parts line e h =
    let behind_database = h.user ++ 58 ∷ h.password in
    let behind_port = h.database ++ 58 ∷ behind_database in
    let behind_host = h.port ++ 58 ∷ behind_port in
    let parts : EntryParts =
    record { host = h.host; port = h.port; database = h.database; user = h.user; password = h.password } in (
      parts,
      record {
        behind_host = behind_host;
        behind_port = behind_port;
        behind_database = behind_database;
        first = record { cut = h.cut; writes = field_writes h.host e.host h.is_host };
        second = record { cut = refl; writes = field_writes h.port e.port h.is_port };
        third = record { cut = refl; writes = field_writes h.database e.database h.is_database };
        fourth = record { cut = refl; writes = field_writes h.user e.user h.is_user };
      },
      λ i. record {
        host = field_same h.host e.host h.is_host i;
        port = field_same h.port e.port h.is_port i;
        database = field_same h.database e.database h.is_database i;
        user = field_same h.user e.user h.is_user i;
        password = password_same h.password e.password h.is_password i;
      },
    )

pub parts_entry : (line : List ℕ) (parts : EntryParts) → (slice_index line 0 == 35) ≡ false → AreParts line parts
    → IsEntry line (entry_of parts)
parts_entry line parts plain h = record {
  host = parts.host;
  port = parts.port;
  database = parts.database;
  user = parts.user;
  password = parts.password;
  cut = h.first.cut
      ∙ ap (λ (l : List ℕ). parts.host ++ 58 ∷ l) (h.second.cut
      ∙ ap (λ (l : List ℕ). parts.port ++ 58 ∷ l) (h.third.cut
      ∙ ap (λ (l : List ℕ). parts.database ++ 58 ∷ l) h.fourth.cut));
  no_comment = plain;
  is_host = field_is parts.host h.first.writes;
  is_port = field_is parts.port h.second.writes;
  is_database = field_is parts.database h.third.writes;
  is_user = field_is parts.user h.fourth.writes;
  is_password = password_is parts.password;
}

parts_once : (line : List ℕ) (p q : EntryParts) → AreParts line p → AreParts line q → p ≡ q
parts_once line p q a b =
    let one = cut_once line p.host a.behind_host q.host b.behind_host a.first b.first in
    let two =
    cut_once b.behind_host p.port a.behind_port q.port b.behind_port
    (subst (λ (l : List ℕ). IsCutAtColon l p.port a.behind_port) one.1 a.second) b.second in
    let three =
    cut_once b.behind_port p.database a.behind_database q.database b.behind_database
    (subst (λ (l : List ℕ). IsCutAtColon l p.database a.behind_database) two.1 a.third) b.third in
    let four =
    cut_once b.behind_database p.user p.password q.user q.password
    (subst (λ (l : List ℕ). IsCutAtColon l p.user p.password) three.1 a.fourth) b.fourth in
    λ i. record { host = one.0 i; port = two.0 i; database = three.0 i; user = four.0 i; password = four.1 i }

pub entry_once : (line : List ℕ) (a b : Entry) → IsEntry line a → IsEntry line b → a ≡ b
entry_once line a b x y =
    let p = entry_parts line a x in
    let q = entry_parts line b y in
    sym p.2 ∙ ap entry_of (parts_once line p.0 q.0 p.1 q.1) ∙ q.2

-- ---- where no part is found

pub no_first : (line : List ℕ) → CutAt line None → (parts : EntryParts) → AreParts line parts → ⊥
no_first line none parts h =
    none parts.host h.behind_host (value_from false parts.host) h.first.cut h.first.writes

pub no_second : (line host behind : List ℕ) → IsCutAtColon line host behind → CutAt behind None
    → (parts : EntryParts) → AreParts line parts → ⊥
no_second line host behind first none parts h =
    let one = cut_once line parts.host h.behind_host host behind h.first first in
    none parts.port h.behind_port (value_from false parts.port) (sym one.1 ∙ h.second.cut) h.second.writes

pub no_third : (line host behind port more : List ℕ) → IsCutAtColon line host behind
    → IsCutAtColon behind port more → CutAt more None → (parts : EntryParts) → AreParts line parts → ⊥
no_third line host behind port more first second none parts h =
    let one = cut_once line parts.host h.behind_host host behind h.first first in
    let two =
    cut_once behind parts.port h.behind_port port more
    (subst (λ (l : List ℕ). IsCutAtColon l parts.port h.behind_port) one.1 h.second) second in
    none parts.database h.behind_database (value_from false parts.database) (sym two.1
    ∙ h.third.cut) h.third.writes

pub no_fourth : (line host behind port more database rest : List ℕ) → IsCutAtColon line host behind
    → IsCutAtColon behind port more → IsCutAtColon more database rest → CutAt rest None → (parts : EntryParts)
    → AreParts line parts → ⊥
no_fourth line host behind port more database rest first second third none parts h =
    let one = cut_once line parts.host h.behind_host host behind h.first first in
    let two =
    cut_once behind parts.port h.behind_port port more
    (subst (λ (l : List ℕ). IsCutAtColon l parts.port h.behind_port) one.1 h.second) second in
    let three =
    cut_once more parts.database h.behind_database database rest
    (subst (λ (l : List ℕ). IsCutAtColon l parts.database h.behind_database) two.1 h.third) third in
    none parts.user parts.password (value_from false parts.user) (sym three.1 ∙ h.fourth.cut) h.fourth.writes

-- ---- a line

pub comment : (line : List ℕ) → (slice_index line 0 == 35) ≡ true → (e : Entry) → IsEntry line e → ⊥
comment line hash e h = let both : true ≡ false = sym hash ∙ h.no_comment in cc

pub in_parts : (line : List ℕ) (found : Option EntryParts) → (slice_index line 0 == 35) ≡ false
    → CutsIn line found → PartsIn line found
in_parts line None plain none = λ e h. let p = entry_parts line e h in none p.0 p.1
in_parts line (Some parts) plain h = (plain, h)

pub adds_none : (line : List ℕ) (entries : List Entry) (found : Option EntryParts) → PartsIn line found
    → found ≡ None → AddsPasswordEntry line entries entries
adds_none line entries None h e = inr (h, refl)
adds_none line entries (Some parts) h e = cc

pub adds_one : (line : List ℕ) (entries more : List Entry) (parts : EntryParts) (entry : Entry)
    → PartsIn line (Some parts) → entry ≡ entry_of parts → more ≡ entries ++ entry ∷ []
    → AddsPasswordEntry line entries more
adds_one line entries more parts entry h is m =
    inl (entry, subst (IsEntry line) (sym is) (parts_entry line parts h.0 h.1), m)

-- ---- lines

same_more : (a b : Entry) (xs ys : List Entry) → a ≡ b → xs ≡ ys → (let l : List Entry = a ∷ xs in l ≡ b ∷ ys)
same_more a b xs ys e f = cc

pub same_entries : (lines : List (List ℕ)) (a b : List Entry) → AreEntries lines a → AreEntries lines b → a ≡ b
same_entries lines a b ended ended = refl
same_entries lines a b (passed_over {lines = more} n h) (passed_over m k) = same_entries more a b h k
same_entries lines a b (passed_over n h) (taken {entry = e} is k) = absurd (n e is)
same_entries lines a b (taken {entry = e} is h) (passed_over n k) = absurd (n e is)
same_entries lines a b (taken {line = line} {lines = more} {entry = e} {entries = es} is h)
    (taken {entry = d} {entries = ds} was k) =
    same_more e d es ds (entry_once line e d is was) (same_entries more es ds h k)

-- ---- a look-up

pub found_first : (test : Entry → Bool) (entries : List Entry) (i : ℕ) (entry : Entry) → i < length entries
    → entry ≡ get_or entries i entry → list_all (λ e. not (test e)) (take i entries) ≡ true → test entry ≡ true
    → IsFirstEntry test entries entry.password
found_first test entries i entry below is none passes =
    let rest : drop i entries ≡ entry ∷ drop (i + 1) entries =
    rw add-one (drop-cons entries i entry below) ∙ ap (λ e. e ∷ drop (i + 1) entries) (sym is) in
    record {
      front = take i entries;
      entry = entry;
      back = drop (i + 1) entries;
      cut = sym (take-append-drop i entries) ∙ ap (λ (l : List Entry). take i entries ++ l) rest;
      earlier = none;
      passes = passes;
      is = refl;
    }

-- ---- results

pub on_ok : {A E P Q : Type 0} (r : Result A E) → OnOk r P → (P → Q) → OnOk r Q
on_ok (Ok x) p f = f p
on_ok (Err e) p f = tt
