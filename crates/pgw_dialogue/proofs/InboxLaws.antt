-- What is taken from a front of some bytes is taken from all of them.
use Rattle.std.specs.Int.{w32, from_be_bytes}
use Rattle.std.proofs.Common.{◌≡◌, ◌≤◌, ◌+◌, ◌-◌, [], ◌∷◌, ◌++◌, ℕ, List, length, take, drop, true, Option, Some, None, Result, Ok, Err, arith, ap, refl, sym, subst, ◌∙◌, take_at, length-drop, length-take-le, take-append-drop}
use Rattle.std.proofs.lemmas.List.{append-nil, drop-append-le, drop_all, take-append-le, take-take}
use Rattle.std.specs.Option.{is_some}
use Rattle.pgw_wire.specs.Header.{MessageEndsAt, IsWhole, typed_end}
use Rattle.pgw_query.specs.declared.run.Span.{Span}
use Rattle.pgw_query.specs.Runs.{HasNoRow, IsSpan, SpellsRows, rows_in}
use Rattle.pgw_query.proofs.RunLaws.{first_is, none_short, rest_of}
use Rattle.pgw_dialogue.specs.Inbox.{HasSpan, InboxPasses, InboxRow, nothing, one_more}
use Rattle.pgw_types.specs.declared.context.ProtocolVersion.{ProtocolVersion}
use Rattle.pgw_backend.specs.declared.backend.PgWireBackendMessage.{PgWireBackendMessage as Backend}
use Rattle.pgw_backend.specs.declared.client_error.PgWireClientError.{PgWireClientError as ClientError}
use Rattle.pgw_backend.proofs.FrontLaws.{front_whole, front_whole_more, front_bad_more}
use Rattle.pgw_dialogue.specs.Wire.{Decoded}

pub found_more : (v : ProtocolVersion) (front rest more : List ℕ) (m : Backend)
    → Decoded v front rest (Ok (Some m)) → Decoded v (front ++ more) (rest ++ more) (Ok (Some m))
found_more v front rest more m d =
    let len = d.0 in (
      len,
      front_whole_more v front more m len d.1,
      ap (λ (r : List ℕ). r ++ more) d.2
          ∙ sym (drop-append-le len front more (front_whole v front m len d.1).1),
    )

pub refused_more : (v : ProtocolVersion) (front rest more : List ℕ) (e : ClientError)
    → Decoded v front rest (Err e) → Decoded v (front ++ more) (rest ++ more) (Err e)
refused_more v front rest more e d = (
  ap (λ (r : List ℕ). r ++ more) d.0,
  λ ne. let why = d.1 ne in (why.0, front_bad_more v front more why.0 why.1, why.2),
)

pub decoded_of : (v : ProtocolVersion) (old new other_old other_new : List ℕ)
    (r : Result (Option Backend) ClientError)
    → old ≡ other_old → new ≡ other_new → Decoded v old new r → Decoded v other_old other_new r
decoded_of v old new other_old other_new r was is d =
    subst (λ (o : List ℕ). Decoded v o other_new r) was (subst (λ (n : List ℕ). Decoded v old n r) is d)

-- nothing is whole at a front, and nothing stands behind it
pub none_alone : (v : ProtocolVersion) (front rest more : List ℕ) → length more ≡ 0
    → Decoded v front rest (Ok None) → Decoded v (front ++ more) (rest ++ more) (Ok None)
none_alone v front rest [] none d =
    decoded_of v front rest (front ++ []) (rest ++ []) (Ok None) (sym (append-nil front)) (sym (append-nil rest))
    d
none_alone v front rest (b ∷ more) none d = absurd (cc)

-- ---- rows

-- where the message at the front ends is the same whatever follows
end_stays : (bytes others : List ℕ) → 5 ≤ length bytes
    → typed_end (bytes ++ others) ≡ typed_end bytes
end_stays bytes others least =
    let behind : take 4 (drop 1 (bytes ++ others)) ≡ take 4 (drop 1 bytes) =
    ap (take 4) (drop-append-le 1 bytes others (omega (arith, least)))
    ∙ take-append-le 4 (drop 1 bytes) others (omega (arith, least, length-drop 1 bytes)) in
    ap (λ (l : List ℕ). from_be_bytes w32 l + 1) behind

-- a whole message that is no row is none with others behind it
pub none_behind : (bytes others : List ℕ) → IsWhole bytes → HasNoRow bytes
    → HasNoRow (bytes ++ others)
none_behind bytes others whole none row g rest s is =
    let n = length g in
    let f = first_is row g rest (bytes ++ others) s is in
    let within : n ≤ length bytes = omega (arith, f.ends, end_stays bytes others whole.0, whole.1) in
    let front : take n bytes ≡ g =
    sym (take-append-le n bytes others within) ∙ ap (take n) is ∙ take_at g rest n refl in
    none row g (drop n bytes) s
    (sym (take-append-drop n bytes) ∙ ap (λ (l : List ℕ). l ++ drop n bytes) front)

-- the rows at a tail's front have passed
span_passed : (tail : List ℕ) (span : Span) → IsSpan tail span
    → HasSpan (take span.end tail) (drop span.end tail) span
span_passed tail span s =
    let front = take span.end tail in
    let rest = drop span.end tail in
    let long : length front ≡ span.end = length-take-le span.end tail s.within in
    let none : drop span.end front ≡ [] = drop_all span.end front (omega (arith, long)) in
    let same = take-take span.end span.end tail (omega arith) in (
      record {
        within = omega (arith, long);
        spelled = subst (λ (l : List ℕ). SpellsRows (rows_in span.rows l) l) (sym same) s.spelled;
        none = s.none;
        all = subst HasNoRow (sym none) (none_short [] (omega arith));
      },
      subst (λ (l : List ℕ). HasNoRow (l ++ rest)) (sym none) s.all,
    )

pub passed_as : (tail seen front rest : List ℕ) (span : Span) → IsSpan seen span → seen ≡ tail
    → front ≡ take span.end tail → rest ≡ drop span.end tail → HasSpan front rest span
passed_as tail seen front rest span s same is left =
    let h = span_passed tail span (subst (λ (l : List ℕ). IsSpan l span) same s) in
    let moved = subst (λ (l : List ℕ). HasSpan (take span.end tail) l span) (sym left) h in
    subst (λ (l : List ℕ). HasSpan l rest span) (sym is) moved

-- those of the front stand there already
pub stands_as : (front tail seen others : List ℕ) (span : Span) → IsSpan seen span → seen ≡ front
    → others ≡ tail → HasNoRow (take (length seen - span.end) (drop span.end seen) ++ others)
    → HasSpan front tail span
stands_as front tail seen others span s same other none =
    let rest = subst (λ (l : List ℕ). HasNoRow (l ++ others)) (rest_of seen span.end) none in
    let all = subst (λ (l : List ℕ). HasNoRow (drop span.end seen ++ l)) other rest in
    subst (λ (l : List ℕ). HasSpan l tail span) same (s, all)

pub whole_if : (bytes : List ℕ) (end : Option ℕ) → is_some end ≡ true → MessageEndsAt bytes end
    → IsWhole bytes
whole_if bytes None is e = cc
whole_if bytes (Some n) is e = e.0

-- ---- messages in a row

-- one message more
pub row_on : (bytes : List ℕ) (n len : ℕ) → (n ≤ length bytes) × InboxRow bytes n
    → IsWhole (drop n bytes) × (len ≡ typed_end (drop n bytes))
    → (n + len ≤ length bytes) × InboxRow bytes (n + len)
row_on bytes n len r w = (
  omega (arith, r.0, w.0.1, w.1, length-drop n bytes),
  subst (λ (k : ℕ). InboxRow bytes (n + k)) (sym w.1) (one_more n r.1 w.0),
)

-- none passes before the first is whole
pub none_pass : (bytes : List ℕ) → ¬ IsWhole bytes → InboxPasses bytes 0
none_pass bytes none = record { large = λ l. absurd (none l.0); others = λ _. (nothing, none) }
