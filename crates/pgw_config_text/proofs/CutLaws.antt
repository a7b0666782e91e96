-- A text of keys and values is cut from its front, and in one way.
use Rattle.std.proofs.Common.{◌≡◌, ℕ, ◌<◌, ◌≤◌, List, [], ◌∷◌, ◌++◌, length, Option, Some, None, refl, sym, ap, subst, ◌∙◌, arith}
use Rattle.std.proofs.lemmas.List.{append_assoc, append-nil, length-append}
use Rattle.pgw_config_text.specs.declared.key_value.Front as declared
use Rattle.pgw_config_text.specs.declared.key_value.Front.TheVariants as front
use Rattle.pgw_config_text.specs.declared.part.Part.{Part}
use Rattle.pgw_config_text.specs.declared.part.Part.TheVariants as part
use Rattle.pgw_config_text.specs.declared.part.Fault.{Fault}
use Rattle.pgw_config_text.specs.declared.part.Fault.TheVariants as fault
use Rattle.pgw_config_text.specs.KeyValue.{IsConninfoValue, quoted, bare, last, stopped, IsCut, ended, no_pair, paired}
use Rattle.pgw_config_text.specs.Reader.{conninfo_front, Faulty, Pair}
use Rattle.pgw_config_text.specs.Shown.{pair_front}
use Rattle.pgw_config_text.proofs.KeyValueLaws.{blank_sound, blank_complete, pair_sound, pair_complete}

-- ---- what is behind a pair is shorter

value_is_no_less : (text value rest : List ℕ) → IsConninfoValue text value rest → length rest ≤ length text
value_is_no_less text value rest (quoted {body = body} is w) =
    let e = ap length is in omega (arith, e, length-append (39 ∷ body) (39 ∷ rest))
value_is_no_less text value rest (bare {c = c} {body = body} {rest = more} is hit w b) =
    let e = ap length is in omega (arith, e, length-append body (c ∷ more))
value_is_no_less text value rest (last w b) = omega arith
value_is_no_less text value rest (stopped is w b) = omega arith

pub pair_is_less : (text key value rest : List ℕ) → conninfo_front text ≡ Pair key value rest
    → length rest < length text
pair_is_less text key value rest e =
    let p = pair_sound text key value rest e in
    let no_less = value_is_no_less p.written value rest p.says_value in
    let a = ap length p.cut in
    let b = length-append p.first (p.name ++ (p.second ++ 61 ∷ (p.third ++ p.written))) in
    let c = length-append p.name (p.second ++ 61 ∷ (p.third ++ p.written)) in
    let d = length-append p.second (61 ∷ (p.third ++ p.written)) in
    let f = length-append p.third p.written in
    omega (arith, no_less, a, b, c, d, f)

-- ---- a text is cut from its front

pub ends_here : (text rest : List ℕ) (parts : List Part) (f : declared.Front) → pair_front f ≡ conninfo_front rest
    → f ≡ front.Nothing
    → ((more : List Part) (e : Option Fault) → IsCut rest more e → IsCut text (parts ++ more) e)
    → IsCut text parts None
ends_here text rest parts f e is so_far =
    subst (λ (ps : List Part). IsCut text ps None) (append-nil parts)
    (so_far [] None (ended (blank_sound rest (sym e
    ∙ ap pair_front is))))

neither : (rest : List ℕ) → conninfo_front rest ≡ Faulty → IsCut rest [] (Some fault.Syntax)
neither rest e =
    no_pair (λ blank. let b = blank_complete rest blank in cc)
    (λ key value more p. let q = pair_complete rest key value more p in cc)

pub stops_here : (text rest : List ℕ) (parts : List Part) (f : declared.Front)
    → pair_front f ≡ conninfo_front rest → f ≡ front.Faulty
    → ((more : List Part) (e : Option Fault) → IsCut rest more e → IsCut text (parts ++ more) e)
    → IsCut text parts (Some fault.Syntax)
stops_here text rest parts f e is so_far =
    subst (λ (ps : List Part). IsCut text ps (Some fault.Syntax)) (append-nil parts)
    (so_far [] (Some fault.Syntax) (neither rest (sym e
    ∙ ap pair_front is)))

pub goes_on : (text rest behind key value : List ℕ) (parts new more : List Part) (e : Option Fault)
    → conninfo_front rest ≡ Pair key value behind → new ≡ parts ++ part.Pair key value ∷ []
    → ((more : List Part) (e : Option Fault) → IsCut rest more e → IsCut text (parts ++ more) e)
    → IsCut behind more e → IsCut text (new ++ more) e
goes_on text rest behind key value parts new more e found n so_far cut =
    let all : new ++ more ≡ parts ++ (part.Pair key value ∷ more) =
    rw n (append_assoc parts (part.Pair key value ∷ []) more) in
    subst (λ (ps : List Part). IsCut text ps e) (sym all)
    (so_far (part.Pair key value ∷ more) e (paired (pair_sound rest key value behind found) cut))

-- ---- and in one way

same_pair : (key value key2 value2 : List ℕ) (ps qs : List Part) (e d : Option Fault) → key ≡ key2
    → value ≡ value2 → (ps ≡ qs) × (e ≡ d) → (part.Pair key value ∷ ps ≡ part.Pair key2 value2 ∷ qs) × (e ≡ d)
same_pair key value key2 value2 ps qs e d k v (p, q) = (cc, q)

pub same_cut : (text : List ℕ) (ps qs : List Part) (e d : Option Fault) → IsCut text ps e → IsCut text qs d
    → (ps ≡ qs) × (e ≡ d)
same_cut text ps qs e d (ended a) (ended b) = (refl, refl)
same_cut text ps qs e d (ended a) (no_pair b none) = absurd (b a)
same_cut text ps qs e d (ended a) (paired {key = k} {value = v} {rest = r} p c) =
    let x = blank_complete text a in let y = pair_complete text k v r p in cc
same_cut text ps qs e d (no_pair a none) (ended b) = absurd (a b)
same_cut text ps qs e d (no_pair a none) (no_pair b nor) = (refl, refl)
same_cut text ps qs e d (no_pair a none) (paired {key = k} {value = v} {rest = r} p c) = absurd (none k v r p)
same_cut text ps qs e d (paired {key = k} {value = v} {rest = r} p c) (ended b) =
    let x = blank_complete text b in let y = pair_complete text k v r p in cc
same_cut text ps qs e d (paired {key = k} {value = v} {rest = r} p c) (no_pair b none) = absurd (none k v r p)
same_cut text ps qs e d (paired {key = k} {value = v} {rest = r} {parts = more} p c)
    (paired {key = l} {value = w} {rest = s} {parts = others} q f) =
    let one = pair_complete text k v r p in
    let two = pair_complete text l w s q in
    let keys : k ≡ l = cc in
    let values : v ≡ w = cc in
    let rests : s ≡ r = cc in
    same_pair k v l w more others e d keys values
    (same_cut r more others e d c (subst (λ (t : List ℕ). IsCut t others d) rests f))
