-- The lines of the server's bytes.
use Rattle.std.proofs.Common.{◌≡◌, ℕ, List, [], ◌∷◌, Bool, true, false, ◌&&◌, nat_eq, take, drop, length, codes, Option, Some, None, refl, ap, arith, if◌then◌else◌}
use Rattle.std.proofs.lemmas.Bool.Decides.{nat_tests}
use Rattle.std.specs.Cmp.Lexicographic.{pointwise}
use Rattle.pgw_types.specs.Marks.{behind_word}
use Rattle.pgw_prog_script.specs.Line.{bytes_in, known, later_line_of, line_of_cut, bound_of, setting_of}
use Rattle.pgw_prog_script.specs.declared.line.Line.TheVariants as line
use Rattle.pgw_prog_script.specs.declared.script.Place.{Place}
use Rattle.pgw_prog_script.specs.declared.script.Place.TheVariants as place
use Rattle.pgw_prog_script.specs.declared.script.Script.{Script}
use Rattle.pgw_prog_script.specs.Form.{step}
use Rattle.pgw_prog_script.specs.Script.{may_follow, session_form}

-- they may not stand here, whatever they say
pub not_here : (p : Place) (s : Script) (o : Option (List ℕ)) → may_follow p place.Server ≡ false
    → step session_form p s (known line.Server o) ≡ None
not_here p s None barred = refl
not_here p s (Some bytes) barred = rw barred refl

-- ---- a line that begins so is no other

none : (w : ℕ) (ws : List ℕ) (x : ℕ) (rest : List ℕ) → nat_eq x w ≡ false → behind_word (w ∷ ws) (x ∷ rest) ≡ None
unfolding behind_word
none w ws x rest differs = rw differs refl

first_of : (x : ℕ) (more : Bool) → (nat_eq x 115 && more) ≡ true → x ≡ 115
first_of x more is = grind (arith, nat_tests, is)

begins_by : (text : List ℕ) (t : Bool)
    → pointwise nat_eq (take (length (codes "server ")) text) (codes "server ") ≡ t → (v : List ℕ)
    → (if t then Some (drop (length (codes "server ")) text) else None) ≡ Some v
    → (rest : List ℕ) × (text ≡ 115 ∷ rest)
begins_by text false e v is = absurd cc
begins_by [] true e v is = absurd cc
begins_by (x ∷ rest) true e v is = (rest, ap (λ (y : ℕ). y ∷ rest) (first_of x _ e))

begins : (text v : List ℕ) → behind_word (codes "server ") text ≡ Some v → (rest : List ℕ) × (text ≡ 115 ∷ rest)
unfolding behind_word
begins text v is =
    begins_by text (pointwise nat_eq (take (length (codes "server ")) text) (codes "server ")) refl v is

line_by : (rest v : List ℕ) → behind_word (codes "server ") (115 ∷ rest) ≡ Some v
    → line_of_cut (115 ∷ rest) ≡ known line.Server (bytes_in v)
unfolding line_of_cut setting_of bound_of later_line_of
line_by rest v is =
    let config : behind_word (codes "config ") (115 ∷ rest) ≡ None = none 99 (codes "onfig ") 115 rest refl in
    let protocol : behind_word (codes "protocol ") (115 ∷ rest) ≡ None =
    none 112 (codes "rotocol ") 115 rest refl in
    let certificate : behind_word (codes "certificate ") (115 ∷ rest) ≡ None =
    none 99 (codes "ertificate ") 115 rest refl in
    let nonce : behind_word (codes "nonce ") (115 ∷ rest) ≡ None = none 110 (codes "once ") 115 rest refl in
    let limit : behind_word (codes "limit ") (115 ∷ rest) ≡ None = none 108 (codes "imit ") 115 rest refl in
    let cut : behind_word (codes "cut ") (115 ∷ rest) ≡ None = none 99 (codes "ut ") 115 rest refl in
    let reads : behind_word (codes "fail read ") (115 ∷ rest) ≡ None =
    none 102 (codes "ail read ") 115 rest refl in
    let writes : behind_word (codes "fail write ") (115 ∷ rest) ≡ None =
    none 102 (codes "ail write ") 115 rest refl in
    rw (config, protocol, certificate, nonce, limit, cut, reads, writes, is) refl

pub server_line : (text v : List ℕ) → behind_word (codes "server ") text ≡ Some v
    → line_of_cut text ≡ known line.Server (bytes_in v)
server_line text v is =
    let b = begins text v is in
    rw b.1 (line_by b.0 v (rw b.1 at is))
