-- The words that ask for a session with a server.
use Rattle.std.proofs.Common.{◌≡◌, ◌≤◌, ℕ, ◌+◌, List, [], ◌∷◌, ◌++◌, length, map, take, drop, get_or, Option, Some, None, codes, refl, sym, ap, ◌∙◌, arith}
use Rattle.std.specs.Option.{IfSome}
use Rattle.pgw_session.specs.declared.types.Request.{Request}
use Rattle.pgw_prog_script.specs.Line.{script_number}
use Rattle.pgw_prog.specs.declared.command.Command.{Command}
use Rattle.pgw_prog.specs.declared.command.Command.TheVariants as command
use Rattle.pgw_prog.specs.Command.{command_for, connect_for, passfile_for, queries_of, IsSessionCommand}

-- they are a session's, where the third is a number
pub limit_is : {A : Type 0} (f : A → List ℕ) (ws : List A) (w l : A) (r : Option ℕ) → 4 ≤ length ws
    → w ≡ get_or ws 0 w → l ≡ get_or ws 2 l → f w ≡ codes "connect" → r ≡ script_number (f l)
    → IfSome r (IsSessionCommand (map f ws))
limit_is f [] w l r long here there named read = absurd (omega (arith, long))
limit_is f (a ∷ []) w l r long here there named read = absurd (omega (arith, long))
limit_is f (a ∷ b ∷ []) w l r long here there named read = absurd (omega (arith, long))
limit_is f (a ∷ b ∷ d ∷ []) w l r long here there named read = absurd (omega (arith, long))
limit_is f (a ∷ b ∷ d ∷ e ∷ more) w l None long here there named read = tt
limit_is f (a ∷ b ∷ d ∷ e ∷ more) w l (Some n) long here there named read = record {
  text = f b;
  number = f d;
  query = f e;
  more = map f more;
  are = ap (λ (x : List ℕ). x ∷ f b ∷ f d ∷ f e ∷ map f more) (ap f (sym here) ∙ named);
  within = ap (λ (x : _). script_number (f x)) (sym there) ∙ sym read;
}

-- they ask for it, however many queries there are
connects : (text number query : List ℕ) (more : List (List ℕ)) (limit : ℕ) → script_number number ≡ Some limit
    → command_for (codes "connect" ∷ text ∷ number ∷ query ∷ more) ≡ command.Connect
    (record { text = text; limit = limit; requests = queries_of (query ∷ more) })
unfolding command_for connect_for passfile_for
connects text number query [] limit within = rw within refl
connects text number query (one ∷ []) limit within = rw within refl
connects text number query (one ∷ two ∷ more) limit within = rw within refl

-- the first three were taken from them, and the others are the queries
pub session_is : {A : Type 0} (f : A → List ℕ) (ws w1 w2 w3 : List A) (t : A) (shown : List ℕ) (limit : ℕ)
    (list : List Request)
    → IsSessionCommand (map f ws) limit
    → w1 ≡ take 0 ws ++ drop (0 + 1) ws → t ≡ get_or w1 0 t → w2 ≡ take 0 w1 ++ drop (0 + 1) w1
    → w3 ≡ take 0 w2 ++ drop (0 + 1) w2 → shown ≡ f t → list ≡ queries_of (map f w3)
    → command.Connect (record { text = shown; limit = limit; requests = list }) ≡ command_for (map f ws)
session_is f [] w1 w2 w3 t shown limit list is first here second third text all = absurd (let are = is.are in cc)
session_is f (a ∷ []) w1 w2 w3 t shown limit list is first here second third text all =
    absurd (let are = is.are in cc)
session_is f (a ∷ b ∷ []) w1 w2 w3 t shown limit list is first here second third text all =
    absurd (let are = is.are in cc)
session_is f (a ∷ b ∷ d ∷ []) w1 w2 w3 t shown limit list is first here second third text all =
    absurd (let are = is.are in cc)
session_is {A} f (a ∷ b ∷ d ∷ e ∷ more) w1 w2 w3 t shown limit list is first here second third text all =
    let without = λ (l : List A). take 0 l ++ drop (0 + 1) l in
    let s1 : w1 ≡ b ∷ d ∷ e ∷ more = first in
    let s2 : w2 ≡ d ∷ e ∷ more = second ∙ ap without s1 in
    let s3 : w3 ≡ e ∷ more = third ∙ ap without s2 in
    let t_is : t ≡ b = here ∙ ap (λ (l : List A). get_or l 0 t) s1 in
    let b_is : f b ≡ is.text = ap (λ (l : List (List ℕ)). get_or l 1 []) is.are in
    let rest_is : map f (e ∷ more) ≡ is.query ∷ is.more = ap (λ (l : List (List ℕ)). drop 3 l) is.are in
    let text_is : shown ≡ is.text = text ∙ ap f t_is ∙ b_is in
    let list_is : list ≡ queries_of (is.query ∷ is.more) =
    all ∙ ap (λ (l : List A). queries_of (map f l)) s3 ∙ ap queries_of rest_is in
    ap (λ (x : List ℕ). command.Connect (record { text = x; limit = limit; requests = list })) text_is
    ∙ ap (λ (l : List Request). command.Connect (record { text = is.text; limit = limit; requests = l })) list_is
    ∙ sym (ap command_for is.are ∙ connects is.text is.number is.query is.more limit is.within)
