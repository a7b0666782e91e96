use Rattle.std.proofs.Common.{◌≡◌, ◌≤◌, ◌∙◌, ap, sym, subst, take, drop, length, ◌+◌, ◌∷◌, [], List, ℕ, Some, arith}
use Rattle.std.proofs.lemmas.List.{take_all}
use Rattle.pgw_secrets.specs.Found.{Lacks}
use Rattle.pgw_secrets.specs.PasswordFile.{without_return, IsFile}
use Rattle.pgw_secrets.specs.PasswordReader.{IsPasswordLineEnd}
use Rattle.pgw_secrets.proofs.Rests.{first_line, last_line, goes_on, ends}
use Rattle.pgw_secrets.proofs.password_line.read_lines.Goals as goal

pub loop-end-preserved : goal.loop-end-preserved
loop-end-preserved c more is =
    let text : List ℕ = c.loop-end.rest in
    let at = c.in-Some.end in
    let found : IsPasswordLineEnd text (Some at) =
    subst (λ (l : List ℕ). IsPasswordLineEnd l (Some at)) c.as_slice.ensures c.in-Some.ensures in
    let behind : IsFile (drop (at + 1) text) more = subst (λ (l : List ℕ). IsFile l more) c.advance.ensures is in
    goes_on c.args.bytes.now text (drop (at + 1) text) (without_return (take at text)) c.loop-end.entries
    c.add_line.new.entries more (first_line text at found.0 found.1) c.in_ok-add_line-in-Some.ensures
    c.loop-end.invariant behind

pub returns-in-None : goal.returns-in-None
returns-in-None c =
    let text : List ℕ = c.loop-end.rest in
    let free : Lacks 10 text = subst (Lacks 10) c.as_slice.ensures c.in-None.ensures in
    let long : length text ≤ c.len.result = omega (arith, c.len.ensures.value) in
    let all : without_return (take c.len.result text) ≡ without_return text =
    ap without_return (take_all c.len.result text long) in
    ends c.args.bytes.now text (without_return (take c.len.result text)) c.loop-end.entries
    c.add_line-in-None.new.entries (last_line text free
    ∙ ap (λ (l : List ℕ). l ∷ []) (sym all)) c.in_ok-add_line-in-None.ensures c.loop-end.invariant
