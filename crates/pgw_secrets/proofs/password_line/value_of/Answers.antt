use Rattle.std.proofs.Common.{◌≡◌, ◌∙◌, sym, subst, List, ℕ}
use Rattle.std.specs.Result.{IfOk}
use Rattle.pgw_secrets.proofs.Fields.{plain}
use Rattle.pgw_secrets.proofs.Rests.{cut_front}
use Rattle.pgw_secrets.proofs.password_line.value_of.Goals as goal

pub returns : goal.returns
returns c =
    subst (λ (l : List ℕ). IfOk c.slice.result (λ v. v ≡ l)) (cut_front c.args.text.now c.args.rest.now c.requires
    ∙ plain c.args.text.now (sym c.contains.ensures.value ∙ c.if-contains.false)) c.slice.ensures
