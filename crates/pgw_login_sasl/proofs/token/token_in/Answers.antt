use Rattle.std.proofs.Common.{◌≡◌, Some, refl, ap, ◌∙◌}
use Rattle.pgw_login_sasl.specs.Token.{checked, token_behind}
use Rattle.pgw_login_sasl.proofs.token.token_in.Goals as goal

pub returns-then-are_token_bytes : goal.returns-then-are_token_bytes
returns-then-are_token_bytes c =
    let token = c.behind_space-token.result.now in
    let taken : Some token ≡ checked token =
    rw (← c.if-not-is_empty.ensures, ← c.if-are_token_bytes.ensures) refl in
    taken ∙ ap checked c.behind_space-token.ensures ∙ ap token_behind c.in_ok-behind_scheme.ensures
