use Rattle.std.proofs.Common.{rules}
use Rattle.pgw_login_sasl.proofs.TokenLaws.{token_is_text}
use Rattle.pgw_login_sasl.proofs.oauth.as_text.Goals as goal

pub unwrap-requires : goal.unwrap-requires
unwrap-requires c = search (rules, token_is_text c.args.token.now c.requires)
