use Rattle.std.proofs.Common.{option_map, ◌∙◌, sym}
use Rattle.pgw_secrets.specs.PasswordShown.{password_parts}
use Rattle.pgw_secrets.proofs.Lines.{in_parts}
use Rattle.pgw_secrets.proofs.password_line.parts_in.Goals as goal

pub returns : goal.returns
returns c =
    in_parts c.args.line.now (option_map password_parts c.parts_of.result) (sym c.is_comment.ensures
    ∙ c.if-is_comment.false) c.parts_of.ensures
