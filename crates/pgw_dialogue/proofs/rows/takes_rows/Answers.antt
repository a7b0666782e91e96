use Rattle.pgw_dialogue.proofs.RowLaws.{simple_takes, kind_takes_none, stage_takes_none}
use Rattle.pgw_dialogue.proofs.rows.takes_rows.Goals as goal

pub returns-in-Simple : goal.returns-in-Simple
returns-in-Simple c =
    simple_takes c.args.notes.now c.in-Answering.kind c.in-Answering.rows c.is_some.result
    c.is_some-else-is_some.result c.in-Answering.is c.in-Simple.is c.if-is_some.false c.is_some.ensures
    c.if-is_some-2.false c.is_some-else-is_some.ensures

pub returns-in_default-kind : goal.returns-in_default-kind
returns-in_default-kind c = (
  λ e. absurd cc,
  λ t. absurd
      (kind_takes_none c.args.notes.now c.in-Answering.kind c.in-Answering.rows c.in-Answering.is
      c.in_default-kind.not-Simple c.in_default-kind.not-Execute c.in_default-kind.not-Query t),
)

pub returns-in_default : goal.returns-in_default
returns-in_default c = (
  λ e. absurd cc,
  λ t. absurd
      (stage_takes_none c.args.notes.now c.in_default.not-Answering c.in_default.not-PassingOver t),
)
