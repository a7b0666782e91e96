use Rattle.std.proofs.Common.{List, ℕ, sym, subst}
use Rattle.pgw_query.specs.Runs.{IsRun, SpellsRows, rows_in}
use Rattle.hothummei_c.specs.Places.{AddsMessages}
use Rattle.hothummei_c.proofs.PlaceLaws.{adds_messages, adds_row, on_ok}
use Rattle.hothummei_c.proofs.places.add_here.Goals as goal

pub add_messages-requires : goal.add_messages-requires
add_messages-requires c =
    subst (λ (l : List ℕ). SpellsRows (rows_in c.in-Messages.count l) l) (sym c.as_slice.ensures)
    ((subst IsRun c.in-Messages.is c.requires.is).1)

pub returns-in-Messages : goal.returns-in-Messages
returns-in-Messages c =
    let new = c.add_messages.new.places.items in
    let old = c.args.places.now.items in
    on_ok c.add_messages.result
    (λ (adds : AddsMessages c.args.run c.in-Messages.count c.as_slice.result.now old new).
    adds_messages c.args.runs.now c.args.run c.in-Messages.count c.in-Messages.bytes c.args.here.now old new
    c.requires.stands c.in-Messages.is c.requires.is
    (subst (λ (l : List ℕ). AddsMessages c.args.run c.in-Messages.count l old new) c.as_slice.ensures adds))
    c.add_messages.ensures

pub returns-in_ok-push-in-Row : goal.returns-in_ok-push-in-Row
returns-in_ok-push-in-Row c =
    adds_row c.args.runs.now c.args.run _ c.args.here.now c.args.places.now.items _ c.requires.stands c.in-Row.is
    c.in_ok-push-in-Row.ensures.items
