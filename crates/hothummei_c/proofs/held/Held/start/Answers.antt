use Rattle.std.proofs.Common.{List, Ok, Err, refl, subst}
use Rattle.pgw_session.specs.declared.types.Request.{Request}
use Rattle.pgw_session.specs.Input.{input_with}
use Rattle.hothummei_c.specs.Opening.{PutsStartup}
use Rattle.hothummei_c.proofs.HeldLaws.{held_starts}
use Rattle.hothummei_c.proofs.held.Held.start.Goals as goal

pub returns-in-Ok-clause-starts : goal.returns-in-Ok-clause-starts
returns-in-Ok-clause-starts c =
    let opened =
    subst (λ (rs : List Request). PutsStartup (input_with c.args.config rs c.args.nonce) c.args.out.now.items
    c.open.new.out.items (Ok c.in-Ok.notes)) c.as_slice.ensures c.in-Ok.ensures.opens in
    held_starts (input_with c.args.config c.args.requests c.args.nonce) c.args.limit _ c.args.out.now.items
    c.open.new.out.items opened refl c.new.ensures refl refl

pub returns-in-Err-clause-starts : goal.returns-in-Err-clause-starts
returns-in-Err-clause-starts c =
    subst (λ (rs : List Request). PutsStartup (input_with c.args.config rs c.args.nonce) c.args.out.now.items
    c.open.new.out.items (Err c.in-Err.e)) c.as_slice.ensures c.in-Err.ensures.opens
