use Rattle.std.proofs.Common.{[], ◌∷◌, Err, ap, subst, ◌∙◌}
use Rattle.pgw_frontend.specs.Frontend.{encodings}
use Rattle.pgw_frontend.specs.declared.frontend.PgWireFrontendMessage.{PgWireFrontendMessage as Frontend}
use Rattle.pgw_dialogue.specs.Input.{input_of}
use Rattle.pgw_dialogue.specs.Wire.{PutOut}
use Rattle.pgw_dialogue.proofs.MachineLaws.{not_started}
use Rattle.pgw_dialogue.proofs.machine.start.Goals as goal

pub returns-in-Err-put_all-clause-start : goal.returns-in-Err-put_all-clause-start
returns-in-Err-put_all-clause-start c =
    let sends = c.as_slice.ensures ∙ ap (λ (m : Frontend). m ∷ []) c.in-Ok.ensures in
    not_started (input_of c.args.input.now) c.args.out.now.items c.put_all.new.out.items c.in-Err-put_all.e
    c.requires
    (subst (λ ms. PutOut (encodings ms) c.args.out.now.items c.put_all.new.out.items (Err c.in-Err-put_all.e))
    sends c.in-Err-put_all.ensures.put)
