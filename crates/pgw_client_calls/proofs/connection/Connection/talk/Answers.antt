use Rattle.std.proofs.Common.{arith, ◌∙◌}
use Rattle.pgw_client_calls.proofs.ForetoldLaws.{foretold_on}
use Rattle.pgw_client_calls.proofs.connection.Connection.talk.Goals as goal

pub messages-preserved : goal.messages-preserved
messages-preserved g c =
    let h = c.hear.ensures in
    record {
      usable = c.in-Ok-Pending.ensures.usable;
      limit = h.limit ∙ c.messages.invariant.limit;
      config = h.config ∙ c.messages.invariant.config;
      foretold =
          λ t is now rest. c.messages.invariant.foretold t is now
          (foretold_on _ _ _ _ _ _ (g.met.L.Link.knows t c.hear.new.connection.link)
          (c.hear.ensures.foretold t) rest);
      later = omega (arith, c.messages.invariant.later, h.cause.later);
      talked = λ final last rest.
          let one = rw c.in-Ok-Pending.field-0-is at c.in-Ok-Pending.ensures.heard in
          c.messages.invariant.talked final last (one.0 final last rest);
    }
