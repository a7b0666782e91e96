use Rattle.std.proofs.Common.{Ok, Err, arith, ap, inr, refl, ◌∙◌}
use Rattle.pgw_handlers.specs.Startup.{startup, HeardAtStartup}
use Rattle.pgw_client_calls.specs.Desk.{client_of, first_client}
use Rattle.pgw_client_calls.specs.Line.{line}
use Rattle.pgw_client_calls.proofs.ConnectLaws.{from_new, once, failed_some, counts_from}
use Rattle.pgw_client_calls.proofs.ForetoldLaws.{foretold_from, made_still}
use Rattle.pgw_client_calls.proofs.connect.connect_at.Goals as goal

pub returns-in-Ok-log_in-clause-connected : goal.returns-in-Ok-log_in-clause-connected
returns-in-Ok-log_in-clause-connected g c =
    let made = c.client_over-client.ensures in
    let first = c.client_over-client.result in
    let link = c.in-Ok.link in
    let last = c.log_in.new.self in
    record {
      first = g.D.Link.Link.tape link;
      dialled = c.in-Ok.ensures.dialled;
      logs_in =
          from_new (λ before after answer. g.S.StartupHandler.means before startup after answer)
          (HeardAtStartup g.S.StartupHandler.exchanges g.S.StartupHandler.means) c.args.handler
          (first_client c.args.config) (client_of first.desk) (client_of last.desk) (g.D.Link.Link.tape link)
          (g.D.Link.Link.tape first.link) (g.D.Link.Link.faults first.link) first.read c.args.limit
          first.limit first.inbox
          (line (g.D.Link.Link.tape last.link) (g.D.Link.Link.faults last.link) last.inbox last.read last.limit)
          (Ok tt)
          made.client (ap (λ l. g.D.Link.Link.tape l) made.link) (ap (λ l. g.D.Link.Link.faults l) made.link
          ∙ c.in-Ok.ensures.faultless) made.inbox made.read made.limit c.in-Ok-log_in.ensures.logs_in;
    }

pub returns-in-Err-log_in-clause-failed : goal.returns-in-Err-log_in-clause-failed
returns-in-Err-log_in-clause-failed g c =
    let made = c.client_over-client.ensures in
    let first = c.client_over-client.result in
    let link = c.in-Ok.link in
    let last = c.log_in.new.self in
    let none = ap (λ l. g.D.Link.Link.faults l) made.link ∙ c.in-Ok.ensures.faultless in
    inr (record {
      faults = g.D.Link.Link.faults last.link;
      counts = counts_from _ _ _ _ c.in-Ok.ensures.calm c.hang_up.ensures.counts;
      io = λ is. failed_some c.in-Err-log_in.error _ _ none c.in-Err-log_in.ensures.cause.failed is;
      tape = (
        g.D.Link.Link.tape link,
        line (g.D.Link.Link.tape last.link) (g.D.Link.Link.faults last.link) last.inbox last.read last.limit,
        client_of last.desk,
        once _ _ _ _ _ _ c.in-Ok.ensures.dialled c.hang_up.ensures.shut,
        refl,
        omega (arith, last.within, c.log_in.ensures.limit, made.limit),
        from_new (λ before after answer. g.S.StartupHandler.means before startup after answer)
            (HeardAtStartup g.S.StartupHandler.exchanges g.S.StartupHandler.means) c.args.handler
            (first_client c.args.config) (client_of first.desk) (client_of last.desk) (g.D.Link.Link.tape link)
            (g.D.Link.Link.tape first.link) (g.D.Link.Link.faults first.link) first.read c.args.limit
            first.limit first.inbox
            (line (g.D.Link.Link.tape last.link) (g.D.Link.Link.faults last.link) last.inbox last.read last.limit)
            (Err c.in-Err-log_in.error)
            made.client (ap (λ l. g.D.Link.Link.tape l) made.link) none made.inbox made.read made.limit
            c.in-Err-log_in.ensures.logs_in,
        λ t. (
          g.D.Link.Link.left link,
          _,
          made_still _ _ _ _ (c.hang_up.ensures.kept t) (c.in-Ok.ensures.offered t),
          foretold_from _ _ _ _ _ _ (ap (λ l. g.D.Link.Link.left l) made.link)
              (ap (λ l. g.D.Link.Link.tape l) made.link)
              (c.log_in.ensures.foretold (g.met.D.Dialer.links_foretell t)),
        ),
      );
    })

pub returns-in-Ok-log_in-clause-foretold : goal.returns-in-Ok-log_in-clause-foretold
returns-in-Ok-log_in-clause-foretold g c = λ t.
    let made = c.client_over-client.ensures in (
      g.D.Link.Link.left c.in-Ok.link,
      c.in-Ok.ensures.offered t,
      foretold_from _ _ _ _ _ _ (ap (λ l. g.D.Link.Link.left l) made.link)
          (ap (λ l. g.D.Link.Link.tape l) made.link
          ∙ c.in-Ok.ensures.dialled.fresh) (c.log_in.ensures.foretold (g.met.D.Dialer.links_foretell t)),
    )
