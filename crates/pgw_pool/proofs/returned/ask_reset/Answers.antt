use Rattle.std.proofs.Common.{refl, ap, codes}
use Rattle.pgw_client_ask.proofs.AskLaws.{simple_came}
use Rattle.pgw_pool.specs.Views.{view_of}
use Rattle.pgw_pool.proofs.returned.ask_reset.Goals as goal

pub returns-clause-asked : goal.returns-clause-asked
returns-clause-asked g c =
    let V = view_of g.L.Link.tape g.L.Link.faults in
    let asked = c.simple_query.ensures in
    record {
      broken = λ b. ((asked.broken b).0, ap V (asked.broken b).1);
      comes =
          λ usable. simple_came c.simple_queries_are_segments.ensures (codes "DISCARD ALL") (asked.asked usable)
          refl;
      stands =
          λ usable config nonce ts read wrote stands. c.simple_queries_follow_one_another.ensures config nonce ts
          read wrote (codes "DISCARD ALL") _ _ _ _ _ stands (asked.asked usable);
      well = λ usable. (asked.asked usable).well;
      halts = λ usable. (asked.asked usable).halts;
      at_end = λ usable. (asked.asked usable).at_end;
      cause = asked.cause;
      within = record { limit = asked.limit; within = λ was. asked.within };
    }
