use Rattle.std.proofs.Common.{arith, ◌∙◌, ap, sym}
use Rattle.pgw_client_calls.specs.Desk.{client_of}
use Rattle.pgw_client_calls.proofs.ReadingLaws.{first_caused, first_same, first_remote, passed_failed, passed_ready, passed_wanting, passed_after}
use Rattle.pgw_client_calls.proofs.ForetoldLaws.{foretold_on}
use Rattle.pgw_client_calls.proofs.connection.Connection.pass_over.Goals as goal

pub returns-in-Err-clause-passed : goal.returns-in-Err-clause-passed
returns-in-Err-clause-passed g c =
    c.messages.invariant.passed _ _ _ _
    (passed_failed c.messages.error c.in-Err.failure c.in_place_of.result _ _ _ _ c.in-Err.ensures.came
    c.in_place_of.ensures (ap client_of c.next_message.ensures.desk))

pub returns-in-Ok-true-clause-passed : goal.returns-in-Ok-true-clause-passed
returns-in-Ok-true-clause-passed g c =
    c.messages.invariant.passed _ _ _ _
    (passed_ready c.messages.error c.first_of-error.result c.in-Ok.message _
    (client_of c.next_message.new.self.desk) _ _ _ _ c.in-Ok.ensures.came
    (sym c.in-Ok-true.ensures.ready
    ∙ c.in-Ok-true.field-0-test) c.first_of-error.ensures (ap client_of c.next_message.ensures.desk)
    c.in-Ok-true.ensures.told
    (c.note-noted.ensures.broken ∙ ap (λ d. d.broken) c.next_message.ensures.desk ∙ c.messages.invariant.usable))

pub returns-in-Err-noted-clause-passed : goal.returns-in-Err-noted-clause-passed
returns-in-Err-noted-clause-passed g c =
    c.messages.invariant.passed _ _ _ _
    (passed_wanting c.messages.error c.in-Ok.message _ _ _ _ c.in-Ok.ensures.came (c.in-Err-noted.ensures.kept
    ∙ ap client_of c.next_message.ensures.desk))

pub messages-preserved : goal.messages-preserved
messages-preserved g c = record {
  usable =
      c.note-noted.ensures.broken ∙ ap (λ d. d.broken) c.next_message.ensures.desk ∙ c.messages.invariant.usable;
  limit = c.next_message.ensures.limit ∙ c.messages.invariant.limit;
  config =
      c.note-noted.ensures.config ∙ ap (λ d. d.config) c.next_message.ensures.desk ∙ c.messages.invariant.config;
  own = first_caused c.messages.error c.first_of-error.result c.in-Ok.message c.first_of-error.ensures
      c.messages.invariant.own;
  same = first_same c.messages.error c.args.error c.first_of-error.result c.in-Ok.message c.first_of-error.ensures
      c.messages.invariant.same;
  remote =
      first_remote c.messages.error c.args.error c.first_of-error.result c.in-Ok.message c.first_of-error.ensures
      c.messages.invariant.remote;
  foretold =
      λ t. foretold_on _ _ _ _ _ _ (g.met.L.Link.knows t c.messages.self.link) (c.messages.invariant.foretold t)
      (c.next_message.ensures.foretold t);
  later = omega (arith, c.messages.invariant.later, c.next_message.ensures.cause.later);
  passed = λ final x last broken p.
      c.messages.invariant.passed final x last broken
      (passed_after c.messages.error c.first_of-error.result x c.in-Ok.message _
      (client_of c.next_message.new.self.desk) _ last _ _ final broken c.in-Ok.ensures.came
      (sym c.in-Ok-false.ensures.ready
      ∙ c.in-Ok-false.field-0-test) c.first_of-error.ensures (ap client_of c.next_message.ensures.desk)
      c.in-Ok-false.ensures.told p);
}

pub returns-in-Err-clause-foretold : goal.returns-in-Err-clause-foretold
returns-in-Err-clause-foretold g c =
    λ t. foretold_on _ _ _ _ _ _ (g.met.L.Link.knows t c.messages.self.link) (c.messages.invariant.foretold t)
    (c.next_message.ensures.foretold t)

pub returns-in-Ok-true-clause-foretold : goal.returns-in-Ok-true-clause-foretold
returns-in-Ok-true-clause-foretold g c =
    λ t. foretold_on _ _ _ _ _ _ (g.met.L.Link.knows t c.messages.self.link) (c.messages.invariant.foretold t)
    (c.next_message.ensures.foretold t)

pub returns-in-Err-noted-clause-foretold : goal.returns-in-Err-noted-clause-foretold
returns-in-Err-noted-clause-foretold g c =
    λ t. foretold_on _ _ _ _ _ _ (g.met.L.Link.knows t c.messages.self.link) (c.messages.invariant.foretold t)
    (c.next_message.ensures.foretold t)
