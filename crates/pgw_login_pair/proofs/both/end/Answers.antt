use Rattle.std.proofs.Common.{arith, ap, ◌∙◌, refl}
use Rattle.pgw_login_pair.proofs.OutcomeLaws.{outcome}
use Rattle.pgw_login_pair.proofs.both.end.Goals as goal

pub returns-in-Ok : goal.returns-in-Ok
returns-in-Ok g c = record {
  ended = λ generator input w sound ran are.
      outcome generator input c.args.client c.args.server w _ sound ran are (c.end-client.ensures.is input)
      c.end-server.ensures.is
      (c.in-Ok.ensures.0 ∙ ap (λ b. b.items) c.end-client.ensures.wrote) (c.in-Ok.ensures.1
      ∙ ap (λ b. b.items) c.end-server.ensures.wrote) refl refl
      (omega (arith, c.len.ensures.value, c.len.ensures.bound));
}
