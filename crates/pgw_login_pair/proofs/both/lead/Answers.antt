use Rattle.std.proofs.Common.{sym, refl, subst}
use Rattle.pgw_login_pair.specs.Server.{Means}
use Rattle.pgw_login_pair.specs.Sides.{AreActs, IsFrom}
use Rattle.pgw_login_pair.specs.World.{Runs, first_stage, first_world}
use Rattle.pgw_login_pair.proofs.EventLaws.{at_first}
use Rattle.pgw_login_pair.proofs.Moves.{nowhere}
use Rattle.pgw_login_pair.proofs.both.lead.Goals as goal

pub end-requires-clause-nowhere : goal.end-requires-clause-nowhere
end-requires-clause-nowhere g c =
    let input = c.args.input.now in
    let kept = sym c.begin-server.ensures.kept.0 in
    let generator = c.requires.seat.0 in
    let stage = first_stage generator input in
    nowhere input c.run.new.server.core generator (g.H.StartupHandler.means c.begin-server.result.core.handler)
    (subst (λ x. AreActs (g.H.StartupHandler.means x) (Means input)) kept c.requires.means)
    (c.run.ensures.from stage
    (subst (λ x. IsFrom (g.H.StartupHandler.means x) stage c.begin-server.result.core) kept
    (c.begin-server.ensures.from generator c.requires.seat.1)))

pub let_go-requires : goal.let_go-requires
let_go-requires g c =
    let input = c.args.input.now in
    let kept = sym c.begin-server.ensures.kept.0 in
    let generator = c.requires.seat.0 in
    let stage = first_stage generator input in
    nowhere input c.run.new.server.core generator (g.H.StartupHandler.means c.begin-server.result.core.handler)
    (subst (λ x. AreActs (g.H.StartupHandler.means x) (Means input)) kept c.requires.means)
    (c.run.ensures.from stage
    (subst (λ x. IsFrom (g.H.StartupHandler.means x) stage c.begin-server.result.core) kept
    (c.begin-server.ensures.from generator c.requires.seat.1)))

pub returns-in-Ok : goal.returns-in-Ok
returns-in-Ok g c =
    let input = c.args.input.now in
    let kept = sym c.begin-server.ensures.kept.0 in
    let generator = c.requires.seat.0 in
    let begun = c.in_ok-client.ensures.begun input c.requires.config refl in
    let r =
    c.in-Ok.ensures.runs generator input (first_world generator input)
    (subst (λ x. AreActs (g.H.StartupHandler.means x) (Means input)) kept c.requires.means)
    (at_first generator input c.in_ok-client.client c.begin-server.result begun.0 c.begin-server.ensures.kept.1
    c.begin-server.ensures.kept.2 begun.1 (c.begin-server.ensures.is_at generator c.requires.seat.1)) in
    c.end.ensures.ended generator input r.0 c.requires.sound
    (subst (λ es. Runs input es (first_world generator input) r.0) c.as_slice.ensures r.1) r.2
