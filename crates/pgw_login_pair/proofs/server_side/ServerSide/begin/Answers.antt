use Rattle.std.proofs.Common.{Ok, ap, ◌∙◌, refl}
use Rattle.pgw_login.specs.DefaultClients.{login_client}
use Rattle.pgw_login.specs.declared.state.LoginState.{LoginState}
use Rattle.pgw_login_server.specs.declared.connection.ServerPhase.TheVariants.{Waiting}
use Rattle.pgw_login_pair.specs.World.{party_login}
use Rattle.pgw_login_pair.proofs.ServerLaws.{begun_at, begun_from, new_client}
use Rattle.pgw_login_pair.proofs.server_side.ServerSide.begin.Goals as goal

pub start-requires : goal.start-requires
start-requires g c =
    c.requires c.new-state.result (ap (λ (s : LoginState). s.seat) c.new-state.ensures)
    (ap (λ (s : LoginState). s.pass) c.new-state.ensures)
    (ap (λ (s : LoginState). s.registered) c.new-state.ensures)

pub returns-clause-from : goal.returns-clause-from
returns-clause-from g c = λ generator is.
    begun_from generator c.args.input.now (g.H.StartupHandler.means c.args.handler) c.start.result
    (login_client c.new-client.result) c.new-state.result
    (new_client c.new-client.result c.new.result c.new-client.ensures c.new.ensures) (c.new-state.ensures
    ∙ ap (λ seat. party_login seat c.args.input.now) is) c.start.ensures.stands

pub returns-clause-is_at : goal.returns-clause-is_at
returns-clause-is_at g c = λ generator is.
    begun_at generator c.args.input.now (g.H.StartupHandler.means c.args.handler)
    (record { core = c.start.result; answer = Ok Waiting; taken = 0; out = c.new-2.result })
    (login_client c.new-client.result) c.new-state.result
    (new_client c.new-client.result c.new.result c.new-client.ensures c.new.ensures) (c.new-state.ensures
    ∙ ap (λ seat. party_login seat c.args.input.now) is) c.start.ensures.going c.new-2.ensures.items refl
    c.start.ensures.stands
