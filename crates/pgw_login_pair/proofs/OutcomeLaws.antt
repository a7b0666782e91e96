-- The outcome of two parties.
use Rattle.std.proofs.Common.{◌≡◌, ℕ, ◌<◌, List, length, take, sym, ap, subst, ◌∙◌}
use Rattle.atomic_table.specs.Seated.{TableId}
use Rattle.pgw_machine.specs.Course.{Course}
use Rattle.pgw_dialogue.specs.Answers.{answer_to, Tells}
use Rattle.pgw_login_server.specs.Server.{Stage, ServerEnding}
use Rattle.pgw_login_pair.specs.declared.client_side.ClientSide.{ClientSide}
use Rattle.pgw_login_pair.specs.declared.server_side.ServerSide.{ServerSide}
use Rattle.pgw_login_pair.specs.declared.parties.PairInput.{PairInput}
use Rattle.pgw_login_pair.specs.declared.parties.PairOutcome.{PairOutcome}
use Rattle.pgw_login_pair.specs.Parties.{Pairs, TwoParty, client_end, server_end}
use Rattle.pgw_login_pair.specs.Sides.{AreIn, ClientAt, ServerAt}
use Rattle.pgw_login_pair.specs.Sound.{IsSoundInput}
use Rattle.pgw_login_pair.specs.World.{World, Runs, PartyServes, client_input, first_world, most}
use Rattle.pgw_login_pair.proofs.ClientLaws as of_client
use Rattle.pgw_login_pair.proofs.ServerLaws as of_server
use Rattle.pgw_login_pair.proofs.Whole.{two_parties_agree}

module _ {H : Type 0} (generator : TableId) (input : PairInput) where
  pub outcome : (client : ClientSide) (server : ServerSide H) (w : World) (o : PairOutcome) → IsSoundInput input
      → Runs input input.schedule (first_world generator input) w → AreIn generator input client server w
      → ((taken : List ℕ) → ClientAt input client taken → o.client ≡ client_end input taken)
      → ((course : Course Stage ServerEnding) → ServerAt server course → o.server ≡ server_end course)
      → o.to_server ≡ (client.out).items → o.to_client ≡ (server.out).items → o.taken_by_client ≡ client.taken
      → o.taken_by_server ≡ server.taken → length o.to_client < most → TwoParty input o
  outcome client server w o sound ran are client_is server_is to_server to_client by_client by_server small =
      let sent : o.to_server ≡ w.to_server = to_server ∙ are.to_server in
      let said : o.to_client ≡ w.to_client = to_client ∙ are.to_client in
      let taken : take w.by_client w.to_client ≡ take o.taken_by_client o.to_client =
      ap (λ n. take n w.to_client) (sym (by_client ∙ are.by_client))
      ∙ ap (take o.taken_by_client) (sym said) in
      let heard : take w.by_server w.to_server ≡ take o.taken_by_server o.to_server =
      ap (λ n. take n w.to_server) (sym (by_server ∙ are.by_server))
      ∙ ap (take o.taken_by_server) (sym sent) in
      let at = subst (ClientAt input client) taken are.client_at in
      let p : Pairs input o = record {
        generator = generator;
        world = w;
        ran = ran;
        to_server = sent;
        to_client = said;
        taken_by_server = by_server ∙ are.by_server;
        taken_by_client = by_client ∙ are.by_client;
        within_server = (are.meets).by_server;
        within_client = (are.meets).by_client;
        wrote = to_server ∙ at.sent;
        client = client_is (take o.taken_by_client o.to_client) at;
        tells =
            subst (λ (l : List ℕ). Tells (client_input input) most (take o.taken_by_client o.to_client) l
            (answer_to (client_input input) most (take o.taken_by_client o.to_client))) (sym to_server)
            at.tells;
        serves = subst (λ (l : List ℕ). PartyServes generator input l w.server) heard (are.meets).serves;
        served = said ∙ (are.meets).served;
        server = server_is w.server are.server_at;
        no_memory_client =
            λ h. of_client.never_starved input client (take o.taken_by_client o.to_client) at
            (sym (client_is (take o.taken_by_client o.to_client) at) ∙ h);
        no_memory_server =
            λ h. of_server.never_starved server w.server are.server_at (sym (server_is w.server are.server_at)
            ∙ h);
      } in
      two_parties_agree input o p sound small
