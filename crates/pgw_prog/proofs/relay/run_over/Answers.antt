use Rattle.std.proofs.Common.{◌≡◌, refl, ap, sym, ◌∙◌, List, ℕ}
use Rattle.pgw_link.specs.Memory.{Making, making_of}
use Rattle.pgw_prog.proofs.RelayLaws.{run_printed}
use Rattle.pgw_prog.proofs.relay.run_over.Goals as goal

pub print_over-printed-requires-clause-client : goal.print_over-printed-requires-clause-client
print_over-printed-requires-clause-client c =
    let f = c.requires.client.faultless in (
      ap (λ (m : Making). m.reads) c.run_proxy.ensures.kept.0
          ∙ f.0,
      ap (λ (m : Making). m.writes) c.run_proxy.ensures.kept.0 ∙ f.1,
    )

pub print_over-printed-requires-clause-server : goal.print_over-printed-requires-clause-server
print_over-printed-requires-clause-server c =
    let f = c.requires.server.faultless in (
      ap (λ (m : Making). m.reads) c.run_proxy.ensures.kept.1
          ∙ f.0,
      ap (λ (m : Making). m.writes) c.run_proxy.ensures.kept.1 ∙ f.1,
    )

pub returns : goal.returns
returns c =
    let p = c.print_over-printed.ensures in
    run_printed c.args.turns.now (making_of c.args.client.now) (making_of c.args.server.now) c.args.client.now
    c.run_proxy.new.client c.args.server.now c.run_proxy.new.server c.in_ok-run.run'
    c.print_over-printed.result refl c.run_proxy.ensures.kept.0 refl c.run_proxy.ensures.kept.1
    c.requires.client c.requires.server c.in_ok-run.ensures.relays p.client p.server p.says
