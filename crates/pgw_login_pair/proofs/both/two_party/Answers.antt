use Rattle.pgw_login_pair.proofs.Moves.{scram_alone}
use Rattle.pgw_login_pair.proofs.both.two_party.Goals as goal

pub lead-requires-clause-means : goal.lead-requires-clause-means
lead-requires-clause-means c m before after sent answer h =
    scram_alone c.args.input.now m before after sent answer
    (rw (
      c.with_scram-handler.ensures,
      c.new-3.ensures,
      c.in_ok-provider.ensures,
      c.in_ok-scram.ensures.0,
      c.in_ok-scram.ensures.1,
    ) at h)
