use Rattle.pgw_handlers_default.proofs.simple.DefaultSimpleQueryHandlerSimpleQueryHandler.on_empty_query.Goals as goal

pub returns-clause-means : goal.returns-clause-means
returns-clause-means g c = c.note.ensures.means (g.C.Seen.sight c.args._client.now)
