use Rattle.std.proofs.Common.{inl, inr, refl, ap}
use Rattle.std.proofs.lemmas.Result.{IfErr-weaker}
use Rattle.pgw_client_calls.specs.Line.{IsWithin}
use Rattle.pgw_pool.specs.Views.{view_of}
use Rattle.pgw_pool.specs.Starting.{dials, PoolConnects}
use Rattle.pgw_pool.proofs.StartLaws.{begun, both_ok, connects_as, not_connects_as, within_limit}
use Rattle.pgw_pool.proofs.starting.log_in.Goals as goal

pub returns-in-Ok-clause-idle : goal.returns-in-Ok-clause-idle
returns-in-Ok-clause-idle g c =
    let d = c.args.dialer.now in
    let e = c.connect.new.dialer in
    let old = dials (g.D.Dialer.tape d) (g.D.Dialer.offers d) (g.D.Dialer.faults d) in
    let new = dials (g.D.Dialer.tape e) (g.D.Dialer.offers e) (g.D.Dialer.faults e) in
    let V = view_of g.L.Link.tape g.L.Link.faults in
    let limit = c.args.limit in
    let within = both_ok c.connect.result _ _ (λ client. IsWithin limit (V client).line)
    (λ client w is. within_limit client.read client.limit limit w is) c.connect.ensures.within
    c.connect.ensures.limit_is in
    let connects =
    both_ok c.connect.result _ _
    (λ client. PoolConnects c.args.config.now limit c.args.nonce old new (V client))
    (λ client w connected. connects_as c.args.config.now c.in-Ok.copy c.new.result limit c.args.nonce old new
    (V client) c.in-Ok.ensures c.new.ensures w connected)
    within c.connect.ensures.connected in
    both_ok c.connect.result _ _ _
    (λ client is usable. begun c.logins_begin_a_client.ensures c.args.config.now limit c.args.nonce old new
    (V client) is usable)
    connects c.connect.ensures.usable

pub returns-in-Ok-clause-connects : goal.returns-in-Ok-clause-connects
returns-in-Ok-clause-connects g c =
    let d = c.args.dialer.now in
    let e = c.connect.new.dialer in
    let old = dials (g.D.Dialer.tape d) (g.D.Dialer.offers d) (g.D.Dialer.faults d) in
    let new = dials (g.D.Dialer.tape e) (g.D.Dialer.offers e) (g.D.Dialer.faults e) in
    let V = view_of g.L.Link.tape g.L.Link.faults in
    let limit = c.args.limit in
    let within = both_ok c.connect.result _ _ (λ client. IsWithin limit (V client).line)
    (λ client w is. within_limit client.read client.limit limit w is) c.connect.ensures.within
    c.connect.ensures.limit_is in
    both_ok c.connect.result _ _ _
    (λ client w connected. connects_as c.args.config.now c.in-Ok.copy c.new.result limit c.args.nonce old new
    (V client) c.in-Ok.ensures c.new.ensures w connected)
    within c.connect.ensures.connected

pub returns-in-Ok-clause-refused : goal.returns-in-Ok-clause-refused
returns-in-Ok-clause-refused g c =
    let d = c.args.dialer.now in
    let e = c.connect.new.dialer in
    let old = dials (g.D.Dialer.tape d) (g.D.Dialer.offers d) (g.D.Dialer.faults d) in
    let new = dials (g.D.Dialer.tape e) (g.D.Dialer.offers e) (g.D.Dialer.faults e) in
    IfErr-weaker c.connect.result _ _
    (λ why refused. inl (not_connects_as g.D.Dialer.foretells c.args.config.now c.in-Ok.copy c.new.result
    c.args.limit c.args.nonce old new why
    (λ same. ap (λ x. dials (g.D.Dialer.tape x) (g.D.Dialer.offers x) (g.D.Dialer.faults x)) same) c.in-Ok.ensures
    c.new.ensures refused))
    c.connect.ensures.refused

pub returns-in-Err-clause-refused : goal.returns-in-Err-clause-refused
returns-in-Err-clause-refused g c = inr (refl, refl)
