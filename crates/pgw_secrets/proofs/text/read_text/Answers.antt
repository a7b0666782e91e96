use Rattle.std.proofs.Common.{ap, option_map}
use Rattle.pgw_secrets.specs.Text.{Counted, ReadsSalt, Keyed, IsSalted, IsKeyed}
use Rattle.pgw_secrets.proofs.Parts.{stops_at_count, stops_at_salt, stops_at_stored, stops_at_server}
use Rattle.pgw_secrets.proofs.text.read_text.Goals as goal

pub returns-in_default-count_at : goal.returns-in_default-count_at
returns-in_default-count_at c =
    stops_at_count c.args.text.now c.in-Some.behind.now (option_map (λ p. (p.0, p.1.now)) c.count_at.result)
    c.in-Some.ensures c.count_at.ensures (ap (option_map (λ p. (p.0, p.1.now))) c.in_default-count_at.is)

pub returns-in_default-2 : goal.returns-in_default-2
returns-in_default-2 c =
    let counted : Counted c.args.text.now c.in-Some-count_at.count c.in-Some-count_at.behind.now =
    record { from = c.in-Some.behind.now; before = c.in-Some.ensures; part = c.in-Some-count_at.ensures } in
    stops_at_salt c.args.text.now c.in-Some-count_at.count c.in-Some-count_at.behind.now
    (option_map (λ p. (p.0.items, p.1.now)) c.in_ok-salt.field-0) counted c.in_ok-salt.ensures
    (ap (option_map (λ p. (p.0.items, p.1.now))) c.in_default-2.is)

pub returns-in_default-3 : goal.returns-in_default-3
returns-in_default-3 c =
    let counted : Counted c.args.text.now c.in-Some-count_at.count c.in-Some-count_at.behind.now =
    record { from = c.in-Some.behind.now; before = c.in-Some.ensures; part = c.in-Some-count_at.ensures } in
    let part : IsSalted c.in-Some-count_at.behind.now c.in-Some-2.salt.items c.in-Some-2.behind.now =
    rw c.in-Some-2.is at c.in_ok-salt.ensures in
    let salted : ReadsSalt c.args.text.now c.in-Some-count_at.count c.in-Some-2.salt.items c.in-Some-2.behind.now =
    record { from = c.in-Some-count_at.behind.now; before = counted; part = part } in
    stops_at_stored c.args.text.now c.in-Some-count_at.count c.in-Some-2.salt.items c.in-Some-2.behind.now
    (option_map (λ p. (p.0, p.1.now)) c.in_ok-stored.field-0) salted c.in_ok-stored.ensures
    (ap (option_map (λ p. (p.0, p.1.now))) c.in_default-3.is)

pub returns-in_default-4 : goal.returns-in_default-4
returns-in_default-4 c =
    let counted : Counted c.args.text.now c.in-Some-count_at.count c.in-Some-count_at.behind.now =
    record { from = c.in-Some.behind.now; before = c.in-Some.ensures; part = c.in-Some-count_at.ensures } in
    let part : IsSalted c.in-Some-count_at.behind.now c.in-Some-2.salt.items c.in-Some-2.behind.now =
    rw c.in-Some-2.is at c.in_ok-salt.ensures in
    let salted : ReadsSalt c.args.text.now c.in-Some-count_at.count c.in-Some-2.salt.items c.in-Some-2.behind.now =
    record { from = c.in-Some-count_at.behind.now; before = counted; part = part } in
    let key : IsKeyed c.in-Some-2.behind.now c.in-Some-3.stored.0 c.in-Some-3.stored.1.now =
    rw c.in-Some-3.is at c.in_ok-stored.ensures in
    let keyed : Keyed c.args.text.now c.in-Some-count_at.count c.in-Some-2.salt.items c.in-Some-3.stored.0
    c.in-Some-3.stored.1.now =
    record { from = c.in-Some-2.behind.now; before = salted; part = key } in
    stops_at_server c.args.text.now c.in-Some-count_at.count c.in-Some-2.salt.items c.in-Some-3.stored.0
    c.in-Some-3.stored.1.now c.in_ok-server_key.field-0 keyed c.in_ok-server_key.ensures c.in_default-4.is
