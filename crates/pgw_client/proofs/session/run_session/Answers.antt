use Rattle.std.proofs.Common.{inl, inr, refl, arith}
use Rattle.pgw_link.proofs.LogLaws.{ends_still, foreseen_still}
use Rattle.pgw_session.specs.Demands.{refused_config}
use Rattle.pgw_session.specs.Input.{input_with}
use Rattle.pgw_client.proofs.SessionLaws.{causes, told, paced, lockstep, completed, reports}
use Rattle.pgw_dialogue.proofs.DemandLaws.{refused_key, none_refused, same_key, only_user, key_not_io}
use Rattle.pgw_client.proofs.RefusedLaws.{io_where, refused_causes, refused_paced, refused_lockstep}
use Rattle.pgw_client.proofs.session.run_session.Goals as goal

pub returns-in-Err : goal.returns-in-Err
returns-in-Err g c =
    let config = c.args.config.now in
    let input = input_with config c.args.requests.now c.args.nonce.now in
    let limit = c.args.limit in
    let old = g.L.Link.tape c.args.link.now in
    let e = c.in-Err.error in
    let named = refused_key (refused_config config) e c.in-Err.ensures in
    let key = named.0 in
    let is = named.1 in
    record {
      untouched = rw is refl;
      kept = refl;
      session = record {
        refused = rw is (named.2, refl);
        demands = λ other same. inl (same_key (refused_config config) e key other is named.2 (cc));
        cause = record { later = omega arith; io = λ io. absurd (key_not_io e key named.2 (cc)) };
        failing = λ more. absurd (omega (arith, more));
        completed = tt;
        causes = refused_causes input limit old e key is named.2;
        told = λ none. absurd (cc);
        paced = refused_paced limit old;
        lockstep = refused_lockstep input old;
        flushed = λ none. absurd (cc);
        session = λ none. absurd (cc);
        foreseen = λ t. foreseen_still (g.L.Link.left c.args.link.now) old;
        ends = λ t. ends_still (g.L.Link.left c.args.link.now) old;
        reports = λ t none whole known segments completes no_rise. absurd (cc);
      };
    }

pub returns : goal.returns
returns g c =
    let config = c.args.config.now in
    let input = input_with config c.args.requests.now c.args.nonce.now in
    let none = none_refused (refused_config config) _ c.in-Ok.ensures in
    let r = c.hold_session.result in
    let held = c.hold_session.ensures in
    record {
      untouched = rw none tt;
      kept = held.kept;
      session = record {
        refused = rw none tt;
        demands = λ key is. inr (only_user r key held.talk is);
        cause = held.cause;
        failing = λ more. io_where r (λ no. let same = held.clean no in omega (arith, more, same));
        completed = completed input _ _ _ r held.session;
        causes = causes input _ _ _ r none held.session;
        told = λ clear. told input _ _ _ r held.session;
        paced = paced input _ _ _ r held.session;
        lockstep = lockstep input _ _ _ r held.session;
        flushed = λ clear. held.session.flushed;
        session = λ clear. held.session;
        foreseen = held.foreseen;
        ends = held.ends;
        reports = λ t clear whole known segments completes no_rise.
            reports input _ _ _ _ _ r whole segments held.session known (held.foreseen t) (held.ends t) completes
            (λ io. no_rise (held.cause.io io));
      };
    }
