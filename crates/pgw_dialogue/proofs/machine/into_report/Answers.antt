use Rattle.std.proofs.Common.{ℤ, rules, ap}
use Rattle.std.proofs.lemmas.Int.{to_z-of_z}
use Rattle.std.specs.Int.{w32}
use Rattle.pgw_session.specs.declared.types.SessionReport.{SessionReport}
use Rattle.pgw_dialogue.proofs.machine.into_report.Goals as goal

pub returns : goal.returns
returns c =
    let n = c.args.notes in
    let s = n.standing in
    let report : ℤ → SessionReport =
    λ id. record {
      version = s.version;
      parameters = s.parameters;
      process_id = id;
      secret_key = s.secret_key;
      status = s.status;
      answers = n.answers;
    } in
    ap report (to_z-of_z w32 s.process_id (search rules))
