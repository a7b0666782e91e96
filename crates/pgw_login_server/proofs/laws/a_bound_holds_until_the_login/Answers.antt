use Rattle.pgw_login_server.proofs.BoundLaws.{little_waits, long_refused, header_first}
use Rattle.pgw_login_server.proofs.laws.a_bound_holds_until_the_login.Goals as goal

pub returns : goal.returns
returns c = record {
  long = λ stage bound bytes found is on whole more header. long_refused stage bound bytes found is on whole more
      header;
  header = λ stage bound bytes why is on header. header_first stage bound bytes why is on header;
  little = λ stage bound bytes is more. little_waits stage bound bytes is more;
}
