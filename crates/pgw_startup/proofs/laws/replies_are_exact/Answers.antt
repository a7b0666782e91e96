use Rattle.std.proofs.Common.{sym}
use Rattle.std.proofs.lemmas.Bool.{ne_eqb}
use Rattle.pgw_startup.proofs.ResponseLaws.{encryption_response, ssl_response, gss_enc_response}
use Rattle.pgw_startup.proofs.laws.replies_are_exact.Goals as goal

pub returns : goal.returns
returns c = record {
  exact = λ accept other. encryption_response accept (ne_eqb 78 accept (λ is. other (sym is)));
  ssl = ssl_response;
  gss = gss_enc_response;
}
