use Rattle.pgw_session.proofs.LoginTexts.{bound_final}
use Rattle.pgw_session.proofs.laws.a_bound_login_is_bound_to_the_clients_own_hash.Goals as goal

pub returns : goal.returns
returns c input methods hash first salt parts own allowed offered read is_salt =
    bound_final input methods hash first salt parts own allowed offered read is_salt
