use Rattle.pgw_secrets.proofs.Comparing.{same_offer}
use Rattle.pgw_secrets.proofs.laws.a_secret_offers_what_its_password_does.Goals as goal

pub returns : goal.returns
returns c server salt salted own message = same_offer server salt salted own message
