-- Who logs in, as code tells it.
use Rattle.std.specs.Option.{option_copied}
use Rattle.pgw_login.specs.Login.{Login}
use Rattle.pgw_login.specs.declared.source.LoginInfo.{LoginInfo}

abbrev pub login_of : LoginInfo → Login
login_of l =
    record { user = option_copied l.user; database = option_copied l.database; host = l.host.now }
