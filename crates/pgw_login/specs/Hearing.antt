-- What a message of a client is to a login.
use Rattle.pgw_frontend.specs.declared.frontend.PgWireFrontendMessage.{PgWireFrontendMessage}
use Rattle.pgw_frontend.specs.declared.frontend.PgWireFrontendMessage.TheVariants as frontend
use Rattle.pgw_login.specs.declared.handler.Heard.{Heard}
use Rattle.pgw_login.specs.declared.handler.Heard.TheVariants.{Startup, Password, Other}

abbrev pub heard : PgWireFrontendMessage → Heard
heard (frontend.Startup m) = Startup m
heard (frontend.PasswordMessageFamily m) = Password m
heard m = Other
