-- What is noted of the authentication messages of a login.
use Rattle.std.specs.Prelude.{ℕ, codes, nat_eq, if◌then◌else◌, List, Bool, true, false}
use Rattle.std.specs.Prelude.{Option, Some}
use Rattle.std.specs.Option.{unwrap_or}
use Rattle.std.specs.List.{list_any}
use Rattle.std.specs.Cmp.Lexicographic.{pointwise}
use Rattle.pgw_startup.specs.declared.authentication.Authentication.{Authentication}
use Rattle.pgw_startup.specs.declared.authentication.Authentication.TheVariants as authentication
use Rattle.pgw_prog_commands.specs.declared.notes.LoginKind.{LoginKind}
use Rattle.pgw_prog_commands.specs.declared.notes.LoginKind.TheVariants as kind

-- a method is among those that a server offers
abbrev pub place_offers : List (List ℕ) → List ℕ → Bool
place_offers methods name = list_any (λ method. pointwise nat_eq method name) methods

unfoldable pub login_kind : List (List ℕ) → LoginKind
login_kind methods =
    if place_offers methods (codes "SCRAM-SHA-256-PLUS") then kind.ScramSha256Plus
    else if place_offers methods (codes "SCRAM-SHA-256") then kind.ScramSha256
    else kind.Other

-- AuthenticationOk with no request before is trust
abbrev pub kind_after : Option LoginKind → Authentication → Option LoginKind
kind_after was authentication.Ok = Some (unwrap_or was kind.Trust)
kind_after was authentication.CleartextPassword = Some kind.CleartextPassword
kind_after was authentication.KerberosV5 = Some kind.Other
kind_after was (authentication.MD5Password salt) = Some kind.Md5Password
kind_after was (authentication.SASL methods) = Some (login_kind methods)
kind_after was (authentication.SASLContinue first) = was
kind_after was (authentication.SASLFinal last) = was

-- the last message of SASL, by which the server shows that it knows the password
abbrev pub is_final : Authentication → Bool
is_final (authentication.SASLFinal last) = true
is_final request = false
