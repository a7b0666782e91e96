-- Honest ends of an exchange.
use Rattle.std.specs.Prelude.{◌≡◌, ◌<◌, ◌≤◌, ◌^◌, ℕ, List, ◌++◌, true, Option, Some, None, Ok, IsUtf8}
use Rattle.base64.specs.GeneralPurpose.{IsBytes}
use Rattle.pgw_hash.specs.Saslprep.{saslprep}
use Rattle.pgw_hash.specs.Pbkdf2.{salted_password}
use Rattle.pgw_scram.specs.declared.binding.ClientBinding.{ClientBinding}
use Rattle.pgw_scram.specs.declared.binding.ClientBinding.TheVariants as binding
use Rattle.pgw_scram.specs.declared.client.ScramClientAuth.{ScramClientAuth}
use Rattle.pgw_scram.specs.declared.client.ScramClientAuthWaitingForServerFirst.{ScramClientAuthWaitingForServerFirst}
use Rattle.pgw_scram.specs.declared.client.ScramClientAuthWaitingForServerFinal.{ScramClientAuthWaitingForServerFinal}
use Rattle.pgw_scram.specs.declared.messages.ClientFirst.{ClientFirst}
use Rattle.pgw_scram.specs.declared.messages.ClientFinal.{ClientFinal}
use Rattle.pgw_scram.specs.declared.password.Password.{Password}
use Rattle.pgw_scram.specs.declared.server.ScramServerAuth.{ScramServerAuth}
use Rattle.pgw_scram.specs.declared.server.ScramServerAuthWaitingForClientFinal.{ScramServerAuthWaitingForClientFinal}
use Rattle.pgw_scram.specs.Attributes.{IsValue}
use Rattle.pgw_scram.specs.Base64.{base64}
use Rattle.pgw_scram.specs.Client.{began, proved, verified}
use Rattle.pgw_scram.specs.Offers.{names_end_point}
use Rattle.pgw_scram.specs.Readers.{read_client_first, read_client_final}
use Rattle.pgw_scram.specs.Server.{scram_offer, accepted}

-- The ends agree on what is bound: to nothing; to nothing where the server has no certificate; or to the hash of the
-- server's own.
abbrev pub Agree : ClientBinding → Option (List ℕ) → Type 0
Agree binding.None hash = Unit {0}
Agree binding.NotOffered hash = hash ≡ None
Agree (binding.EndPoint own) hash = hash ≡ Some own

-- the ends agree on what is bound, the user name, which is UTF-8 as each text is, has a prepared form without a comma,
-- and the server keeps the SaltedPassword of the client's password
pub record AreHonest (client : ScramClientAuth) (server : ScramServerAuth) (password : Password) :
    Type 0 where
  pub user : List ℕ
  pub salt : List ℕ
  pub agree : Agree client.binding server.certificate_hash
  pub username_utf8 : IsUtf8 client.username
  pub is_prepared : saslprep client.username ≡ Some user
  pub user_value : IsValue user
  pub has_salt : password.salt ≡ Some salt
  pub salt_bytes : IsBytes salt
  pub is_salted : password.password ≡ salted_password client.password salt server.iterations
  pub at_least_one : 1 ≤ server.iterations
  pub in_32_bits : server.iterations < 2 ^ 32

-- each end takes what the other sends, up to the server's last message
pub record BothAccept (client : ScramClientAuth) (server : ScramServerAuth) (password : Password)
    (client_nonce server_nonce : List ℕ) : Type 0 where
  pub client_first : List ℕ
  pub client_began : ScramClientAuthWaitingForServerFirst
  pub server_first : List ℕ
  pub server_offered : ScramServerAuthWaitingForClientFinal
  pub client_final : List ℕ
  pub client_proved : ScramClientAuthWaitingForServerFinal
  pub server_final : List ℕ
  pub begins : began client client_nonce ≡ Ok (client_first, client_began)
  pub offers : scram_offer server client_first password server_nonce ≡ Ok
      (server_first, server_offered)
  pub proves : proved client_began server_first ≡ Ok (client_final, client_proved)
  pub accepts : accepted server_offered client_final ≡ Ok server_final
  pub verifies : verified client_proved server_final ≡ Ok tt

-- a server has let a client in, by its first message and its last
pub record LetsIn (server : ScramServerAuth) (password : Password)
    (nonce client_first client_final : List ℕ) : Type 0 where
  pub first : ClientFirst
  pub answer : ClientFinal
  pub server_first : List ℕ
  pub waits : ScramServerAuthWaitingForClientFinal
  pub server_final : List ℕ
  pub is_first : read_client_first client_first ≡ Ok first
  pub is_answer : read_client_final client_final ≡ Ok answer
  pub offers : scram_offer server client_first password nonce ≡ Ok (server_first, waits)
  pub accepts : accepted waits client_final ≡ Ok server_final

-- the client names the server's certificate, and has bound its login to this hash of it
abbrev pub BoundTo : List ℕ → ClientFirst → ClientFinal → Type 0
BoundTo hash first answer =
    (names_end_point first.header ≡ true) × (answer.binding ≡ base64 (first.header ++ hash))
