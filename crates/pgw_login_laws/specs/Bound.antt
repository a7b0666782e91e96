-- A login that is bound to a server's hash. Not part of the claim: words of the law on bound logins.
use Rattle.std.specs.Prelude.{◌≡◌, ℕ, List, Some, Ok}
use Rattle.pgw_scram.specs.Honest.{BoundTo}
use Rattle.pgw_scram.specs.Readers.{read_client_first, read_client_final}
use Rattle.pgw_scram.specs.declared.messages.ClientFinal.{ClientFinal}
use Rattle.pgw_scram.specs.declared.messages.ClientFirst.{ClientFirst}
use Rattle.pgw_scram.specs.declared.server.ScramServerAuth.{ScramServerAuth}

-- the server has a hash of its certificate, both texts of the client's are read, and they bind the
-- login to this hash
pub record IsBoundBy (server : ScramServerAuth) (client_first client_final : List ℕ) : Type 0
  where
    pub hash : List ℕ
    pub first : ClientFirst
    pub answer : ClientFinal
    pub own : server.certificate_hash ≡ Some hash
    pub is_first : read_client_first client_first ≡ Ok first
    pub is_answer : read_client_final client_final ≡ Ok answer
    pub bound : BoundTo hash first answer
