-- What a client sends, and what it expects (RFC 5802, section 5).
use Rattle.std.specs.Prelude.{ℕ, List, [], ◌++◌, codes, Option, Some, None, Result, Ok, Err}
use Rattle.pgw_types.specs.declared.error.ScramMessageFault.{ScramMessageFault}
use Rattle.pgw_hash.specs.Pbkdf2.{salted_password}
use Rattle.pgw_scram.specs.declared.binding.ClientBinding.{ClientBinding}
use Rattle.pgw_scram.specs.declared.exchange.ClientLogin.{ClientLogin}
use Rattle.pgw_scram.specs.declared.messages.ServerFirst.{ServerFirst}
use Rattle.pgw_scram.specs.Base64.{base64, salt_of}
use Rattle.pgw_scram.specs.Binding.{gs2_header, binding_text}
use Rattle.pgw_scram.specs.Readers.{read_server_first}
use Rattle.pgw_scram.specs.Formulas.{auth_message, client_proof, server_signature}

-- client-first-message-bare, of a prepared user name and the nonce's text
abbrev pub client_first_bare : List ℕ → List ℕ → List ℕ
client_first_bare user nonce = codes "n=" ++ user ++ codes ",r=" ++ nonce

-- client-first-message: the header, and the bare message behind it
unfoldable pub client_first : ClientLogin → List ℕ
client_first login = gs2_header login.binding ++ client_first_bare login.user login.nonce

-- client-final-message-without-proof, of what is bound and the nonce in server-first
unfoldable pub without_proof : ClientBinding → List ℕ → List ℕ
without_proof binding nonce = codes "c=" ++ binding_text binding ++ codes ",r=" ++ nonce

-- what both ends authenticate
abbrev pub exchanged : ClientLogin → List ℕ → ServerFirst → List ℕ
exchanged login first parts =
    auth_message (client_first_bare login.user login.nonce) first
    (without_proof login.binding parts.nonce)

-- what is made of the salt's bytes, or nothing
abbrev pub with_salt : Option (List ℕ) → (List ℕ → List ℕ) → List ℕ
with_salt None made = []
with_salt (Some salt) made = made salt

-- what is made of the parts of server-first and its salt's bytes, or nothing
abbrev pub with_parts : Result ServerFirst ScramMessageFault → (ServerFirst → List ℕ → List ℕ)
    → List ℕ
with_parts (Err why) made = []
with_parts (Ok parts) made = with_salt (salt_of parts.salt) (made parts)

-- client-final-message, of a login and server-first
unfoldable pub client_final : ClientLogin → List ℕ → List ℕ
client_final login first =
    with_parts (read_server_first first)
    (λ parts salt. without_proof login.binding parts.nonce ++ codes ",p=" ++ base64
    (client_proof (salted_password login.password salt parts.count)
    (exchanged login first parts)))

-- the text of the signature that server-final should have, of the same
unfoldable pub signature : ClientLogin → List ℕ → List ℕ
signature login first =
    with_parts (read_server_first first)
    (λ parts salt. base64
    (server_signature (salted_password login.password salt parts.count)
    (exchanged login first parts)))
