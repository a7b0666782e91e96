-- What a server offers, and what it checks of the answer before the proof (RFC 5802, section 5), whatever it keeps of
-- a password.
use Rattle.std.specs.Prelude.{ℕ, Bool, ◌||◌, ◌&&◌, not, List, ◌++◌, codes, Option, Some, None, Result, Ok, Err, if◌then◌else◌}
use Rattle.std.specs.Str.{bytes_eq}
use Rattle.std.specs.Fmt.{decimal}
use Rattle.pgw_types.specs.declared.error.PgWireError.{PgWireError}
use Rattle.pgw_types.specs.declared.error.PgWireError.TheVariants.{InvalidScramMessage}
use Rattle.pgw_types.specs.declared.error.ScramMessageFault.{ScramMessageFault}
use Rattle.pgw_types.specs.declared.error.ScramMessageFault.TheVariants as fault
use Rattle.pgw_scram.specs.declared.messages.ClientFirst.{ClientFirst}
use Rattle.pgw_scram.specs.declared.messages.ClientFinal.{ClientFinal}
use Rattle.pgw_scram.specs.declared.offer.Offer.{Offer}
use Rattle.pgw_scram.specs.Answers.{unless, unless_so, first_of}
use Rattle.pgw_scram.specs.Base64.{base64, nonce_text}
use Rattle.pgw_scram.specs.Formulas.{auth_message}
use Rattle.pgw_scram.specs.Readers.{read_client_final}
use Rattle.pgw_scram.specs.Refusals.{begins_with}

-- ---- texts

-- server-first-message, of the whole nonce, the salt's bytes and the count
abbrev pub server_first : List ℕ → List ℕ → ℕ → List ℕ
server_first nonce salt count =
    codes "r=" ++ nonce ++ codes ",s=" ++ base64 salt ++ codes ",i=" ++ decimal count

-- server-final-message
abbrev pub server_final : List ℕ → List ℕ
server_final signature = codes "v=" ++ base64 signature

-- the nonce of an exchange is the client's and the server's own
abbrev pub whole_nonce : List ℕ → List ℕ → List ℕ
whole_nonce nonce own = nonce ++ nonce_text own

-- ---- channel binding

-- the client binds its login: its header names a binding
abbrev pub is_bound : List ℕ → Bool
is_bound header = begins_with header (codes "p=")

-- the header names the certificate of the server's end
abbrev pub names_end_point : List ℕ → Bool
names_end_point header = begins_with header (codes "p=tls-server-end-point,")

-- without a hash the client binds; or beside a hash it binds to something else, or thinks that the server offers none
abbrev pub is_misbound : Option (List ℕ) → List ℕ → Bool
is_misbound None header = is_bound header
is_misbound (Some hash) header =
    begins_with header (codes "y,") || (is_bound header && not (names_end_point header))

abbrev pub channel_refusal : Option (List ℕ) → ClientFirst → Option PgWireError
channel_refusal hash parts =
    unless_so (not (is_misbound hash parts.header)) (InvalidScramMessage fault.ChannelBinding)

-- what is bound: the header, and behind it the certificate's hash where the header names it and there is one (cbind-input)
abbrev pub bound : List ℕ → Option (List ℕ) → List ℕ
bound header None = header
bound header (Some hash) = if names_end_point header then header ++ hash else header

-- ---- the offer and its answer

abbrev pub offer_of : ClientFirst → Option (List ℕ) → List ℕ → ℕ → List ℕ → Offer
offer_of parts hash salt count own =
    record {
      user = parts.user;
      bare = parts.bare;
      server_first = server_first
          (whole_nonce parts.nonce own) salt count;
      nonce =
          whole_nonce parts.nonce own;
      binding = base64 (bound parts.header hash);
    }

-- what both ends authenticate
abbrev pub exchanged : Offer → ClientFinal → List ℕ
exchanged offer parts = auth_message offer.bare offer.server_first parts.without_proof

-- another binding; or another nonce
abbrev pub answer_refusal : Offer → ClientFinal → Option PgWireError
answer_refusal offer parts =
    first_of (unless_so (bytes_eq parts.binding offer.binding)
    (InvalidScramMessage fault.ChannelBinding))
    (unless_so (bytes_eq parts.nonce offer.nonce) (InvalidScramMessage fault.Nonce))

abbrev pub answered_as : Offer → Result ClientFinal ScramMessageFault
    → Result ClientFinal PgWireError
answered_as offer (Err why) = Err (InvalidScramMessage why)
answered_as offer (Ok parts) = unless (answer_refusal offer parts) parts

-- the parts of client-final, where it answers the offer
abbrev pub final_for_offer : Offer → List ℕ → Result ClientFinal PgWireError
final_for_offer offer message = answered_as offer (read_client_final message)
