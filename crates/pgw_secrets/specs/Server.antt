-- What the steps of a server answer that keeps a stored secret (RFC 5802, section 5).
use Rattle.std.specs.Prelude.{◌≡◌, ◌⊎◌, ℕ, List, Result, Ok, Err}
use Rattle.pgw_types.specs.declared.error.PgWireError.{PgWireError}
use Rattle.pgw_types.specs.declared.error.PgWireError.TheVariants.{InvalidScramMessage, InvalidPassword, OutOfMemory}
use Rattle.pgw_types.specs.declared.error.ScramMessageFault.{ScramMessageFault}
use Rattle.pgw_scram.specs.declared.messages.ClientFirst.{ClientFirst}
use Rattle.pgw_scram.specs.declared.messages.ClientFinal.{ClientFinal}
use Rattle.pgw_scram.specs.Formulas.{signature_by}
use Rattle.pgw_scram.specs.Offers.{offer_of, channel_refusal, exchanged, final_for_offer, server_final}
use Rattle.pgw_scram.specs.Readers.{read_client_first}
use Rattle.pgw_scram.specs.Server.{unless_misbound}
use Rattle.pgw_secrets.specs.declared.server.StoredScramAuth.{StoredScramAuth}
use Rattle.pgw_secrets.specs.declared.server.StoredScramWaiting.{StoredScramWaiting}
use Rattle.pgw_secrets.specs.Proof.{IsProof}

-- ---- the first step

abbrev pub stored_wait : StoredScramAuth → ClientFirst → List ℕ → StoredScramWaiting
stored_wait server parts own = record {
  offer = offer_of parts server.certificate_hash server.secret.salt server.secret.count own;
  stored_key = server.secret.stored_key;
  server_key = server.secret.server_key;
}

-- with the server-first that it has sent
abbrev pub stored_with_first : StoredScramWaiting → List ℕ × StoredScramWaiting
stored_with_first server = (server.offer.server_first, server)

-- server-first, and a server that has sent it, of the parts of client-first and the bytes of the
-- server's nonce
abbrev pub stored_offer_to : StoredScramAuth → ClientFirst → List ℕ
    → Result (List ℕ × StoredScramWaiting) PgWireError
stored_offer_to server parts own =
    unless_misbound (channel_refusal server.certificate_hash parts)
    (Ok (stored_with_first (stored_wait server parts own)))

abbrev pub stored_offer_as : StoredScramAuth → Result ClientFirst ScramMessageFault → List ℕ
    → Result (List ℕ × StoredScramWaiting) PgWireError
stored_offer_as server (Err why) own = Err (InvalidScramMessage why)
stored_offer_as server (Ok parts) own = stored_offer_to server parts own

-- as stored_offer_as, of client-first
abbrev pub stored_offer : StoredScramAuth → List ℕ → List ℕ
    → Result (List ℕ × StoredScramWaiting) PgWireError
stored_offer server message own = stored_offer_as server (read_client_first message) own

-- ---- the last step

-- the proof of the parts of client-final
abbrev pub Proves : StoredScramWaiting → ClientFinal → Type 0
Proves server parts = IsProof server.stored_key (exchanged server.offer parts) parts.proof

abbrev pub signed : StoredScramWaiting → ClientFinal → List ℕ
signed server parts = server_final (signature_by server.server_key (exchanged server.offer parts))

-- server-final where the parts prove the stored key, and no other answer than a refusal where not
abbrev pub Judges : StoredScramWaiting → ClientFinal → Result (List ℕ) PgWireError → Type 0
Judges server parts answer =
    (Proves server parts × (answer ≡ Ok (signed server parts)))
    ⊎ ((Proves server parts → ⊥) × (answer ≡ Err (InvalidPassword server.offer.user)))

abbrev pub AcceptsAs : StoredScramWaiting → Result ClientFinal PgWireError
    → Result (List ℕ) PgWireError → Type 0
AcceptsAs server (Err e) answer = answer ≡ Err e
AcceptsAs server (Ok parts) answer = Judges server parts answer

-- what is answered to client-final
abbrev pub AcceptsStored : StoredScramWaiting → List ℕ → Result (List ℕ) PgWireError → Type 0
AcceptsStored server message answer =
    AcceptsAs server (final_for_offer server.offer message) answer

-- this, or memory ran out
abbrev pub StoredOrNoMemory : (Result (List ℕ) PgWireError → Type 0) → Result (List ℕ) PgWireError
    → Type 0
StoredOrNoMemory Is answer = (answer ≡ Err OutOfMemory) ⊎ Is answer
