-- With what a server refuses a login.
use Rattle.std.proofs.Common.{◌≡◌, ℕ, Bool, true, false, not, cond, ltb, List, ◌++◌, length, ◌+◌, Option, Some, None, Result, Ok, Err, subst}
use Rattle.std.specs.Str.{bytes_eq}
use Rattle.pgw_types.specs.declared.error.PgWireError.{PgWireError}
use Rattle.pgw_types.specs.declared.error.PgWireError.TheVariants.{InvalidPassword, InvalidScramMessage, MessageTooLarge}
use Rattle.pgw_types.specs.declared.error.ScramMessageFault.{ScramMessageFault}
use Rattle.pgw_types.specs.declared.error.ScramMessageFault.TheVariants as fault
use Rattle.pgw_wire.specs.Framing as framing
use Rattle.pgw_wire.specs.declared.framing.Framing.TheVariants.{Typed}
use Rattle.pgw_startup.specs.Login.{authentication}
use Rattle.pgw_startup.specs.declared.authentication.Authentication.TheVariants as auth
use Rattle.pgw_backend.specs.Backend.{backend_encoding}
use Rattle.pgw_scram.specs.Answers.{unless, unless_so, first_of}
use Rattle.pgw_scram.specs.Exchange.{client_first, client_final}
use Rattle.pgw_scram.specs.Offers.{is_misbound, answered_as, server_final}
use Rattle.pgw_scram.specs.Readers.{read_client_first, read_client_final}
use Rattle.pgw_scram.specs.Server.{scram_offer_as, offered_with, unless_misbound, accepted_as}
use Rattle.pgw_scram.specs.declared.messages.ClientFirst.{ClientFirst}
use Rattle.pgw_scram.specs.declared.messages.ClientFinal.{ClientFinal}
use Rattle.pgw_scram.specs.declared.password.Password.{Password as Kept}
use Rattle.pgw_scram.specs.declared.server.ScramServerAuth.{ScramServerAuth}
use Rattle.pgw_scram.specs.declared.server.ScramServerAuthWaitingForClientFinal.{ScramServerAuthWaitingForClientFinal as WaitingForClientFinal}
use Rattle.pgw_login_pair.specs.declared.parties.PairInput.{PairInput}
use Rattle.pgw_login_pair.specs.declared.parties.PairOutcome.{PairOutcome}
use Rattle.pgw_login_pair.specs.declared.parties.ServerEnd.TheVariants as of_server
use Rattle.pgw_login_pair.specs.Parties.{ServerCause, declined, unoffered, unproved, LoginRefusal, of_message, of_proof, of_salt, of_length, TwoParty}
use Rattle.pgw_login_pair.specs.Server.{scram_end}
use Rattle.pgw_login_pair.specs.World.{client_login}
use Rattle.pgw_login_pair.proofs.Firsts.{continue_with}

err_is : {A : Type 0} {e d : PgWireError} → ◌≡◌ {A = Result A PgWireError} (Err e) (Err d) → e ≡ d
err_is h = cc

no_err : {A : Type 0} {x : A} {e : PgWireError} → ◌≡◌ {A = Result A PgWireError} (Ok x) (Err e) → ⊥
no_err h = cc

-- the error is this one
known_as : {A : Type 0} {e d : PgWireError} → LoginRefusal e → ◌≡◌ {A = Result A PgWireError} (Err e) (Err d)
    → LoginRefusal d
known_as known is = subst LoginRefusal (err_is is) known

-- ---- client-first

by_salt : (server : ScramServerAuth) (opening : ClientFirst) (salt : Option (List ℕ)) (stored nonce : List ℕ)
    (why : PgWireError)
    → offered_with server opening salt stored nonce ≡ Err why → LoginRefusal why
by_salt server opening None stored nonce why is = known_as of_salt is
by_salt server opening (Some salt) stored nonce why is = absurd (no_err is)

by_binding : (server : ScramServerAuth) (opening : ClientFirst) (stored : Kept) (nonce : List ℕ)
    (why : PgWireError) (b : Bool)
    → unless_misbound (unless_so (not b) (InvalidScramMessage fault.ChannelBinding))
    (offered_with server opening stored.salt stored.password nonce) ≡ Err why
    → LoginRefusal why
by_binding server opening stored nonce why true is = known_as (of_message fault.ChannelBinding) is
by_binding server opening stored nonce why false is =
    by_salt server opening stored.salt stored.password nonce why is

by_first : (server : ScramServerAuth) (r : Result ClientFirst ScramMessageFault) (stored : Kept) (nonce : List ℕ)
    (why : PgWireError)
    → scram_offer_as server r stored nonce ≡ Err why → LoginRefusal why
by_first server (Err f) stored nonce why is = known_as (of_message f) is
by_first server (Ok opening) stored nonce why is =
    by_binding server opening stored nonce why (is_misbound server.certificate_hash opening.header) is

by_length : (first : List ℕ) (why : PgWireError) → backend_encoding (continue_with first) ≡ Err why
    → LoginRefusal why
unfolding backend_encoding framing.encoded
by_length first why is =
    go (ltb 30000 (framing.saturated (length (authentication (auth.SASLContinue first)) + framing.length_field
    (Typed 82)))) is
  where
    go : (b : Bool)
        → cond b (Err (MessageTooLarge 30000 (framing.saturated
        (length (authentication (auth.SASLContinue first)) + framing.length_field (Typed 82)))))
        (Ok (framing.header (Typed 82) (length (authentication (auth.SASLContinue first)))
        ++ authentication (auth.SASLContinue first))) ≡ Err why
        → LoginRefusal why
    go true h =
        known_as (of_length 30000
        (framing.saturated (length (authentication (auth.SASLContinue first)) + framing.length_field (Typed 82))))
        h
    go false h = absurd (no_err h)

-- ---- client-final

by_proof : (c : Bool) (user out : List ℕ) (why : PgWireError)
    → unless (unless_so c (InvalidPassword user)) out ≡ Err why → LoginRefusal why
by_proof true user out why is = absurd (no_err is)
by_proof false user out why is = known_as (of_proof user) is

by_answer : (a b : Bool) (waiting : WaitingForClientFinal) (closing : ClientFinal) (why : PgWireError)
    → accepted_as waiting
    (unless (first_of (unless_so a (InvalidScramMessage fault.ChannelBinding))
    (unless_so b (InvalidScramMessage fault.Nonce))) closing) ≡ Err why
    → LoginRefusal why
by_answer false b waiting closing why is = known_as (of_message fault.ChannelBinding) is
by_answer true false waiting closing why is = known_as (of_message fault.Nonce) is
by_answer true true waiting closing why is = by_proof _ (waiting.offer).user (server_final _) why is

by_final : (waiting : WaitingForClientFinal) (r : Result ClientFinal ScramMessageFault) (why : PgWireError)
    → accepted_as waiting (answered_as waiting.offer r) ≡ Err why → LoginRefusal why
by_final waiting (Err f) why is = known_as (of_message f) is
by_final waiting (Ok closing) why is =
    by_answer (bytes_eq closing.binding (waiting.offer).binding) (bytes_eq closing.nonce (waiting.offer).nonce)
    waiting closing why is

by_cause : (input : PairInput) (why : PgWireError) → ServerCause input why → LoginRefusal why
by_cause input _ (declined why off) =
    by_first (scram_end input) (read_client_first (client_first (client_login input))) input.stored
    input.server_nonce why off
by_cause input _ (unoffered why first waiting off bad) = by_length first why bad
by_cause input _ (unproved why first waiting off fine bad) =
    by_final waiting (read_client_final (client_final (client_login input) first)) why bad

pub server_refuses_logins : (input : PairInput) (o : PairOutcome) → TwoParty input o → (why : PgWireError)
    → o.server ≡ of_server.Refused why → LoginRefusal why
server_refuses_logins input o (p, agree) why is = by_cause input why (agree.cause why is)
