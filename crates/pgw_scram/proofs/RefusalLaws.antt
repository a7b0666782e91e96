-- A client's answers.
use Rattle.std.proofs.Common.{◌≡◌, ◌≢◌, ℕ, true, List, ◌++◌, codes, Option, Some, None, Result, Ok, Err, refl}
use Rattle.std.specs.Result.{IsErrAnd}
use Rattle.pgw_types.specs.declared.error.PgWireError.{PgWireError}
use Rattle.pgw_types.specs.declared.error.PgWireError.TheVariants as wire
use Rattle.pgw_types.specs.declared.error.ScramMessageFault.{ScramMessageFault}
use Rattle.pgw_types.specs.declared.scram_error.ScramClientError.{ScramClientError}
use Rattle.pgw_types.specs.declared.scram_error.ScramClientError.TheVariants as client
use Rattle.pgw_types.specs.ScramErrors.{scram_of_wire}
use Rattle.pgw_hash.specs.Pbkdf2.{salted_password}
use Rattle.pgw_scram.specs.declared.messages.ServerFirst.{ServerFirst}
use Rattle.pgw_scram.specs.declared.exchange.ClientLogin.{ClientLogin}
use Rattle.pgw_scram.specs.declared.exchange.ClientReply.{ClientReply}
use Rattle.pgw_scram.specs.Answers.{AnswersClient, unless, scram_result}
use Rattle.pgw_scram.specs.Base64.{base64, salt_of}
use Rattle.pgw_scram.specs.Formulas.{client_proof, server_signature}
use Rattle.pgw_scram.specs.Exchange.{without_proof, exchanged, client_final, signature}
use Rattle.pgw_scram.specs.Readers.{read_server_first}
use Rattle.pgw_scram.specs.Refusals.{begins_with}
use Rattle.pgw_scram.specs.Client.{scram_reply}

-- a reading that is answered is this one
pub read_is : {A : Type 0} (reading : Result A ScramMessageFault) (parts : A) → scram_result reading ≡ Ok parts
    → reading ≡ Ok parts
read_is (Ok found) parts e = cc
read_is (Err why) parts e = cc

refused_by : {A B : Type 0} (reading : Result B ScramMessageFault) (refusal : Option ScramClientError) (x : A)
    (e : PgWireError) (d : ScramClientError)
    → ((why : ScramMessageFault) → reading ≡ Err why → refusal ≡ Some
    (client.PgWireError (wire.InvalidScramMessage why)))
    → scram_result reading ≡ Err e → d ≡ client.PgWireError e → unless refusal x ≡ Err d
refused_by (Ok parts) refusal x e d refuses read is = cc
refused_by (Err why) refusal x e d refuses read is =
    let same : wire.InvalidScramMessage why ≡ e = cc in
    rw (refuses why refl, is, ← same) refl

-- a message that is not read is refused so
pub refused : {A B : Type 0} (reading : Result B ScramMessageFault) (refusal : Option ScramClientError) (x : A)
    (e : PgWireError) (r : Result A ScramClientError)
    → ((why : ScramMessageFault) → reading ≡ Err why → refusal ≡ Some
    (client.PgWireError (wire.InvalidScramMessage why)))
    → (e ≢ wire.OutOfMemory → scram_result reading ≡ Err e) → IsErrAnd r (λ d. d ≡ scram_of_wire e)
    → AnswersClient r (unless refusal x)
unfolding scram_of_wire
refused reading refusal x e (Ok y) refuses read is = absurd is
refused reading refusal x wire.OutOfMemory (Err d) refuses read is = λ other. absurd (other is)
refused reading refusal x e (Err d) refuses read is =
    λ other. refused_by reading refusal x e d refuses (read (λ (same : e ≡ wire.OutOfMemory). cc)) is

-- the reply to a server-first that is accepted
pub replied_is : (login : ClientLogin) (first salt : List ℕ) (parts : ServerFirst) (reply : ClientReply)
    → read_server_first first ≡ Ok parts → begins_with parts.nonce login.nonce ≡ true
    → salt_of parts.salt ≡ Some salt
    → reply.message ≡ without_proof login.binding parts.nonce ++ codes ",p=" ++ base64
    (client_proof (salted_password login.password salt parts.count) (exchanged login first parts))
    → reply.signature ≡ base64
    (server_signature (salted_password login.password salt parts.count) (exchanged login first parts))
    → scram_reply login first ≡ Ok reply
unfolding client_final signature
replied_is login first salt parts reply read begins is_salt message text =
    rw (read, begins, is_salt, ← message, ← text) refl

same_refusal : {A B : Type 0} (refusal : Option ScramClientError) (x : A) (y : B) (e : ScramClientError)
    → unless refusal x ≡ Err e → unless refusal y ≡ Err e
same_refusal None x y e is = cc
same_refusal (Some d) x y e is = cc

-- a refusal that is passed on
pub passed_on : {A B : Type 0} (refusal : Option ScramClientError) (x : A) (y : B) (e : ScramClientError)
    (r : Result B ScramClientError)
    → (e ≢ client.OutOfMemory → unless refusal x ≡ Err e) → IsErrAnd r (λ d. d ≡ e)
    → AnswersClient r (unless refusal y)
passed_on refusal x y e (Ok z) is same = absurd same
passed_on refusal x y e (Err d) is same = λ other. rw same (same_refusal refusal x y e (is (rw same at other)))
