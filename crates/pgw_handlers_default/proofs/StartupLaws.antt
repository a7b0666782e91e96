-- What the table says of an authentication request, and what it refuses.
use Rattle.std.proofs.Common.{◌≡◌, ℕ, Bool, true, false, List, Option, Some, None, sym, subst}
use Rattle.std.specs.Prelude.{not, option_map}
use Rattle.std.specs.Str.{is_utf8}
use Rattle.pgw_startup.specs.declared.authentication.Authentication.{Authentication}
use Rattle.pgw_startup.specs.declared.authentication.Authentication.TheVariants as authentication
use Rattle.pgw_backend.specs.declared.backend.PgWireBackendMessage.TheVariants as backend
use Rattle.pgw_backend.specs.declared.client_error.PgWireClientError.{PgWireClientError as ClientError}
use Rattle.pgw_backend.specs.declared.client_error.PgWireClientError.TheVariants as client
use Rattle.pgw_backend.specs.ClientError.{of_scram}
use Rattle.pgw_types.specs.declared.scram_error.ScramClientError.{ScramClientError}
use Rattle.pgw_types.specs.declared.scram_error.ScramClientError.TheVariants as scram
use Rattle.pgw_types.specs.declared.scram_error.ScramFault.TheVariants as scram_fault
use Rattle.pgw_hash.specs.Saslprep.{saslprep}
use Rattle.pgw_scram.specs.Answers.{unless_so, first_of}
use Rattle.pgw_scram.specs.Refusals as scram_refusal
use Rattle.pgw_scram.specs.Refusals.{user_refusal}
use Rattle.pgw_session.specs.declared.stage.Stage.{Stage}
use Rattle.pgw_session.specs.declared.stage.Stage.TheVariants.{Starting, Challenged, Proving, Admitted, Answering, PassingOver}
use Rattle.pgw_session.specs.declared.stage.Next.{Next}
use Rattle.pgw_session.specs.declared.stage.Next.TheVariants.{Goes, Wrong}
use Rattle.pgw_session.specs.Input.{Input}
use Rattle.pgw_session.specs.Requests.{passes_over}
use Rattle.pgw_session.specs.Logins.{must_bind, cleartext_message, md5_message, user_of, password_of, scram_login, takes_method, first_message, final_message, expected_of, methods_refusal, first_refusal, final_refusal}
use Rattle.pgw_session.specs.Table.{news_or, next_unless, unless_bound, misplaced, next_after as table}
use Rattle.pgw_handlers_default.specs.Causes.{IsAlwaysCaused, RefusesCaused}

-- ---- what is refused

abbrev AreCaused : Option ClientError → Type 0
AreCaused None = Unit {0}
AreCaused (Some e) = IsAlwaysCaused e

so_caused : (b : Bool) (e : ClientError) → IsAlwaysCaused e → AreCaused (unless_so b e)
so_caused true e caused = tt
so_caused false e caused = caused

both_caused : (a b : Option ClientError) → AreCaused a → AreCaused b → AreCaused (first_of a b)
both_caused None b x y = y
both_caused (Some e) b x y = x

-- as both_caused, of what a client of SCRAM refuses, whose every error has its own cause
always : (e : ScramClientError) → IsAlwaysCaused (of_scram e)
always (scram.InvalidConfig key) = λ before now broken. tt
always (scram.PgWireError why) = λ before now broken. tt
always (scram.ScramError fault) = λ before now broken. tt
always scram.OutOfMemory = λ before now broken. tt

scram_caused : (o : Option ScramClientError) → AreCaused (option_map of_scram o)
scram_caused None = tt
scram_caused (Some e) = always e

methods_caused : (input : Input) (methods : List (List ℕ)) → AreCaused (methods_refusal input methods)
methods_caused input methods =
    both_caused (unless_so (takes_method input methods) (client.UnsupportedSASLAuthMethods methods)) _
    (so_caused (takes_method input methods) (client.UnsupportedSASLAuthMethods methods)
    (λ before now broken. tt))
    (both_caused (unless_so (is_utf8 (password_of input)) (client.ScramError scram_fault.PasswordNotUtf8)) _
    (so_caused (is_utf8 (password_of input)) (client.ScramError scram_fault.PasswordNotUtf8)
    (λ before now broken. tt))
    (scram_caused (user_refusal (saslprep (user_of input)))))

unless_caused : (o : Option ClientError) (stage : Stage) (reply : _) → AreCaused o
    → RefusesCaused (next_unless o (Goes stage reply))
unless_caused None stage reply caused = tt
unless_caused (Some e) stage reply caused = caused

misplaced_caused : (b : Bool) → RefusesCaused (misplaced b)
misplaced_caused true = tt
misplaced_caused false = tt

unbound_caused : (b : Bool) (n : Next) → RefusesCaused n → RefusesCaused (unless_bound b n)
unbound_caused true n caused = tt
unbound_caused false n caused = caused

-- AuthenticationOk before a login block
ok_caused : (b : Bool) → RefusesCaused (news_or (not b) Starting Wrong)
ok_caused true = tt
ok_caused false = tt

table_caused : (input : Input) (stage : Stage) (request : Authentication)
    → RefusesCaused (table input stage (backend.Authentication request))
table_caused input Starting (authentication.SASL methods) =
    unless_caused (methods_refusal input methods) (Challenged (scram_login input methods))
    (Some (first_message (scram_login input methods))) (methods_caused input methods)
table_caused input Starting authentication.Ok = ok_caused (must_bind input)
table_caused input Starting authentication.CleartextPassword =
    unbound_caused (must_bind input) (Goes Admitted (Some (cleartext_message input))) tt
table_caused input Starting (authentication.MD5Password salt) =
    unbound_caused (must_bind input) (Goes Admitted (Some (md5_message input salt))) tt
table_caused input Starting request = tt
table_caused input (Challenged login) (authentication.SASLContinue first) =
    unless_caused (first_refusal login first) (Proving (expected_of login first))
    (Some (final_message login first)) (scram_caused (scram_refusal.scram_first_refusal login.nonce first))
table_caused input (Challenged login) request = tt
table_caused input (Proving expected) (authentication.SASLFinal final) =
    unless_caused (final_refusal expected final) Admitted None
    (scram_caused (scram_refusal.scram_refusal expected final))
table_caused input (Proving expected) request = tt
table_caused input Admitted authentication.Ok = tt
table_caused input Admitted request = tt
table_caused input (Answering kind rows) request = misplaced_caused (passes_over kind)
table_caused input PassingOver request = tt

-- an authentication request is refused for a cause of its own
pub next_caused : (input : Input) (stage : Stage) (request : Authentication) (n : Next)
    → n ≡ table input stage (backend.Authentication request) → RefusesCaused n
next_caused input stage request n is = subst RefusesCaused (sym is) (table_caused input stage request)
