-- Canceling over a link of its own.
use Rattle.std.proofs.Common.{◌≡◌, ℕ, List, [], Option, Result, Ok, Err, subst}
use Rattle.std.specs.Result.{OnOk, IfErr}
use Rattle.pgw_types.specs.declared.error.PgWireError.{PgWireError}
use Rattle.pgw_types.specs.declared.address.Address.{Address}
use Rattle.pgw_backend.specs.declared.client_error.PgWireClientError.{PgWireClientError as ClientError}
use Rattle.pgw_link.specs.Dials.{DialTape, MakesNext}
use Rattle.pgw_dialogue.specs.Wire.{PutOut}
use Rattle.pgw_client_calls.specs.Canceling.{SentOnce, NotSentOnce, Cancels, sent, unsent}

pub cancel_sent : {same foretells : Type 0} {was is : Option (List (List ℕ))} {old new : DialTape}
    {before now : ℕ} (address : Address) (spelled : Result (List ℕ) PgWireError) (out : List ℕ)
    (r : Result (Unit {0}) ClientError)
    → PutOut spelled [] out (Ok tt)
    → OnOk r (SentOnce address out old new) → OnOk r (now ≡ before)
    → (foretells → OnOk r ((offer : Option (List ℕ)) × MakesNext was is offer))
    → IfErr r (NotSentOnce foretells address out was is old new before now)
    → Cancels same foretells address spelled was is old new before now r
cancel_sent {same} {foretells} {was} {is} {old} {new} {before} {now} address spelled out (Ok done) p s calm next f =
    sent p.0 p.1 (subst (λ (b : List ℕ). SentOnce address b old new) p.2 s) calm next
cancel_sent {same} {foretells} {was} {is} {old} {new} {before} {now} address spelled out (Err e) p s calm next f =
    unsent p.0 e p.1 (subst (λ (b : List ℕ). NotSentOnce foretells address b was is old new before now e) p.2 f)
