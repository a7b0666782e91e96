-- What becomes of a message that a handler sends.
use Rattle.std.proofs.Common.{ℕ, Bool, false, List, [], length, Result, Err, refl, sym, ap, subst}
use Rattle.std.proofs.lemmas.List.{append-nil}
use Rattle.pgw_types.specs.declared.error.PgWireError.{PgWireError}
use Rattle.pgw_backend.specs.declared.client_error.PgWireClientError.{PgWireClientError as ClientError}
use Rattle.pgw_backend.specs.declared.client_error.PgWireClientError.TheVariants as client
use Rattle.pgw_backend.specs.ClientError.{client_of_wire}
use Rattle.pgw_wire.specs.Framing.{Appends}
use Rattle.pgw_dialogue.specs.Wire.{PutOut}
use Rattle.pgw_dialogue.proofs.WireLaws.{told_of}
use Rattle.pgw_handlers.specs.Client.{Client, Sight}
use Rattle.pgw_handlers.specs.Sending.{NotSent, SendLeavesUsable, IsSpelled, bytes_or_none}
use Rattle.pgw_client_calls.specs.Desk.{is_wanting}

pub put_refused : (spelled : Result (List ℕ) PgWireError) (old new : List ℕ) (e : PgWireError)
    → Appends (Err e) old new spelled → PutOut spelled old new (Err (client_of_wire e))
put_refused spelled old new e a = (a.0, told_of spelled e a.1)

abbrev sight : Client → List ℕ → Bool → Sight
sight c wrote broken = record { client = c; wrote = wrote; flushed = length wrote; broken = broken }

-- memory was wanting, or the message has no spelling
pub not_sent : (spelled : Result (List ℕ) PgWireError) (c : Client) (old new : List ℕ) (e : ClientError)
    → PutOut spelled old new (Err e) → NotSent spelled (sight c old false) (sight c new (is_wanting e)) e
not_sent spelled c old new client.OutOfMemory p = record {
  front = [];
  behind = bytes_or_none spelled;
  cut = refl;
  usable = refl;
  after = rw (append-nil old, p.0) refl;
}
not_sent spelled c old new e p =
    let why = p.1 (λ is. cc) in
    subst (λ (x : ClientError). NotSent spelled (sight c old false) (sight c new (is_wanting x)) x) (sym why.2)
    (refl, why.1, ap (λ (w : List ℕ). sight c w false) p.0)

pub still_usable : (spelled : Result (List ℕ) PgWireError) (old new : List ℕ) (e : ClientError)
    → PutOut spelled old new (Err e) → SendLeavesUsable (Err e) false (is_wanting e)
still_usable spelled old new client.OutOfMemory p = (refl, refl)
still_usable spelled old new e p =
    let why = p.1 (λ is. cc) in
    subst (λ (x : ClientError). SendLeavesUsable (Err x) false (is_wanting x)) (sym why.2) (refl, refl)

pub spelled_so : (spelled : Result (List ℕ) PgWireError) (old new : List ℕ) (e : ClientError)
    → PutOut spelled old new (Err e) → IsSpelled spelled (Err e)
spelled_so spelled old new client.OutOfMemory p = tt
spelled_so spelled old new e p =
    let why = p.1 (λ is. cc) in
    subst (λ (x : ClientError). IsSpelled spelled (Err x)) (sym why.2) why.1
