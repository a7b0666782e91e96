-- A message at the front of a side's bytes: it has a byte, and is the same whatever follows it.
use Rattle.std.proofs.Common.{◌≡◌, inl, inr, ℕ, ◌^◌, ◌<◌, ◌≤◌, List, ◌++◌, length, take, Option, Some, None, Result, Ok, Err, sym, ap, ◌∙◌, arith, length-append}
use Rattle.std.proofs.lemmas.List.{append_cancel_right, take-append-drop, take_at, drop_at, length-take-le}
use Rattle.pgw_wire.proofs.Stable.{Stable}
use Rattle.pgw_backend.specs.declared.backend.PgWireBackendMessage.{PgWireBackendMessage as Backend}
use Rattle.pgw_backend.specs.Backend.{backend_front}
use Rattle.pgw_backend.proofs.BackendStable.{backend_stable}
use Rattle.pgw_frontend.specs.declared.frontend.PgWireFrontendMessage.{PgWireFrontendMessage as Frontend}
use Rattle.pgw_frontend.proofs.FrontendStable.{either}
use Rattle.pgw_proxy.specs.declared.context.Context.{Context}
use Rattle.pgw_proxy.specs.declared.recorded.Side.{Side}
use Rattle.pgw_proxy.specs.declared.recorded.Side.TheVariants.{Client, Server}
use Rattle.pgw_proxy.specs.declared.recorded.Recorded.{Recorded}
use Rattle.pgw_proxy.specs.declared.recorded.Recorded.TheVariants as recorded
use Rattle.pgw_proxy.specs.declared.fault.ProxyFault.{ProxyFault}
use Rattle.pgw_proxy.specs.Context.{client_context, is_due, behind_client, behind_server, is_accepted}
use Rattle.pgw_proxy.specs.Fronts.{RelayFinding, RelayFront, client_side_front, of_client, of_server, side_front}
use Rattle.pgw_proxy.specs.Record.{side_of}
use Rattle.pgw_proxy.proofs.FrontLaws.{client_stable}
use Rattle.pgw_proxy.proofs.LengthLaws.{client_short, server_short}

-- the bytes of a message at the front, and that it is read wherever they stand
record Alone {M : Type 0} (at : List ℕ → RelayFinding M) (bytes rest : List ℕ) (m : M) : Type 0 where
  g : List ℕ
  cut : bytes ≡ g ++ rest
  some : 1 ≤ length g
  again : (more : List ℕ) → at (g ++ more) ≡ Ok (Some (m, more))

alone : {M : Type 0} (at : List ℕ → RelayFinding M) → Stable 1 at → (bytes rest : List ℕ) (m : M)
    → at bytes ≡ Ok (Some (m, rest)) → Alone at bytes rest m
alone {M} at stable bytes rest m found =
    let ends = stable.whole bytes m rest found in
    let g = take ends.len bytes in
    let size : length g ≡ ends.len = length-take-le ends.len bytes ends.within in
    record {
      g = g;
      cut = sym (take-append-drop ends.len bytes) ∙ ap (λ (l : List ℕ). g ++ l) (sym ends.left);
      some = omega (arith, size, ends.some);
      again = λ more.
          ends.again (g ++ more) (take_at g more ends.len size) (omega (arith, length-append g more, size))
          ∙ ap (λ (l : List ℕ). Ok (Some (m, l))) (drop_at g more ends.len size);
    }

-- a message at the front of a side's bytes
pub record Met (side : Side) (c : Context) (bytes rest : List ℕ) (m : Recorded) (next : Context) : Type 0 where
  pub g : List ℕ
  pub cut : bytes ≡ g ++ rest
  pub some : 1 ≤ length g
  pub short : length g < 2 ^ 32
  pub again : (more : List ℕ) → side_front side c (g ++ more) ≡ Ok (Some (m, (more, next)))
  pub owner : side_of m ≡ side

abbrev whole_of : RelayFront → Result (Option RelayFront) ProxyFault
whole_of x = Ok (Some x)

some_of : (x y : RelayFront) → whole_of x ≡ whole_of y → x ≡ y
some_of x y is = cc

-- ---- a client's

record OfClient (c : Context) (r : RelayFinding Frontend) (rest : List ℕ) (m : Recorded) (next : Context) : Type 0
  where
    x : Frontend
    read : r ≡ Ok (Some (x, rest))
    again : (more : List ℕ) → of_client c (Ok (Some (x, more))) ≡ Ok (Some (m, (more, next)))
    owner : side_of m ≡ Client

of_client_is : (c : Context) (r : RelayFinding Frontend) (rest : List ℕ) (m : Recorded) (next : Context)
    → of_client c r ≡ Ok (Some (m, (rest, next))) → OfClient c r rest m next
of_client_is c (Err e) rest m next is = absurd cc
of_client_is c (Ok None) rest m next is = absurd cc
of_client_is c (Ok (Some x)) rest m next is = elim (either (is_due c)) [
  | inl due ↦ let other = rw due at is in absurd cc
  | inr free ↦
      let here : RelayFront = (recorded.Frontend x.0, (x.1, behind_client x.0 c)) in
      let same : here ≡ (m, (rest, next)) = some_of here (m, (rest, next)) (rw free at is) in
      let left : x.1 ≡ rest = ap (λ (p : RelayFront). p.1.0) same in
      let made : recorded.Frontend x.0 ≡ m = ap (λ (p : RelayFront). p.0) same in
      let behind : behind_client x.0 c ≡ next = ap (λ (p : RelayFront). p.1.1) same in
      record {
        x = x.0;
        read = ap (λ (l : List ℕ). Ok (Some (x.0, l))) left;
        again =
            λ more. rw free (ap (λ (n : Recorded). Ok (Some (n, (more, behind_client x.0 c)))) made
            ∙ ap (λ (d : Context). Ok (Some (m, (more, d)))) behind);
        owner = ap side_of (sym made);
      }
]

met_client : (c : Context) (bytes rest : List ℕ) (m : Recorded) (next : Context)
    → side_front Client c bytes ≡ Ok (Some (m, (rest, next))) → Met Client c bytes rest m next
unfolding side_front
met_client c bytes rest m next found =
    let o = of_client_is c (client_side_front (client_context c) bytes) rest m next found in
    let a =
    alone (client_side_front (client_context c)) (client_stable (client_context c)) bytes rest o.x o.read in
    let s = client_short (client_context c) bytes rest o.x o.read in
    let same : s.0 ≡ a.g = append_cancel_right s.0 a.g rest (sym s.1 ∙ a.cut) in
    record {
      g = a.g;
      cut = a.cut;
      some = a.some;
      short = omega (arith, s.2, ap length same);
      again = λ more. ap (of_client c) (a.again more) ∙ o.again more;
      owner = o.owner;
    }

-- ---- a server's

record OfServer (c : Context) (r : RelayFinding Backend) (rest : List ℕ) (m : Recorded) (next : Context) : Type 0
  where
    x : Backend
    read : r ≡ Ok (Some (x, rest))
    again : (more : List ℕ) → of_server c (Ok (Some (x, more))) ≡ Ok (Some (m, (more, next)))
    owner : side_of m ≡ Server

of_server_is : (c : Context) (r : RelayFinding Backend) (rest : List ℕ) (m : Recorded) (next : Context)
    → of_server c r ≡ Ok (Some (m, (rest, next))) → OfServer c r rest m next
of_server_is c (Err e) rest m next is = absurd cc
of_server_is c (Ok None) rest m next is = absurd cc
of_server_is c (Ok (Some x)) rest m next is = elim (either (is_accepted x.0)) [
  | inl accepted ↦ let other = rw accepted at is in absurd cc
  | inr free ↦
      let here : RelayFront = (recorded.Backend x.0, (x.1, behind_server x.0 c)) in
      let same : here ≡ (m, (rest, next)) = some_of here (m, (rest, next)) (rw free at is) in
      let left : x.1 ≡ rest = ap (λ (p : RelayFront). p.1.0) same in
      let made : recorded.Backend x.0 ≡ m = ap (λ (p : RelayFront). p.0) same in
      let behind : behind_server x.0 c ≡ next = ap (λ (p : RelayFront). p.1.1) same in
      record {
        x = x.0;
        read = ap (λ (l : List ℕ). Ok (Some (x.0, l))) left;
        again =
            λ more. rw free (ap (λ (n : Recorded). Ok (Some (n, (more, behind_server x.0 c)))) made
            ∙ ap (λ (d : Context). Ok (Some (m, (more, d)))) behind);
        owner = ap side_of (sym made);
      }
]

met_server : (c : Context) (bytes rest : List ℕ) (m : Recorded) (next : Context)
    → side_front Server c bytes ≡ Ok (Some (m, (rest, next))) → Met Server c bytes rest m next
unfolding side_front
met_server c bytes rest m next found =
    let o = of_server_is c (backend_front c.decode bytes) rest m next found in
    let a = alone (backend_front c.decode) (backend_stable c.decode) bytes rest o.x o.read in
    let s = server_short c.decode bytes rest o.x o.read in
    let same : s.0 ≡ a.g = append_cancel_right s.0 a.g rest (sym s.1 ∙ a.cut) in
    record {
      g = a.g;
      cut = a.cut;
      some = a.some;
      short = omega (arith, s.2, ap length same);
      again = λ more. ap (of_server c) (a.again more) ∙ o.again more;
      owner = o.owner;
    }

pub met : (side : Side) (c : Context) (bytes rest : List ℕ) (m : Recorded) (next : Context)
    → side_front side c bytes ≡ Ok (Some (m, (rest, next))) → Met side c bytes rest m next
met Client c bytes rest m next found = met_client c bytes rest m next found
met Server c bytes rest m next found = met_server c bytes rest m next found
