-- What follows a client's message changes nothing.
use Rattle.std.proofs.Common.{◌≡◌, ◌⊎◌, inl, inr, ℕ, ◌≤◌, Bool, true, false, cond, ltb, eqb, List, ◌++◌, length, Option, Some, None, Result, Ok, Err, refl, sym, ap, subst, ◌∙◌, arith}
use Rattle.pgw_types.specs.declared.error.PgWireError.{PgWireError}
use Rattle.pgw_types.specs.declared.context.DecodeContext.{DecodeContext}
use Rattle.pgw_wire.specs.declared.framing.Framing.TheVariants.{Code}
use Rattle.pgw_wire.specs.Framing.{code_in, wire_front, as_one_of, Decodes}
use Rattle.pgw_wire.proofs.Stable.{Stable}
use Rattle.pgw_control.specs.Openings.{ssl_request_of, gss_enc_request_of}
use Rattle.pgw_frontend.specs.declared.frontend.SslNegotiationMetaMessage.TheVariants as negotiation
use Rattle.pgw_frontend.specs.declared.frontend.PgWireFrontendMessage.{PgWireFrontendMessage as Frontend}
use Rattle.pgw_frontend.specs.declared.frontend.PgWireFrontendMessage.TheVariants as frontend
use Rattle.pgw_frontend.specs.Frontend.{negotiation_front, frontend_front, first_front, typed_front}
use Rattle.pgw_frontend.specs.FrontendSpells.{SpellsFrontend}
use Rattle.pgw_frontend.proofs.FrontendStable.{either, by_code_stable, asked_of, first_of, asked_or_first_stable, first_by, first_stable, typed_stable}
use Rattle.std.specs.Prelude.{◌≢◌}
use Rattle.pgw_types.specs.declared.error.PgWireError.TheVariants as wire
use Rattle.pgw_wire.specs.Reading.{IsReadRefusal}
use Rattle.pgw_backend.specs.Backend.{backend_front}
use Rattle.pgw_proxy.specs.declared.context.Context.{Context}
use Rattle.pgw_proxy.specs.declared.recorded.Side.TheVariants.{Client, Server}
use Rattle.pgw_proxy.specs.declared.fault.ProxyFault.{ProxyFault}
use Rattle.pgw_proxy.specs.declared.fault.ProxyFault.TheVariants as fault
use Rattle.pgw_proxy.specs.Context.{client_context, past_requests}
use Rattle.pgw_proxy.specs.Fronts.{RelayFinding, client_asks_none, front_past_encryption, client_side_front, refused, of_client, of_server, side_front}

-- a message that takes more bytes takes so many
pub stable_less : {M : Type 0} (k n : ℕ) (p : List ℕ → RelayFinding M) → k ≤ n → Stable n p → Stable k p
stable_less k n p le h = record {
  whole = λ a m rest e.
      let x = h.whole a m rest e in
      record {
        len = x.len;
        some = omega (arith, le, x.some);
        within = x.within;
        left = x.left;
        again = x.again;
      };
  bad = h.bad;
}

-- a reading that is the same is as stable
stable_same : {M : Type 0} (n : ℕ) (p q : List ℕ → RelayFinding M) → ((b : List ℕ) → p b ≡ q b) → Stable n q
    → Stable n p
stable_same n p q same h = record {
  whole = λ a m rest e.
      let x = h.whole a m rest (sym (same a) ∙ e) in
      record {
        len = x.len;
        some = x.some;
        within = x.within;
        left = x.left;
        again = λ b eq long. same b ∙ x.again b eq long;
      };
  bad = λ a more e is. same (a ++ more) ∙ h.bad a more e (sym (same a) ∙ is);
}

-- ---- before a Startup

-- what asks for something is what was found
asked : {A : Type 0} (ctx : DecodeContext) (make : A → Frontend) (r : RelayFinding A)
    → ((x : A) → client_asks_none (make x) ≡ false)
    → front_past_encryption ctx (as_one_of make r) ≡ as_one_of make r
asked ctx make (Err e) law = refl
asked ctx make (Ok None) law = refl
asked ctx make (Ok (Some x)) law = rw (law x.0) refl

opening_by : DecodeContext → ℕ → List ℕ → RelayFinding Frontend
opening_by ctx code b = asked_of ctx code b (first_of (past_requests ctx) code b)

opening_is : (ctx : DecodeContext) (b : List ℕ) → ctx.awaiting_frontend_ssl ≡ true → ltb (length b) 8 ≡ false
    → client_side_front ctx b ≡ opening_by ctx (code_in b) b
unfolding client_side_front frontend_front negotiation_front opening_by ssl_request_of gss_enc_request_of
opening_is ctx b is long = elim (either (eqb (code_in b) 80877103)) [
  | inl s ↦ rw (is, long, s)
      (asked ctx (λ m. frontend.SslNegotiation (negotiation.PostgresSsl m))
      (wire_front Code 10000 (ssl_request_of ctx) b) (λ x. refl))
  | inr s ↦ elim (either (eqb (code_in b) 80877104)) [
    | inl g ↦ rw (is, long, s, g)
        (asked ctx (λ m. frontend.SslNegotiation (negotiation.PostgresGss m))
        (wire_front Code 10000 (gss_enc_request_of ctx) b) (λ x. refl))
    | inr g ↦ rw (is, long, s, g) (first_by (past_requests ctx) b long)
  ]
]

opening_none : (ctx : DecodeContext) (b : List ℕ) → ctx.awaiting_frontend_ssl ≡ true → ltb (length b) 8 ≡ true
    → client_side_front ctx b ≡ Ok None
unfolding client_side_front frontend_front negotiation_front
opening_none ctx b is short = rw (is, short) refl

opening_stable : (ctx : DecodeContext) → ctx.awaiting_frontend_ssl ≡ true → Stable 8 (client_side_front ctx)
unfolding opening_by
opening_stable ctx is =
    by_code_stable (client_side_front ctx) (opening_by ctx)
    (record { none = λ b short. opening_none ctx b is short; some = λ b long. opening_is ctx b is long })
    (asked_or_first_stable ctx (past_requests ctx))

-- no encryption is asked for, and the first message stands there
pub first_instead : (ctx : DecodeContext) (old mid new : List ℕ) (r : Result (Option Frontend) PgWireError)
    → frontend_front ctx old ≡ Ok (Some (frontend.SslNegotiation negotiation.None, mid))
    → (g : List ℕ) × (old ≡ g ++ mid)
    × SpellsFrontend ctx.protocol_version (frontend.SslNegotiation negotiation.None) g
    → Decodes r mid new (frontend_front (past_requests ctx) mid)
    → Decodes r old new (front_past_encryption ctx (frontend_front ctx old))
unfolding SpellsFrontend
first_instead ctx old mid new r found spelled h =
    let same : old ≡ mid = spelled.1 ∙ ap (λ (g : List ℕ). g ++ mid) spelled.2 in
    let is : front_past_encryption ctx (frontend_front ctx old) ≡ frontend_front (past_requests ctx) mid =
    ap (front_past_encryption ctx) found in
    subst (λ (f : RelayFinding Frontend). Decodes r old new f) (sym is)
    (subst (λ (l : List ℕ). Decodes r l new (frontend_front (past_requests ctx) mid)) (sym same) h)

-- ---- behind the requests for encryption

past_is : (ctx : DecodeContext) (b : List ℕ) → ctx.awaiting_frontend_ssl ≡ false
    → client_side_front ctx b ≡ cond ctx.awaiting_frontend_startup (first_front ctx b) (typed_front ctx b)
unfolding client_side_front frontend_front
past_is ctx b is = rw is refl

past_stable : (ctx : DecodeContext) → ctx.awaiting_frontend_ssl ≡ false → Stable 5 (client_side_front ctx)
past_stable ctx is = elim (either ctx.awaiting_frontend_startup) [
  | inl first ↦ stable_same 5 (client_side_front ctx) (first_front ctx) (λ b. past_is ctx b is
      ∙ ap (λ (t : Bool). cond t (first_front ctx b) (typed_front ctx b)) first)
      (stable_less 5 8 (first_front ctx) (omega arith) (first_stable ctx))
  | inr typed ↦ stable_same 5 (client_side_front ctx) (typed_front ctx) (λ b. past_is ctx b is
      ∙ ap (λ (t : Bool). cond t (first_front ctx b) (typed_front ctx b)) typed) (typed_stable ctx)
]

pub client_stable : (ctx : DecodeContext) → Stable 1 (client_side_front ctx)
client_stable ctx = elim (either ctx.awaiting_frontend_ssl) [
  | inl on ↦ stable_less 1 8 (client_side_front ctx) (omega arith) (opening_stable ctx on)
  | inr off ↦ stable_less 1 5 (client_side_front ctx) (omega arith) (past_stable ctx off)
]

-- ---- refusals

memory_or : (e : PgWireError) → (e ≡ wire.OutOfMemory) ⊎ (e ≢ wire.OutOfMemory)
memory_or wire.OutOfMemory = inl refl
memory_or e = inr (λ is. cc)

pub client_bad : (c : Context) (bytes : List ℕ) (e : PgWireError) (f : ProxyFault) → f ≡ refused fault.Client e
    → IsReadRefusal e (client_side_front (client_context c) bytes) → f ≢ fault.OutOfMemory
    → side_front Client c bytes ≡ Err f
unfolding side_front
client_bad c bytes e f is bad ne = elim (memory_or e) [
  | inl w ↦ absurd (ne (is ∙ ap (refused fault.Client) w))
  | inr n ↦ ap (of_client c) (bad n) ∙ ap (λ (x : ProxyFault). Err x) (sym is)
]

pub server_bad : (c : Context) (bytes : List ℕ) (e : PgWireError) (f : ProxyFault) → f ≡ refused fault.Server e
    → IsReadRefusal e (backend_front c.decode bytes) → f ≢ fault.OutOfMemory → side_front Server c bytes ≡ Err f
unfolding side_front
server_bad c bytes e f is bad ne = elim (memory_or e) [
  | inl w ↦ absurd (ne (is ∙ ap (refused fault.Server) w))
  | inr n ↦ ap (of_server c) (bad n) ∙ ap (λ (x : ProxyFault). Err x) (sym is)
]
