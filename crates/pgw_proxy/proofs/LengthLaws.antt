-- No message has as many bytes as a length of 32 bits can say.
use Rattle.std.proofs.Common.{◌≡◌, inl, inr, ℕ, ◌+◌, ◌^◌, ◌<◌, ◌≤◌, Bool, true, false, cond, List, [], ◌∷◌, ◌++◌, length, Some, None, Ok, Err, refl, ap, subst, ◌∙◌, arith, length-append}
use Rattle.pgw_types.specs.declared.context.ProtocolVersion.{ProtocolVersion}
use Rattle.pgw_types.specs.declared.context.DecodeContext.{DecodeContext}
use Rattle.std.specs.Int.{w32}
use Rattle.pgw_wire.specs.Formats.{SpellsNat}
use Rattle.pgw_control.specs.Openings.{SpellsCoded}
use Rattle.pgw_backend.specs.declared.backend.PgWireBackendMessage.{PgWireBackendMessage as Backend}
use Rattle.pgw_backend.specs.declared.backend.PgWireBackendMessage.TheVariants as backend
use Rattle.pgw_backend.specs.Backend.{backend_front}
use Rattle.pgw_backend.specs.Front.{Spelled, SpellsIn}
use Rattle.pgw_backend.proofs.BackendLaws.{backend_found}
use Rattle.pgw_frontend.specs.declared.frontend.SslNegotiationMetaMessage.TheVariants as negotiation
use Rattle.pgw_frontend.specs.declared.frontend.PgWireFrontendMessage.{PgWireFrontendMessage as Frontend}
use Rattle.pgw_frontend.specs.declared.frontend.PgWireFrontendMessage.TheVariants as frontend
use Rattle.pgw_frontend.specs.Frontend.{frontend_front}
use Rattle.pgw_frontend.specs.FrontendSpells.{SpellsFrontend}
use Rattle.pgw_frontend.proofs.FrontendLaws.{frontend_found}
use Rattle.pgw_frontend.proofs.FrontendStable.{either}
use Rattle.pgw_proxy.specs.Context.{past_requests}
use Rattle.pgw_proxy.specs.Fronts.{RelayFinding, client_asks_none, front_past_encryption, client_side_front}

typed_short : {Body : List ℕ → Type 0} (byte limit : ℕ) (g : List ℕ) → limit ≤ 2147483647
    → (head : List ℕ) × (body : List ℕ) × (g ≡ byte ∷ (head ++ body)) × SpellsNat w32 (length body + 4) head
    × (length body + 4 ≤ limit) × Body body
    → length g < 2 ^ 32
typed_short byte limit g le (head, body, is, size, within, of) =
    omega (arith, le, ap length is, length-append head body, size.0, within)

untyped_short : {Body : List ℕ → Type 0} (limit : ℕ) (g : List ℕ) → limit ≤ 2147483647
    → (head : List ℕ) × (body : List ℕ) × (g ≡ head ++ body) × SpellsNat w32 (length body + 4) head
    × (length body + 4 ≤ limit) × Body body
    → length g < 2 ^ 32
untyped_short limit g le (head, body, is, size, within, of) =
    omega (arith, le, ap length is, length-append head body, size.0, within)

coded_short : (code : ℕ) (g : List ℕ) → SpellsCoded code g → length g < 2 ^ 32
coded_short code g (head, tail, is, four, size) =
    omega (arith, ap length is, length-append head tail, four, size.0)

-- ---- a client's

frontend_short : (v : ProtocolVersion) (m : Frontend) (g : List ℕ) → SpellsFrontend v m g → length g < 2 ^ 32
unfolding SpellsFrontend
frontend_short v (frontend.SslNegotiation (negotiation.PostgresSsl m)) g s = coded_short 80877103 g s
frontend_short v (frontend.SslNegotiation (negotiation.PostgresGss m)) g s = coded_short 80877104 g s
frontend_short v (frontend.SslNegotiation negotiation.None) g s = omega (arith, ap length s)
frontend_short v (frontend.Startup m) g s = untyped_short 10000 g (omega arith) s
frontend_short v (frontend.CancelRequest m) g s = untyped_short 10000 g (omega arith) s
frontend_short v (frontend.PasswordMessageFamily m) g s = typed_short 112 10000 g (omega arith) s
frontend_short v (frontend.PortalSuspended m) g s = typed_short 115 30000 g (omega arith) s
frontend_short v (frontend.Query m) g s = typed_short 81 1073741822 g (omega arith) s
frontend_short v (frontend.Parse m) g s = typed_short 80 1073741822 g (omega arith) s
frontend_short v (frontend.Bind m) g s = typed_short 66 1073741822 g (omega arith) s
frontend_short v (frontend.Close m) g s = typed_short 67 10000 g (omega arith) s
frontend_short v (frontend.Describe m) g s = typed_short 68 10000 g (omega arith) s
frontend_short v (frontend.Execute m) g s = typed_short 69 10000 g (omega arith) s
frontend_short v (frontend.Flush m) g s = typed_short 72 10000 g (omega arith) s
frontend_short v (frontend.Sync m) g s = typed_short 83 10000 g (omega arith) s
frontend_short v (frontend.Terminate m) g s = typed_short 88 10000 g (omega arith) s
frontend_short v (frontend.CopyData m) g s = typed_short 100 1073741822 g (omega arith) s
frontend_short v (frontend.CopyDone m) g s = typed_short 99 10000 g (omega arith) s
frontend_short v (frontend.CopyFail m) g s = typed_short 102 10000 g (omega arith) s

none_is : (m : Frontend) → client_asks_none m ≡ true → m ≡ frontend.SslNegotiation negotiation.None
none_is (frontend.SslNegotiation negotiation.None) is = refl
none_is m is = absurd cc

-- that no encryption is asked for has no bytes
none_spelled : (v : ProtocolVersion) (m : Frontend) (g : List ℕ) → client_asks_none m ≡ true
    → SpellsFrontend v m g → g ≡ []
unfolding SpellsFrontend
none_spelled v m g is s = subst (λ (n : Frontend). SpellsFrontend v n g) (none_is m is) s

first_spelled : (ctx : DecodeContext) (bytes rest : List ℕ) (m : Frontend) (r : RelayFinding Frontend)
    → frontend_front ctx bytes ≡ r → front_past_encryption ctx r ≡ Ok (Some (m, rest))
    → (g : List ℕ) × (bytes ≡ g ++ rest) × (length g < 2 ^ 32)
first_spelled ctx bytes rest m (Err e) is found = absurd cc
first_spelled ctx bytes rest m (Ok None) is found = absurd cc
first_spelled ctx bytes rest m (Ok (Some x)) is found = elim (either (client_asks_none x.0)) [
  | inl none ↦
      let f = frontend_found ctx bytes x.0 x.1 is in
      let same : bytes ≡ x.1 =
      f.1 ∙ ap (λ (g : List ℕ). g ++ x.1) (none_spelled ctx.protocol_version x.0 f.0 none f.2) in
      let next = frontend_found (past_requests ctx) x.1 m rest (rw none at found) in
      (next.0, same ∙ next.1, frontend_short ctx.protocol_version m next.0 next.2)
  | inr asks ↦
      let is_it : Ok (Some x) ≡ Ok (Some (m, rest)) = rw asks at found in
      let f = frontend_found ctx bytes m rest (is ∙ is_it) in
      (f.0, f.1, frontend_short ctx.protocol_version m f.0 f.2)
]

short_by : (ctx : DecodeContext) (bytes rest : List ℕ) (m : Frontend) (b : Bool)
    → cond b (front_past_encryption ctx (frontend_front ctx bytes)) (frontend_front ctx bytes) ≡ Ok
    (Some (m, rest))
    → (g : List ℕ) × (bytes ≡ g ++ rest) × (length g < 2 ^ 32)
short_by ctx bytes rest m true found = first_spelled ctx bytes rest m (frontend_front ctx bytes) refl found
short_by ctx bytes rest m false found =
    let f = frontend_found ctx bytes m rest found in
    (f.0, f.1, frontend_short ctx.protocol_version m f.0 f.2)

pub client_short : (ctx : DecodeContext) (bytes rest : List ℕ) (m : Frontend)
    → client_side_front ctx bytes ≡ Ok (Some (m, rest)) → (g : List ℕ) × (bytes ≡ g ++ rest) × (length g < 2 ^ 32)
unfolding client_side_front
client_short ctx bytes rest m found = short_by ctx bytes rest m ctx.awaiting_frontend_ssl found

-- ---- a server's

byte_short : (g : List ℕ) → length g ≡ 1 → length g < 2 ^ 32
byte_short g is = omega (arith, is)

spelled_short : (v : ProtocolVersion) (m : Backend) (g : List ℕ) → Spelled v m g → length g < 2 ^ 32
spelled_short v (backend.SslResponse m) g s = byte_short g s.0
spelled_short v (backend.GssEncResponse m) g s = byte_short g s.0
spelled_short v (backend.Authentication m) g s = typed_short 82 30000 g (omega arith) s
spelled_short v (backend.ParameterStatus m) g s = typed_short 83 30000 g (omega arith) s
spelled_short v (backend.BackendKeyData m) g s = typed_short 75 30000 g (omega arith) s
spelled_short v (backend.NegotiateProtocolVersion m) g s = typed_short 118 30000 g (omega arith) s
spelled_short v (backend.ParseComplete m) g s = typed_short 49 30000 g (omega arith) s
spelled_short v (backend.BindComplete m) g s = typed_short 50 30000 g (omega arith) s
spelled_short v (backend.CloseComplete m) g s = typed_short 51 30000 g (omega arith) s
spelled_short v (backend.PortalSuspended m) g s = typed_short 115 30000 g (omega arith) s
spelled_short v (backend.EmptyQueryResponse m) g s = typed_short 73 30000 g (omega arith) s
spelled_short v (backend.NoData m) g s = typed_short 110 30000 g (omega arith) s
spelled_short v (backend.CommandComplete m) g s = typed_short 67 30000 g (omega arith) s
spelled_short v (backend.ReadyForQuery m) g s = typed_short 90 30000 g (omega arith) s
spelled_short v (backend.ErrorResponse m) g s = typed_short 69 2147483647 g (omega arith) s
spelled_short v (backend.NoticeResponse m) g s = typed_short 78 2147483647 g (omega arith) s
spelled_short v (backend.NotificationResponse m) g s = typed_short 65 2147483647 g (omega arith) s
spelled_short v (backend.ParameterDescription m) g s = typed_short 116 2147483647 g (omega arith) s
spelled_short v (backend.RowDescription m) g s = typed_short 84 2147483647 g (omega arith) s
spelled_short v (backend.DataRow m) g s = typed_short 68 2147483647 g (omega arith) s
spelled_short v (backend.CopyData m) g s = typed_short 100 1073741822 g (omega arith) s
spelled_short v (backend.CopyDone m) g s = typed_short 99 10000 g (omega arith) s
spelled_short v (backend.CopyFail m) g s = typed_short 102 10000 g (omega arith) s
spelled_short v (backend.CopyInResponse m) g s = typed_short 71 30000 g (omega arith) s
spelled_short v (backend.CopyOutResponse m) g s = typed_short 72 30000 g (omega arith) s
spelled_short v (backend.CopyBothResponse m) g s = typed_short 87 30000 g (omega arith) s

pub server_short : (ctx : DecodeContext) (bytes rest : List ℕ) (m : Backend)
    → backend_front ctx bytes ≡ Ok (Some (m, rest)) → (g : List ℕ) × (bytes ≡ g ++ rest) × (length g < 2 ^ 32)
unfolding SpellsIn
server_short ctx bytes rest m found =
    let f = backend_found ctx bytes m rest found in
    (f.0, f.1, spelled_short ctx.protocol_version m f.0 f.2.1)
