-- What each end writes is read by the other.
use Rattle.std.proofs.Common.{lit≤, ◌≡◌, ℕ, ◌-◌, ◌<◌, ◌≤◌, ◌^◌, Bool, true, false, cond, eqb, ltb, List, [], ◌∷◌, ◌++◌, length, Option, Some, None, Result, Ok, refl, sym, ap, ◌∙◌, append_assoc, arith, length-append}
use Rattle.std.specs.Prelude.{IsUtf8}
use Rattle.std.proofs.lemmas.List.{append-nil, drop_at}
use Rattle.std.proofs.Common.{get_or, drop, lit<}
use Rattle.pgw_types.specs.declared.context.ProtocolVersion.TheVariants.{PROTOCOL3_0}
use Rattle.pgw_wire.specs.declared.framing.Framing.TheVariants.{Typed}
use Rattle.pgw_wire.specs.Framing.{wire_front}
use Rattle.pgw_wire.specs.Formats.{SpellsTyped}
use Rattle.pgw_wire.proofs.MessageLaws.{front_found}
use Rattle.pgw_startup.specs.Password.{initial_response_of, initial_response, SpellsRaw}
use Rattle.pgw_startup.specs.declared.sasl.SASLInitialResponse.{SASLInitialResponse}
use Rattle.pgw_startup.specs.declared.password.PasswordMessageFamily.TheVariants as family
use Rattle.pgw_startup.proofs.ClientLaws.{initial_response as initial_row}
use Rattle.pgw_startup.proofs.FirstWritten.{initial_written}
use Rattle.std.specs.Int.{w16, w32, from_be_bytes}
use Rattle.std.proofs.lemmas.Bool.{le-ltb, ne_eqb}
use Rattle.pgw_types.specs.declared.error.PgWireError.{PgWireError}
use Rattle.pgw_types.specs.declared.context.ProtocolVersion.{ProtocolVersion}
use Rattle.pgw_wire.specs.Formats.{SpellsUntyped}
use Rattle.pgw_startup.specs.Startup.{SpellsStartup}
use Rattle.pgw_startup.specs.declared.startup.Startup.{Startup}
use Rattle.pgw_startup.specs.declared.password.PasswordMessageFamily.{PasswordMessageFamily}
use Rattle.pgw_control.specs.Openings.{has_code}
use Rattle.pgw_control.proofs.OpeningLaws.{stands}
use Rattle.pgw_backend.specs.Backend.{backend_encoding}
use Rattle.pgw_backend.specs.Front.{AwaitsBackend, typed_phase, SpellsIn}
use Rattle.pgw_backend.specs.Texts.{IsSound, Suits}
use Rattle.pgw_backend.specs.declared.backend.PgWireBackendMessage.{PgWireBackendMessage as Backend}
use Rattle.pgw_backend.proofs.BackendWritten.{backend_written}
use Rattle.pgw_backend.proofs.FrontLaws.{spells_front}
use Rattle.pgw_frontend.specs.Frontend.{encoding, negotiation_front, frontend_front}
use Rattle.pgw_frontend.specs.FrontendSpells.{SpellsFrontend, as_read}
use Rattle.pgw_frontend.specs.FrontendTexts.{IsSoundFrontend}
use Rattle.pgw_frontend.specs.declared.frontend.SslNegotiationMetaMessage.TheVariants as negotiation
use Rattle.pgw_frontend.specs.declared.frontend.PgWireFrontendMessage.{PgWireFrontendMessage as Frontend}
use Rattle.pgw_frontend.specs.declared.frontend.PgWireFrontendMessage.TheVariants as frontend
use Rattle.pgw_frontend.proofs.FrontendLaws.{frontend_again, startup_long}
use Rattle.pgw_frontend.proofs.FrontendWritten.{frontend_written}
use Rattle.pgw_machine.specs.Course.{Whole}
use Rattle.pgw_machine.specs.Fronts.{IsReadAs}
use Rattle.pgw_session.specs.Reading.{version_front as reading_of_server}
use Rattle.pgw_session.proofs.ReadingLaws.{reads_whole}
use Rattle.pgw_login_server.specs.Front.{phase, or_first_message, client_front, server_front}
use Rattle.pgw_login_server.specs.Server.{Stage, bound_at, stage_front}

-- ---- no request for encryption begins as a startup message does

two_of : (l : List ℕ) → length l ≡ 2 → (a : ℕ) × (b : ℕ) × (l ≡ a ∷ b ∷ [])
two_of [] is = absurd (omega (arith, is))
two_of (a ∷ []) is = absurd (omega (arith, is))
two_of (a ∷ b ∷ []) is = (a, b, refl)
two_of (a ∷ b ∷ c ∷ l) is = absurd (omega (arith, is))

joined : (a b c d n : ℕ) → from_be_bytes w16 (a ∷ b ∷ []) ≡ 3 → from_be_bytes w16 (c ∷ d ∷ []) ≡ n → n < 2 ^ 16
    → from_be_bytes w32 (a ∷ b ∷ c ∷ d ∷ []) < 2 ^ 18
joined a b c d n three minor small = omega (arith, three, minor, small)

no_code : (code : ℕ) → 2 ^ 18 ≤ code → (m : Startup) (g rest : List ℕ) → m.protocol_number_minor < 2 ^ 16
    → SpellsUntyped 10000 SpellsStartup m g → has_code code (g ++ rest) ≡ false
no_code code great m g rest small h =
    let major = h.5.1 in
    let minor = major.4 in
    let x = two_of major.0 major.3.0 in
    let y = two_of minor.0 minor.3.0 in
    let whole : g ++ rest ≡ h.0 ++ ((major.0 ++ minor.0) ++ (minor.1 ++ rest)) =
    ap (λ (f : List ℕ). f ++ rest) (h.2
    ∙ ap (λ (b : List ℕ). h.0 ++ b) (major.2 ∙ ap (λ (b : List ℕ). major.0 ++ b) minor.2))
    ∙ simp append_assoc in
    let is : major.0 ++ minor.0 ≡ x.0 ∷ x.1 ∷ y.0 ∷ y.1 ∷ [] =
    ap (λ (l : List ℕ). l ++ minor.0) x.2 ∙ ap (λ (l : List ℕ). x.0 ∷ x.1 ∷ l) y.2 in
    let less : from_be_bytes w32 (x.0 ∷ x.1 ∷ y.0 ∷ y.1 ∷ []) < 2 ^ 18 =
    joined x.0 x.1 y.0 y.1 m.protocol_number_minor (sym (ap (from_be_bytes w16) x.2) ∙ major.3.1
    ∙ h.5.0) (sym (ap (from_be_bytes w16) y.2) ∙ minor.3.1) small in
    stands code h.0 (major.0 ++ minor.0) (minor.1 ++ rest) (g ++ rest) whole h.3.0
    (omega (arith, length-append major.0 minor.0, major.3.0, minor.3.0))
    ∙ ap (λ (l : List ℕ). eqb (from_be_bytes w32 l) code) is ∙ ne_eqb _ _ (λ e. omega (arith, e, less, great))

other : {X : Type 0} (b : Bool) (x y : X) → b ≡ false → cond b x y ≡ y
other true x y h = absurd cc
other false x y h = refl

none_asked : (v : ProtocolVersion) (m : Startup) (g rest : List ℕ) → m.protocol_number_minor < 2 ^ 16
    → SpellsUntyped 10000 SpellsStartup m g
    → frontend_front (phase true true v) (g ++ rest) ≡ Ok
    (Some (frontend.SslNegotiation negotiation.None, g ++ rest))
unfolding frontend_front negotiation_front
none_asked v m g rest small h =
    other (ltb (length (g ++ rest)) 8) _ _ (le-ltb _ _ (startup_long m g rest h))
    ∙ other (has_code 80877103 (g ++ rest)) _ _ (no_code 80877103 (lit≤ tt) m g rest small h)
    ∙ other (has_code 80877104 (g ++ rest)) _ _ (no_code 80877104 (lit≤ tt) m g rest small h)

-- ---- what the server reads

found : {M : Type 0} (g rest : List ℕ) (m : M)
    → server_front (g ++ rest) (Ok (Some (m, rest))) ≡ Whole m (length g)
found g rest m =
    let size : length (g ++ rest) - length rest ≡ length g =
    omega (arith, length-append g rest) in ap (Whole m) size

startup_spelled : (v : ProtocolVersion) (m : Startup) (g : List ℕ) → IsSoundFrontend (frontend.Startup m)
    → encoding (frontend.Startup m) ≡ Ok g → SpellsUntyped 10000 SpellsStartup m g
unfolding SpellsFrontend
startup_spelled v m g sound is = frontend_written v (frontend.Startup m) g sound tt is

pub reads_startup : (stage : Stage) (m : Startup) (g : List ℕ) → stage.started ≡ false
    → IsSoundFrontend (frontend.Startup m) → m.protocol_number_minor < 2 ^ 16
    → encoding (frontend.Startup m) ≡ Ok g → IsReadAs (stage_front stage) g (frontend.Startup m)
unfolding SpellsFrontend
reads_startup stage m g new sound small is rest =
    let v = stage.client.protocol_version in
    let s = startup_spelled v m g sound is in
    ap (λ (b : Bool). server_front (g ++ rest) (client_front b (bound_at stage) v (g ++ rest))) new
    ∙ ap (λ (r : Result (Option (Frontend × List ℕ)) PgWireError). server_front (g ++ rest)
    (or_first_message v r)) (none_asked v m g rest small s)
    ∙ ap (server_front (g ++ rest))
    (frontend_again (phase false true v) (frontend.Startup m) g rest ((refl, refl), small) s)
    ∙ found g rest (frontend.Startup m)

pub reads_password : (stage : Stage) (m : PasswordMessageFamily) (g : List ℕ) → stage.started ≡ true
    → bound_at stage ≡ None → encoding (frontend.PasswordMessageFamily m) ≡ Ok g
    → IsReadAs (stage_front stage) g (as_read (frontend.PasswordMessageFamily m))
reads_password stage m g begun free is rest =
    let v = stage.client.protocol_version in
    let s = frontend_written v (frontend.PasswordMessageFamily m) g tt tt is in
    (λ i. server_front (g ++ rest) (client_front (begun i) (free i) v (g ++ rest)))
    ∙ ap (server_front (g ++ rest))
    (frontend_again (phase false false v) (as_read (frontend.PasswordMessageFamily m)) g rest (refl, refl) s)
    ∙ found g rest (as_read (frontend.PasswordMessageFamily m))

-- ---- what the client reads

pub reads_backend : (v : ProtocolVersion) (m : Backend) (g : List ℕ) → IsSound m → Suits v m
    → AwaitsBackend (typed_phase v) m → backend_encoding m ≡ Ok g → IsReadAs (reading_of_server v) g m
unfolding SpellsIn
reads_backend v m g sound suits phase is rest =
    reads_whole v (g ++ rest) m (length g) (spells_front v m g rest (phase, backend_written v m g sound suits is))

-- ---- the body of client-first

framed_body : (byte : ℕ) (g a b c d : List ℕ) → g ≡ byte ∷ (a ++ b) → g ≡ byte ∷ (c ++ d) → length a ≡ 4
    → length c ≡ 4 → b ≡ d
framed_body byte g a b c d x y four also =
    let tail : a ++ b ≡ c ++ d = ap (drop 1) (sym x ∙ y) in
    sym (drop_at a b 4 four) ∙ ap (drop 4) tail ∙ drop_at c d 4 also

pub initial_reads : (m : SASLInitialResponse) (g : List ℕ) → IsUtf8 m.auth_method
    → encoding (frontend.PasswordMessageFamily (family.SASLInitialResponse m)) ≡ Ok g
    → initial_response_of (initial_response m) ≡ Ok m
unfolding encoding SpellsFrontend
initial_reads m g utf8 is =
    let spelled = initial_written m g utf8 is in
    let read : wire_front (Typed 112) 10000 initial_response_of g ≡ Ok (Some (m, [])) =
    ap (wire_front (Typed 112) 10000 initial_response_of) (sym (append-nil g))
    ∙ initial_row.only m g [] spelled in
    let first : get_or g 0 0 ≡ 112 = ap (λ (l : List ℕ). get_or l 0 0) spelled.2 in
    let found =
    front_found 112 10000 (lit< tt) initial_response_of
    (λ (x : SASLInitialResponse) (body : List ℕ). initial_response_of body ≡ Ok x) g m [] first
    (λ body x short e. e) read in
    let plain : SpellsTyped 112 10000 SpellsRaw (family.Raw (initial_response m)) g =
    frontend_written PROTOCOL3_0 (frontend.PasswordMessageFamily (family.SASLInitialResponse m)) g tt tt is in
    let same : found.2.1 ≡ plain.1 =
    framed_body 112 g found.2.0 found.2.1 plain.0 plain.1 (found.1 ∙ append-nil found.0
    ∙ found.2.2) plain.2 found.2.3.0 plain.3.0 in
    let raw_is : plain.1 ≡ initial_response m = raw_body (initial_response m) plain.1 plain.5 in
    ap initial_response_of (sym raw_is ∙ sym same) ∙ found.2.5
  where
    raw_body : (a b : List ℕ) → ◌≡◌ {A = PasswordMessageFamily} (family.Raw a) (family.Raw b) → b ≡ a
    raw_body a b e = cc
