-- What is read of a client is spelled so, and what is spelled so is read.
use Rattle.std.proofs.Common.{◌≡◌, inl, inr, ℕ, ◌+◌, ◌<◌, ◌≤◌, ◌^◌, Bool, true, false, cond, eqb, ltb, List, [], ◌∷◌, ◌++◌, length, get_or, take, drop, Option, Some, None, option_map, Result, Ok, Err, refl, sym, ap, subst, ◌∙◌, append_assoc, arith, length-append}
use Rattle.std.specs.Prelude.{IfOk, IfSome}
use Rattle.std.specs.Int.{w16, w32, from_be_bytes}
use Rattle.std.proofs.lemmas.Bool.{eqb-true, le-ltb, ne_eqb}
use Rattle.std.proofs.lemmas.List.{take_at, nil_from_length}
use Rattle.pgw_types.specs.declared.error.PgWireError.{PgWireError}
use Rattle.pgw_types.specs.declared.context.DecodeContext.{DecodeContext}
use Rattle.pgw_types.specs.declared.context.ProtocolVersion.{ProtocolVersion}
use Rattle.pgw_wire.specs.declared.framing.Framing.TheVariants.{Typed, Untyped, Opening, Code}
use Rattle.pgw_startup.specs.Startup.{startup_of, SpellsStartup}
use Rattle.pgw_wire.specs.Formats.{SpellsUntyped, IsRow, SpellsTyped, SpellsNat, NoBody}
use Rattle.pgw_startup.specs.Password.{family_of, SpellsRaw}
use Rattle.pgw_control.specs.Openings.{has_code, ssl_request_of, gss_enc_request_of, cancel_request_of, SpellsCancelRequest, SpellsCoded}
use Rattle.pgw_query.specs.Rows.{query_of, SpellsQuery}
use Rattle.pgw_ext.specs.Rows.{parse_of, bind_of, close_of, describe_of, execute_of, SpellsParse, SpellsBind, SpellsClose, SpellsDescribe, SpellsExecute}
use Rattle.pgw_copy.specs.Rows.{copy_data_of, copy_fail_of, SpellsCopyData, SpellsCopyFail}
use Rattle.pgw_frontend.specs.declared.frontend.SslNegotiationMetaMessage.TheVariants as negotiation
use Rattle.pgw_frontend.specs.declared.frontend.PgWireFrontendMessage.{PgWireFrontendMessage}
use Rattle.pgw_frontend.specs.declared.frontend.PgWireFrontendMessage.TheVariants as frontend
use Rattle.pgw_startup.specs.declared.startup.Startup.{Startup}
use Rattle.pgw_control.specs.declared.cancel.CancelRequest.{CancelRequest}
use Rattle.pgw_wire.specs.Framing.{wire_front, Decodes, as_one_of}
use Rattle.pgw_wire.proofs.Laws.{bind_ok, chosen}
use Rattle.pgw_wire.proofs.MessageLaws.{some_is, made_of}
use Rattle.pgw_wire.specs.Empty.{empty_request_of}
use Rattle.pgw_wire.proofs.EmptyLaws.{empty_request}
use Rattle.pgw_startup.proofs.FirstLaws.{startup_found, startup_again}
use Rattle.pgw_startup.proofs.ClientLaws.{raw}
use Rattle.pgw_control.proofs.OpeningLaws.{ssl_found, ssl_again, gss_found, gss_again, cancel_found, cancel_again, stands, coded_has, cancel_has}
use Rattle.pgw_query.proofs.RowLaws.{query}
use Rattle.pgw_ext.proofs.RowLaws.{parse, bind, close, describe, execute}
use Rattle.pgw_copy.proofs.RowLaws.{copy_data, copy_fail}
use Rattle.pgw_frontend.specs.Frontend.{negotiation_front, first_front, frontend_by, typed_front, frontend_front}
use Rattle.pgw_frontend.specs.FrontendSpells.{SpellsFrontend, AwaitsFirst, AwaitsTyped, AwaitsFrontend, HasTypeByte}

-- ---- what is read is spelled so

module _ (ctx : DecodeContext) (m : PgWireFrontendMessage) (bytes rest : List ℕ) where
  Found : Type 0
  Found = (g : List ℕ) × (bytes ≡ g ++ rest) × SpellsFrontend ctx.protocol_version m g

  -- one kind of message among all kinds
  kind_found : {A : Type 0} (make : A → PgWireFrontendMessage) (found : Result (Option (A × List ℕ)) PgWireError)
      → ((x : A) → found ≡ Ok (Some (x, rest)) → (g : List ℕ) × (bytes ≡ g ++ rest) × SpellsFrontend
      ctx.protocol_version (make x) g)
      → as_one_of make found ≡ Ok (Some (m, rest)) → Found
  unfolding Found
  kind_found make found law e =
      let a = bind_ok found (λ o. Ok (option_map (λ x. (make x.0, x.1)) o)) (Some (m, rest)) e in
      let x = made_of make m rest a.0 (sym a.2) in
      let c = law x.0 (a.1 ∙ ap (λ o. Ok o) x.1) in
      subst (λ (n : PgWireFrontendMessage). (g : List ℕ) × (bytes ≡ g ++ rest) × SpellsFrontend
      ctx.protocol_version n g) x.2 c

  one_found : {A : Type 0} (make : A → PgWireFrontendMessage) (byte limit : ℕ)
      (read : List ℕ → Result A PgWireError) (P : A → List ℕ → Type 0)
      → IsRow byte limit read P
      → ((x : A) (g : List ℕ) → SpellsTyped byte limit P x g → SpellsFrontend ctx.protocol_version (make x) g)
      → (b : ℕ) → get_or bytes 0 0 ≡ b → eqb b byte ≡ true
      → as_one_of make (wire_front (Typed byte) limit read bytes) ≡ Ok (Some (m, rest)) → Found
  one_found make byte limit read P row as_all b first is e =
      kind_found make (wire_front (Typed byte) limit read bytes)
      (λ x at. let c = row.found bytes x rest (first ∙ eqb-true _ _ is) at in (c.0, c.1, as_all x c.0 c.2)) e

  by_found : (b : ℕ) → get_or bytes 0 0 ≡ b → frontend_by b ctx bytes ≡ Ok (Some (m, rest)) → Found
  unfolding SpellsFrontend
  by_found b first e =
      elim (chosen (eqb b 112) _ _ _ e) [
        | inl h ↦ one_found frontend.PasswordMessageFamily 112 10000 (family_of ctx) SpellsRaw (raw ctx)
            (λ x g s. s) b first h.0 h.1
        | inr h ↦
            elim (chosen (eqb b 81) _ _ _ h.1) [
              | inl h ↦ one_found frontend.Query 81 1073741822 (query_of ctx) SpellsQuery (query ctx) (λ x g s. s)
                  b first h.0 h.1
              | inr h ↦
                  elim (chosen (eqb b 80) _ _ _ h.1) [
                    | inl h ↦ one_found frontend.Parse 80 1073741822 (parse_of ctx) SpellsParse (parse ctx)
                        (λ x g s. s) b first h.0 h.1
                    | inr h ↦
                        elim (chosen (eqb b 66) _ _ _ h.1) [
                          | inl h ↦ one_found frontend.Bind 66 1073741822 (bind_of ctx) SpellsBind (bind ctx)
                              (λ x g s. s) b first h.0 h.1
                          | inr h ↦
                              elim (chosen (eqb b 67) _ _ _ h.1) [
                                | inl h ↦ one_found frontend.Close 67 10000 (close_of ctx) SpellsClose (close ctx)
                                    (λ x g s. s) b first h.0 h.1
                                | inr h ↦
                                    elim (chosen (eqb b 68) _ _ _ h.1) [
                                      | inl h ↦ one_found frontend.Describe 68 10000 (describe_of ctx)
                                          SpellsDescribe (describe ctx) (λ x g s. s) b first h.0 h.1
                                      | inr h ↦
                                          elim (chosen (eqb b 69) _ _ _ h.1) [
                                            | inl h ↦ one_found frontend.Execute 69 10000 (execute_of ctx)
                                                SpellsExecute (execute ctx) (λ x g s. s) b first h.0 h.1
                                            | inr h ↦
                                                elim (chosen (eqb b 72) _ _ _ h.1) [
                                                  | inl h ↦ one_found frontend.Flush 72 10000 (empty_request_of 72 ctx)
                                                      NoBody (empty_request 72 ctx) (λ x g s. s) b first h.0 h.1
                                                  | inr h ↦
                                                      elim (chosen (eqb b 83) _ _ _ h.1) [
                                                        | inl h ↦ one_found frontend.Sync 83 10000
                                                            (empty_request_of 83 ctx)
                                                            NoBody (empty_request 83 ctx) (λ x g s. s) b first h.0 h.1
                                                        | inr h ↦
                                                            elim (chosen (eqb b 88) _ _ _ h.1) [
                                                              | inl h ↦ one_found frontend.Terminate 88 10000
                                                                  (empty_request_of 88 ctx) NoBody
                                                                  (empty_request 88 ctx)
                                                                  (λ x g s. s) b first h.0 h.1
                                                              | inr h ↦
                                                                  elim (chosen (eqb b 100) _ _ _ h.1) [
                                                                    | inl h ↦ one_found frontend.CopyData 100
                                                                        1073741822 (copy_data_of ctx)
                                                                        SpellsCopyData (copy_data ctx)
                                                                        (λ x g s. s) b first h.0 h.1
                                                                    | inr h ↦
                                                                        elim (chosen (eqb b 99) _ _ _ h.1) [
                                                                          | inl h ↦ one_found frontend.CopyDone 99
                                                                              10000 (empty_request_of 99 ctx)
                                                                              NoBody (empty_request 99 ctx)
                                                                              (λ x g s. s) b first h.0 h.1
                                                                          | inr h ↦
                                                                              elim (chosen (eqb b 102) _ _ _ h.1) [
                                                                                | inl h ↦
                                                                                    one_found frontend.CopyFail 102
                                                                                    10000
                                                                                    (copy_fail_of ctx)
                                                                                    SpellsCopyFail (copy_fail ctx)
                                                                                    (λ x g s. s) b first h.0 h.1
                                                                                | inr h ↦ absurd cc
                                                                              ]
                                                                        ]
                                                                  ]
                                                            ]
                                                      ]
                                                ]
                                          ]
                                    ]
                              ]
                        ]
                  ]
            ]
      ]

  typed_found : typed_front ctx bytes ≡ Ok (Some (m, rest)) → Found
  unfolding typed_front
  typed_found e = elim (chosen (ltb (length bytes) 2) _ _ _ e) [
    | inl h ↦ absurd cc
    | inr h ↦ by_found (get_or bytes 0 0) refl h.1
  ]

  negotiation_found : negotiation_front ctx bytes ≡ Ok (Some (m, rest)) → Found
  unfolding negotiation_front Found SpellsFrontend
  negotiation_found e = elim (chosen (ltb (length bytes) 8) _ _ _ e) [
    | inl h ↦ absurd cc
    | inr h ↦ elim (chosen (has_code 80877103 bytes) _ _ _ h.1) [
      | inl k ↦ kind_found (λ x. frontend.SslNegotiation (negotiation.PostgresSsl x))
          (wire_front Code 10000 (ssl_request_of ctx) bytes) (λ x at. ssl_found ctx bytes x rest at) k.1
      | inr k ↦ elim (chosen (has_code 80877104 bytes) _ _ _ k.1) [
        | inl n ↦ kind_found (λ x. frontend.SslNegotiation (negotiation.PostgresGss x))
            (wire_front Code 10000 (gss_enc_request_of ctx) bytes) (λ x at. gss_found ctx bytes x rest at) n.1
        | inr n ↦
            let made : PgWireFrontendMessage × List ℕ = (frontend.SslNegotiation negotiation.None, bytes) in
            subst (λ (y : PgWireFrontendMessage × List ℕ). (g : List ℕ) × (bytes ≡ g ++ y.1) × SpellsFrontend
            ctx.protocol_version y.0 g) (some_is made (m, rest) n.1) ([], refl, refl)
      ]
    ]
  ]

  first_found : first_front ctx bytes ≡ Ok (Some (m, rest)) → Found
  unfolding first_front SpellsFrontend
  first_found e = elim (chosen (ltb (length bytes) 8) _ _ _ e) [
    | inl h ↦ absurd cc
    | inr h ↦ elim (chosen (has_code 80877102 bytes) _ _ _ h.1) [
      | inl k ↦ kind_found frontend.CancelRequest
          (wire_front (Opening 80877102) 10000 (cancel_request_of ctx) bytes)
          (λ x at. cancel_found ctx bytes x rest at) k.1
      | inr k ↦ kind_found frontend.Startup (wire_front Untyped 10000 (startup_of ctx) bytes)
          (λ x at. startup_found ctx bytes x rest at) k.1
    ]
  ]

pub frontend_found : (ctx : DecodeContext) (bytes : List ℕ) (m : PgWireFrontendMessage) (rest : List ℕ)
    → frontend_front ctx bytes ≡ Ok (Some (m, rest))
    → (g : List ℕ) × (bytes ≡ g ++ rest) × SpellsFrontend ctx.protocol_version m g
unfolding Found frontend_front
frontend_found ctx bytes m rest e = elim (chosen ctx.awaiting_frontend_ssl _ _ _ e) [
  | inl h ↦ negotiation_found ctx m bytes rest h.1
  | inr h ↦ elim (chosen ctx.awaiting_frontend_startup _ _ _ h.1) [
    | inl k ↦ first_found ctx m bytes rest k.1
    | inr k ↦ typed_found ctx m bytes rest k.1
  ]
]

-- ---- a Startup has no code

two_of : (l : List ℕ) → length l ≡ 2 → (a : ℕ) × (b : ℕ) × (l ≡ a ∷ b ∷ [])
two_of [] is = absurd (omega (arith, is))
two_of (a ∷ []) is = absurd (omega (arith, is))
two_of (a ∷ b ∷ []) is = (a, b, refl)
two_of (a ∷ b ∷ c ∷ l) is = absurd (omega (arith, is))

joined : (a b c d n : ℕ) → from_be_bytes w16 (a ∷ b ∷ []) ≡ 3 → from_be_bytes w16 (c ∷ d ∷ []) ≡ n → n < 2 ^ 16
    → from_be_bytes w32 (a ∷ b ∷ c ∷ d ∷ []) < 2 ^ 18
joined a b c d n three minor small = omega (arith, three, minor, small)

-- version 3 is no code, where the minor version has 16 bits
pub startup_has : (m : Startup) (g rest : List ℕ) → m.protocol_number_minor < 2 ^ 16
    → SpellsUntyped 10000 SpellsStartup m g → has_code 80877102 (g ++ rest) ≡ false
startup_has m g rest small h =
    let major = h.5.1 in
    let minor = major.4 in
    let x = two_of major.0 major.3.0 in
    let y = two_of minor.0 minor.3.0 in
    let field : List ℕ = major.0 ++ minor.0 in
    let whole : g ++ rest ≡ h.0 ++ ((major.0 ++ minor.0) ++ (minor.1 ++ rest)) =
    ap (λ (f : List ℕ). f ++ rest) (h.2
    ∙ ap (λ (b : List ℕ). h.0 ++ b) (major.2 ∙ ap (λ (b : List ℕ). major.0 ++ b) minor.2))
    ∙ simp append_assoc in
    let is : major.0 ++ minor.0 ≡ x.0 ∷ x.1 ∷ y.0 ∷ y.1 ∷ [] =
    ap (λ (l : List ℕ). l ++ minor.0) x.2 ∙ ap (λ (l : List ℕ). x.0 ∷ x.1 ∷ l) y.2 in
    let less : from_be_bytes w32 (x.0 ∷ x.1 ∷ y.0 ∷ y.1 ∷ []) < 2 ^ 18 =
    joined x.0 x.1 y.0 y.1 m.protocol_number_minor (sym (ap (from_be_bytes w16) x.2) ∙ major.3.1
    ∙ h.5.0) (sym (ap (from_be_bytes w16) y.2) ∙ minor.3.1) small in
    stands 80877102 h.0 (major.0 ++ minor.0) (minor.1 ++ rest) (g ++ rest) whole h.3.0
    (omega (arith, length-append major.0 minor.0, major.3.0, minor.3.0))
    ∙ ap (λ (l : List ℕ). eqb (from_be_bytes w32 l) 80877102) is ∙ ne_eqb _ _ (λ e. omega (arith, e, less))

-- ---- what is spelled so is read

this : {X : Type 0} (b : Bool) (x y : X) → b ≡ true → cond b x y ≡ x
this true x y h = refl
this false x y h = absurd cc

other : {X : Type 0} (b : Bool) (x y : X) → b ≡ false → cond b x y ≡ y
other true x y h = absurd cc
other false x y h = refl

in_typed : (ctx : DecodeContext) (bytes : List ℕ) (byte : ℕ)
    (r : Result (Option (PgWireFrontendMessage × List ℕ)) PgWireError)
    → AwaitsTyped ctx → 2 ≤ length bytes → get_or bytes 0 0 ≡ byte → frontend_by byte ctx bytes ≡ r
    → frontend_front ctx bytes ≡ r
unfolding frontend_front typed_front
in_typed ctx bytes byte r typed some is e =
    let long : ltb (length bytes) 2 ≡ false = le-ltb _ _ some in
    other ctx.awaiting_frontend_ssl (negotiation_front ctx bytes)
    (cond ctx.awaiting_frontend_startup (first_front ctx bytes) (typed_front ctx bytes)) typed.0
    ∙ other ctx.awaiting_frontend_startup (first_front ctx bytes) (typed_front ctx bytes) typed.1
    ∙ other (ltb (length bytes) 2) (Ok None) (frontend_by (get_or bytes 0 0) ctx bytes) long
    ∙ subst (λ (x : ℕ). frontend_by x ctx bytes ≡ r) (sym is) e

made_again : {A : Type 0} (make : A → PgWireFrontendMessage) (r : Result (Option (A × List ℕ)) PgWireError)
    (x : A) (rest : List ℕ)
    → r ≡ Ok (Some (x, rest)) → as_one_of make r ≡ Ok (Some (make x, rest))
made_again make r x rest e = rw e refl

in_first : (ctx : DecodeContext) (bytes : List ℕ) → AwaitsFirst ctx
    → frontend_front ctx bytes ≡ first_front ctx bytes
unfolding frontend_front
in_first ctx bytes first = rw (first.0, first.1) refl

in_negotiation : (ctx : DecodeContext) (bytes : List ℕ) → ctx.awaiting_frontend_ssl ≡ true
    → frontend_front ctx bytes ≡ negotiation_front ctx bytes
unfolding frontend_front
in_negotiation ctx bytes first = rw first refl

one_again : {A : Type 0} (ctx : DecodeContext) (make : A → PgWireFrontendMessage) (byte limit : ℕ)
    (read : List ℕ → Result A PgWireError) (P : A → List ℕ → Type 0)
    → IsRow byte limit read P
    → ((bytes : List ℕ) → frontend_by byte ctx bytes ≡ as_one_of make (wire_front (Typed byte) limit read bytes))
    → AwaitsTyped ctx
    → (x : A) (g rest : List ℕ) → SpellsTyped byte limit P x g
    → frontend_front ctx (g ++ rest) ≡ Ok (Some (make x, rest))
one_again ctx make byte limit read P row arm typed x g rest h =
    let long : 2 ≤ length (g ++ rest) =
    omega (arith, length-append g rest, ap length h.2, length-append h.0 h.1, h.3.0) in
    let first : get_or (g ++ rest) 0 0 ≡ byte = ap (λ (f : List ℕ). get_or (f ++ rest) 0 0) h.2 in
    let one : wire_front (Typed byte) limit read (g ++ rest) ≡ Ok (Some (x, rest)) = row.only x g rest h in
    in_typed ctx (g ++ rest) byte (Ok (Some (make x, rest))) typed long first (arm (g ++ rest) ∙ rw one refl)

-- eight bytes or more
coded_long : (code : ℕ) (g rest : List ℕ) → SpellsCoded code g → ltb (length (g ++ rest)) 8 ≡ false
coded_long code g rest h =
    le-ltb _ _ (omega (arith, length-append g rest, ap length h.2, length-append h.0 h.1, h.3, h.4.0))

ssl_read : (ctx : DecodeContext) (g rest : List ℕ) → SpellsCoded 80877103 g
    → negotiation_front ctx (g ++ rest) ≡ Ok
    (Some (frontend.SslNegotiation (negotiation.PostgresSsl (record {})), rest))
unfolding negotiation_front
ssl_read ctx g rest h =
    other (ltb (length (g ++ rest)) 8) _ _ (coded_long 80877103 g rest h)
    ∙ this (has_code 80877103 (g ++ rest)) _ _ (coded_has 80877103 80877103 g rest h)
    ∙ made_again (λ x. frontend.SslNegotiation (negotiation.PostgresSsl x))
    (wire_front Code 10000 (ssl_request_of ctx) (g ++ rest)) (record {}) rest
    (ssl_again ctx (record {}) g rest h)

gss_read : (ctx : DecodeContext) (g rest : List ℕ) → SpellsCoded 80877104 g
    → negotiation_front ctx (g ++ rest) ≡ Ok
    (Some (frontend.SslNegotiation (negotiation.PostgresGss (record {})), rest))
unfolding negotiation_front
gss_read ctx g rest h =
    other (ltb (length (g ++ rest)) 8) _ _ (coded_long 80877104 g rest h)
    ∙ other (has_code 80877103 (g ++ rest)) _ _ (coded_has 80877104 80877103 g rest h)
    ∙ this (has_code 80877104 (g ++ rest)) _ _ (coded_has 80877104 80877104 g rest h)
    ∙ made_again (λ x. frontend.SslNegotiation (negotiation.PostgresGss x))
    (wire_front Code 10000 (gss_enc_request_of ctx) (g ++ rest)) (record {}) rest
    (gss_again ctx (record {}) g rest h)

pub startup_long : (m : Startup) (g rest : List ℕ) → SpellsUntyped 10000 SpellsStartup m g → 8 ≤ length (g ++ rest)
startup_long m g rest h =
    let major = h.5.1 in
    let minor = major.4 in
    omega (
      arith,
      length-append g rest,
      ap length h.2,
      length-append h.0 h.1,
      h.3.0,
      ap length major.2,
      length-append major.0 major.1,
      major.3.0,
      ap length minor.2,
      length-append minor.0 minor.1,
      minor.3.0,
    )

startup_read : (ctx : DecodeContext) (m : Startup) (g rest : List ℕ) → m.protocol_number_minor < 2 ^ 16
    → SpellsUntyped 10000 SpellsStartup m g → first_front ctx (g ++ rest) ≡ Ok (Some (frontend.Startup m, rest))
unfolding first_front
startup_read ctx m g rest small h =
    let long : ltb (length (g ++ rest)) 8 ≡ false = le-ltb _ _ (startup_long m g rest h) in
    other (ltb (length (g ++ rest)) 8) _ _ long
    ∙ other (has_code 80877102 (g ++ rest)) _ _ (startup_has m g rest small h)
    ∙ made_again frontend.Startup (wire_front Untyped 10000 (startup_of ctx) (g ++ rest)) m rest
    (startup_again ctx m g rest h)

cancel_read : (ctx : DecodeContext) (m : CancelRequest) (g rest : List ℕ)
    → SpellsUntyped 10000 (SpellsCancelRequest ctx.protocol_version) m g
    → first_front ctx (g ++ rest) ≡ Ok (Some (frontend.CancelRequest m, rest))
unfolding first_front
cancel_read ctx m g rest h =
    let body = h.5 in
    let long : ltb (length (g ++ rest)) 8 ≡ false =
    le-ltb _ _ (omega (
      arith,
      length-append g rest,
      ap length h.2,
      length-append h.0 h.1,
      h.3.0,
      ap length body.2,
      length-append body.0 body.1,
      body.3.0,
    )) in
    other (ltb (length (g ++ rest)) 8) _ _ long
    ∙ this (has_code 80877102 (g ++ rest)) _ _ (cancel_has ctx.protocol_version m g rest h)
    ∙ made_again frontend.CancelRequest
    (wire_front (Opening 80877102) 10000 (cancel_request_of ctx) (g ++ rest)) m rest
    (cancel_again ctx m g rest h)

pub frontend_again : (ctx : DecodeContext) (m : PgWireFrontendMessage) (g rest : List ℕ) → AwaitsFrontend ctx m
    → SpellsFrontend ctx.protocol_version m g → frontend_front ctx (g ++ rest) ≡ Ok (Some (m, rest))
unfolding SpellsFrontend
frontend_again ctx (frontend.SslNegotiation (negotiation.PostgresSsl m)) g rest phase h =
    in_negotiation ctx (g ++ rest) phase ∙ ssl_read ctx g rest h
frontend_again ctx (frontend.SslNegotiation (negotiation.PostgresGss m)) g rest phase h =
    in_negotiation ctx (g ++ rest) phase ∙ gss_read ctx g rest h
frontend_again ctx (frontend.SslNegotiation negotiation.None) g rest phase h = absurd phase
frontend_again ctx (frontend.Startup m) g rest phase h =
    in_first ctx (g ++ rest) phase.0 ∙ startup_read ctx m g rest phase.1 h
frontend_again ctx (frontend.CancelRequest m) g rest phase h =
    in_first ctx (g ++ rest) phase ∙ cancel_read ctx m g rest h
frontend_again ctx (frontend.PortalSuspended m) g rest phase h = absurd phase
frontend_again ctx (frontend.PasswordMessageFamily m) g rest phase h =
    one_again ctx frontend.PasswordMessageFamily 112 10000 (family_of ctx) SpellsRaw (raw ctx) (λ bytes. refl)
    phase m g rest h
frontend_again ctx (frontend.Query m) g rest phase h =
    one_again ctx frontend.Query 81 1073741822 (query_of ctx) SpellsQuery (query ctx) (λ bytes. refl) phase m g
    rest h
frontend_again ctx (frontend.Parse m) g rest phase h =
    one_again ctx frontend.Parse 80 1073741822 (parse_of ctx) SpellsParse (parse ctx) (λ bytes. refl) phase m g
    rest h
frontend_again ctx (frontend.Bind m) g rest phase h =
    one_again ctx frontend.Bind 66 1073741822 (bind_of ctx) SpellsBind (bind ctx) (λ bytes. refl) phase m g rest h
frontend_again ctx (frontend.Close m) g rest phase h =
    one_again ctx frontend.Close 67 10000 (close_of ctx) SpellsClose (close ctx) (λ bytes. refl) phase m g rest h
frontend_again ctx (frontend.Describe m) g rest phase h =
    one_again ctx frontend.Describe 68 10000 (describe_of ctx) SpellsDescribe (describe ctx) (λ bytes. refl) phase
    m g rest h
frontend_again ctx (frontend.Execute m) g rest phase h =
    one_again ctx frontend.Execute 69 10000 (execute_of ctx) SpellsExecute (execute ctx) (λ bytes. refl) phase m g
    rest h
frontend_again ctx (frontend.Flush m) g rest phase h =
    one_again ctx frontend.Flush 72 10000 (empty_request_of 72 ctx) NoBody (empty_request 72 ctx) (λ bytes. refl)
    phase m g rest h
frontend_again ctx (frontend.Sync m) g rest phase h =
    one_again ctx frontend.Sync 83 10000 (empty_request_of 83 ctx) NoBody (empty_request 83 ctx) (λ bytes. refl)
    phase m g rest h
frontend_again ctx (frontend.Terminate m) g rest phase h =
    one_again ctx frontend.Terminate 88 10000 (empty_request_of 88 ctx) NoBody (empty_request 88 ctx)
    (λ bytes. refl) phase m g
    rest h
frontend_again ctx (frontend.CopyData m) g rest phase h =
    one_again ctx frontend.CopyData 100 1073741822 (copy_data_of ctx) SpellsCopyData (copy_data ctx)
    (λ bytes. refl) phase m g rest h
frontend_again ctx (frontend.CopyDone m) g rest phase h =
    one_again ctx frontend.CopyDone 99 10000 (empty_request_of 99 ctx) NoBody (empty_request 99 ctx) (λ bytes. refl)
    phase m g rest h
frontend_again ctx (frontend.CopyFail m) g rest phase h =
    one_again ctx frontend.CopyFail 102 10000 (copy_fail_of ctx) SpellsCopyFail (copy_fail ctx) (λ bytes. refl)
    phase m g rest h

-- ---- a spelling ends where its length says

-- a type byte, a length and as many bytes
Framed : List ℕ → Type 0
Framed g =
    (byte : ℕ) × (head : List ℕ) × (body : List ℕ) × (g ≡ byte ∷ (head ++ body))
    × SpellsNat w32 (length body + 4) head

framed : (v : ProtocolVersion) (m : PgWireFrontendMessage) (g : List ℕ) → HasTypeByte m → SpellsFrontend v m g
    → Framed g
unfolding SpellsFrontend Framed
framed v (frontend.SslNegotiation m) g has h = absurd has
framed v (frontend.Startup m) g has h = absurd has
framed v (frontend.CancelRequest m) g has h = absurd has
framed v (frontend.PortalSuspended m) g has h = (115, h.0, h.1, h.2, h.3)
framed v (frontend.PasswordMessageFamily m) g has h = (112, h.0, h.1, h.2, h.3)
framed v (frontend.Query m) g has h = (81, h.0, h.1, h.2, h.3)
framed v (frontend.Parse m) g has h = (80, h.0, h.1, h.2, h.3)
framed v (frontend.Bind m) g has h = (66, h.0, h.1, h.2, h.3)
framed v (frontend.Close m) g has h = (67, h.0, h.1, h.2, h.3)
framed v (frontend.Describe m) g has h = (68, h.0, h.1, h.2, h.3)
framed v (frontend.Execute m) g has h = (69, h.0, h.1, h.2, h.3)
framed v (frontend.Flush m) g has h = (72, h.0, h.1, h.2, h.3)
framed v (frontend.Sync m) g has h = (83, h.0, h.1, h.2, h.3)
framed v (frontend.Terminate m) g has h = (88, h.0, h.1, h.2, h.3)
framed v (frontend.CopyData m) g has h = (100, h.0, h.1, h.2, h.3)
framed v (frontend.CopyDone m) g has h = (99, h.0, h.1, h.2, h.3)
framed v (frontend.CopyFail m) g has h = (102, h.0, h.1, h.2, h.3)

-- two spellings of which one begins the other have one length
same_end : (g more : List ℕ) → Framed g → Framed (g ++ more) → more ≡ []
unfolding Framed
same_end g more x y =
    let whole : x.0 ∷ (x.1 ++ (x.2 ++ more)) ≡ y.0 ∷ (y.1 ++ y.2) =
    sym (ap (λ (f : List ℕ). f ++ more) x.3 ∙ ap (λ (t : List ℕ). x.0 ∷ t) (append_assoc x.1 x.2 more))
    ∙ y.3 in
    let tail : x.1 ++ (x.2 ++ more) ≡ y.1 ++ y.2 = ap (λ (l : List ℕ). drop 1 l) whole in
    let head : x.1 ≡ y.1 = sym (take_at x.1 (x.2 ++ more) 4 x.4.0) ∙ ap (take 4) tail ∙ take_at y.1 y.2 4 y.4.0 in
    let size : length x.2 + 4 ≡ length y.2 + 4 = sym x.4.1 ∙ ap (from_be_bytes w32) head ∙ y.4.1 in
    nil_from_length more (omega (
      arith,
      size,
      ap length tail,
      length-append x.1 (x.2 ++ more),
      length-append x.2 more,
      length-append y.1 y.2,
      x.4.0,
      y.4.0,
    ))

pub ends : (v : ProtocolVersion) (m n : PgWireFrontendMessage) (g more : List ℕ) → HasTypeByte m → HasTypeByte n
    → SpellsFrontend v m g → SpellsFrontend v n (g ++ more) → more ≡ []
ends v m n g more one two h k = same_end g more (framed v m g one h) (framed v n (g ++ more) two k)

pub same : (ctx : DecodeContext) (m n : PgWireFrontendMessage) (g : List ℕ) → AwaitsFrontend ctx m
    → AwaitsFrontend ctx n → SpellsFrontend ctx.protocol_version m g → SpellsFrontend ctx.protocol_version n g
    → n ≡ m
same ctx m n g one two h k =
    let alike : ◌≡◌ {A = PgWireFrontendMessage × List ℕ} (n, []) (m, []) =
    some_is (n, []) (m, []) (sym (frontend_again ctx n g [] two k) ∙ frontend_again ctx m g [] one h) in
    ap (λ (p : PgWireFrontendMessage × List ℕ). p.0) alike

-- ---- what a decoder gave

pub is_found : (ctx : DecodeContext) (old new : List ℕ) (r : Result (Option PgWireFrontendMessage) PgWireError)
    → Decodes r old new (frontend_front ctx old)
    → IfOk r (λ o. IfSome o (λ m. (g : List ℕ) × (old ≡ g ++ new) × SpellsFrontend ctx.protocol_version m g))
is_found ctx old new (Ok None) h = tt
is_found ctx old new (Ok (Some m)) h = frontend_found ctx old m new h
is_found ctx old new (Err e) h = tt

pub is_only : (ctx : DecodeContext) (old new : List ℕ) (r : Result (Option PgWireFrontendMessage) PgWireError)
    → Decodes r old new (frontend_front ctx old) → (m : PgWireFrontendMessage) (g rest : List ℕ)
    → AwaitsFrontend ctx m → SpellsFrontend ctx.protocol_version m g → old ≡ g ++ rest
    → Decodes r old new (Ok (Some (m, rest)))
is_only ctx old new r h m g rest phase s is =
    subst (λ (f : Result (Option (PgWireFrontendMessage × List ℕ)) PgWireError). Decodes r old new f)
    (ap (frontend_front ctx) is
    ∙ frontend_again ctx m g rest phase s) h
