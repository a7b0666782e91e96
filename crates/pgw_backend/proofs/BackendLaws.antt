-- What is read at the front is spelled so, and what is spelled so is read.
use Rattle.std.proofs.Common.{◌≡◌, inl, inr, ℕ, ◌≤◌, Bool, true, false, cond, eqb, List, [], ◌++◌, length, get_or, Option, Some, None, option_map, Result, Ok, Err, refl, sym, ap, subst, ◌∙◌, arith, length-append}
use Rattle.std.specs.Prelude.{IfOk, IfSome}
use Rattle.std.proofs.lemmas.Bool.{eqb-true}
use Rattle.std.proofs.lemmas.List.{append-nil}
use Rattle.pgw_types.specs.declared.error.PgWireError.{PgWireError}
use Rattle.pgw_types.specs.declared.context.DecodeContext.{DecodeContext}
use Rattle.pgw_wire.specs.declared.framing.Framing.TheVariants.{Typed, OneByte}
use Rattle.pgw_wire.specs.Framing.{wire_front, Decodes, as_one_of}
use Rattle.pgw_wire.specs.Formats.{IsRow, SpellsTyped, NoBody}
use Rattle.pgw_wire.proofs.Laws.{bind_ok, chosen}
use Rattle.pgw_wire.proofs.MessageLaws.{some_is, made_of}
use Rattle.pgw_wire.specs.Empty.{empty_request_of, empty_response_of}
use Rattle.pgw_wire.proofs.EmptyLaws.{empty_request, empty_response}
use Rattle.pgw_startup.specs.Login.{authentication_of, parameter_status_of, backend_key_data_of, negotiate_of, SpellsAuthentication, SpellsParameterStatus, SpellsBackendKeyData, SpellsNegotiate}
use Rattle.pgw_startup.specs.Response.{encryption_response_of}
use Rattle.pgw_query.specs.Rows.{ready_for_query_of, command_complete_of, notification_response_of, parameter_description_of, row_description_of, data_row_of, SpellsCommandComplete, SpellsReadyForQuery, SpellsNotificationResponse, SpellsParameterDescription, SpellsRowDescription, SpellsDataRow, SpellsInfoResponse, info_response_of}
use Rattle.pgw_copy.specs.Rows.{copy_data_of, copy_fail_of, copy_response_of, SpellsCopyData, SpellsCopyFail, SpellsCopyResponse}
use Rattle.pgw_startup.proofs.LoginLaws.{authentication, parameter_status, backend_key_data, negotiate}
use Rattle.pgw_startup.proofs.ResponseLaws.{ssl_response, gss_enc_response}
use Rattle.pgw_query.proofs.RowLaws.{info_response, command_complete, ready_for_query, notification_response, parameter_description, row_description, data_row}
use Rattle.pgw_copy.proofs.RowLaws.{copy_data, copy_fail, copy_response}
use Rattle.pgw_backend.specs.declared.backend.PgWireBackendMessage.{PgWireBackendMessage}
use Rattle.pgw_backend.specs.declared.backend.PgWireBackendMessage.TheVariants as backend
use Rattle.pgw_backend.specs.Backend.{backend_by, backend_typed_front, backend_front}
use Rattle.pgw_backend.specs.Front.{SpellsIn}
use Rattle.pgw_backend.proofs.BackendStable.{typed_found, by_same}

-- ---- what is read is spelled so

-- the context awaits a message with a type byte
IsTyped : DecodeContext → Type 0
IsTyped ctx = (ctx.awaiting_backend_ssl_response ≡ false) × (ctx.awaiting_backend_gss_response ≡ false)

module _ (ctx : DecodeContext) (m : PgWireBackendMessage) (bytes rest : List ℕ) where
  Found : Type 0
  Found = (g : List ℕ) × (bytes ≡ g ++ rest) × SpellsIn ctx m g

  -- a message of one kind, as one of all kinds
  as_found : {A : Type 0} (make : A → PgWireBackendMessage) (r : Result (Option (A × List ℕ)) PgWireError)
      → ((x : A) → r ≡ Ok (Some (x, rest)) → (g : List ℕ) × (bytes ≡ g ++ rest) × SpellsIn ctx (make x) g)
      → as_one_of make r ≡ Ok (Some (m, rest)) → Found
  unfolding Found
  as_found make r law e =
      let a = bind_ok r (λ o. Ok (option_map (λ x. (make x.0, x.1)) o)) (Some (m, rest)) e in
      let x = made_of make m rest a.0 (sym a.2) in
      subst (λ (n : PgWireBackendMessage). (g : List ℕ) × (bytes ≡ g ++ rest) × SpellsIn ctx n g) x.2
      (law x.0 (a.1
      ∙ ap (λ o. Ok o) x.1))

  one_found : {A : Type 0} (make : A → PgWireBackendMessage) (byte limit : ℕ)
      (read : List ℕ → Result A PgWireError) (P : A → List ℕ → Type 0)
      → IsRow byte limit read P → ((x : A) (g : List ℕ) → SpellsTyped byte limit P x g → SpellsIn ctx (make x) g)
      → (b : ℕ) → get_or bytes 0 0 ≡ b → eqb b byte ≡ true
      → as_one_of make (wire_front (Typed byte) limit read bytes) ≡ Ok (Some (m, rest)) → Found
  one_found make byte limit read P row as_all b first is =
      as_found make (wire_front (Typed byte) limit read bytes) (λ x e. let c = row.found bytes x rest (first
      ∙ eqb-true _ _ is) e in (c.0, c.1, as_all x c.0 c.2))

  choice : (b byte : ℕ) (one others : Result (Option (PgWireBackendMessage × List ℕ)) PgWireError)
      → (eqb b byte ≡ true → one ≡ Ok (Some (m, rest)) → Found) → (others ≡ Ok (Some (m, rest)) → Found)
      → cond (eqb b byte) one others ≡ Ok (Some (m, rest)) → Found
  choice b byte one others here there e =
      elim (chosen (eqb b byte) one others _ e) [ inl h ↦ here h.0 h.1 | inr h ↦ there h.1 ]

  by_found : IsTyped ctx → (b : ℕ) → get_or bytes 0 0 ≡ b → backend_by b ctx bytes ≡ Ok (Some (m, rest)) → Found
  unfolding IsTyped SpellsIn
  by_found typed b first =
      choice b 82 _ _ (one_found backend.Authentication 82 30000 (authentication_of ctx) SpellsAuthentication
      (authentication ctx) (λ x g s. (typed, s)) b first)
      (choice b 83 _ _ (one_found backend.ParameterStatus 83 30000 (parameter_status_of ctx) SpellsParameterStatus
      (parameter_status ctx) (λ x g s. (typed, s)) b first)
      (choice b 75 _ _ (one_found backend.BackendKeyData 75 30000 (backend_key_data_of ctx)
      (SpellsBackendKeyData ctx.protocol_version) (backend_key_data ctx) (λ x g s. (typed, s)) b first)
      (choice b 118 _ _ (one_found backend.NegotiateProtocolVersion 118 30000 (negotiate_of ctx) SpellsNegotiate
      (negotiate ctx) (λ x g s. (typed, s)) b first)
      (choice b 67 _ _ (one_found backend.CommandComplete 67 30000 (command_complete_of ctx) SpellsCommandComplete
      (command_complete ctx) (λ x g s. (typed, s)) b first)
      (choice b 73 _ _ (one_found backend.EmptyQueryResponse 73 30000 (empty_response_of 73 ctx) NoBody
      (empty_response 73 ctx) (λ x g s. (typed, s)) b first)
      (choice b 90 _ _ (one_found backend.ReadyForQuery 90 30000 (ready_for_query_of ctx) SpellsReadyForQuery
      (ready_for_query ctx) (λ x g s. (typed, s)) b first)
      (choice b 69 _ _ (one_found backend.ErrorResponse 69 2147483647 (info_response_of 69 ctx) SpellsInfoResponse
      (info_response 69 ctx) (λ x g s. (typed, s)) b first)
      (choice b 78 _ _ (one_found backend.NoticeResponse 78 2147483647 (info_response_of 78 ctx) SpellsInfoResponse
      (info_response 78 ctx) (λ x g s. (typed, s)) b first)
      (choice b 65 _ _ (one_found backend.NotificationResponse 65 2147483647 (notification_response_of ctx)
      SpellsNotificationResponse (notification_response ctx) (λ x g s. (typed, s)) b first)
      (choice b 84 _ _ (one_found backend.RowDescription 84 2147483647 (row_description_of ctx) SpellsRowDescription
      (row_description ctx) (λ x g s. (typed, s)) b first)
      (choice b 68 _ _ (one_found backend.DataRow 68 2147483647 (data_row_of ctx) SpellsDataRow (data_row ctx)
      (λ x g s. (typed, s)) b first)
      (choice b 49 _ _ (one_found backend.ParseComplete 49 30000 (empty_response_of 49 ctx) NoBody
      (empty_response 49 ctx)
      (λ x g s. (typed, s)) b first)
      (choice b 50 _ _ (one_found backend.BindComplete 50 30000 (empty_response_of 50 ctx) NoBody
      (empty_response 50 ctx)
      (λ x g s. (typed, s)) b first)
      (choice b 51 _ _ (one_found backend.CloseComplete 51 30000 (empty_response_of 51 ctx) NoBody
      (empty_response 51 ctx)
      (λ x g s. (typed, s)) b first)
      (choice b 115 _ _ (one_found backend.PortalSuspended 115 30000 (empty_response_of 115 ctx) NoBody
      (empty_response 115 ctx) (λ x g s. (typed, s)) b first)
      (choice b 110 _ _ (one_found backend.NoData 110 30000 (empty_response_of 110 ctx) NoBody (empty_response 110 ctx)
      (λ x g s. (typed, s)) b first)
      (choice b 116 _ _ (one_found backend.ParameterDescription 116 2147483647 (parameter_description_of ctx)
      SpellsParameterDescription (parameter_description ctx) (λ x g s. (typed, s)) b first)
      (choice b 100 _ _ (one_found backend.CopyData 100 1073741822 (copy_data_of ctx) SpellsCopyData (copy_data ctx)
      (λ x g s. (typed, s)) b first)
      (choice b 99 _ _ (one_found backend.CopyDone 99 10000 (empty_request_of 99 ctx) NoBody (empty_request 99 ctx)
      (λ x g s. (typed, s)) b first)
      (choice b 102 _ _ (one_found backend.CopyFail 102 10000 (copy_fail_of ctx) SpellsCopyFail (copy_fail ctx)
      (λ x g s. (typed, s)) b first)
      (choice b 71 _ _ (one_found backend.CopyInResponse 71 30000 (copy_response_of 71 ctx) SpellsCopyResponse
      (copy_response 71 ctx) (λ x g s. (typed, s)) b first)
      (choice b 72 _ _ (one_found backend.CopyOutResponse 72 30000 (copy_response_of 72 ctx) SpellsCopyResponse
      (copy_response 72 ctx) (λ x g s. (typed, s)) b first)
      (choice b 87 _ _ (one_found backend.CopyBothResponse 87 30000 (copy_response_of 87 ctx)
      SpellsCopyResponse (copy_response 87 ctx) (λ x g s. (typed, s)) b first)
      (λ e. absurd cc))))))))))))))))))))))))

  typed_part : IsTyped ctx → backend_typed_front ctx bytes ≡ Ok (Some (m, rest)) → Found
  typed_part typed e = by_found typed (get_or bytes 0 0) refl (typed_found ctx bytes m rest e)

  all_parts : backend_front ctx bytes ≡ Ok (Some (m, rest)) → Found
  unfolding backend_front IsTyped SpellsIn
  all_parts e = elim (chosen ctx.awaiting_backend_ssl_response _ _ _ e) [
    | inl h ↦ as_found backend.SslResponse (wire_front OneByte 10000 (encryption_response_of 83 ctx) bytes)
        (λ x e. let c = (ssl_response ctx).found bytes x rest e in (c.0, c.1, (h.0, c.2))) h.1
    | inr t ↦ elim (chosen ctx.awaiting_backend_gss_response _ _ _ t.1) [
      | inl h ↦ as_found backend.GssEncResponse (wire_front OneByte 10000 (encryption_response_of 71 ctx) bytes)
          (λ x e. let c = (gss_enc_response ctx).found bytes x rest e in (c.0, c.1, ((t.0, h.0), c.2))) h.1
      | inr h ↦ typed_part (t.0, h.0) h.1
    ]
  ]

pub backend_found : (ctx : DecodeContext) (bytes : List ℕ) (m : PgWireBackendMessage) (rest : List ℕ)
    → backend_front ctx bytes ≡ Ok (Some (m, rest)) → (g : List ℕ) × (bytes ≡ g ++ rest) × SpellsIn ctx m g
unfolding Found
backend_found ctx bytes m rest e = all_parts ctx m bytes rest e

-- ---- what is spelled so is read

when : {A : Type 0} (b : Bool) (x y : A) → b ≡ true → cond b x y ≡ x
when true x y is = refl
when false x y is = absurd cc

unless : {A : Type 0} (b : Bool) (x y : A) → b ≡ false → cond b x y ≡ y
unless true x y is = absurd cc
unless false x y is = refl

typed_again : (ctx : DecodeContext) (bytes : List ℕ)
    (r : Result (Option (PgWireBackendMessage × List ℕ)) PgWireError)
    → IsTyped ctx → backend_typed_front ctx bytes ≡ r → backend_front ctx bytes ≡ r
unfolding backend_front IsTyped
typed_again ctx bytes r typed e =
    unless ctx.awaiting_backend_ssl_response _ _ typed.0 ∙ unless ctx.awaiting_backend_gss_response _ _ typed.1
    ∙ e

one_again : {A : Type 0} (ctx : DecodeContext) (make : A → PgWireBackendMessage) (byte limit : ℕ)
    (read : List ℕ → Result A PgWireError) (P : A → List ℕ → Type 0)
    → IsRow byte limit read P
    → ((bytes : List ℕ) → backend_by byte ctx bytes ≡ as_one_of make (wire_front (Typed byte) limit read bytes))
    → IsTyped ctx
    → (x : A) (g rest : List ℕ) → SpellsTyped byte limit P x g
    → backend_front ctx (g ++ rest) ≡ Ok (Some (make x, rest))
one_again ctx make byte limit read P row arm typed x g rest h =
    let long : 2 ≤ length (g ++ rest) =
    omega (arith, length-append g rest, ap length h.2, length-append h.0 h.1, h.3.0) in
    let first : get_or (g ++ rest) 0 0 ≡ byte = ap (λ (f : List ℕ). get_or (f ++ rest) 0 0) h.2 in
    let one : wire_front (Typed byte) limit read (g ++ rest) ≡ Ok (Some (x, rest)) = row.only x g rest h in
    typed_again ctx (g ++ rest) (Ok (Some (make x, rest))) typed
    (by_same ctx (g ++ rest) byte (Ok (Some (make x, rest))) long first (arm (g ++ rest)
    ∙ rw one refl))

pub backend_again : (ctx : DecodeContext) (m : PgWireBackendMessage) (g rest : List ℕ) → SpellsIn ctx m g
    → backend_front ctx (g ++ rest) ≡ Ok (Some (m, rest))
unfolding SpellsIn IsTyped backend_front
backend_again ctx (backend.SslResponse m) g rest h =
    let read : wire_front OneByte 10000 (encryption_response_of 83 ctx) (g ++ rest) ≡ Ok (Some (m, rest)) =
    (ssl_response ctx).only m g rest h.1 in
    when ctx.awaiting_backend_ssl_response _ _ h.0 ∙ ap (as_one_of backend.SslResponse) read
backend_again ctx (backend.GssEncResponse m) g rest h =
    let read : wire_front OneByte 10000 (encryption_response_of 71 ctx) (g ++ rest) ≡ Ok (Some (m, rest)) =
    (gss_enc_response ctx).only m g rest h.1 in
    unless ctx.awaiting_backend_ssl_response _ _ h.0.0 ∙ when ctx.awaiting_backend_gss_response _ _ h.0.1
    ∙ ap (as_one_of backend.GssEncResponse) read
backend_again ctx (backend.Authentication m) g rest h =
    one_again ctx backend.Authentication 82 30000 (authentication_of ctx) SpellsAuthentication
    (authentication ctx) (λ bytes. refl) h.0 m g rest h.1
backend_again ctx (backend.ParameterStatus m) g rest h =
    one_again ctx backend.ParameterStatus 83 30000 (parameter_status_of ctx) SpellsParameterStatus
    (parameter_status ctx) (λ bytes. refl) h.0 m g rest h.1
backend_again ctx (backend.BackendKeyData m) g rest h =
    one_again ctx backend.BackendKeyData 75 30000 (backend_key_data_of ctx)
    (SpellsBackendKeyData ctx.protocol_version) (backend_key_data ctx) (λ bytes. refl) h.0 m g rest h.1
backend_again ctx (backend.NegotiateProtocolVersion m) g rest h =
    one_again ctx backend.NegotiateProtocolVersion 118 30000 (negotiate_of ctx) SpellsNegotiate (negotiate ctx)
    (λ bytes. refl) h.0 m g rest h.1
backend_again ctx (backend.ParseComplete m) g rest h =
    one_again ctx backend.ParseComplete 49 30000 (empty_response_of 49 ctx) NoBody (empty_response 49 ctx)
    (λ bytes. refl) h.0 m g rest h.1
backend_again ctx (backend.BindComplete m) g rest h =
    one_again ctx backend.BindComplete 50 30000 (empty_response_of 50 ctx) NoBody (empty_response 50 ctx)
    (λ bytes. refl)
    h.0 m g rest h.1
backend_again ctx (backend.CloseComplete m) g rest h =
    one_again ctx backend.CloseComplete 51 30000 (empty_response_of 51 ctx) NoBody (empty_response 51 ctx)
    (λ bytes. refl) h.0 m g rest h.1
backend_again ctx (backend.PortalSuspended m) g rest h =
    one_again ctx backend.PortalSuspended 115 30000 (empty_response_of 115 ctx) NoBody (empty_response 115 ctx)
    (λ bytes. refl) h.0 m g rest h.1
backend_again ctx (backend.EmptyQueryResponse m) g rest h =
    one_again ctx backend.EmptyQueryResponse 73 30000 (empty_response_of 73 ctx) NoBody
    (empty_response 73 ctx) (λ bytes. refl) h.0 m g rest h.1
backend_again ctx (backend.NoData m) g rest h =
    one_again ctx backend.NoData 110 30000 (empty_response_of 110 ctx) NoBody (empty_response 110 ctx)
    (λ bytes. refl) h.0 m g rest h.1
backend_again ctx (backend.CommandComplete m) g rest h =
    one_again ctx backend.CommandComplete 67 30000 (command_complete_of ctx) SpellsCommandComplete
    (command_complete ctx) (λ bytes. refl) h.0 m g rest h.1
backend_again ctx (backend.ReadyForQuery m) g rest h =
    one_again ctx backend.ReadyForQuery 90 30000 (ready_for_query_of ctx) SpellsReadyForQuery
    (ready_for_query ctx) (λ bytes. refl) h.0 m g rest h.1
backend_again ctx (backend.ErrorResponse m) g rest h =
    one_again ctx backend.ErrorResponse 69 2147483647 (info_response_of 69 ctx) SpellsInfoResponse
    (info_response 69 ctx) (λ bytes. refl) h.0 m g rest h.1
backend_again ctx (backend.NoticeResponse m) g rest h =
    one_again ctx backend.NoticeResponse 78 2147483647 (info_response_of 78 ctx) SpellsInfoResponse
    (info_response 78 ctx) (λ bytes. refl) h.0 m g rest h.1
backend_again ctx (backend.NotificationResponse m) g rest h =
    one_again ctx backend.NotificationResponse 65 2147483647 (notification_response_of ctx)
    SpellsNotificationResponse (notification_response ctx) (λ bytes. refl) h.0 m g rest h.1
backend_again ctx (backend.ParameterDescription m) g rest h =
    one_again ctx backend.ParameterDescription 116 2147483647 (parameter_description_of ctx)
    SpellsParameterDescription (parameter_description ctx) (λ bytes. refl) h.0 m g rest h.1
backend_again ctx (backend.RowDescription m) g rest h =
    one_again ctx backend.RowDescription 84 2147483647 (row_description_of ctx) SpellsRowDescription
    (row_description ctx) (λ bytes. refl) h.0 m g rest h.1
backend_again ctx (backend.DataRow m) g rest h =
    one_again ctx backend.DataRow 68 2147483647 (data_row_of ctx) SpellsDataRow (data_row ctx) (λ bytes. refl) h.0
    m g rest h.1
backend_again ctx (backend.CopyData m) g rest h =
    one_again ctx backend.CopyData 100 1073741822 (copy_data_of ctx) SpellsCopyData (copy_data ctx)
    (λ bytes. refl) h.0 m g rest h.1
backend_again ctx (backend.CopyDone m) g rest h =
    one_again ctx backend.CopyDone 99 10000 (empty_request_of 99 ctx) NoBody (empty_request 99 ctx) (λ bytes. refl) h.0
    m g rest h.1
backend_again ctx (backend.CopyFail m) g rest h =
    one_again ctx backend.CopyFail 102 10000 (copy_fail_of ctx) SpellsCopyFail (copy_fail ctx) (λ bytes. refl) h.0
    m g rest h.1
backend_again ctx (backend.CopyInResponse m) g rest h =
    one_again ctx backend.CopyInResponse 71 30000 (copy_response_of 71 ctx) SpellsCopyResponse
    (copy_response 71 ctx) (λ bytes. refl) h.0 m g rest h.1
backend_again ctx (backend.CopyOutResponse m) g rest h =
    one_again ctx backend.CopyOutResponse 72 30000 (copy_response_of 72 ctx) SpellsCopyResponse
    (copy_response 72 ctx) (λ bytes. refl) h.0 m g rest h.1
backend_again ctx (backend.CopyBothResponse m) g rest h =
    one_again ctx backend.CopyBothResponse 87 30000 (copy_response_of 87 ctx) SpellsCopyResponse
    (copy_response 87 ctx) (λ bytes. refl) h.0 m g rest h.1

-- a message's spelling ends where its length says
pub goes_on : (ctx : DecodeContext) (m n : PgWireBackendMessage) (g more : List ℕ) → SpellsIn ctx m g
    → SpellsIn ctx n (g ++ more) → (more ≡ []) × (n ≡ m)
goes_on ctx m n g more one two =
    let first : backend_front ctx (g ++ more) ≡ Ok (Some (m, more)) = backend_again ctx m g more one in
    let second : backend_front ctx (g ++ more) ≡ Ok (Some (n, [])) =
    ap (backend_front ctx) (sym (append-nil (g ++ more))) ∙ backend_again ctx n (g ++ more) [] two in
    let same : ◌≡◌ {A = PgWireBackendMessage × List ℕ} (m, more) (n, []) =
    some_is (m, more) (n, []) (sym first ∙ second) in (
      ap (λ (p : PgWireBackendMessage × List ℕ). p.1) same,
      sym
          (ap (λ (p : PgWireBackendMessage × List ℕ). p.0) same),
    )

-- ---- what a decoder gave

pub is_found : (ctx : DecodeContext) (old new : List ℕ) (r : Result (Option PgWireBackendMessage) PgWireError)
    → Decodes r old new (backend_front ctx old)
    → IfOk r (λ o. IfSome o (λ m. (g : List ℕ) × (old ≡ g ++ new) × SpellsIn ctx m g))
is_found ctx old new (Ok None) h = tt
is_found ctx old new (Ok (Some m)) h = backend_found ctx old m new h
is_found ctx old new (Err e) h = tt

pub is_only : (ctx : DecodeContext) (old new : List ℕ) (r : Result (Option PgWireBackendMessage) PgWireError)
    → Decodes r old new (backend_front ctx old) → (m : PgWireBackendMessage) (g rest : List ℕ) → SpellsIn ctx m g
    → old ≡ g ++ rest → Decodes r old new (Ok (Some (m, rest)))
is_only ctx old new r h m g rest s is =
    subst (λ (f : Result (Option (PgWireBackendMessage × List ℕ)) PgWireError). Decodes r old new f)
    (ap (backend_front ctx) is
    ∙ backend_again ctx m g rest s) h
