-- A message that is not whole is awaited up to the length that it states.
use Rattle.std.proofs.Common.{◌≡◌, inl, inr, ◌<◌, ℕ, ◌+◌, Bool, true, false, cond, ltb, eqb, List, length, get_or, Option, Some, None, option_map, Result, Ok, Err, refl, ap, ◌∙◌, arith}
use Rattle.std.proofs.lemmas.Bool.{ltb-true, lt-ltb}
use Rattle.pgw_types.specs.declared.error.PgWireError.{PgWireError}
use Rattle.pgw_types.specs.declared.context.ProtocolVersion.{ProtocolVersion}
use Rattle.pgw_types.specs.declared.context.DecodeContext.{DecodeContext}
use Rattle.pgw_wire.specs.declared.framing.Framing.TheVariants.{Typed}
use Rattle.pgw_wire.specs.Framing.{stated_length, length_frame, frame, framed, wire_front as front_by, as_one_of}
use Rattle.pgw_wire.proofs.Laws.{bind_ok, chosen}
use Rattle.pgw_wire.specs.Empty.{empty_request_of, empty_response_of}
use Rattle.pgw_backend.specs.declared.backend.PgWireBackendMessage.{PgWireBackendMessage}
use Rattle.pgw_backend.specs.declared.backend.PgWireBackendMessage.TheVariants as backend
use Rattle.pgw_startup.specs.Login.{authentication_of, parameter_status_of, backend_key_data_of, negotiate_of}
use Rattle.pgw_query.specs.Rows.{ready_for_query_of, command_complete_of, notification_response_of, parameter_description_of, row_description_of, data_row_of, info_response_of}
use Rattle.pgw_copy.specs.Rows.{copy_data_of, copy_fail_of, copy_response_of}
use Rattle.pgw_backend.specs.Backend.{backend_by, backend_typed_front, backend_front}
use Rattle.pgw_backend.specs.Front.{front, front_of, typed_phase, More}
use Rattle.pgw_client_calls.specs.Reading.{awaited}

abbrev Waits : {M : Type 0} → (List ℕ → Result (Option (M × List ℕ)) PgWireError) → Type 0
Waits p = (bytes : List ℕ) → p bytes ≡ Ok None → length bytes < awaited bytes

frame_waits : (limit : ℕ) (a : List ℕ) → length_frame 1 limit a ≡ Ok None → length a < awaited a
unfolding length_frame
frame_waits limit a e =
    elim (chosen (ltb (length a) (1 + 4)) _ _ _ e) [
      | inl h ↦ rw h.0 (ltb-true _ _ h.0)
      | inr g ↦ elim (chosen (ltb limit (stated_length 1 a)) _ _ _ g.1) [
        | inl h ↦ absurd cc
        | inr k ↦ elim (chosen (ltb (stated_length 1 a) 4) _ _ _ k.1) [
          | inl h ↦ absurd cc
          | inr m ↦ elim (chosen (ltb (length a) (1 + stated_length 1 a)) _ _ _ m.1) [
            | inl h ↦ rw g.0 (ltb-true _ _ h.0)
            | inr n ↦ absurd cc
          ]
        ]
      ]
    ]

none_framed : {M : Type 0} (read : List ℕ → Result M PgWireError) (bytes : List ℕ) (o : Option (ℕ × ℕ))
    → framed read bytes o ≡ Ok None → o ≡ None
none_framed read bytes None e = refl
none_framed {M} read bytes (Some f) e =
    let s = bind_ok _ (λ (m : M). Ok (Some (m, _))) None e in
    absurd (let no : Ok (Some _) ≡ Ok None = s.2 in cc)

front_waits : {M : Type 0} (byte limit : ℕ) (read : List ℕ → Result M PgWireError)
    → Waits (front_by (Typed byte) limit read)
unfolding front_by frame
front_waits byte limit read bytes e =
    let s = bind_ok (length_frame 1 limit bytes) (framed read bytes) None e in
    frame_waits limit bytes (s.1 ∙ ap Ok (none_framed read bytes s.0 s.2))

none_made : {A B : Type 0} (f : A → B) (o : Option A) → option_map f o ≡ None → o ≡ None
none_made f None e = refl
none_made f (Some x) e = absurd cc

one : {A : Type 0} (make : A → PgWireBackendMessage) (byte limit : ℕ) (read : List ℕ → Result A PgWireError)
    → Waits (λ bytes. as_one_of make (front_by (Typed byte) limit read bytes))
one {A} make byte limit read bytes e =
    let f : A × List ℕ → PgWireBackendMessage × List ℕ = λ x. (make x.0, x.1) in
    let s = bind_ok (front_by (Typed byte) limit read bytes) (λ o. Ok (option_map f o)) None e in
    let none : option_map f s.0 ≡ None = cc (s.2) in
    front_waits byte limit read bytes (s.1 ∙ ap Ok (none_made f s.0 none))

choice : (b : Bool) (p q : List ℕ → Result (Option (PgWireBackendMessage × List ℕ)) PgWireError) → Waits p
    → Waits q → Waits (λ bytes. cond b (p bytes) (q bytes))
choice true p q hp hq = hp
choice false p q hp hq = hq

by_waits : (byte : ℕ) (ctx : DecodeContext) → Waits (backend_by byte ctx)
by_waits byte ctx =
    choice (eqb byte 82) _ _ (one backend.Authentication 82 30000 (authentication_of ctx))
    (choice (eqb byte 83) _ _ (one backend.ParameterStatus 83 30000 (parameter_status_of ctx))
    (choice (eqb byte 75) _ _ (one backend.BackendKeyData 75 30000 (backend_key_data_of ctx))
    (choice (eqb byte 118) _ _ (one backend.NegotiateProtocolVersion 118 30000 (negotiate_of ctx))
    (choice (eqb byte 67) _ _ (one backend.CommandComplete 67 30000 (command_complete_of ctx))
    (choice (eqb byte 73) _ _ (one backend.EmptyQueryResponse 73 30000 (empty_response_of 73 ctx))
    (choice (eqb byte 90) _ _ (one backend.ReadyForQuery 90 30000 (ready_for_query_of ctx))
    (choice (eqb byte 69) _ _ (one backend.ErrorResponse 69 2147483647 (info_response_of 69 ctx))
    (choice (eqb byte 78) _ _ (one backend.NoticeResponse 78 2147483647 (info_response_of 78 ctx))
    (choice (eqb byte 65) _ _ (one backend.NotificationResponse 65 2147483647 (notification_response_of ctx))
    (choice (eqb byte 84) _ _ (one backend.RowDescription 84 2147483647 (row_description_of ctx))
    (choice (eqb byte 68) _ _ (one backend.DataRow 68 2147483647 (data_row_of ctx))
    (choice (eqb byte 49) _ _ (one backend.ParseComplete 49 30000 (empty_response_of 49 ctx))
    (choice (eqb byte 50) _ _ (one backend.BindComplete 50 30000 (empty_response_of 50 ctx))
    (choice (eqb byte 51) _ _ (one backend.CloseComplete 51 30000 (empty_response_of 51 ctx))
    (choice (eqb byte 115) _ _ (one backend.PortalSuspended 115 30000 (empty_response_of 115 ctx))
    (choice (eqb byte 110) _ _ (one backend.NoData 110 30000 (empty_response_of 110 ctx))
    (choice (eqb byte 116) _ _ (one backend.ParameterDescription 116 2147483647 (parameter_description_of ctx))
    (choice (eqb byte 100) _ _ (one backend.CopyData 100 1073741822 (copy_data_of ctx))
    (choice (eqb byte 99) _ _ (one backend.CopyDone 99 10000 (empty_request_of 99 ctx))
    (choice (eqb byte 102) _ _ (one backend.CopyFail 102 10000 (copy_fail_of ctx))
    (choice (eqb byte 71) _ _ (one backend.CopyInResponse 71 30000 (copy_response_of 71 ctx))
    (choice (eqb byte 72) _ _ (one backend.CopyOutResponse 72 30000 (copy_response_of 72 ctx))
    (choice (eqb byte 87) _ _ (one backend.CopyBothResponse 87 30000 (copy_response_of 87 ctx))
    (λ bytes e. absurd cc))))))))))))))))))))))))

short_waits : (a : List ℕ) → length a < 2 → length a < awaited a
short_waits a short =
    let five : ltb (length a) 5 ≡ true = lt-ltb _ _ (omega (arith, short)) in
    rw five (omega (arith, short))

typed_waits : (ctx : DecodeContext) → Waits (backend_typed_front ctx)
typed_waits ctx a e = elim (chosen (ltb (length a) 2) _ _ _ e) [
  | inl h ↦ (let short : length a < 2 = ltb-true _ _ h.0 in short_waits a short)
  | inr h ↦ by_waits (get_or a 0 0) ctx a h.1
]

more_part : (bytes : List ℕ) (r : Result (Option (PgWireBackendMessage × List ℕ)) PgWireError)
    → front_of bytes r ≡ More → r ≡ Ok None
more_part bytes (Err e) is = absurd cc
more_part bytes (Ok None) is = refl
more_part bytes (Ok (Some x)) is = absurd cc

-- where more bytes are needed, there are fewer than the message at the front has, or than its length field ends with
pub more_waits : (v : ProtocolVersion) (bytes : List ℕ) → front v bytes ≡ More → length bytes < awaited bytes
unfolding front backend_front
more_waits v bytes is =
    typed_waits (typed_phase v) bytes (more_part bytes (backend_front (typed_phase v) bytes) is)
