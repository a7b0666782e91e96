-- What follows a message of a server, or a refusal, changes nothing.
use Rattle.std.proofs.Common.{◌≡◌, inl, inr, ℕ, ◌≤◌, false, ltb, eqb, List, ◌++◌, length, get_or, take, drop, Option, Some, option_map, Result, Ok, Err, refl, sym, ap, subst, ◌∙◌, arith, length-append}
use Rattle.std.proofs.lemmas.Bool.{ltb-false, le-ltb}
use Rattle.std.proofs.lemmas.List.{get_or-take, take-append-le}
use Rattle.pgw_types.specs.declared.error.PgWireError.{PgWireError}
use Rattle.pgw_types.specs.declared.error.PgWireError.TheVariants.{InvalidMessageType}
use Rattle.pgw_types.specs.declared.context.DecodeContext.{DecodeContext}
use Rattle.pgw_wire.specs.declared.framing.Framing.TheVariants.{Typed, OneByte}
use Rattle.pgw_wire.specs.Framing.{wire_front, as_one_of}
use Rattle.pgw_wire.proofs.Laws.{bind_ok, chosen}
use Rattle.pgw_wire.proofs.MessageLaws.{made_of}
use Rattle.pgw_wire.proofs.Stable.{Stable, bind_err, front_stable, stable_choice, stable_refusal}
use Rattle.pgw_wire.specs.Empty.{empty_request_of, empty_response_of}
use Rattle.pgw_backend.specs.declared.backend.PgWireBackendMessage.{PgWireBackendMessage}
use Rattle.pgw_backend.specs.declared.backend.PgWireBackendMessage.TheVariants as backend
use Rattle.pgw_startup.specs.Login.{authentication_of, parameter_status_of, backend_key_data_of, negotiate_of}
use Rattle.pgw_startup.specs.Response.{encryption_response_of}
use Rattle.pgw_query.specs.Rows.{ready_for_query_of, command_complete_of, notification_response_of, parameter_description_of, row_description_of, data_row_of, info_response_of}
use Rattle.pgw_copy.specs.Rows.{copy_data_of, copy_fail_of, copy_response_of}
use Rattle.pgw_backend.specs.Backend.{backend_by, backend_typed_front, backend_front}

-- ---- one kind of message among all kinds

again_as : {A B : Type 0} (make : A → B) (x : A) (m : B) (rest : List ℕ)
    (r : Result (Option (A × List ℕ)) PgWireError)
    → make x ≡ m → r ≡ Ok (Some (x, rest)) → as_one_of make r ≡ Ok (Some (m, rest))
again_as make x m rest r is e = rw e (ap (λ n. Ok (Some (n, rest))) is)

pub stable_as : {A B : Type 0} (make : A → B) (least : ℕ) (p : List ℕ → Result (Option (A × List ℕ)) PgWireError)
    → Stable least p → Stable least (λ bytes. as_one_of make (p bytes))
stable_as {A} {B} make least p h = record {
  whole = λ a m rest e.
      let s = bind_ok (p a) (λ o. Ok (option_map (λ x. (make x.0, x.1)) o)) (Some (m, rest)) e in
      let x = made_of make m rest s.0 (sym s.2) in
      let ends = h.whole a x.0 rest (s.1 ∙ ap (λ o. Ok o) x.1) in
      record {
        len = ends.len;
        some = ends.some;
        within = ends.within;
        left = ends.left;
        again = λ b same long. again_as make x.0 m (drop ends.len b) (p b) x.2 (ends.again b same long);
      };
  bad = λ a more e is. elim (bind_err (p a) (λ o. Ok (option_map (λ x. (make x.0, x.1)) o)) e is) [
    | inl h' ↦ rw (h.bad a more e h') refl
    | inr h' ↦ absurd cc
  ];
}

-- ---- all kinds

one : {A : Type 0} (make : A → PgWireBackendMessage) (byte limit : ℕ) (read : List ℕ → Result A PgWireError)
    → Stable 5 (λ bytes. as_one_of make (wire_front (Typed byte) limit read bytes))
one make byte limit read =
    stable_as make 5 (wire_front (Typed byte) limit read) (front_stable (Typed byte) limit read tt)

by_stable : (byte : ℕ) (ctx : DecodeContext) → Stable 5 (backend_by byte ctx)
by_stable byte ctx =
    stable_choice 5 (eqb byte 82) _ _ (one backend.Authentication 82 30000 (authentication_of ctx))
    (stable_choice 5 (eqb byte 83) _ _ (one backend.ParameterStatus 83 30000 (parameter_status_of ctx))
    (stable_choice 5 (eqb byte 75) _ _ (one backend.BackendKeyData 75 30000 (backend_key_data_of ctx))
    (stable_choice 5 (eqb byte 118) _ _ (one backend.NegotiateProtocolVersion 118 30000 (negotiate_of ctx))
    (stable_choice 5 (eqb byte 67) _ _ (one backend.CommandComplete 67 30000 (command_complete_of ctx))
    (stable_choice 5 (eqb byte 73) _ _ (one backend.EmptyQueryResponse 73 30000 (empty_response_of 73 ctx))
    (stable_choice 5 (eqb byte 90) _ _ (one backend.ReadyForQuery 90 30000 (ready_for_query_of ctx))
    (stable_choice 5 (eqb byte 69) _ _ (one backend.ErrorResponse 69 2147483647 (info_response_of 69 ctx))
    (stable_choice 5 (eqb byte 78) _ _ (one backend.NoticeResponse 78 2147483647 (info_response_of 78 ctx))
    (stable_choice 5 (eqb byte 65) _ _
    (one backend.NotificationResponse 65 2147483647 (notification_response_of ctx))
    (stable_choice 5 (eqb byte 84) _ _ (one backend.RowDescription 84 2147483647 (row_description_of ctx))
    (stable_choice 5 (eqb byte 68) _ _ (one backend.DataRow 68 2147483647 (data_row_of ctx))
    (stable_choice 5 (eqb byte 49) _ _ (one backend.ParseComplete 49 30000 (empty_response_of 49 ctx))
    (stable_choice 5 (eqb byte 50) _ _ (one backend.BindComplete 50 30000 (empty_response_of 50 ctx))
    (stable_choice 5 (eqb byte 51) _ _ (one backend.CloseComplete 51 30000 (empty_response_of 51 ctx))
    (stable_choice 5 (eqb byte 115) _ _ (one backend.PortalSuspended 115 30000 (empty_response_of 115 ctx))
    (stable_choice 5 (eqb byte 110) _ _ (one backend.NoData 110 30000 (empty_response_of 110 ctx))
    (stable_choice 5 (eqb byte 116) _ _
    (one backend.ParameterDescription 116 2147483647 (parameter_description_of ctx))
    (stable_choice 5 (eqb byte 100) _ _ (one backend.CopyData 100 1073741822 (copy_data_of ctx))
    (stable_choice 5 (eqb byte 99) _ _ (one backend.CopyDone 99 10000 (empty_request_of 99 ctx))
    (stable_choice 5 (eqb byte 102) _ _ (one backend.CopyFail 102 10000 (copy_fail_of ctx))
    (stable_choice 5 (eqb byte 71) _ _ (one backend.CopyInResponse 71 30000 (copy_response_of 71 ctx))
    (stable_choice 5 (eqb byte 72) _ _ (one backend.CopyOutResponse 72 30000 (copy_response_of 72 ctx))
    (stable_choice 5 (eqb byte 87) _ _ (one backend.CopyBothResponse 87 30000 (copy_response_of 87 ctx))
    (stable_refusal 5 (InvalidMessageType byte)))))))))))))))))))))))))

same_first : (n : ℕ) (a b : List ℕ) → 1 ≤ n → take n b ≡ take n a → get_or b 0 0 ≡ get_or a 0 0
same_first n a b some same =
    sym (get_or-take n b 0 0 (omega (arith, some))) ∙ ap (λ (x : List ℕ). get_or x 0 0) same
    ∙ get_or-take n a 0 0 (omega (arith, some))

pub by_same : (ctx : DecodeContext) (b : List ℕ) (byte : ℕ)
    (r : Result (Option (PgWireBackendMessage × List ℕ)) PgWireError)
    → 2 ≤ length b → get_or b 0 0 ≡ byte → backend_by byte ctx b ≡ r → backend_typed_front ctx b ≡ r
by_same ctx b byte r some is e =
    let long : ltb (length b) 2 ≡ false = le-ltb _ _ some in
    rw long (subst (λ (x : ℕ). backend_by x ctx b ≡ r) (sym is) e)

-- a message was found by its type byte
pub typed_found : (ctx : DecodeContext) (a : List ℕ) (m : PgWireBackendMessage) (rest : List ℕ)
    → backend_typed_front ctx a ≡ Ok (Some (m, rest)) → backend_by (get_or a 0 0) ctx a ≡ Ok (Some (m, rest))
typed_found ctx a m rest e = elim (chosen (ltb (length a) 2) _ _ _ e) [
  | inl h ↦ absurd cc
  | inr h ↦ h.1
]

typed_bad : (ctx : DecodeContext) (a more : List ℕ) (e : PgWireError) → backend_typed_front ctx a ≡ Err e
    → backend_typed_front ctx (a ++ more) ≡ Err e
typed_bad ctx a more e is = elim (chosen (ltb (length a) 2) _ _ _ is) [
  | inl h ↦ absurd cc
  | inr h ↦
      let some : 2 ≤ length a = ltb-false _ _ h.0 in
      by_same ctx (a ++ more) (get_or a 0 0) (Err e) (omega (arith, some, length-append a more))
      (same_first 1 a (a ++ more) (omega arith) (take-append-le 1 a more (omega (arith, some))))
      ((by_stable (get_or a 0 0) ctx).bad a more e h.1)
]

-- some message takes one byte at least
typed_stable : (ctx : DecodeContext) → Stable 1 (backend_typed_front ctx)
typed_stable ctx = record {
  whole = λ a m rest e.
      let ends = (by_stable (get_or a 0 0) ctx).whole a m rest (typed_found ctx a m rest e) in
      record {
        len = ends.len;
        some = omega (arith, ends.some);
        within = ends.within;
        left = ends.left;
        again =
            λ b same long. by_same ctx b (get_or a 0 0) (Ok (Some (m, drop ends.len b)))
            (omega (arith, ends.some, long)) (same_first ends.len a b (omega (arith, ends.some)) same)
            (ends.again b same long);
      };
  bad = typed_bad ctx;
}

pub backend_stable : (ctx : DecodeContext) → Stable 1 (backend_front ctx)
unfolding backend_front
backend_stable ctx =
    stable_choice 1 ctx.awaiting_backend_ssl_response _ _
    (stable_as backend.SslResponse 1 (wire_front OneByte 10000 (encryption_response_of 83 ctx))
    (front_stable OneByte 10000 (encryption_response_of 83 ctx) tt))
    (stable_choice 1 ctx.awaiting_backend_gss_response _ _
    (stable_as backend.GssEncResponse 1 (wire_front OneByte 10000 (encryption_response_of 71 ctx))
    (front_stable OneByte 10000 (encryption_response_of 71 ctx) tt))
    (typed_stable ctx))
