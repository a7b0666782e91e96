-- What follows a message of a client, or a refusal, changes nothing.
use Rattle.std.proofs.Common.{◌≡◌, ◌⊎◌, inl, inr, ℕ, ◌+◌, ◌-◌, ◌≤◌, Bool, true, false, cond, ltb, eqb, List, ◌++◌, length, get_or, take, drop, slice_range, Option, Some, None, option_map, Result, Ok, refl, sym, ap, ◌∙◌, arith, length-append, length-drop}
use Rattle.std.specs.Int.{w32, from_be_bytes}
use Rattle.std.proofs.lemmas.Bool.{ltb-false, le-ltb}
use Rattle.std.proofs.lemmas.List.{take-take, take-append-le, drop-take, get_or-take, length-take}
use Rattle.pgw_types.specs.declared.error.PgWireError.{PgWireError}
use Rattle.pgw_types.specs.declared.error.PgWireError.TheVariants.{InvalidMessageType}
use Rattle.pgw_types.specs.declared.context.DecodeContext.{DecodeContext}
use Rattle.pgw_wire.specs.declared.framing.Framing.TheVariants.{Typed, Untyped, Opening, Code}
use Rattle.pgw_wire.specs.Framing.{code_in, stated_length, length_frame, frame, framed, wire_front, as_one_of}
use Rattle.pgw_wire.proofs.Laws.{bind_ok, chosen}
use Rattle.pgw_wire.proofs.MessageLaws.{some_is, made_of, framed_found}
use Rattle.pgw_wire.proofs.Stable.{Stable, bind_err, front_stable, stable_choice, stable_refusal}
use Rattle.pgw_wire.specs.Empty.{empty_request_of}
use Rattle.pgw_startup.specs.declared.startup.Startup.{Startup}
use Rattle.pgw_startup.specs.Startup.{startup_of}
use Rattle.pgw_startup.specs.Password.{family_of}
use Rattle.pgw_control.specs.declared.cancel.CancelRequest.{CancelRequest}
use Rattle.pgw_control.specs.Openings.{ssl_request_of, gss_enc_request_of, cancel_request_of}
use Rattle.pgw_query.specs.Rows.{query_of}
use Rattle.pgw_ext.specs.Rows.{parse_of, bind_of, close_of, describe_of, execute_of}
use Rattle.pgw_copy.specs.Rows.{copy_data_of, copy_fail_of}
use Rattle.pgw_frontend.specs.declared.frontend.SslNegotiationMetaMessage.TheVariants as negotiation
use Rattle.pgw_frontend.specs.declared.frontend.PgWireFrontendMessage.{PgWireFrontendMessage as Message}
use Rattle.pgw_frontend.specs.declared.frontend.PgWireFrontendMessage.TheVariants as frontend
use Rattle.pgw_frontend.specs.Frontend.{first_front, frontend_by, typed_front}

-- which way a test goes
pub either : (b : Bool) → (b ≡ true) ⊎ (b ≡ false)
either true = inl refl
either false = inr refl

-- ---- what stands at the same place

pub cut_same : (i j n : ℕ) (a b : List ℕ) → i + j ≤ n → take n b ≡ take n a → take j (drop i b) ≡ take j (drop i a)
cut_same i j n a b le same =
    let shorter : take (i + j) b ≡ take (i + j) a =
    sym (take-take (i + j) n b le) ∙ ap (λ (x : List ℕ). take (i + j) x) same ∙ take-take (i + j) n a le in
    sym (drop-take i j b) ∙ ap (λ (x : List ℕ). drop i x) shorter ∙ drop-take i j a

code_same : (n : ℕ) (a b : List ℕ) → 8 ≤ n → take n b ≡ take n a → code_in b ≡ code_in a
code_same n a b le same = ap (λ (f : List ℕ). from_be_bytes w32 f) (cut_same 4 4 n a b (omega (arith, le)) same)

first_same : (n : ℕ) (a b : List ℕ) → 1 ≤ n → take n b ≡ take n a → get_or b 0 0 ≡ get_or a 0 0
first_same n a b some same =
    sym (get_or-take n b 0 0 (omega (arith, some))) ∙ ap (λ (x : List ℕ). get_or x 0 0) same
    ∙ get_or-take n a 0 0 (omega (arith, some))

-- ---- one kind among all kinds

again_as : {A : Type 0} (make : A → Message) (x : A) (m : Message) (rest : List ℕ)
    (r : Result (Option (A × List ℕ)) PgWireError)
    → make x ≡ m → r ≡ Ok (Some (x, rest)) → as_one_of make r ≡ Ok (Some (m, rest))
again_as make x m rest r is e = rw e (ap (λ n. Ok (Some (n, rest))) is)

stable_as : {A : Type 0} (make : A → Message) (least : ℕ) (p : List ℕ → Result (Option (A × List ℕ)) PgWireError)
    → Stable least p → Stable least (λ bytes. as_one_of make (p bytes))
stable_as make least p h = record {
  whole = λ a m rest e.
      let s = bind_ok (p a) (λ o. Ok (option_map (λ x. (make x.0, x.1)) o)) (Some (m, rest)) e in
      let x = made_of make m rest s.0 (sym s.2) in
      let ends = h.whole a x.0 rest (s.1 ∙ ap (λ o. Ok o) x.1) in
      record {
        len = ends.len;
        some = ends.some;
        within = ends.within;
        left = ends.left;
        again = λ b same long. again_as make x.0 m (drop ends.len b) (p b) x.2 (ends.again b same long);
      };
  bad = λ a more e is. elim (bind_err (p a) (λ o. Ok (option_map (λ x. (make x.0, x.1)) o)) e is) [
    | inl h' ↦ rw (h.bad a more e h') refl
    | inr h' ↦ absurd cc
  ];
}

-- ---- messages without a type byte

-- a message that takes so many bytes
stable_longer : {M : Type 0} (k least : ℕ) (p : List ℕ → Result (Option (M × List ℕ)) PgWireError) → Stable k p
    → ((a : List ℕ) (m : M) (rest : List ℕ) → p a ≡ Ok (Some (m, rest)) → length rest + least ≤ length a)
    → Stable least p
stable_longer k least p h long = record {
  whole = λ a m rest e.
      let ends = h.whole a m rest e in
      record {
        len = ends.len;
        some = omega (arith, long a m rest e, ap length ends.left, length-drop ends.len a, ends.within);
        within = ends.within;
        left = ends.left;
        again = ends.again;
      };
  bad = h.bad;
}

untyped_at : (limit : ℕ) (a : List ℕ) (f : ℕ × ℕ) → length_frame 0 limit a ≡ Ok (Some f)
    → (f.0 ≡ 4) × (4 ≤ f.1) × (f.1 ≤ length a)
unfolding length_frame
untyped_at limit a f e =
    let len = stated_length 0 a in
    elim (chosen (ltb (length a) 4) _ _ _ e) [
      | inl h ↦ absurd cc
      | inr g ↦ elim (chosen (ltb limit len) _ _ _ g.1) [
        | inl h ↦ absurd cc
        | inr k ↦ elim (chosen (ltb len 4) _ _ _ k.1) [
          | inl h ↦ absurd cc
          | inr m ↦ elim (chosen (ltb (length a) (0 + len)) _ _ _ m.1) [
            | inl h ↦ absurd cc
            | inr n ↦
                let is : f ≡ (4, 0 + len) = sym (some_is (4, 0 + len) f n.1) in
                let least : 4 ≤ len = ltb-false _ _ m.0 in
                let whole : 0 + len ≤ length a = ltb-false _ _ n.0 in
                let ends : f.1 ≡ 0 + len = ap (λ (p : ℕ × ℕ). p.1) is in
                (ap (λ (p : ℕ × ℕ). p.0) is, omega (arith, ends, least), omega (arith, ends, whole))
          ]
        ]
      ]
    ]

at_most : (n : ℕ) (a : List ℕ) → length (take n a) ≤ n
at_most n a = omega (arith, length-take n a)

-- so many bytes where its body has so many
untyped_long : {M : Type 0} (k limit : ℕ) (read : List ℕ → Result M PgWireError)
    → ((body : List ℕ) (m : M) → read body ≡ Ok m → k ≤ length body)
    → (a : List ℕ) (m : M) (rest : List ℕ) → wire_front Untyped limit read a ≡ Ok (Some (m, rest))
    → length rest + (k + 4) ≤ length a
unfolding wire_front frame
untyped_long k limit read law a m rest e =
    let h = bind_ok (length_frame 0 limit a) (framed read a) (Some (m, rest)) e in
    let f = framed_found read a m rest h.0 h.2 in
    let at = untyped_at limit a f.0 (h.1 ∙ ap (λ (o : Option (ℕ × ℕ)). Ok o) f.1) in
    let body : k ≤ length (slice_range a f.0.0 f.0.1) = law (slice_range a f.0.0 f.0.1) m f.2 in
    let short : length (slice_range a f.0.0 f.0.1) ≤ f.0.1 - f.0.0 = at_most (f.0.1 - f.0.0) (drop f.0.0 a) in
    omega (arith, body, short, at.0, at.1, at.2, ap length f.3, length-drop f.0.1 a)

startup_body_long : (ctx : DecodeContext) (body : List ℕ) (m : Startup) → startup_of ctx body ≡ Ok m
    → 4 ≤ length body
unfolding startup_of
startup_body_long ctx body m e = elim (chosen (ltb (length body) 5) _ _ _ e) [
  | inl h ↦ absurd cc
  | inr h ↦ omega (arith, ltb-false _ _ h.0)
]

cancel_body_long : (ctx : DecodeContext) (body : List ℕ) (m : CancelRequest) → cancel_request_of ctx body ≡ Ok m
    → 4 ≤ length body
unfolding cancel_request_of
cancel_body_long ctx body m e = elim (chosen (ltb (length body) 12) _ _ _ e) [
  | inl h ↦ absurd cc
  | inr h ↦ omega (arith, ltb-false _ _ h.0)
]

untyped_stable : {M : Type 0} (read : List ℕ → Result M PgWireError)
    → ((body : List ℕ) (m : M) → read body ≡ Ok m → 4 ≤ length body) → Stable 8 (wire_front Untyped 10000 read)
untyped_stable read law =
    stable_longer 4 8 (wire_front Untyped 10000 read) (front_stable Untyped 10000 read tt)
    (untyped_long 4 10000 read law)

-- with its code, a CancelRequest stands as a message without a type byte does
pub opening_is : {M : Type 0} (code limit : ℕ) (read : List ℕ → Result M PgWireError) (b : List ℕ)
    → ltb (length b) 8 ≡ false → eqb (code_in b) code ≡ true
    → wire_front (Opening code) limit read b ≡ wire_front Untyped limit read b
unfolding wire_front frame
opening_is code limit read b long is = rw (long, is) refl

-- ---- a message that its code tells

-- a reading that looks at the code behind a length, and at nothing before it has come
pub record ByCode (at : List ℕ → Result (Option (Message × List ℕ)) PgWireError)
    (of : ℕ → List ℕ → Result (Option (Message × List ℕ)) PgWireError) : Type 0 where
  pub none : (b : List ℕ) → ltb (length b) 8 ≡ true → at b ≡ Ok None
  pub some : (b : List ℕ) → ltb (length b) 8 ≡ false → at b ≡ of (code_in b) b

pub by_code_stable : (at : List ℕ → Result (Option (Message × List ℕ)) PgWireError)
    (of : ℕ → List ℕ → Result (Option (Message × List ℕ)) PgWireError)
    → ByCode at of → ((code : ℕ) → Stable 8 (of code)) → Stable 8 at
by_code_stable at of law stable = record {
  whole = λ a m rest e. elim (either (ltb (length a) 8)) [
    | inl short ↦ let n = law.none a short in absurd cc
    | inr long ↦
        let ends = (stable (code_in a)).whole a m rest (sym (law.some a long) ∙ e) in
        record {
          len = ends.len;
          some = ends.some;
          within = ends.within;
          left = ends.left;
          again = λ b same le.
              law.some b (le-ltb _ _ (omega (arith, ends.some, le)))
              ∙ ap (λ (code : ℕ). of code b) (code_same ends.len a b ends.some same)
              ∙ ends.again b same le;
        }
  ];
  bad = λ a more e is. elim (either (ltb (length a) 8)) [
    | inl short ↦ let n = law.none a short in absurd cc
    | inr long ↦
        let some : 8 ≤ length a = ltb-false _ _ long in
        law.some (a ++ more) (le-ltb _ _ (omega (arith, some, length-append a more)))
        ∙ ap (λ (code : ℕ). of code (a ++ more))
        (code_same 8 a (a ++ more) (omega arith) (take-append-le 8 a more some))
        ∙ (stable (code_in a)).bad a more e (sym (law.some a long) ∙ is)
  ];
}

abbrev pub first_of : DecodeContext → ℕ → List ℕ → Result (Option (Message × List ℕ)) PgWireError
first_of ctx code b =
    cond (eqb code 80877102)
    (as_one_of frontend.CancelRequest (wire_front Untyped 10000 (cancel_request_of ctx) b))
    (as_one_of frontend.Startup (wire_front Untyped 10000 (startup_of ctx) b))

abbrev pub asked_of : DecodeContext → ℕ → List ℕ → Result (Option (Message × List ℕ)) PgWireError
    → Result (Option (Message × List ℕ)) PgWireError
asked_of ctx code b other =
    cond (eqb code 80877103)
    (as_one_of (λ m. frontend.SslNegotiation (negotiation.PostgresSsl m))
    (wire_front Code 10000 (ssl_request_of ctx) b))
    (cond (eqb code 80877104)
    (as_one_of (λ m. frontend.SslNegotiation (negotiation.PostgresGss m))
    (wire_front Code 10000 (gss_enc_request_of ctx) b)) other)

pub first_of_stable : (ctx : DecodeContext) (code : ℕ) → Stable 8 (first_of ctx code)
first_of_stable ctx code =
    stable_choice 8 (eqb code 80877102) _ _
    (stable_as frontend.CancelRequest 8 (wire_front Untyped 10000 (cancel_request_of ctx))
    (untyped_stable (cancel_request_of ctx) (cancel_body_long ctx)))
    (stable_as frontend.Startup 8 (wire_front Untyped 10000 (startup_of ctx))
    (untyped_stable (startup_of ctx) (startup_body_long ctx)))

-- what asks for encryption, or else a first message
pub asked_or_first_stable : (asking first : DecodeContext) (code : ℕ)
    → Stable 8 (λ b. asked_of asking code b (first_of first code b))
asked_or_first_stable asking first code =
    stable_choice 8 (eqb code 80877103) _ _
    (stable_as (λ m. frontend.SslNegotiation (negotiation.PostgresSsl m)) 8
    (wire_front Code 10000 (ssl_request_of asking)) (front_stable Code 10000 (ssl_request_of asking) tt))
    (stable_choice 8 (eqb code 80877104) _ _
    (stable_as (λ m. frontend.SslNegotiation (negotiation.PostgresGss m)) 8
    (wire_front Code 10000 (gss_enc_request_of asking))
    (front_stable Code 10000 (gss_enc_request_of asking) tt))
    (first_of_stable first code))

first_is : (ctx : DecodeContext) → ByCode (first_front ctx) (first_of ctx)
unfolding first_front
first_is ctx = record {
  none = λ b short. rw short refl;
  some = λ b long. elim (either (eqb (code_in b) 80877102)) [
    | inl is ↦ rw (long, is)
        (ap (as_one_of frontend.CancelRequest) (opening_is 80877102 10000 (cancel_request_of ctx) b long is))
    | inr is ↦ rw (long, is) refl
  ];
}

pub first_stable : (ctx : DecodeContext) → Stable 8 (first_front ctx)
first_stable ctx = by_code_stable (first_front ctx) (first_of ctx) (first_is ctx) (first_of_stable ctx)

pub first_by : (ctx : DecodeContext) (b : List ℕ) → ltb (length b) 8 ≡ false
    → first_front ctx b ≡ first_of ctx (code_in b) b
first_by ctx b long = (first_is ctx).some b long

-- ---- messages with a type byte

one : {A : Type 0} (make : A → Message) (byte limit : ℕ) (read : List ℕ → Result A PgWireError)
    → Stable 5 (λ bytes. as_one_of make (wire_front (Typed byte) limit read bytes))
one make byte limit read =
    stable_as make 5 (wire_front (Typed byte) limit read) (front_stable (Typed byte) limit read tt)

by_stable : (byte : ℕ) (ctx : DecodeContext) → Stable 5 (frontend_by byte ctx)
by_stable byte ctx =
    stable_choice 5 (eqb byte 112) _ _ (one frontend.PasswordMessageFamily 112 10000 (family_of ctx))
    (stable_choice 5 (eqb byte 81) _ _ (one frontend.Query 81 1073741822 (query_of ctx))
    (stable_choice 5 (eqb byte 80) _ _ (one frontend.Parse 80 1073741822 (parse_of ctx))
    (stable_choice 5 (eqb byte 66) _ _ (one frontend.Bind 66 1073741822 (bind_of ctx))
    (stable_choice 5 (eqb byte 67) _ _ (one frontend.Close 67 10000 (close_of ctx))
    (stable_choice 5 (eqb byte 68) _ _ (one frontend.Describe 68 10000 (describe_of ctx))
    (stable_choice 5 (eqb byte 69) _ _ (one frontend.Execute 69 10000 (execute_of ctx))
    (stable_choice 5 (eqb byte 72) _ _ (one frontend.Flush 72 10000 (empty_request_of 72 ctx))
    (stable_choice 5 (eqb byte 83) _ _ (one frontend.Sync 83 10000 (empty_request_of 83 ctx))
    (stable_choice 5 (eqb byte 88) _ _ (one frontend.Terminate 88 10000 (empty_request_of 88 ctx))
    (stable_choice 5 (eqb byte 100) _ _ (one frontend.CopyData 100 1073741822 (copy_data_of ctx))
    (stable_choice 5 (eqb byte 99) _ _ (one frontend.CopyDone 99 10000 (empty_request_of 99 ctx))
    (stable_choice 5 (eqb byte 102) _ _ (one frontend.CopyFail 102 10000 (copy_fail_of ctx))
    (stable_refusal 5 (InvalidMessageType byte))))))))))))))

typed_none : (ctx : DecodeContext) (b : List ℕ) → ltb (length b) 2 ≡ true → typed_front ctx b ≡ Ok None
unfolding typed_front
typed_none ctx b short = rw short refl

typed_by : (ctx : DecodeContext) (b : List ℕ) → ltb (length b) 2 ≡ false
    → typed_front ctx b ≡ frontend_by (get_or b 0 0) ctx b
unfolding typed_front
typed_by ctx b long = rw long refl

pub typed_stable : (ctx : DecodeContext) → Stable 5 (typed_front ctx)
typed_stable ctx = record {
  whole = λ a m rest e. elim (either (ltb (length a) 2)) [
    | inl short ↦ let n = typed_none ctx a short in absurd cc
    | inr long ↦
        let ends = (by_stable (get_or a 0 0) ctx).whole a m rest (sym (typed_by ctx a long) ∙ e) in
        record {
          len = ends.len;
          some = ends.some;
          within = ends.within;
          left = ends.left;
          again = λ b same le.
              typed_by ctx b (le-ltb _ _ (omega (arith, ends.some, le)))
              ∙ ap (λ (byte : ℕ). frontend_by byte ctx b)
              (first_same ends.len a b (omega (arith, ends.some)) same)
              ∙ ends.again b same le;
        }
  ];
  bad = λ a more e is. elim (either (ltb (length a) 2)) [
    | inl short ↦ let n = typed_none ctx a short in absurd cc
    | inr long ↦
        let some : 2 ≤ length a = ltb-false _ _ long in
        typed_by ctx (a ++ more) (le-ltb _ _ (omega (arith, some, length-append a more)))
        ∙ ap (λ (byte : ℕ). frontend_by byte ctx (a ++ more))
        (first_same 1 a (a ++ more) (omega arith) (take-append-le 1 a more (omega (arith, some))))
        ∙ (by_stable (get_or a 0 0) ctx).bad a more e (sym (typed_by ctx a long) ∙ is)
  ];
}
