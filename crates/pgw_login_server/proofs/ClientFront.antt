-- What follows a message of a client, or a refusal, changes nothing.
use Rattle.std.proofs.Common.{◌≡◌, inl, inr, ℕ, ◌+◌, ◌-◌, ◌<◌, ◌≤◌, max, Bool, true, false, cond, ltb, eqb, List, [], ◌++◌, length, get_or, take, drop, slice_range, Option, Some, None, Result, Ok, Err, refl, sym, ap, subst, ◌∙◌, arith, length-append, length-drop}
use Rattle.std.specs.Int.{w32, from_be_bytes}
use Rattle.std.proofs.lemmas.Bool.{ltb-true, ltb-false, le-ltb, lt-ltb}
use Rattle.std.proofs.lemmas.List.{take_all, take-append-drop, take-append-le, length-take, take_at}
use Rattle.std.proofs.Math.Seq.{take-append-add}
use Rattle.pgw_types.specs.declared.error.PgWireError.{PgWireError}
use Rattle.pgw_types.specs.declared.error.PgWireError.TheVariants.{MessageTooLarge}
use Rattle.pgw_types.specs.declared.context.ProtocolVersion.{ProtocolVersion}
use Rattle.pgw_types.specs.declared.context.DecodeContext.{DecodeContext}
use Rattle.pgw_wire.specs.declared.framing.Framing.{Framing}
use Rattle.pgw_wire.specs.declared.framing.Framing.TheVariants.{Typed, Untyped, Code}
use Rattle.pgw_wire.specs.Reading.{◌>>=◌, IsReadRefusal}
use Rattle.pgw_wire.specs.Framing.{code_in, sign_extended, stated_length, length_frame, frame, framed, wire_front, as_one_of, Decodes}
use Rattle.pgw_wire.proofs.Laws.{bind_ok, chosen}
use Rattle.pgw_wire.proofs.Stable.{Ends, Stable, bind_err}
use Rattle.pgw_wire.specs.Empty.{empty_request_of}
use Rattle.pgw_startup.specs.declared.startup.Startup.{Startup}
use Rattle.pgw_startup.specs.Startup.{startup_of}
use Rattle.pgw_startup.specs.Password.{family_of}
use Rattle.pgw_control.specs.declared.cancel.CancelRequest.{CancelRequest}
use Rattle.pgw_control.specs.Openings.{ssl_request_of, gss_enc_request_of, cancel_request_of}
use Rattle.pgw_query.specs.Rows.{query_of}
use Rattle.pgw_ext.specs.Rows.{parse_of, bind_of, close_of, describe_of, execute_of}
use Rattle.pgw_copy.specs.Rows.{copy_data_of, copy_fail_of}
use Rattle.pgw_frontend.specs.declared.frontend.SslNegotiationMetaMessage.TheVariants as negotiation
use Rattle.pgw_frontend.specs.declared.frontend.PgWireFrontendMessage.{PgWireFrontendMessage as Message}
use Rattle.pgw_frontend.specs.declared.frontend.PgWireFrontendMessage.TheVariants as frontend
use Rattle.pgw_frontend.specs.Frontend.{negotiation_front, first_front, frontend_by, typed_front, frontend_front}
use Rattle.pgw_frontend.specs.FrontendSpells.{SpellsFrontend}
use Rattle.pgw_frontend.proofs.FrontendStable.{either, cut_same, opening_is, by_code_stable, asked_of, first_of, asked_or_first_stable, typed_stable as typed_front_stable}
use Rattle.pgw_machine.specs.Course.{More, Bad, Whole, IsReading}
use Rattle.pgw_login_server.specs.Front.{phase, asks_for_none, or_first_message, typed_within, client_front, server_front}

-- ---- what may stand first, by its code

-- what asks for encryption, or else a first message
abbrev by_code : ProtocolVersion → ℕ → List ℕ → Result (Option (Message × List ℕ)) PgWireError
by_code v code b = asked_of (phase true true v) code b (first_of (phase false true v) code b)

-- what asks for something is what was found
asked : {A : Type 0} (v : ProtocolVersion) (make : A → Message) (r : Result (Option (A × List ℕ)) PgWireError)
    → ((x : A) → asks_for_none (make x) ≡ false) → or_first_message v (as_one_of make r) ≡ as_one_of make r
asked v make (Err e) law = refl
asked v make (Ok None) law = refl
asked v make (Ok (Some x)) law = rw (law x.0) refl

opening_none : (bound : Option ℕ) (v : ProtocolVersion) (b : List ℕ) → ltb (length b) 8 ≡ true
    → client_front false bound v b ≡ Ok None
unfolding frontend_front negotiation_front
opening_none bound v b short = rw short refl

opening_by_code : (bound : Option ℕ) (v : ProtocolVersion) (b : List ℕ) → ltb (length b) 8 ≡ false
    → client_front false bound v b ≡ by_code v (code_in b) b
unfolding frontend_front negotiation_front first_front
opening_by_code bound v b long = elim (either (eqb (code_in b) 80877103)) [
  | inl s ↦ rw (long, s)
      (asked v (λ m. frontend.SslNegotiation (negotiation.PostgresSsl m))
      (wire_front Code 10000 (ssl_request_of (phase true true v)) b) (λ x. refl))
  | inr s ↦ elim (either (eqb (code_in b) 80877104)) [
    | inl g ↦ rw (long, s, g)
        (asked v (λ m. frontend.SslNegotiation (negotiation.PostgresGss m))
        (wire_front Code 10000 (gss_enc_request_of (phase true true v)) b) (λ x. refl))
    | inr g ↦ elim (either (eqb (code_in b) 80877102)) [
      | inl c ↦ rw (long, s, g, long, c)
          (ap (as_one_of frontend.CancelRequest)
          (opening_is 80877102 10000 (cancel_request_of (phase false true v)) b long c))
      | inr c ↦ rw (long, s, g, long, c) refl
    ]
  ]
]

opening_stable : (bound : Option ℕ) (v : ProtocolVersion) → Stable 8 (client_front false bound v)
opening_stable bound v =
    by_code_stable (client_front false bound v) (by_code v)
    (record { none = opening_none bound v; some = opening_by_code bound v })
    (asked_or_first_stable (phase true true v) (phase false true v))

-- ---- messages with a type byte

typed_at : ProtocolVersion → List ℕ → Result (Option (Message × List ℕ)) PgWireError
typed_at v b = frontend_front (phase false false v) b

typed_none : (v : ProtocolVersion) (b : List ℕ) → ltb (length b) 2 ≡ true → typed_at v b ≡ Ok None
unfolding typed_at frontend_front typed_front
typed_none v b short = rw short refl

typed_by : (v : ProtocolVersion) (b : List ℕ) → ltb (length b) 2 ≡ false
    → typed_at v b ≡ frontend_by (get_or b 0 0) (phase false false v) b
unfolding typed_at frontend_front typed_front
typed_by v b long = rw long refl

typed_stable : (v : ProtocolVersion) → Stable 5 (typed_at v)
unfolding typed_at frontend_front
typed_stable v = typed_front_stable (phase false false v)

-- ---- a bound

-- the length field is within the first five bytes
frame_same : (limit : ℕ) (a b : List ℕ) (e : PgWireError) → 5 ≤ length b → take 5 b ≡ take 5 a
    → length_frame 1 limit a ≡ Err e → length_frame 1 limit b ≡ Err e
unfolding length_frame
frame_same limit a b e long same is =
    elim (chosen (ltb (length a) (1 + 4)) _ _ _ is) [
      | inl h ↦ absurd cc
      | inr g ↦
          let stated : stated_length 1 b ≡ stated_length 1 a =
          ap (λ (f : List ℕ). sign_extended (from_be_bytes w32 f)) (cut_same 1 4 5 a b (omega arith) same) in
          let one : ltb (length b) (1 + 4) ≡ false = le-ltb _ _ (omega (arith, long)) in
          elim (chosen (ltb limit (stated_length 1 a)) _ _ _ g.1) [
            | inl h ↦ rw (one, stated, h.0) h.1
            | inr k ↦ elim (chosen (ltb (stated_length 1 a) 4) _ _ _ k.1) [
              | inl h ↦ rw (one, stated, k.0, h.0) h.1
              | inr m ↦ elim (chosen (ltb (length a) (1 + stated_length 1 a)) _ _ _ m.1) [
                | inl h ↦ absurd cc
                | inr n ↦ absurd cc
              ]
            ]
          ]
    ]

-- it is refused only where it stands whole
frame_long : (limit : ℕ) (a : List ℕ) (e : PgWireError) → length_frame 1 limit a ≡ Err e → 5 ≤ length a
unfolding length_frame
frame_long limit a e is = elim (chosen (ltb (length a) (1 + 4)) _ _ _ is) [
  | inl h ↦ absurd cc
  | inr g ↦ omega (arith, ltb-false _ _ g.0)
]

-- what a result is, kept with the equation
data Came {A : Type 0} (r : Result A PgWireError) : Type 0 where
  came : (x : A) → r ≡ Ok x → Came r
  went : (e : PgWireError) → r ≡ Err e → Came r

came_of : {A : Type 0} (r : Result A PgWireError) → Came r
came_of (Ok x) = came x refl
came_of (Err e) = went e refl

-- a frame that is not refused is not refused where the same header stands
frame_stays : (limit : ℕ) (a b : List ℕ) (x : Option (ℕ × ℕ)) → 5 ≤ length a → take 5 b ≡ take 5 a
    → length_frame 1 limit a ≡ Ok x → (y : Option (ℕ × ℕ)) × (length_frame 1 limit b ≡ Ok y)
frame_stays limit a b x long same is = elim (came_of (length_frame 1 limit b)) [
  | came y k ↦ (y, k)
  | went e k ↦ let other = frame_same limit b a e long (sym same) k in absurd cc
]

within_is : (bound : ℕ) (v : ProtocolVersion) (b : List ℕ) (x : Option (Message × List ℕ)) (y : Option (ℕ × ℕ))
    → typed_at v (take 5 b) ≡ Ok x → length_frame 1 bound b ≡ Ok y → typed_within (Some bound) v b ≡ typed_at v b
unfolding typed_at
within_is bound v b x y header frame =
    ap (λ (r : Result (Option (Message × List ℕ)) PgWireError). r >>=
    (λ header. length_frame 1 bound b >>= (λ frame. frontend_front (phase false false v) b))) header
    ∙ ap (λ (r : Result (Option (ℕ × ℕ)) PgWireError). r >>= (λ frame. frontend_front (phase false false v) b))
    frame

-- by a header that is refused, and by one that says too much
within_refused : (bound : ℕ) (v : ProtocolVersion) (b : List ℕ) (e : PgWireError) → typed_at v (take 5 b) ≡ Err e
    → typed_within (Some bound) v b ≡ Err e
unfolding typed_at
within_refused bound v b e header =
    ap (λ (r : Result (Option (Message × List ℕ)) PgWireError). r >>=
    (λ header. length_frame 1 bound b >>= (λ frame. frontend_front (phase false false v) b))) header

within_beyond : (bound : ℕ) (v : ProtocolVersion) (b : List ℕ) (x : Option (Message × List ℕ)) (e : PgWireError)
    → typed_at v (take 5 b) ≡ Ok x → length_frame 1 bound b ≡ Err e → typed_within (Some bound) v b ≡ Err e
unfolding typed_at
within_beyond bound v b x e header frame =
    ap (λ (r : Result (Option (Message × List ℕ)) PgWireError). r >>=
    (λ header. length_frame 1 bound b >>= (λ frame. frontend_front (phase false false v) b))) header
    ∙ ap (λ (r : Result (Option (ℕ × ℕ)) PgWireError). r >>= (λ frame. frontend_front (phase false false v) b))
    frame

-- a front of so few bytes is itself, and some bytes more
front_more : (a more : List ℕ) (rest : ℕ) → length a + rest ≡ 5 → take 5 (a ++ more) ≡ a ++ take rest more
front_more a more rest is = ap (λ (n : ℕ). take n (a ++ more)) (sym is) ∙ take-append-add a more rest

header_bad : (v : ProtocolVersion) (a more : List ℕ) (e : PgWireError) → typed_at v (take 5 a) ≡ Err e
    → typed_at v (take 5 (a ++ more)) ≡ Err e
header_bad v a more e is = elim (either (ltb (length a) 5)) [
  | inl short ↦
      let less : length a < 5 = ltb-true _ _ short in
      let here : typed_at v a ≡ Err e = ap (typed_at v) (sym (take_all 5 a (omega (arith, less)))) ∙ is in
      let rest : length a + (5 - length a) ≡ 5 = omega (arith, less) in
      ap (typed_at v) (front_more a more (5 - length a) rest)
      ∙ (typed_stable v).bad a (take (5 - length a) more) e here
  | inr long ↦ ap (typed_at v) (take-append-le 5 a more (ltb-false _ _ long)) ∙ is
]

-- what is refused of all bytes but not of their header has a header
past_header : (v : ProtocolVersion) (a : List ℕ) (x : Option (Message × List ℕ)) (e : PgWireError)
    → typed_at v (take 5 a) ≡ Ok x → typed_at v a ≡ Err e → 5 ≤ length a
past_header v a x e header is = elim (either (ltb (length a) 5)) [
  | inl short ↦
      let less : length a < 5 = ltb-true _ _ short in
      let here : typed_at v (take 5 a) ≡ Err e = ap (typed_at v) (take_all 5 a (omega (arith, less))) ∙ is in
      absurd cc
  | inr long ↦ ltb-false _ _ long
]

within_bad : (bound : ℕ) (v : ProtocolVersion) (a more : List ℕ) (e : PgWireError)
    → typed_within (Some bound) v a ≡ Err e → typed_within (Some bound) v (a ++ more) ≡ Err e
unfolding typed_at
within_bad bound v a more e is =
    elim (bind_err (typed_at v (take 5 a)) (λ header. length_frame 1 bound a >>= (λ frame. typed_at v a)) e is) [
      | inl header ↦ within_refused bound v (a ++ more) e (header_bad v a more e header)
      | inr (x, header, beyond) ↦ elim (bind_err (length_frame 1 bound a) (λ frame. typed_at v a) e beyond) [
        | inl frame ↦
            let long = frame_long bound a e frame in
            let same : take 5 (a ++ more) ≡ take 5 a = take-append-le 5 a more long in
            let whole : 5 ≤ length (a ++ more) = omega (arith, long, length-append a more) in
            within_beyond bound v (a ++ more) x e (ap (typed_at v) same
            ∙ header) (frame_same bound a (a ++ more) e whole same frame)
        | inr (y, frame, bad) ↦
            let long = past_header v a x e header bad in
            let same : take 5 (a ++ more) ≡ take 5 a = take-append-le 5 a more long in
            let stays = frame_stays bound a (a ++ more) y long same frame in
            within_is bound v (a ++ more) x stays.0 (ap (typed_at v) same ∙ header) stays.1
            ∙ (typed_stable v).bad a more e bad
      ]
    ]

within_whole : (bound : ℕ) (v : ProtocolVersion) (a : List ℕ) (m : Message) (rest : List ℕ)
    → typed_within (Some bound) v a ≡ Ok (Some (m, rest)) → Ends 5 (typed_within (Some bound) v) a m rest
unfolding typed_at
within_whole bound v a m rest is =
    let header =
    bind_ok (typed_at v (take 5 a)) (λ header. length_frame 1 bound a >>= (λ frame. typed_at v a))
    (Some (m, rest)) is in
    let frame = bind_ok (length_frame 1 bound a) (λ frame. typed_at v a) (Some (m, rest)) header.2 in
    let ends = (typed_stable v).whole a m rest frame.2 in
    let long : 5 ≤ length a = omega (arith, ends.some, ends.within) in
    record {
      len = ends.len;
      some = ends.some;
      within = ends.within;
      left = ends.left;
      again = λ b same le.
          let first : take 5 b ≡ take 5 a = cut_same 0 5 ends.len a b (omega (arith, ends.some)) same in
          let stays = frame_stays bound a b frame.0 long first frame.1 in
          within_is bound v b header.0 stays.0 (ap (typed_at v) first ∙ header.1) stays.1 ∙ ends.again b same le;
    }

-- ---- what the code finds

pub decoded_some : (o : Option Message) (old new : List ℕ) (r : Result (Option (Message × List ℕ)) PgWireError)
    → Decodes (Ok o) old new r → (x : Option (Message × List ℕ)) × (r ≡ Ok x)
decoded_some None old new r d = (None, d.1)
decoded_some (Some m) old new r d = (Some (m, new), d)

-- within the bound it is the message
found_within : (bound : ℕ) (v : ProtocolVersion) (b : List ℕ) (y : Option (ℕ × ℕ))
    → frame (Typed 0) bound b ≡ Ok y → typed_within (Some bound) v b ≡ frontend_front (phase false false v) b
unfolding typed_at frame
found_within bound v b y within = elim (came_of (typed_at v (take 5 b))) [
  | came x k ↦ within_is bound v b x y k within
  | went e k ↦ within_refused bound v b e k
      ∙ sym (ap (typed_at v) (sym (take-append-drop 5 b)) ∙ (typed_stable v).bad (take 5 b) (drop 5 b) e k)
]

pub decodes_within : (bound : ℕ) (v : ProtocolVersion) (b new : List ℕ) (y : Option (ℕ × ℕ))
    (r : Result (Option Message) PgWireError)
    → frame (Typed 0) bound b ≡ Ok y → Decodes r b new (frontend_front (phase false false v) b)
    → Decodes r b new (typed_within (Some bound) v b)
decodes_within bound v b new y r within d =
    subst (λ (f : Result (Option (Message × List ℕ)) PgWireError). Decodes r b new f)
    (sym (found_within bound v b y within)) d

pub refused_beyond : (bound : ℕ) (v : ProtocolVersion) (b : List ℕ) (x : Option (Message × List ℕ))
    (e : PgWireError)
    → frontend_front (phase false false v) (take 5 b) ≡ Ok x → IsReadRefusal e (frame (Typed 0) bound b)
    → IsReadRefusal e (typed_within (Some bound) v b)
unfolding typed_at frame
refused_beyond bound v b x e header beyond ne = within_beyond bound v b x e header (beyond ne)

pub refused_header : (bound : ℕ) (v : ProtocolVersion) (b : List ℕ) (e : PgWireError)
    → IsReadRefusal e (frontend_front (phase false false v) (take 5 b))
    → IsReadRefusal e (typed_within (Some bound) v b)
unfolding typed_at
refused_header bound v b e header ne = within_refused bound v b e (header ne)

within_stable : (bound : Option ℕ) (v : ProtocolVersion) → Stable 5 (typed_within bound v)
unfolding typed_at
within_stable None v = typed_stable v
within_stable (Some bound) v = record { whole = within_whole bound v; bad = within_bad bound v }

within_none : (bound : Option ℕ) (v : ProtocolVersion) → typed_within bound v [] ≡ Ok None
unfolding typed_at length_frame
within_none None v = typed_none v [] refl
within_none (Some bound) v = within_is bound v [] None None (typed_none v [] refl) refl ∙ typed_none v [] refl

-- ---- a reading

met_whole : {M : Type 0} (bytes : List ℕ) (r : Result (Option (M × List ℕ)) PgWireError) (m : M) (n : ℕ)
    → server_front bytes r ≡ Whole m n
    → (rest : List ℕ) × (r ≡ Ok (Some (m, rest))) × (length bytes - length rest ≡ n)
met_whole bytes (Err e) m n is = absurd cc
met_whole bytes (Ok None) m n is = absurd cc
met_whole {M} bytes (Ok (Some x)) m n is =
    let one : x.0 ≡ m = cc in
    let two : length bytes - length x.1 ≡ n = cc in
    (x.1, ap (λ (k : M). Ok (Some (k, x.1))) one, two)

met_bad : {M : Type 0} (bytes : List ℕ) (r : Result (Option (M × List ℕ)) PgWireError) (why : PgWireError)
    → server_front bytes r ≡ Bad why → r ≡ Err why
met_bad bytes (Err e) why is = cc
met_bad bytes (Ok None) why is = absurd cc
met_bad bytes (Ok (Some x)) why is = absurd cc

-- a message that takes so many bytes
whole_of : {M : Type 0} (bytes : List ℕ) (r : Result (Option (M × List ℕ)) PgWireError) (m : M) (n : ℕ)
    → n ≤ length bytes → r ≡ Ok (Some (m, drop n bytes)) → server_front bytes r ≡ Whole m n
whole_of {M} bytes r m n le is =
    let size : length bytes - length (drop n bytes) ≡ n = omega (arith, length-drop n bytes, le) in
    ap (server_front bytes) is ∙ ap (λ (k : ℕ). Whole m k) size

steady_of : {M : Type 0} (least : ℕ) (at : List ℕ → Result (Option (M × List ℕ)) PgWireError) → Stable least at
    → at [] ≡ Ok None → IsReading (λ bytes. server_front bytes (at bytes))
steady_of least at stable none = record {
  none = ap (server_front []) none;
  within = λ bytes m len e.
      let p = met_whole bytes (at bytes) m len e in
      omega (arith, p.2);
  whole = λ bytes more m len e.
      let p = met_whole bytes (at bytes) m len e in
      let ends = stable.whole bytes m p.0 p.1 in
      let size : ends.len ≡ len =
      omega (arith, p.2, ap length ends.left, length-drop ends.len bytes, ends.within) in
      let cut : length (take len bytes) ≡ len = omega (arith, length-take len bytes, size, ends.within) in
      let same : take ends.len (take len bytes ++ more) ≡ take ends.len bytes =
      ap (λ (k : ℕ). take k (take len bytes ++ more)) size ∙ take_at (take len bytes) more len cut
      ∙ ap (λ (k : ℕ). take k bytes) (sym size) in
      let long : len ≤ length (take len bytes ++ more) =
      omega (arith, cut, length-append (take len bytes) more) in
      whole_of (take len bytes ++ more) (at (take len bytes ++ more)) m len long
      (ends.again (take len bytes ++ more) same (omega (arith, size, long))
      ∙ ap (λ (k : ℕ). Ok (Some (m, drop k (take len bytes ++ more)))) size);
  bad = λ bytes more why e. ap (server_front (bytes ++ more))
      (stable.bad bytes more why (met_bad bytes (at bytes) why e));
}

pub steady : (started : Bool) (bound : Option ℕ) (v : ProtocolVersion)
    → IsReading (λ bytes. server_front bytes (client_front started bound v bytes))
steady false bound v =
    steady_of 8 (client_front false bound v) (opening_stable bound v) (opening_none bound v [] refl)
steady true bound v = steady_of 5 (client_front true bound v) (within_stable bound v) (within_none bound v)

-- what a decoder took
pub taken_of : {M : Type 0} (least : ℕ) (at : List ℕ → Result (Option (M × List ℕ)) PgWireError) → Stable least at
    → 1 ≤ least → (bytes : List ℕ) (m : M) (rest : List ℕ) → at bytes ≡ Ok (Some (m, rest))
    → (n : ℕ) × (server_front bytes (at bytes) ≡ Whole m n) × (rest ≡ drop n bytes) × (length rest < length bytes)
taken_of {M} least at stable some bytes m rest e =
    let ends = stable.whole bytes m rest e in (
      ends.len,
      whole_of bytes (at bytes) m ends.len ends.within (e
          ∙ ap (λ (l : List ℕ). Ok (Some (m, l))) ends.left),
      ends.left,
      omega
          (arith, ap length ends.left, length-drop ends.len bytes, ends.within, ends.some, some),
    )

pub taken : (started : Bool) (bound : Option ℕ) (v : ProtocolVersion) (bytes : List ℕ) (m : Message)
    (rest : List ℕ)
    → client_front started bound v bytes ≡ Ok (Some (m, rest))
    → (n : ℕ) × (server_front bytes (client_front started bound v bytes) ≡ Whole m n) × (rest ≡ drop n bytes)
    × (length rest < length bytes)
taken false bound v bytes m rest e =
    taken_of 8 (client_front false bound v) (opening_stable bound v) (omega arith) bytes m rest e
taken true bound v bytes m rest e =
    taken_of 5 (client_front true bound v) (within_stable bound v) (omega arith) bytes m rest e

-- no encryption is asked for, and the first message stands there
pub first_instead : (bound : Option ℕ) (v : ProtocolVersion) (old mid new : List ℕ)
    (r : Result (Option Message) PgWireError)
    → frontend_front (phase true true v) old ≡ Ok (Some (frontend.SslNegotiation negotiation.None, mid))
    → (g : List ℕ) × (old ≡ g ++ mid) × SpellsFrontend v (frontend.SslNegotiation negotiation.None) g
    → Decodes r mid new (frontend_front (phase false true v) mid)
    → Decodes r old new (client_front false bound v old)
unfolding SpellsFrontend
first_instead bound v old mid new r found spelled h =
    let same : old ≡ mid = spelled.1 ∙ ap (λ (g : List ℕ). g ++ mid) spelled.2 in
    let is : client_front false bound v old ≡ frontend_front (phase false true v) mid =
    ap (or_first_message v) found in
    subst (λ (f : Result (Option (Message × List ℕ)) PgWireError). Decodes r old new f) (sym is)
    (subst (λ (l : List ℕ). Decodes r l new (frontend_front (phase false true v) mid)) (sym same) h)

-- ---- how much waits

met_more : {M : Type 0} (bytes : List ℕ) (r : Result (Option (M × List ℕ)) PgWireError)
    → server_front bytes r ≡ More → r ≡ Ok None
met_more bytes (Err e) is = absurd cc
met_more bytes (Ok None) is = refl
met_more bytes (Ok (Some x)) is = absurd cc

as_none : {A B : Type 0} (make : A → B) (r : Result (Option (A × List ℕ)) PgWireError)
    → as_one_of make r ≡ Ok None → r ≡ Ok None
as_none make (Err e) is = absurd cc
as_none make (Ok None) is = refl
as_none make (Ok (Some x)) is = absurd cc

framed_none : {M : Type 0} (read : List ℕ → Result M PgWireError) (bytes : List ℕ) (o : Option (ℕ × ℕ))
    → framed read bytes o ≡ Ok None → o ≡ None
framed_none read bytes None is = refl
framed_none read bytes (Some f) is =
    let h = bind_ok (read (slice_range bytes f.0 f.1)) (λ m. Ok (Some (m, drop f.1 bytes))) None is in
    absurd cc

front_none : {M : Type 0} (framing : Framing) (limit : ℕ) (read : List ℕ → Result M PgWireError) (bytes : List ℕ)
    → wire_front framing limit read bytes ≡ Ok None → frame framing limit bytes ≡ Ok None
unfolding wire_front
front_none framing limit read bytes is =
    let h = bind_ok (frame framing limit bytes) (framed read bytes) None is in
    h.1 ∙ ap (λ (o : Option (ℕ × ℕ)). Ok o) (framed_none read bytes h.0 h.2)

-- a length field that stands whole, but not its body
frame_none : (at limit : ℕ) (a : List ℕ) → 4 ≤ limit → length_frame at limit a ≡ Ok None
    → (length a ≤ at + limit) × (ltb (length a) (at + 4) ≡ false → length a < at + stated_length at a)
unfolding length_frame
frame_none at limit a four is = elim (chosen (ltb (length a) (at + 4)) _ _ _ is) [
  | inl h ↦ (let short : length a < at + 4 = ltb-true _ _ h.0 in omega (arith, short, four), λ long. absurd cc)
  | inr g ↦ elim (chosen (ltb limit (stated_length at a)) _ _ _ g.1) [
    | inl h ↦ absurd cc
    | inr k ↦ elim (chosen (ltb (stated_length at a) 4) _ _ _ k.1) [
      | inl h ↦ absurd cc
      | inr m ↦ elim (chosen (ltb (length a) (at + stated_length at a)) _ _ _ m.1) [
        | inl h ↦
            let less : length a < at + stated_length at a = ltb-true _ _ h.0 in
            let most : stated_length at a ≤ limit = ltb-false _ _ k.0 in
            (omega (arith, less, most), λ long. less)
        | inr n ↦ absurd cc
      ]
    ]
  ]
]

code_never : {M : Type 0} {Q : Type 0} (limit : ℕ) (read : List ℕ → Result M PgWireError) (bytes : List ℕ)
    → ltb (length bytes) 8 ≡ false → wire_front Code limit read bytes ≡ Ok None → Q
unfolding frame
code_never limit read bytes long is =
    let none = front_none Code limit read bytes is in
    let some : frame Code limit bytes ≡ Ok (Some (4, 8)) = rw long refl in
    let both = sym some ∙ none in
    absurd cc

untyped_waits : {M : Type 0} (read : List ℕ → Result M PgWireError) (bytes : List ℕ)
    → wire_front Untyped 10000 read bytes ≡ Ok None → length bytes ≤ 10000
unfolding frame
untyped_waits read bytes is =
    let w = frame_none 0 10000 bytes (omega arith) (front_none Untyped 10000 read bytes is) in
    omega (arith, w.0)

-- up to the startup message
opening_waits : (bound : Option ℕ) (v : ProtocolVersion) (b : List ℕ) → client_front false bound v b ≡ Ok None
    → length b ≤ 10000
opening_waits bound v b is = elim (either (ltb (length b) 8)) [
  | inl short ↦ let less : length b < 8 = ltb-true _ _ short in omega (arith, less)
  | inr long ↦
      let by : by_code v (code_in b) b ≡ Ok None = sym (opening_by_code bound v b long) ∙ is in
      elim (chosen (eqb (code_in b) 80877103) _ _ _ by) [
        | inl s ↦ code_never 10000 (ssl_request_of (phase true true v)) b long
            (as_none (λ m. frontend.SslNegotiation (negotiation.PostgresSsl m))
            (wire_front Code 10000 (ssl_request_of (phase true true v)) b) s.1)
        | inr s ↦ elim (chosen (eqb (code_in b) 80877104) _ _ _ s.1) [
          | inl g ↦ code_never 10000 (gss_enc_request_of (phase true true v)) b long
              (as_none (λ m. frontend.SslNegotiation (negotiation.PostgresGss m))
              (wire_front Code 10000 (gss_enc_request_of (phase true true v)) b) g.1)
          | inr g ↦ elim (chosen (eqb (code_in b) 80877102) _ _ _ g.1) [
            | inl c ↦ untyped_waits (cancel_request_of (phase false true v)) b
                (as_none frontend.CancelRequest
                (wire_front Untyped 10000 (cancel_request_of (phase false true v)) b) c.1)
            | inr c ↦ untyped_waits (startup_of (phase false true v)) b
                (as_none frontend.Startup (wire_front Untyped 10000 (startup_of (phase false true v)) b) c.1)
          ]
        ]
      ]
]

-- a message with a type byte waits for what its length field says
abbrev WaitsForBody : List ℕ → Type 0
WaitsForBody b = ltb (length b) 5 ≡ false → length b < 1 + stated_length 1 b

one_waits : {A : Type 0} (make : A → Message) (byte limit : ℕ) (read : List ℕ → Result A PgWireError) (b : List ℕ)
    → 4 ≤ limit → as_one_of make (wire_front (Typed byte) limit read b) ≡ Ok None → WaitsForBody b
unfolding frame
one_waits make byte limit read b four is =
    (frame_none 1 limit b four
    (front_none (Typed byte) limit read b (as_none make (wire_front (Typed byte) limit read b) is))).1

or_waits : (c : Bool) (p q : Result (Option (Message × List ℕ)) PgWireError) (b : List ℕ)
    → (p ≡ Ok None → WaitsForBody b) → (q ≡ Ok None → WaitsForBody b) → cond c p q ≡ Ok None → WaitsForBody b
or_waits true p q b hp hq is = hp is
or_waits false p q b hp hq is = hq is

kinds_wait : (byte : ℕ) (ctx : DecodeContext) (b : List ℕ) → frontend_by byte ctx b ≡ Ok None → WaitsForBody b
kinds_wait byte ctx b =
    or_waits (eqb byte 112) _ _ b
    (one_waits frontend.PasswordMessageFamily 112 10000 (family_of ctx) b (omega arith))
    (or_waits (eqb byte 81) _ _ b (one_waits frontend.Query 81 1073741822 (query_of ctx) b (omega arith))
    (or_waits (eqb byte 80) _ _ b (one_waits frontend.Parse 80 1073741822 (parse_of ctx) b (omega arith))
    (or_waits (eqb byte 66) _ _ b (one_waits frontend.Bind 66 1073741822 (bind_of ctx) b (omega arith))
    (or_waits (eqb byte 67) _ _ b (one_waits frontend.Close 67 10000 (close_of ctx) b (omega arith))
    (or_waits (eqb byte 68) _ _ b (one_waits frontend.Describe 68 10000 (describe_of ctx) b (omega arith))
    (or_waits (eqb byte 69) _ _ b (one_waits frontend.Execute 69 10000 (execute_of ctx) b (omega arith))
    (or_waits (eqb byte 72) _ _ b (one_waits frontend.Flush 72 10000 (empty_request_of 72 ctx) b (omega arith))
    (or_waits (eqb byte 83) _ _ b (one_waits frontend.Sync 83 10000 (empty_request_of 83 ctx) b (omega arith))
    (or_waits (eqb byte 88) _ _ b (one_waits frontend.Terminate 88 10000 (empty_request_of 88 ctx) b (omega arith))
    (or_waits (eqb byte 100) _ _ b (one_waits frontend.CopyData 100 1073741822 (copy_data_of ctx) b (omega arith))
    (or_waits (eqb byte 99) _ _ b (one_waits frontend.CopyDone 99 10000 (empty_request_of 99 ctx) b (omega arith))
    (or_waits (eqb byte 102) _ _ b (one_waits frontend.CopyFail 102 10000 (copy_fail_of ctx) b (omega arith))
    (λ is. absurd cc)))))))))))))

typed_waits : (v : ProtocolVersion) (b : List ℕ) → typed_at v b ≡ Ok None → WaitsForBody b
unfolding typed_at
typed_waits v b is = elim (either (ltb (length b) 2)) [
  | inl short ↦ λ five. let less : length b < 2 =
      ltb-true _ _ short in let more : 5 ≤ length b = ltb-false _ _ five in absurd (omega (arith, less, more))
  | inr long ↦ kinds_wait (get_or b 0 0) (phase false false v) b (sym (typed_by v b long) ∙ is)
]

-- a length field that a bound does not refuse says no more than that
frame_most : (bound : ℕ) (b : List ℕ) (y : Option (ℕ × ℕ)) → ltb (length b) 5 ≡ false
    → length_frame 1 bound b ≡ Ok y → stated_length 1 b ≤ bound
unfolding length_frame
frame_most bound b y long is = elim (chosen (ltb (length b) (1 + 4)) _ _ _ is) [
  | inl h ↦ absurd cc
  | inr g ↦ elim (chosen (ltb bound (stated_length 1 b)) _ _ _ g.1) [
    | inl h ↦ absurd cc
    | inr k ↦ ltb-false _ _ k.0
  ]
]

within_waits : (bound : ℕ) (v : ProtocolVersion) (b : List ℕ) → typed_within (Some bound) v b ≡ Ok None
    → length b ≤ max 10000 bound
unfolding typed_at
within_waits bound v b is =
    let header =
    bind_ok (typed_at v (take 5 b)) (λ header. length_frame 1 bound b >>= (λ frame. typed_at v b)) None is in
    let frame = bind_ok (length_frame 1 bound b) (λ frame. typed_at v b) None header.2 in
    elim (either (ltb (length b) 5)) [
      | inl short ↦ let less : length b < 5 = ltb-true _ _ short in omega (arith, less)
      | inr long ↦
          let most = frame_most bound b frame.0 long frame.1 in
          let less = typed_waits v b frame.2 long in
          omega (arith, less, most)
    ]

pub front_waits : (started : Bool) (bound : ℕ) (v : ProtocolVersion) (b : List ℕ)
    → server_front b (client_front started (Some bound) v b) ≡ More → length b ≤ max 10000 bound
front_waits false bound v b is =
    let few =
    opening_waits (Some bound) v b (met_more b (client_front false (Some bound) v b) is) in omega (arith, few)
front_waits true bound v b is = within_waits bound v b (met_more b (client_front true (Some bound) v b) is)

-- ---- what is refused by its header

frame_beyond : (bound : ℕ) (b : List ℕ) → 5 ≤ length b → bound < stated_length 1 b
    → length_frame 1 bound b ≡ Err (MessageTooLarge bound (stated_length 1 b))
unfolding length_frame
frame_beyond bound b long more =
    let one : ltb (length b) (1 + 4) ≡ false = le-ltb _ _ (omega (arith, long)) in
    let two : ltb bound (stated_length 1 b) ≡ true = lt-ltb _ _ more in
    rw (one, two) refl

pub beyond_refused : (bound : ℕ) (v : ProtocolVersion) (b : List ℕ) (x : Option (Message × List ℕ)) → 5 ≤ length b
    → bound < stated_length 1 b → frontend_front (phase false false v) (take 5 b) ≡ Ok x
    → server_front b (client_front true (Some bound) v b) ≡ Bad (MessageTooLarge bound (stated_length 1 b))
unfolding typed_at
beyond_refused bound v b x long more header =
    ap (server_front b) (within_beyond bound v b x (MessageTooLarge bound (stated_length 1 b)) header
    (frame_beyond bound b long more))

pub header_refused : (bound : ℕ) (v : ProtocolVersion) (b : List ℕ) (e : PgWireError)
    → frontend_front (phase false false v) (take 5 b) ≡ Err e
    → server_front b (client_front true (Some bound) v b) ≡ Bad e
unfolding typed_at
header_refused bound v b e header = ap (server_front b) (within_refused bound v b e header)
