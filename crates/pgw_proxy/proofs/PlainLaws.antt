-- Plain messages: what is seen of their bytes makes them messages, and the context stays.
use Rattle.std.specs.Prelude.{slice_index, slice_range}
use Rattle.pgw_wire.specs.Header.{typed_end}
use Rattle.std.specs.Int.{w8, w16, w32, byte_len, from_be_bytes, cast_signed, Width}
use Rattle.std.proofs.Common.{◌≡◌, ℕ, pos, suc, ◌+◌, ◌-◌, ◌<◌, ◌≤◌, Bool, true, false, cond, eqb, List, [], ◌∷◌, ◌++◌, length, get_or, take, drop, Some, Ok, refl, sym, ap, subst, ◌∙◌, arith, append_assoc, length-drop, take-add, length-take-le, take-append-drop, drop-cons}
use Rattle.std.proofs.Math.Seq.{take-length}
use Rattle.std.proofs.lemmas.Bool.{eqb-true}
use Rattle.std.proofs.lemmas.Int.{to_z_pos}
use Rattle.std.proofs.lemmas.List.{append-nil, get_or-take, get_or_default, length-take, length_push}
use Rattle.std.proofs.lemmas.List.Folds.{list_any_none}
use Rattle.memchr.specs.Find.{Nowhere, Passes, is_byte}
use Rattle.pgw_wire.specs.Reading.{lossy}
use Rattle.pgw_wire.specs.Formats.{SpellsNat, SpellsInt, SpellsMany}
use Rattle.pgw_types.specs.declared.context.ProtocolVersion.TheVariants.{PROTOCOL3_2}
use Rattle.pgw_query.specs.declared.data.FieldDescription.{FieldDescription}
use Rattle.pgw_query.specs.declared.response.TransactionStatus.{TransactionStatus}
use Rattle.pgw_query.specs.declared.response.TransactionStatus.TheVariants.{Idle, Transaction, Error}
use Rattle.pgw_query.specs.Rows.{SpellsField, status_byte}
use Rattle.pgw_backend.specs.declared.backend.PgWireBackendMessage.{PgWireBackendMessage as Backend}
use Rattle.pgw_backend.specs.declared.backend.PgWireBackendMessage.TheVariants as backend
use Rattle.pgw_backend.specs.Front.{SpellsIn}
use Rattle.pgw_backend.proofs.BackendLaws.{backend_again}
use Rattle.pgw_frontend.specs.declared.frontend.PgWireFrontendMessage.{PgWireFrontendMessage as Frontend}
use Rattle.pgw_frontend.specs.declared.frontend.PgWireFrontendMessage.TheVariants as frontend
use Rattle.pgw_types.specs.declared.context.DecodeContext.{DecodeContext}
use Rattle.pgw_frontend.specs.Frontend.{frontend_front}
use Rattle.pgw_frontend.specs.FrontendSpells.{AwaitsFrontend, SpellsFrontend}
use Rattle.pgw_frontend.proofs.FrontendLaws.{frontend_again}
use Rattle.pgw_proxy.specs.declared.context.Context.{Context}
use Rattle.pgw_proxy.specs.declared.recorded.Side.{Side}
use Rattle.pgw_proxy.specs.declared.recorded.Side.TheVariants.{Client, Server}
use Rattle.pgw_proxy.specs.declared.recorded.Recorded.TheVariants as recorded
use Rattle.pgw_proxy.specs.Context.{client_context, is_due, behind_client, behind_server, is_accepted}
use Rattle.pgw_proxy.specs.Fronts.{side_front, client_side_front, of_client, of_server, front_past_encryption}
use Rattle.pgw_proxy.specs.Plain.{ArePlainColumns, ColumnTo, IsPlain, IsPlainKind, IsSettled, IsZeroEnded}

-- ---- in a settled context

-- that no answer is due changes nothing
calm : (c : Context) → IsSettled c
    → record c {
      decode = record c.decode
          { awaiting_backend_ssl_response = false; awaiting_backend_gss_response = false };
    } ≡ c
calm c s =
    ap (λ (b : Bool). record c
    { decode = record c.decode { awaiting_backend_ssl_response = b; awaiting_backend_gss_response = false } })
    (sym s.ssl_answer)
    ∙ ap (λ (b : Bool). record c { decode = record c.decode { awaiting_backend_gss_response = b } })
    (sym s.gss_answer)

-- past the requests for encryption
typed_client : (ctx : DecodeContext) (b : List ℕ) → ctx.awaiting_frontend_ssl ≡ false
    → client_side_front ctx b ≡ frontend_front ctx b
unfolding client_side_front
typed_client ctx b is =
    ap (λ (t : Bool). cond t (front_past_encryption ctx (frontend_front ctx b)) (frontend_front ctx b)) is

plain_client : (c : Context) (m : Frontend) (g : List ℕ) → IsSettled c → AwaitsFrontend (client_context c) m
    → SpellsFrontend PROTOCOL3_2 m g → behind_client m c ≡ c → IsPlain Client c g
unfolding side_front
plain_client c m g s awaits spelled stays = record {
  message = recorded.Frontend m;
  found = λ more.
      let read : client_side_front (client_context c) (g ++ more) ≡ Ok (Some (m, more)) =
      typed_client (client_context c) (g ++ more) s.ssl
      ∙ frontend_again (client_context c) m g more awaits spelled in
      let free : is_due c ≡ false = rw (s.ssl_answer, s.gss_answer) refl in
      ap (of_client c) read ∙ rw (free, stays) refl;
}

plain_server : (c : Context) (m : Backend) (g : List ℕ) → SpellsIn c.decode m g → is_accepted m ≡ false
    → behind_server m c ≡ c → IsPlain Server c g
unfolding side_front
plain_server c m g spelled free stays = record {
  message = recorded.Backend m;
  found = λ more. ap (of_server c) (backend_again c.decode m g more spelled) ∙ rw (free, stays) refl;
}

-- ---- a client's messages

pub query_plain : (body : List ℕ) → length body ≤ 1073741818 → IsZeroEnded body → (ready : Bool)
    → IsPlainKind Client ready 81 body
unfolding SpellsFrontend behind_client
query_plain body short t ready = λ c s is head spelled.
    plain_client c (frontend.Query (record { query = lossy t.raw })) (81 ∷ (head ++ body)) s (s.ssl, s.startup)
    (head, body, refl, spelled, omega (arith, short), (t.raw, t.whole, t.none, refl)) (calm c s)

pub sent_plain : (body : List ℕ) → length body ≤ 1073741818 → (ready : Bool) → IsPlainKind Client ready 100 body
unfolding SpellsFrontend behind_client
sent_plain body short ready = λ c s is head spelled.
    plain_client c (frontend.CopyData (record { payload = body })) (100 ∷ (head ++ body)) s (s.ssl, s.startup)
    (head, body, refl, spelled, omega (arith, short), refl) (calm c s)

sync_plain : (ready : Bool) → IsPlainKind Client ready 83 []
unfolding SpellsFrontend behind_client
sync_plain ready =
    λ c s is head spelled. plain_client c (frontend.Sync (record {})) (83 ∷ (head ++ [])) s (s.ssl, s.startup)
    (head, [], refl, spelled, omega arith, refl) (calm c s)

-- ---- a server's messages

pub row_plain : (body : List ℕ) → 2 ≤ length body → length body + 4 ≤ 2147483647 → (ready : Bool)
    → IsPlainKind Server ready 68 body
unfolding SpellsIn behind_server
row_plain body two short ready = λ c s is head spelled.
    plain_server c (backend.DataRow (record {
      field_count = cast_signed w16 (from_be_bytes w16 (take 2 body));
      payload = drop 2 body;
    })) (68 ∷ (head ++ body)) (
      (s.ssl_answer, s.gss_answer),
      (
        head,
        body,
        refl,
        spelled,
        short,
        (take 2 body, drop 2 body, sym (take-append-drop 2 body), (length-take-le 2 body two, refl), refl),
      ),
    )
    refl refl

pub data_plain : (body : List ℕ) → length body ≤ 1073741818 → (ready : Bool) → IsPlainKind Server ready 100 body
unfolding SpellsIn behind_server
data_plain body short ready = λ c s is head spelled.
    plain_server c (backend.CopyData (record { payload = body })) (100 ∷ (head ++ body))
    ((s.ssl_answer, s.gss_answer), (head, body, refl, spelled, omega (arith, short), refl)) refl refl

pub complete_plain : (body : List ℕ) → length body ≤ 29996 → IsZeroEnded body → (ready : Bool)
    → IsPlainKind Server ready 67 body
unfolding SpellsIn behind_server
complete_plain body short t ready = λ c s is head spelled.
    plain_server c (backend.CommandComplete (record { tag = lossy t.raw })) (67 ∷ (head ++ body)) (
      (s.ssl_answer, s.gss_answer),
      (head, body, refl, spelled, omega (arith, short), (t.raw, t.whole, t.none, refl)),
    ) refl refl

ready_plain : (status : TransactionStatus) → IsPlainKind Server true 90 (status_byte status ∷ [])
unfolding SpellsIn behind_server
ready_plain status = λ c s is head spelled.
    plain_server c (backend.ReadyForQuery (record { status = status })) (90 ∷ (head ++ (status_byte status ∷ []))) (
      (s.ssl_answer, s.gss_answer),
      (head, status_byte status ∷ [], refl, spelled, omega arith, (refl, read status)),
    ) refl
    (ap (λ (b : Bool). record c { ready = b }) (sym is))
  where
    read : (x : TransactionStatus) → from_be_bytes w8 (status_byte x ∷ []) ≡ status_byte x
    read Idle = refl
    read Transaction = refl
    read Error = refl

pub columns_plain : (body : List ℕ) → length body + 4 ≤ 2147483647 → ArePlainColumns body → (ready : Bool)
    → IsPlainKind Server ready 84 body
unfolding SpellsIn behind_server
columns_plain body short columns ready = λ c s is head spelled.
    plain_server c (backend.RowDescription columns.0) (84 ∷ (head ++ body))
    ((s.ssl_answer, s.gss_answer), (head, body, refl, spelled, short, columns.1)) refl refl

-- a body without bytes
nothing : (body : List ℕ) → length body ≡ 0 → [] ≡ body
nothing [] is = refl
nothing (b ∷ body) is = absurd (omega (arith, is))

pub sync_is : (body : List ℕ) → length body ≡ 0 → (ready : Bool) → IsPlainKind Client ready 83 body
sync_is body none ready =
    subst (λ (b : List ℕ). IsPlainKind Client ready 83 b) (nothing body none) (sync_plain ready)

-- ---- texts

not_true : (b : Bool) → ¬ (b ≡ true) → b ≡ false
not_true true not_so = absurd (not_so refl)
not_true false not_so = refl

-- up to its first zero byte
pub text_to : (bytes : List ℕ) (i : ℕ) → i < length bytes → Passes (is_byte 0) bytes i
    → Nowhere (Passes (is_byte 0) bytes) 0 i → IsZeroEnded (take (i + 1) bytes)
text_to bytes i within here before = record {
  raw = take i bytes;
  whole =
      take-add i 1 bytes ∙ ap (λ (l : List ℕ). take i bytes ++ take 1 l) (drop-cons bytes i 0 within)
      ∙ ap (λ (b : ℕ). take i bytes ++ b ∷ []) (eqb-true _ _ here);
  none = list_any_none (λ b. eqb b 0) (take i bytes) (λ k d lt.
      let below : k < i = omega (arith, length-take i bytes) in
      let there : k < length bytes = omega (arith, within) in
      rw (get_or-take i bytes k d below)
      (subst (λ (x : ℕ). eqb x 0 ≡ false) (get_or_default bytes k 0 d there)
      (not_true (eqb (get_or bytes k 0) 0) (before k (omega arith) below))));
}

-- all of the bytes
pub text_is : (bytes : List ℕ) (i : ℕ) → i < length bytes → Passes (is_byte 0) bytes i
    → Nowhere (Passes (is_byte 0) bytes) 0 i → i + 1 ≡ length bytes → IsZeroEnded bytes
text_is bytes i within here before end =
    subst IsZeroEnded (ap (λ (n : ℕ). take n bytes) end ∙ take-length bytes) (text_to bytes i within here before)

-- ---- columns

-- a number at the front
int_front : (w : Width) (n : ℕ) (bytes : List ℕ) → byte_len w ≡ n → n ≤ length bytes
    → SpellsInt w (cast_signed w (from_be_bytes w (take n bytes))) (take n bytes)
int_front w n bytes is within = (length-take-le n bytes within ∙ sym is, refl)

nat_front : (w : Width) (n : ℕ) (bytes : List ℕ) → byte_len w ≡ n → n ≤ length bytes
    → SpellsNat w (from_be_bytes w (take n bytes)) (take n bytes)
nat_front w n bytes is within = (length-take-le n bytes within ∙ sym is, refl)

-- a name and six numbers
column : (name rest : List ℕ) → IsZeroEnded name → length rest ≡ 18
    → (f : FieldDescription) × SpellsField f (name ++ rest)
column name rest t long =
    let a = drop 4 rest in
    let b = drop 2 a in
    let c = drop 4 b in
    let d = drop 2 c in
    let e = drop 4 d in
    let la : length a ≡ 14 = omega (arith, long, length-drop 4 rest) in
    let lb : length b ≡ 12 = omega (arith, la, length-drop 2 a) in
    let lc : length c ≡ 8 = omega (arith, lb, length-drop 4 b) in
    let ld : length d ≡ 6 = omega (arith, lc, length-drop 2 c) in
    let le : length e ≡ 2 = omega (arith, ld, length-drop 4 d) in
    let f : FieldDescription = record {
      name = lossy t.raw;
      table_id = cast_signed w32 (from_be_bytes w32 (take 4 rest));
      column_id = cast_signed w16 (from_be_bytes w16 (take 2 a));
      type_id = from_be_bytes w32 (take 4 b);
      type_size = cast_signed w16 (from_be_bytes w16 (take 2 c));
      type_modifier = cast_signed w32 (from_be_bytes w32 (take 4 d));
      format_code = cast_signed w16 (from_be_bytes w16 e);
    } in (
      f,
      (
        name,
        rest,
        refl,
        (t.raw, t.whole, t.none, refl),
        (
          take 4 rest,
          a,
          sym (take-append-drop 4 rest),
          int_front w32 4 rest refl (omega (arith, long)),
          (
            take 2 a,
            b,
            sym (take-append-drop 2 a),
            int_front w16 2 a refl (omega (arith, la)),
            (
              take 4 b,
              c,
              sym (take-append-drop 4 b),
              nat_front w32 4 b refl (omega (arith, lb)),
              (
                take 2 c,
                d,
                sym (take-append-drop 2 c),
                int_front w16 2 c refl (omega (arith, lc)),
                (
                  take 4 d,
                  e,
                  sym (take-append-drop 4 d),
                  int_front w32 4 d refl (omega (arith, ld)),
                  (le, refl),
                ),
              ),
            ),
          ),
        ),
      ),
    )

pub column_to : (bytes : List ℕ) (i : ℕ) → i < length bytes → Passes (is_byte 0) bytes i
    → Nowhere (Passes (is_byte 0) bytes) 0 i → i + 19 ≤ length bytes → ColumnTo bytes (Some (i + 19))
column_to bytes i within here before long =
    let rest = take 18 (drop (i + 1) bytes) in
    let eighteen : length rest ≡ 18 =
    length-take-le 18 (drop (i + 1) bytes) (omega (arith, long, length-drop (i + 1) bytes)) in
    let f = column (take (i + 1) bytes) rest (text_to bytes i within here before) eighteen in
    let all : take (i + 1) bytes ++ rest ≡ take (i + 19) bytes =
    sym (take-add (i + 1) 18 bytes) ∙ ap (λ (n : ℕ). take n bytes) (omega arith) in
    (omega arith, long, f.0, subst (λ (l : List ℕ). SpellsField f.0 l) all f.1)

-- so many columns stand between the count and the rest
pub record Columns (body rest : List ℕ) (n : ℕ) : Type 0 where
  pub done : List FieldDescription
  pub part : List ℕ
  pub whole : drop 2 body ≡ part ++ rest
  pub spelled : SpellsMany SpellsField done part
  pub counted : length done ≡ n

pub columns_none : (body rest : List ℕ) → rest ≡ drop 2 body → Columns body rest 0
columns_none body rest is = record { done = []; part = []; whole = sym is; spelled = refl; counted = refl }

-- one more behind some
many_on : (fs : List FieldDescription) (f : FieldDescription) (g h : List ℕ) → SpellsMany SpellsField fs g
    → SpellsField f h → SpellsMany SpellsField (fs ++ f ∷ []) (g ++ h)
many_on [] f g h s t = (h, [], ap (λ (l : List ℕ). l ++ h) s ∙ sym (append-nil h), t, refl)
many_on (x ∷ fs) f g h s t =
    (s.0, s.1 ++ h, ap (λ (l : List ℕ). l ++ h) s.2 ∙ append_assoc s.0 s.1 h, s.3, many_on fs f s.1 h s.4 t)

pub columns_on : (body rest left : List ℕ) (n end : ℕ) → Columns body rest n → ColumnTo rest (Some end)
    → left ≡ drop end rest → Columns body left (n + 1)
columns_on body rest left n end cs to is = record {
  done = cs.done ++ to.2 ∷ [];
  part = cs.part ++ take end rest;
  whole =
      cs.whole ∙ ap (λ (l : List ℕ). cs.part ++ l) (sym (take-append-drop end rest)
      ∙ ap (λ (l : List ℕ). take end rest ++ l) (sym is))
      ∙ sym (append_assoc cs.part (take end rest) left);
  spelled = many_on cs.done to.2 cs.part (take end rest) cs.spelled to.3;
  counted = length_push cs.done to.2 ∙ ap (λ (k : ℕ). k + 1) cs.counted;
}

pub columns_are : (body rest : List ℕ) (n : ℕ) → 2 ≤ length body → Columns body rest n → length rest ≡ 0
    → cast_signed w16 (from_be_bytes w16 (take 2 body)) ≡ pos n → ArePlainColumns body
columns_are body rest n two cs none count =
    let all : drop 2 body ≡ cs.part =
    cs.whole ∙ ap (λ (l : List ℕ). cs.part ++ l) (sym (nothing rest none)) ∙ append-nil cs.part in (
      record { fields = cs.done },
      (
        take 2 body,
        cs.part,
        sym (take-append-drop 2 body)
            ∙ ap (λ (l : List ℕ). take 2 body ++ l) all,
        (
          length-take-le 2 body two,
          count
              ∙ ap pos (sym cs.counted),
        ),
        cs.spelled,
      ),
    )

small_pos : (n : ℕ) → n ≤ 32767 → cast_signed w16 n ≡ pos n
small_pos n small = to_z_pos w16 n (omega (arith, small))

-- a count of sixteen bits that is no negative one
pub count_is : (body : List ℕ) (n : ℕ) → 2 ≤ length body
    → n ≡ from_be_bytes w16 (get_or body 0 0 ∷ get_or body 1 0 ∷ []) → n ≤ 32767
    → cast_signed w16 (from_be_bytes w16 (take 2 body)) ≡ pos n
count_is [] n two is small = absurd (omega (arith, two))
count_is (x ∷ []) n two is small = absurd (omega (arith, two))
count_is (x ∷ y ∷ r) n two is small = ap (cast_signed w16) (sym is) ∙ small_pos n small

-- ---- one at the front

one_byte : (body : List ℕ) → length body ≡ 1 → body ≡ slice_index body 0 ∷ []
one_byte [] is = absurd (omega (arith, is))
one_byte (b ∷ []) is = refl
one_byte (b ∷ x ∷ body) is = absurd (omega (arith, is))

pub ready_is : (body : List ℕ) → length body ≡ 1
    → (status : TransactionStatus) × (slice_index body 0 ≡ status_byte status) → IsPlainKind Server true 90 body
ready_is body one s =
    subst (λ (b : List ℕ). IsPlainKind Server true 90 b) (sym (one_byte body one
    ∙ ap (λ (x : ℕ). x ∷ []) s.1)) (ready_plain s.0)

-- by its type byte, its length, and its body
pub plain_up : (side : Side) (ready : Bool) (bytes body : List ℕ) (end kind : ℕ) → kind ≡ slice_index bytes 0
    → body ≡ slice_range bytes 5 end → 5 ≤ end → end ≤ length bytes → end ≡ typed_end bytes
    → IsPlainKind side ready kind body
    → (c : Context) → IsSettled c → c.ready ≡ ready → IsPlain side c (take end bytes)
plain_up side ready [] body end kind is cut five whole ends plain c s at = absurd (omega (arith, five, whole))
plain_up side ready (b ∷ bs) body end kind is cut five whole ends plain c s at =
    let n = end - 5 in
    let head = take 4 bs in
    let parts : end ≡ suc (4 + n) = omega (arith, five) in
    let all : take end (b ∷ bs) ≡ kind ∷ (head ++ body) =
    ap (λ (k : ℕ). take k (b ∷ bs)) parts ∙ ap (λ (x : ℕ). x ∷ take (4 + n) bs) (sym is)
    ∙ ap (λ (l : List ℕ). kind ∷ l) (take-add 4 n bs ∙ ap (λ (l : List ℕ). head ++ l) (sym cut)) in
    let four : length head ≡ 4 = length-take-le 4 bs (omega (arith, five, whole)) in
    let long : length body ≡ n =
    ap length cut ∙ length-take-le n (drop 4 bs) (omega (arith, five, whole, length-drop 4 bs)) in
    subst (λ (g : List ℕ). IsPlain side c g) (sym all) (plain c s at head (four, omega (arith, ends, long, five)))
