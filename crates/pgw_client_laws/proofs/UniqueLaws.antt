-- Bytes begin with one answer only; so where it is whole, a call gives it.
use Rattle.std.proofs.Common.{◌≡◌, ℕ, Bool, true, false, List, [], ◌∷◌, ◌++◌, length, map, fold, drop, Result, Ok, Err, inl, inr, refl, sym, ◌∙◌, ap, subst, append_assoc}
use Rattle.std.proofs.lemmas.List.{drop_at}
use Rattle.pgw_backend.specs.Front.{BackendFront, front, More, Bad, Whole}
use Rattle.pgw_backend.proofs.FrontLaws.{spells_front}
use Rattle.pgw_backend.specs.declared.backend.PgWireBackendMessage.{PgWireBackendMessage as Backend}
use Rattle.pgw_backend.specs.declared.backend.PgWireBackendMessage.TheVariants as backend
use Rattle.pgw_backend.specs.declared.client_error.PgWireClientError.{PgWireClientError as ClientError}
use Rattle.pgw_backend.specs.declared.client_error.PgWireClientError.TheVariants as client
use Rattle.pgw_frontend.specs.declared.frontend.PgWireFrontendMessage.{PgWireFrontendMessage as Frontend}
use Rattle.pgw_query.specs.declared.response.ReadyForQuery.{ReadyForQuery}
use Rattle.pgw_session.specs.declared.standing.Standing.{Standing}
use Rattle.pgw_session.specs.declared.types.Request.{Request}
use Rattle.pgw_session.specs.declared.types.Answer.{Answer}
use Rattle.pgw_session.specs.declared.types.Answer.TheVariants as answer
use Rattle.pgw_session.specs.declared.stage.Kind.{Kind}
use Rattle.pgw_session.specs.declared.stage.Role.{Role}
use Rattle.pgw_session.specs.declared.stage.Role.TheVariants.{Taken, Closing, Completing, Failing, Misplaced}
use Rattle.pgw_session.specs.Events.{Event, Sent, Got}
use Rattle.pgw_session.specs.Standings.{standing_at, standing_by}
use Rattle.pgw_session.specs.Requests.{kind_of, sends_of, passes_over, role, sync, behind_error}
use Rattle.pgw_session.specs.Segments.{AreTaken, IsAnswer, IsEnd, IsQuiet, IsPassedOver, IsRequestSegment, is_other, sends}
use Rattle.pgw_session.specs.Answers.{answer_of}
use Rattle.pgw_session.specs.Transcript.{SpellsGot}
use Rattle.pgw_handlers.specs.Client.{Client}
use Rattle.pgw_client_calls.specs.Line.{Reasons}
use Rattle.pgw_client_laws.specs.Turns.{standing_of_client, AreExchanged, Does, IsAnswered, IsPassedSegment, IsPassing, IsCutOff}
use Rattle.pgw_client_laws.specs.Calls.{AnswersCall, StopsCall, CallMisplaces, BreaksClient, Comes, CallReports}
use Rattle.pgw_client_laws.proofs.Exchanges.{fold_sends}
use Rattle.pgw_client_laws.proofs.PassedLaws.{Behind, behind_first}

-- ---- two lists of events at the front of the same bytes

-- the bytes begin with these events' messages, and more
abbrev pub Begins : Standing → List Event → List ℕ → Type 0
Begins s es bytes = (spelled : List ℕ) × (more : List ℕ) × (bytes ≡ spelled ++ more) × SpellsGot s es spelled

-- and these bytes are left
abbrev pub Leaves : Standing → List Event → List ℕ → List ℕ → Type 0
Leaves s es bytes rest = (spelled : List ℕ) × (bytes ≡ spelled ++ rest) × SpellsGot s es spelled

-- the first of them
record First (s : Standing) (x : Backend) (es : List Event) (bytes rest : List ℕ) : Type 0 where
  pub len : ℕ
  pub whole : front s.version bytes ≡ Whole x len
  pub leaves : Leaves (standing_by s x) es (drop len bytes) rest

first : (s : Standing) (x : Backend) (es : List Event) (bytes rest : List ℕ) → Leaves s (Got x ∷ es) bytes rest
    → First s x es bytes rest
first s x es bytes rest b =
    let got = b.2 in
    let all : bytes ≡ got.0 ++ (got.1 ++ rest) =
    b.1 ∙ ap (λ (l : List ℕ). l ++ rest) got.2 ∙ append_assoc got.0 got.1 rest in
    record {
      len = length got.0;
      whole = ap (front s.version) all ∙ spells_front s.version x got.0 (got.1 ++ rest) got.3;
      leaves = (got.1, ap (drop (length got.0)) all ∙ drop_at got.0 (got.1 ++ rest) (length got.0) refl, got.4);
    }

begins_first : (s : Standing) (x : Backend) (es : List Event) (bytes : List ℕ) (b : Begins s (Got x ∷ es) bytes)
    → First s x es bytes b.1
begins_first s x es bytes b = first s x es bytes b.1 (b.0, b.2, b.3)

whole_is : {x m : Backend} {len n : ℕ} → Whole x len ≡ Whole m n → (x ≡ m) × (len ≡ n)
whole_is {x} {m} {len} {n} e = (cc, cc)

-- it is the same of both
record Both (s : Standing) (x m : Backend) (es xs : List Event) (rest : List ℕ) : Type 0 where
  pub same : x ≡ m
  pub left : List ℕ
  pub begins : Begins (standing_by s m) es left
  pub leaves : Leaves (standing_by s m) xs left rest

step : (s : Standing) (x m : Backend) (es xs : List Event) (bytes rest : List ℕ) → Begins s (Got x ∷ es) bytes
    → Leaves s (Got m ∷ xs) bytes rest → Both s x m es xs rest
step s x m es xs bytes rest b l =
    let f = begins_first s x es bytes b in
    let n = first s m xs bytes rest l in
    let is = whole_is (sym f.whole ∙ n.whole) in
    let begins : Begins (standing_by s x) es (drop f.len bytes) =
    ((f.leaves).0, b.1, (f.leaves).1, (f.leaves).2) in
    record {
      same = is.0;
      left = drop n.len bytes;
      begins =
          subst (λ (y : Backend). Begins (standing_by s y) es (drop n.len bytes)) is.0
          (subst (λ (k : ℕ). Begins (standing_by s x) es (drop k bytes)) is.1 begins);
      leaves = n.leaves;
    }

-- no message is whole
abbrev Ended : Standing → List ℕ → Type 0
Ended s bytes = (m : Backend) (len : ℕ) → front s.version bytes ≡ Whole m len → ⊥

none_left : (s : Standing) (bytes rest : List ℕ) → Leaves s [] bytes rest → bytes ≡ rest
none_left s bytes rest l = l.1 ∙ ap (λ (x : List ℕ). x ++ rest) l.2

not_ended : (s : Standing) (x : Backend) (es : List Event) (bytes rest : List ℕ) → Begins s (Got x ∷ es) bytes
    → Leaves s [] bytes rest → Ended s rest → ⊥
not_ended s x es bytes rest b l e =
    let f =
    begins_first s x es bytes b in e x f.len (ap (front s.version) (sym (none_left s bytes rest l)) ∙ f.whole)

-- what is sent spells nothing
unsent : (s : Standing) (fs : List Frontend) (es : List Event) (bytes : List ℕ)
    → SpellsGot s (map Sent fs ++ es) bytes → SpellsGot s es bytes
unsent s [] es bytes got = got
unsent s (f ∷ fs) es bytes got = unsent s fs es bytes got

begins_unsent : (s : Standing) (fs : List Frontend) (es xs : List Event) (bytes : List ℕ) → xs ≡ map Sent fs ++ es
    → Begins s xs bytes → Begins s es bytes
begins_unsent s fs es xs bytes is b =
    (b.0, b.1, b.2, unsent s fs es b.0 (subst (λ (l : List Event). SpellsGot s l b.0) is b.3))

leaves_unsent : (s : Standing) (fs : List Frontend) (es xs : List Event) (bytes rest : List ℕ)
    → xs ≡ map Sent fs ++ es → Leaves s xs bytes rest → Leaves s es bytes rest
leaves_unsent s fs es xs bytes rest is l =
    (l.0, l.1, unsent s fs es l.0 (subst (λ (x : List Event). SpellsGot s x l.0) is l.2))

ended_unsent : (s : Standing) (fs : List Frontend) (es xs : List Event) (rest : List ℕ) → xs ≡ map Sent fs ++ es
    → Ended (fold standing_at s xs) rest → Ended (fold standing_at s es) rest
ended_unsent s fs es xs rest is e =
    subst (λ (r : Standing). Ended r rest) (ap (fold standing_at s) is ∙ fold_sends s fs es) e

-- ---- up to ReadyForQuery

abbrev up_to : List Backend → ReadyForQuery → List Event
up_to ms ready = map Got ms ++ Got (backend.ReadyForQuery ready) ∷ []

not_quiet : (ready : ReadyForQuery) (m : Backend) → backend.ReadyForQuery ready ≡ m → is_other m ≡ true → ⊥
not_quiet ready m same is = let other : is_other m ≡ false = ap is_other (sym same) in cc

same_passed : (s : Standing) (ms xs : List Backend) (r q : ReadyForQuery) (bytes rest : List ℕ) → IsQuiet ms
    → IsQuiet xs → Begins s (up_to ms r) bytes → Leaves s (up_to xs q) bytes rest → up_to ms r ≡ up_to xs q
same_passed s [] [] r q bytes rest mq xq b l =
    ap (λ (m : Backend). Got m ∷ [])
    (step s (backend.ReadyForQuery r) (backend.ReadyForQuery q) [] [] bytes rest b l).same
same_passed s [] (x ∷ xs) r q bytes rest mq xq b l =
    absurd (not_quiet r x (step s (backend.ReadyForQuery r) x [] (up_to xs q) bytes rest b l).same xq.0)
same_passed s (m ∷ ms) [] r q bytes rest mq xq b l =
    absurd (not_quiet q m (sym (step s m (backend.ReadyForQuery q) (up_to ms r) [] bytes rest b l).same) mq.0)
same_passed s (m ∷ ms) (x ∷ xs) r q bytes rest mq xq b l =
    let t = step s m x (up_to ms r) (up_to xs q) bytes rest b l in
    ap (λ (y : Backend). Got y ∷ up_to ms r) t.same
    ∙ ap (λ (es : List Event). Got x ∷ es)
    (same_passed (standing_by s x) ms xs r q t.left rest mq.1 xq.1 t.begins t.leaves)

not_cut : (s : Standing) (ms xs : List Backend) (r : ReadyForQuery) (bytes rest : List ℕ) → IsQuiet ms
    → IsQuiet xs → Begins s (up_to ms r) bytes → Leaves s (map Got xs) bytes rest
    → Ended (fold standing_at s (map Got xs)) rest → ⊥
not_cut s [] [] r bytes rest mq xq b l e = not_ended s (backend.ReadyForQuery r) [] bytes rest b l e
not_cut s (m ∷ ms) [] r bytes rest mq xq b l e = not_ended s m (up_to ms r) bytes rest b l e
not_cut s [] (x ∷ xs) r bytes rest mq xq b l e =
    not_quiet r x (step s (backend.ReadyForQuery r) x [] (map Got xs) bytes rest b l).same xq.0
not_cut s (m ∷ ms) (x ∷ xs) r bytes rest mq xq b l e =
    let t = step s m x (up_to ms r) (map Got xs) bytes rest b l in
    not_cut (standing_by s x) ms xs r t.left rest mq.1 xq.1 t.begins t.leaves e

same_over : (s : Standing) (es xs : List Event) (bytes rest : List ℕ) → IsPassedOver es → IsPassedOver xs
    → Begins s es bytes → Leaves s xs bytes rest → es ≡ xs
same_over s es xs bytes rest p q b l =
    p.are ∙ same_passed s p.ms q.ms p.ready q.ready bytes rest p.all q.all
    (subst (λ (e : List Event). Begins s e bytes) p.are b)
    (subst (λ (e : List Event). Leaves s e bytes rest) q.are l)
    ∙ sym q.are

over_not_cut : (s : Standing) (es : List Event) (xs : List Backend) (bytes rest : List ℕ) → IsPassedOver es
    → IsQuiet xs → Begins s es bytes → Leaves s (map Got xs) bytes rest
    → Ended (fold standing_at s (map Got xs)) rest → ⊥
over_not_cut s es xs bytes rest p quiet b l e =
    not_cut s p.ms xs p.ready bytes rest p.all quiet (subst (λ (x : List Event). Begins s x bytes) p.are b) l e

pub more_not : (m : Backend) (len : ℕ) → More ≡ Whole m len → ⊥
more_not m len is = cc

-- ---- answers

record AnswerFirst (k : Kind) (rows : Bool) (es : List Event) : Type 0 where
  pub message : Backend
  pub rest : List Event
  pub are : es ≡ Got message ∷ rest
  pub behind : Behind k (role k rows message) rest

answer_first : (k : Kind) (rows : Bool) (es : List Event) → IsAnswer k rows es → AnswerFirst k rows es
answer_first k rows es r = go r.ms r.are
  where
    at : (m : Backend) (rest : List Event) → es ≡ Got m ∷ rest → AnswerFirst k rows es
    at m rest are =
        record {
          message = m;
          rest = rest;
          are = are;
          behind = behind_first k rows m rest
              (subst (IsAnswer k rows) are r);
        }

    go : (ms : List Backend) → es ≡ map Got ms ++ Got r.last ∷ r.rest → AnswerFirst k rows es
    go [] are = at r.last r.rest are
    go (m ∷ ms) are = at m (map Got ms ++ Got r.last ∷ r.rest) are

-- a message at the front of the same bytes is the answer's first
record Met (k : Kind) (rows : Bool) (s : Standing) (m : Backend) (es xs : List Event) (rest : List ℕ) : Type 0
  where
    pub more : List Event
    pub are : es ≡ Got m ∷ more
    pub behind : Behind k (role k rows m) more
    pub left : List ℕ
    pub begins : Begins (standing_by s m) more left
    pub leaves : Leaves (standing_by s m) xs left rest

meet : (k : Kind) (rows : Bool) (s : Standing) (m : Backend) (es xs : List Event) (bytes rest : List ℕ)
    → IsAnswer k rows es → Begins s es bytes → Leaves s (Got m ∷ xs) bytes rest → Met k rows s m es xs rest
meet k rows s m es xs bytes rest a b l =
    let f = answer_first k rows es a in
    let t = step s f.message m f.rest xs bytes rest (subst (λ (e : List Event). Begins s e bytes) f.are b) l in
    record {
      more = f.rest;
      are = f.are ∙ ap (λ (y : Backend). Got y ∷ f.rest) t.same;
      behind = subst (λ (y : Backend). Behind k (role k rows y) f.rest) t.same f.behind;
      left = t.left;
      begins = t.begins;
      leaves = t.leaves;
    }

same_end : (k : Kind) (r : Role) (xs ys : List Event) (s : Standing) (bytes rest : List ℕ) → Behind k r xs
    → IsEnd k r ys → Begins s xs bytes → Leaves s ys bytes rest → xs ≡ ys
same_end k (Taken next) xs ys s bytes rest x y b l = absurd y
same_end k Closing xs ys s bytes rest x y b l = x ∙ sym y
same_end k Completing xs ys s bytes rest x y b l =
    x.1 ∙ ap (λ (e : List Event). Sent sync ∷ e)
    (same_over s x.0 y.0 bytes rest x.2 y.2 (begins_unsent s (sync ∷ []) x.0 xs bytes x.1 b)
    (leaves_unsent s (sync ∷ []) y.0 ys bytes rest y.1 l)) ∙ sym y.1
same_end k Failing xs ys s bytes rest x y b l =
    let fs = sends (behind_error k) in
    x.1 ∙ ap (λ (e : List Event). map Sent fs ++ e)
    (same_over s x.0 y.0 bytes rest x.2 y.2 (begins_unsent s fs x.0 xs bytes x.1 b)
    (leaves_unsent s fs y.0 ys bytes rest y.1 l)) ∙ sym y.1
same_end k Misplaced xs ys s bytes rest x y b l = absurd y

same_answer : (k : Kind) (ms : List Backend) (rows behind : Bool) (last : Backend) (tail es : List Event)
    (s : Standing) (bytes rest : List ℕ)
    → AreTaken k rows ms behind → IsEnd k (role k behind last) tail → IsAnswer k rows es → Begins s es bytes →
    Leaves s (map Got ms ++ Got last ∷ tail) bytes rest → es ≡ map Got ms ++ Got last ∷ tail
same_answer k [] rows behind last tail es s bytes rest taken ends a b l =
    let o = meet k rows s last es tail bytes rest a b l in
    let end : IsEnd k (role k rows last) tail =
    subst (λ (x : Bool). IsEnd k (role k x last) tail) (sym taken) ends in
    o.are ∙ ap (λ (e : List Event). Got last ∷ e)
    (same_end k (role k rows last) o.more tail (standing_by s last) o.left rest o.behind end o.begins
    o.leaves)
same_answer k (m ∷ ms) rows behind last tail es s bytes rest taken ends a b l =
    let o = meet k rows s m es (map Got ms ++ Got last ∷ tail) bytes rest a b l in
    let goes : IsAnswer k taken.0 o.more = subst (λ (r : Role). Behind k r o.more) taken.1 o.behind in
    o.are ∙ ap (λ (e : List Event). Got m ∷ e)
    (same_answer k ms taken.0 behind last tail o.more (standing_by s m) o.left rest taken.2 ends goes o.begins
    o.leaves)

-- no front of another stands there with nothing whole behind it
not_passing : (k : Kind) (r : Role) (xs ys : List Event) (s : Standing) (bytes rest : List ℕ) → Behind k r xs
    → IsPassing k r ys → Begins s xs bytes → Leaves s ys bytes rest → Ended (fold standing_at s ys) rest → ⊥
not_passing k Completing xs ys s bytes rest x y b l e =
    over_not_cut s x.0 y.0 bytes rest x.2 y.2 (begins_unsent s (sync ∷ []) x.0 xs bytes x.1 b)
    (leaves_unsent s (sync ∷ []) (map Got y.0) ys bytes rest y.1 l)
    (ended_unsent s (sync ∷ []) (map Got y.0) ys rest y.1 e)
not_passing k Failing xs ys s bytes rest x y b l e =
    let fs = sends (behind_error k) in
    over_not_cut s x.0 y.0 bytes rest x.2 y.2 (begins_unsent s fs x.0 xs bytes x.1 b)
    (leaves_unsent s fs (map Got y.0) ys bytes rest y.1 l) (ended_unsent s fs (map Got y.0) ys rest y.1 e)
not_passing k Misplaced xs ys s bytes rest x y b l e = x
not_passing k r xs ys s bytes rest x y b l e = absurd y

not_cut_off : (k : Kind) (rows : Bool) (x : ClientError) (tail es : List Event) (s : Standing)
    (bytes rest : List ℕ)
    → IsCutOff k rows x tail → IsAnswer k rows es → Begins s es bytes → Leaves s tail bytes rest
    → Ended (fold standing_at s tail) rest → ⊥
not_cut_off k rows x tail es s bytes rest (inl none) a b l e =
    let f = answer_first k rows es a in
    not_ended s f.message f.rest bytes rest (subst (λ (y : List Event). Begins s y bytes) f.are b)
    (subst (λ (y : List Event). Leaves s y bytes rest) none.0 l)
    (subst (λ (y : List Event). Ended (fold standing_at s y) rest) none.0 e)
not_cut_off k rows x tail es s bytes rest (inr c) a b l e =
    let o = meet k rows s c.0 es c.1 bytes rest a b (subst (λ (y : List Event). Leaves s y bytes rest) c.2 l) in
    not_passing k (role k rows c.0) o.more c.1 (standing_by s c.0) o.left rest o.behind c.3 o.begins o.leaves
    (subst (λ (y : List Event). Ended (fold standing_at s y) rest) c.2 e)

no_front : (k : Kind) (ms : List Backend) (rows behind : Bool) (x : ClientError) (tail es : List Event)
    (s : Standing) (bytes rest : List ℕ)
    → AreTaken k rows ms behind → IsCutOff k behind x tail → IsAnswer k rows es → Begins s es bytes →
    Leaves s (map Got ms ++ tail) bytes rest → Ended (fold standing_at s (map Got ms ++ tail)) rest → ⊥
no_front k [] rows behind x tail es s bytes rest taken ends a b l e =
    not_cut_off k rows x tail es s bytes rest (subst (λ (y : Bool). IsCutOff k y x tail) (sym taken) ends) a b l e
no_front k (m ∷ ms) rows behind x tail es s bytes rest taken ends a b l e =
    let o = meet k rows s m es (map Got ms ++ tail) bytes rest a b l in
    no_front k ms taken.0 behind x tail o.more (standing_by s m) o.left rest taken.2 ends
    (subst (λ (r : Role). Behind k r o.more) taken.1 o.behind) o.begins o.leaves e

-- no message without a place is next behind such a front
no_open : (k : Kind) (ms : List Backend) (rows behind : Bool) (m : Backend) (len : ℕ) (es : List Event)
    (s : Standing) (bytes left : List ℕ)
    → AreTaken k rows ms behind → role k behind m ≡ Misplaced → IsAnswer k rows es → Begins s es bytes →
    Leaves s (map Got ms) bytes left → front (fold standing_at s (map Got ms)).version left ≡ Whole m len → ⊥
no_open k [] rows behind m len es s bytes left taken is a b l whole =
    let f = answer_first k rows es a in
    let n = begins_first s f.message f.rest bytes (subst (λ (y : List Event). Begins s y bytes) f.are b) in
    let same = whole_is (sym n.whole ∙ ap (front s.version) (none_left s bytes left l) ∙ whole) in
    subst (λ (r : Role). Behind k r f.rest) (ap (role k rows) same.0 ∙ ap (λ (x : Bool). role k x m) taken
    ∙ is) f.behind
no_open k (x ∷ ms) rows behind m len es s bytes left taken is a b l whole =
    let o = meet k rows s x es (map Got ms) bytes left a b l in
    no_open k ms taken.0 behind m len o.more (standing_by s x) o.left left taken.2 is
    (subst (λ (r : Role). Behind k r o.more) taken.1 o.behind) o.begins o.leaves whole

-- nor does one stand at its place
no_misplaced : (k : Kind) (ms : List Backend) (rows behind : Bool) (m : Backend) (tail es : List Event)
    (s : Standing) (bytes rest : List ℕ)
    → AreTaken k rows ms behind → role k behind m ≡ Misplaced → IsAnswer k rows es → Begins s es bytes →
    Leaves s (map Got ms ++ Got m ∷ tail) bytes rest → ⊥
no_misplaced k [] rows behind m tail es s bytes rest taken is a b l =
    let o = meet k rows s m es tail bytes rest a b l in
    subst (λ (r : Role). Behind k r o.more) (ap (λ (x : Bool). role k x m) taken ∙ is) o.behind
no_misplaced k (x ∷ ms) rows behind m tail es s bytes rest taken is a b l =
    let o = meet k rows s x es (map Got ms ++ Got m ∷ tail) bytes rest a b l in
    no_misplaced k ms taken.0 behind m tail o.more (standing_by s x) o.left rest taken.2 is
    (subst (λ (r : Role). Behind k r o.more) taken.1 o.behind) o.begins o.leaves

-- ---- a call

module _ (P : Reasons) (q : Request) (c : Client) (bytes sent : List ℕ) (info : Client) (rest : List ℕ)
    (es : List Event) (spelled more : List ℕ) (segment : IsRequestSegment q es)
    (got : SpellsGot (standing_of_client c) es spelled) (are : bytes ≡ spelled ++ more) where
  abbrev from : Standing
  from = standing_of_client c

  begins : Begins from segment.0 bytes
  begins = begins_unsent from (sends_of q) segment.0 es bytes segment.1 (spelled, more, are, got)

  unique : (xs : List Event) → IsRequestSegment q xs → AreExchanged c.config from bytes sent xs info rest
      → es ≡ xs
  unique xs s x =
      let a = s.2 in
      let l : Leaves from (map Got a.ms ++ Got a.last ∷ a.rest) bytes rest =
      subst (λ (y : List Event). Leaves from y bytes rest) a.are
      (leaves_unsent from (sends_of q) s.0 xs bytes rest s.1 (x.spelled, x.begins, x.got)) in
      segment.1
      ∙ ap (λ (y : List Event). map Sent (sends_of q) ++ y)
      (same_answer (kind_of q) a.ms false a.behind a.last a.rest segment.0 from bytes rest a.taken a.ends
      segment.2 begins l ∙ sym a.are) ∙ sym s.1

  pub answered : (a : Answer) → Does (IsAnswered q a) c bytes sent info rest → a ≡ answer_of q es
  answered a x = sym (ap (answer_of q) (unique x.0 (x.1).0 x.2) ∙ (x.1).1)

  pub stops : (e : ClientError) (next : BackendFront) → ((m : Backend) (len : ℕ) → next ≡ Whole m len → ⊥)
      → StopsCall q c bytes sent e info rest next → ⊥
  stops e next ends x =
      let xs = (x.0).0 in
      let o = (x.0).1 in
      let y = (x.0).2 in
      let a = o.2 in
      let ended : Ended (fold standing_at from xs) rest =
      λ m len whole. ends m len (sym x.1 ∙ ap (λ (k : Client). front k.protocol_version rest) y.knows
      ∙ whole) in
      let l = leaves_unsent from (sends_of q) o.0 xs bytes rest o.1 (y.spelled, y.begins, y.got) in
      let last = ended_unsent from (sends_of q) o.0 xs rest o.1 ended in
      no_front (kind_of q) a.ms false a.behind e a.rest segment.0 from bytes rest a.taken a.ends segment.2 begins
      (subst (λ (z : List Event). Leaves from z bytes rest) a.are l)
      (subst (λ (z : List Event). Ended (fold standing_at from z) rest) a.are last)

  no_more : (e : ClientError) → StopsCall q c bytes sent e info rest More → ⊥
  no_more e x = stops e More more_not x

  pub opens : (m : Backend) → CallMisplaces false P q c bytes sent m info rest → ⊥
  opens m x =
      let left = x.0 in
      let o = (x.1).1 in
      let y = (x.1).2 in
      let a = o.2 in
      let l = leaves_unsent from (sends_of q) o.0 (x.1).0 bytes left o.1 (y.spelled, y.begins, y.got) in
      let at : (fold standing_at from (x.1).0).version ≡ (fold standing_at from (map Got a.ms)).version =
      ap (λ (z : List Event). (fold standing_at from z).version) o.1
      ∙ ap (λ (r : Standing). r.version) (fold_sends from (sends_of q) o.0)
      ∙ ap (λ (z : List Event). (fold standing_at from z).version) a.are in
      no_open (kind_of q) a.ms false a.behind m (x.2).0 segment.0 from bytes left a.taken a.misplaced segment.2
      begins (subst (λ (z : List Event). Leaves from z bytes left) a.are l)
      (ap (λ v. front v left) (sym at ∙ sym (ap (λ (k : Client). k.protocol_version) y.knows)) ∙ (x.2).1)

  misplaces : (m : Backend) (b : Bool) → CallMisplaces b P q c bytes sent m info rest → ⊥
  misplaces m true x = no_more (client.UnexpectedMessage m) x.1
  misplaces m false x = opens m x

  -- one that was passed over is not the segment
  pub passed : (m : Backend) → Does (IsPassedSegment q m) c bytes sent info rest → ⊥
  passed m x =
      let o = x.1 in
      let y = x.2 in
      let a = o.2 in
      let l = leaves_unsent from (sends_of q) o.0 x.0 bytes rest o.1 (y.spelled, y.begins, y.got) in
      no_misplaced (kind_of q) a.ms false a.behind m a.rest segment.0 from bytes rest a.taken a.misplaced
      segment.2 begins (subst (λ (z : List Event). Leaves from z bytes rest) a.are l)

module _ {A : Type 0} (give : A → Answer) (P : Reasons) (q : Request) (c : Client) (bytes sent : List ℕ)
    (info : Client) (rest : List ℕ) (es : List Event) (spelled more : List ℕ) (segment : IsRequestSegment q es)
    (got : SpellsGot (standing_of_client c) es spelled) (are : bytes ≡ spelled ++ more) where
  ends_not : (e : ClientError) → StopsCall q c bytes sent e info rest More → ⊥
  ends_not e x = no_more P q c bytes sent info rest es spelled more segment got are e x

  answers : (a : Answer) → Does (IsAnswered q a) c bytes sent info rest → a ≡ answer_of q es
  answers a x = answered P q c bytes sent info rest es spelled more segment got are a x

  reports_broken : (result : Result A ClientError) → BreaksClient P q c bytes sent info rest result
      → CallReports give P q (answer_of q es) c bytes sent info rest result
  reports_broken (Err client.OutOfMemory) x = tt
  reports_broken (Err (client.PgWireError why)) x =
      absurd (stops P q c bytes sent info rest es spelled more segment got are x.0 (Bad why) (λ m len is. cc) x.1)
  reports_broken (Err client.ReadLimit) x = absurd (ends_not x.1 x.2)
  reports_broken (Err client.IoError) (inl x) = absurd (ends_not x.1 x.2)
  reports_broken (Err client.IoError) (inr x) = x
  reports_broken (Err client.UnexpectedEOF) x = absurd (ends_not client.UnexpectedEOF x.1)
  reports_broken (Err (client.RemoteError e)) x = absurd (ends_not (client.RemoteError e) x.1)
  reports_broken (Err (client.UnexpectedMessage m)) x =
      absurd (misplaces P q c bytes sent info rest es spelled more segment got are m (passes_over (kind_of q)) x)
  reports_broken result x = absurd x

  reports_usable : (result : Result A ClientError) → AnswersCall give q c bytes sent info rest result
      → CallReports give P q (answer_of q es) c bytes sent info rest result
  reports_usable (Ok x) y = answers (give x) y
  reports_usable (Err (client.RemoteError e)) y = answers (answer.Remote e) y
  reports_usable (Err (client.UnexpectedMessage m)) y =
      absurd (passed P q c bytes sent info rest es spelled more segment got are m y)
  reports_usable (Err (client.PgWireError why)) y = y.0
  reports_usable (Err e) y = absurd y

  pub reports : (result : Result A ClientError) (broken : Bool)
      → Comes give P q c bytes sent info rest result broken
      → CallReports give P q (answer_of q es) c bytes sent info rest result
  reports result false y = reports_usable result y
  reports result true y = reports_broken result y
