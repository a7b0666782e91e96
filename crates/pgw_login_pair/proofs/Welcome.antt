-- How the client takes what a server says behind its login.
use Rattle.std.proofs.Common.{◌≡◌, ◌⊎◌, inl, inr, ℕ, ◌<◌, ◌≤◌, ◌-◌, Bool, true, List, [], ◌∷◌, ◌++◌, length, take, map, fold, Result, Ok, Err, refl, sym, ap, subst, ◌∙◌, append_assoc, arith, length-append}
use Rattle.std.proofs.lemmas.List.{append-nil}
use Rattle.pgw_types.specs.declared.error.PgWireError.{PgWireError}
use Rattle.pgw_types.specs.declared.context.ProtocolVersion.{ProtocolVersion}
use Rattle.pgw_types.specs.declared.context.ProtocolVersion.TheVariants.{PROTOCOL3_0}
use Rattle.pgw_backend.specs.Backend.{backend_encoding}
use Rattle.pgw_backend.specs.Front.{AwaitsBackend, typed_phase}
use Rattle.pgw_backend.specs.Texts.{IsSound, Suits}
use Rattle.pgw_backend.specs.declared.backend.PgWireBackendMessage.{PgWireBackendMessage as Backend}
use Rattle.pgw_machine.specs.Course.{On, Ends, Course, Waits, Over}
use Rattle.pgw_machine.specs.Play.{course_behind}
use Rattle.pgw_machine.specs.Fronts.{IsReadAs}
use Rattle.pgw_session.specs.declared.stage.Stage.TheVariants.{Admitted}
use Rattle.pgw_session.specs.declared.standing.Standing.{Standing as Told}
use Rattle.pgw_session.specs.Events.{Event as Said, Got}
use Rattle.pgw_session.specs.Machine.{Complete, moves_by}
use Rattle.pgw_session.specs.Reading.{version_front as reading_of_server}
use Rattle.pgw_session.specs.Segments.{is_news}
use Rattle.pgw_session.specs.Standings.{first_standing, standing_by, standing_at, standing_of}
use Rattle.pgw_session.specs.Table.{news_or, by_welcome}
use Rattle.pgw_session.specs.Talk.{Talk, Ending, between, talk_book, heard_of}
use Rattle.pgw_config.specs.declared.config.Config.{Config}
use Rattle.pgw_login_server.specs.Server.{server_encodings}
use Rattle.pgw_login_server.proofs.ServerLaws.{known, none_after, one_more, no_more, told_from}
use Rattle.pgw_wire.proofs.Laws.{ok_is}
use Rattle.pgw_login.specs.Finish.{login_ready}
use Rattle.pgw_login.specs.Sending.{and_encoding}
use Rattle.pgw_wire.specs.Reading.{◌>>=◌}
use Rattle.pgw_login_pair.specs.declared.parties.PairInput.{PairInput}
use Rattle.pgw_login_pair.proofs.Readings.{reads_backend}
use Rattle.pgw_login_pair.proofs.ClientRungs.{talking, over_by, given, rules, LeadsClient, does, does_end, does_on}

-- ---- some encodings are the first and the others

pub first_put : (m : Backend) (ms : List Backend) (out : List ℕ) → server_encodings (m ∷ ms) ≡ Ok out
    → (g : List ℕ) × (rest : List ℕ) × (backend_encoding m ≡ Ok g) × (server_encodings ms ≡ Ok rest)
    × (out ≡ g ++ rest)
first_put m ms out is = elim (known (backend_encoding m)) [
  | inl k ↦
      let rest : fold and_encoding (Ok k.0) ms ≡ Ok out =
      sym (ap (λ (s : Result (List ℕ) PgWireError). fold and_encoding s ms) (one_more [] k.0 m k.1)) ∙ is in
      let t =
      told_from k.0 [] out ms (ap (λ (l : List ℕ). fold and_encoding (Ok l) ms) (append-nil k.0) ∙ rest) in
      (k.0, t.0, k.1, t.1, t.2)
  | inr k ↦
      let stuck : fold and_encoding (Err k.0) ms ≡ Ok out =
      sym (ap (λ (s : Result (List ℕ) PgWireError). fold and_encoding s ms) (no_more [] k.0 m k.1)) ∙ is in
      let none = none_after k.0 ms in
      absurd cc
]

-- and the other way
onward : (a : List ℕ) (ms : List Backend) (rest : List ℕ) → server_encodings ms ≡ Ok rest
    → fold and_encoding (Ok a) ms ≡ Ok (a ++ rest)
onward a [] rest h =
    ap (λ (l : List ℕ). Ok l) (sym (append-nil a) ∙ ap (λ (l : List ℕ). a ++ l) (ok_is [] rest h))
onward a (m ∷ ms) rest h =
    let p = first_put m ms rest h in
    ap (λ (s : Result (List ℕ) PgWireError). fold and_encoding s ms) (one_more a p.0 m p.2)
    ∙ onward (a ++ p.0) ms p.1 p.3
    ∙ ap (λ (l : List ℕ). Ok l) (append_assoc a p.0 p.1 ∙ ap (λ (l : List ℕ). a ++ l) (sym p.4))

fold_join : (r : Result (List ℕ) PgWireError) (xs ys : List Backend)
    → fold and_encoding r (xs ++ ys) ≡ fold and_encoding (fold and_encoding r xs) ys
fold_join r [] ys = refl
fold_join r (x ∷ xs) ys = fold_join (and_encoding r x) xs ys

pub puts_join : (xs ys : List Backend) (a b : List ℕ) → server_encodings xs ≡ Ok a → server_encodings ys ≡ Ok b
    → server_encodings (xs ++ ys) ≡ Ok (a ++ b)
puts_join xs ys a b x y =
    fold_join (Ok []) xs ys ∙ ap (λ (s : Result (List ℕ) PgWireError). fold and_encoding s ys) x ∙ onward a ys b y

pub puts_one : (m : Backend) (g : List ℕ) → backend_encoding m ≡ Ok g → server_encodings (m ∷ []) ≡ Ok g
puts_one m g is = one_more [] g m is

-- some messages and then others: their encodings are those of the first and of the others
pub parts_put : (xs ys : List Backend) (out : List ℕ) → server_encodings (xs ++ ys) ≡ Ok out
    → (a : List ℕ) × (b : List ℕ) × (server_encodings xs ≡ Ok a) × (server_encodings ys ≡ Ok b) × (out ≡ a ++ b)
parts_put [] ys out is = ([], out, refl, is, refl)
parts_put (x ∷ xs) ys out is =
    let p = first_put x (xs ++ ys) out is in
    let q = parts_put xs ys p.1 p.3 in (
      p.0 ++ q.0,
      q.1,
      ap (λ (s : Result (List ℕ) PgWireError). fold and_encoding s xs) (one_more [] p.0 x p.2)
          ∙ onward p.0 xs q.0 q.2,
      q.3,
      p.4 ∙ ap (λ (l : List ℕ). p.0 ++ l) q.4 ∙ sym (append_assoc p.0 q.0 q.1),
    )

-- ---- news behind the login

-- it is news, it is read, and no version is in it
pub record Greets (m : Backend) : Type 0 where
  pub news : is_news m ≡ true
  pub steady : (s : Told) → (standing_by s m).version ≡ s.version
  pub sound : IsSound m
  pub suits : Suits PROTOCOL3_0 m
  pub phase : AwaitsBackend (typed_phase PROTOCOL3_0) m

abbrev pub AreGreetings : List Backend → Type 0
AreGreetings [] = Unit {0}
AreGreetings (m ∷ ms) = Greets m × AreGreetings ms

last_at : (s : Told) (es : List Said) (e : Said)
    → fold standing_at s (es ++ e ∷ []) ≡ standing_at (fold standing_at s es) e
last_at s [] e = refl
last_at s (x ∷ es) e = last_at (standing_at s x) es e

abbrev pub IsAtFirst : Config → List Said → Type 0
IsAtFirst config es = (standing_of config es).version ≡ PROTOCOL3_0

pub first_on : (config : Config) (es : List Said) (m : Backend) → Greets m → IsAtFirst config es
    → IsAtFirst config (es ++ Got m ∷ [])
unfolding standing_of
first_on config es m greets is =
    ap (λ (s : Told). s.version) (last_at (first_standing config) es (Got m))
    ∙ greets.steady (standing_of config es) ∙ is

behind_none : {S R : Type 0} (c : Course S R) → course_behind [] c ≡ c
behind_none (Waits state sent pending) = refl
behind_none (Over ending sent) = refl

module _ (input : PairInput) where
  abbrev pub admitted : List Said → Talk
  admitted es = talking es Admitted

  news_step : (es : List Said) (m : Backend) → is_news m ≡ true
      → (rules input).step (admitted es) m ≡ On (admitted (es ++ Got m ∷ [])) []
  news_step es m is =
      ap (λ (b : Bool). moves_by (talk_book (given input)) (given input) (admitted es) m
      (news_or b Admitted (by_welcome m))) is

  heard_here : (es : List Said) → heard_of (admitted es) ≡ es
  heard_here es = append-nil es

  reads_here : (es : List Said) (m : Backend) (g : List ℕ) → IsAtFirst (given input).config es → IsSound m
      → Suits PROTOCOL3_0 m → AwaitsBackend (typed_phase PROTOCOL3_0) m → backend_encoding m ≡ Ok g
      → IsReadAs ((rules input).read (admitted es)) g m
  reads_here es m g first sound suits phase enc =
      subst (λ (v : ProtocolVersion). IsReadAs (reading_of_server v) g m)
      (sym (ap (λ (l : List Said). (standing_of (given input).config l).version) (heard_here es)
      ∙ first)) (reads_backend PROTOCOL3_0 m g sound suits phase enc)

  pub data Greeted (es : List Said) (ms : List Backend) (out : List ℕ) (count : ℕ) (rest : List ℕ)
      (c : Course Talk Ending) : Type 0 where
    waits_news : (front back : List Backend) → ms ≡ front ++ back → count < length out → (pending : List ℕ)
        → c ≡ Waits (admitted (es ++ map Got front)) [] pending → Greeted es ms out count rest c
    greeted : length out ≤ count
        → LeadsClient input (admitted (es ++ map Got ms)) (take (count - length out) rest) c
        → Greeted es ms out count rest c

  one_further : (es : List Said) (m : Backend) (ms : List Backend) (out g others : List ℕ) (count : ℕ)
      (rest : List ℕ) (c d : Course Talk Ending)
      → out ≡ g ++ others → length g ≤ count → c ≡ d
      → Greeted (es ++ Got m ∷ []) ms others (count - length g) rest d → Greeted es (m ∷ ms) out count rest c
  one_further es m ms out g others count rest c d cut long same (waits_news front back are short pending is) =
      waits_news (m ∷ front) back (ap (λ (l : List Backend). m ∷ l) are)
      (omega (arith, short, long, ap length cut, length-append g others)) pending (same
      ∙ is ∙ ap (λ (l : List Said). Waits (admitted l) [] pending)
      (append_assoc es (Got m ∷ []) (map Got front)))
  one_further es m ms out g others count rest c d cut long same (greeted enough leads) =
      let size = length-append g others in
      let left : count - length g - length others ≡ count - length out =
      omega (arith, ap length cut, size, enough, long) in
      greeted (omega (arith, enough, long, ap length cut, size))
      (subst (λ (x : Course Talk Ending). LeadsClient input (admitted (es ++ map Got (m ∷ ms)))
      (take (count - length out) rest) x) (sym same)
      (subst (λ (k : ℕ). LeadsClient input (admitted (es ++ map Got (m ∷ ms))) (take k rest) d) left
      (subst (λ (l : List Said). LeadsClient input (admitted l) (take (count - length g - length others) rest) d)
      (append_assoc es (Got m ∷ []) (map Got ms)) leads)))

  pub greets : (ms : List Backend) (es : List Said) (out : List ℕ) (count : ℕ) (rest bytes : List ℕ)
      (c : Course Talk Ending)
      → IsAtFirst (given input).config es → AreGreetings ms → server_encodings ms ≡ Ok out
      → bytes ≡ take count (out ++ rest) → LeadsClient input (admitted es) bytes c
      → Greeted es ms out count rest c
  greets [] es out count rest bytes c first all enc are leads =
      let none : [] ≡ out = ok_is [] out enc in
      let same : bytes ≡ take (count - length out) rest =
      are ∙ ap (λ (l : List ℕ). take count (l ++ rest)) (sym none)
      ∙ ap (λ k. take k rest) (omega (arith, ap length none)) in
      greeted (omega (arith, ap length none))
      (subst (λ (l : List Said). LeadsClient input (admitted l) (take (count - length out) rest) c)
      (sym (append-nil es)) (subst (λ (l : List ℕ). LeadsClient input (admitted es) l c) same leads))
  greets (m ∷ ms) es out count rest bytes c first all enc are leads =
      let p = first_put m ms out enc in
      let bytes_are : bytes ≡ take count (p.0 ++ (p.1 ++ rest)) =
      are ∙ ap (λ (l : List ℕ). take count (l ++ rest)) p.4 ∙ ap (take count) (append_assoc p.0 p.1 rest) in
      let next = admitted (es ++ Got m ∷ []) in
      let d =
      does input (admitted es) m p.0 count (p.1 ++ rest) bytes c (On next []) (news_step es m (all.0).news)
      (reads_here es m p.0 first (all.0).sound (all.0).suits (all.0).phase p.2) bytes_are leads in
      elim (does_on input (admitted es) p.0 count (p.1 ++ rest) (On next []) c next [] refl d) [
        | inl s ↦ waits_news [] (m ∷ ms) refl (omega (arith, s.0, ap length p.4, length-append p.0 p.1))
            (take count p.0) (s.1
            ∙ ap (λ (l : List Said). Waits (admitted l) [] (take count p.0)) (sym (append-nil es)))
        | inr l ↦
            let more =
            greets ms (es ++ Got m ∷ []) p.1 (count - length p.0) rest
            (take (count - length p.0) (p.1 ++ rest)) l.1 (first_on (given input).config es m all.0 first)
            all.1 p.3 refl l.2 in
            one_further es m ms out p.0 p.1 count rest c l.1 p.4 l.0 (l.3 ∙ behind_none l.1) more
      ]

  -- ---- ReadyForQuery

  ready_step : (es : List Said)
      → (rules input).step (admitted es) login_ready ≡ Ends
      (over_by (between ((es ++ Got login_ready ∷ []) ∷ [])) Complete) []
  ready_step es = refl

  pub data Ready (es : List Said) (g : List ℕ) (count : ℕ) (c : Course Talk Ending) : Type 0 where
    waits_ready : count < length g → c ≡ Waits (admitted es) [] (take count g) → Ready es g count c
    is_ready : length g ≤ count → c ≡ Over (over_by (between ((es ++ Got login_ready ∷ []) ∷ [])) Complete) []
        → Ready es g count c

  pub takes_ready : (es : List Said) (g : List ℕ) (count : ℕ) (rest bytes : List ℕ) (c : Course Talk Ending)
      → IsAtFirst (given input).config es → backend_encoding login_ready ≡ Ok g → bytes ≡ take count (g ++ rest)
      → LeadsClient input (admitted es) bytes c → Ready es g count c
  takes_ready es g count rest bytes c first enc are leads =
      let ending : Ending = over_by (between ((es ++ Got login_ready ∷ []) ∷ [])) Complete in
      let d =
      does input (admitted es) login_ready g count rest bytes c (Ends ending []) (ready_step es)
      (reads_here es login_ready g first tt tt (refl, refl) enc) are leads in
      elim (does_end input (admitted es) g count rest (Ends ending []) c ending [] refl d)
      [ inl s ↦ waits_ready s.0 s.1 | inr o ↦ is_ready o.0 o.1 ]
