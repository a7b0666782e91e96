-- What begins no segment.
use Rattle.std.proofs.Common.{◌≡◌, Bool, false, List, [], ◌∷◌, ◌++◌, map, sym, ◌∙◌, ap, subst}
use Rattle.pgw_backend.specs.declared.backend.PgWireBackendMessage.{PgWireBackendMessage as Backend}
use Rattle.pgw_frontend.specs.declared.frontend.PgWireFrontendMessage.{PgWireFrontendMessage as Frontend}
use Rattle.pgw_session.specs.declared.types.Request.{Request}
use Rattle.pgw_session.specs.declared.stage.Kind.{Kind}
use Rattle.pgw_session.specs.declared.stage.Role.{Role}
use Rattle.pgw_session.specs.declared.stage.Role.TheVariants.{Taken, Closing, Completing, Failing, Misplaced}
use Rattle.pgw_session.specs.Events.{Event, Sent, Got}
use Rattle.pgw_session.specs.Requests.{kind_of, sends_of, role}
use Rattle.pgw_session.specs.Segments.{AreTaken, IsAnswer, IsEnd, IsRequestSegment}

-- what stands behind the first message of an answer: the answer goes on behind one that is taken, and no other has no place
abbrev pub Behind : Kind → Role → List Event → Type 0
Behind k (Taken next) es = IsAnswer k next es
Behind k r es = IsEnd k r es

pub behind_first : (k : Kind) (rows : Bool) (m : Backend) (es : List Event) → IsAnswer k rows (Got m ∷ es)
    → Behind k (role k rows m) es
behind_first k rows m es r = go r.ms r.are r.taken
  where
    ends : (x : Role) → IsEnd k x es → Behind k x es
    ends (Taken next) e = absurd e
    ends Closing e = e
    ends Completing e = e
    ends Failing e = e
    ends Misplaced e = e

    go : (ms : List Backend) → Got m ∷ es ≡ map Got ms ++ Got r.last ∷ r.rest → AreTaken k rows ms r.behind
        → Behind k (role k rows m) es
    go [] are taken =
        let same : r.last ≡ m = cc in
        let rest : r.rest ≡ es = cc in
        ends (role k rows m) (subst (λ (b : Bool). IsEnd k (role k b m) es) (sym taken)
        (subst (λ (x : Backend). IsEnd k (role k r.behind x) es) same
        (subst (IsEnd k (role k r.behind r.last)) rest r.ends)))
    go (x ∷ ms) are taken =
        let same : x ≡ m = cc in
        let rest : es ≡ map Got ms ++ Got r.last ∷ r.rest = cc in
        subst (λ (o : Role). Behind k o es) (sym taken.1 ∙ ap (role k rows) same)
        (record {
          ms = ms;
          behind = r.behind;
          last = r.last;
          rest = r.rest;
          are = rest;
          taken = taken.2;
          ends =
              r.ends;
        })

no_answer : (k : Kind) (rows behind : Bool) (ms : List Backend) (m : Backend) (more : List Event)
    → AreTaken k rows ms behind → role k behind m ≡ Misplaced → IsAnswer k rows (map Got ms ++ Got m ∷ more) → ⊥
no_answer k rows behind [] m more taken is a =
    subst (λ (o : Role). Behind k o more) (ap (λ (b : Bool). role k b m) taken
    ∙ is) (behind_first k rows m more a)
no_answer k rows behind (x ∷ ms) m more taken is a =
    no_answer k taken.0 behind ms m more taken.2 is
    (subst (λ (o : Role). Behind k o (map Got ms ++ Got m ∷ more)) taken.1
    (behind_first k rows x (map Got ms ++ Got m ∷ more) a))

pub same_rest : (fs : List Frontend) (xs ys : List Event) → map Sent fs ++ xs ≡ map Sent fs ++ ys → xs ≡ ys
same_rest [] xs ys is = is
same_rest (f ∷ fs) xs ys is = same_rest fs xs ys (cc)

pub no_segment : (q : Request) (ms : List Backend) (behind : Bool) (m : Backend) (more : List Event)
    → AreTaken (kind_of q) false ms behind → role (kind_of q) behind m ≡ Misplaced →
    IsRequestSegment q (map Sent (sends_of q) ++ (map Got ms ++ Got m ∷ more)) → ⊥
no_segment q ms behind m more taken is s =
    no_answer (kind_of q) false behind ms m more taken is
    (subst (IsAnswer (kind_of q) false) (sym (same_rest (sends_of q) (map Got ms ++ Got m ∷ more) s.0 s.1))
    s.2)
