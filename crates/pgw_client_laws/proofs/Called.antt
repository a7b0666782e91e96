-- A call from its opening on.
use Rattle.std.proofs.Common.{◌≡◌, ◌⊎◌, ℕ, Bool, true, false, List, [], ◌∷◌, ◌++◌, map, fold, Result, Ok, Err, inl, inr, refl, sym, ◌∙◌, ap, subst}
use Rattle.std.proofs.lemmas.List.{append-nil}
use Rattle.pgw_backend.specs.declared.backend.PgWireBackendMessage.{PgWireBackendMessage as Backend}
use Rattle.pgw_backend.specs.declared.client_error.PgWireClientError.{PgWireClientError as ClientError}
use Rattle.pgw_backend.specs.declared.client_error.PgWireClientError.TheVariants as client
use Rattle.pgw_frontend.specs.declared.frontend.PgWireFrontendMessage.{PgWireFrontendMessage as Frontend}
use Rattle.pgw_frontend.specs.Frontend.{encodings, both}
use Rattle.pgw_session.specs.declared.types.Request.{Request}
use Rattle.pgw_session.specs.declared.types.Answer.{Answer}
use Rattle.pgw_session.specs.declared.tally.Tally.{Tally}
use Rattle.pgw_session.specs.Events.{Event, Sent}
use Rattle.pgw_session.specs.Requests.{kind_of, sends_of, passes_over, behind_error}
use Rattle.pgw_session.specs.Segments.{sends}
use Rattle.pgw_session.specs.Answers.{no_tally, answer_by, answer_of, tally_of, tally_at}
use Rattle.pgw_session.proofs.Events.{encodings_append}
use Rattle.pgw_handlers.specs.Client.{Client}
use Rattle.pgw_client_calls.specs.Line.{Reasons}
use Rattle.pgw_client_laws.specs.Turns.{standing_of_client, AreExchanged, IsAnswered, IsPassedSegment, IsCallFront, IsOpenFor, Opened}
use Rattle.pgw_client_laws.specs.Calls.{AnswersCall, CallMisplaces, BreaksClient, Comes, IsUnwritten, IsStarvedCall}
use Rattle.pgw_client_laws.proofs.Exchanges.{exchanged_none, exchanged_sent}
use Rattle.pgw_client_laws.proofs.Came.{Shape, Meets, CameOn, Broke, Came, Onto, within, came_onto}

abbrev whole : Request → Shape
whole q = record {
  answered = IsAnswered q;
  passed = IsPassedSegment q;
  stops = IsCallFront q;
  meets = λ m. Opened q (IsOpenFor (kind_of q) false m);
  passes = passes_over (kind_of q);
  starves = IsStarvedCall q;
}

pub tally_opened : (t : Tally) (fs : List Frontend) (es : List Event)
    → fold tally_at t (map Sent fs ++ es) ≡ fold tally_at t es
tally_opened t [] es = refl
tally_opened t (f ∷ fs) es = tally_opened t fs es

pub answer_opened : (q : Request) (es : List Event)
    → answer_of q (map Sent (sends_of q) ++ es) ≡ answer_by q (fold tally_at no_tally es)
unfolding tally_of
answer_opened q es = ap (answer_by q) (tally_opened no_tally (sends_of q) es)

starved_opened : (q : Request) (out sent : List ℕ) → encodings (sends_of q) ≡ Ok out
    → (sent ≡ []) ⊎ (encodings (sends (behind_error (kind_of q))) ≡ Ok sent) → IsStarvedCall q (out ++ sent)
starved_opened q out sent is (inl none) =
    inr (inl (is ∙ ap Ok (sym (append-nil out) ∙ ap (λ (l : List ℕ). out ++ l) (sym none))))
starved_opened q out sent is (inr one) =
    inr (inr (encodings_append (sends_of q) (sends (behind_error (kind_of q)))
    ∙ ap (λ o. both o (encodings (sends (behind_error (kind_of q))))) is ∙ ap (both (Ok out)) one))

opened_onto : (q : Request) (c : Client) (out bytes : List ℕ) → encodings (sends_of q) ≡ Ok out
    → Onto (within q false no_tally) (whole q) c c bytes bytes out
opened_onto q c out bytes is = record {
  before = λ es. map Sent (sends_of q) ++ es;
  answered = λ a es x. ((es, refl, x.0), answer_opened q es ∙ x.1);
  passed = λ m es x. (es, refl, x);
  stops = λ e es x. (es, refl, x);
  meets = λ m es x. (es, refl, x);
  passes = refl;
  starves = λ sent x. starved_opened q out sent is x;
  exchanged =
      λ sent es info rest x. exchanged_sent c.config (standing_of_client c) (sends_of q) out bytes sent es info
      rest is x;
}

module _ {A : Type 0} (give : A → Answer) (P : Reasons) (q : Request) (c : Client) (bytes sent : List ℕ)
    (info : Client) (rest : List ℕ) where
  answers : (result : Result A ClientError) → CameOn (whole q) give c bytes sent info rest result
      → AnswersCall give q c bytes sent info rest result
  answers (Ok x) y = y
  answers (Err (client.RemoteError e)) y = y
  answers (Err (client.UnexpectedMessage m)) y = y
  answers (Err e) y = absurd y

  misplaces : (m : Backend) (b : Bool) → Meets b (whole q) P c bytes sent m info rest
      → CallMisplaces b P q c bytes sent m info rest
  misplaces m true y = y
  misplaces m false y = y

  breaks : (result : Result A ClientError) → Broke (whole q) P c bytes sent info rest result
      → BreaksClient P q c bytes sent info rest result
  breaks (Ok x) y = absurd y
  breaks (Err client.OutOfMemory) y = y
  breaks (Err (client.PgWireError why)) y = y
  breaks (Err client.ReadLimit) y = y
  breaks (Err client.IoError) y = y
  breaks (Err client.UnexpectedEOF) y = y
  breaks (Err (client.RemoteError e)) y = y
  breaks (Err (client.UnexpectedMessage m)) y = misplaces m (passes_over (kind_of q)) y
  breaks (Err e) y = absurd y

  comes : (result : Result A ClientError) (broken : Bool)
      → Came (whole q) give P c bytes sent info rest result broken
      → Comes give P q c bytes sent info rest result broken
  comes result false y = answers result y
  comes result true y = breaks result y

-- what comes behind the opening makes the call
pub called : {A : Type 0} (give : A → Answer) (P : Reasons) (q : Request) (c : Client) (out bytes sent : List ℕ)
    (info : Client) (rest : List ℕ) (result : Result A ClientError) (broken : Bool)
    → encodings (sends_of q) ≡ Ok out →
    Came (within q false no_tally) give P c bytes sent info rest result broken
    → Comes give P q c bytes (out ++ sent) info rest result broken
called give P q c out bytes sent info rest result broken is y =
    comes give P q c bytes (out ++ sent) info rest result broken
    (came_onto (within q false no_tally) (whole q) c c bytes bytes out sent info rest
    (opened_onto q c out bytes is) give P result broken y)

-- the opening was not written whole, or not flushed
pub cut_opening : (P : Reasons) (q : Request) (c : Client) (bytes part lost : List ℕ) (info : Client)
    → P.unsent lost → encodings (sends_of q) ≡ Ok (part ++ lost) → info ≡ c
    → IsUnwritten P q c bytes part info bytes
cut_opening P q c bytes part lost info why is same = (
  lost,
  why,
  client.UnexpectedEOF,
  (
    map Sent (sends_of q) ++ [],
    ([], refl, record { ms = []; behind = false; rest = []; are = refl; taken = refl; ends = inl (refl, refl) }),
    subst (λ (d : Client). AreExchanged c.config (standing_of_client c) bytes (part ++ lost)
        (map Sent (sends_of q) ++ []) d bytes) (sym same)
        (subst (λ (w : List ℕ). AreExchanged c.config (standing_of_client c) bytes w (map Sent (sends_of q) ++ [])
        c bytes) (append-nil (part ++ lost))
        (exchanged_sent c.config (standing_of_client c) (sends_of q) (part ++ lost) bytes [] [] c bytes is
        (exchanged_none c.config (standing_of_client c) bytes))),
  ),
)
