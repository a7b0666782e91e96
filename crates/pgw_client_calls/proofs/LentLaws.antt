-- A call with a client and a handler that were lent for it.
use Rattle.std.proofs.Common.{◌≡◌, ◌≤◌, ℕ, Bool, true, false, List, Option, Result, Ok, Err, refl, sym, ap, subst, ◌∙◌, arith, inl}
use Rattle.pgw_backend.specs.declared.client_error.PgWireClientError.{PgWireClientError as ClientError}
use Rattle.pgw_backend.specs.declared.client_error.PgWireClientError.TheVariants as client
use Rattle.pgw_link.specs.Tape.{Tape}
use Rattle.pgw_session.specs.declared.types.Request.{Request}
use Rattle.pgw_handlers.specs.Handling.{HasCause, IsCaused}
use Rattle.pgw_client_calls.specs.declared.gathered.Gathered.{Gathered}
use Rattle.pgw_client_calls.specs.Line.{Line, Foretold, IsFlushed}
use Rattle.pgw_client_calls.specs.Calls.{IsUsableAfter}
use Rattle.pgw_client_calls.specs.Extended.{Meaning, finish}
use Rattle.pgw_client_calls.specs.ExtendedSteps.{MakesCall, gathered_as, may_stay}
use Rattle.pgw_client_calls.specs.State.{ClientState, line_of}
use Rattle.pgw_client_calls.specs.Lent.{AsksByClient, lent_pair}
use Rattle.pgw_client_calls.proofs.ForetoldLaws.{foretold_still}
use Rattle.pgw_client_calls.proofs.RequestLaws.{called_starved}

given_both : {S A : Type 0} (give : Gathered S → Bool → A) (r : Result (Gathered S × Bool) ClientError)
    → gathered_as give (gathered_as lent_pair r) ≡ gathered_as give r
given_both give (Ok x) = refl
given_both give (Err e) = refl

given_caused : {S A : Type 0} (give : Gathered S → Bool → A) (r : Result (Gathered S × Bool) ClientError)
    (before now : ℕ) (broken : Bool)
    → HasCause before now broken r → HasCause before now broken (gathered_as give r)
given_caused give (Ok x) before now broken c = record { later = c.later; failed = tt }
given_caused give (Err e) before now broken c = record { later = c.later; failed = c.failed }

given_usable : {S A : Type 0} (give : Gathered S → Bool → A) (r : Result (Gathered S × Bool) ClientError)
    (broken : Bool)
    → IsUsableAfter may_stay r broken → IsUsableAfter may_stay (gathered_as give r) broken
given_usable give (Ok x) broken u = u
given_usable give (Err e) broken u = u

module _ {X H R S : Type 0} (foretells : Type 0) (left : X → Option (List ℕ)) (tape : X → Tape) (faults : X → ℕ)
    (M : Meaning H R) (listed : S → List R) (q : Request) (h : H) (before after : ClientState X) where
  -- a call that makes its own answer of what was gathered
  pub asks_as : {A : Type 0} (give : Gathered S → Bool → A) (handler : H)
      (r : Result (Gathered S × Bool) ClientError) (result : Result A ClientError)
      → result ≡ gathered_as give r
      → AsksByClient foretells left tape faults M listed q lent_pair h handler before after r
      → AsksByClient foretells left tape faults M listed q give h handler before after result
  asks_as {A} give handler r result is a =
      subst (λ (x : Result A ClientError). AsksByClient foretells left tape faults M listed q give h handler
      before after x) (sym is)
      record {
        broken = λ was. let b = a.broken was in (ap (gathered_as give) b.0, b.1, b.2);
        asked = λ usable.
            let x = a.asked usable in
            record {
              answer = x.answer;
              gives = ap (gathered_as give) x.gives
                  ∙ given_both give x.answer;
              called = x.called;
            };
        foretold = a.foretold;
        cause = given_caused give r (faults before.link) (faults after.link) before.broken a.cause;
        usable = λ was. given_usable give r after.broken (a.usable was);
        within = a.within;
        limit = a.limit;
        config = a.config;
      }

  starve_caused : (broken : Bool) (e : ClientError) (was now : ℕ) → (broken ≡ true → e ≡ client.Broken)
      → (broken ≡ false → e ≡ client.OutOfMemory) → IsCaused e was now broken
  starve_caused true e was now b s = subst (λ (x : ClientError). IsCaused x was now true) (sym (b refl)) refl
  starve_caused false e was now b s = subst (λ (x : ClientError). IsCaused x was now false) (sym (s refl)) tt

  -- memory was wanting
  pub asks_starved : (e : ClientError) → (before.broken ≡ false → IsFlushed (line_of tape faults before))
      → (before.broken ≡ true → (e ≡ client.Broken) × (after ≡ before))
      → (before.broken ≡ false → (e ≡ client.OutOfMemory) × (after.broken ≡ true))
      → line_of tape faults after ≡ line_of tape faults before
      → after.link ≡ before.link → after.read ≤ after.limit → after.known.config ≡ before.known.config
      → AsksByClient foretells left tape faults M listed q lent_pair h h before after (Err e)
  asks_starved e flushed broken starved same link within config = record {
    broken = λ was. let b = broken was in (ap Err b.0, b.1, refl);
    asked = λ usable.
        let s = starved usable in
        let called =
        called_starved M q h h before.known after.known (line_of tape faults before) (flushed usable) in
        let there =
        subst (λ (l : Line). MakesCall M q h before.known (line_of tape faults before) l
        (finish (Err client.OutOfMemory) h after.known true l.buffer)) (sym same) called in
        let so =
        subst (λ (x : ClientError). MakesCall M q h before.known (line_of tape faults before)
        (line_of tape faults after) (finish (Err x) h after.known true after.buffer)) (sym s.0) there in
        record {
          answer = Err e;
          gives = refl;
          called =
              subst (λ (b : Bool). MakesCall M q h before.known (line_of tape faults before)
              (line_of tape faults after) (finish (Err e) h after.known b after.buffer)) (sym s.1) so;
        };
    foretold =
        λ t. subst (λ (l : X). Foretold (left before.link) (left l) (tape before.link) (tape l)) (sym link)
        (foretold_still (left before.link) (tape before.link));
    cause = record {
      later = (let f = ap (λ (l : Line). l.faults) same in omega (arith, f));
      failed =
          starve_caused before.broken e (faults before.link) (faults after.link) (λ was. (broken was).0)
          (λ was. (starved was).0);
    };
    usable = λ was. inl (starved was).1;
    within = within;
    limit = ap (λ (l : Line). l.limit) same;
    config = config;
  }
