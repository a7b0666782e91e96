use Rattle.std.proofs.Common.{◌≡◌, ℕ, List, [], ◌∷◌, Option, Some, None, Result, Ok, refl, sym, subst, ◌∙◌}
use Rattle.pgw_backend.specs.declared.client_error.PgWireClientError.{PgWireClientError as ClientError}
use Rattle.pgw_tokio_moving.specs.declared.exchange.Stop.{Stop}
use Rattle.pgw_tokio_moving.specs.declared.exchange.Stop.TheVariants as stop
use Rattle.pgw_client_push.specs.declared.client.PushClient.{PushClient}
use Rattle.pgw_client_push.specs.Calls.{IsLastAnswer}
use Rattle.pgw_client_push.specs.Standing.{IsIdle, StandsFor}
use Rattle.pgw_client_push.specs.Told.{answers_in}
use Rattle.pgw_session.specs.declared.types.Answer.{Answer}
use Rattle.pgw_session.specs.Input.{Input}
use Rattle.pgw_tokio.specs.Faults.{fault_after}
use Rattle.pgw_tokio.specs.Calling.{HandsOut, RequestAnswers, RequestOver}
use Rattle.pgw_tokio.proofs.calling.ClientEngine.answer.Goals as goal

some_ok : (a b : Answer) → Some a ≡ Some b → ◌≡◌ {A = Result Answer ClientError} (Ok a) (Ok b)
some_ok a b is = cc

-- the client is over, was not refused, and has its answer
handed_out : (c new : PushClient) (refusal : Option ClientError) (why : Stop) (a : Answer) → why ≡ stop.Over
    → refusal ≡ None → IsIdle new → ((answer : Answer) → answers_in c ≡ answer ∷ [] → Some a ≡ Some answer)
    → ((input : Input) (limit : ℕ) (given put : List ℕ) → StandsFor input limit c given put
    → IsLastAnswer input given put a)
    → ((input : Input) (limit : ℕ) (given put : List ℕ) → StandsFor input limit c given put
    → StandsFor input limit new given put)
    → RequestAnswers c refusal why new (Ok a)
handed_out c new refusal why a over none idle is last stands =
    let hands : HandsOut c new (Ok a) =
    record { idle = idle; is = λ answer one. some_ok a answer (is answer one); last = last; stands = stands } in
    subst (λ w. RequestAnswers c refusal w new (Ok a)) (sym over)
    (subst (λ o. RequestOver c o new (Ok a)) (sym none) hands)

pub returns-in-Some-take_answer : goal.returns-in-Some-take_answer
returns-in-Some-take_answer c =
    let e = c.in-Some-take_answer.ensures in
    let fault = c.args.self.now.fault in
    record {
      answers = handed_out c.args.self.now.client c.take_answer.new.self c.args.self.now.refusal c.args.why
          c.in-Some-take_answer.answer c.in-Over.is (sym c.take.ensures.value ∙ c.in-None.is) e.idle e.is e.last
          e.stands;
      fault = subst (λ w. fault ≡ fault_after w fault) (sym c.in-Over.is) refl;
    }
