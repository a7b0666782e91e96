-- What an event does, by what the two ends' calls say.
use Rattle.std.proofs.Common.{◌≡◌, ◌≢◌, ◌⊎◌, inl, inr, ℕ, List, ◌++◌, Result, Err, refl, sym, ap, ◌∙◌, arith}
use Rattle.std.proofs.lemmas.List.{take_all}
use Rattle.pgw_backend.specs.declared.client_error.PgWireClientError.{PgWireClientError as ClientError}
use Rattle.pgw_backend.specs.declared.client_error.PgWireClientError.TheVariants as client
use Rattle.pgw_machine.specs.Course.{sent_of}
use Rattle.pgw_session.specs.Input.{Input}
use Rattle.pgw_session.specs.Talk.{conversation}
use Rattle.pgw_dialogue.specs.Answers.{answer_to, taken_of, Tells}
use Rattle.pgw_dialogue.specs.Dialogue.{Stands, StandsIn, Takes, IsBroken, IsStarved}
use Rattle.pgw_dialogue.specs.declared.dialogue.Dialogue.{Dialogue}
use Rattle.pgw_dialogue.specs.declared.phase.DialoguePhase.{DialoguePhase}
use Rattle.pgw_dialogue.specs.declared.phase.State.{State}
use Rattle.pgw_dialogue.specs.declared.phase.State.TheVariants as state

-- ---- the client

sent_in : (s : State) (d : Dialogue) (input : Input) (limit : ℕ) (given put : List ℕ)
    → StandsIn s d input limit given put → (s ≡ state.Starved → ⊥)
    → put ≡ sent_of (conversation input (taken_of limit given))
sent_in state.Going d input limit given put (t, is, notes, room) going =
    sym (ap (λ (l : List ℕ). sent_of (conversation input l)) (take_all limit given (omega (arith, room)))
    ∙ ap sent_of is)
sent_in state.Done d input limit given put (t, is, report) going = sym (ap sent_of is)
sent_in state.Refused d input limit given put (inl (ending, e, is, why)) going = sym (ap sent_of is)
sent_in state.Refused d input limit given put (inr (is, enough)) going = sym (ap sent_of is.2)
sent_in state.Starved d input limit given put h going = absurd (going refl)

-- one that is not starved has put out what is sent in the conversation
pub sent_stands : (input : Input) (limit : ℕ) (d : Dialogue) (given put : List ℕ) → Stands input limit d given put
    → (IsStarved d → ⊥) → put ≡ sent_of (conversation input (taken_of limit given))
sent_stands input limit d given put stands going = sent_in d.state d input limit given put stands.stands going

-- what a client that goes on does with a piece, where memory suffices
pub record ClientTook (input : Input) (limit : ℕ) (new : Dialogue) (given put : List ℕ)
    (result : Result DialoguePhase ClientError) : Type 0 where
  pub stands : Stands input limit new given put
  pub sent : put ≡ sent_of (conversation input (taken_of limit given))
  pub answer : result ≡ answer_to input limit given
  pub tells : Tells input limit given put result

pub client_takes : (input : Input) (limit : ℕ) (old new : Dialogue) (given put piece old_out new_out : List ℕ)
    (result : Result DialoguePhase ClientError)
    → Stands input limit old given put → (IsBroken old → ⊥) → (t : Takes old new piece old_out new_out result)
    → (IsStarved new → IsStarved old ⊎ (result ≡ Err client.OutOfMemory)) → result ≢ Err client.OutOfMemory
    → ClientTook input limit new (given ++ piece) (put ++ t.out) result
client_takes input limit old new given put piece old_out new_out result stands whole t starved ample =
    let later = t.stands input limit given put stands in
    let says = t.answers input limit given put stands whole in
    let going : IsStarved new → ⊥ = λ s. elim (starved s) [ inl h ↦ whole (inr h) | inr h ↦ ample h ] in
    record {
      stands = later;
      sent = sent_stands input limit new (given ++ piece) (put ++ t.out) later going;
      answer = elim says.answer [ inl h ↦ h | inr h ↦ absurd (ample h) ];
      tells = says.tells;
    }
