-- One that owns what it was made for, and the dialogue that it stands for.
use Rattle.std.proofs.Common.{◌≡◌, ◌∙◌, ◌⊎◌, List, [], ℕ, Bool, Result, Ok, Err, inl, inr, refl, sym, ap, subst}
use Rattle.pgw_backend.specs.declared.client_error.PgWireClientError.{PgWireClientError as ClientError}
use Rattle.pgw_backend.specs.declared.client_error.PgWireClientError.TheVariants as client
use Rattle.pgw_dialogue.specs.declared.dialogue.Dialogue.{Dialogue}
use Rattle.pgw_dialogue.specs.declared.phase.DialoguePhase.{DialoguePhase}
use Rattle.pgw_dialogue.specs.declared.phase.DialoguePhase.TheVariants as phase
use Rattle.pgw_dialogue.specs.declared.phase.State.TheVariants as state
use Rattle.pgw_dialogue.specs.Answers.{answer_behind, state_behind}
use Rattle.pgw_dialogue.specs.Dialogue.{IsBehind, input_at}
use Rattle.pgw_dialogue.proofs.CallLaws.{starts}
use Rattle.pgw_dialogue.proofs.DialogueLaws.{is_behind}
use Rattle.pgw_session.specs.Input.{Input}
use Rattle.hothummei_c.specs.declared.held.Held.{Held}
use Rattle.hothummei_c.specs.declared.held.HeldState.{HeldState}
use Rattle.hothummei_c.specs.declared.held.HeldState.TheVariants as held
use Rattle.hothummei_c.specs.Held.{HeldStarts, dialogue_of, handle_state}
use Rattle.hothummei_c.specs.Opening.{PutsStartup, held_behind}

-- what is done with bytes behind an answer is what a dialogue does with them
pub same_state : (answer : Result DialoguePhase ClientError) → handle_state (held_behind answer) ≡ state_behind answer
same_state (Ok phase.Waiting) = refl
same_state (Ok phase.Ready) = refl
same_state (Ok phase.Done) = refl
same_state (Err (client.InvalidConfig x)) = refl
same_state (Err (client.UnknownConfig x)) = refl
same_state (Err (client.InvalidUtf8ConfigValue x)) = refl
same_state (Err client.UnexpectedEOF) = refl
same_state (Err (client.UnexpectedMessage m)) = refl
same_state (Err client.IoError) = refl
same_state (Err (client.PgWireError x)) = refl
same_state (Err (client.RemoteError x)) = refl
same_state (Err (client.FromSqlError x)) = refl
same_state (Err client.DataRowIndexOutOfBounds) = refl
same_state (Err (client.ScramError x)) = refl
same_state (Err (client.UnsupportedSASLAuthMethods x)) = refl
same_state (Err client.ReadLimit) = refl
same_state (Err client.Broken) = refl
same_state (Err client.OutOfMemory) = refl

-- refused, or starved
pub broken_of : (s : HeldState) → (s ≡ held.Refused) ⊎ (s ≡ held.Starved)
    → (handle_state s ≡ state.Refused) ⊎ (handle_state s ≡ state.Starved)
broken_of s (inl is) = inl (ap handle_state is)
broken_of s (inr is) = inr (ap handle_state is)

-- what opened a session begins it
pub held_starts : (input : Input) (limit : ℕ) (h : Held) (old new : List ℕ)
    → PutsStartup input old new (Ok h.notes) → input_at (dialogue_of h) ≡ input → h.inbox ≡ [] → h.room ≡ limit
    → h.state ≡ held.Going
    → HeldStarts input limit old new (Ok h)
held_starts input limit h old new opened made empty room going =
    starts input limit (dialogue_of h) opened.0 old new opened.1 opened.2 made empty room (ap handle_state going)

-- where a dialogue is behind an answer
pub is_behind_answer : (d : Dialogue) (fed : Result Bool ClientError) (answer : Result DialoguePhase ClientError)
    → d.state ≡ state_behind answer → answer ≡ answer_behind fed d.room (d.notes).closed → IsBehind d answer
is_behind_answer d fed answer to is = subst (IsBehind d) (sym is) (is_behind d fed (to ∙ ap state_behind is))
