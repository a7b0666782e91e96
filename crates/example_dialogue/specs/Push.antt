-- What a session over bytes at hand gives.
use Rattle.std.specs.Prelude.{◌≡◌, ℕ, List, ◌++◌, ◌⊎◌, Result, Err}
use Rattle.pgw_backend.specs.declared.client_error.PgWireClientError.{PgWireClientError as ClientError}
use Rattle.pgw_backend.specs.declared.client_error.PgWireClientError.TheVariants as client
use Rattle.pgw_dialogue.specs.declared.dialogue.Dialogue.{Dialogue}
use Rattle.pgw_dialogue.specs.Dialogue.{Agrees, IsStarved, Stands, StartCause}
use Rattle.pgw_session.specs.declared.types.SessionReport.{SessionReport}
use Rattle.pgw_session.specs.Input.{Input}

-- Nothing was begun, and nothing put out; or a dialogue stands for all the bytes given and those put out, starved only
-- where want of memory is the answer, and what it says of those bytes is the answer, or memory was wanting.
pub data HoldsExample (input : Input) (limit : ℕ) (given old_out new_out : List ℕ)
    (result : Result SessionReport ClientError) : Type 0 where
  unbegun : (e : ClientError) → result ≡ Err e → StartCause input e → new_out ≡ old_out
      → HoldsExample input limit given old_out new_out result
  begun : (d : Dialogue) (put : List ℕ) → new_out ≡ old_out ++ put
      → Stands input limit d given put → (IsStarved d → result ≡ Err client.OutOfMemory)
      → Agrees input limit d given result ⊎ (result ≡ Err client.OutOfMemory)
      → HoldsExample input limit given old_out new_out result
