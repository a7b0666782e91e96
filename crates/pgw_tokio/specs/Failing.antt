-- How a call of a client fails.
use Rattle.std.specs.Prelude.{◌≡◌, ◌⊎◌, ℕ, List, [], ◌∷◌, ◌++◌, length, Option, Some, None, Err}
use Rattle.std.specs.declared.io.Error.{Error}
use Rattle.pgw_backend.specs.declared.client_error.PgWireClientError.{PgWireClientError as ClientError}
use Rattle.pgw_backend.specs.declared.client_error.PgWireClientError.TheVariants as client
use Rattle.pgw_dialogue.specs.Dialogue.{AnswersDialogue}
use Rattle.pgw_dialogue.specs.Wire.{IsEndError, Unless}
use Rattle.pgw_link.specs.Tape.{Tape}
use Rattle.pgw_client_push.specs.declared.client.PushClient.{PushClient}
use Rattle.pgw_client_push.specs.Standing.{StandsFor}
use Rattle.pgw_session.specs.Failures.{EndsAs}
use Rattle.pgw_session.specs.Input.{Input}

-- all that was written was flushed
abbrev pub IsStreamFlushed : Tape → Type 0
IsStreamFlushed t = t.flushed ≡ length t.wrote

-- what came was refused, for its cause
abbrev pub RefusesWhatCame : Input → ℕ → List ℕ → List ℕ → Tape → ClientError → Type 0
RefusesWhatCame input limit given put t e =
    (t.ended ≡ []) × AnswersDialogue input limit given put (Err e)

-- the stream's end came, behind the flush of all that was written
abbrev pub IsStreamAtEnd : Input → List ℕ → List ℕ → Tape → ClientError → Type 0
IsStreamAtEnd input given put t e =
    (t.ended ≡ length t.wrote ∷ []) × IsEndError e × Unless e (EndsAs input given put e)

-- Why, where these bytes were given and those written, and those are put out and not written: a call of the stream
-- failed before the stream's end came; or all was written and flushed, and what came was refused or the stream's end came.
abbrev pub IsCause : Input → ℕ → List ℕ → List ℕ → List ℕ → Tape → Option Error → ClientError
    → Type 0
IsCause input limit given wrote rest t (Some f) e = (t.ended ≡ []) × (e ≡ client.IoError)
IsCause input limit given wrote rest t None e =
    (rest ≡ []) × IsStreamFlushed t
    × (RefusesWhatCame input limit given wrote t e ⊎ IsStreamAtEnd input given wrote t e)

-- A call fails so, of a client that stood for these bytes before its calls of the stream. What was written is the front
-- of what was put out. The error is IoError where a call of the stream failed, and nowhere else.
pub record Fails (input : Input) (limit : ℕ) (given put : List ℕ) (t : Tape) (c : PushClient)
    (fault : Option Error) (e : ClientError) : Type 0 where
  pub rest : List ℕ
  pub stands : StandsFor input limit c (given ++ t.took) (put ++ (t.wrote ++ rest))
  pub cause : IsCause input limit (given ++ t.took) (put ++ t.wrote) rest t fault e
  pub io : e ≡ client.IoError → (f : Error) × (fault ≡ Some f)
