-- What a simple query comes to for the caller of a client.
use Rattle.std.specs.Prelude.{◌≡◌, ◌≤◌, ℕ, true, false, List, Option, Result, Err}
use Rattle.pgw_backend.specs.declared.client_error.PgWireClientError.{PgWireClientError as ClientError}
use Rattle.pgw_backend.specs.declared.client_error.PgWireClientError.TheVariants as client
use Rattle.pgw_link.specs.Tape.{Tape}
use Rattle.pgw_handlers.specs.Handling.{HandlerView, CallAnswer, HasCause}
use Rattle.pgw_handlers.specs.Simple.{SimpleCall, simple_query, HeardInQuery}
use Rattle.pgw_client_calls.specs.Talk.{end, passes}
use Rattle.pgw_client_calls.specs.Line.{Foretold}
use Rattle.pgw_client_calls.specs.State.{ClientState, line_of}
use Rattle.pgw_client_calls.specs.Calls.{IsUsableAfter, may_go_on, LineCall}

-- A client asked this query by a handler, and this was the answer.
pub record Queries {X H R : Type 0} (foretells : Type 0) (left : X → Option (List ℕ))
    (tape : X → Tape) (faults : X → ℕ)
    (M : HandlerView H → SimpleCall → HandlerView H → CallAnswer (List R) → Type 0)
    (handler : H) (query : List ℕ) (before after : ClientState X)
    (result : Result (List R) ClientError) : Type 0 where
  -- a client that an earlier error left unusable stays as it is
  pub broken : before.broken ≡ true → (result ≡ Err client.Broken) × (after ≡ before)
  -- Else the query is opened as the handler means it, and each message is heard so up to the end of the call, over the
  -- bytes that stood in the buffer and those that were read; what it sent is what was written. It answers Ok at
  -- ReadyForQuery and at no other message.
  pub asked : before.broken ≡ false → LineCall
      (λ old new answer. M old (simple_query query) new answer) (HeardInQuery M) passes
      handler before.known (line_of tape faults before) (line_of tape faults after)
      (end result after.known after.broken after.buffer)
  -- IoError comes only where a call of the link failed, and Broken from no other client than the one above
  pub cause : HasCause (faults before.link) (faults after.link) before.broken result
  -- of a link that knows what is to come: the bytes taken are its front, and the end is answered behind the last byte
  pub foretold : foretells → Foretold (left before.link) (left after.link)
      (tape before.link) (tape after.link)
  -- Behind an answer the client can be used. Behind an error it can be where that is the server's or a message without
  -- place, or where the opening was refused; and behind no other.
  pub usable : before.broken ≡ false → IsUsableAfter may_go_on result after.broken
  pub within : after.read ≤ after.limit
  pub limit : after.limit ≡ before.limit
  pub config : (after.known).config ≡ (before.known).config
