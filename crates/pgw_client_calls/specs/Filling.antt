-- What a read, and a look at what was read, come to for the caller of a client.
use Rattle.std.specs.Prelude.{◌≡◌, ◌≤◌, ◌<◌, ◌+◌, ℕ, Bool, true, false, List, length, Option, Result, Ok, Err, OnOk, OnErr, IfErr, IsErrOf}
use Rattle.pgw_backend.specs.declared.backend.PgWireBackendMessage.{PgWireBackendMessage as Backend}
use Rattle.pgw_backend.specs.declared.client_error.PgWireClientError.{PgWireClientError as ClientError}
use Rattle.pgw_backend.specs.declared.client_error.PgWireClientError.TheVariants as client
use Rattle.pgw_link.specs.Tape.{Tape}
use Rattle.pgw_dialogue.specs.Wire.{IsOwn}
use Rattle.pgw_handlers.specs.Handling.{HasCause}
use Rattle.pgw_handlers.specs.declared.client_info.ReadyState.{ReadyState}
use Rattle.pgw_handlers.specs.declared.client_info.ReadyState.TheVariants.{Pending}
use Rattle.pgw_client_calls.specs.Line.{Foretold}
use Rattle.pgw_client_calls.specs.State.{ClientState, line_of}
use Rattle.pgw_client_calls.specs.Reading.{ReadOnce, awaited}
use Rattle.pgw_client_calls.specs.Calls.{Polled}

-- It read once, and says whether more came: true where some did, false at the link's end.
pub record Fills {X : Type 0} (foretells : Type 0) (left : X → Option (List ℕ)) (tape : X → Tape)
    (faults : X → ℕ) (before after : ClientState X) (result : Result Bool ClientError)
    : Type 0 where
  -- a client that an earlier error left unusable stays as it is
  pub broken : before.broken ≡ true → (result ≡ Err client.Broken) × (after ≡ before)
  -- ReadLimit comes exactly where the limit is reached
  pub limited : before.broken ≡ false → before.read ≡ before.limit
      → IsErrOf result client.ReadLimit
  pub below : IsErrOf result client.ReadLimit → before.read ≡ before.limit
  -- true comes only where bytes came
  pub grows : result ≡ Ok true → before.read < after.read
  -- The link is read once, or not at all where the limit is reached. What was read stands behind what stood in the buffer;
  -- where the end is answered, it finds flushed what was flushed before.
  pub reads : before.broken ≡ false →
      ReadOnce (line_of tape faults before) (line_of tape faults after) result
  pub buffered : length after.buffer ≤ length before.buffer + 8192
  pub cause : HasCause (faults before.link) (faults after.link) before.broken result
  -- of a link that knows what is to come: the bytes taken are its front, and the end is answered behind the last byte
  pub foretold : foretells → Foretold (left before.link) (left after.link)
      (tape before.link) (tape after.link)
  -- every error leaves the client unusable
  pub usable : OnOk result (after.broken ≡ false)
  pub unusable : OnErr result (after.broken ≡ true)
  pub known : after.known ≡ before.known
  pub within : after.read ≤ after.limit
  pub limit : after.limit ≡ before.limit

-- It handed out the message at the buffer's front, or Pending where none is whole, and read nothing.
pub record Polls {X : Type 0} (before after : ClientState X)
    (result : Result (ReadyState Backend) ClientError) : Type 0 where
  pub broken : before.broken ≡ true → (result ≡ Err client.Broken) × (after ≡ before)
  pub polled : before.broken ≡ false →
      Polled (before.known).protocol_version before.buffer after.buffer after.broken result
  -- where Pending comes, fewer bytes are in the buffer than the message at its front has
  pub awaits : before.broken ≡ false → result ≡ Ok Pending →
      length before.buffer < awaited before.buffer
  pub empty : before.broken ≡ false → length before.buffer ≡ 0 →
      (result ≡ Ok Pending) × (after ≡ before)
  pub calm : before.broken ≡ false → IfErr result IsOwn
  pub known : after.known ≡ before.known
  pub link : after.link ≡ before.link
  pub read : after.read ≡ before.read
  pub limit : after.limit ≡ before.limit
