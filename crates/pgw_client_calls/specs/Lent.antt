-- What a call of extended queries leaves of the client and the handler that were lent for it.
use Rattle.std.specs.Prelude.{◌≡◌, ◌≤◌, ℕ, Bool, true, false, List, Option, Result, Err}
use Rattle.pgw_backend.specs.declared.client_error.PgWireClientError.{PgWireClientError as ClientError}
use Rattle.pgw_backend.specs.declared.client_error.PgWireClientError.TheVariants as client
use Rattle.pgw_link.specs.Tape.{Tape}
use Rattle.pgw_session.specs.declared.types.Request.{Request}
use Rattle.pgw_session.specs.declared.types.PrepareResponse.{PrepareResponse}
use Rattle.pgw_session.specs.declared.types.DescribeResponse.{DescribeResponse}
use Rattle.pgw_session.specs.declared.types.ExecuteResult.{ExecuteResult}
use Rattle.pgw_session.specs.declared.types.ExecuteResult.TheVariants.{Complete, Suspended}
use Rattle.pgw_handlers.specs.Handling.{HasCause}
use Rattle.pgw_client_calls.specs.declared.gathered.Gathered.{Gathered}
use Rattle.pgw_client_calls.specs.Line.{Foretold}
use Rattle.pgw_client_calls.specs.State.{ClientState, line_of}
use Rattle.pgw_client_calls.specs.Calls.{IsUsableAfter}
use Rattle.pgw_client_calls.specs.Extended.{Meaning}
use Rattle.pgw_client_calls.specs.ExtendedSteps.{AnswersGathered, may_stay}

-- ---- what each call makes of what was gathered

abbrev pub lent_pair : {S : Type 0} → Gathered S → Bool → Gathered S × Bool
lent_pair g suspended = (g, suspended)

abbrev pub lent_prepare : {S : Type 0} → Option (List ℕ) → Gathered S → Bool → PrepareResponse
lent_prepare name g suspended = record { name = name; param_types = g.types }

abbrev pub no_answer : {S : Type 0} → Gathered S → Bool → Unit {0}
no_answer g suspended = tt

abbrev pub lent_result : {S : Type 0} → Gathered S → Bool → ExecuteResult S
lent_result g true = Suspended g.responses
lent_result g false = Complete g.responses

abbrev pub description_of : {S : Type 0} → Gathered S → Bool → DescribeResponse
description_of g suspended = record { param_types = g.types; fields = g.columns }

abbrev pub all_responses : {S : Type 0} → Gathered S → Bool → S
all_responses g suspended = g.responses

-- ---- a call

-- A request was asked by a client, with a handler, and this came of it. `listed` says which list the handler's responses
-- are kept in.
pub record AsksByClient {X H R S A : Type 0} (foretells : Type 0) (left : X → Option (List ℕ))
    (tape : X → Tape) (faults : X → ℕ) (M : Meaning H R) (listed : S → List R) (q : Request)
    (give : Gathered S → Bool → A) (h handler : H) (before after : ClientState X)
    (result : Result A ClientError) : Type 0 where
  -- a client that an earlier error left unusable stays as it is
  pub broken : before.broken ≡ true →
      (result ≡ Err client.Broken) × (after ≡ before) × (handler ≡ h)
  -- else the request's messages are opened as the handler means it, and each message is heeded so up to the end of the
  -- call, over the bytes that stood in the buffer and those that were read; what it sent is what was written
  pub asked : before.broken ≡ false → AnswersGathered M listed q give h before.known
      (line_of tape faults before) (line_of tape faults after) handler after.known after.broken
      result
  -- of a link that knows what is to come: the bytes taken are its front, and the end is answered behind the last byte
  pub foretold : foretells → Foretold (left before.link) (left after.link)
      (tape before.link) (tape after.link)
  -- IoError comes only where a call of the link failed, and Broken from no other client than the one above
  pub cause : HasCause (faults before.link) (faults after.link) before.broken result
  -- behind an answer the client can be used; behind an error it can be where that is the server's, or where the opening
  -- was refused, and behind no other
  pub usable : before.broken ≡ false → IsUsableAfter may_stay result after.broken
  pub within : after.read ≤ after.limit
  pub limit : after.limit ≡ before.limit
  pub config : (after.known).config ≡ (before.known).config
