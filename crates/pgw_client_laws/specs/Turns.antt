-- A client's call as a segment of a session: what was got and sent in it, and what the client knows behind it.
use Rattle.std.specs.Prelude.{◌≡◌, ◌⊎◌, ℕ, Bool, true, false, List, [], ◌∷◌, ◌++◌, map, fold, None}
use Rattle.pgw_backend.specs.declared.backend.PgWireBackendMessage.{PgWireBackendMessage as Backend}
use Rattle.pgw_backend.specs.declared.client_error.PgWireClientError.{PgWireClientError as ClientError}
use Rattle.pgw_backend.specs.declared.client_error.PgWireClientError.TheVariants as client
use Rattle.pgw_config.specs.declared.config.Config.{Config}
use Rattle.pgw_session.specs.declared.types.Request.{Request}
use Rattle.pgw_session.specs.declared.types.Answer.{Answer}
use Rattle.pgw_session.specs.declared.stage.Kind.{Kind}
use Rattle.pgw_session.specs.declared.stage.Role.{Role}
use Rattle.pgw_session.specs.declared.stage.Role.TheVariants.{Completing, Failing, Misplaced}
use Rattle.pgw_session.specs.declared.standing.Standing.{Standing}
use Rattle.pgw_session.specs.Events.{Event, Sent, Got}
use Rattle.pgw_session.specs.Standings.{standing_at}
use Rattle.pgw_session.specs.Requests.{kind_of, sends_of, sync, behind_error, passes_over, role}
use Rattle.pgw_session.specs.Segments.{AreTaken, IsQuiet, IsPassedOver, IsRequestSegment, sends}
use Rattle.pgw_session.specs.Answers.{answer_of, first_error}
use Rattle.pgw_session.specs.Machine.{end_with}
use Rattle.pgw_session.specs.Transcript.{SpellsGot, EncodesSent}
use Rattle.pgw_handlers.specs.Client.{Client}

-- ---- what a client knows

-- what a client knows that was told this, and what stands by a client that has logged in
abbrev pub knowing : Config → Standing → Client
knowing config s =
    record {
      config = config;
      parameters = s.parameters;
      process_id = s.process_id;
      secret_key =
          s.secret_key;
      protocol_version = s.version;
      transaction_status = s.status;
    }

abbrev pub standing_of_client : Client → Standing
standing_of_client c =
    record {
      version = c.protocol_version;
      settled = true;
      parameters = c.parameters;
      process_id =
          c.process_id;
      secret_key = c.secret_key;
      status = c.transaction_status;
    }

-- Behind a standing, the bytes begin with spellings of the messages got, and those sent are encoded as the bytes written.
-- The client knows what all of it tells, and these bytes are left.
pub record AreExchanged (config : Config) (s : Standing) (bytes sent : List ℕ) (es : List Event)
    (info : Client) (rest : List ℕ) : Type 0 where
  pub spelled : List ℕ
  pub begins : bytes ≡ spelled ++ rest
  pub got : SpellsGot s es spelled
  pub put : EncodesSent es sent
  pub knows : info ≡ knowing config (fold standing_at s es)

-- events with this property were exchanged by a client that knew c
abbrev pub Does : (List Event → Type 0) → Client → List ℕ → List ℕ → Client → List ℕ → Type 0
Does property c bytes sent info rest =
    (es : List Event) × property es
    × AreExchanged c.config (standing_of_client c) bytes sent es info rest

-- ---- how a call's events go

-- they are the request's segment, whose answer is this
abbrev pub IsAnswered : Request → Answer → List Event → Type 0
IsAnswered q answer es = IsRequestSegment q es × (answer_of q es ≡ answer)

-- messages are taken, m has no place behind them, and the others are passed over up to ReadyForQuery
pub record IsMisplaced (k : Kind) (rows : Bool) (m : Backend) (es : List Event) : Type 0 where
  pub ms : List Backend
  pub behind : Bool
  pub rest : List Event
  pub are : es ≡ map Got ms ++ Got m ∷ rest
  pub taken : AreTaken k rows ms behind
  pub misplaced : role k behind m ≡ Misplaced
  pub passed : IsPassedOver rest
  pub passes : passes_over k ≡ true

-- what is sent behind a message that ends an answer or has no place, and what is passed over then
abbrev pub IsPassing : Kind → Role → List Event → Type 0
IsPassing k Completing es =
    (passed : List Backend) × (es ≡ Sent sync ∷ map Got passed) × IsQuiet passed
IsPassing k Failing es =
    (passed : List Backend) × (es ≡ map Sent (sends (behind_error k)) ++ map Got passed)
    × IsQuiet passed
IsPassing k Misplaced es =
    (passed : List Backend) × (es ≡ map Got passed) × IsQuiet passed × (passes_over k ≡ true)
IsPassing k r es = ⊥

-- the error that the bytes' end is answered with there: of a message that has no place, or the server's first
abbrev pub error_behind : Role → Backend → List Event → ClientError
error_behind Misplaced m es = client.UnexpectedMessage m
error_behind r m es = end_with None (first_error (Got m ∷ es))

-- What has come behind messages that are taken, where the bytes end: nothing, or such a message and what follows it.
abbrev pub IsCutOff : Kind → Bool → ClientError → List Event → Type 0
IsCutOff k rows e es =
    ((es ≡ []) × (e ≡ client.UnexpectedEOF))
    ⊎ ((m : Backend) × (more : List Event) × (es ≡ Got m ∷ more) × IsPassing k (role k rows m)
    more × (e ≡ error_behind (role k rows m) m more))

pub record IsCutCall (k : Kind) (rows : Bool) (e : ClientError) (es : List Event) : Type 0 where
  pub ms : List Backend
  pub behind : Bool
  pub rest : List Event
  pub are : es ≡ map Got ms ++ rest
  pub taken : AreTaken k rows ms behind
  pub ends : IsCutOff k behind e rest

-- messages are taken, and m has no place behind them
pub record IsOpenFor (k : Kind) (rows : Bool) (m : Backend) (es : List Event) : Type 0 where
  pub ms : List Backend
  pub behind : Bool
  pub are : es ≡ map Got ms
  pub taken : AreTaken k rows ms behind
  pub misplaced : role k behind m ≡ Misplaced

-- with the request's opening before it
abbrev pub Opened : Request → (List Event → Type 0) → List Event → Type 0
Opened q property es =
    (answer : List Event) × (es ≡ map Sent (sends_of q) ++ answer) × property answer

-- a segment that is passed over; and a front of the request's segment, or of one that is passed over
abbrev pub IsPassedSegment : Request → Backend → List Event → Type 0
IsPassedSegment q m es = Opened q (IsMisplaced (kind_of q) false m) es

abbrev pub IsCallFront : Request → ClientError → List Event → Type 0
IsCallFront q e es = Opened q (IsCutCall (kind_of q) false e) es
