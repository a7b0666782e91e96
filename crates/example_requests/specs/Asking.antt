-- What a client stands for behind questions that were asked one after the other.
use Rattle.std.specs.Prelude.{◌≡◌, ◌⊎◌, ℕ, Bool, false, List, [], ◌∷◌, ◌++◌, Result, Ok, Err}
use Rattle.pgw_backend.specs.declared.client_error.PgWireClientError.{PgWireClientError as ClientError}
use Rattle.pgw_backend.specs.declared.client_error.PgWireClientError.TheVariants as client
use Rattle.pgw_config.specs.declared.config.Config.{Config}
use Rattle.pgw_session.specs.declared.types.Request.{Request}
use Rattle.pgw_session.specs.declared.types.Request.TheVariants as request
use Rattle.pgw_session.specs.declared.types.Answer.{Answer}
use Rattle.pgw_session.specs.declared.types.Answer.TheVariants as answer
use Rattle.pgw_handlers.specs.Client.{Client}
use Rattle.pgw_client_calls.specs.Line.{Line, MovesLine, Pause}
use Rattle.pgw_client_laws.specs.Calls.{Comes}
use Rattle.pgw_client_laws.specs.Turns.{IsAnswered}
use Rattle.pgw_client_laws.specs.Stands.{Made, StandsForCalls, StandsBehind}
use Rattle.example_requests.specs.declared.asking.Question.{Question}
use Rattle.example_requests.specs.declared.asking.Question.TheVariants as question
use Rattle.example_requests.specs.declared.asking.Reply.{Reply}
use Rattle.example_requests.specs.declared.asking.Reply.TheVariants as reply

-- the request of a question
abbrev pub request_of : Question → Request
request_of (question.Simple sql) = request.Simple sql
request_of (question.Rows sql) = request.Query sql [] []

-- a reply as the answer of a session
abbrev pub reply_answer : Reply → Answer
reply_answer (reply.Responses responses) = answer.Responses responses
reply_answer (reply.Rows rows) = answer.Rows rows
reply_answer (reply.Remote e) = answer.Remote e

-- the server's error is a reply, where the client can still be used
abbrev pub error_reply : ClientError → Bool → Result Reply ClientError
error_reply (client.RemoteError e) false = Ok (reply.Remote e)
error_reply e broken = Err e

-- each request was made, and its reply is the answer of its own segment
abbrev pub AreReplies : List Question → List Reply → List Made → Type 0
AreReplies [] [] [] = Unit {0}
AreReplies (q ∷ qs) (r ∷ rs) (t ∷ ts) =
    (t.request ≡ request_of q) × IsAnswered (request_of q) (reply_answer r) t.events
    × AreReplies qs rs ts
AreReplies qs rs ts = ⊥

-- A client that stood for some requests stands for these questions besides.
pub record AsksQuestions (config : Config) (nonce : List ℕ) (ts : List Made) (read wrote : List ℕ)
    (qs : List Question) (rs : List Reply) (old now : Line) (after : Client) : Type 0 where
  pub made : List Made
  pub are : AreReplies qs rs made
  pub taken : List ℕ
  pub sent : List ℕ
  pub moved : MovesLine old now taken sent
  pub stands : StandsForCalls config nonce (ts ++ made) (read ++ taken) (wrote ++ sent) after
      now.buffer

-- So does one that stood for any.
abbrev pub AddsQuestions : List Question → List Reply → Client → Line → Client → Line → Type 0
AddsQuestions qs rs before old after now =
    (config : Config) (nonce : List ℕ) (ts : List Made) (read wrote : List ℕ) →
    StandsForCalls config nonce ts read wrote before old.buffer →
    AsksQuestions config nonce ts read wrote qs rs old now after

-- ---- where an error ends it

-- Why an error ended a question: it is no reply, and as the call's answer it has its reason in what was
-- read for the question and sent, and in what the link's calls did meanwhile.
pub record IsQuestionReason (q : Question) (before : Client) (old : Line) (after : Client)
    (now : Line)
    (broken : Bool) (e : ClientError) : Type 0 where
  pub no_reply : error_reply e broken ≡ Err e
  pub taken : List ℕ
  pub sent : List ℕ
  pub moved : MovesLine old now taken sent
  pub comes : Comes reply_answer (Pause old now) (request_of q) before (old.buffer ++ taken) sent
      after now.buffer (Err e) broken

-- The error has its reason. A client that stood for some requests stands behind this question's by it: for
-- the request too, or for a front of its segment, or for none more where it has no encoding.
pub record FailsQuestion (q : Question) (before : Client) (old : Line) (after : Client)
    (now : Line)
    (broken : Bool) (e : ClientError) : Type 0 where
  pub reason : IsQuestionReason q before old after now broken e
  pub stands : (config : Config) (nonce : List ℕ) (ts : List Made) (read wrote : List ℕ)
      → StandsForCalls config nonce ts read wrote before old.buffer
      → (taken sent : List ℕ) × MovesLine old now taken sent
      × StandsBehind reply_answer config nonce ts (request_of q)
      (read ++ taken) (wrote ++ sent) after now.buffer (Err e) broken

-- the first of the questions were replied, and behind them the next one came to this error
pub record StopsAtQuestion (config : Config) (nonce : List ℕ) (ts : List Made)
    (read wrote : List ℕ)
    (qs : List Question) (old now : Line) (after : Client) (broken : Bool) (e : ClientError)
    : Type 0 where
  pub asked : List Question
  pub next : Question
  pub behind : List Question
  pub cut : qs ≡ asked ++ next ∷ behind
  pub replies : List Reply
  pub between : Client
  pub mid : Line
  pub stood : AsksQuestions config nonce ts read wrote asked replies old mid between
  pub fails : FailsQuestion next between mid after now broken e

-- the first of the questions were replied, and memory was wanting to keep the replies
pub record Forgets (config : Config) (nonce : List ℕ) (ts : List Made) (read wrote : List ℕ)
    (qs : List Question) (old now : Line) (after : Client) (broken : Bool) (e : ClientError)
    : Type 0 where
  pub asked : List Question
  pub behind : List Question
  pub cut : qs ≡ asked ++ behind
  pub replies : List Reply
  pub stood : AsksQuestions config nonce ts read wrote asked replies old now after
  pub lacked : e ≡ client.OutOfMemory
  pub usable : broken ≡ false

-- It is one of these, whatever the client stood for.
abbrev pub StopsQuestions : List Question → Client → Line → Client → Line → Bool → ClientError
    → Type 0
StopsQuestions qs before old after now broken e =
    (config : Config) (nonce : List ℕ) (ts : List Made) (read wrote : List ℕ) →
    StandsForCalls config nonce ts read wrote before old.buffer →
    StopsAtQuestion config nonce ts read wrote qs old now after broken e
    ⊎ Forgets config nonce ts read wrote qs old now after broken e
