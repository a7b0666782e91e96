-- The messages that a server took on its way to a place, what it said to each, and what it put out.
use Rattle.std.specs.Prelude.{◌≡◌, ℕ, List, [], ◌∷◌, ◌++◌, drop, Ok}
use Rattle.pgw_frontend.specs.declared.frontend.PgWireFrontendMessage.{PgWireFrontendMessage as Message}
use Rattle.pgw_frontend.specs.declared.frontend.PgWireFrontendMessage.TheVariants as frontend
use Rattle.pgw_backend.specs.declared.backend.PgWireBackendMessage.{PgWireBackendMessage as Backend}
use Rattle.pgw_machine.specs.Course.{Whole, Move, On, Ends, Course}
use Rattle.pgw_machine.specs.Play.{Leads, waits, stops, breaks, ends, goes}
use Rattle.pgw_login.specs.Acts.{Standing, Answer}
use Rattle.pgw_login_server.specs.Server.{Stage, ServerEnding, Steps, server_encodings, stage_front, serving}

-- what a handler does with a message
abbrev pub Acts : Type 1
Acts = Message → Standing → Standing → List Backend → Answer → Type 0

-- a message that was taken: at which stage, what was said to it, and the bytes that were put out
pub record Taken : Type 0 where
  pub stage : Stage
  pub message : Message
  pub said : List Backend
  pub put : List ℕ

-- no message is said to a request for encryption, or to cancel
abbrev pub server_reply : (means : Acts) (stage : Stage) (m : Message)
    (move : Move Stage ServerEnding)
    → Steps means stage m move → List Backend
server_reply means stage (frontend.SslNegotiation n) move step = []
server_reply means stage (frontend.CancelRequest r) move step = []
server_reply means stage m move step = step.1

abbrev pub put_by : Move Stage ServerEnding → List ℕ
put_by (On stage out) = out
put_by (Ends ending out) = out

abbrev pub taken_step : (means : Acts) (stage : Stage) (m : Message)
    (move : Move Stage ServerEnding)
    → Steps means stage m move → Taken
taken_step means stage m move step =
    record {
      stage = stage;
      message = m;
      said = server_reply means stage m move step;
      put = put_by
          move;
    }

-- the messages taken on this way, in order, that which ended it too
abbrev pub taken_in : (means : Acts) (stage : Stage) (bytes : List ℕ)
    (course : Course Stage ServerEnding)
    → Leads (serving means) stage bytes course → List Taken
taken_in means stage bytes course (waits s bs more) = []
taken_in means stage bytes course (stops s bs why ending bad refuses) = []
taken_in means stage bytes course (breaks s bs ending b) = []
taken_in means stage bytes course (ends s bs m len ending out read step) =
    taken_step means s m (Ends ending out) step ∷ []
taken_in means stage bytes course (goes s next bs m len out c read step on) =
    taken_step means s m (On next out) step ∷ taken_in means next (drop len bs) c on

-- `N` is put out to a request for encryption, and else the encodings of what is said
abbrev pub IsPut : Message → List Backend → List ℕ → Type 0
IsPut (frontend.SslNegotiation n) said put = (said ≡ []) × (put ≡ 78 ∷ [])
IsPut m said put = server_encodings said ≡ Ok put

-- these messages stand one after the other at the front of the bytes given, and what is put out to
-- each, in turn, is all that is put out
abbrev pub Accounts : List Taken → (given put : List ℕ) → Type 0
Accounts [] given put = put ≡ []
Accounts (t ∷ ts) given put = (len : ℕ) × (more : List ℕ)
    × (stage_front t.stage given ≡ Whole t.message len) × IsPut t.message t.said t.put
    × (put ≡ t.put ++ more) × Accounts ts (drop len given) more
