-- What is said to a server with no answer awaited.
use Rattle.std.specs.Prelude.{◌≡◌, ℕ, ℤ, Bool, true, false, List, [], ◌∷◌, Option, Some, None, Ok, Err}
use Rattle.std.specs.Bool.{Decides}
use Rattle.pgw_types.specs.declared.error.PgWireError.{PgWireError}
use Rattle.pgw_wire.specs.declared.secret_key.SecretKey.{SecretKey}
use Rattle.pgw_backend.specs.declared.client_error.PgWireClientError.{PgWireClientError as ClientError}
use Rattle.pgw_backend.specs.declared.client_error.PgWireClientError.TheVariants as client
use Rattle.pgw_dialogue.specs.Wire.{Unless}
use Rattle.pgw_frontend.specs.declared.frontend.PgWireFrontendMessage.{PgWireFrontendMessage as Frontend}
use Rattle.pgw_frontend.specs.declared.frontend.PgWireFrontendMessage.TheVariants as frontend
use Rattle.pgw_frontend.specs.Frontend.{encodings}
use Rattle.pgw_tokio.specs.declared.client.AsyncClient.{AsyncClient}
use Rattle.pgw_tokio.specs.declared.sending.Sending.{Sending}
use Rattle.pgw_tokio.specs.Client.{IsUsable, stream_in}
use Rattle.pgw_tokio.specs.Sending.{IsToSend}

-- the message's spelling is put out; or nothing is, since it has none or memory was wanting
abbrev pub PutsMessage : Frontend → List ℕ → Option ClientError → Type 0
PutsMessage m out None = encodings (m ∷ []) ≡ Ok out
PutsMessage m out (Some e) =
    (out ≡ []) × Unless e ((why : PgWireError) × (encodings (m ∷ []) ≡ Err why)
    × (e ≡ client.PgWireError why))

-- that a connection ends, where it can be used
abbrev pub PutsEnd : Bool → List ℕ → Option ClientError → Type 0
PutsEnd true out refusal = PutsMessage (frontend.Terminate (record {})) out refusal
PutsEnd false out refusal = (out ≡ []) × (refusal ≡ Some client.Broken)

-- what this client's connection is to write at its end
pub record IsClosingOf {S : Type 0} (old : AsyncClient S) (f : Sending S) : Type 0 where
  pub is_usable : Bool
  pub decides : Decides is_usable (IsUsable old)
  pub bytes : List ℕ
  pub refusal : Option ClientError
  pub puts : PutsEnd is_usable bytes refusal
  pub sends : IsToSend (stream_in old) bytes refusal f

-- a request to cancel what is done for the client of this process number and this key
pub record IsCancelOf {S : Type 0} (process_id : ℤ) (key : SecretKey) (stream : S) (f : Sending S)
    :
    Type 0 where
  pub bytes : List ℕ
  pub refusal : Option ClientError
  pub puts : PutsMessage (frontend.CancelRequest (record { pid = process_id; secret_key = key }))
      bytes refusal
  pub sends : IsToSend stream bytes refusal f
