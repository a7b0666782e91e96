-- A client's login, by its answer.
use Rattle.std.specs.Prelude.{◌≡◌, ◌⊎◌, ◌≤◌, ℕ, ◌+◌, Bool, true, false, List, [], ◌∷◌, ◌++◌, length, None, Result, Ok, Err}
use Rattle.pgw_types.specs.declared.error.PgWireError.{PgWireError}
use Rattle.pgw_backend.specs.declared.client_error.PgWireClientError.{PgWireClientError as ClientError}
use Rattle.pgw_backend.specs.declared.client_error.PgWireClientError.TheVariants as client
use Rattle.pgw_frontend.specs.Frontend.{encodings}
use Rattle.pgw_config.specs.declared.config.Config.{Config}
use Rattle.pgw_session.specs.Input.{Input}
use Rattle.pgw_session.specs.Events.{Event}
use Rattle.pgw_session.specs.Standings.{first_standing, standing_of}
use Rattle.pgw_session.specs.Segments.{IsStartupSegment, startup_message}
use Rattle.pgw_session.specs.Failures.{HasNoPlace, FailsAtStartup, Unreadable, Unsendable, LeftWith, WaitsStill, IsHopeless, IsUnfinished, BytesTell}
use Rattle.pgw_handlers.specs.declared.client_info.ServerInformation.{ServerInformation}
use Rattle.pgw_handlers.specs.Client.{Client}
use Rattle.pgw_session.specs.Transcript.{SpellsGot, EncodesSent}
use Rattle.pgw_client_calls.specs.Line.{Line, Reasons}
use Rattle.pgw_client_calls.specs.Talk.{CallEnd}
use Rattle.pgw_client_calls.specs.Desk.{first_client, with_information}
use Rattle.pgw_client_laws.specs.Turns.{AreExchanged, knowing}
use Rattle.pgw_client_laws.specs.Stands.{login}

-- The events are the startup segment. A client that is given the information knows what they tell, and the parameters of
-- both are the same.
pub record LoggedIn (config : Config) (nonce bytes sent : List ℕ)
    (information : ServerInformation) (info : Client) (rest : List ℕ) : Type 0 where
  pub es : List Event
  pub segment : IsStartupSegment (login config nonce) es
  pub exchanged : AreExchanged config (first_standing config) bytes sent es
      (with_information information info) rest
  pub parameters : information.parameters ≡ info.parameters

-- The startup message has no encoding, and nothing was done.
abbrev pub IsUnopened : Config → List ℕ → List ℕ → List ℕ → PgWireError → Client → List ℕ → Type 0
IsUnopened config nonce bytes sent why info rest =
    (encodings (startup_message (login config nonce) ∷ []) ≡ Err why) × (sent ≡ [])
    × (info ≡ first_client config) × (rest ≡ bytes)

-- a message is next at startup for which this error stands
abbrev pub IsRefusedStartup : Input → List ℕ → List ℕ → ClientError → Type 0
IsRefusedStartup input bytes sent e = FailsAtStartup input bytes sent e × IsHopeless input bytes

-- of what the login tells over these bytes, some was not written and flushed, which P says why, and what would follow it
abbrev pub IsUnsentStartup : Reasons → Input → List ℕ → List ℕ → Type 0
IsUnsentStartup P input bytes sent =
    (lost : List ℕ) × P.unsent lost × (more : List ℕ)
    × BytesTell input bytes (sent ++ (lost ++ more))

-- The cause of each error, where these bytes came and these were written. P says why no more came, and why some were not
-- written. No other error comes.
abbrev pub LoginFails : Reasons → Input → List ℕ → List ℕ → ClientError → Type 0
LoginFails P input bytes sent client.OutOfMemory = Unit {0}
LoginFails P input bytes sent (client.PgWireError why) =
    ((Unreadable input bytes sent why ⊎ Unsendable input bytes sent why) × IsHopeless input bytes)
    ⊎ IsRefusedStartup input bytes sent (client.PgWireError why)
LoginFails P input bytes sent (client.UnexpectedMessage m) =
    HasNoPlace input ⊥ bytes sent m × IsHopeless input bytes
LoginFails P input bytes sent client.UnexpectedEOF =
    P.halts client.UnexpectedEOF × LeftWith input bytes sent None × IsUnfinished input bytes
LoginFails P input bytes sent client.ReadLimit =
    P.halts client.ReadLimit × WaitsStill input bytes sent
LoginFails P input bytes sent client.IoError =
    (P.halts client.IoError × WaitsStill input bytes sent) ⊎ IsUnsentStartup P input bytes sent
LoginFails P input bytes sent (client.RemoteError e) =
    IsRefusedStartup input bytes sent (client.RemoteError e)
LoginFails P input bytes sent (client.ScramError fault) =
    IsRefusedStartup input bytes sent (client.ScramError fault)
LoginFails P input bytes sent (client.UnsupportedSASLAuthMethods methods) =
    IsRefusedStartup input bytes sent (client.UnsupportedSASLAuthMethods methods)
LoginFails P input bytes sent (client.InvalidConfig key) =
    IsRefusedStartup input bytes sent (client.InvalidConfig key)
LoginFails P input bytes sent e = ⊥

abbrev pub LoginEnds : Reasons → Config → List ℕ → List ℕ → List ℕ → Client → List ℕ
    → Result ServerInformation ClientError → Bool → Type 0
LoginEnds P config nonce bytes sent info rest (Ok information) false =
    LoggedIn config nonce bytes sent information info rest
LoginEnds P config nonce bytes sent info rest (Ok information) true = ⊥
LoginEnds P config nonce bytes sent info rest (Err e) true =
    LoginFails P (login config nonce) bytes sent e
LoginEnds P config nonce bytes sent info rest (Err (client.PgWireError why)) false =
    IsUnopened config nonce bytes sent why info rest
LoginEnds P config nonce bytes sent info rest (Err e) false = ⊥

-- a login came to this end
abbrev pub LoginCall : Config → List ℕ → List ℕ → List ℕ → Reasons → CallEnd ServerInformation
    → Type 0
LoginCall config nonce bytes sent P end =
    LoginEnds P config nonce bytes sent end.info end.rest end.answer end.broken

-- ---- where a link still has a whole startup segment

-- The bytes in the buffer and those to come begin with bytes that spell the messages of this startup
-- segment, and that the limit lets the client read; and its messages to the server have encodings.
pub record StillLogsIn (config : Config) (nonce : List ℕ) (old : Line) (coming : List ℕ)
    (es : List Event) : Type 0 where
  pub segment : IsStartupSegment (login config nonce) es
  pub spelled : List ℕ
  pub more : List ℕ
  pub begins : old.buffer ++ coming ≡ spelled ++ more
  pub got : SpellsGot (first_standing config) es spelled
  pub within : old.read + length spelled ≤ old.limit + length old.buffer
  pub sent : List ℕ
  pub put : EncodesSent es sent

-- The login ends in a client that can be used, and knows what the segment tells; or memory was
-- wanting.
abbrev pub IsLetIn : Config → List Event → Result ServerInformation ClientError → Client → Bool →
    Type 0
IsLetIn config es (Ok information) info broken =
    (with_information information info ≡ knowing config (standing_of config es))
    × (information.parameters ≡ info.parameters) × (broken ≡ false)
IsLetIn config es (Err client.OutOfMemory) info broken = Unit {0}
IsLetIn config es (Err e) info broken = ⊥
