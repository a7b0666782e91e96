-- What a connect and a cancel do to their dialer, and what they answer.
use Rattle.std.specs.Prelude.{◌≡◌, ◌≢◌, ◌⊎◌, ◌<◌, ◌≤◌, ℕ, Bool, true, false, List, [], ◌∷◌, ◌++◌, Option, Some, None, Result, Ok, Err, IfOk, IfErr, OnOk}
use Rattle.pgw_types.specs.declared.config_error.ConfigError.{ConfigError}
use Rattle.pgw_backend.specs.ClientError.{of_config}
use Rattle.pgw_backend.specs.declared.client_error.PgWireClientError.{PgWireClientError as ClientError}
use Rattle.pgw_backend.specs.declared.client_error.PgWireClientError.TheVariants as client
use Rattle.pgw_types.specs.declared.address.Address.{Address}
use Rattle.pgw_config.specs.declared.config.Config.{Config}
use Rattle.pgw_config.specs.Address.{address_of}
use Rattle.pgw_types.specs.Counts.{Rose}
use Rattle.pgw_link.specs.Tape.{Tape, new_tape}
use Rattle.pgw_link.specs.Dials.{DialTape, Dialled, NotDialled, CountsClose, MakesNext}
use Rattle.pgw_session.specs.Demands.{refused_config}
use Rattle.pgw_dialogue.specs.Demands.{IsInvalidConfig}
use Rattle.pgw_handlers.specs.Client.{Client}
use Rattle.pgw_handlers.specs.Handling.{HandlerView, CallAnswer, HasCause}
use Rattle.pgw_handlers.specs.Startup.{StartupCall, startup, HeardAtStartup}
use Rattle.pgw_handlers.specs.declared.client_info.ServerInformation.{ServerInformation}
use Rattle.pgw_client_calls.specs.Talk.{end, Hearing}
use Rattle.pgw_client_calls.specs.Desk.{first_client, with_information}
use Rattle.pgw_client_calls.specs.Line.{Line, Foretold, line}
use Rattle.pgw_client_calls.specs.State.{ClientState, line_of}
use Rattle.pgw_client_calls.specs.Calls.{LineCall}

-- behind no error a login goes on
abbrev pub goes_on_never : ClientError → Bool
goes_on_never e = false

-- ---- the address

abbrev pub LeadsTo : Config → Address → Type 0
LeadsTo config address = (refused_config config ≡ None) × (address_of config ≡ Ok address)

-- the configuration has no address, which is refused so; or memory was wanting
abbrev pub LacksAddress : Config → ClientError → Type 0
LacksAddress config e = e ≢ client.OutOfMemory →
    (why : ConfigError) × (address_of config ≡ Err why) × (e ≡ of_config why)

-- a demand is refused by its key; else there is no address
abbrev pub IsRefusedBy : Option (List ℕ) → Config → ClientError → Type 0
IsRefusedBy (Some key) config e = IsInvalidConfig key e
IsRefusedBy None config e = LacksAddress config e

-- ---- the dialer

-- the dial gave no link
pub record NoLink (foretells : Type 0) (to : Address) (was is : Option (List (List ℕ)))
    (old new : DialTape) (before now : ℕ) (e : ClientError) : Type 0 where
  pub why : ((e ≡ client.IoError) × Rose before now)
      ⊎ ((e ≡ client.OutOfMemory) × (now ≡ before))
  pub tape : NotDialled to old new
  pub offers : foretells → is ≡ was

-- one link was dialled, which told `first` then; and it was closed, when it told `after`
pub record DialsOnce (to : Address) (old new : DialTape) (first after : Tape) : Type 0 where
  pub dialled : new.dialled ≡ old.dialled ++ (to, true) ∷ []
  pub fresh : first ≡ new_tape
  pub shut : new.shut ≡ old.shut ++ after ∷ []

-- ---- a connect

-- a login over a link: it ends with what the server told of itself, which the client takes in, unless memory is wanting
abbrev pub LogsIn : {S : Type 0}
    → (HandlerView S → HandlerView S → CallAnswer ServerInformation → Type 0)
    → Hearing S ServerInformation → S → Client → Line → Line → Client
    → Result (Unit {0}) ClientError → Type 0
LogsIn opens M handler c old new info (Ok done) =
    (information : ServerInformation) × (told : Client)
    × LineCall opens M goes_on_never handler c old new
    (end (Ok information) told false new.buffer)
    × (info ≡ with_information information told)
LogsIn opens M handler c old new info (Err e) =
    ((last : Client) × (broken : Bool) × LineCall opens M goes_on_never handler c old new
    (end (Err e) last broken new.buffer)) ⊎
    ((e ≡ client.OutOfMemory) × (information : ServerInformation) × (told : Client) × LineCall
    opens M goes_on_never handler c old new (end (Ok information) told false new.buffer))

-- before anything is read or written
abbrev pub new_line : Tape → ℕ → Line
new_line tape limit = line tape 0 [] 0 limit

-- a link to the address was dialled, and a login over it ended well
pub record ConnectedAt {S : Type 0}
    (opens : HandlerView S → HandlerView S → CallAnswer ServerInformation → Type 0)
    (M : Hearing S ServerInformation) (handler : S) (config : Config) (limit : ℕ)
    (address : Address) (old new : DialTape) (info : Client) (now : Line) : Type 0 where
  pub first : Tape
  pub dialled : Dialled address old new first
  pub logs_in : LogsIn opens M handler (first_client config) (new_line first limit) now info
      (Ok tt)

-- as ConnectedAt, at the address of the configuration
abbrev pub Connected : {S : Type 0}
    → (HandlerView S → HandlerView S → CallAnswer ServerInformation → Type 0)
    → Hearing S ServerInformation → S → Config → ℕ → DialTape → DialTape → Client → Line
    → Type 0
Connected opens M handler config limit old new info now =
    (address : Address) × LeadsTo config address
    × ConnectedAt opens M handler config limit address old new info now

-- a link was dialled, a login over it failed, and the link was closed
pub record ClosedAgain {S : Type 0} (foretells : Type 0)
    (opens : HandlerView S → HandlerView S → CallAnswer ServerInformation → Type 0)
    (M : Hearing S ServerInformation) (handler : S) (config : Config) (limit : ℕ)
    (address : Address)
    (was is : Option (List (List ℕ))) (old new : DialTape) (before now : ℕ) (e : ClientError)
    : Type 0 where
  pub faults : ℕ
  pub counts : CountsClose before now faults
  pub io : e ≡ client.IoError → 0 < faults
  pub tape : (first : Tape) × (last : Line) × (info : Client)
      × DialsOnce address old new first last.tape × (last.faults ≡ faults) × (last.read ≤ limit) ×
      LogsIn opens M handler (first_client config) (new_line first limit) last info (Err e) ×
      (foretells → (offer left : Option (List ℕ)) × MakesNext was is offer
      × Foretold offer left first last.tape)

-- at an address there was no link, or the login over it failed
abbrev pub NotConnectedAt : {S : Type 0} → Type 0 →
    (HandlerView S → HandlerView S → CallAnswer ServerInformation → Type 0)
    → Hearing S ServerInformation → S →
    Config → ℕ → Address → Option (List (List ℕ)) → Option (List (List ℕ)) → DialTape → DialTape →
    ℕ → ℕ → ClientError → Type 0
NotConnectedAt foretells opens M handler config limit address was is old new before now e =
    NoLink foretells address was is old new before now e ⊎
    ClosedAgain foretells opens M handler config limit address was is old new before now e

-- Why a connect was refused: by a demand of the configuration, for want of an address or of memory, and then `same` says
-- that the dialer is as it was; or it failed at the address.
abbrev pub NotConnected : {S : Type 0} → Type 0 → Type 0 →
    (HandlerView S → HandlerView S → CallAnswer ServerInformation → Type 0)
    → Hearing S ServerInformation → S →
    Config → ℕ → Option (List (List ℕ)) → Option (List (List ℕ)) → DialTape → DialTape → ℕ → ℕ →
    ClientError → Type 0
NotConnected same foretells opens M handler config limit was is old new before now e =
    (same × IsRefusedBy (refused_config config) config e)
    ⊎ ((address : Address) × LeadsTo config address × NotConnectedAt foretells opens M handler
    config limit address was is old new before now e)

-- A client was connected by such a configuration and handler, over a link of this dialer; or why not.
pub record Connects {Y X S : Type 0} (foretells : Type 0) (offers : Y → Option (List (List ℕ)))
    (dials : Y → DialTape) (failed : Y → ℕ) (left : X → Option (List ℕ)) (tape : X → Tape)
    (faults : X → ℕ) (exchanges : S → Bool)
    (M : HandlerView S → StartupCall → HandlerView S → CallAnswer ServerInformation → Type 0)
    (handler : S)
    (config : Config) (limit : ℕ) (old new : Y) (result : Result (ClientState X) ClientError)
    : Type 0 where
  -- The client stands over the link that was dialled, the handler's meaning over it ended with what the server told of
  -- itself, and that was taken in.
  pub connected : IfOk result (λ client.
      Connected (λ before after answer. M before startup after answer)
      (HeardAtStartup exchanges M)
      handler config limit (dials old) (dials new) client.known (line_of tape faults client))
  -- else it was refused before a dial, or there is no link, or the login failed and its link was closed
  pub refused : IfErr result (NotConnected (new ≡ old) foretells
      (λ before after answer. M before startup after answer) (HeardAtStartup exchanges M)
      handler config limit (offers old) (offers new) (dials old) (dials new)
      (failed old) (failed new))
  -- Of a dialer that knows its offers: its next link was made, the bytes taken are the front of what that had to come, and
  -- the end is answered behind the last byte.
  pub foretold : foretells → IfOk result (λ client. (offer : Option (List ℕ))
      × MakesNext (offers old) (offers new) offer
      × Foretold offer (left client.link) new_tape (tape client.link))
  -- IoError comes only where the dialer's count rose, and Broken never
  pub cause : HasCause (failed old) (failed new) false result
  pub usable : IfOk result (λ client. client.broken ≡ false)
  -- No call of the dialer or of the link failed, and the reads are within the limit.
  pub calm : OnOk result (failed new ≡ failed old)
  pub within : IfOk result (λ client. client.read ≤ client.limit)
  pub config_is : IfOk result (λ client. (client.known).config ≡ config)
  pub limit_is : IfOk result (λ client. client.limit ≡ limit)
