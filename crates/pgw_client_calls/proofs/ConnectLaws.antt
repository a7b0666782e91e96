-- Connecting, and canceling over a link of its own.
use Rattle.std.proofs.Common.{◌≡◌, ◌<◌, ℕ, Bool, false, List, [], ◌∷◌, ◌++◌, Option, Some, None, Result, Ok, Err, sym, ap, subst, ◌∙◌, arith}
use Rattle.pgw_types.specs.declared.config_error.ConfigError.{ConfigError}
use Rattle.pgw_backend.specs.ClientError.{of_config}
use Rattle.pgw_backend.specs.declared.client_error.PgWireClientError.{PgWireClientError as ClientError}
use Rattle.pgw_backend.specs.declared.client_error.PgWireClientError.TheVariants as client
use Rattle.pgw_types.specs.declared.address.Address.{Address}
use Rattle.pgw_config.specs.declared.config.Config.{Config}
use Rattle.pgw_config.specs.Address.{address_of}
use Rattle.pgw_config.specs.Answers.{IsConfigAnswer}
use Rattle.pgw_types.specs.Counts.{Rose}
use Rattle.pgw_link.specs.Tape.{Tape}
use Rattle.pgw_link.specs.Dials.{DialTape, Dialled, Shut, CountsClose}
use Rattle.pgw_session.specs.Demands.{refused_config}
use Rattle.pgw_dialogue.specs.Demands.{ChecksDemand}
use Rattle.pgw_handlers.specs.Client.{Client}
use Rattle.pgw_handlers.specs.Handling.{HandlerView, CallAnswer, IsCaused}
use Rattle.pgw_handlers.specs.declared.client_info.ServerInformation.{ServerInformation}
use Rattle.pgw_client_calls.specs.Talk.{end, Hearing}
use Rattle.pgw_client_calls.specs.Desk.{with_information}
use Rattle.pgw_client_calls.specs.Line.{Line, line}
use Rattle.pgw_client_calls.specs.Calls.{LineCall}
use Rattle.pgw_client_calls.specs.Connecting.{goes_on_never, LeadsTo, LacksAddress, IsRefusedBy, DialsOnce, LogsIn, new_line}

-- ---- the address

pub leads : (config : Config) (address : Address) (o : Option (List ℕ)) → o ≡ refused_config config
    → ChecksDemand o (Ok tt) → address_of config ≡ Ok address → LeadsTo config address
leads config address None is c at = (sym is, at)
leads config address (Some key) is c at = absurd c

pub lacks : (config : Config) (why : ConfigError) (e : ClientError) → IsConfigAnswer (Err why) (address_of config)
    → e ≡ of_config why → LacksAddress config e
lacks config why e is same = λ other. (why, is (λ short. other (same ∙ ap of_config short)), same)

pub refused_demand : (config : Config) (e : ClientError) (o : Option (List ℕ)) → ChecksDemand o (Err e)
    → IsRefusedBy o config e
refused_demand config e None c = absurd c
refused_demand config e (Some key) c = c

-- ---- a login

pub logged_in : {S : Type 0} (opens : HandlerView S → HandlerView S → CallAnswer ServerInformation → Type 0)
    (M : Hearing S ServerInformation) (h : S) (c info told : Client) (old new : Line)
    (information : ServerInformation) (broken : Bool)
    → LineCall opens M goes_on_never h c old new (end (Ok information) told broken new.buffer) → broken ≡ false
    → info ≡ with_information information told → LogsIn opens M h c old new info (Ok tt)
logged_in opens M h c info told old new information broken call usable same = (
  information,
  told,
  subst
      (λ (b : Bool). LineCall opens M goes_on_never h c old new (end (Ok information) told b new.buffer)) usable
      call,
  same,
)

pub not_taken_in : {S : Type 0} (opens : HandlerView S → HandlerView S → CallAnswer ServerInformation → Type 0)
    (M : Hearing S ServerInformation) (h : S) (c told : Client) (old new : Line) (information : ServerInformation)
    (broken : Bool)
    → LineCall opens M goes_on_never h c old new (end (Ok information) told broken new.buffer) → broken ≡ false
    → LineCall opens M goes_on_never h c old new (end (Ok information) told false new.buffer)
not_taken_in opens M h c told old new information broken call usable =
    subst (λ (b : Bool). LineCall opens M goes_on_never h c old new (end (Ok information) told b new.buffer))
    usable call

-- a client that was made over a link begins with nothing
pub from_new : {S : Type 0} (opens : HandlerView S → HandlerView S → CallAnswer ServerInformation → Type 0)
    (M : Hearing S ServerInformation) (h : S) (c also info : Client) (t made : Tape)
    (faults read limit also_limit : ℕ) (buffer : List ℕ) (new : Line) (r : Result (Unit {0}) ClientError)
    → also ≡ c → made ≡ t → faults ≡ 0 → buffer ≡ [] → read ≡ 0 → also_limit ≡ limit
    → LogsIn opens M h also (line made faults buffer read also_limit) new info r
    → LogsIn opens M h c (new_line t limit) new info r
from_new opens M h c also info t made faults read limit also_limit buffer new r e1 e2 e3 e4 e5 e6 l =
    subst (λ (x : Client). LogsIn opens M h x (line t 0 [] 0 limit) new info r) e1
    (subst (λ (x : Tape). LogsIn opens M h also (line x 0 [] 0 limit) new info r) e2
    (subst (λ (x : ℕ). LogsIn opens M h also (line made x [] 0 limit) new info r) e3
    (subst (λ (x : List ℕ). LogsIn opens M h also (line made faults x 0 limit) new info r) e4
    (subst (λ (x : ℕ). LogsIn opens M h also (line made faults buffer x limit) new info r) e5
    (subst (λ (x : ℕ). LogsIn opens M h also (line made faults buffer read x) new info r) e6 l)))))

-- ---- the dialer

pub once : (to : Address) (old between new : DialTape) (first after : Tape) → Dialled to old between first
    → Shut between new after → DialsOnce to old new first after
once to old between new first after d s =
    record {
      dialled = s.dialled ∙ d.dialled;
      fresh = d.fresh;
      shut = s.shut
          ∙ ap (λ (l : List Tape). l ++ after ∷ []) d.shut;
    }

pub rose_some : (before faults : ℕ) → Rose before faults → 0 < faults
rose_some before faults r = omega (arith, r)

pub counts_from : (before dialled now faults : ℕ) → dialled ≡ before → CountsClose dialled now faults
    → CountsClose before now faults
counts_from before dialled now faults same c = subst (λ (n : ℕ). CountsClose n now faults) same c

pub failed_some : (e : ClientError) (before faults : ℕ) → before ≡ 0 → IsCaused e before faults false
    → e ≡ client.IoError → 0 < faults
failed_some e before faults none caused is =
    let rose : Rose before faults = subst (λ (x : ClientError). IsCaused x before faults false) is caused in
    rose_some before faults rose

-- a failed call of a link raises its dialer's count as the link is closed
pub rose_once : (before dialled now none faults : ℕ) → none ≡ 0 → dialled ≡ before → Rose none faults
    → CountsClose dialled now faults → Rose before now
rose_once before dialled now none faults is same rose counts =
    (counts_from before dialled now faults same counts).failed (rose_some none faults rose)
