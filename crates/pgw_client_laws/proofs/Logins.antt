-- What the default handler of a login does with a message, by the table.
use Rattle.std.proofs.Common.{◌≡◌, ◌⊎◌, ℕ, Bool, true, false, not, List, [], Option, Some, None, Ok, Err, inl, inr, refl, sym, ◌∙◌, ap, subst}
use Rattle.std.specs.FinMap as finite
use Rattle.pgw_types.specs.declared.context.ProtocolVersion.{ProtocolVersion}
use Rattle.pgw_types.specs.declared.error.PgWireError.{PgWireError}
use Rattle.pgw_startup.specs.Negotiate.{negotiated_version}
use Rattle.pgw_startup.specs.declared.authentication.Authentication.{Authentication}
use Rattle.pgw_startup.specs.declared.authentication.Authentication.TheVariants as authentication
use Rattle.pgw_startup.specs.declared.backend_key_data.BackendKeyData.{BackendKeyData}
use Rattle.pgw_startup.specs.declared.parameter_status.ParameterStatus.{ParameterStatus}
use Rattle.pgw_query.specs.Rows.{NoticeResponse, ErrorResponse}
use Rattle.pgw_startup.specs.declared.negotiate.NegotiateProtocolVersion.{NegotiateProtocolVersion}
use Rattle.pgw_backend.specs.ClientError.{IsUnexpected}
use Rattle.pgw_backend.specs.declared.backend.PgWireBackendMessage.{PgWireBackendMessage as Backend}
use Rattle.pgw_backend.specs.declared.backend.PgWireBackendMessage.TheVariants as backend
use Rattle.pgw_backend.specs.declared.client_error.PgWireClientError.{PgWireClientError as ClientError}
use Rattle.pgw_backend.specs.declared.client_error.PgWireClientError.TheVariants as client
use Rattle.pgw_query.specs.declared.response.ReadyForQuery.{ReadyForQuery}
use Rattle.pgw_frontend.specs.declared.frontend.PgWireFrontendMessage.{PgWireFrontendMessage as Frontend}
use Rattle.pgw_frontend.specs.Frontend.{encoding, encodings, both}
use Rattle.pgw_scram.specs.declared.exchange.ClientLogin.{ClientLogin}
use Rattle.pgw_session.specs.declared.tally.Tally.{Tally}
use Rattle.pgw_session.specs.declared.standing.Standing.{Standing as Told}
use Rattle.pgw_session.specs.declared.stage.Stage.{Stage}
use Rattle.pgw_session.specs.declared.stage.Stage.TheVariants.{Starting, Challenged, Proving, Admitted, Answering, PassingOver}
use Rattle.pgw_session.specs.declared.stage.Next.{Next}
use Rattle.pgw_session.specs.declared.stage.Next.TheVariants.{Goes, Closes, Wrong, PassesOver}
use Rattle.pgw_session.specs.declared.stage.Next.TheVariants as next
use Rattle.pgw_session.specs.Input.{Input}
use Rattle.pgw_session.specs.Logins.{must_bind, cleartext_message, md5_message, scram_login, methods_refusal, first_refusal, final_refusal, expected_of, first_message, final_message}
use Rattle.pgw_session.specs.Segments.{is_news, is_early, is_known, sends}
use Rattle.pgw_session.specs.Standings.{standing_by}
use Rattle.pgw_session.specs.Answers.{tally_after, noted_unless}
use Rattle.pgw_session.specs.Table.{next_after as table, news_or, by_login, by_welcome, by_first, by_final, next_unless, unless_bound}
use Rattle.pgw_handlers.specs.declared.client_info.ReadyState.{ReadyState}
use Rattle.pgw_handlers.specs.declared.client_info.ReadyState.TheVariants.{Pending, Ready}
use Rattle.pgw_handlers.specs.declared.client_info.ServerInformation.{ServerInformation}
use Rattle.pgw_handlers.specs.Client.{Client, Sight, with_sight_version, with_parameter, with_sight_status}
use Rattle.pgw_handlers.specs.Sending.{NotSent, after_sending}
use Rattle.pgw_handlers.specs.Handling.{HandlerView, standing, CallAnswer, IsCaused}
use Rattle.pgw_handlers.specs.Startup.{may_come_in_login, HearsStartup, HearsIf, HeardAtStartup, SettlesBy}
use Rattle.pgw_handlers_default.specs.declared.startup.DefaultStartupHandler.{DefaultStartupHandler}
use Rattle.pgw_handlers_default.specs.Startup.{login_input, with_stage, with_handler_key, is_exchange, exchanges, FollowsNext, information, closes, Concludes, GivesInformation, StartupMeans}
use Rattle.pgw_session.proofs.Grammar.{early_news}
use Rattle.pgw_client_calls.specs.Talk.{fresh}
use Rattle.pgw_client_laws.proofs.Openings.{one_encoding, never_rose}
use Rattle.pgw_client_laws.specs.Turns.{knowing}
use Rattle.pgw_client_calls.specs.Desk.{insert_all, with_information}
use Rattle.pgw_client_laws.proofs.ParameterLaws.{inserted_again}

abbrev pub Handler : Type 0
Handler = DefaultStartupHandler

-- the client with the process number and the key that its handler kept
abbrev pub informed : ServerInformation → Client → Client
informed i c = record c { process_id = i.process_id; secret_key = i.secret_key }

-- where the handler gives the client's own parameters, nothing else changes
pub informed_is : (i : ServerInformation) (c : Client) → i.parameters ≡ c.parameters
    → with_information i c ≡ informed i c
informed_is i c same =
    ap (λ m. record c { parameters = m; process_id = i.process_id; secret_key = i.secret_key })
    (ap (λ m. insert_all c.parameters (finite.entries m)) same
    ∙ inserted_again c.parameters)

-- what was told of the connection, by what handler and client know
abbrev pub login_standing : Handler → Client → Told
login_standing h c =
    record {
      version = c.protocol_version;
      settled = false;
      parameters = c.parameters;
      process_id = h.process_id;
      secret_key = h.secret_key;
      status = c.transaction_status;
    }

-- ---- the table

-- a stage of a login
abbrev pub IsLogin : Stage → Type 0
IsLogin (Answering k rows) = ⊥
IsLogin PassingOver = ⊥
IsLogin s = Unit {0}

-- news, early and late
abbrev AreNews : Backend → Type 0
AreNews m = (b : Bool) → is_early b m ≡ true

news_taken : (input : Input) (s : Stage) (m : Backend) → IsLogin s → is_exchange s ≡ false → AreNews m
    → table input s m ≡ Goes s None
news_taken input Starting m l out is = rw (is (must_bind input)) refl
news_taken input Admitted m l out is = rw (early_news false m (is false)) refl
news_taken input (Challenged login) m l out is = absurd (cc)
news_taken input (Proving expected) m l out is = absurd (cc)
news_taken input (Answering k rows) m l out is = absurd l
news_taken input PassingOver m l out is = absurd l

-- it closes the segment, or has no place
abbrev Ends : Next → Type 0
Ends n = (n ≡ Closes) ⊎ (n ≡ Wrong)

unbound_ends : (b : Bool) → Ends (unless_bound b Closes)
unbound_ends true = inr refl
unbound_ends false = inl refl

ready_ends : (input : Input) (s : Stage) (ready : ReadyForQuery) → IsLogin s → is_exchange s ≡ false
    → Ends (table input s (backend.ReadyForQuery ready))
ready_ends input Starting ready l out = unbound_ends (must_bind input)
ready_ends input Admitted ready l out = inl refl
ready_ends input (Challenged login) ready l out = absurd (cc)
ready_ends input (Proving expected) ready l out = absurd (cc)
ready_ends input (Answering k rows) ready l out = absurd l
ready_ends input PassingOver ready l out = absurd l

error_refused : (input : Input) (s : Stage) (e : ErrorResponse) → IsLogin s
    → table input s (backend.ErrorResponse e) ≡ next.Refuses (client.RemoteError e)
error_refused input Starting e l = refl
error_refused input Admitted e l = refl
error_refused input (Challenged login) e l = refl
error_refused input (Proving expected) e l = refl
error_refused input (Answering k rows) e l = absurd l
error_refused input PassingOver e l = absurd l

-- within an exchange
by_first_wrong : (login : ClientLogin) (m : Backend) → may_come_in_login true m ≡ false → by_first login m ≡ Wrong
by_first_wrong login (backend.Authentication a) is = absurd (cc)
by_first_wrong login (backend.ErrorResponse e) is = absurd (cc)
by_first_wrong login m is = refl

by_final_wrong : (expected : List ℕ) (m : Backend) → may_come_in_login true m ≡ false
    → by_final expected m ≡ Wrong
by_final_wrong expected (backend.Authentication a) is = absurd (cc)
by_final_wrong expected (backend.ErrorResponse e) is = absurd (cc)
by_final_wrong expected m is = refl

exchange_wrong : (input : Input) (s : Stage) (m : Backend) → is_exchange s ≡ true
    → may_come_in_login true m ≡ false → table input s m ≡ Wrong
exchange_wrong input (Challenged login) m within is = by_first_wrong login m is
exchange_wrong input (Proving expected) m within is = by_final_wrong expected m is
exchange_wrong input s m within is = absurd (cc)

outside_wrong : (input : Input) (s : Stage) (m : Backend) → IsLogin s → is_exchange s ≡ false
    → is_early (must_bind input) m ≡ false → is_news m ≡ false → by_login input m ≡ Wrong → by_welcome m ≡ Wrong
    → table input s m ≡ Wrong
outside_wrong input Starting m l out early news first welcome = rw early first
outside_wrong input Admitted m l out early news first welcome = rw news welcome
outside_wrong input (Challenged login) m l out early news first welcome = absurd (cc)
outside_wrong input (Proving expected) m l out early news first welcome = absurd (cc)
outside_wrong input (Answering k rows) m l out early news first welcome = absurd l
outside_wrong input PassingOver m l out early news first welcome = absurd l

-- where an authentication request leads: to a stage of a login, or it is refused
abbrev Lands : Next → Type 0
Lands (Goes stage reply) = IsLogin stage
Lands Closes = ⊥
Lands PassesOver = ⊥
Lands n = Unit {0}

unless_lands : (o : Option ClientError) (n : Next) → Lands n → Lands (next_unless o n)
unless_lands None n l = l
unless_lands (Some e) n l = tt

unbound_lands : (b : Bool) (n : Next) → Lands n → Lands (unless_bound b n)
unbound_lands true n l = tt
unbound_lands false n l = l

-- AuthenticationOk before a login block
ok_lands : (b : Bool) → Lands (news_or (not b) Starting Wrong)
ok_lands true = tt
ok_lands false = tt

starting_lands : (input : Input) (a : Authentication) → Lands (table input Starting (backend.Authentication a))
starting_lands input authentication.Ok = ok_lands (must_bind input)
starting_lands input authentication.CleartextPassword =
    unbound_lands (must_bind input) (Goes Admitted (Some (cleartext_message input))) tt
starting_lands input (authentication.MD5Password salt) =
    unbound_lands (must_bind input) (Goes Admitted (Some (md5_message input salt))) tt
starting_lands input (authentication.SASL methods) =
    unless_lands (methods_refusal input methods)
    (Goes (Challenged (scram_login input methods)) (Some (first_message (scram_login input methods)))) tt
starting_lands input a = tt

first_lands : (login : ClientLogin) (a : Authentication) → Lands (by_first login (backend.Authentication a))
first_lands login (authentication.SASLContinue first) =
    unless_lands (first_refusal login first)
    (Goes (Proving (expected_of login first)) (Some (final_message login first))) tt
first_lands login a = tt

final_lands : (expected : List ℕ) (a : Authentication) → Lands (by_final expected (backend.Authentication a))
final_lands expected (authentication.SASLFinal final) =
    unless_lands (final_refusal expected final) (Goes Admitted None) tt
final_lands expected a = tt

admitted_lands : (input : Input) (a : Authentication) → Lands (table input Admitted (backend.Authentication a))
admitted_lands input authentication.Ok = tt
admitted_lands input a = tt

lands : (input : Input) (s : Stage) (a : Authentication) → IsLogin s
    → Lands (table input s (backend.Authentication a))
lands input Starting a l = starting_lands input a
lands input (Challenged login) a l = first_lands login a
lands input (Proving expected) a l = final_lands expected a
lands input Admitted a l = admitted_lands input a
lands input (Answering k rows) a l = absurd l
lands input PassingOver a l = absurd l

-- ---- a message that is taken

-- where a login is: at a stage of it, with these inputs
pub record IsAt (input : Input) (h : Handler) (c : Client) : Type 0 where
  pub input_is : login_input h c.config ≡ input
  pub login : IsLogin h.stage

pub record Welcomed (input : Input) (h : Handler) (c : Client) (m : Backend) (after : HandlerView Handler) : Type
    0 where
  pub reply : Option Frontend
  pub goes : table input h.stage m ≡ Goes after.handler.stage reply
  pub encodes : encodings (sends reply) ≡ Ok after.sight.wrote
  pub at : IsAt input after.handler after.sight.client
  pub stands : login_standing after.handler after.sight.client ≡ standing_by (login_standing h c) m
  pub plain : (t : Tally) → tally_after t m ≡ t

-- the last message: the client was told what the information says
pub record Informed (input : Input) (h : Handler) (c : Client) (m : Backend) (after : HandlerView Handler)
    (x : ServerInformation) : Type 0 where
  pub closes : table input h.stage m ≡ Closes
  pub wrote : after.sight.wrote ≡ []
  pub config : after.sight.client.config ≡ c.config
  pub knows : informed x after.sight.client ≡ knowing c.config (standing_by (login_standing h c) m)
  pub parameters : x.parameters ≡ after.sight.client.parameters

-- its error: memory was wanting; or one stands for the message in the table; or it has no place; or the reply has no
-- encoding
abbrev pub FailsBy : Input → Stage → Backend → ClientError → Type 0
FailsBy input s m e =
    (e ≡ client.OutOfMemory) ⊎ (table input s m ≡ next.Refuses e)
    ⊎ ((table input s m ≡ Wrong) × (e ≡ client.UnexpectedMessage m))
    ⊎ ((stage : Stage) × (reply : Option Frontend) × (why : PgWireError) × (table input s m ≡ Goes stage reply) ×
    (encodings (sends reply) ≡ Err why) × (e ≡ client.PgWireError why))

module _ (input : Input) (h : Handler) (c : Client) (at : IsAt input h c) where
  authentication_plain : (t : Tally) (o : Option ErrorResponse) (a : Authentication)
      → noted_unless o t (backend.Authentication a) ≡ t
  authentication_plain t None a = refl
  authentication_plain t (Some e) a = refl

  negotiate_plain : (t : Tally) (o : Option ErrorResponse) (m : NegotiateProtocolVersion)
      → noted_unless o t (backend.NegotiateProtocolVersion m) ≡ t
  negotiate_plain t None m = refl
  negotiate_plain t (Some e) m = refl

  parameter_plain : (t : Tally) (o : Option ErrorResponse) (m : ParameterStatus)
      → noted_unless o t (backend.ParameterStatus m) ≡ t
  parameter_plain t None m = refl
  parameter_plain t (Some e) m = refl

  key_plain : (t : Tally) (o : Option ErrorResponse) (m : BackendKeyData)
      → noted_unless o t (backend.BackendKeyData m) ≡ t
  key_plain t None m = refl
  key_plain t (Some e) m = refl

  notice_plain : (t : Tally) (o : Option ErrorResponse) (m : NoticeResponse)
      → noted_unless o t (backend.NoticeResponse m) ≡ t
  notice_plain t None m = refl
  notice_plain t (Some e) m = refl

  pending_not_ready : {A : Type 0} {x : ServerInformation} → Pending ≡ Ready x → A
  pending_not_ready {A} {x} e = absurd (cc)

  welcomed_by : (m : Backend) (g : Handler) (s : Sight) (after : HandlerView Handler) → after.handler ≡ g
      → after.sight ≡ s → Welcomed input h c m (standing g s) → Welcomed input h c m after
  welcomed_by m g s after handler sight w =
      subst (λ (x : Handler). Welcomed input h c m (standing x after.sight)) (sym handler)
      (subst (λ (x : Sight). Welcomed input h c m (standing g x)) (sym sight) w)

  goes_welcomed : (a : Authentication) (stage : Stage) (reply : Option Frontend) (after : HandlerView Handler)
      → table input h.stage (backend.Authentication a) ≡ Goes stage reply → Lands (Goes stage reply) →
      FollowsNext (Goes stage reply) (backend.Authentication a) (standing h (fresh c)) after (Ok Pending)
      → Welcomed input h c (backend.Authentication a) after
  goes_welcomed a stage None after is land follows =
      welcomed_by (backend.Authentication a) (with_stage stage h) (fresh c) after follows.0 follows.1 (record {
        reply = None;
        goes = is;
        encodes = refl;
        at = record { input_is = at.input_is; login = land };
        stands = refl;
        plain = λ t. authentication_plain t t.remote a;
      })
  goes_welcomed a stage (Some f) after is land follows =
      let s = follows.1 in
      welcomed_by (backend.Authentication a) (with_stage stage h) (after_sending s.bytes (fresh c)) after
      follows.0 s.after (record {
        reply = Some f;
        goes = is;
        encodes = one_encoding f s.bytes s.spells;
        at = record { input_is = at.input_is; login = land };
        stands = refl;
        plain = λ t. authentication_plain t t.remote a;
      })

  next_is : (m : Backend) → table (login_input h c.config) h.stage m ≡ table input h.stage m
  next_is m = ap (λ (i : Input). table i h.stage m) at.input_is

  follows_welcomed : (a : Authentication) (n : Next) (after : HandlerView Handler)
      → table input h.stage (backend.Authentication a) ≡ n → Lands n →
      FollowsNext n (backend.Authentication a) (standing h (fresh c)) after (Ok Pending)
      → Welcomed input h c (backend.Authentication a) after
  follows_welcomed a (Goes stage reply) after is land follows = goes_welcomed a stage reply after is land follows
  follows_welcomed a Closes after is land follows = absurd land
  follows_welcomed a Wrong after is land follows = absurd (follows.1)
  follows_welcomed a (next.Refuses e) after is land follows = absurd (follows.1)
  follows_welcomed a PassesOver after is land follows = absurd land

  -- outside an exchange a message has its function
  admitted : (m : Backend) (b : Bool) (after : HandlerView Handler) (r : ReadyState ServerInformation)
      → HearsIf (not b) StartupMeans (standing h (fresh c)) m after (Ok r)
      → (b ≡ false) × HearsStartup StartupMeans (standing h (fresh c)) m after (Ok r)
  admitted m true after r heard = absurd (heard.1)
  admitted m false after r heard = (refl, heard)

  -- news change no stage
  news_welcomed : (m : Backend) (g : Handler) (s : Sight) (after : HandlerView Handler)
      → is_exchange h.stage ≡ false → AreNews m → after ≡ standing g s → g.stage ≡ h.stage
      → login_input g s.client.config ≡ login_input h c.config → s.wrote ≡ [] →
      login_standing g s.client ≡ standing_by (login_standing h c) m → ((t : Tally) → tally_after t m ≡ t)
      → Welcomed input h c m after
  news_welcomed m g s after out news is stage same wrote stands plain =
      welcomed_by m g s after (ap (λ (x : HandlerView Handler). x.handler) is)
      (ap (λ (x : HandlerView Handler). x.sight) is) (record {
        reply = None;
        goes = news_taken input h.stage m at.login out news ∙ ap (λ (x : Stage). Goes x None) (sym stage);
        encodes = ap Ok (sym wrote);
        at = record { input_is = same ∙ at.input_is; login = subst IsLogin (sym stage) at.login };
        stands = stands;
        plain = plain;
      })

  negotiate_welcomed : (m : NegotiateProtocolVersion) (v : Option ProtocolVersion) (after : HandlerView Handler)
      → is_exchange h.stage ≡ false → negotiated_version m.newest_minor_protocol ≡ v
      → SettlesBy {A = ServerInformation} v m (standing h (fresh c)) after (Ok Pending) →
      Welcomed input h c (backend.NegotiateProtocolVersion m) after
  negotiate_welcomed m None after out is heard = absurd (heard.1)
  negotiate_welcomed m (Some version) after out is heard =
      news_welcomed (backend.NegotiateProtocolVersion m) h (with_sight_version version (fresh c)) after out
      (λ b. ap is_known is) heard.0 refl refl refl (rw is refl) (λ t. negotiate_plain t t.remote m)

  concludes_pending : {A : Type 0} (m : Backend) (n : Next) (before after : HandlerView Handler)
      → Concludes (closes n) m before after (Ok Pending) → A
  concludes_pending m Closes before after given = pending_not_ready given.1
  concludes_pending m Wrong before after given = absurd (given.1)
  concludes_pending m PassesOver before after given = absurd (given.1)
  concludes_pending m (Goes stage reply) before after given = absurd (given.1)
  concludes_pending m (next.Refuses e) before after given = absurd (given.1)

  pub welcomed : (m : Backend) (after : HandlerView Handler)
      → HeardAtStartup exchanges StartupMeans (standing h (fresh c)) m after (Ok Pending)
      → Welcomed input h c m after
  welcomed (backend.Authentication a) after (inl follows) =
      follows_welcomed a (table input h.stage (backend.Authentication a)) after refl
      (lands input h.stage a at.login)
      (subst (λ (n : Next). FollowsNext n (backend.Authentication a) (standing h (fresh c)) after
      (Ok Pending)) (next_is (backend.Authentication a)) follows)
  welcomed (backend.Authentication a) after (inr starves) = absurd (starves.1)
  welcomed (backend.NegotiateProtocolVersion m) after heard =
      let x =
      admitted (backend.NegotiateProtocolVersion m) (is_exchange h.stage) after Pending heard in
      negotiate_welcomed m (negotiated_version m.newest_minor_protocol) after x.0 refl x.1
  welcomed (backend.ParameterStatus m) after heard =
      let x = admitted (backend.ParameterStatus m) (is_exchange h.stage) after Pending heard in
      let kept = x.1 in
      news_welcomed (backend.ParameterStatus m) h (with_parameter m.name m.value (fresh c)) after x.0 (λ b. refl)
      kept.0 refl refl refl refl (λ t. parameter_plain t t.remote m)
  welcomed (backend.BackendKeyData m) after heard =
      let x = admitted (backend.BackendKeyData m) (is_exchange h.stage) after Pending heard in
      let kept = x.1 in
      news_welcomed (backend.BackendKeyData m) (with_handler_key m h) (fresh c) after x.0 (λ b. refl) kept.0 refl
      refl refl refl (λ t. key_plain t t.remote m)
  welcomed (backend.NoticeResponse m) after heard =
      let x = admitted (backend.NoticeResponse m) (is_exchange h.stage) after Pending heard in
      let kept = x.1 in
      news_welcomed (backend.NoticeResponse m) h (fresh c) after x.0 (λ b. refl) kept.0 refl refl refl refl
      (λ t. notice_plain t t.remote m)
  welcomed (backend.ReadyForQuery m) after heard =
      let x = admitted (backend.ReadyForQuery m) (is_exchange h.stage) after Pending heard in
      concludes_pending (backend.ReadyForQuery m)
      (table (login_input h c.config) h.stage (backend.ReadyForQuery m))
      (standing h (with_sight_status m.status (fresh c))) after x.1
  welcomed (backend.ErrorResponse m) after heard = absurd (heard.1)
  welcomed m after heard =
      let x = admitted m (is_exchange h.stage) after Pending heard in let refused = x.1 in absurd (refused.1)

  -- ---- the last message

  ready_is : {x y : ServerInformation} → Ready x ≡ Ready y → x ≡ y
  ready_is {x} {y} e = cc

  abbrev ok : ReadyState ServerInformation → CallAnswer ServerInformation
  ok r = Ok r

  abbrev err : ClientError → CallAnswer ServerInformation
  err e = Err e

  not_pending : {A : Type 0} {x : ServerInformation} → Ready x ≡ Pending → A
  not_pending {A} {x} e = absurd (cc)

  not_ok_pending : {A : Type 0} {x : ServerInformation} → ok (Ready x) ≡ ok Pending → A
  not_ok_pending {A} {x} e = absurd (cc)

  follows_not : {A : Type 0} (m : Backend) (n : Next) (after : HandlerView Handler) (x : ServerInformation)
      → FollowsNext n m (standing h (fresh c)) after (Ok (Ready x)) → A
  follows_not m (Goes stage reply) after x follows = not_pending follows.2
  follows_not m Closes after x follows = absurd (follows.1)
  follows_not m Wrong after x follows = absurd (follows.1)
  follows_not m (next.Refuses e) after x follows = absurd (follows.1)
  follows_not m PassesOver after x follows = absurd (follows.1)

  settles_not : {A : Type 0} (m : NegotiateProtocolVersion) (v : Option ProtocolVersion)
      (after : HandlerView Handler) (x : ServerInformation)
      → SettlesBy {A = ServerInformation} v m (standing h (fresh c)) after (Ok (Ready x)) → A
  settles_not m None after x heard = absurd (heard.1)
  settles_not m (Some version) after x heard = not_ok_pending heard.1

  -- where the information is given, the table closes the segment
  concludes : (m : Backend) (n : Next) (before after : HandlerView Handler) (x : ServerInformation)
      → Concludes (closes n) m before after (Ok (Ready x))
      → (n ≡ Closes) × GivesInformation before after (Ok (Ready x))
  concludes m Closes before after x given = (refl, given)
  concludes m Wrong before after x given = absurd (given.1)
  concludes m PassesOver before after x given = absurd (given.1)
  concludes m (Goes stage reply) before after x given = absurd (given.1)
  concludes m (next.Refuses e) before after x given = absurd (given.1)

  pub informs : (m : Backend) (after : HandlerView Handler) (x : ServerInformation)
      → HeardAtStartup exchanges StartupMeans (standing h (fresh c)) m after (Ok (Ready x))
      → Informed input h c m after x
  informs (backend.Authentication a) after x (inl follows) =
      follows_not (backend.Authentication a) _ after x follows
  informs (backend.Authentication a) after x (inr starves) = absurd (starves.1)
  informs (backend.NegotiateProtocolVersion m) after x heard =
      let y =
      admitted (backend.NegotiateProtocolVersion m) (is_exchange h.stage) after (Ready x) heard in settles_not
      m (negotiated_version m.newest_minor_protocol) after x y.1
  informs (backend.ParameterStatus m) after x heard =
      let y =
      admitted (backend.ParameterStatus m) (is_exchange h.stage) after (Ready x) heard in let kept =
      y.1 in not_pending kept.1
  informs (backend.BackendKeyData m) after x heard =
      let y =
      admitted (backend.BackendKeyData m) (is_exchange h.stage) after (Ready x) heard in let kept =
      y.1 in not_ok_pending kept.1
  informs (backend.NoticeResponse m) after x heard =
      let y =
      admitted (backend.NoticeResponse m) (is_exchange h.stage) after (Ready x) heard in let kept =
      y.1 in not_ok_pending kept.1
  informs (backend.ReadyForQuery m) after x heard =
      let y = admitted (backend.ReadyForQuery m) (is_exchange h.stage) after (Ready x) heard in
      let before : HandlerView Handler = standing h (with_sight_status m.status (fresh c)) in
      let ended =
      concludes (backend.ReadyForQuery m) (table (login_input h c.config) h.stage (backend.ReadyForQuery m))
      before after x y.1 in
      let given = ended.1 in
      let told : x ≡ information h (with_sight_status m.status (fresh c)).client = ready_is given.1 in
      let sight : after.sight ≡ with_sight_status m.status (fresh c) =
      ap (λ (s : HandlerView Handler). s.sight) given.0 in
      record {
        closes = sym (next_is (backend.ReadyForQuery m)) ∙ ended.0;
        wrote = ap (λ (s : Sight). s.wrote) sight;
        config = ap (λ (s : Sight). s.client.config) sight;
        knows =
            ap (λ (i : ServerInformation). informed i after.sight.client) told
            ∙ ap (λ (s : Sight). informed (information h (with_sight_status m.status (fresh c)).client)
            s.client) sight;
        parameters =
            ap (λ (i : ServerInformation). i.parameters) told
            ∙ sym (ap (λ (s : Sight). s.client.parameters) sight);
      }
  informs (backend.ErrorResponse m) after x heard = absurd (heard.1)
  informs m after x heard =
      let y = admitted m (is_exchange h.stage) after (Ready x) heard in let refused = y.1 in absurd (refused.1)

  -- ---- an error

  err_not_ok : {A : Type 0} {e : ClientError} {r : ReadyState ServerInformation} → err e ≡ ok r → A
  err_not_ok {A} {e} {r} is = absurd (cc)

  memory : (m : Backend) (e : ClientError) → e ≡ client.OutOfMemory → FailsBy input h.stage m e
  memory m e is = inl is

  misplaced : (m : Backend) (e : ClientError) → table input h.stage m ≡ Wrong → IsUnexpected m e
      → FailsBy input h.stage m e
  misplaced m client.OutOfMemory is u = inl refl
  misplaced m (client.UnexpectedMessage x) is u = inr (inr (inl (is, ap client.UnexpectedMessage u)))
  misplaced m e is u = absurd u

  not_sent : (a : Authentication) (stage : Stage) (f : Frontend) (after : HandlerView Handler) (e : ClientError)
      → table input h.stage (backend.Authentication a) ≡ Goes stage (Some f)
      → NotSent (encoding f) (fresh c) after.sight e → IsCaused e 0 0 after.sight.broken →
      FailsBy input h.stage (backend.Authentication a) e
  not_sent a stage f after client.Broken is n caused = let broken : false ≡ true = n.0 in absurd (cc)
  not_sent a stage f after client.IoError is n caused = absurd (never_rose caused)
  not_sent a stage f after client.OutOfMemory is n caused = inl refl
  not_sent a stage f after (client.PgWireError why) is n caused =
      inr (inr (inr (stage, Some f, why, is, ap (λ o. both o (Ok [])) n.1, refl)))
  not_sent a stage f after e is n caused = absurd n

  follows_fails : (a : Authentication) (n : Next) (after : HandlerView Handler) (e : ClientError)
      → table input h.stage (backend.Authentication a) ≡ n → Lands n
      → FollowsNext n (backend.Authentication a) (standing h (fresh c)) after (Err e)
      → IsCaused e 0 0 after.sight.broken →
      FailsBy input h.stage (backend.Authentication a) e
  follows_fails a (Goes stage None) after e is land follows caused = absurd (follows.1)
  follows_fails a (Goes stage (Some f)) after e is land follows caused =
      not_sent a stage f after e is follows.1 caused
  follows_fails a Closes after e is land follows caused = absurd land
  follows_fails a Wrong after e is land follows caused = misplaced (backend.Authentication a) e is follows.1
  follows_fails a (next.Refuses x) after e is land follows caused =
      inr (inl (is ∙ ap next.Refuses (sym follows.1)))
  follows_fails a PassesOver after e is land follows caused = absurd land

  -- within an exchange a message has no place, and outside it its function refuses it
  refused : (m : Backend) (b : Bool) (after : HandlerView Handler) (e : ClientError) → is_exchange h.stage ≡ b
      → may_come_in_login true m ≡ false
      → (is_exchange h.stage ≡ false → HearsStartup StartupMeans (standing h (fresh c)) m after (Err e) →
      FailsBy input h.stage m e) →
      HearsIf (not b) StartupMeans (standing h (fresh c)) m after (Err e) → FailsBy input h.stage m e
  refused m true after e is never f heard = misplaced m e (exchange_wrong input h.stage m is never) heard.1
  refused m false after e is never f heard = f is heard

  settles_fails : (m : NegotiateProtocolVersion) (v : Option ProtocolVersion) (after : HandlerView Handler)
      (e : ClientError)
      → is_exchange h.stage ≡ false → negotiated_version m.newest_minor_protocol ≡ v
      → SettlesBy {A = ServerInformation} v m (standing h (fresh c)) after (Err e) →
      FailsBy input h.stage (backend.NegotiateProtocolVersion m) e
  settles_fails m None after e out is heard =
      misplaced (backend.NegotiateProtocolVersion m) e
      (outside_wrong input h.stage (backend.NegotiateProtocolVersion m) at.login out (ap is_known is)
      (ap is_known is) refl refl) heard.1
  settles_fails m (Some version) after e out is heard = err_not_ok heard.1

  concludes_fails : (m : Backend) (n : Next) (before after : HandlerView Handler) (e : ClientError)
      → table input h.stage m ≡ n → Ends n → Concludes (closes n) m before after (Err e)
      → FailsBy input h.stage m e
  concludes_fails m Closes before after e is ends given = inl given.1
  concludes_fails m Wrong before after e is ends given = misplaced m e is given.1
  concludes_fails m n before after e is (inl closes) given = absurd (cc)
  concludes_fails m n before after e is (inr wrong) given = absurd (cc)

  pub fails_by : (m : Backend) (after : HandlerView Handler) (e : ClientError)
      → HeardAtStartup exchanges StartupMeans (standing h (fresh c)) m after (Err e)
      → IsCaused e 0 0 after.sight.broken → FailsBy input h.stage m e
  fails_by (backend.Authentication a) after e (inl follows) caused =
      follows_fails a (table input h.stage (backend.Authentication a)) after e refl
      (lands input h.stage a at.login)
      (subst (λ (n : Next). FollowsNext n (backend.Authentication a) (standing h (fresh c)) after (Err e))
      (next_is (backend.Authentication a)) follows) caused
  fails_by (backend.Authentication a) after e (inr starves) caused = inl starves.1
  fails_by (backend.NegotiateProtocolVersion m) after e heard caused =
      refused (backend.NegotiateProtocolVersion m) (is_exchange h.stage) after e refl refl
      (λ out x. settles_fails m (negotiated_version m.newest_minor_protocol) after e out refl x) heard
  fails_by (backend.ParameterStatus m) after e heard caused =
      refused (backend.ParameterStatus m) (is_exchange h.stage) after e refl refl (λ out x. inl x.1) heard
  fails_by (backend.BackendKeyData m) after e heard caused =
      refused (backend.BackendKeyData m) (is_exchange h.stage) after e refl refl (λ out x. err_not_ok x.1) heard
  fails_by (backend.NoticeResponse m) after e heard caused =
      refused (backend.NoticeResponse m) (is_exchange h.stage) after e refl refl (λ out x. err_not_ok x.1) heard
  fails_by (backend.ReadyForQuery m) after e heard caused =
      refused (backend.ReadyForQuery m) (is_exchange h.stage) after e refl refl
      (λ out x. concludes_fails (backend.ReadyForQuery m) (table input h.stage (backend.ReadyForQuery m))
      (standing h (with_sight_status m.status (fresh c))) after e refl
      (ready_ends input h.stage m at.login out)
      (subst (λ (n : Next). Concludes (closes n) (backend.ReadyForQuery m)
      (standing h (with_sight_status m.status (fresh c))) after (Err e)) (next_is (backend.ReadyForQuery m))
      x)) heard
  fails_by (backend.ErrorResponse m) after e heard caused =
      inr (inl (error_refused input h.stage m at.login ∙ ap next.Refuses (sym heard.1)))
  fails_by m after e heard caused =
      refused m (is_exchange h.stage) after e refl refl
      (λ out x. misplaced m e (outside_wrong input h.stage m at.login out refl refl refl refl) x.1) heard
