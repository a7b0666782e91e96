-- A client's calls over a line.
use Rattle.std.proofs.Common.{◌≡◌, ℕ, false, List, [], ◌++◌, Ok, refl, sym, subst}
use Rattle.pgw_config.specs.declared.config.Config.{Config}
use Rattle.pgw_session.specs.declared.types.Request.{Request}
use Rattle.pgw_session.specs.declared.types.Request.TheVariants as request
use Rattle.pgw_session.specs.declared.types.Response.{Response}
use Rattle.pgw_session.specs.declared.types.Answer.TheVariants as answer
use Rattle.pgw_handlers.specs.declared.client_info.ServerInformation.{ServerInformation}
use Rattle.pgw_handlers.specs.Client.{Client}
use Rattle.pgw_handlers.specs.Simple.{HeardInQuery, simple_query}
use Rattle.pgw_handlers.specs.Startup.{HeardAtStartup, startup}
use Rattle.pgw_handlers_default.specs.declared.simple.DefaultSimpleQueryHandler.{DefaultSimpleQueryHandler}
use Rattle.pgw_handlers_default.specs.declared.startup.DefaultStartupHandler.{DefaultStartupHandler}
use Rattle.pgw_query.specs.declared.data.DataRow.{DataRow}
use Rattle.pgw_handlers_default.specs.declared.extended.DefaultExtendedQueryHandler.{DefaultExtendedQueryHandler}
use Rattle.pgw_handlers_default.specs.Extended.{ExtendedMeans}
use Rattle.pgw_handlers_default.specs.Simple.{QueryMeans}
use Rattle.pgw_handlers_default.specs.Startup.{StartupMeans, exchanges}
use Rattle.pgw_client_calls.specs.Talk.{CallEnd, end, passes}
use Rattle.pgw_client_calls.specs.Desk.{first_client, with_information}
use Rattle.pgw_client_calls.specs.Line.{Line, Drew, MovesLine, Pause, IsFlushed}
use Rattle.pgw_client_calls.specs.Reading.{LineGrows, MeetsLinkEnd}
use Rattle.pgw_client_calls.specs.Calls.{LineCall}
use Rattle.pgw_client_calls.specs.Extended.{Finish}
use Rattle.pgw_client_calls.specs.ExtendedSteps.{MakesCall}
use Rattle.pgw_client_laws.specs.Stands.{Made, StandsForCalls, StandsBehind}
use Rattle.pgw_client_laws.specs.Startup.{LoggedIn}
use Rattle.pgw_client_laws.specs.Extended.{IsExtended, call_answer}
use Rattle.pgw_client_laws.proofs.ExtendedLaws.{extended_call}
use Rattle.pgw_client_laws.proofs.SimpleLaws.{simple_call}
use Rattle.pgw_client_laws.proofs.LoginLaws.{login_call}
use Rattle.pgw_client_laws.proofs.StandLaws.{stands_first, stands_more, stands_behind}

pub login_stands : (config : Config) (h : DefaultStartupHandler) (old now : Line) (told : Client)
    (information : ServerInformation)
    → old.buffer ≡ [] →
    LineCall (λ before after answer. StartupMeans before startup after answer)
    (HeardAtStartup exchanges StartupMeans) (λ e. false) h (first_client config) old now
    (end (Ok information) told false now.buffer) →
    (read wrote : List ℕ) × MovesLine old now read wrote × IsFlushed now
    × StandsForCalls config h.nonce [] read wrote (with_information information told) now.buffer
login_stands config h old now told information none call =
    let l =
    login_call old now config h (old.buffer ++ call.taken) call.sent
    (end (Ok information) told false now.buffer) call.asked in
    let m : LoggedIn config h.nonce call.taken call.sent information told now.buffer =
    subst (λ (b : List ℕ). LoggedIn config h.nonce (b ++ call.taken) call.sent information told now.buffer)
    none l in (
      call.taken,
      call.sent,
      call.moved,
      call.flushed refl,
      stands_first config h.nonce call.taken call.sent
          information told now.buffer m,
    )

pub query_stands : (config : Config) (nonce : List ℕ) (ts : List Made) (read wrote : List ℕ) (q : List ℕ)
    (h : DefaultSimpleQueryHandler) (c : Client) (old now : Line) (last : CallEnd (List Response))
    → StandsForCalls config nonce ts read wrote c old.buffer →
    LineCall (λ before after answer. QueryMeans before (simple_query q) after answer) (HeardInQuery QueryMeans)
    passes h c old now last →
    (more sent : List ℕ) × MovesLine old now more sent × (last.broken ≡ false → IsFlushed now)
    × StandsBehind answer.Responses config nonce ts (request.Simple q) (read ++ more) (wrote ++ sent)
    last.info last.rest last.answer last.broken
query_stands config nonce ts read wrote q h c old now last stands call = (
  call.taken,
  call.sent,
  call.moved,
  call.flushed,
  stands_behind answer.Responses (Pause old now) config nonce ts (request.Simple q) read wrote call.taken
      call.sent c last.info old.buffer last.rest stands last.answer last.broken
      (simple_call q old now h c (old.buffer ++ call.taken) call.sent last call.asked),
)

pub extended_stands : (config : Config) (nonce : List ℕ) (ts : List Made) (read wrote : List ℕ) (q : Request)
    (h : DefaultExtendedQueryHandler) (c : Client) (old now : Line)
    (last : Finish DefaultExtendedQueryHandler DataRow)
    → IsExtended q → StandsForCalls config nonce ts read wrote c old.buffer →
    MakesCall ExtendedMeans q h c old now last →
    (more sent : List ℕ) × MovesLine old now more sent × (last.broken ≡ false → IsFlushed now)
    × StandsBehind (call_answer q) config nonce ts q (read ++ more) (wrote ++ sent) last.info last.rest
    last.answer last.broken
extended_stands config nonce ts read wrote q h c old now last e stands call = (
  call.taken,
  call.sent,
  call.moved,
  call.flushed,
  stands_behind (call_answer q) (Pause old now) config nonce ts q read wrote call.taken call.sent c last.info
      old.buffer last.rest stands last.answer last.broken
      (extended_call q old now h c (old.buffer ++ call.taken) call.sent last e call.requested),
)

pub filled_stands : (config : Config) (nonce : List ℕ) (ts : List Made) (read wrote : List ℕ) (c : Client)
    (old now : Line)
    → StandsForCalls config nonce ts read wrote c old.buffer → LineGrows old now →
    (more : List ℕ) × Drew old now more × StandsForCalls config nonce ts (read ++ more) wrote c now.buffer
filled_stands config nonce ts read wrote c old now stands grew =
    let s = stands_more config nonce ts read wrote grew.piece c old.buffer stands in (
      grew.piece,
      grew.drew,
      subst (StandsForCalls config nonce ts (read ++ grew.piece) wrote c) (sym grew.buffer)
          s,
    )

pub ended_stands : (config : Config) (nonce : List ℕ) (ts : List Made) (read wrote : List ℕ) (c : Client)
    (old now : Line)
    → StandsForCalls config nonce ts read wrote c old.buffer → MeetsLinkEnd old now →
    Drew old now [] × StandsForCalls config nonce ts read wrote c now.buffer
ended_stands config nonce ts read wrote c old now stands ended =
    (ended.drew, subst (StandsForCalls config nonce ts read wrote c) (sym ended.buffer) stands)
