-- A place that is tried.
use Rattle.std.proofs.Common.{◌≡◌, ◌∙◌, ◌<◌, ◌+◌, ℕ, suc, List, [], ◌∷◌, length, drop, get_or, add-one}
use Rattle.std.proofs.Common.{drop-cons, length-drop, arith, ◌≤◌}
use Rattle.std.proofs.lemmas.List.{nil_from_length}
use Rattle.std.proofs.Common.{Option, Result, Ok, Err, inl, sym, ap}
use Rattle.pgw_backend.specs.declared.client_error.PgWireClientError.{PgWireClientError as ClientError}
use Rattle.pgw_config.specs.declared.config.Config.{Config}
use Rattle.pgw_handlers_default.specs.declared.startup.DefaultStartupHandler.{DefaultStartupHandler}
use Rattle.pgw_handlers_default.specs.Startup.{StartupMeans, exchanges}
use Rattle.pgw_client_calls.specs.State.{ClientState}
use Rattle.pgw_client_calls.specs.Connecting.{Connects}
use Rattle.pgw_prog_commands.specs.declared.places.Place.{Place}
use Rattle.pgw_prog_commands.specs.declared.places.NoSession.{NoSession}
use Rattle.pgw_prog_commands.specs.Targets.{wanted_of}
use Rattle.pgw_prog_commands.specs.Telling.{Telling}
use Rattle.pgw_prog_commands.specs.Places.{ConnectsAt, LogsInAtPlace, KeepsAtPlace, unfit, Tries, login_by, no_limit}

module _ {Y X : Type 0} (t : Telling Y X) where
  -- a connect with what a place names
  pub logs_in : (place : Place) (config : Config) (handler : DefaultStartupHandler) (old new : Y) (result : Result
      (ClientState X) ClientError) → config ≡ place.config → handler ≡ login_by place.nonce
      → Connects t.foretells t.offers t.dials t.failed t.left t.tape t.faults exchanges StartupMeans handler
      config
      no_limit old new result
      → LogsInAtPlace t place old new result
  logs_in place config handler old new (Ok c) is by k = rw (sym is, sym by) k
  logs_in place config handler old new (Err e) is by k = inl (rw (sym is, sym by) k)

  -- what became of a client that was connected
  pub kept : (place : Place) (first : ClientState X) (old mid new : Y) (result : Result (ClientState X)
      (Option NoSession)) → ConnectsAt t place old mid (Ok first)
      → KeepsAtPlace t (wanted_of place.config.target_session_attrs) first mid new result
      → Tries t place old new result
  kept place first old mid new (Ok c) login keeps =
      record { first = first; mid = mid; login = login; keeps = keeps }
  kept place first old mid new (Err ended) login keeps = unfit first mid ended login keeps

-- the next of some places
pub place_at : (places : List Place) (i : ℕ) (place : Place) → i < length places → place ≡ get_or places i place
    → drop i places ≡ place ∷ drop (i + 1) places
place_at places i place h is = rw add-one (drop-cons places i place h
    ∙ ap (λ (x : Place). x ∷ drop (suc i) places) (sym is))

pub all_tried : (places : List Place) (i : ℕ) → length places ≤ i → drop i places ≡ []
all_tried places i h = nil_from_length (drop i places) (omega (arith, h, length-drop i places))
