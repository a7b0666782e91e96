-- Places are dialled in turn, each once at most.
use Rattle.std.proofs.Common.{◌≡◌, ◌∙◌, ◌⊎◌, ℕ, List, [], ◌∷◌, ◌++◌, Bool, true, false, Option, Some, None, Result}
use Rattle.std.proofs.Common.{Ok, Err, inl, inr, refl, sym, ap, append_assoc}
use Rattle.std.proofs.lemmas.List.{append-nil}
use Rattle.pgw_types.specs.declared.address.Address.{Address}
use Rattle.pgw_backend.specs.declared.client_error.PgWireClientError.{PgWireClientError as ClientError}
use Rattle.pgw_config.specs.Address.{address_of}
use Rattle.pgw_config.specs.declared.config.Config.{Config}
use Rattle.pgw_link.specs.Dials.{DialTape}
use Rattle.pgw_handlers.specs.Handling.{HandlerView, CallAnswer}
use Rattle.pgw_handlers.specs.declared.client_info.ServerInformation.{ServerInformation}
use Rattle.pgw_client_calls.specs.State.{ClientState}
use Rattle.pgw_client_calls.specs.Connecting.{NoLink, ClosedAgain}
use Rattle.pgw_client_calls.specs.Talk.{Hearing}
use Rattle.pgw_prog_commands.specs.declared.places.Place.{Place}
use Rattle.pgw_prog_commands.specs.declared.places.NoSession.{NoSession}
use Rattle.pgw_prog_commands.specs.Telling.{Telling}
use Rattle.pgw_prog_commands.specs.Places.{InTurn, none, passed, dialled, DialsInTurn, ConnectsAt, LogsInAtPlace, IsClosed}
use Rattle.pgw_prog_commands.specs.Places.{PlaceLetsIn, PassesPlace, refused, unfit, TriesAll, no_more, next, stopped, let_in}

untried : (places : List Place) → InTurn places []
untried [] = none
untried (place ∷ places) = passed place places [] (untried places)

-- nothing was dialled
no_dial : (places : List Place) (old new : DialTape) → new.dialled ≡ old.dialled → DialsInTurn places old new
no_dial places old new same = record {
  dials = [];
  in_turn = untried places;
  dialled = same ∙ sym (append-nil
      old.dialled);
}

dialled_at : (place : Place) (to : Address) (made : Bool) (old new : DialTape) → address_of place.config ≡ Ok to
    → new.dialled ≡ old.dialled ++ (to, made) ∷ [] → DialsInTurn (place ∷ []) old new
dialled_at place to made old new leads is = record {
  dials = (to, made) ∷ [];
  in_turn = dialled place [] to made []
      leads none;
  dialled = is;
}

-- at an address there was no link, or one over which the login failed
not_connected : {S : Type 0} {foretells : Type 0}
    {opens : HandlerView S → HandlerView S → CallAnswer ServerInformation
    → Type 0} {M : Hearing S ServerInformation} {handler : S}
    {config : Config} {limit : ℕ} {was is : Option (List (List ℕ))} {before now : ℕ} {e : ClientError}
    (place : Place) (to : Address) (old new : DialTape) → address_of place.config ≡ Ok to
    → (NoLink foretells to was is old new before now e
    ⊎ ClosedAgain foretells opens M handler config limit to was is old new before now e)
    → DialsInTurn (place ∷ []) old new
not_connected place to old new leads (inl no_link) = dialled_at place to false old new leads no_link.tape.dialled
not_connected place to old new leads (inr closed) = dialled_at place to true old new leads closed.tape.3.dialled

-- places behind others whose dials are told
turn_on : {firsts : List Place} {xs : List (Address × Bool)} (places : List Place) (ys : List (Address × Bool))
    → InTurn firsts xs → InTurn places ys → InTurn (firsts ++ places) (xs ++ ys)
turn_on places ys none u = u
turn_on places ys (passed p q d t) u = passed p (q ++ places) (d ++ ys) (turn_on places ys t u)
turn_on places ys (dialled p q to made d leads t) u =
    dialled p (q ++ places) to made (d ++ ys) leads (turn_on places ys t u)

dials_on : (place : Place) (places : List Place) (old mid new : DialTape) → DialsInTurn (place ∷ []) old mid
    → DialsInTurn places mid new → DialsInTurn (place ∷ places) old new
dials_on place places old mid new p q = record {
  dials = p.dials ++ q.dials;
  in_turn = turn_on places q.dials p.in_turn q.in_turn;
  dialled = q.dialled ∙ ap (λ (t : List (Address × Bool)). t ++ q.dials) p.dialled
      ∙ append_assoc old.dialled p.dials q.dials;
}

module _ {Y X : Type 0} (t : Telling Y X) where
  -- a connect dials once at most
  one_dial : (place : Place) (old new : Y) (result : Result (ClientState X) ClientError)
      → ConnectsAt t place old new result → DialsInTurn (place ∷ []) (t.dials old) (t.dials new)
  one_dial place old new (Ok c) k =
      let p = k.connected in
      dialled_at place p.0 true (t.dials old) (t.dials new) p.1.1 p.2.dialled.dialled
  one_dial place old new (Err e) k = elim k.refused [
    | inl same ↦ no_dial (place ∷ []) (t.dials old) (t.dials new) (ap (λ (d : Y). (t.dials d).dialled) same.0)
    | inr at ↦ not_connected place at.0 (t.dials old) (t.dials new) at.1.1 at.2
  ]

  -- and a close not at all
  then_closed : (place : Place) (c : ClientState X) (old mid new : Y)
      → DialsInTurn (place ∷ []) (t.dials old) (t.dials mid) → IsClosed t c mid new
      → DialsInTurn (place ∷ []) (t.dials old) (t.dials new)
  then_closed place c old mid new d closed = record {
    dials = d.dials;
    in_turn = d.in_turn;
    dialled = closed.1.shut.dialled ∙ d.dialled;
  }

  login_dials : (place : Place) (old new : Y) (e : ClientError) → LogsInAtPlace {X = X} t place old new (Err e)
      → DialsInTurn (place ∷ []) (t.dials old) (t.dials new)
  login_dials place old new e (inl k) = one_dial place old new (Err e) k
  login_dials place old new e (inr starved) = no_dial (place ∷ []) (t.dials old) (t.dials new) (ap (λ (d : Y).
      (t.dials d).dialled) starved.1)

  passes_dials : (place : Place) (old new : Y) (how : Option NoSession) → PassesPlace {X = X} t place old new how
      → DialsInTurn (place ∷ []) (t.dials old) (t.dials new)
  passes_dials place old new _ (refused e k) = login_dials place old new e k
  passes_dials place old new _ (unfit first mid e login keeps) =
      then_closed place keeps.1 old mid new (one_dial place old mid (Ok first) login) keeps.4

  lets_in_dials : (place : Place) (old new : Y) (c : ClientState X) → PlaceLetsIn t place old new c
      → DialsInTurn (place ∷ []) (t.dials old) (t.dials new)
  lets_in_dials place old new c l = rw l.keeps.0 (one_dial place old l.mid (Ok l.first) l.login)

  -- the last place that was tried, and others
  and_others : (place : Place) (places : List Place) (old new : Y)
      → DialsInTurn (place ∷ []) (t.dials old) (t.dials new)
      → DialsInTurn (place ∷ places) (t.dials old) (t.dials new)
  and_others place places old new d =
      dials_on place places (t.dials old) (t.dials new) (t.dials new) d
      (no_dial places (t.dials new) (t.dials new)
      refl)

  pub all_in_turn : (places : List Place) (old new : Y) (result : Result (ClientState X) NoSession)
      → TriesAll t places old new result → DialsInTurn places (t.dials old) (t.dials new)
  all_in_turn _ _ _ _ (no_more d) = no_dial [] (t.dials d) (t.dials d) refl
  all_in_turn _ _ _ _ (next place more old mid new result p rest) =
      dials_on place more (t.dials old) (t.dials mid) (t.dials new) (passes_dials place old mid None p)
      (all_in_turn
      more mid new result rest)
  all_in_turn _ _ _ _ (stopped place more old new why p) =
      and_others place more old new (passes_dials place old new
      (Some why) p)
  all_in_turn _ _ _ _ (let_in place more old new c l) =
      and_others place more old new (lets_in_dials place old new c
      l)
