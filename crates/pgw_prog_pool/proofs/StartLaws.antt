-- How the pool of a script is started.
use Rattle.std.proofs.Common.{◌≡◌, ◌<◌, take, get_or, ℕ, ◌+◌, List, [], ◌∷◌, ◌++◌, map, length, Option, Some, Result, Ok, Err, refl, sym, ap, subst, ◌∙◌, arith}
use Rattle.std.proofs.lemmas.List.{length-append, map-append, take_more}
use Rattle.std.proofs.lemmas.List.Elements.{All-append, All-cons, All-nil}
use Rattle.std.specs.List.{All}
use Rattle.pgw_link.specs.MemoryLinks.{IsUnused}
use Rattle.pgw_config.specs.declared.config.Config.{Config}
use Rattle.std.specs.Result.{IfOk, IfErr}
use Rattle.pgw_backend.specs.declared.client_error.PgWireClientError.{PgWireClientError as ClientError}
use Rattle.pgw_link.specs.Dials.{DialTape, new_dials}
use Rattle.pgw_link.specs.Memory.{memory_left}
use Rattle.pgw_link.specs.MemoryDials.{offers_of}
use Rattle.pgw_link.specs.declared.memory.MemoryLink.{MemoryLink}
use Rattle.pgw_pool.specs.Histories.{View}
use Rattle.pgw_pool.specs.Starting.{Dials, dials, ConnectAll, ConnectForetold, NotStarted, no_login, login_more}
use Rattle.pgw_prog_pool.specs.Outcome.{new_dialer, StartsPool, Unstarted}

-- each login gives one session
pub one_each : (config : Config) (limit : ℕ) (old new : Dials) (nonces : List (List ℕ)) (vs : List View)
    → ConnectAll config limit old nonces new vs → length vs ≡ length nonces
one_each config limit old new nonces vs no_login = refl
one_each config limit old new nonces vs (login_more before nonce mid last ws w rest one) =
    let same = one_each config limit old mid before ws rest in
    length-append ws (w ∷ []) ∙ ap (λ n. n + 1) same ∙ sym (length-append before (nonce ∷ []))

-- a new dialer tells this
pub dialer_is : (tape : DialTape) (faults : ℕ) (links given : List MemoryLink) → tape ≡ new_dials → faults ≡ 0
    → given ≡ links → dials tape (Some (offers_of given)) faults ≡ new_dialer (map memory_left links)
dialer_is tape faults links given fresh calm are = rw (fresh, calm, are) refl

pub started : {T : Type 0} (r : Result T ClientError) (idle : T → List View) (lefts : T → List (Option (List ℕ)))
    (config : Config) (limit : ℕ) (nonces servers : List (List ℕ)) (old new : Dials)
    → old ≡ new_dialer servers
    → IfOk r (λ x. ConnectForetold config limit old nonces new (lefts x) (idle x))
    → IfOk r (λ x. StartsPool config limit nonces servers (idle x) (lefts x))
started (Ok x) idle lefts config limit nonces servers old new is connects =
    (new, subst (λ d. ConnectForetold config limit d nonces new (lefts x) (idle x)) is connects)
started (Err e) idle lefts config limit nonces servers old new is connects = tt

pub unstarted : {T : Type 0} (r : Result T ClientError) (config : Config) (limit : ℕ)
    (nonces servers : List (List ℕ)) (old new : Dials)
    → old ≡ new_dialer servers → IfErr r (NotStarted (Unit {0}) config limit nonces old new)
    → IfErr r (Unstarted config limit nonces servers)
unstarted (Ok x) config limit nonces servers old new is refused = tt
unstarted (Err e) config limit nonces servers old new is refused =
    (new, subst (λ d. NotStarted (Unit {0}) config limit nonces d new e) is refused)

-- a link to one server more
pub links_more : (links all : List MemoryLink) (link : MemoryLink) (servers : List (List ℕ)) (i : ℕ)
    (server : List ℕ)
    → i < length servers → server ≡ get_or servers i server → all ≡ links ++ link ∷ [] → IsUnused link
    → memory_left link ≡ server → All IsUnused links × (map memory_left links ≡ take i servers)
    → All IsUnused all × (map memory_left all ≡ take (i + 1) servers)
links_more links all link servers i server lt here more unused left before = (
  rw more (All-append IsUnused links (link ∷ []) before.0 (All-cons IsUnused link [] unused (All-nil IsUnused))),
  ap (map memory_left) more ∙ map-append memory_left links (link ∷ [])
      ∙ ap (λ l. map memory_left links ++ l ∷ []) (left ∙ here)
      ∙ ap (λ l. l ++ get_or servers i server ∷ []) before.1 ∙ sym (take_more servers i server lt),
)
