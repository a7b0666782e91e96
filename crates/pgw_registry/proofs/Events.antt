-- Each call is one event.
use Rattle.std.proofs.Common.{◌≡◌, ℕ, ◌+◌, ℤ, Bool, true, false, cond, eqb, List, [], ◌∷◌, length, Option, Some, None, refl, arith}
use Rattle.std.specs.FinMap as map
use Rattle.pgw_registry.specs.declared.call.Phase.{Phase}
use Rattle.pgw_registry.specs.declared.call.Phase.TheVariants.{Waiting, Fired, Taken, Replaced}
use Rattle.pgw_registry.specs.declared.call.Handle.{Handle}
use Rattle.pgw_registry.specs.declared.call.Call.{Call}
use Rattle.pgw_registry.specs.declared.call.Call.TheVariants.{Register, NewHandle, StartQuery, CancelHandle, Cancel, Look, Finish, CloseHandle, Release}
use Rattle.pgw_registry.specs.declared.call.Entry.{Entry}
use Rattle.pgw_registry.specs.Sequential.{Book, nothing, next_book, state_after, handle_at, handle_of, held, registered, started, canceled, canceled_active, canceled_pair, looked, let_go, released, without_pair}

held_adds : (x : Option Handle) (b : Book) (h : ℕ) → (held x b h).events ≡ b.events + 1
held_adds None b h = refl
held_adds (Some x) b h = refl

registered_adds : (p : Option ℕ) (b : Book) (pid : ℤ) (key : List ℕ)
    → (registered p b pid key).events ≡ b.events + 1
registered_adds None b pid key = refl
registered_adds (Some h) b pid key = held_adds (handle_at b h) b h

started_adds : (x : Option Handle) (b : Book) (h : ℕ) → (started x b h).events ≡ b.events + 1
started_adds None b h = refl
started_adds (Some x) b h = refl

active_adds : (a : Option ℕ) (x : Handle) (b : Book) (h : ℕ) → (canceled_active a x b h).events ≡ b.events + 1
active_adds None x b h = refl
active_adds (Some q) x b h = refl

canceled_adds : (x : Option Handle) (b : Book) (h : ℕ) → (canceled x b h).events ≡ b.events + 1
canceled_adds None b h = refl
canceled_adds (Some x) b h = active_adds x.active x b h

pair_adds : (p : Option ℕ) (b : Book) → (canceled_pair p b).events ≡ b.events + 1
pair_adds None b = refl
pair_adds (Some h) b = canceled_adds (handle_at b h) b h

looked_adds : (p : Option Phase) (b : Book) (q : ℕ) → (looked p b q).events ≡ b.events + 1
looked_adds None b q = refl
looked_adds (Some Waiting) b q = refl
looked_adds (Some Fired) b q = refl
looked_adds (Some Taken) b q = refl
looked_adds (Some Replaced) b q = refl

either_adds : (t : Bool) (x y : Book) (n : ℕ) → x.events ≡ n → y.events ≡ n → (cond t x y).events ≡ n
either_adds true x y n p q = p
either_adds false x y n p q = q

let_go_adds : (x : Option Handle) (b : Book) (h : ℕ) → (let_go x b h).events ≡ b.events + 1
let_go_adds None b h = refl
let_go_adds (Some x) b h = either_adds (eqb x.holders 1) _ _ (b.events + 1) refl refl

released_adds : (p : Option ℕ) (b : Book) (pid : ℤ) (key : List ℕ) → (released p b pid key).events ≡ b.events + 1
released_adds None b pid key = refl
released_adds (Some h) b pid key = let_go_adds (handle_at b h) (without_pair b pid key) h

next_adds : (b : Book) (c : Call) → (next_book b c).events ≡ b.events + 1
unfolding next_book
next_adds b (Register pid key) = registered_adds (handle_of b pid key) b pid key
next_adds b NewHandle = refl
next_adds b (StartQuery h) = started_adds (handle_at b h) b h
next_adds b (CancelHandle h) = canceled_adds (handle_at b h) b h
next_adds b (Cancel pid key) = pair_adds (handle_of b pid key) b
next_adds b (Look q) = looked_adds (map.get b.queries q) b q
next_adds b (Finish q) = refl
next_adds b (CloseHandle h) = let_go_adds (handle_at b h) b h
next_adds b (Release pid key) = released_adds (handle_of b pid key) b pid key

events_from : (b : Book) (log : List Entry) → (state_after b log).events ≡ b.events + length log
events_from b [] = omega arith
events_from b (e ∷ es) = let r = events_from (next_book b e.call) es in let n = next_adds b e.call in omega arith

-- the number of events is the length of the history
pub events_are : (log : List Entry) → (state_after nothing log).events ≡ length log
events_are log = let r = events_from nothing log in omega arith
