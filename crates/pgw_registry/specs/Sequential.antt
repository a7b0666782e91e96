-- The registry as a step function of a call and a state.
use Rattle.std.specs.Prelude.{◌≡◌, ℕ, ◌+◌, ◌-◌, ◌≤◌, Bool, true, false, cond, eqb, ℤ, List, [], ◌∷◌, length, Option, Some, None}
use Rattle.std.specs.Ordering.{nat_cmp}
use Rattle.std.specs.FinMap as map
use Rattle.pgw_registry.specs.Pairs.{PairMap, without_handle}
use Rattle.pgw_registry.specs.declared.call.Phase.{Phase}
use Rattle.pgw_registry.specs.declared.call.Phase.TheVariants.{Waiting, Fired, Taken, Replaced}
use Rattle.pgw_registry.specs.declared.call.Handle.{Handle}
use Rattle.pgw_registry.specs.declared.call.Entry.{Entry}
use Rattle.pgw_registry.specs.declared.call.Call.{Call}
use Rattle.pgw_registry.specs.declared.call.Call.TheVariants.{Register, NewHandle, StartQuery, CancelHandle, Cancel, Look, Finish, CloseHandle, Release}
use Rattle.pgw_registry.specs.declared.call.Reply.{Reply}
use Rattle.pgw_registry.specs.declared.call.Reply.TheVariants.{Handled, Started, Canceled, Looked, NoQuery, Done, NoHandle}

abbrev pub ProcessHandles : Type 0
ProcessHandles = map.FinMap nat_cmp Handle

abbrev pub QueryPhases : Type 0
QueryPhases = map.FinMap nat_cmp Phase

-- which handle each pair of a process number and a key has, what each handle and each query is, how
-- many handles and queries were made, and how many events there were
pub record Book : Type 0 where
  pub pairs : PairMap
  pub handles : ProcessHandles
  pub queries : QueryPhases
  pub handles_made : ℕ
  pub queries_made : ℕ
  pub events : ℕ

-- the state at the start
abbrev pub nothing : Book
nothing =
    record {
      pairs = map.empty;
      handles = map.empty;
      queries = map.empty;
      handles_made = 0;
      queries_made = 0;
      events = 0;
    }

abbrev pub handle : Option ℕ → ℕ → Handle
handle active holders = record { active = active; holders = holders }

abbrev pub handle_at : Book → ℕ → Option Handle
handle_at b h = map.get b.handles h

abbrev pub handle_of : Book → ℤ → List ℕ → Option ℕ
handle_of b pid key = map.get b.pairs (pid, key)

-- one event more
abbrev pub book_with_event : Book → Book
book_with_event b = record b { events = b.events + 1 }

-- a query that waits is replaced, and any other stays
abbrev pub replaced_at : Option Phase → QueryPhases → ℕ → QueryPhases
replaced_at (Some Waiting) qs q = map.insert qs q Replaced
replaced_at (Some Fired) qs q = qs
replaced_at (Some Taken) qs q = qs
replaced_at (Some Replaced) qs q = qs
replaced_at None qs q = qs

abbrev pub replaced : QueryPhases → Option ℕ → QueryPhases
replaced qs None = qs
replaced qs (Some q) = replaced_at (map.get qs q) qs q

-- a query that is kept is fired
abbrev pub fired_at : Option Phase → QueryPhases → ℕ → QueryPhases
fired_at (Some p) qs q = map.insert qs q Fired
fired_at None qs q = qs

abbrev pub fired : QueryPhases → ℕ → QueryPhases
fired qs q = fired_at (map.get qs q) qs q

-- ---- register: the pair's handle has one holder more, or a new handle has two

abbrev pub held : Option Handle → Book → ℕ → Book
held None b h = book_with_event b
held (Some x) b h =
    record b {
      handles = map.insert b.handles h (handle x.active (x.holders + 1));
      events =
          b.events + 1;
    }

abbrev pub registered : Option ℕ → Book → ℤ → List ℕ → Book
registered (Some h) b pid key = held (handle_at b h) b h
registered None b pid key = record b {
  pairs = map.insert b.pairs (pid, key) (b.handles_made + 1);
  handles = map.insert b.handles (b.handles_made + 1) (handle None 2);
  handles_made = b.handles_made + 1;
  events = b.events + 1;
}

abbrev pub registered_reply : Option ℕ → Book → Reply
registered_reply (Some h) b = Handled h
registered_reply None b = Handled (b.handles_made + 1)

-- ---- new_handle: a new handle with one holder

abbrev pub with_handle : Book → Book
with_handle b =
    record b {
      handles = map.insert b.handles (b.handles_made + 1) (handle None 1);
      handles_made =
          b.handles_made + 1;
      events = b.events + 1;
    }

-- ---- start_query: a new query waits and is active. The one that was active is replaced, if it waits

abbrev pub started : Option Handle → Book → ℕ → Book
started None b h = book_with_event b
started (Some x) b h = record b {
  handles = map.insert b.handles h (handle (Some (b.queries_made + 1)) x.holders);
  queries = replaced (map.insert b.queries (b.queries_made + 1) Waiting) x.active;
  queries_made = b.queries_made + 1;
  events = b.events + 1;
}

abbrev pub started_reply : Option Handle → Book → Reply
started_reply None b = NoHandle
started_reply (Some x) b = Started (b.queries_made + 1)

-- ---- cancel_handle: false without an active query. Else none is active, and the query is fired, if it is kept

abbrev pub canceled_active : Option ℕ → Handle → Book → ℕ → Book
canceled_active None x b h = book_with_event b
canceled_active (Some q) x b h =
    record b {
      handles = map.insert b.handles h (handle None x.holders);
      queries = fired b.queries
          q;
      events = b.events + 1;
    }

abbrev pub canceled : Option Handle → Book → ℕ → Book
canceled None b h = book_with_event b
canceled (Some x) b h = canceled_active x.active x b h

abbrev pub is_active : Option ℕ → Bool
is_active None = false
is_active (Some q) = true

abbrev pub canceled_reply : Option Handle → Reply
canceled_reply None = NoHandle
canceled_reply (Some x) = Canceled (is_active x.active)

-- ---- cancel: false without the pair. Else true, with the change of cancel_handle

abbrev pub canceled_pair : Option ℕ → Book → Book
canceled_pair None b = book_with_event b
canceled_pair (Some h) b = canceled (handle_at b h) b h

abbrev pub canceled_pair_reply : Option ℕ → Reply
canceled_pair_reply None = Canceled false
canceled_pair_reply (Some h) = Canceled true

-- ---- look: a query that is fired is taken

abbrev pub looked : Option Phase → Book → ℕ → Book
looked (Some Fired) b q =
    record b { queries = map.insert b.queries q Taken; events = b.events + 1 }
looked (Some Waiting) b q = book_with_event b
looked (Some Taken) b q = book_with_event b
looked (Some Replaced) b q = book_with_event b
looked None b q = book_with_event b

abbrev pub looked_reply : Option Phase → Reply
looked_reply (Some Waiting) = Looked None
looked_reply (Some Fired) = Looked (Some tt)
looked_reply (Some Taken) = NoQuery
looked_reply (Some Replaced) = NoQuery
looked_reply None = NoQuery

-- ---- finish: the query is forgotten. A mark that it is active stays

abbrev pub finish_query : Book → ℕ → Book
finish_query b q = record b { queries = map.remove b.queries q; events = b.events + 1 }

-- ---- close_handle: one holder fewer. At none the handle is forgotten, with each pair that still has it, and its query is replaced, if it waits

abbrev pub let_go : Option Handle → Book → ℕ → Book
let_go None b h = book_with_event b
let_go (Some x) b h = cond (eqb x.holders 1)
    (record b {
      pairs = without_handle b.pairs h;
      handles = map.remove b.handles h;
      queries =
          replaced b.queries x.active;
      events = b.events + 1;
    })
    (record b {
      handles = map.insert b.handles h (handle x.active (x.holders - 1));
      events =
          b.events + 1;
    })

-- ---- release: the pair is removed, and its handle has one holder fewer

abbrev pub without_pair : Book → ℤ → List ℕ → Book
without_pair b pid key = record b { pairs = map.remove b.pairs (pid, key) }

abbrev pub released : Option ℕ → Book → ℤ → List ℕ → Book
released None b pid key = book_with_event b
released (Some h) b pid key = let_go (handle_at b h) (without_pair b pid key) h

-- the state after a call
unfoldable pub next_book : Book → Call → Book
next_book b (Register pid key) = registered (handle_of b pid key) b pid key
next_book b NewHandle = with_handle b
next_book b (StartQuery h) = started (handle_at b h) b h
next_book b (CancelHandle h) = canceled (handle_at b h) b h
next_book b (Cancel pid key) = canceled_pair (handle_of b pid key) b
next_book b (Look q) = looked (map.get b.queries q) b q
next_book b (Finish q) = finish_query b q
next_book b (CloseHandle h) = let_go (handle_at b h) b h
next_book b (Release pid key) = released (handle_of b pid key) b pid key

-- what the call answers
unfoldable pub reply_of : Book → Call → Reply
reply_of b (Register pid key) = registered_reply (handle_of b pid key) b
reply_of b NewHandle = Handled (b.handles_made + 1)
reply_of b (StartQuery h) = started_reply (handle_at b h) b
reply_of b (CancelHandle h) = canceled_reply (handle_at b h)
reply_of b (Cancel pid key) = canceled_pair_reply (handle_of b pid key)
reply_of b (Look q) = looked_reply (map.get b.queries q)
reply_of b (Finish q) = Done
reply_of b (CloseHandle h) = Done
reply_of b (Release pid key) = Done

-- the state after the calls of a history
abbrev pub state_after : Book → List Entry → Book
state_after b [] = b
state_after b (e ∷ es) = state_after (next_book b e.call) es

-- each reply is the one that the state and the calls before it give
abbrev pub AreBookReplies : Book → List Entry → Type 0
AreBookReplies b [] = Unit {0}
AreBookReplies b (e ∷ es) = (e.reply ≡ reply_of b e.call) × AreBookReplies (next_book b e.call) es

-- each reply is the one that the calls before it give, and there are at most as many as can be counted
abbrev pub IsLegal : List Entry → Type 0
IsLegal log = (length log ≤ 18446744073709551615) × AreBookReplies nothing log
