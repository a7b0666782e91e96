-- A look answers fired only after a cancel of its query.
use Rattle.std.proofs.Common.{◌≡◌, ◌≢◌, ◌⊎◌, inl, inr, ⊎_elim, ℕ, zero, suc, ◌+◌, ◌-◌, ◌<◌, ◌≤◌, ℤ, Bool, true, false, true≢false, cond, eqb, List, [], ◌∷◌, ◌++◌, length, take, Option, Some, None, slice_get, refl, sym, ap, ◌∙◌, subst, arith, append_assoc, append-nil, length-append}
use Rattle.std.specs.Ordering.{nat_cmp, eq_by_cmp}
use Rattle.std.specs.FinMap as map
use Rattle.pgw_registry.specs.declared.call.Phase.{Phase}
use Rattle.pgw_registry.specs.declared.call.Phase.TheVariants.{Waiting, Fired, Taken, Replaced}
use Rattle.pgw_registry.specs.declared.call.Handle.{Handle}
use Rattle.pgw_registry.specs.declared.call.Entry.{Entry}
use Rattle.pgw_registry.specs.declared.call.Call.{Call}
use Rattle.pgw_registry.specs.declared.call.Call.TheVariants.{Register, NewHandle, StartQuery, CancelHandle, Cancel, Look, Finish, CloseHandle, Release}
use Rattle.pgw_registry.specs.declared.call.Reply.TheVariants.{Started, Looked}
use Rattle.pgw_registry.specs.Pairs.{without_handle}
use Rattle.pgw_registry.specs.Sequential.{Book, ProcessHandles, QueryPhases, nothing, handle, next_book, reply_of, handle_at, handle_of, held, registered, started, started_reply, replaced, replaced_at, fired, fired_at, canceled, canceled_active, canceled_pair, looked, looked_reply, let_go, released, without_pair, state_after, AreBookReplies}
use Rattle.pgw_registry.specs.Laws.{StartsQueryAt, CancelsAt, NoStartBetween, FiredLaw}
use Rattle.pgw_registry.proofs.Holders.{some_is, not_none, number_itself, in_written, in_removed}

abbrev Log : Type 0
Log = List Entry

-- no start on the handle stands behind this place
abbrev NoStart : Log → ℕ → ℕ → Type 0
NoStart log i h = (m : ℕ) (e : Entry) → i < m → slice_get log m ≡ Some e → e.call ≢ StartQuery h

-- a cancel before n fired the query
record FiredBy (log : Log) (n q : ℕ) : Type 0 where
  i : ℕ
  j : ℕ
  h : ℕ
  order : i < j
  bound : j < n
  start : StartsQueryAt log i h q
  cancel : CancelsAt log j h
  between : NoStartBetween log i j h

-- the handle's active query was started on it, and no other was since
abbrev Active : Log → ℕ → Handle → Type 0
Active log h x = (q : ℕ) → x.active ≡ Some q → (i : ℕ) × StartsQueryAt log i h q × NoStart log i h

-- a query that is fired has its cancel
abbrev Query : Log → ℕ → Phase → Type 0
Query log q p = p ≡ Fired → FiredBy log (length log) q

module _ {V : Type 0} where
  -- what holds of each value
  abbrev Each : (ℕ → V → Type 0) → map.FinMap nat_cmp V → Type 0
  Each P m = (k : ℕ) (v : V) → map.get m k ≡ Some v → P k v

  each_map : (P Q : ℕ → V → Type 0) → ((k : ℕ) (v : V) → P k v → Q k v) → (m : map.FinMap nat_cmp V) → Each P m
      → Each Q m
  each_map P Q h m e k v at = h k v (e k v at)

  each_put : (P : ℕ → V → Type 0) (m : map.FinMap nat_cmp V) (k : ℕ) (v : V) → P k v → Each P m
      → Each P (map.insert m k v)
  each_put P m k v p e q x at = ⊎_elim
      (λ (t : (q ≡ k) × (v ≡ x)). subst (λ (z : ℕ × V). P z.0 z.1) (λ i. (sym t.0 i, t.1 i)) p)
      (λ (t : (eq_by_cmp nat_cmp q k ≡ false) × (map.get m q ≡ Some x)). e q x t.1)
      (in_written m k v q x at)

  each_forget : (P : ℕ → V → Type 0) (m : map.FinMap nat_cmp V) (k : ℕ) → Each P m → Each P (map.remove m k)
  each_forget P m k e q x at = e q x (in_removed m k q x at)

  -- what holds at every other key holds of all, where this key is not there, or is written
  else_none : (P : ℕ → V → Type 0) (h : ℕ) (m : map.FinMap nat_cmp V) → map.get m h ≡ None
      → Each (λ k v. k ≢ h → P k v) m → Each P m
  else_none P h m none e k v at = e k v at (λ s. not_none v (sym none ∙ ap (map.get m) (sym s) ∙ at))

  else_put : (P : ℕ → V → Type 0) (m : map.FinMap nat_cmp V) (h : ℕ) (v : V) → P h v
      → Each (λ k v. k ≢ h → P k v) m → Each P (map.insert m h v)
  else_put P m h v p e q x at = ⊎_elim
      (λ (t : (q ≡ h) × (v ≡ x)). subst (λ (z : ℕ × V). P z.0 z.1) (λ i. (sym t.0 i, t.1 i)) p)
      (λ (t : (eq_by_cmp nat_cmp q h ≡ false) × (map.get m q ≡ Some x)). e q x t.1
      (λ s. true≢false (sym (number_itself h)
      ∙ ap (λ n. eq_by_cmp nat_cmp n h) (sym s) ∙ t.0)))
      (in_written m h v q x at)

record Good (log : Log) (hs : ProcessHandles) (qs : QueryPhases) : Type 0 where
  active : Each (Active log) hs
  queries : Each (Query log) qs

get_front : (xs ys : Log) (k : ℕ) (e : Entry) → slice_get xs k ≡ Some e → slice_get (xs ++ ys) k ≡ Some e
get_front [] ys k e h = absurd (cc)
get_front (x ∷ xs) ys zero e h = h
get_front (x ∷ xs) ys (suc k) e h = get_front xs ys k e h

get_within : (xs : Log) (k : ℕ) (e : Entry) → slice_get xs k ≡ Some e → k < length xs
get_within [] k e h = absurd (cc)
get_within (x ∷ xs) zero e h = omega arith
get_within (x ∷ xs) (suc k) e h = let r = get_within xs k e h in omega arith

get_in : (xs ys : Log) (k : ℕ) (e : Entry) → k < length xs → slice_get (xs ++ ys) k ≡ Some e
    → slice_get xs k ≡ Some e
get_in [] ys k e l h = absurd (omega arith)
get_in (x ∷ xs) ys zero e l h = h
get_in (x ∷ xs) ys (suc k) e l h = get_in xs ys k e (omega arith) h

get_last : (xs : Log) (x : Entry) → slice_get (xs ++ x ∷ []) (length xs) ≡ Some x
get_last [] x = refl
get_last (y ∷ xs) x = get_last xs x

get_snoc : (xs : Log) (x : Entry) (k : ℕ) (e : Entry) → slice_get (xs ++ x ∷ []) k ≡ Some e
    → (slice_get xs k ≡ Some e) ⊎ ((k ≡ length xs) × (x ≡ e))
get_snoc [] x zero e h = inr (refl, some_is x e h)
get_snoc [] x (suc k) e h = absurd (cc)
get_snoc (y ∷ xs) x zero e h = inl h
get_snoc (y ∷ xs) x (suc k) e h =
    ⊎_elim (λ (t : slice_get xs k ≡ Some e). inl t) (λ (t : (k ≡ length xs) × (x ≡ e)). inr (ap suc t.0, t.1))
    (get_snoc xs x k e h)

take_in : (xs ys : Log) (j : ℕ) → j ≤ length xs → take j (xs ++ ys) ≡ take j xs
take_in [] ys zero l = refl
take_in [] ys (suc j) l = absurd (omega arith)
take_in (x ∷ xs) ys zero l = refl
take_in (x ∷ xs) ys (suc j) l = ap (λ (t : Log). x ∷ t) (take_in xs ys j (omega arith))

take_whole : (xs ys : Log) → take (length xs) (xs ++ ys) ≡ xs
take_whole [] ys = refl
take_whole (x ∷ xs) ys = ap (λ (t : Log). x ∷ t) (take_whole xs ys)

start_later : (xs ys : Log) (i h q : ℕ) → StartsQueryAt xs i h q → StartsQueryAt (xs ++ ys) i h q
start_later xs ys i h q s = (s.0, get_front xs ys i s.0 s.1, s.2, s.3)

cancel_later : (xs ys : Log) (j h : ℕ) → j ≤ length xs → CancelsAt xs j h → CancelsAt (xs ++ ys) j h
cancel_later xs ys j h l c = (
  c.0,
  get_front xs ys j c.0 c.1,
  ⊎_elim (λ (a : c.0.call ≡ CancelHandle h). inl a)
      (λ (b : (pid : ℤ) × (key : List ℕ) × (c.0.call ≡ Cancel pid key) ×
      (handle_of (state_after nothing (take j xs)) pid key ≡ Some h)).
      inr (
        b.0,
        b.1,
        b.2,
        subst (λ (t : Log). handle_of (state_after nothing t) b.0 b.1 ≡ Some h)
            (sym (take_in xs ys j l)) b.3,
      )) c.2,
)

fired_later : (xs ys : Log) (n m q : ℕ) → n ≤ length xs → n ≤ m → FiredBy xs n q → FiredBy (xs ++ ys) m q
fired_later xs ys n m q l l' f = let b = f.bound in record {
  i = f.i;
  j = f.j;
  h = f.h;
  order = f.order;
  bound = omega arith;
  start = start_later xs ys f.i f.h q f.start;
  cancel = cancel_later xs ys f.j f.h (omega arith) f.cancel;
  between = λ k e a c at is. f.between k e a c (get_in xs ys k e (omega arith) at) is;
}

query_later : (xs : Log) (x : Entry) (q : ℕ) (p : Phase) → Query xs q p → Query (xs ++ x ∷ []) q p
query_later xs x q p h is =
    fired_later xs (x ∷ []) (length xs) (length (xs ++ x ∷ [])) q (omega arith)
    (let l = length-append xs (x ∷ []) in omega arith) (h is)

active_later : (xs : Log) (x : Entry) (h : ℕ) (v : Handle) → (x.call ≡ StartQuery h → ⊥) → Active xs h v
    → Active (xs ++ x ∷ []) h v
active_later xs x h v calm a q is = let s = a q is in (
  s.0,
  start_later xs (x ∷ []) s.0 h q s.1,
  λ m e l at start. ⊎_elim (λ (t : slice_get xs m ≡ Some e). s.2 m e l t start)
      (λ (t : (m ≡ length xs) × (x ≡ e)). calm (ap (λ (y : Entry). y.call) t.1
      ∙ start)) (get_snoc xs x m e at),
)

idle : (log : Log) (h n : ℕ) → Active log h (handle None n)
idle log h n q is = absurd (cc)

not_fired : (log : Log) (q : ℕ) (p : Phase) → (p ≡ Fired → ⊥) → Query log q p
not_fired log q p n is = absurd (n is)

replaced_keeps_at : (log : Log) (o : Option Phase) (qs : QueryPhases) (q : ℕ) → Each (Query log) qs
    → Each (Query log) (replaced_at o qs q)
replaced_keeps_at log (Some Waiting) qs q e =
    each_put (Query log) qs q Replaced (not_fired log q Replaced (λ h. cc)) e
replaced_keeps_at log (Some Fired) qs q e = e
replaced_keeps_at log (Some Taken) qs q e = e
replaced_keeps_at log (Some Replaced) qs q e = e
replaced_keeps_at log None qs q e = e

replaced_keeps : (log : Log) (qs : QueryPhases) (a : Option ℕ) → Each (Query log) qs
    → Each (Query log) (replaced qs a)
replaced_keeps log qs None e = e
replaced_keeps log qs (Some q) e = replaced_keeps_at log (map.get qs q) qs q e

fired_keeps_at : (log : Log) (o : Option Phase) (qs : QueryPhases) (q : ℕ) → FiredBy log (length log) q
    → Each (Query log) qs → Each (Query log) (fired_at o qs q)
fired_keeps_at log (Some p) qs q f e = each_put (Query log) qs q Fired (λ _. f) e
fired_keeps_at log None qs q f e = e

abbrev GoodAt : Log → Book → Type 0
GoodAt log b = Good log b.handles b.queries

calm_later : (xs : Log) (x : Entry) (hs : ProcessHandles) (qs : QueryPhases)
    → ((h : ℕ) → x.call ≡ StartQuery h → ⊥) → Good xs hs qs → Good (xs ++ x ∷ []) hs qs
calm_later xs x hs qs calm g = record {
  active = each_map (Active xs) (Active (xs ++ x ∷ [])) (λ h v a. active_later xs x h v (calm h) a) hs g.active;
  queries = each_map (Query xs) (Query (xs ++ x ∷ [])) (λ q p a. query_later xs x q p a) qs g.queries;
}

put_handle : (log : Log) (hs : ProcessHandles) (qs : QueryPhases) (h : ℕ) (v : Handle) → Active log h v
    → Good log hs qs → Good log (map.insert hs h v) qs
put_handle log hs qs h v a g = record { active = each_put (Active log) hs h v a g.active; queries = g.queries }

with_queries : (log : Log) (hs : ProcessHandles) (qs new : QueryPhases) → Good log hs qs → Each (Query log) new
    → Good log hs new
with_queries log hs qs new g e = record { active = g.active; queries = e }

held_keeps : (log : Log) (o : Option Handle) (b : Book) (h : ℕ) → handle_at b h ≡ o → GoodAt log b
    → GoodAt log (held o b h)
held_keeps log None b h is g = g
held_keeps log (Some x) b h is g =
    put_handle log b.handles b.queries h (handle x.active (x.holders + 1)) (g.active h x is) g

registered_keeps : (log : Log) (o : Option ℕ) (b : Book) (pid : ℤ) (key : List ℕ) → GoodAt log b
    → GoodAt log (registered o b pid key)
registered_keeps log None b pid key g =
    put_handle log b.handles b.queries (b.handles_made + 1) (handle None 2) (idle log (b.handles_made + 1) 2) g
registered_keeps log (Some h) b pid key g = held_keeps log (handle_at b h) b h refl g

looked_keeps : (log : Log) (o : Option Phase) (b : Book) (q : ℕ) → GoodAt log b → GoodAt log (looked o b q)
looked_keeps log (Some Fired) b q g =
    with_queries log b.handles b.queries (map.insert b.queries q Taken) g
    (each_put (Query log) b.queries q Taken (not_fired log q Taken (λ h. cc)) g.queries)
looked_keeps log (Some Waiting) b q g = g
looked_keeps log (Some Taken) b q g = g
looked_keeps log (Some Replaced) b q g = g
looked_keeps log None b q g = g

either_keeps : (log : Log) (t : Bool) (x y : Book) → GoodAt log x → GoodAt log y → GoodAt log (cond t x y)
either_keeps log true x y p q = p
either_keeps log false x y p q = q

let_go_keeps : (log : Log) (o : Option Handle) (b : Book) (h : ℕ) → handle_at b h ≡ o → GoodAt log b
    → GoodAt log (let_go o b h)
let_go_keeps log None b h is g = g
let_go_keeps log (Some x) b h is g = either_keeps log (eqb x.holders 1)
    (record b {
      pairs = without_handle b.pairs h;
      handles = map.remove b.handles h;
      queries = replaced b.queries
          x.active;
      events = b.events + 1;
    })
    (record b { handles = map.insert b.handles h (handle x.active (x.holders - 1)); events = b.events + 1 })
    (record {
      active = each_forget (Active log) b.handles h g.active;
      queries = replaced_keeps log b.queries
          x.active g.queries;
    })
    (put_handle log b.handles b.queries h (handle x.active (x.holders - 1)) (g.active h x is) g)

released_keeps : (log : Log) (o : Option ℕ) (b : Book) (pid : ℤ) (key : List ℕ) → GoodAt log b
    → GoodAt log (released o b pid key)
released_keeps log None b pid key g = g
released_keeps log (Some h) b pid key g = let_go_keeps log (handle_at b h) (without_pair b pid key) h refl g

same_start : (h k : ℕ) → StartQuery h ≡ StartQuery k → h ≡ k
same_start h k e = cc

-- a start
else_later : (xs : Log) (x : Entry) (h : ℕ) (hs : ProcessHandles) → x.call ≡ StartQuery h → Each (Active xs) hs
    → Each (λ k v. k ≢ h → Active (xs ++ x ∷ []) k v) hs
else_later xs x h hs call e =
    each_map (Active xs) (λ k v. k ≢ h → Active (xs ++ x ∷ []) k v)
    (λ k v a apart. active_later xs x k v (λ s. apart (sym (same_start h k (sym call
    ∙ s)))) a) hs e

queries_later : (xs : Log) (x : Entry) (qs : QueryPhases) → Each (Query xs) qs → Each (Query (xs ++ x ∷ [])) qs
queries_later xs x qs e = each_map (Query xs) (Query (xs ++ x ∷ [])) (λ q p a. query_later xs x q p a) qs e

newly_active : (xs : Log) (x : Entry) (h n holders : ℕ) → x.call ≡ StartQuery h → x.reply ≡ Started n
    → Active (xs ++ x ∷ []) h (handle (Some n) holders)
newly_active xs x h n holders call reply q is = (
  length xs,
  (x, get_last xs x, call, reply ∙ ap Started (some_is n q is)),
  λ m e l at start. (let w = get_within (xs ++ x ∷ []) m e at in let len = length-append xs (x ∷ []) in omega arith),
)

started_keeps : (xs : Log) (x : Entry) (o : Option Handle) (b : Book) (h : ℕ) → handle_at b h ≡ o
    → x.call ≡ StartQuery h → x.reply ≡ started_reply o b → GoodAt xs b → GoodAt (xs ++ x ∷ []) (started o b h)
started_keeps xs x None b h is call reply g = record {
  active = else_none (Active (xs ++ x ∷ [])) h b.handles is (else_later xs x h b.handles call g.active);
  queries = queries_later xs x b.queries g.queries;
}
started_keeps xs x (Some v) b h is call reply g =
    let log : Log = xs ++ x ∷ [] in let n : ℕ = b.queries_made + 1 in record {
      active =
          else_put (Active log) b.handles h (handle (Some n) v.holders) (newly_active xs x h n v.holders call reply)
          (else_later xs x h b.handles call g.active);
      queries =
          replaced_keeps log (map.insert b.queries n Waiting) v.active
          (each_put (Query log) b.queries n Waiting (not_fired log n Waiting (λ h. cc))
          (queries_later xs x b.queries g.queries));
    }

-- a cancel
canceled_active_keeps : (xs : Log) (x : Entry) (a : Option ℕ) (v : Handle) (b : Book) (h : ℕ) → v.active ≡ a
    → handle_at b h ≡ Some v → CancelsAt (xs ++ x ∷ []) (length xs) h
    → ((k : ℕ) → x.call ≡ StartQuery k → ⊥) → GoodAt xs b → GoodAt (xs ++ x ∷ []) (canceled_active a v b h)
canceled_active_keeps xs x None v b h act is c calm g = calm_later xs x b.handles b.queries calm g
canceled_active_keeps xs x (Some q) v b h act is c calm g = let log : Log = xs ++ x ∷ [] in
    let s = g.active h v is q act in
    let at = s.1.1 in let l = get_within xs s.0 s.1.0 at in let len = length-append xs (x ∷ []) in
    let f : FiredBy log (length log) q = record {
      i = s.0;
      j = length xs;
      h = h;
      order = l;
      bound = omega arith;
      start = start_later xs (x ∷ []) s.0 h q s.1;
      cancel = c;
      between = λ m e a d gets start. s.2 m e a (get_in xs (x ∷ []) m e d gets) start;
    } in
    let later = calm_later xs x b.handles b.queries calm g in
    put_handle log b.handles (fired b.queries q) h (handle None v.holders) (idle log h v.holders)
    (with_queries log b.handles b.queries (fired b.queries q) later
    (fired_keeps_at log (map.get b.queries q) b.queries q f later.queries))

canceled_keeps : (xs : Log) (x : Entry) (o : Option Handle) (b : Book) (h : ℕ) → handle_at b h ≡ o
    → CancelsAt (xs ++ x ∷ []) (length xs) h
    → ((k : ℕ) → x.call ≡ StartQuery k → ⊥) → GoodAt xs b → GoodAt (xs ++ x ∷ []) (canceled o b h)
canceled_keeps xs x None b h is c calm g = calm_later xs x b.handles b.queries calm g
canceled_keeps xs x (Some v) b h is c calm g = canceled_active_keeps xs x v.active v b h refl is c calm g

canceled_pair_keeps : (xs : Log) (x : Entry) (o : Option ℕ) (b : Book) (pid : ℤ) (key : List ℕ)
    → handle_of b pid key ≡ o → b ≡ state_after nothing xs → x.call ≡ Cancel pid key
    → ((k : ℕ) → x.call ≡ StartQuery k → ⊥) → GoodAt xs b → GoodAt (xs ++ x ∷ []) (canceled_pair o b)
canceled_pair_keeps xs x None b pid key is state call calm g = calm_later xs x b.handles b.queries calm g
canceled_pair_keeps xs x (Some h) b pid key is state call calm g = canceled_keeps xs x (handle_at b h) b h refl (
  x,
  get_last xs x,
  inr (
    pid,
    key,
    call,
    ap (λ (t : Log). handle_of (state_after nothing t) pid key) (take_whole xs (x ∷ []))
        ∙ ap (λ (s : Book). handle_of s pid key) (sym state) ∙ is,
  ),
)
    calm g

step_by : (xs : Log) (x : Entry) (b : Book) (c : Call) → b ≡ state_after nothing xs → x.call ≡ c
    → x.reply ≡ reply_of b c → GoodAt xs b → GoodAt (xs ++ x ∷ []) (next_book b c)
unfolding next_book reply_of
step_by xs x b (Register pid key) state is reply g =
    registered_keeps (xs ++ x ∷ []) (handle_of b pid key) b pid key
    (calm_later xs x b.handles b.queries (λ h s. (let e = sym is
    ∙ s in cc)) g)
step_by xs x b NewHandle state is reply g =
    put_handle (xs ++ x ∷ []) b.handles b.queries (b.handles_made + 1) (handle None 1)
    (idle (xs ++ x ∷ []) (b.handles_made + 1) 1) (calm_later xs x b.handles b.queries (λ h s. (let e = sym is
    ∙ s in cc)) g)
step_by xs x b (StartQuery h) state is reply g = started_keeps xs x (handle_at b h) b h refl is reply g
step_by xs x b (CancelHandle h) state is reply g =
    canceled_keeps xs x (handle_at b h) b h refl (x, get_last xs x, inl is) (λ h s. (let e = sym is ∙ s in cc)) g
step_by xs x b (Cancel pid key) state is reply g =
    canceled_pair_keeps xs x (handle_of b pid key) b pid key refl state is (λ h s. (let e = sym is ∙ s in cc)) g
step_by xs x b (Look q) state is reply g =
    looked_keeps (xs ++ x ∷ []) (map.get b.queries q) b q
    (calm_later xs x b.handles b.queries (λ h s. (let e = sym is
    ∙ s in cc)) g)
step_by xs x b (Finish q) state is reply g =
    let later = calm_later xs x b.handles b.queries (λ h s. (let e = sym is ∙ s in cc)) g in
    with_queries (xs ++ x ∷ []) b.handles b.queries (map.remove b.queries q) later
    (each_forget (Query (xs ++ x ∷ [])) b.queries q later.queries)
step_by xs x b (CloseHandle h) state is reply g =
    let_go_keeps (xs ++ x ∷ []) (handle_at b h) b h refl
    (calm_later xs x b.handles b.queries (λ h s. (let e = sym is
    ∙ s in cc)) g)
step_by xs x b (Release pid key) state is reply g =
    released_keeps (xs ++ x ∷ []) (handle_of b pid key) b pid key
    (calm_later xs x b.handles b.queries (λ h s. (let e = sym is
    ∙ s in cc)) g)

state_after-append : (s : Book) (xs ys : Log) → state_after s (xs ++ ys) ≡ state_after (state_after s xs) ys
state_after-append s [] ys = refl
state_after-append s (e ∷ xs) ys = state_after-append (next_book s e.call) xs ys

good_from : (xs rest : Log) (b : Book) → b ≡ state_after nothing xs → GoodAt xs b → AreBookReplies b rest
    → GoodAt (xs ++ rest) (state_after b rest)
good_from xs [] b state g legal = subst (λ (l : Log). GoodAt l b) (sym (append-nil xs)) g
good_from xs (e ∷ es) b state g legal =
    subst (λ (l : Log). GoodAt l (state_after (next_book b e.call) es)) (append_assoc xs (e ∷ []) es)
    (good_from (xs ++ e ∷ []) es (next_book b e.call) (ap (λ (s : Book). next_book s e.call) state
    ∙ sym (state_after-append nothing xs (e ∷ []))) (step_by xs e b e.call state refl legal.0 g) legal.1)

good : (log : Log) → AreBookReplies nothing log → GoodAt log (state_after nothing log)
good log legal =
    good_from [] log nothing refl (record {
      active = λ k v at. absurd (not_none v (sym (map.get-empty nat_cmp k)
          ∙ at));
      queries = λ k v at. absurd (not_none v (sym (map.get-empty nat_cmp k) ∙ at));
    }) legal

split_at : (log : Log) (k : ℕ) (e : Entry) → slice_get log k ≡ Some e
    → (pre : Log) × (post : Log) × (log ≡ pre ++ e ∷ post) × (length pre ≡ k)
split_at [] k e h = absurd (cc)
split_at (x ∷ xs) zero e h = ([], xs, ap (λ (y : Entry). y ∷ xs) (some_is x e h), refl)
split_at (x ∷ xs) (suc k) e h =
    let r = split_at xs k e h in (x ∷ r.0, r.1, ap (λ (l : Log). x ∷ l) r.2, ap suc r.3)

legal_parts : (s : Book) (pre : Log) (e : Entry) (post : Log) → AreBookReplies s (pre ++ e ∷ post)
    → AreBookReplies s pre × (e.reply ≡ reply_of (state_after s pre) e.call)
legal_parts s [] e post h = (tt, h.0)
legal_parts s (x ∷ pre) e post h = let r = legal_parts (next_book s x.call) pre e post h.1 in ((h.0, r.0), r.1)

was_fired : (o : Option Phase) → Looked (Some tt) ≡ looked_reply o → o ≡ Some Fired
was_fired (Some Waiting) h = absurd (cc)
was_fired (Some Fired) h = refl
was_fired (Some Taken) h = absurd (cc)
was_fired (Some Replaced) h = absurd (cc)
was_fired None h = absurd (cc)

look_says : (b : Book) (q : ℕ) → Looked (Some tt) ≡ reply_of b (Look q) → map.get b.queries q ≡ Some Fired
unfolding reply_of
look_says b q h = was_fired (map.get b.queries q) h

pub fired_law : FiredLaw
fired_law log legal k q by at =
    let e : Entry = record { by = by; call = Look q; reply = Looked (Some tt) } in
    let s = split_at log k e at in
    let parts = legal_parts nothing s.0 e s.1 (subst (AreBookReplies nothing) s.2 legal.1) in
    let b : Book = state_after nothing s.0 in
    let f : FiredBy s.0 (length s.0) q = (good s.0 parts.0).queries q Fired (look_says b q parts.1) refl in
    let r =
    subst (λ (l : Log). FiredBy l k q) (sym s.2)
    (fired_later s.0 (e ∷ s.1) (length s.0) k q (omega arith) (let n = s.3 in omega arith) f) in
    (r.i, r.j, r.h, r.order, r.bound, r.start, r.cancel, r.between)
