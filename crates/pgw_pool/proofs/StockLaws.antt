-- Any list of calls.
use Rattle.std.proofs.Common.{◌≡◌, ◌⊎◌, ◌≤◌, ℕ, ◌+◌, Bool, true, false, List, [], ◌∷◌, ◌++◌, Result, Ok, Err, arith, inl, inr, refl, sym, ◌∙◌, ap, subst}
use Rattle.pgw_backend.specs.declared.client_error.PgWireClientError.{PgWireClientError as ClientError}
use Rattle.pgw_backend.specs.declared.client_error.PgWireClientError.TheVariants as client
use Rattle.pgw_session.specs.declared.types.Request.{Request}
use Rattle.pgw_session.specs.declared.types.Answer.{Answer}
use Rattle.pgw_pool.specs.declared.returned.Returned.{Returned}
use Rattle.pgw_pool.specs.declared.returned.Returned.TheVariants.{Kept, Dropped}
use Rattle.pgw_pool.specs.Histories.{History, Lent, View, new_history, lent_as, with_request, with_lease, with_check, IsLent, AreIdle}
use Rattle.pgw_pool.specs.Lending.{IsCutLease, LeaseRan, LendsFirst}
use Rattle.pgw_pool.specs.declared.returned.DropCause.{DropCause}
use Rattle.pgw_pool.specs.declared.returned.DropCause.TheVariants as cause
use Rattle.pgw_pool.specs.Returning.{cause_of, returned_by, idle_behind, GivesBack, GivenBack}
use Rattle.pgw_pool.specs.Stocks.{Out, leased, Stock, stock, LeaseRuns, StockStep, lends, runs, gives_back, lends_fit, drops_unfit, refills, retires, StockSteps, no_step, step_more, IsOut, AreOut, IsStockInOrder}
use Rattle.pgw_pool.specs.Checking.{LendsChecked}
use Rattle.pgw_pool.proofs.HistoryLaws.{lends_first, idle_one_more}
use Rattle.pgw_pool.proofs.CheckLaws.{lends_checked}
use Rattle.pgw_pool.proofs.RunLaws.{ran}
use Rattle.pgw_pool.proofs.ReturnLaws.{given_back}

-- ---- leases that are out

out_later : (lent later : ℕ) (out : List Out) → lent ≤ later → AreOut lent out → AreOut later out
out_later lent later [] le are = tt
out_later lent later (o ∷ out) le are = (
  record {
    history = (are.0).history;
    lease = (are.0).lease;
    number = (are.0).number;
    own = (let own = (are.0).own in omega arith);
    stands = (are.0).stands;
  },
  out_later lent later out le are.1,
)

out_append : (lent : ℕ) (before behind : List Out) → AreOut lent before → AreOut lent behind
    → AreOut lent (before ++ behind)
out_append lent [] behind a b = b
out_append lent (o ∷ before) behind a b = (a.0, out_append lent before behind a.1 b)

out_before : (lent : ℕ) (before behind : List Out) → AreOut lent (before ++ behind) → AreOut lent before
out_before lent [] behind are = tt
out_before lent (o ∷ before) behind are = (are.0, out_before lent before behind are.1)

out_behind : (lent : ℕ) (before behind : List Out) → AreOut lent (before ++ behind) → AreOut lent behind
out_behind lent [] behind are = are
out_behind lent (o ∷ before) behind are = out_behind lent before behind are.1

-- ---- lend

lent_in_order : (lent now number : ℕ) (hs : List History) (rest : List View) (v : View) (out : List Out)
    → now ≡ lent + 1 → number ≡ now → LendsFirst hs now rest number v → AreOut lent out
    → IsStockInOrder (stock now rest (out ++ leased number v ∷ []))
lent_in_order lent now number [] rest v out counted numbered first are = absurd first
lent_in_order lent now number (h ∷ hs) rest v out counted numbered first are =
    let last : IsOut now (leased number v) =
    record { history = h; lease = lent_as number; number = refl; own = (omega arith); stands = inl first.0 }
    in
    record {
      histories = hs;
      idle = first.2;
      out = out_append now out (leased number v ∷ []) (out_later lent now out (omega arith) are) (last, tt);
    }

-- ---- check

fit_in_order : (lent now number : ℕ) (hs : List History) (rest : List View) (v : View) (out : List Out)
    → now ≡ lent + 1 → number ≡ now → LendsChecked hs now rest number v → AreOut lent out
    → IsStockInOrder (stock now rest (out ++ leased number v ∷ []))
fit_in_order lent now number [] rest v out counted numbered first are = absurd first
fit_in_order lent now number (h ∷ hs) rest v out counted numbered first are =
    let last : IsOut now (leased number v) = record {
      history = with_check h first.0;
      lease = lent_as number;
      number = refl;
      own = (omega arith);
      stands = inl first.1;
    } in
    record {
      histories = hs;
      idle = first.3;
      out = out_append now out (leased number v ∷ []) (out_later lent now out (omega arith) are) (last, tt);
    }

rest_in_order : (lent : ℕ) (hs : List History) (v : View) (rest : List View) (out : List Out)
    → AreIdle lent hs (v ∷ rest) → AreOut lent out → IsStockInOrder (stock lent rest out)
rest_in_order lent [] v rest out are leases = absurd are
rest_in_order lent (h ∷ hs) v rest out are leases = record { histories = hs; idle = are.1; out = leases }

-- ---- run

ran_out : (lent : ℕ) (h : History) (l : Lent) (q : Request) (number : ℕ) (new : View) (broken : Bool)
    (result : Result Answer ClientError)
    → l.number ≡ number → number ≤ lent → LeaseRan h l q new broken result → IsOut lent (leased number new)
ran_out lent h l q number new false (Ok a) same own r =
    record { history = h; lease = with_request l q r.0; number = same; own = own; stands = inl r.2 }
ran_out lent h l q number new false (Err (client.UnexpectedMessage m)) same own r =
    record { history = h; lease = with_request l q r.0; number = same; own = own; stands = inl r.2 }
ran_out lent h l q number new false (Err (client.PgWireError why)) same own r =
    record { history = h; lease = l; number = same; own = own; stands = inl r }
ran_out lent h l q number new false (Err client.OutOfMemory) same own r =
    record { history = h; lease = l; number = same; own = own; stands = inl r }
ran_out lent h l q number new true (Err e) same own r =
    record { history = h; lease = l; number = same; own = own; stands = inr (q, e, r) }
ran_out lent h l q number new true (Ok a) same own r = absurd r
ran_out lent h l q number new false (Err e) same own r = absurd r

run_out : (lent number : ℕ) (q : Request) (old new : View) (result : Result Answer ClientError)
    → LeaseRuns q old new result → (h : History) (l : Lent) → l.number ≡ number → number ≤ lent
    → IsLent h l old ⊎ ((p : Request) × (e : ClientError) × IsCutLease h l p e old)
    → IsOut lent (leased number new)
run_out lent number q old new result r h l same own (inl lease) =
    ran_out lent h l q number new new.broken result same own
    (ran h l q old new lease result new.broken refl (r.asks lease.usable))
run_out lent number q old new result r h l same own (inr cut) =
    let left = (r.broken cut.2.broken).1 in
    record {
      history = h;
      lease = l;
      number = same;
      own = own;
      stands = inr
          (cut.0, cut.1, subst (λ (v : View). IsCutLease h l cut.0 cut.1 v) (sym left) cut.2);
    }

-- ---- give back

given_idle : (lent : ℕ) (hs : List History) (h : History) (l : Lent) (now : List View) (result : Returned)
    → GivenBack lent hs h l now result → (more : List History) × AreIdle lent more now
given_idle lent hs h l now Kept g = (hs ++ with_lease h l g.0 ∷ [], g.1)
given_idle lent hs h l now (Dropped why) g = (hs, g.0)

-- a session that an earlier error left unusable is dropped
pub cut_result : (old : View) (idle now : List View) (result : Returned) → GivesBack old idle now result
    → old.broken ≡ true
    → (why : DropCause) × (result ≡ Dropped why) × (now ≡ idle) × (why ≡ cause.Failed client.Broken)
cut_result old idle now result g broken =
    let a = (g.2.broken broken).0 in
    let is : result ≡ returned_by (Err client.Broken) (g.0).client.transaction_status (g.0).broken =
    g.3 ∙ ap (λ x. returned_by x (g.0).client.transaction_status (g.0).broken) a in
    (cause_of client.Broken (g.0).broken, is, g.4 ∙ ap (idle_behind idle g.0) is, refl)

give_idle : (lent number : ℕ) (hs : List History) (idle now : List View) (old : View) (result : Returned)
    → GivesBack old idle now result → AreIdle lent hs idle → (h : History) (l : Lent) → l.number ≡ number
    → number ≤ lent
    → IsLent h l old ⊎ ((p : Request) × (e : ClientError) × IsCutLease h l p e old)
    → (more : List History) × AreIdle lent more now
give_idle lent number hs idle now old result g are h l same own (inl lease) =
    given_idle lent hs h l now result
    (given_back lent hs h l old idle now result g are lease (subst (λ n. n ≤ lent) (sym same) own))
give_idle lent number hs idle now old result g are h l same own (inr cut) =
    (hs, subst (AreIdle lent hs) (sym (cut_result old idle now result g cut.2.broken).2) are)

-- ---- calls

one_step : (s t : Stock) → StockStep s t → IsStockInOrder s → IsStockInOrder t
one_step s t (lends lent now number idle rest v out l) is =
    lent_in_order lent now number is.histories rest v out l.counted l.numbered
    (lends_first lent now number is.histories idle rest v l.first l.counted l.numbered is.idle) is.out
one_step s t (runs lent number idle before behind q old new result r) is =
    let at = out_behind lent before (leased number old ∷ behind) is.out in
    let o = at.0 in
    let now : IsOut lent (leased number new) =
    run_out lent number q old new result r o.history o.lease o.number o.own o.stands in
    record {
      histories = is.histories;
      idle = is.idle;
      out = out_append lent before (leased number new ∷ behind)
          (out_before lent before (leased number old ∷ behind) is.out) (now, at.1);
    }
one_step s t (gives_back lent number idle now before behind old result g) is =
    let at = out_behind lent before (leased number old ∷ behind) is.out in
    let o = at.0 in
    let rest =
    give_idle lent number is.histories idle now old result g is.idle o.history o.lease o.number o.own o.stands
    in
    record {
      histories = rest.0;
      idle = rest.1;
      out = out_append lent before behind (out_before lent before (leased number old ∷ behind) is.out) at.1;
    }
one_step s t (lends_fit lent now number idle rest v out l) is =
    let first = lends_checked lent now number is.histories idle rest v l is.idle in
    fit_in_order lent now number is.histories rest v out l.next l.numbered first is.out
one_step s t (drops_unfit lent idle rest last why out checks) is =
    let idle_is = subst (AreIdle lent is.histories) checks.first is.idle in
    rest_in_order lent is.histories checks.old rest out idle_is is.out
one_step s t (refills lent idle now out config nonce v fresh grown) is = record {
  histories = is.histories ++ new_history config nonce ∷ [];
  idle = idle_one_more lent lent is.histories (new_history config nonce) idle now v refl grown is.idle fresh;
  out = is.out;
}
one_step s t (retires lent number idle before behind old) is =
    let at = out_behind lent before (leased number old ∷ behind) is.out in
    record {
      histories = is.histories;
      idle = is.idle;
      out = out_append lent before behind (out_before lent before (leased number old ∷ behind) is.out) at.1;
    }

pub any_steps : (s t : Stock) → StockSteps s t → IsStockInOrder s → IsStockInOrder t
any_steps s t (no_step x) is = is
any_steps s t (step_more x y z steps step) is = one_step y z step (any_steps x y steps is)
