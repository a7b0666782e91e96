-- What a pool lends, and what is asked in a lease.
use Rattle.std.specs.Prelude.{◌≡◌, ◌≢◌, ℕ, ◌+◌, Bool, true, false, List, [], ◌∷◌, ◌++◌, Result, Ok, Err}
use Rattle.pgw_backend.specs.declared.client_error.PgWireClientError.{PgWireClientError as ClientError}
use Rattle.pgw_backend.specs.declared.client_error.PgWireClientError.TheVariants as client
use Rattle.pgw_session.specs.declared.types.Request.{Request}
use Rattle.pgw_session.specs.declared.types.Answer.{Answer}
use Rattle.pgw_session.specs.Events.{Event}
use Rattle.pgw_handlers.specs.Client.{Client}
use Rattle.pgw_client_laws.specs.Turns.{IsAnswered, IsPassedSegment}
use Rattle.pgw_client_laws.specs.Calls.{IsStarvedCall}
use Rattle.pgw_client_laws.specs.Stands.{Made, StandsForCalls, BrokenBehind}
use Rattle.pgw_pool.specs.declared.pool.LendError.{LendError}
use Rattle.pgw_pool.specs.declared.pool.LendError.TheVariants.{Empty, Exhausted}
use Rattle.pgw_pool.specs.Histories.{History, Lent, View, lent_as, with_request, made_over, BeginsIdle, AreReset, IsLent, AreIdle}

-- ---- lend

-- as many leases as a pool can number
abbrev pub most_leases : ℕ
most_leases = 18446744073709551615

-- The session that has been idle longest is lent, under the next number.
pub record Lends (idle : List View) (lent : ℕ) (rest : List View) (now : ℕ) (number : ℕ)
    (v : View)
    : Type 0 where
  pub first : idle ≡ v ∷ rest
  pub below : lent ≢ most_leases
  pub counted : now ≡ lent + 1
  pub numbered : number ≡ now

-- why none is lent: none is idle; or one is, and all numbers are spent
abbrev pub LendsNone : List View → ℕ → LendError → Type 0
LendsNone idle lent Empty = idle ≡ []
LendsNone idle lent Exhausted = (idle ≢ []) × (lent ≡ most_leases)

-- the first of these sessions is lent, and the others stay idle
abbrev pub LendsFirst : List History → ℕ → List View → ℕ → View → Type 0
LendsFirst [] lent rest number v = ⊥
LendsFirst (h ∷ hs) lent rest number v =
    IsLent h (lent_as number) v × BeginsIdle h.over × AreIdle lent hs rest

-- ---- run

-- one request more was made in the lease, whose events are so
abbrev pub MakesOne : History → Lent → Request → (List Event → Type 0) → View → Type 0
MakesOne h l q property v = (es : List Event) × property es × IsLent h (with_request l q es) v

-- Memory was wanting in a request: before it the session stood by these, and since then it read some
-- bytes, and wrote whole messages of that request, or nothing.
pub record IsStarvedIn (h : History) (ts : List Made) (q : Request) (v : View) : Type 0 where
  pub read : List ℕ
  pub wrote : List ℕ
  pub client : Client
  pub buffer : List ℕ
  pub stands : StandsForCalls h.config h.nonce ts read wrote client buffer
  pub taken : List ℕ
  pub sent : List ℕ
  pub took : v.line.tape.took ≡ read ++ taken
  pub put : v.line.tape.wrote ≡ wrote ++ sent
  pub starved : IsStarvedCall q sent

-- An error left the session unusable as this was asked: the requests before it were made, and of
-- its own segment a front; or memory was wanting in it.
pub record IsCutLease (h : History) (l : Lent) (q : Request) (e : ClientError) (v : View) : Type 0
  where
    pub stands : BrokenBehind h.config h.nonce (made_over h.over ++ l.made) q
        v.line.tape.took v.line.tape.wrote v.client v.line.buffer e
    pub wants : e ≡ client.OutOfMemory → IsStarvedIn h (made_over h.over ++ l.made) q v
    pub broken : v.broken ≡ true
    pub resets : AreReset h.over

-- What a lease stands for behind a request: for that too, and the answer is its own segment's; or
-- for one that was passed over; or for none more where it has no encoding, or memory was wanting
-- for the name that its answer tells; or it is cut.
abbrev pub LeaseRan : History → Lent → Request → View → Bool → Result Answer ClientError → Type 0
LeaseRan h l q v false (Ok a) = MakesOne h l q (IsAnswered q a) v
LeaseRan h l q v false (Err (client.UnexpectedMessage m)) = MakesOne h l q (IsPassedSegment q m) v
LeaseRan h l q v false (Err (client.PgWireError why)) = IsLent h l v
LeaseRan h l q v false (Err client.OutOfMemory) = IsLent h l v
LeaseRan h l q v true (Err e) = IsCutLease h l q e v
LeaseRan h l q v broken result = ⊥
