-- The logins of a pool's sessions.
use Rattle.std.specs.Result.{IfOk}
use Rattle.std.proofs.Common.{◌≡◌, ◌<◌, ◌≤◌, ℕ, ◌+◌, false, List, [], ◌∷◌, ◌++◌, length, take, drop, get_or, Option, Result, Ok, Err, arith, ◌⊎◌, inl, inr, refl, sym, ◌∙◌, ap, subst, append_assoc}
use Rattle.std.proofs.lemmas.List.{take_more, take_all, take-append-drop, map-append, length-drop}
use Rattle.pgw_backend.specs.declared.client_error.PgWireClientError.{PgWireClientError as ClientError}
use Rattle.pgw_backend.specs.declared.client_error.PgWireClientError.TheVariants as client
use Rattle.pgw_config.specs.declared.config.Config.{Config}
use Rattle.pgw_link.specs.Tape.{Tape, new_tape}
use Rattle.pgw_link.specs.Dials.{MakesNext}
use Rattle.pgw_handlers.specs.Client.{Client}
use Rattle.pgw_handlers.specs.Handling.{HasCause, IsCaused}
use Rattle.pgw_handlers.specs.Startup.{HeardAtStartup, startup}
use Rattle.pgw_handlers.specs.declared.client_info.ServerInformation.{ServerInformation}
use Rattle.pgw_handlers_default.specs.declared.startup.DefaultStartupHandler.{DefaultStartupHandler}
use Rattle.pgw_handlers_default.specs.Startup.{StartupMeans, exchanges}
use Rattle.pgw_client_calls.specs.Talk.{end}
use Rattle.pgw_client_calls.specs.Desk.{first_client, with_information}
use Rattle.pgw_client_calls.specs.Line.{Line, MovesLine, IsFlushed, Foretold, IsWithin}
use Rattle.pgw_client_calls.specs.Calls.{LineCall}
use Rattle.pgw_client_calls.specs.Connecting.{new_line, Connected, NotConnected}
use Rattle.pgw_client_laws.specs.Stands.{StandsForCalls}
use Rattle.pgw_pool.specs.Histories.{History, View, new_history, IsIdleInPool, AreIdle}
use Rattle.pgw_pool.specs.Starting.{new_histories, handler_with, Dials, PoolConnects, ConnectAll, no_login, login_more, ConnectForetold, nothing_offered, offer_more, NotConnects, WantsAt, NotStarted}
use Rattle.pgw_pool.proofs.HistoryLaws.{idle_more}

-- ---- one login

-- of a value that two facts hold of
pub both_ok : {X Y : Type 0} (r : Result X Y) (P Q R : X → Type 0) → ((x : X) → P x → Q x → R x) → IfOk r P
    → IfOk r Q → IfOk r R
both_ok (Ok x) P Q R f p q = f x p q
both_ok (Err e) P Q R f p q = tt

pub within_limit : (read most limit : ℕ) → read ≤ most → most ≡ limit → (most ≡ limit) × (read ≤ limit)
within_limit read most limit within is = (is, (omega (arith, within, is)))

-- the law on logins
abbrev pub Begins : Type 0
Begins =
    (config : Config) (h : DefaultStartupHandler) (old now : Line) (told : Client)
    (information : ServerInformation)
    → old.buffer ≡ []
    → LineCall (λ before after answer. StartupMeans before startup after answer)
    (HeardAtStartup exchanges StartupMeans) (λ e. false) h (first_client config) old now
    (end (Ok information) told false now.buffer)
    → (read wrote : List ℕ) × MovesLine old now read wrote × IsFlushed now
    × StandsForCalls config h.nonce [] read wrote (with_information information told) now.buffer

pub begun : Begins → (config : Config) (limit : ℕ) (nonce : List ℕ) (old new : Dials) (v : View)
    → PoolConnects config limit nonce old new v → v.broken ≡ false → IsIdleInPool 0 (new_history config nonce) v
begun law config limit nonce old new v c usable =
    let at = (c.1).2 in
    let i = at.logs_in in
    let s = law config (handler_with nonce) (new_line at.first limit) v.line i.1 i.0 refl i.2 in
    let fresh = at.dialled.fresh in
    let took : v.line.tape.took ≡ s.0 = s.2.took ∙ ap (λ (t : Tape). t.took ++ s.0) fresh in
    let wrote : v.line.tape.wrote ≡ s.1 = s.2.wrote ∙ ap (λ (t : Tape). t.wrote ++ s.1) fresh in
    record {
      stands =
          subst (λ (x : Client). StandsForCalls config nonce [] v.line.tape.took v.line.tape.wrote x
          v.line.buffer) (sym i.3)
          (subst (λ (l : List ℕ). StandsForCalls config nonce [] l v.line.tape.wrote (with_information i.0 i.1)
          v.line.buffer) (sym took)
          (subst (λ (l : List ℕ). StandsForCalls config nonce [] s.0 l (with_information i.0 i.1) v.line.buffer)
          (sym wrote) s.4));
      resets = tt;
      ascend = (omega arith);
      usable = usable;
      flushed = s.3;
    }

-- the login by a copy of the configuration, and by a handler that was made with the nonce
pub connects_as : (config copy : Config) (h : DefaultStartupHandler) (limit : ℕ) (nonce : List ℕ)
    (old new : Dials) (v : View)
    → copy ≡ config → h ≡ handler_with nonce
    → IsWithin limit v.line
    → Connected (λ before after answer. StartupMeans before startup after answer)
    (HeardAtStartup exchanges StartupMeans) h copy limit old.tape new.tape v.client v.line
    → PoolConnects config limit nonce old new v
connects_as config copy h limit nonce old new v same made within c =
    subst (λ (x : Config). PoolConnects x limit nonce old new v) same (
      within,
      subst (λ (x : DefaultStartupHandler). Connected
          (λ before after answer. StartupMeans before startup after answer) (HeardAtStartup exchanges StartupMeans) x
          copy limit old.tape new.tape v.client v.line) made c,
    )

same_dialer : {Same : Type 0} (foretells : Type 0) (config : Config) (h : DefaultStartupHandler) (limit : ℕ)
    (old new : Dials) (e : ClientError)
    → (Same → new ≡ old)
    → NotConnected Same foretells (λ before after answer. StartupMeans before startup after answer)
    (HeardAtStartup exchanges StartupMeans) h config limit old.offers new.offers old.tape new.tape old.faults
    new.faults e
    → NotConnected (new ≡ old) foretells (λ before after answer. StartupMeans before startup after answer)
    (HeardAtStartup exchanges StartupMeans) h config limit old.offers new.offers old.tape new.tape old.faults
    new.faults e
same_dialer foretells config h limit old new e dials_are (inl none) = inl (dials_are none.0, none.1)
same_dialer foretells config h limit old new e dials_are (inr some) = inr some

pub not_connects_as : {Same : Type 0} (foretells : Type 0) (config copy : Config) (h : DefaultStartupHandler)
    (limit : ℕ) (nonce : List ℕ) (old new : Dials) (e : ClientError)
    → (Same → new ≡ old) → copy ≡ config → h ≡ handler_with nonce
    → NotConnected Same foretells (λ before after answer. StartupMeans before startup after answer)
    (HeardAtStartup exchanges StartupMeans) h copy limit old.offers new.offers old.tape new.tape old.faults
    new.faults e
    → NotConnects foretells config limit nonce old new e
not_connects_as foretells config copy h limit nonce old new e dials_are same made n =
    let x = same_dialer foretells copy h limit old new e dials_are n in
    subst (λ (c : Config). NotConnects foretells c limit nonce old new e) same
    (subst (λ (k : DefaultStartupHandler). NotConnected (new ≡ old) foretells
    (λ before after answer. StartupMeans before startup after answer) (HeardAtStartup exchanges StartupMeans)
    k copy limit old.offers new.offers old.tape new.tape old.faults new.faults e) made x)

-- ---- one after the other

pub idle_first : (config : Config) (ns : List (List ℕ)) (vs : List View) → vs ≡ []
    → AreIdle 0 (new_histories config (take 0 ns)) vs
idle_first config ns vs none = subst (AreIdle 0 []) (sym none) tt

pub connected_first : (config : Config) (limit : ℕ) (d : Dials) (ns : List (List ℕ)) (vs : List View) → vs ≡ []
    → ConnectAll config limit d (take 0 ns) d vs
connected_first config limit d ns vs none = subst (ConnectAll config limit d [] d) (sym none) no_login

pub foretold_first : (config : Config) (limit : ℕ) (d : Dials) (ns : List (List ℕ))
    (lefts : List (Option (List ℕ))) (vs : List View)
    → lefts ≡ [] → vs ≡ [] → ConnectForetold config limit d (take 0 ns) d lefts vs
foretold_first config limit d ns lefts vs none also =
    subst (ConnectForetold config limit d [] d lefts) (sym also)
    (subst (λ (l : List (Option (List ℕ))). ConnectForetold config limit d [] d l []) (sym none)
    nothing_offered)

-- an error's cause, of a dialer whose count had risen before
error_before : (e : ClientError) (before mid now : ℕ) → before ≤ mid → IsCaused e mid now false
    → IsCaused e before now false
error_before client.IoError before mid now later rose = omega (arith, later, rose)
error_before client.Broken before mid now later is = is
error_before e before mid now later is = tt

pub caused_before : {A B : Type 0} (before mid now : ℕ) (e : ClientError) → before ≤ mid
    → HasCause {T = A} mid now false (Err e) → HasCause {T = B} before now false (Err e)
caused_before before mid now e later h = record {
  later = (let l = h.later in omega (arith, later, l));
  failed = error_before e before mid now later h.failed;
}

next_taken : (ns : List (List ℕ)) (i : ℕ) (n : List ℕ) → i < length ns → n ≡ get_or ns i []
    → take (i + 1) ns ≡ take i ns ++ n ∷ []
next_taken ns i n there is = take_more ns i [] there ∙ ap (λ (x : List ℕ). take i ns ++ x ∷ []) (sym is)

pub idle_next : (config : Config) (ns : List (List ℕ)) (i : ℕ) (n : List ℕ) (vs now : List View) (v : View)
    → i < length ns → n ≡ get_or ns i [] → now ≡ vs ++ v ∷ []
    → AreIdle 0 (new_histories config (take i ns)) vs → IsIdleInPool 0 (new_history config n) v
    → AreIdle 0 (new_histories config (take (i + 1) ns)) now
idle_next config ns i n vs now v there is grown are idle =
    let hs : new_histories config (take (i + 1) ns) ≡ new_histories config (take i ns) ++ new_history config n ∷
    [] =
    ap (new_histories config) (next_taken ns i n there is)
    ∙ map-append (new_history config) (take i ns) (n ∷ []) in
    subst (λ (l : List View). AreIdle 0 (new_histories config (take (i + 1) ns)) l) (sym grown)
    (subst (λ (l : List History). AreIdle 0 l (vs ++ v ∷ [])) (sym hs)
    (idle_more 0 (new_histories config (take i ns)) (new_history config n) vs v are idle))

pub connected_next : (config : Config) (limit : ℕ) (ns : List (List ℕ)) (i : ℕ) (n : List ℕ) (old mid new : Dials)
    (vs now : List View) (v : View)
    → i < length ns → n ≡ get_or ns i [] → now ≡ vs ++ v ∷ []
    → ConnectAll config limit old (take i ns) mid vs → PoolConnects config limit n mid new v
    → ConnectAll config limit old (take (i + 1) ns) new now
connected_next config limit ns i n old mid new vs now v there is grown all one =
    subst (λ (l : List View). ConnectAll config limit old (take (i + 1) ns) new l) (sym grown)
    (subst (λ (l : List (List ℕ)). ConnectAll config limit old l new (vs ++ v ∷ []))
    (sym (next_taken ns i n there is)) (login_more (take i ns) n mid new vs v all one))

pub foretold_next : (config : Config) (limit : ℕ) (ns : List (List ℕ)) (i : ℕ) (n : List ℕ) (old mid new : Dials)
    (lefts lefts_now : List (Option (List ℕ))) (left : Option (List ℕ)) (vs now : List View) (v : View)
    → i < length ns → n ≡ get_or ns i [] → lefts_now ≡ lefts ++ left ∷ [] → now ≡ vs ++ v ∷ []
    → ConnectForetold config limit old (take i ns) mid lefts vs → PoolConnects config limit n mid new v
    → (offer : Option (List ℕ)) × MakesNext mid.offers new.offers offer
    × Foretold offer left new_tape v.line.tape
    → mid.faults ≤ new.faults → ConnectForetold config limit old (take (i + 1) ns) new lefts_now now
foretold_next config limit ns i n old mid new lefts lefts_now left vs now v there is more grown all one foretold
    later =
    subst (ConnectForetold config limit old (take (i + 1) ns) new lefts_now) (sym grown)
    (subst (λ (l : List (Option (List ℕ))). ConnectForetold config limit old (take (i + 1) ns) new l
    (vs ++ v ∷ [])) (sym more)
    (subst (λ (l : List (List ℕ)). ConnectForetold config limit old l new (lefts ++ left ∷ []) (vs ++ v ∷ []))
    (sym (next_taken ns i n there is))
    (offer_more (take i ns) n mid new lefts foretold.0 left vs v all one foretold.1 foretold.2 later)))

pub all_taken : (ns : List (List ℕ)) (i : ℕ) → length ns ≤ i → take i ns ≡ ns
all_taken ns i past = take_all i ns past

abbrev pub Offered : Type 0 → Config → ℕ → List (List ℕ) → Dials → Dials → List View → Type 0
Offered foretells config limit done old new vs =
    foretells → (lefts : List (Option (List ℕ))) × ConnectForetold config limit old done new lefts vs

-- nothing was done
pub wants_first : (foretells : Type 0) (config : Config) (limit : ℕ) (ns : List (List ℕ)) (old : Dials)
    → WantsAt foretells config limit ns old old
wants_first foretells config limit ns old = record {
  done = [];
  behind = ns;
  cut = refl;
  more = λ some. absurd (some refl);
  views = [];
  connected = no_login;
  later = (omega arith);
  foretold = λ t. ([], nothing_offered);
}

pub stops_next : (foretells : Type 0) (config : Config) (limit : ℕ) (ns : List (List ℕ)) (i : ℕ) (n : List ℕ)
    (old mid new : Dials) (vs : List View) (e : ClientError)
    → i < length ns → n ≡ get_or ns i []
    → ConnectAll config limit old (take i ns) mid vs → Offered foretells config limit (take i ns) old mid vs
    → old.faults ≤ mid.faults → mid.faults ≤ new.faults
    → NotConnects foretells config limit n mid new e ⊎ ((e ≡ client.OutOfMemory) × (new ≡ mid))
    → NotStarted foretells config limit ns old new e
stops_next foretells config limit ns i n old mid new vs e there is all offered before later (inr wanting) =
    let wants : WantsAt foretells config limit ns old mid = record {
      done = take i ns;
      behind = drop i ns;
      cut = sym (take-append-drop i ns);
      more = λ some none. omega (arith, there, length-drop i ns, ap length none);
      views = vs;
      connected = all;
      later = before;
      foretold = offered;
    } in
    inr (wanting.0, subst (WantsAt foretells config limit ns old) (sym wanting.1) wants)
stops_next foretells config limit ns i n old mid new vs e there is all offered before later (inl refused) = inl
    (record {
      done = take i ns;
      next = n;
      behind = drop (i + 1) ns;
      cut = sym (take-append-drop (i + 1) ns)
          ∙ ap (λ (l : List (List ℕ)). l ++ drop (i + 1) ns) (next_taken ns i n there is)
          ∙ append_assoc (take i ns) (n ∷ []) (drop (i + 1) ns);
      mid = mid;
      views = vs;
      connected = all;
      refused = refused;
      before = before;
      later = later;
      foretold = offered;
    })
