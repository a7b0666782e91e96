-- A machine that takes messages from a list of bytes, one byte after the other, and puts bytes out. Which messages it
-- takes, and how it reads them, is a parameter: so a client, a server and what stands between them are all of this form.
-- Not part of the claims of `run_session` on transcripts, whose proofs it carries; those on dialogues, and those on a
-- server's core, rest on it.
use Rattle.std.specs.Prelude.{◌≡◌, ◌≤◌, ℕ, List, [], ◌∷◌, ◌++◌, length, take, fold}

-- what stands at the front of some bytes: nothing yet, and more bytes are needed; a refusal; or a message with its length
pub data Front (M E : Type 0) : Type 0 where
  More : Front M E
  Bad : (why : E) → Front M E
  Whole : (m : M) → (len : ℕ) → Front M E

-- A reading of the front. Nothing stands before the first byte, and a message is within the bytes. Which bytes stand
-- behind a message does not change it, and no byte more mends a refusal. So each message has a byte.
pub record IsReading {M E : Type 0} (read : List ℕ → Front M E) : Type 0 where
  pub none : read [] ≡ More
  pub within : (bytes : List ℕ) (m : M) (len : ℕ) → read bytes ≡ Whole m len → len ≤ length bytes
  pub whole : (bytes more : List ℕ) (m : M) (len : ℕ) → read bytes ≡ Whole m len
      → read (take len bytes ++ more) ≡ Whole m len
  pub bad : (bytes more : List ℕ) (why : E) → read bytes ≡ Bad why
      → read (bytes ++ more) ≡ Bad why

-- what a message does: the machine goes on or ends, and puts bytes out
pub data Move (S R : Type 0) : Type 0 where
  On : (state : S) → (out : List ℕ) → Move S R
  Ends : (ending : R) → (out : List ℕ) → Move S R

-- where the machine is: it waits with the bytes of a message not yet whole, or has ended; with all bytes put out
pub data Course (S R : Type 0) : Type 0 where
  Waits : (state : S) → (sent : List ℕ) → (pending : List ℕ) → Course S R
  Over : (ending : R) → (sent : List ℕ) → Course S R

-- a machine: what stands at the front of the bytes in this state, what a message does, and how a refusal ends it
pub record Rules (S R M E : Type 0) : Type 0 where
  pub read : S → List ℕ → Front M E
  pub step : S → M → Move S R
  pub bad : S → E → R

-- it reads steadily in each state
abbrev pub IsSteady : {S R M E : Type 0} → Rules S R M E → Type 0
IsSteady {S = S} rules = (state : S) → IsReading (rules.read state)

abbrev pub onto : {S R : Type 0} → List ℕ → Move S R → Course S R
onto sent (On state out) = Waits state (sent ++ out) []
onto sent (Ends ending out) = Over ending (sent ++ out)

abbrev pub eat : {S R M E : Type 0} → Rules S R M E → S → List ℕ → List ℕ → Front M E → Course S R
eat rules state sent pending More = Waits state sent pending
eat rules state sent pending (Bad why) = Over (rules.bad state why) sent
eat rules state sent pending (Whole m len) = onto sent (rules.step state m)

abbrev pub feed : {S R M E : Type 0} → Rules S R M E → Course S R → ℕ → Course S R
feed rules (Waits state sent pending) byte =
    eat rules state sent (pending ++ byte ∷ []) (rules.read state (pending ++ byte ∷ []))
feed rules (Over ending sent) byte = Over ending sent

-- what has been put out
abbrev pub sent_of : {S R : Type 0} → Course S R → List ℕ
sent_of (Waits state sent pending) = sent
sent_of (Over ending sent) = sent

-- where it is behind the bytes
unfoldable pub run : {S R M E : Type 0} → Rules S R M E → Course S R → List ℕ → Course S R
run rules course bytes = fold (feed rules) course bytes

-- where it waits, nothing stands at the front of what it waits with
abbrev pub WantsMore : {S R M E : Type 0} → Rules S R M E → Course S R → Type 0
WantsMore rules (Waits state sent pending) = rules.read state pending ≡ More
WantsMore rules (Over ending sent) = Unit {0}

-- what has been put out is what is written, and maybe more
abbrev pub Begins : {S R : Type 0} → Course S R → List ℕ → Type 0
Begins course wrote = (more : List ℕ) × (sent_of course ≡ wrote ++ more)

-- the course waits for more bytes
abbrev pub CourseWaits : {S R : Type 0} → Course S R → List ℕ → Type 0
CourseWaits {S} course sent =
    (state : S) × (pending : List ℕ) × (course ≡ Waits state sent pending)

-- ---- one machine seen as another

-- where it is, with other states and endings
abbrev pub map_course : {S T Q R : Type 0} → (S → T) → (Q → R) → Course S Q → Course T R
map_course f g (Waits state sent pending) = Waits (f state) sent pending
map_course f g (Over ending sent) = Over (g ending) sent

abbrev pub map_move : {S T Q R : Type 0} → (S → T) → (Q → R) → Move S Q → Move T R
map_move f g (On state out) = On (f state) out
map_move f g (Ends ending out) = Ends (g ending) out

-- the second machine reads and does in each state seen what the first does
pub record IsView {S T Q R M E : Type 0} (f : S → T) (g : Q → R) (first : Rules S Q M E)
    (second : Rules T R M E) : Type 0 where
  pub read : (state : S) (bytes : List ℕ) → second.read (f state) bytes ≡ first.read state bytes
  pub step : (state : S) (m : M) → second.step (f state) m ≡ map_move f g (first.step state m)
  pub bad : (state : S) (why : E) → second.bad (f state) why ≡ g (first.bad state why)
