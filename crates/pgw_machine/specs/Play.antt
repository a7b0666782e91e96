-- A machine over bytes whose steps are a relation: what a message does may hang on what the machine draws from.
-- Where it is a function, it is the machine of Course (laws: where_steps_are_a_function).
use Rattle.std.specs.Prelude.{◌≡◌, ℕ, List, [], ◌++◌, drop}
use Rattle.pgw_machine.specs.Course.{Front, More, Bad, Whole, IsReading, Move, On, Ends, Course, Waits, Over, Rules}

-- What stands at the front of the bytes in this state, what a message may do, how a refusal may end it, and how it may
-- end at any time, as for want of memory.
pub record Play (S R M E : Type 0) : Type 1 where
  pub read : S → List ℕ → Front M E
  pub Steps : S → M → Move S R → Type 0
  pub Refuses : S → E → R → Type 0
  pub Breaks : S → R → Type 0

-- it reads steadily in each state
abbrev pub ReadsSteadily : {S R M E : Type 0} → Play S R M E → Type 0
ReadsSteadily {S = S} play = (state : S) → IsReading (play.read state)

-- bytes were put out before
abbrev pub course_behind : {S R : Type 0} → List ℕ → Course S R → Course S R
course_behind out (Waits state sent pending) = Waits state (out ++ sent) pending
course_behind out (Over ending sent) = Over ending (out ++ sent)

-- From a state, the bytes lead to this place: nothing whole stands at their front, or they are refused there, or the
-- machine ends, or a message is taken and the bytes behind it lead on.
pub data Leads {S R M E : Type 0} (play : Play S R M E) : S → List ℕ → Course S R → Type 0 where
  waits : (state : S) → (bytes : List ℕ) → play.read state bytes ≡ More
      → Leads play state bytes (Waits state [] bytes)
  stops : (state : S) → (bytes : List ℕ) → (why : E) → (ending : R)
      → play.read state bytes ≡ Bad why → play.Refuses state why ending
      → Leads play state bytes (Over ending [])
  breaks : (state : S) → (bytes : List ℕ) → (ending : R) → play.Breaks state ending
      → Leads play state bytes (Over ending [])
  ends : (state : S) → (bytes : List ℕ) → (m : M) → (len : ℕ) → (ending : R) → (out : List ℕ)
      → play.read state bytes ≡ Whole m len → play.Steps state m (Ends ending out)
      → Leads play state bytes (Over ending out)
  goes : (state next : S) → (bytes : List ℕ) → (m : M) → (len : ℕ) → (out : List ℕ)
      → (course : Course S R) → play.read state bytes ≡ Whole m len
      → play.Steps state m (On next out) → Leads play next (drop len bytes) course
      → Leads play state bytes (course_behind out course)

-- the steps of a machine that is a function
abbrev pub play_of : {S R M E : Type 0} → Rules S R M E → Play S R M E
play_of rules =
    record {
      read = rules.read;
      Steps = λ state m move. move ≡ rules.step state m;
      Refuses = λ
          state why ending. ending ≡ rules.bad state why;
      Breaks = λ state ending. ⊥;
    }

-- ---- words of its laws

-- a piece more leads from this place to that one
abbrev pub Continues : {S R M E : Type 0} → Play S R M E → Course S R → List ℕ → Course S R
    → Type 0
Continues {S = S} {R = R} play (Waits state out pending) piece there =
    (course : Course S R) × Leads play state (pending ++ piece) course
    × (there ≡ course_behind out course)
Continues play (Over ending out) piece there = there ≡ Over ending out

-- where it waits, nothing whole stands at the front of what it waits with
abbrev pub WaitsForMore : {S R M E : Type 0} → Play S R M E → Course S R → Type 0
WaitsForMore play (Waits state sent pending) = play.read state pending ≡ More
WaitsForMore play (Over ending sent) = Unit {0}
