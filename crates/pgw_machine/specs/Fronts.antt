-- A message at the front of what another machine put out, of which some bytes have come.
use Rattle.std.specs.Prelude.{◌≡◌, ◌<◌, ◌≤◌, ◌-◌, ℕ, List, [], ◌∷◌, ◌++◌, length, take, drop}
use Rattle.pgw_machine.specs.Course.{Front, Whole, Move, On, Ends, Course, Waits, Over}
use Rattle.pgw_machine.specs.Play.{Play, Leads, waits, stops, breaks, ends, goes, course_behind}

-- whatever follows it, this message is read of these bytes
abbrev pub IsReadAs : {M E : Type 0} → (List ℕ → Front M E) → List ℕ → M → Type 0
IsReadAs read g m = (rest : List ℕ) → read (g ++ rest) ≡ Whole m (length g)

-- a step on the way to a place: where it began, by which message, and what it did
pub record Deed {S R M E : Type 0} (play : Play S R M E) : Type 0 where
  pub state : S
  pub message : M
  pub move : Move S R
  pub step : play.Steps state message move

abbrev pub deed : {S R M E : Type 0} (play : Play S R M E) (s : S) (m : M) (move : Move S R)
    → play.Steps s m move → Deed play
deed play s m move step = record { state = s; message = m; move = move; step = step }

-- the steps on this way, in order
abbrev pub deeds_in : {S R M E : Type 0} (play : Play S R M E) (s : S) (bytes : List ℕ)
    (course : Course S R)
    → Leads play s bytes course → List (Deed play)
deeds_in play s bytes course (waits state bs more) = []
deeds_in play s bytes course (stops state bs why ending bad refuses) = []
deeds_in play s bytes course (breaks state bs ending b) = []
deeds_in play s bytes course (ends state bs m len ending out whole step) =
    deed play state m (Ends ending out) step ∷ []
deeds_in play s bytes course (goes state next bs m len out c whole step on) =
    deed play state m (On next out) step ∷ deeds_in play next (drop len bs) c on

-- Where so many bytes of a message and of others behind it lead, and by which steps: they are awaited still; or the
-- machine ended without them; or the message was taken, and it ended, or went on with the bytes behind it.
pub data TakesFront {S R M E : Type 0} (play : Play S R M E) (s : S) (g : List ℕ) (m : M)
    (count : ℕ) (rest : List ℕ) : Course S R
    → List (Deed play) → Type 0 where
  awaits : count < length g → TakesFront play s g m count rest (Waits s [] (take count g)) []
  breaks_off : (ending : R) → play.Breaks s ending
      → TakesFront play s g m count rest (Over ending []) []
  ends_by : (ending : R) → (out : List ℕ) → length g ≤ count
      → (step : play.Steps s m (Ends ending out))
      → TakesFront play s g m count rest (Over ending out)
      (deed play s m (Ends ending out) step ∷ [])
  goes_by : (next : S) → (out : List ℕ) → (course : Course S R) → length g ≤ count
      → (step : play.Steps s m (On next out))
      → (on : Leads play next (take (count - length g) rest) course)
      → TakesFront play s g m count rest (course_behind out course)
      (deed play s m (On next out) step ∷ deeds_in play next (take (count - length g) rest)
      course on)
