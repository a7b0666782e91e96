-- What the pieces of a text are read as.
use Rattle.std.specs.Prelude.{ℕ, List, [], ◌∷◌, ◌++◌, fold, Option, Some, None}

-- a list with one element more, if there are both
abbrev pub pushed : {A : Type 0} → Option (List A) → Option A → Option (List A)
pushed None next = None
pushed (Some all) None = None
pushed (Some all) (Some next) = Some (all ++ next ∷ [])

-- a list, and behind it what each piece is read as, where each can be read
abbrev pub read_onto : {A : Type 0} → (List ℕ → Option A) → List A → List (List ℕ)
    → Option (List A)
read_onto read all pieces = fold (λ so_far piece. pushed so_far (read piece)) (Some all) pieces

abbrev pub all_read : {A : Type 0} → (List ℕ → Option A) → List (List ℕ) → Option (List A)
all_read read pieces = read_onto read [] pieces
