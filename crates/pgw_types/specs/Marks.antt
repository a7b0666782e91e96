-- Texts that are cut at their first mark.
use Rattle.std.specs.Prelude.{ℕ, ◌+◌, List, [], take, drop, length, Option, Some, None, ◌==◌, nat_eq, if◌then◌else◌}
use Rattle.std.specs.List.{position, slice_split}
use Rattle.std.specs.Cmp.Lexicographic.{pointwise}

-- what stands before a place, or all
abbrev pub text_before : Option ℕ → List ℕ → List ℕ
text_before None text = text
text_before (Some n) text = take n text

-- what stands behind it, if there is one
abbrev pub text_behind_mark : Option ℕ → List ℕ → Option (List ℕ)
text_behind_mark None text = None
text_behind_mark (Some n) text = Some (drop (n + 1) text)

-- what stands before the first mark, or all
unfoldable pub before_mark : ℕ → List ℕ → List ℕ
before_mark mark text = text_before (position (λ b. b == mark) text) text

-- what stands behind it, if there is one
unfoldable pub behind_mark : ℕ → List ℕ → Option (List ℕ)
behind_mark mark text = text_behind_mark (position (λ b. b == mark) text) text

-- a text, or none
abbrev pub or_empty : Option (List ℕ) → List ℕ
or_empty None = []
or_empty (Some text) = text

-- the pieces between the marks in a text
abbrev pub pieces_at : ℕ → List ℕ → List (List ℕ)
pieces_at mark text = slice_split (λ b. b == mark) text

-- what stands behind a word, if the text begins with it
unfoldable pub behind_word : List ℕ → List ℕ → Option (List ℕ)
behind_word word text =
    if pointwise nat_eq (take (length word) text) word then Some (drop (length word) text) else
    None
