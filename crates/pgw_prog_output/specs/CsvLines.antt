-- Rows as lines of CSV (RFC 4180, section 2), but that a line ends with a line feed alone.
use Rattle.std.specs.Prelude.{◌==◌, ℕ, List, [], ◌∷◌, ◌++◌, length, map, Bool, true, false, Option}
use Rattle.std.specs.Prelude.{unwrap_or, if◌then◌else◌}
use Rattle.std.specs.List.{flat_map}
use Rattle.csv.specs.Writing.{default_writer, needs_quotes, row_text}

-- NULL and the empty text are both an empty field
abbrev pub csv_field_text : Option (List ℕ) → List ℕ
csv_field_text value = unwrap_or value []

-- the fields with commas between them, those that hold a comma, a quote or a line's end between
-- quotes, and a line feed
unfoldable pub csv_line : List (Option (List ℕ)) → List ℕ
csv_line row = row_text default_writer (map csv_field_text row)

-- ---- for private clauses

-- a quote stands twice
abbrev pub escaped_byte : ℕ → List ℕ
escaped_byte byte = if byte == 34 then 34 ∷ byte ∷ [] else byte ∷ []

abbrev pub field_in_csv : List ℕ → List ℕ
field_in_csv field = if needs_quotes default_writer field then 34 ∷ (flat_map escaped_byte field
    ++ (34 ∷ [])) else field

abbrev pub csv_field : Option (List ℕ) → List ℕ
csv_field value = field_in_csv (csv_field_text value)

abbrev pub csv_rest : List (Option (List ℕ)) → List ℕ
csv_rest row = flat_map (λ value. 44 ∷ csv_field value) row

abbrev pub csv_fields : List (Option (List ℕ)) → List ℕ
csv_fields [] = []
csv_fields (value ∷ rest) = csv_field value ++ csv_rest rest

abbrev pub is_blank_line : List (Option (List ℕ)) → Bool
is_blank_line [] = true
is_blank_line (value ∷ []) = length (csv_field_text value) == 0
is_blank_line (value ∷ next ∷ rest) = false

-- what stands for the one empty field of a line that would show no byte
abbrev pub blank_text : List (Option (List ℕ)) → List ℕ
blank_text row = if is_blank_line row then 34 ∷ 34 ∷ [] else []
