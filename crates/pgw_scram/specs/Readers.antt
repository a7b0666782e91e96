-- How the parts of a message are found, from its front on.
use Rattle.std.specs.Prelude.{ℕ, List, [], ◌∷◌, ◌++◌, codes, Bool, ◌==◌, ◌||◌, Option, Some, None, Result, Ok, Err, is_some, option_map, option_and_then, if◌then◌else◌}
use Rattle.std.specs.Str.{is_utf8, bytes_eq}
use Rattle.pgw_types.specs.declared.error.ScramMessageFault.{ScramMessageFault}
use Rattle.pgw_types.specs.declared.error.ScramMessageFault.TheVariants as fault
use Rattle.pgw_types.specs.Numbers.{number_in}
use Rattle.pgw_scram.specs.declared.messages.ClientFirst.{ClientFirst}
use Rattle.pgw_scram.specs.declared.messages.ServerFirst.{ServerFirst}
use Rattle.pgw_scram.specs.declared.messages.ClientFinal.{ClientFinal}
use Rattle.pgw_scram.specs.declared.messages.ServerFinal.{ServerFinal}
use Rattle.pgw_scram.specs.declared.messages.ServerFinal.TheVariants.{Signature, Failed}

infixl 10 ◌>>=◌
abbrev pub ◌>>=◌ : {A B : Type 0} → Option A → (A → Option B) → Option B
o >>= f = option_and_then f o

-- ---- attributes

-- what stands before the first comma, or all, and what stands behind it, if there is one
unfoldable pub cut : List ℕ → List ℕ × Option (List ℕ)
cut [] = ([], None)
cut (b ∷ text) = if b == 44 then ([], Some text) else (b ∷ (cut text).0, (cut text).1)

abbrev pub onto_front : ℕ → List ℕ → Option (List ℕ × List ℕ) → Option (List ℕ × List ℕ)
onto_front b text (Some parts) = Some (b ∷ parts.0, parts.1)
onto_front b text None = if b == 44 then Some ([], text) else None

-- what stands before the last comma and behind it, if there is one
unfoldable pub cut_last : List ℕ → Option (List ℕ × List ℕ)
cut_last [] = None
cut_last (b ∷ text) = onto_front b text (cut_last text)

-- what stands behind a name, if the text begins with it
unfoldable pub behind_name : List ℕ → List ℕ → Option (List ℕ)
behind_name [] text = Some text
behind_name (c ∷ name) [] = None
behind_name (c ∷ name) (b ∷ text) = if b == c then behind_name name text else None

-- the value of an attribute at the front, and what stands behind it
abbrev pub attribute_at : List ℕ → List ℕ → Option (List ℕ × Option (List ℕ))
attribute_at name text = option_map cut (behind_name name text)

-- the values of two attributes, one behind the other, and what stands behind them
unfoldable pub two_at : List ℕ → List ℕ → List ℕ → Option (List ℕ × List ℕ × Option (List ℕ))
two_at first second text = do
  a ← attribute_at first text
  rest ← a.1
  b ← attribute_at second rest
  Some (a.0, b.0, b.1)

abbrev pub or_all : List ℕ → Option (List ℕ × Option (List ℕ)) → List ℕ
or_all text (Some (value, Some rest)) = rest
or_all text found = text

-- what stands behind a reserved-mext, or all
abbrev pub behind_mext : List ℕ → List ℕ
behind_mext text = or_all text (attribute_at (codes "m=") text)

-- ---- messages

abbrev pub or_grammar : {A : Type 0} → Option A → Result A ScramMessageFault
or_grammar None = Err fault.Grammar
or_grammar (Some parts) = Ok parts

abbrev pub if_utf8 : {A : Type 0} → List ℕ → Result A ScramMessageFault
    → Result A ScramMessageFault
if_utf8 message reading = if is_utf8 message then reading else Err fault.NotUtf8

-- client-first: a flag, an authzid, and the bare message

abbrev pub is_flag : List ℕ → Bool
is_flag text =
    bytes_eq text (codes "n") ||
    (bytes_eq text (codes "y") || is_some (behind_name (codes "p=") text))

abbrev pub is_authzid : List ℕ → Bool
is_authzid text = bytes_eq text [] || is_some (behind_name (codes "a=") text)

-- the user name and the nonce
abbrev pub bare_parts : List ℕ → Option (List ℕ × List ℕ × Option (List ℕ))
bare_parts bare = two_at (codes "n=") (codes "r=") (behind_mext bare)

-- the header and the bare message
unfoldable pub header_parts : List ℕ → Option (List ℕ × List ℕ)
header_parts message = do
  rest ← (cut message).1
  bare ← (cut rest).1
  if is_flag (cut message).0 then
      (if is_authzid (cut rest).0 then Some
      ((cut message).0 ++ 44 ∷ ((cut rest).0 ++ 44 ∷ []), bare) else None) else None

unfoldable pub client_first_parts : List ℕ → Option ClientFirst
client_first_parts message = do
  two ← header_parts message
  names ← bare_parts two.1
  Some (record { header = two.0; bare = two.1; user = names.0; nonce = names.1 })

abbrev pub read_client_first : List ℕ → Result ClientFirst ScramMessageFault
read_client_first message = if_utf8 message (or_grammar (client_first_parts message))

-- server-first: nonce, salt and count

unfoldable pub server_first_parts : List ℕ → Option (List ℕ × List ℕ × List ℕ)
server_first_parts message = do
  two ← two_at (codes "r=") (codes "s=") (behind_mext message)
  rest ← two.2
  count ← attribute_at (codes "i=") rest
  Some (two.0, two.1, count.0)

abbrev pub first_by_count : List ℕ → List ℕ → Option ℕ → Result ServerFirst ScramMessageFault
first_by_count nonce salt None = Err fault.Count
first_by_count nonce salt (Some n) =
    if n == 0 then Err fault.Count else Ok (record { nonce = nonce; salt = salt; count = n })

abbrev pub first_with_count : Option (List ℕ × List ℕ × List ℕ)
    → Result ServerFirst ScramMessageFault
first_with_count None = Err fault.Grammar
first_with_count (Some (nonce, salt, count)) = first_by_count nonce salt (number_in 32 count)

abbrev pub read_server_first : List ℕ → Result ServerFirst ScramMessageFault
read_server_first message = if_utf8 message (first_with_count (server_first_parts message))

-- client-final: the proof behind the last comma, and what stands before it

abbrev pub without_proof_parts : List ℕ → Option (List ℕ × List ℕ × Option (List ℕ))
without_proof_parts text = two_at (codes "c=") (codes "r=") text

unfoldable pub client_final_parts : List ℕ → Option ClientFinal
client_final_parts message = do
  two ← cut_last message
  proof ← behind_name (codes "p=") two.1
  names ← without_proof_parts two.0
  Some (record { binding = names.0; nonce = names.1; without_proof = two.0; proof = proof })

abbrev pub read_client_final : List ℕ → Result ClientFinal ScramMessageFault
read_client_final message = if_utf8 message (or_grammar (client_final_parts message))

-- server-final: a verifier, or an error

abbrev pub error_in : Option (List ℕ × Option (List ℕ)) → Option ServerFinal
error_in None = None
error_in (Some (value, more)) = Some (Failed value)

abbrev pub verifier_or : Option (List ℕ × Option (List ℕ)) → Option ServerFinal
    → Option ServerFinal
verifier_or None other = other
verifier_or (Some (value, more)) other = Some (Signature value)

unfoldable pub server_final_parts : List ℕ → Option ServerFinal
server_final_parts message =
    verifier_or (attribute_at (codes "v=") message) (error_in (attribute_at (codes "e=") message))

abbrev pub read_server_final : List ℕ → Result ServerFinal ScramMessageFault
read_server_final message = if_utf8 message (or_grammar (server_final_parts message))
