-- Connection texts that are URLs, behind their scheme. A text stands here as its UTF-8.
use Rattle.std.specs.Prelude.{◌≡◌, ◌<◌, ℕ, List, [], ◌∷◌, ◌++◌, drop, length, codes, slice_index, Option, Some, None, Result, Ok, Err, ◌==◌, nat_eq, if◌then◌else◌}
use Rattle.std.specs.List.{flat_map}
use Rattle.std.specs.Str.{is_utf8}
use Rattle.std.specs.Cmp.Lexicographic.{pointwise}
use Rattle.percent_encoding.specs.Percent.{percent_decode}
use Rattle.pgw_types.specs.Marks.{before_mark, behind_mark, or_empty, pieces_at}
use Rattle.pgw_config_text.specs.Part.{Item, up_to_fault}
use Rattle.pgw_config_text.specs.declared.part.Part.{Part}
use Rattle.pgw_config_text.specs.declared.part.Part.TheVariants as part
use Rattle.pgw_config_text.specs.declared.part.Cut.{Cut}
use Rattle.pgw_config_text.specs.declared.part.Fault.{Fault}
use Rattle.pgw_config_text.specs.declared.part.Fault.TheVariants as fault

-- ---- escapes

-- bytes that are text, or the fault
abbrev pub text_or_bytes : List ℕ → Result (List ℕ) Fault
text_or_bytes bytes = if is_utf8 bytes then Ok bytes else Err (fault.NotUtf8 bytes)

-- the text that one with escapes stands for
unfoldable pub url_text : List ℕ → Result (List ℕ) Fault
url_text written = text_or_bytes (percent_decode written)

-- the part that a text makes
abbrev pub url_part : (List ℕ → Part) → Result (List ℕ) Fault → Item
url_part make (Ok text) = Ok (make text)
url_part make (Err e) = Err e

-- ---- credentials: the user and, behind the first colon, a password in any bytes

abbrev pub password_in : Option (List ℕ) → List Item
password_in None = []
password_in (Some written) = Ok (part.Password (percent_decode written)) ∷ []

abbrev pub login_in : List ℕ → List Item
login_in text =
    url_part (part.Pair (codes "user")) (url_text (before_mark 58 text)) ∷ password_in
    (behind_mark 58 text)

-- they stand before the first at sign
abbrev pub credentials_by : Option (List ℕ) → List ℕ → List Item
credentials_by None text = []
credentials_by (Some rest) text = login_in (before_mark 64 text)

abbrev pub credentials_in : List ℕ → List Item
credentials_in text = credentials_by (behind_mark 64 text) text

abbrev pub all_or : Option (List ℕ) → List ℕ → List ℕ
all_or None text = text
all_or (Some rest) text = rest

abbrev pub behind_credentials : List ℕ → List ℕ
behind_credentials text = all_or (behind_mark 64 text) text

-- ---- hosts

-- a host and its port; an empty port is the usual one
abbrev pub host_and_port : List ℕ → List ℕ → List Item
host_and_port host port =
    url_part part.Host (url_text host) ∷ url_part (part.Pair (codes "port")) (url_text port) ∷ []

-- behind a bracket that closes a host: nothing, or a colon and a port
abbrev pub closed_host : List ℕ → Option (List ℕ) → List Item
closed_host host None = Err fault.Host ∷ []
closed_host host (Some after) =
    if length after == 0 then host_and_port host []
    else if slice_index after 0 == 58 then host_and_port host (drop 1 after)
    else url_part part.Host (url_text host) ∷ Err fault.Host ∷ []

-- a host in brackets, or one up to the first colon, and its port
abbrev pub host_in : List ℕ → List Item
host_in text =
    if slice_index text 0 == 91 then closed_host (before_mark 93 (drop 1 text))
    (behind_mark 93 (drop 1 text))
    else host_and_port (before_mark 58 text) (or_empty (behind_mark 58 text))

-- hosts have commas between them; an empty text has none
unfoldable pub hosts_in : List ℕ → List Item
hosts_in text = if length text == 0 then [] else flat_map host_in (pieces_at 44 text)

-- ---- the database, behind the hosts and a slash

abbrev pub database_in : List ℕ → List Item
database_in text =
    if length text == 0 then [] else url_part (part.Pair (codes "dbname")) (url_text text) ∷ []

abbrev pub address_in : List ℕ → List Item
address_in text = hosts_in (before_mark 47 text) ++ database_in (or_empty (behind_mark 47 text))

-- ---- pairs, behind a question mark

-- a pair whose key is host is one host
abbrev pub pair_of : Result (List ℕ) Fault → Result (List ℕ) Fault → Item
pair_of (Err e) value = Err e
pair_of (Ok key) (Err e) = Err e
pair_of (Ok key) (Ok value) =
    if pointwise nat_eq key (codes "host") then Ok (part.Host value) else Ok (part.Pair key value)

-- a text is these pairs. A key goes up to the next equals sign, and its value up to the next ampersand or the end
pub data ArePairs : List ℕ → List Item → Type 0 where
  ended : ArePairs [] []
  no_pair : {text : List ℕ} → 0 < length text → behind_mark 61 text ≡ None
      → ArePairs text (Err fault.Syntax ∷ [])
  paired : {text written : List ℕ} {pairs : List Item} → behind_mark 61 text ≡ Some written
      → ArePairs (or_empty (behind_mark 38 written)) pairs
      → ArePairs text (pair_of (url_text (before_mark 61 text))
      (url_text (before_mark 38 written)) ∷ pairs)

-- ---- the whole

-- credentials, an address and pairs, up to the first fault
pub record IsUrl (text : List ℕ) (cut : Cut) : Type 0 where
  pub pairs : List Item
  pub are : ArePairs (or_empty (behind_mark 63 (behind_credentials text))) pairs
  pub is : cut ≡ up_to_fault
      (credentials_in text ++ (address_in (before_mark 63 (behind_credentials text)) ++ pairs))
