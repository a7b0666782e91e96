-- The data of a client's message (RFC 7628, section 3.1): a header, and pairs of a key and a value.
use Rattle.std.specs.Prelude.{◌≡◌, ℕ, Bool, true, false, not, ◌&&◌, ◌||◌, ◌==◌, nat_le, List, [], ◌∷◌, length, Option, Some, None, is_some, Result, Ok, Err, codes, if◌then◌else◌}
use Rattle.std.specs.List.{list_all}
use Rattle.std.specs.Option.{option_copied}
use Rattle.std.specs.Cmp.Lexicographic.{pointwise}
use Rattle.std.specs.Prelude.{nat_eq}
use Rattle.pgw_types.specs.Results.{◌>>=◌}
use Rattle.pgw_types.specs.Marks.{before_mark, behind_mark, pieces_at}
use Rattle.pgw_types.specs.declared.error.OauthFault.{OauthFault}
use Rattle.pgw_types.specs.declared.error.OauthFault.TheVariants as fault

-- an ASCII letter
abbrev pub is_letter : ℕ → Bool
is_letter b = (nat_le 97 b && nat_le b 122) || (nat_le 65 b && nat_le b 90)

-- a printable ASCII character, tab, carriage return or line feed
abbrev pub is_value_byte : ℕ → Bool
is_value_byte b = (nat_le 0x20 b && nat_le b 0x7e) || (b == 9 || (b == 13 || b == 10))

-- what stands behind a byte, or this fault
abbrev pub behind_byte : ℕ → OauthFault → List ℕ → Result (List ℕ) OauthFault
behind_byte byte fault [] = Err fault
behind_byte byte fault (b ∷ bytes) = if b == byte then Ok bytes else Err fault

-- behind the flag: no authorization identity, and the separator
abbrev pub behind_flag : List ℕ → Result (List ℕ) OauthFault
behind_flag bytes =
    behind_byte 44 fault.Flag bytes >>=
    (λ a. behind_byte 44 fault.AuthzId a >>= (λ b. behind_byte 1 fault.Separator b))

-- the header is a flag `n` or `y`, and two commas; `p` would ask for channel binding
abbrev pub behind_header : List ℕ → Result (List ℕ) OauthFault
behind_header [] = Err fault.Flag
behind_header (b ∷ bytes) =
    if b == 112 then Err fault.ChannelBinding else
    (if (b == 110) || (b == 121) then behind_flag bytes else Err fault.Flag)

-- ---- pairs

abbrev pub is_auth : List ℕ → Bool
is_auth key = pointwise nat_eq key (codes "auth")

-- the value of `auth` once a pair is read, of the one before it: an empty one counts as none, and there is one at most
abbrev pub with_auth_value : Option (List ℕ) → List ℕ → List ℕ
    → Result (Option (List ℕ)) OauthFault
with_auth_value auth key value =
    if not (list_all is_letter key) then Err fault.Key
    else (if is_auth key && is_some auth then Err fault.TwiceAuth
    else (if not (list_all is_value_byte value) then Err fault.Value
    else Ok (if is_auth key && not (length value == 0) then Some value else auth)))

abbrev pub with_cut : Option (List ℕ) → List ℕ → Option (List ℕ)
    → Result (Option (List ℕ)) OauthFault
with_cut auth key None = Err fault.Pair
with_cut auth key (Some value) = with_auth_value auth key value

unfoldable pub with_auth_pair : Option (List ℕ) → List ℕ → Result (Option (List ℕ)) OauthFault
with_auth_pair auth pair = with_cut auth (before_mark 61 pair) (behind_mark 61 pair)

-- pairs are read up to an empty one
abbrev pub with_pairs : Option (List ℕ) → List (List ℕ) → Result (Option (List ℕ)) OauthFault
with_pairs auth [] = Ok auth
with_pairs auth (pair ∷ pairs) =
    if length pair == 0 then Ok auth else
    (with_auth_pair auth pair >>= (λ next. with_pairs next pairs))

-- the value of `auth`, if there is one
abbrev pub auth_in : List ℕ → Result (Option (List ℕ)) OauthFault
auth_in [] = Ok None
auth_in (b ∷ bytes) = behind_header (b ∷ bytes) >>= (λ rest. with_pairs None (pieces_at 1 rest))
