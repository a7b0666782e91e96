-- A token is a text.
use Rattle.std.proofs.Common.{◌≡◌, ℕ, ◌<◌, true, List, arith}
use Rattle.std.specs.List.{list_all, All}
use Rattle.std.specs.Str.{IsUtf8}
use Rattle.std.proofs.lemmas.Bool.Decides.{nat_tests}
use Rattle.std.proofs.lemmas.List.Sums.{AllPass-from_list_all}
use Rattle.std.proofs.lemmas.Str.{IsUtf8-from_ascii}
use Rattle.std.proofs.lemmas.Str.Ascii.{IsAscii-from_all}
use Rattle.pgw_login_sasl.specs.Token.{is_token_byte}

token_byte_is_ascii : (b : ℕ) → is_token_byte b ≡ true → b < 128
token_byte_is_ascii b h = grind (arith, nat_tests)

token_bytes_are_ascii : (bs : List ℕ) → list_all is_token_byte bs ≡ true → All (λ b. b < 128) bs
token_bytes_are_ascii bs h =
    λ k d within. token_byte_is_ascii _ (AllPass-from_list_all is_token_byte bs h k d within)

-- a token is UTF-8
pub token_is_text : (bs : List ℕ) → list_all is_token_byte bs ≡ true → IsUtf8 bs
token_is_text bs h = IsUtf8-from_ascii bs (IsAscii-from_all bs (token_bytes_are_ascii bs h))
