-- The keys whose value is a whole number.
use Rattle.std.specs.Prelude.{ℕ, suc, zero, ℤ, pos, negsuc, ◌^◌, List, length, not, ◌&&◌, ◌==◌, nat_lt, Option, Some, None, if◌then◌else◌}
use Rattle.std.specs.List.{list_all}
use Rattle.std.specs.Char.{is_digit}
use Rattle.std.specs.Str.Parse.{without_leading_sign, signed_digits_value}
use Rattle.pgw_types.specs.Numbers.{number_in}
use Rattle.pgw_config.specs.Choices.{with_value}
use Rattle.pgw_config.specs.declared.config.Config.{Config}
use Rattle.pgw_config.specs.declared.keys.NumberKey.{NumberKey}
use Rattle.pgw_config.specs.declared.keys.NumberKey.TheVariants as number

-- how far a number is from zero, and a number below zero from one less than that
abbrev pub reach : ℤ → ℕ
reach (pos n) = n
reach (negsuc n) = n

-- a whole number of 64 bits: a plus, a minus or none, and decimal digits
unfoldable pub signed_in : List ℕ → Option ℤ
signed_in text =
    let digits = without_leading_sign text in
    if nat_lt 0 (length digits) &&
    (list_all (λ c. is_digit c 10) digits && nat_lt (reach (signed_digits_value 10 text))
    (2 ^ 63)) then Some (signed_digits_value 10 text) else None

-- a time of zero or less leaves the earlier one
abbrev pub later_idle : ℕ → ℤ → ℕ
later_idle earlier (pos zero) = earlier
later_idle earlier (pos (suc n)) = suc n
later_idle earlier (negsuc n) = earlier

abbrev pub later_time : Option ℕ → ℤ → Option ℕ
later_time earlier (pos zero) = earlier
later_time earlier (pos (suc n)) = Some (suc n)
later_time earlier (negsuc n) = earlier

-- the configuration with a number, where the text is one that the key takes
abbrev pub with_number : Config → NumberKey → List ℕ → Option Config
with_number config number.ConnectTimeout text =
    with_value (signed_in text)
    (λ t. record config { connect_timeout = later_time config.connect_timeout t })
with_number config number.TcpUserTimeout text =
    with_value (signed_in text)
    (λ t. record config { tcp_user_timeout = later_time config.tcp_user_timeout t })
with_number config number.Keepalives text =
    with_value (number_in 64 text) (λ n. record config { keepalives = not (n == 0) })
with_number config number.KeepalivesIdle text =
    with_value (signed_in text)
    (λ t. record config { keepalives_idle = later_idle config.keepalives_idle t })
with_number config number.KeepalivesInterval text =
    with_value (signed_in text)
    (λ t. record config { keepalives_interval = later_time config.keepalives_interval t })
with_number config number.KeepalivesRetries text =
    with_value (number_in 32 text) (λ n. record config { keepalives_retries = Some n })
