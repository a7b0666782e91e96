-- Versions that a server offers.
use Rattle.std.proofs.Common.{◌≡◌, ℕ, pos, ◌+◌, ◌*◌, ◌/◌, ◌%◌, ◌<◌, ◌≤◌, true, false, ltb, Some, refl, arith}
use Rattle.std.proofs.lemmas.Bool.{lt-ltb, le-ltb}
use Rattle.pgw_types.specs.declared.context.ProtocolVersion.TheVariants.{PROTOCOL3_0, PROTOCOL3_2}
use Rattle.pgw_startup.specs.Negotiate.{negotiated_version}

pub alike : (minor : ℕ) → minor < 65536
    → negotiated_version (pos (3 * 65536 + minor)) ≡ negotiated_version (pos minor)
unfolding negotiated_version
alike minor small =
    let great : ltb 65535 (3 * 65536 + minor) ≡ true = lt-ltb _ _ (omega arith) in
    let plain : ltb 65535 minor ≡ false = le-ltb _ _ (omega (arith, small)) in
    let major : (3 * 65536 + minor) / 65536 ≡ 3 = omega (arith, small) in
    let rest : (3 * 65536 + minor) % 65536 ≡ minor = omega (arith, small) in
    rw (great, plain, major, rest) refl

pub first : negotiated_version (pos 0) ≡ Some PROTOCOL3_0
unfolding negotiated_version
first = refl

pub later : (minor : ℕ) → 2 ≤ minor → minor < 65536 → negotiated_version (pos minor) ≡ Some PROTOCOL3_2
unfolding negotiated_version
later minor two small =
    let plain : ltb 65535 minor ≡ false = le-ltb _ _ (omega (arith, small)) in
    let past : ltb minor 2 ≡ false = le-ltb _ _ two in
    rw (plain, past) refl
