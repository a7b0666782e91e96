-- Turns of a session.
use Rattle.std.specs.Prelude.{◌≡◌, ℕ, List}
use Rattle.hothummei_c.specs.declared.session.Phase.{Phase}
use Rattle.hothummei_c.specs.declared.session.Phase.TheVariants as phase
use Rattle.hothummei_c.specs.declared.session.Session.{Session}
use Rattle.hothummei_c.specs.declared.values.Value.{Value}
use Rattle.hothummei_c.specs.Values.{HoldsCBytes}

-- these bytes are shown, and nothing changes
abbrev pub Shows : Session → Session → List ℕ → Value → ℕ → Type 0
Shows old new bytes out result = (result ≡ 0) × (new ≡ old) × HoldsCBytes bytes out

abbrev pub phase_number : Phase → ℕ
phase_number phase.New = 0
phase_number phase.Asking = 1
phase_number phase.Waiting = 2
phase_number phase.Ready = 3
phase_number phase.Done = 4
phase_number phase.Failed = 5
