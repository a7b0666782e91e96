-- The secret of a password, behind what was written before.
use Rattle.std.proofs.Common.{◌≡◌, ℕ, List, ◌++◌, ap, ◌∙◌, inr}
use Rattle.pgw_prog.specs.declared.printed.Printed.{Printed}
use Rattle.pgw_prog.specs.Secret.{SaysSecret, PrintsSecret}

pub secret_written : (password : List ℕ) (count : ℕ) (words : List ℕ) (p : Printed) (before now : List ℕ)
    → SaysSecret password count words p → now ≡ before ++ p.text.items
    → PrintsSecret password count words before now p.status
secret_written password count words p before now says wrote =
    inr (says.1, wrote ∙ ap (λ (text : List ℕ). before ++ text) says.0)
