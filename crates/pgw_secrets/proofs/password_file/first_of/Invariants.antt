use Rattle.std.proofs.Common.{◌≡◌, true, not, take}
use Rattle.std.specs.List.{list_all}
use Rattle.pgw_secrets.specs.PasswordShown.{answers_asked}
use Rattle.pgw_secrets.proofs.password_file.first_of.Given as goal

abbrev pub invariant-loop-entry : goal.invariant-loop-entry
invariant-loop-entry l = list_all (λ e. not (answers_asked l.asked e)) (take l.entry-index l.entries) ≡ true
