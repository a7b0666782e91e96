use Rattle.std.proofs.Common.{◌≡◌, drop}
use Rattle.pgw_config.specs.Settings.{all_applied}
use Rattle.pgw_config.proofs.settings.apply_all.Given as goal

abbrev pub invariant-loop-part : goal.invariant-loop-part
invariant-loop-part l = all_applied l.config (drop l.part-index l.parts) ≡ all_applied l.fn.config l.parts
