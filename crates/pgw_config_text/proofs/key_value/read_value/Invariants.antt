use Rattle.std.proofs.Common.{◌≡◌, drop, false}
use Rattle.std.specs.Prelude.{string_bytes}
use Rattle.pgw_config_text.specs.KeyValue.{ends_value}
use Rattle.pgw_config_text.specs.Reader.{conninfo_value, behind_text}
use Rattle.pgw_config_text.proofs.key_value.read_value.Given as goal

abbrev pub invariant-loop-i : goal.invariant-loop-i
invariant-loop-i l =
    behind_text (string_bytes l.value) (conninfo_value (ends_value l.quoted) l.escaped l.i (drop l.i l.text)) ≡
    conninfo_value (ends_value l.quoted) false 0 l.text
