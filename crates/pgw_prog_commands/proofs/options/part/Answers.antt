use Rattle.std.proofs.Common.{◌≡◌, ◌∙◌, ◌-◌, Option, Some, None, length, take, drop, map, string_bytes, sym}
use Rattle.std.proofs.lemmas.List.{take_rest}
use Rattle.pgw_prog_commands.specs.Options.{WordParts, with_flag}
use Rattle.pgw_prog_commands.specs.Parting.{parts}
use Rattle.pgw_prog_commands.proofs.PartLaws.{goes_on, refused, ends, ends_there}
use Rattle.pgw_prog_commands.proofs.options.part.Goals as goal

pub loop-parted-preserved : goal.loop-parted-preserved
loop-parted-preserved c =
    let p = c.loop-parted.parted in
    let words = p.rest.now in
    let told : ◌≡◌ {A = Option WordParts} (Some (parts c.in-Some.more))
    (with_flag p.options c.flag_of-flag.result (map string_bytes (take (length words - 1) (drop 1 words)))) =
    rw c.in-Some.is at c.in_ok-more.ensures in
    let more = rw (take_rest words 1) at told in
    let read = goes_on p.options words c.word-item.result c.as_str.result.now c.flag_of-flag.result
    (parts c.in-Some.more)
    c.in-len1-up.len_at_least c.word-item.is c.as_str.ensures.value c.flag_of-flag.ensures (sym more) in
    sym read ∙ c.loop-parted.invariant

pub returns-in-None : goal.returns-in-None
returns-in-None c =
    let p = c.loop-parted.parted in
    let words = p.rest.now in
    let told : ◌≡◌ {A = Option WordParts} None
    (with_flag p.options c.flag_of-flag.result (map string_bytes (take (length words - 1) (drop 1 words)))) =
    rw c.in-None.is at c.in_ok-more.ensures in
    let none = rw (take_rest words 1) at told in
    let read = refused p.options words c.word-item.result c.as_str.result.now c.flag_of-flag.result
    c.in-len1-up.len_at_least c.word-item.is c.as_str.ensures.value c.flag_of-flag.ensures
    (sym c.ends_options.ensures ∙ c.if-ends_options.false) (sym none) in
    sym read ∙ c.loop-parted.invariant

pub returns-then-ends_options : goal.returns-then-ends_options
returns-then-ends_options c =
    let p = c.loop-parted.parted in
    let read = ends p.options p.rest.now c.word-item.result c.as_str.result.now c.flag_of-flag.result
    c.in-len1-up.len_at_least c.word-item.is c.as_str.ensures.value c.flag_of-flag.ensures
    (sym c.ends_options.ensures ∙ c.if-ends_options.true) in
    sym read ∙ c.loop-parted.invariant

pub returns : goal.returns
returns c = sym (ends_there _ _ c.in_default.len_below) ∙ c.loop-parted.invariant
