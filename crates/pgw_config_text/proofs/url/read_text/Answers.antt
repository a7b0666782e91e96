use Rattle.std.proofs.Common.{◌∙◌, sym}
use Rattle.pgw_config_text.proofs.UrlLaws.{text_is, bytes_are}
use Rattle.pgw_config_text.proofs.url.read_text.Goals as goal

pub returns-in-Ok : goal.returns-in-Ok
returns-in-Ok c =
    text_is c.args.written.now c.deref.result.now c.in_ok-from_str-in-Ok.field-0
    (c.deref.ensures.value ∙ c.in_ok-append_to.ensures.ok
    ∙ rw (c.new-bytes.ensures.items) c.percent_decode.ensures.bytes)
    (c.in_ok-from_str-in-Ok.ensures ∙ c.in-Ok.ensures.cases.0) c.in-Ok.ensures.cases.1

pub returns : goal.returns
returns c =
    bytes_are c.args.written.now c.deref.result.now c.in_ok-from_slice-in-Err.field-0
    (c.deref.ensures.value ∙ c.in_ok-append_to.ensures.ok
    ∙ rw (c.new-bytes.ensures.items) c.percent_decode.ensures.bytes)
    (c.in_ok-from_slice-in-Err.ensures ∙ c.deref-in-Err.ensures.value
    ∙ sym c.deref.ensures.value) c.in-Err.ensures.cases.0
