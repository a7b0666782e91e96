-- A message without a body: its row is exact.
use Rattle.std.proofs.Common.{ℕ, refl, lit<}
use Rattle.pgw_types.specs.declared.context.DecodeContext.{DecodeContext}
use Rattle.pgw_wire.specs.Formats.{IsRow, NoBody}
use Rattle.pgw_wire.specs.Empty.{empty_request_of, empty_response_of}
use Rattle.pgw_wire.proofs.MessageLaws.{no_body_row}

pub empty_request : (byte : ℕ) (ctx : DecodeContext) → IsRow byte 10000 (empty_request_of byte ctx) NoBody
unfolding empty_request_of
empty_request byte ctx = no_body_row byte 10000 (lit< tt) (record {}) (λ n. refl)

pub empty_response : (byte : ℕ) (ctx : DecodeContext) → IsRow byte 30000 (empty_response_of byte ctx) NoBody
unfolding empty_response_of
empty_response byte ctx = no_body_row byte 30000 (lit< tt) (record {}) (λ n. refl)
