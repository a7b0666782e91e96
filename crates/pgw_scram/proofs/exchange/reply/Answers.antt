use Rattle.std.proofs.Common.{sym, subst}
use Rattle.std.specs.Str.{IsUtf8}
use Rattle.pgw_scram.proofs.Base64Laws.{base64_utf8}
use Rattle.pgw_scram.proofs.exchange.reply.Goals as goal

pub with_proof-requires : goal.with_proof-requires
with_proof-requires c = subst IsUtf8 (sym c.client_proof-proof.ensures) (base64_utf8 _)
