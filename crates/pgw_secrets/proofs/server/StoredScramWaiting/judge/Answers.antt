use Rattle.std.proofs.Common.{sym, subst}
use Rattle.std.specs.Str.{IsUtf8}
use Rattle.pgw_scram.proofs.Base64Laws.{base64_utf8}
use Rattle.pgw_secrets.proofs.server.StoredScramWaiting.judge.Goals as goal

pub server_final-requires : goal.server_final-requires
server_final-requires c = subst IsUtf8 (sym c.signature_by-signature.ensures) (base64_utf8 _)
