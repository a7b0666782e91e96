use Rattle.pgw_scram.specs.Formulas.{auth_message}
use Rattle.pgw_secrets.proofs.Proving.{proves_by}
use Rattle.pgw_secrets.proofs.keys.is_proof.Goals as goal

pub returns-in-Some : goal.returns-in-Some
returns-in-Some c =
    proves_by c.args.stored_key.now
    (auth_message c.args.client_first_bare.now c.args.server_first.now c.args.without_proof.now)
    c.args.proof.now c.in-Some.bytes c.client_signature-signature.result c.in_ok-bytes.field-0
    c.hashes_to.result c.in-Some.is c.in_ok-bytes.ensures c.client_signature-signature.ensures
    c.hashes_to.ensures
