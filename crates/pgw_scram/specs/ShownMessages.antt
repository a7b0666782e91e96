-- What a reader shows of the borrowed parts of a message.
use Rattle.std.specs.Prelude.{ℕ, List, [], ◌∷◌, ◌++◌, Result, Ok, Err}
use Rattle.pgw_scram.specs.declared.messages.Header.{Header}
use Rattle.pgw_scram.specs.declared.messages.ClientFirstIn.{ClientFirstIn}
use Rattle.pgw_scram.specs.declared.messages.ServerFirstIn.{ServerFirstIn}
use Rattle.pgw_scram.specs.declared.messages.ClientFinalIn.{ClientFinalIn}
use Rattle.pgw_scram.specs.declared.messages.ServerFinalIn.{ServerFinalIn}
use Rattle.pgw_scram.specs.declared.messages.ServerFinalIn.TheVariants as borrowed
use Rattle.pgw_scram.specs.declared.messages.ClientFinal.{ClientFinal}
use Rattle.pgw_scram.specs.declared.messages.ServerFinal.{ServerFinal}
use Rattle.pgw_scram.specs.declared.messages.ServerFinal.TheVariants.{Signature, Failed}
use Rattle.pgw_scram.specs.declared.messages.ClientFirst.{ClientFirst}

abbrev pub header_text : Header → List ℕ
header_text h = h.flag.now ++ 44 ∷ (h.authzid.now ++ 44 ∷ [])

abbrev pub shown_header : Header → List ℕ × List ℕ
shown_header h = (header_text h, h.bare.now)

abbrev pub shown_client_first : ClientFirstIn → ClientFirst
shown_client_first p =
    record {
      header = header_text p.header;
      bare = p.header.bare.now;
      user = p.user.now;
      nonce =
          p.nonce.now;
    }

abbrev pub shown_server_first : ServerFirstIn → List ℕ × List ℕ × List ℕ
shown_server_first p = (p.nonce.now, p.salt.now, p.count.now)

abbrev pub shown_client_final : ClientFinalIn → ClientFinal
shown_client_final p =
    record {
      binding = p.binding.now;
      nonce = p.nonce.now;
      without_proof = p.without_proof.now;
      proof = p.proof.now;
    }

abbrev pub shown_server_final : ServerFinalIn → ServerFinal
shown_server_final (borrowed.Signature text) = Signature text.now
shown_server_final (borrowed.Failed text) = Failed text.now

abbrev pub result_map : {A B E : Type 0} → (A → B) → Result A E → Result B E
result_map f (Ok x) = Ok (f x)
result_map f (Err e) = Err e
