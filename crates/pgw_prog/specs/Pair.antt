-- What is printed of the login of a pair script: where both ends are.
use Rattle.std.specs.Prelude.{◌≡◌, ◌⊎◌, ℕ, List, ◌++◌, codes, Some}
use Rattle.pgw_types.specs.declared.error.PgWireError.{PgWireError as WireError}
use Rattle.pgw_backend.specs.declared.client_error.PgWireClientError.{
  PgWireClientError as ClientError,
}
use Rattle.pgw_hash.specs.Pbkdf2.{salted_password}
use Rattle.pgw_login_pair.specs.declared.parties.PairInput.{PairInput}
use Rattle.pgw_login_pair.specs.declared.parties.PairOutcome.{PairOutcome}
use Rattle.pgw_login_pair.specs.declared.parties.ClientEnd.{ClientEnd}
use Rattle.pgw_login_pair.specs.declared.parties.ClientEnd.TheVariants as client
use Rattle.pgw_login_pair.specs.declared.parties.ServerEnd.{ServerEnd}
use Rattle.pgw_login_pair.specs.declared.parties.ServerEnd.TheVariants as server
use Rattle.pgw_login_pair.specs.Parties.{TwoParty}
use Rattle.pgw_prog_script.specs.declared.pair_script.PairScript.{PairScript}
use Rattle.pgw_prog.specs.declared.printed.Printed.{Printed}
use Rattle.pgw_prog_sessions.specs.ErrorNames.{client_name, wire_name}
use Rattle.pgw_prog.specs.Held.{Says}
use Rattle.pgw_prog_sessions.specs.Pieces.{line_end}

-- the login that the script asks for: the server keeps the salted password of the text `stored`
abbrev pub pair_input : PairScript → PairInput
pair_input s = record {
  user = s.user;
  password = s.password;
  stored = record { salt = Some s.salt; password = salted_password s.stored s.salt s.count };
  count = s.count;
  client_nonce = s.client_nonce;
  server_nonce = s.server_nonce;
  words = s.words;
  client_hash = s.client_hash;
  server_hash = s.server_hash;
  schedule = s.schedule;
}

-- client refused NAME, server refused NAME
unfoldable pub client_refusal : ClientError → List ℕ
client_refusal e = codes "client refused " ++ client_name e ++ line_end

unfoldable pub server_refusal : WireError → List ℕ
server_refusal e = codes "server refused " ++ wire_name e ++ line_end

-- client waiting, client ready, or why it has refused
unfoldable pub client_line : ClientEnd → List ℕ
client_line client.Waiting = codes "client waiting\n"
client_line (client.Ready information) = codes "client ready\n"
client_line (client.Refused e) = client_refusal e

-- server waiting, server finished, or why it has refused
unfoldable pub server_line : ServerEnd → List ℕ
server_line server.Waiting = codes "server waiting\n"
server_line server.Finished = codes "server finished\n"
server_line (server.Refused e) = server_refusal e

abbrev pub pair_text : PairOutcome → List ℕ
pair_text o = client_line o.client ++ server_line o.server

-- the text of an outcome that two parties to a login come to
abbrev pub PrintsEnds : PairInput → Printed → Type 0
PrintsEnds input p = (o : PairOutcome) × TwoParty input o × Says p (pair_text o) 0

abbrev pub PrintsPair : PairScript → Printed → Type 0
PrintsPair s p = PrintsEnds (pair_input s) p

-- memory ran out, or the status is 0 and that text is written
abbrev pub PrintsPairText : PairScript → List ℕ → List ℕ → ℕ → Type 0
PrintsPairText s before now status =
    (status ≡ 4)
    ⊎ ((status ≡ 0)
    × ((o : PairOutcome) × TwoParty (pair_input s) o × (now ≡ before ++ pair_text o)))
