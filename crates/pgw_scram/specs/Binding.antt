-- What a client says of channel binding (RFC 5802, sections 6 and 7; RFC 5929, section 4).
use Rattle.std.specs.Prelude.{ℕ, List, [], ◌++◌, codes}
use Rattle.pgw_scram.specs.Base64.{base64}
use Rattle.pgw_scram.specs.declared.binding.ClientBinding.{ClientBinding}
use Rattle.pgw_scram.specs.declared.binding.ClientBinding.TheVariants as binding

-- gs2-header: the client knows no binding; or it does and thinks that the server does not; or it binds to the
-- server's certificate
abbrev pub gs2_header : ClientBinding → List ℕ
gs2_header binding.None = codes "n,,"
gs2_header binding.NotOffered = codes "y,,"
gs2_header (binding.EndPoint hash) = codes "p=tls-server-end-point,,"

-- cbind-data: the certificate's hash, where the client binds to it
abbrev pub channel_data : ClientBinding → List ℕ
channel_data (binding.EndPoint hash) = hash
channel_data b = []

-- the value of channel-binding: cbind-input, the header and behind it the data, in base64
abbrev pub binding_text : ClientBinding → List ℕ
binding_text b = base64 (gs2_header b ++ channel_data b)
