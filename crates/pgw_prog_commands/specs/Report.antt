-- What is printed of a login.
use Rattle.std.specs.Prelude.{ℕ, List, [], ◌∷◌, ◌++◌, map, Bool, true, false, codes, unwrap_or}
use Rattle.std.specs.Prelude.{Option, Some, None}
use Rattle.std.specs.List.{flat_map}
use Rattle.std.specs.Fmt.{decimal, signed_decimal}
use Rattle.std.specs.Net.Text.{ipv4_text, ipv6_text}
use Rattle.std.specs.FinMap as finite
use Rattle.pgw_types.specs.declared.address.Address.{Address}
use Rattle.pgw_types.specs.declared.address.Address.TheVariants as address
use Rattle.pgw_types.specs.declared.address.HostAddr.{HostAddr}
use Rattle.pgw_types.specs.declared.address.HostAddr.TheVariants as host
use Rattle.pgw_types.specs.declared.context.ProtocolVersion.{ProtocolVersion}
use Rattle.pgw_types.specs.declared.context.ProtocolVersion.TheVariants as version
use Rattle.pgw_wire.specs.Pairs.{Held}
use Rattle.pgw_prog_output.specs.Shown.{without_controls}
use Rattle.pgw_prog_commands.specs.declared.notes.LoginKind.{LoginKind}
use Rattle.pgw_prog_commands.specs.declared.notes.LoginKind.TheVariants as kind
use Rattle.pgw_prog_commands.specs.declared.report.CheckReport.{CheckReport}

-- ---- words

-- none where the server asked for no password
abbrev pub kind_text : LoginKind → List ℕ
kind_text kind.Trust = codes "none"
kind_text kind.CleartextPassword = codes "password"
kind_text kind.Md5Password = codes "md5"
kind_text kind.ScramSha256 = codes "SCRAM-SHA-256"
kind_text kind.ScramSha256Plus = codes "SCRAM-SHA-256-PLUS"
kind_text kind.Other = codes "other"

-- and - where no login was noted
abbrev pub login_text : Option LoginKind → List ℕ
login_text None = codes "-"
login_text (Some kind) = kind_text kind

abbrev pub truth_text : Bool → List ℕ
truth_text true = codes "yes"
truth_text false = codes "no"

abbrev pub version_text : ProtocolVersion → List ℕ
version_text version.PROTOCOL3_0 = codes "3.0"
version_text version.PROTOCOL3_2 = codes "3.2"
version_text version.PROTOCOL3_9999 = codes "3.9999"

-- an address and its port, between brackets where the address has colons
abbrev pub ip_text : HostAddr → ℕ → List ℕ
ip_text (host.V4 octets) port = ipv4_text octets ++ (codes ":" ++ decimal port)
ip_text (host.V6 segments) port =
    codes "[" ++ (ipv6_text segments ++ (codes "]:" ++ decimal port))

-- as ip_text, or a name and a port, or a socket's file
abbrev pub server_text : Address → List ℕ
server_text (address.Ip addr port) = ip_text addr port
server_text (address.Host name port) = name ++ (codes ":" ++ decimal port)
server_text (address.Unix path) = path

-- the version that the server told among its parameters, or - for none
abbrev pub server_version : Held → List ℕ
server_version parameters = unwrap_or (finite.get parameters (codes "server_version")) (codes "-")

-- ---- lines

-- a word and what it stands for
abbrev pub report_pair : List ℕ → List ℕ → List ℕ
report_pair word value = word ++ codes " " ++ value

-- what the login came to
abbrev pub login_lines : CheckReport → List (List ℕ)
login_lines r =
    report_pair (codes "server") (server_text r.server.now)
    ∷ report_pair (codes "login") (login_text r.login)
    ∷ report_pair (codes "server-proved") (truth_text r.proved)
    ∷ report_pair (codes "protocol") (version_text r.version)
    ∷ []

-- and the session
abbrev pub session_lines : CheckReport → List (List ℕ)
session_lines r =
    report_pair (codes "server-version") (server_version r.parameters.now)
    ∷ report_pair (codes "user") r.user.now
    ∷ report_pair (codes "database") r.database.now
    ∷ report_pair (codes "process") (signed_decimal r.process_id)
    ∷ []

-- a name and a value that the server reported
abbrev pub report_parameter : List ℕ × List ℕ → List ℕ
report_parameter p = report_pair (codes "parameter") (report_pair p.0 p.1)

-- how many milliseconds the connection and the login took
abbrev pub time_lines : CheckReport → List (List ℕ)
time_lines r =
    report_pair (codes "dial-ms") (decimal r.dial_took)
    ∷ report_pair (codes "login-ms") (decimal r.login_took)
    ∷ []

-- the parameters by name
unfoldable pub check_lines : CheckReport → List (List ℕ)
check_lines r =
    login_lines r
    ++ (session_lines r ++
    (map report_parameter (finite.entries r.parameters.now) ++ time_lines r))

-- a line without control characters, and its end
abbrev pub clean_line : List ℕ → List ℕ
clean_line line = without_controls line ++ 10 ∷ []

abbrev pub lines_text : List (List ℕ) → List ℕ
lines_text lines = flat_map clean_line lines

abbrev pub report_text : CheckReport → List ℕ
report_text r = lines_text (check_lines r)
