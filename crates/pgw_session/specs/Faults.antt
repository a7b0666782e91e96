-- With which refusals a session may end. Not part of the claim: words of a law on the causes.
use Rattle.std.specs.Prelude.{◌≡◌, codes}
use Rattle.pgw_types.specs.declared.error.PgWireError.{PgWireError}
use Rattle.pgw_types.specs.declared.error.PgWireError.TheVariants.{MessageTooLarge, InvalidMessageType, InvalidMessageBody, InvalidElementCount, InvalidTransactionStatus, InvalidAuthenticationMessageCode, InvalidSecretKey, InvalidScramMessage}
use Rattle.pgw_backend.specs.declared.client_error.PgWireClientError.{PgWireClientError as ClientError}
use Rattle.pgw_backend.specs.declared.client_error.PgWireClientError.TheVariants as client

-- the decoder's, of a server's bytes
abbrev pub IsByteFault : PgWireError → Type 0
IsByteFault (MessageTooLarge limit length) = Unit {0}
IsByteFault (InvalidMessageType byte) = Unit {0}
IsByteFault (InvalidElementCount count size left) = Unit {0}
IsByteFault (InvalidTransactionStatus byte) = Unit {0}
IsByteFault (InvalidAuthenticationMessageCode code) = Unit {0}
IsByteFault InvalidSecretKey = Unit {0}
IsByteFault InvalidMessageBody = Unit {0}
IsByteFault e = ⊥

-- the encoder's, of a message that is due
abbrev pub IsDueFault : PgWireError → Type 0
IsDueFault (MessageTooLarge limit length) = Unit {0}
IsDueFault InvalidMessageBody = Unit {0}
IsDueFault e = ⊥

-- at startup: the server's error, and what is refused of a SCRAM login
abbrev pub IsStartupError : ClientError → Type 0
IsStartupError (client.RemoteError e) = Unit {0}
IsStartupError (client.UnsupportedSASLAuthMethods methods) = Unit {0}
IsStartupError (client.ScramError fault) = Unit {0}
IsStartupError (client.InvalidConfig key) = key ≡ codes "user"
IsStartupError (client.PgWireError (InvalidScramMessage fault)) = Unit {0}
IsStartupError e = ⊥
