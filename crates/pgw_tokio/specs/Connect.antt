-- A connection over TCP, by a configuration's limit of time.
use Rattle.std.specs.Prelude.{◌≡◌, ◌⊎◌, ◌*◌, ℕ, Option, Some, None, Result, Ok, IfOk}
use Rattle.std.specs.Duration.{as_nanos}
use Rattle.std.specs.declared.io.Error.{Error}
use Rattle.std.specs.declared.time.Duration.{Duration}
use Rattle.tokio.specs.declared.net.stream.TcpStream.{TcpStream}
use Rattle.tokio.specs.Net.{connect_state, ConnectGives, ConnectNeeds as SocketNeeds}
use Rattle.tokio.specs.Timers.{IsDelayedBy, sleep_deadline, sleep_source, timeout_delay, timeout_future}
use Rattle.pgw_tokio.specs.declared.sockets.Connecting.{Connecting}
use Rattle.pgw_tokio.specs.declared.sockets.Connecting.TheVariants.{Limited, Unlimited}

-- so many seconds
abbrev pub IsSeconds : ℕ → Duration → Type 0
IsSeconds seconds d = as_nanos d ≡ seconds * 1000000000

-- its deadline lies so many seconds behind some instant, where there is a limit
abbrev pub IsLimitedBy : Option ℕ → Connecting → Type 0
IsLimitedBy None (Unlimited f) = Unit {0}
IsLimitedBy (Some seconds) (Limited t) = (d : Duration) × IsSeconds seconds d × IsDelayedBy d
    (sleep_deadline (timeout_delay t))
IsLimitedBy limit c = ⊥

-- it waits for its socket, and for its limit
abbrev pub ConnectNeeds : Connecting → ℕ → Type 0
ConnectNeeds (Unlimited f) source = SocketNeeds (connect_state f) source
ConnectNeeds (Limited t) source = SocketNeeds (connect_state (timeout_future t)) source ⊎
    (source ≡ sleep_source (timeout_delay t))

-- the socket is the one that was connecting
abbrev pub HandsOutSocket : Connecting → Result TcpStream Error → Type 0
HandsOutSocket (Unlimited f) r = IfOk r (λ stream. ConnectGives (connect_state f) (Ok stream))
HandsOutSocket (Limited t) r = IfOk r (λ stream. ConnectGives (connect_state (timeout_future t))
    (Ok stream))
