-- What a link over a socket tells.
use Rattle.std.specs.Prelude.{◌≤◌, ℕ, length}
use Rattle.pgw_link.specs.Tape.{Tape}
use Rattle.pgw_link.specs.Log.{tape_of}
use Rattle.pgw_link.specs.declared.socket.ClientSocket.{ClientSocket}
use Rattle.pgw_link.specs.declared.socket.ClientSocket.TheVariants as socket

abbrev pub socket_tape : ClientSocket → Tape
socket_tape (socket.Plain link) = tape_of link.log
socket_tape (socket.Unix link) = tape_of link.log

abbrev pub socket_faults : ClientSocket → ℕ
socket_faults (socket.Plain link) = link.faults
socket_faults (socket.Unix link) = link.faults

abbrev pub socket_flushed_in : (s : ClientSocket)
    → (socket_tape s).flushed ≤ length (socket_tape s).wrote
socket_flushed_in (socket.Plain link) = link.flushed_in
socket_flushed_in (socket.Unix link) = link.flushed_in
