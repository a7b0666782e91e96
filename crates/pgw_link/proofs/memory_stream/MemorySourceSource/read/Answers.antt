use Rattle.std.proofs.Common.{length, take, arith}
use Rattle.pgw_link.proofs.LogLaws.{nothing_left, taken}
use Rattle.pgw_link.proofs.memory_stream.MemorySourceSource.read.Goals as goal

pub returns-clause-drawn : goal.returns-clause-drawn
returns-clause-drawn c =
    let bytes = c.args.self.now.bytes in
    let at = c.args.self.now.at in
    let n = c.copy_from-count.result in
    let is = rw c.as_slice.ensures at c.copy_from-count.ensures.piece in
    let count = rw c.as_slice.ensures at c.copy_from-count.ensures.count in (
      taken bytes (take n c.copy_from-count.new.buf) at n is,
      λ none room. nothing_left bytes at n (length c.args.buf.now) c.args.self.now.cut count
          (omega (arith, room, c.copy_from-count.auto.buf)) c.args.self.now.moves none,
    )
