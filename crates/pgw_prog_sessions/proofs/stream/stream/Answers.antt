use Rattle.pgw_prog_sessions.proofs.StreamLaws.{stream_put}
use Rattle.pgw_prog_sessions.proofs.stream.stream.Goals as goal

pub returns : goal.returns
returns c =
    stream_put c.args.count c.args.start c.put_beginning.new.out.items c.put_rows.new.out.items
    c.put_end.new.out.items (rw c.in_ok-out.ensures.items at c.in_ok-put_beginning.ensures)
    c.in_ok-put_rows.ensures c.in_ok-put_end.ensures
