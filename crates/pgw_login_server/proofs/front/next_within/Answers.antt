use Rattle.std.proofs.Common.{refl}
use Rattle.pgw_login_server.proofs.ClientFront.{decodes_within, refused_beyond, refused_header}
use Rattle.pgw_login_server.proofs.front.next_within.Goals as goal

pub returns-in-Ok : goal.returns-in-Ok
returns-in-Ok c =
    let within = rw c.as_slice.ensures at c.in-Ok.ensures.exact in
    let d = rw c.phase.ensures at c.decode.ensures.exact in
    decodes_within c.args.bound c.args.version c.args.inbox.now.items c.decode.new.buf.items c.in-Ok.field-0
    c.decode.result within d

pub returns-in-None : goal.returns-in-None
returns-in-None c =
    let header = rw (c.header_of.ensures, c.as_slice-in-Err.ensures) at c.in-None.ensures.none in
    let beyond = rw c.as_slice.ensures at c.in-Err.ensures.exact in (
      refl,
      refused_beyond c.args.bound c.args.version c.args.inbox.now.items (header refl).0 c.in-Err.refusal
          (header refl).1 beyond,
    )

pub returns-in-Some : goal.returns-in-Some
returns-in-Some c =
    let header = rw (c.header_of.ensures, c.as_slice-in-Err.ensures) at c.in-Some.ensures.some in
    (refl, refused_header c.args.bound c.args.version c.args.inbox.now.items c.in-Some.earlier header)
