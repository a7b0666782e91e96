use Rattle.std.proofs.Common.{Ok, Err, arith}
use Rattle.pgw_proxy.proofs.ReadingLaws.{faulty, entry_fault, message_fault, entry_shorter, read_one_more, read_all, back_of}
use Rattle.pgw_proxy.proofs.reading.read_record.Goals as goal

pub returns-in-Err-clause-exact : goal.returns-in-Err-clause-exact
returns-in-Err-clause-exact c =
    faulty c.args.bytes.now c.loop-rest.rest.now c.loop-rest.messages c.loop-rest.context c.loop-rest.number
    c.in-Err.fault c.loop-rest.invariant.on
    (entry_fault c.loop-rest.context c.loop-rest.number c.loop-rest.rest.now c.in-Err.fault c.loop-rest-test.true
    c.in-Err.ensures)

pub returns-in-Err-clause-back : goal.returns-in-Err-clause-back
returns-in-Err-clause-back c events ms course proxied same =
    back_of c.args.bytes.now (Err c.in-Err.fault) (returns-in-Err-clause-exact c) events ms course proxied same

pub returns-in-Err-read-clause-exact : goal.returns-in-Err-read-clause-exact
returns-in-Err-read-clause-exact c =
    let e = c.in-Ok.entry in
    faulty c.args.bytes.now c.loop-rest.rest.now c.loop-rest.messages c.loop-rest.context c.loop-rest.number
    c.in-Err-read.fault c.loop-rest.invariant.on
    (message_fault c.loop-rest.context c.read_message-read.new.context c.loop-rest.number c.loop-rest.rest.now
    e.message.now e.rest.now e.side c.in-Err-read.fault c.in-Ok.ensures c.in-Err-read.ensures)

pub returns-in-Err-read-clause-back : goal.returns-in-Err-read-clause-back
returns-in-Err-read-clause-back c events ms course proxied same =
    back_of c.args.bytes.now (Err c.in-Err-read.fault) (returns-in-Err-read-clause-exact c) events ms course
    proxied same

pub loop-rest-smaller : goal.loop-rest-smaller
loop-rest-smaller c =
    let e = c.in-Ok.entry in
    entry_shorter c.loop-rest.rest.now e.side e.message.now e.rest.now c.in-Ok.ensures

pub loop-rest-preserved : goal.loop-rest-preserved
loop-rest-preserved c =
    let e = c.in-Ok.entry in
    let shorter = entry_shorter c.loop-rest.rest.now e.side e.message.now e.rest.now c.in-Ok.ensures in
    record {
      on = read_one_more c.args.bytes.now c.loop-rest.rest.now e.message.now e.rest.now c.loop-rest.messages
          c.push.new.self c.loop-rest.context c.read_message-read.new.context c.loop-rest.number e.side
          c.in-Ok-read.message c.loop-rest.invariant.on c.in-Ok.ensures c.in-Ok-read.ensures
          c.in-Ok-push.ensures.ok;
      counted = omega (arith, shorter, c.loop-rest.invariant.counted);
    }

pub returns-clause-exact : goal.returns-clause-exact
returns-clause-exact c =
    read_all c.args.bytes.now c.loop-rest.rest.now c.loop-rest.messages c.loop-rest.context c.loop-rest.number
    c.loop-rest.invariant.on c.loop-rest-test.false

pub returns-clause-back : goal.returns-clause-back
returns-clause-back c events ms course proxied same =
    back_of c.args.bytes.now (Ok c.loop-rest.messages) (returns-clause-exact c) events ms course proxied same
