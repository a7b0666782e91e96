use Rattle.std.proofs.Common.{ℕ, List, subst, sym, arith}
use Rattle.pgw_prog_sessions.specs.Stream.{IsStream}
use Rattle.pgw_prog.proofs.GenLaws.{stream_says}
use Rattle.pgw_prog.proofs.generated.generate.Goals as goal

pub returns-in-Ok-hold : goal.returns-in-Ok-hold
returns-in-Ok-hold c =
    let rows = c.args.rows in
    let start = c.args.start in
    let bytes : List ℕ = c.in-Ok.bytes in
    let stream : IsStream rows start bytes =
    subst (λ (b : List ℕ). IsStream rows start b) (sym c.in-Ok.ensures.ok) c.in_ok-stream.ensures in
    let given : IsStream rows start c.from_bytes.result =
    subst (λ (b : List ℕ). IsStream rows start b) (sym c.from_bytes.ensures) stream in
    stream_says rows start c.len-len.result bytes c.in-Ok-hold.summary c.says.result
    (rw c.in-Ok-hold.is at c.hold.ensures rows start (omega (arith, c.ranges.rows.fits)) given) stream
    c.len-len.ensures.value c.says.ensures
