-- Why hearing halts, and how an answer ends then, for private clauses.
use Rattle.std.specs.Prelude.{◌≡◌, ℕ, List, [], Bool, true, false, Option, Some, None}
use Rattle.std.specs.Prelude.{Result, Ok, Err}
use Rattle.pgw_backend.specs.declared.client_error.PgWireClientError.{PgWireClientError as ClientError}
use Rattle.pgw_backend.specs.declared.client_error.PgWireClientError.TheVariants as client
use Rattle.pgw_prog_output.specs.declared.said.Turn.{Turn}
use Rattle.pgw_prog_output.specs.declared.said.Turn.TheVariants as turn
use Rattle.pgw_prog_output.specs.declared.page.Stop.{Stop}
use Rattle.pgw_prog_output.specs.declared.page.Stop.TheVariants as stop
use Rattle.pgw_prog_output.specs.declared.asking.Halt.{Halt}
use Rattle.pgw_prog_output.specs.declared.asking.Halt.TheVariants as halt
use Rattle.pgw_prog_output.specs.declared.asking.AnswerEnd.{AnswerEnd}
use Rattle.pgw_prog_output.specs.declared.asking.AnswerEnd.TheVariants as ends
use Rattle.pgw_prog_output.specs.Pages.{Sheet, whole_text, IsFront, HasStopped}

abbrev pub halt_of : Result Turn Stop → Halt
halt_of (Ok turn.GoesOn) = halt.GoesOn
halt_of (Ok turn.Ready) = halt.Ready
halt_of (Ok turn.Misplaced) = halt.Misplaced
halt_of (Err why) = halt.Stopped why

abbrev pub halt_behind : ClientError → Halt
halt_behind client.OutOfMemory = halt.Stopped stop.Memory
halt_behind e = halt.Lost

abbrev pub end_behind : Stop → AnswerEnd
end_behind stop.Output = ends.NoOutput
end_behind stop.Memory = ends.NoMemory

abbrev pub end_ready : Bool → AnswerEnd
end_ready true = ends.Failed
end_ready false = ends.Well

abbrev pub end_at : Halt → Bool → AnswerEnd
end_at halt.Ready failed = end_ready failed
end_at halt.Misplaced failed = ends.Misplaced
end_at halt.Lost failed = ends.Lost
end_at halt.GoesOn failed = ends.Lost
end_at (halt.Stopped why) failed = end_behind why

abbrev pub stop_in : Halt → Option Stop
stop_in (halt.Stopped why) = Some why
stop_in halt.GoesOn = None
stop_in halt.Ready = None
stop_in halt.Misplaced = None
stop_in halt.Lost = None

-- Nothing more is written where printing stopped; else the end of a page was written, or a front of
-- it where printing stops in that.
pub data ClosesSheet (why : Halt) (s : Sheet) (before now : ℕ) (after : List ℕ) (how : AnswerEnd)
    : Type 0 where
  stopped : (by : Stop) → stop_in why ≡ Some by → after ≡ s.wrote → now ≡ before
      → how ≡ end_behind by → ClosesSheet why s before now after how
  whole : stop_in why ≡ None → after ≡ whole_text s [] → now ≡ before
      → how ≡ end_at why s.failed → ClosesSheet why s before now after how
  part : (by : Stop) → stop_in why ≡ None → IsFront [] s after → HasStopped before now by
      → how ≡ end_behind by → ClosesSheet why s before now after how
