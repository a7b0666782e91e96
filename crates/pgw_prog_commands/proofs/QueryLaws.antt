-- The session of the command `query`.
use Rattle.std.proofs.Common.{ℕ, List, Ok, Err, refl}
use Rattle.pgw_prog_output.specs.declared.printer.RowFormat.{RowFormat}
use Rattle.pgw_prog_output.specs.declared.asking.AnswerEnd.{AnswerEnd}
use Rattle.pgw_prog_output.specs.Asking.{AskedAll, CountsEnd}
use Rattle.pgw_client_calls.specs.State.{ClientState}
use Rattle.pgw_prog_commands.specs.declared.places.Place.{Place}
use Rattle.pgw_prog_commands.specs.declared.places.NoSession.{NoSession}
use Rattle.pgw_prog_commands.specs.Telling.{Telling}
use Rattle.pgw_prog_commands.specs.Places.{DialsInTurn, IsClosed, TriesAll}
use Rattle.pgw_prog_commands.specs.Query.{query_status, status_without, RanQuery}
use Rattle.pgw_prog_commands.specs.Talking.{line_of_client}

module _ {Y X : Type 0} (t : Telling Y X) where
  pub held : (f : RowFormat) (places : List Place) (queries : List (List ℕ)) (c last : ClientState X) (how :
      AnswerEnd) (old mid new : Y) (wrote printed : List ℕ) (before now : ℕ)
      → TriesAll t places old mid (Ok c) → DialsInTurn places (t.dials old) (t.dials mid)
      → AskedAll f queries (line_of_client t.tape t.faults c) (line_of_client t.tape t.faults last) wrote printed
      how
      → CountsEnd before now how
      → IsClosed t last mid new
      → RanQuery t f places queries old new wrote printed before now (query_status how)
  held f places queries c last how old mid new wrote printed before now tries dials asked counts closed = record {
    mid = mid;
    entered = Ok c;
    tries = tries;
    dials = dials;
    held = record {
      last = last;
      how = how;
      asked = asked;
      closed = closed;
      status_is = refl;
      counts = counts;
    };
  }

  pub held_none : (f : RowFormat) (places : List Place) (queries : List (List ℕ)) (why : NoSession) (old mid : Y)
      (wrote : List ℕ) (before : ℕ) → TriesAll {X = X} t places old mid (Err why)
      → DialsInTurn places (t.dials old) (t.dials mid)
      → RanQuery t f places queries old mid wrote wrote before before (status_without why)
  held_none f places queries why old mid wrote before tries dials = record {
    mid = mid;
    entered = Err why;
    tries = tries;
    dials = dials;
    held = (record { printed_is = refl; status_is = refl; calm = refl }, refl);
  }
