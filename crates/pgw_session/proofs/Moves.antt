-- The steps of the conversation, by name.
use Rattle.std.proofs.Common.{ℕ, Bool, List, [], map, Option, Result}
use Rattle.pgw_types.specs.declared.error.PgWireError.{PgWireError}
use Rattle.pgw_backend.specs.declared.backend.PgWireBackendMessage.{PgWireBackendMessage as Backend}
use Rattle.pgw_frontend.specs.declared.frontend.PgWireFrontendMessage.{PgWireFrontendMessage as Frontend}
use Rattle.pgw_session.specs.declared.types.Request.{Request}
use Rattle.pgw_session.specs.declared.stage.Stage.{Stage}
use Rattle.pgw_session.specs.declared.stage.Next.{Next}
use Rattle.pgw_session.specs.Input.{Input}
use Rattle.pgw_session.specs.Events.{Event, Sent}
use Rattle.pgw_machine.specs.Course.{Move}
use Rattle.pgw_session.specs.Machine.{sending, opens_next, moves_by, passes_by, turn_by}
use Rattle.pgw_session.specs.Talk.{Talk, Ending, between, first_passed, talk_book}

abbrev pub opening : List (List Event) → List Frontend → Stage → Result (List ℕ) PgWireError → Move Talk Ending
opening closed fs stage encoded =
    sending (between closed) (record { closed = closed; open_events = map Sent fs; stage = stage; passed = [] })
    encoded

abbrev pub opens : Input → List (List Event) → Option Request → Move Talk Ending
opens input closed q = opens_next (talk_book input) (between closed) q

abbrev pub moves : Input → Talk → Backend → Next → Move Talk Ending
moves input t m n = moves_by (talk_book input) input t m n

abbrev pub passing : Input → Talk → Backend → Backend → Bool → Move Talk Ending
passing input t first m b = passes_by (talk_book input) t first m b

abbrev pub turn : Input → Talk → Backend → List Backend → Move Talk Ending
turn input t m passed = turn_by (talk_book input) input t m (first_passed passed)
