-- The sessions of a pool as wholes.
use Rattle.std.specs.Prelude.{◌≡◌, ℕ, List, [], ◌∷◌, ◌++◌}
use Rattle.pgw_session.specs.declared.types.Request.{Request}
use Rattle.pgw_session.specs.Input.{input_with}
use Rattle.pgw_session.specs.Events.{Event, all_events}
use Rattle.pgw_session.specs.Standings.{first_standing}
use Rattle.pgw_session.specs.Transcript.{IsTranscript, SpellsGot, EncodesSent}
use Rattle.pgw_client_laws.specs.Stands.{Made, requests_of, segments_of, AreAnswered}
use Rattle.pgw_pool.specs.Histories.{Over, ended, checked, History, reset, check, View}

-- the requests of leases that are over: each lease's own, and then its reset; and those of checks
abbrev pub requests_in : Over → List Request
requests_in (ended l es) = requests_of l.made ++ reset ∷ []
requests_in (checked es) = check ∷ []

abbrev pub requests_over : List Over → List Request
requests_over [] = []
requests_over (o ∷ os) = requests_in o ++ requests_over os

-- their segments
abbrev pub segments_in : Over → List (List Event)
segments_in (ended l es) = segments_of l.made ++ es ∷ []
segments_in (checked es) = es ∷ []

abbrev pub segments_over : List Over → List (List Event)
segments_over [] = []
segments_over (o ∷ os) = segments_in o ++ segments_over os

-- no request of a lease was passed over
abbrev pub IsAllAnswered : Over → Type 0
IsAllAnswered (ended l es) = AreAnswered l.made
IsAllAnswered (checked es) = Unit {0}

abbrev pub AreAllAnswered : List Over → Type 0
AreAllAnswered [] = Unit {0}
AreAllAnswered (o ∷ os) = IsAllAnswered o × AreAllAnswered os

-- What the session got and sent is a transcript: its startup segment, then for each lease that is
-- over the segments of its own requests and one of the reset, one for each check between leases,
-- and those of the requests behind.
pub record IsMadeOf (h : History) (ts : List Made) (v : View) : Type 0 where
  pub startup : List Event
  pub transcript :
      IsTranscript (input_with h.config (requests_over h.over ++ requests_of ts) h.nonce)
      (startup ∷ (segments_over h.over ++ segments_of ts))
  pub spelled : List ℕ
  pub begins : v.line.tape.took ≡ spelled ++ v.line.buffer
  pub got : SpellsGot (first_standing h.config)
      (all_events (startup ∷ (segments_over h.over ++ segments_of ts))) spelled
  pub put : EncodesSent (all_events (startup ∷ (segments_over h.over ++ segments_of ts)))
      v.line.tape.wrote
