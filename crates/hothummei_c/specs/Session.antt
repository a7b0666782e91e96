-- A session behind a handle, and what its calls do.
use Rattle.std.specs.Prelude.{◌≡◌, ◌⊎◌, ◌<◌, ◌≤◌, ℕ, List, [], ◌∷◌, ◌++◌, length, drop, string_bytes, Option, Some, None, IfSome, Result, Ok, Err}
use Rattle.pgw_backend.specs.declared.client_error.PgWireClientError.{PgWireClientError as ClientError}
use Rattle.pgw_config.specs.Parse.{HasOutcome, IsParsed}
use Rattle.pgw_backend.specs.ClientError.{of_config}
use Rattle.pgw_types.specs.declared.config_error.ConfigError.{ConfigError}
use Rattle.std.specs.Prelude.{IsUtf8}
use Rattle.pgw_dialogue.specs.declared.dialogue.Dialogue.{Dialogue}
use Rattle.pgw_dialogue.specs.declared.phase.DialoguePhase.{DialoguePhase}
use Rattle.pgw_dialogue.specs.declared.phase.DialoguePhase.TheVariants as step
use Rattle.pgw_dialogue.specs.Demands.{RefusesKey}
use Rattle.pgw_dialogue.specs.Dialogue.{Awaits, IsBehind, Starts, Takes}
use Rattle.pgw_dialogue.specs.Machine.{notes_end, report_at}
use Rattle.pgw_dialogue.specs.Wire.{IsEndError, Unless}
use Rattle.pgw_session.specs.declared.types.Request.{Request}
use Rattle.pgw_session.specs.Demands.{refused_config}
use Rattle.pgw_session.specs.Input.{input_with}
use Rattle.hothummei_c.specs.declared.held.Held.{Held}
use Rattle.hothummei_c.specs.declared.session.Phase.TheVariants as phase
use Rattle.hothummei_c.specs.declared.session.Session.{Session}
use Rattle.hothummei_c.specs.Codes.{code_of, not_utf8, out_of_memory, out_of_place, out_of_range}
use Rattle.hothummei_c.specs.Held.{dialogue_of}
use Rattle.hothummei_c.specs.Report.{kept_report}

-- nothing is in it
pub record IsNewSession (s : Session) : Type 0 where
  pub phase_is : s.phase ≡ phase.New
  pub no_requests : s.requests ≡ []
  pub no_parameters : s.parameters ≡ []
  pub no_dialogue : s.held ≡ None
  pub no_report : s.report ≡ None
  pub no_bytes : s.out.items ≡ []
  pub no_fault : s.fault ≡ None
  pub no_sentence : string_bytes s.sentence ≡ []

-- it gave up by this error, and says so by its number
abbrev pub HandleFails : Session → Session → ClientError → ℕ → Type 0
HandleFails old new e result =
    (result ≡ code_of e)
    × (new ≡ record old { phase = phase.Failed; fault = Some e; sentence = new.sentence })

-- ---- what it is made for

-- a text is not UTF-8, and that is answered
abbrev pub RefusesText : List ℕ → ℕ → Type 0
RefusesText text code = (code ≡ not_utf8) × (IsUtf8 text → ⊥)

abbrev pub UnreadOne : List ℕ → List ℕ → ℕ → Type 0
UnreadOne text other code = RefusesText text code ⊎ RefusesText other code

-- It had no text yet, and has the configuration that the text gives, and the nonce; or the text was refused, and it failed
-- by that; or the text is not UTF-8. Or it had one already.
abbrev pub ConnectsInC : Session → Session → List ℕ → List ℕ → ℕ → Type 0
ConnectsInC old new text nonce result =
    ((result ≡ 0) × (old.phase ≡ phase.New) × HasOutcome text (Ok new.config)
    × (new ≡ record old { phase = phase.Asking; config = new.config; nonce = nonce }))
    ⊎ ((why : ConfigError) × (old.phase ≡ phase.New) × IsParsed text (Err why)
    × HandleFails old new (of_config why) result)
    ⊎ ((old.phase ≡ phase.New) × RefusesText text result × (new ≡ old))
    ⊎ ((result ≡ out_of_place) × (old.phase ≡ phase.New → ⊥) × (new ≡ old))

-- why no request is added: it is no time for it, or a text is bad
abbrev pub AddsNoRequest : Session → (ℕ → Type 0) → ℕ → Type 0
AddsNoRequest old Bad result =
    ((result ≡ out_of_place) × (old.phase ≡ phase.Asking → ⊥)) ⊎ Bad result

-- The request is the last one now; or none was added, and why, and nothing changed.
abbrev pub HandleAsks : Session → Session → (ℕ → Type 0) → Request → ℕ → Type 0
HandleAsks old new Bad request result =
    ((result ≡ 0) × (old.phase ≡ phase.Asking)
    × (new ≡ record old { requests = old.requests ++ request ∷ [] }))
    ⊎ (AddsNoRequest old Bad result × (new ≡ old))
    ⊎ ((result ≡ out_of_memory) × (new ≡ old))

-- as HandleAsks, of a request that takes the parameters that stand ready: behind it none does. Where memory was wanting they are
-- gone too, and behind any other refusal they stand ready still.
abbrev pub AsksWith : Session → Session → (ℕ → Type 0) → Request → ℕ → Type 0
AsksWith old new Bad request result =
    ((result ≡ 0) × (old.phase ≡ phase.Asking)
    × (new ≡ record old { requests = old.requests ++ request ∷ []; parameters = [] }))
    ⊎ (AddsNoRequest old Bad result × (new ≡ old))
    ⊎ ((result ≡ out_of_memory) × (new ≡ record old { parameters = [] }))

-- Of a request with a number: it is out of its range, and that is answered before all else; or it is not.
abbrev pub AsksWithin : Session → Session → Type 0 → List ℕ → Request → ℕ → Type 0
AsksWithin old new Far text request result =
    (Far × (result ≡ out_of_range) × (new ≡ old))
    ⊎ ((Far → ⊥) × HandleAsks old new (RefusesText text) request result)

-- ---- its turns

-- it was no time to begin, or nothing may be taken
abbrev pub Untimely : Session → ℕ → ℕ → Type 0
Untimely old limit result =
    ((result ≡ out_of_place) × (old.phase ≡ phase.Asking → ⊥))
    ⊎ ((result ≡ out_of_range) × (limit ≡ 0))

-- what it was made for is the dialogue's now, or gone; bytes may have been put out
abbrev pub handed_on : Session → Session → Session
handed_on old new = record old { config = new.config; requests = new.requests; out = new.out }

-- What begins of it is this; a configuration that demands what this client can't do is refused by that key, or memory was
-- wanting.
abbrev pub StartsAs : Session → Session → ℕ → Result Dialogue ClientError → Type 0
StartsAs old new limit result =
    IfSome (refused_config old.config) (λ key. RefusesKey key result)
    × Starts (input_with old.config old.requests old.nonce) limit old.out.items new.out.items
    result

-- A dialogue begins that is made for all this, and what it puts out is behind what was to be sent; or nothing is, and
-- the session failed by an error that has its cause.
abbrev pub Began : Session → Session → ℕ → ℕ → Type 0
Began old new limit result =
    ((result ≡ 0) × (h : Held) × StartsAs old new limit (Ok (dialogue_of h))
    × (new ≡ record (handed_on old new) { phase = phase.Waiting; held = Some h }))
    ⊎ ((e : ClientError) × StartsAs old new limit (Err e) × HandleFails (handed_on old new) new e
    result)

-- it was time for it, and a byte may be taken; or not
abbrev pub HandleBegins : Session → Session → ℕ → ℕ → Type 0
HandleBegins old new limit result =
    ((old.phase ≡ phase.Asking) × (0 < limit) × Began old new limit result)
    ⊎ (Untimely old limit result × (new ≡ old))

-- the dialogue is over; bytes may have been put out
abbrev pub is_over : Session → Session → Session
is_over old new = record old { held = None; out = new.out }

-- the report is that of the dialogue, or memory was wanting
abbrev pub FinishesReport : Session → Session → Held → ℕ → Type 0
FinishesReport old new held result =
    ((result ≡ 0) × (new ≡ record old {
      phase = phase.Done;
      report = Some (kept_report (report_at (dialogue_of held).notes));
    }))
    ⊎ ((result ≡ out_of_memory) × (new ≡ record old { phase = phase.Failed }))

-- What a session is behind an answer of its dialogue: the dialogue goes on; or it is over, with its report (where memory was
-- wanting for that, with none), or with the error that the session failed by.
abbrev pub FollowsStep : Session → Result DialoguePhase ClientError → Held → Session → ℕ → Type 0
FollowsStep old (Ok step.Waiting) h new result =
    (result ≡ 0) × (new ≡ record old { phase = phase.Waiting; held = Some h; out = new.out })
FollowsStep old (Ok step.Ready) h new result =
    (result ≡ 0) × (new ≡ record old { phase = phase.Ready; held = Some h; out = new.out })
FollowsStep old (Ok step.Done) h new result = FinishesReport (is_over old new) new h result
FollowsStep old (Err e) h new result = HandleFails (is_over old new) new e result

-- Its dialogue takes the bytes, and is as it answers; or there is none.
abbrev pub TakesBytes : Session → Session → List ℕ → ℕ → Type 0
TakesBytes old new piece result =
    ((h next : Held) × (answer : Result DialoguePhase ClientError) × (old.held ≡ Some h)
    × Takes (dialogue_of h) (dialogue_of next) piece old.out.items new.out.items answer
    × IsBehind (dialogue_of next) answer × FollowsStep old answer next new result)
    ⊎ ((old.held ≡ None) × (result ≡ out_of_place) × (new ≡ old))

-- So many of the bytes that were to be sent are sent; or there are not so many.
abbrev pub HandleSends : Session → Session → ℕ → ℕ → Type 0
HandleSends old new count result =
    ((count ≤ length old.out.items) × (result ≡ 0) × (new.out.items ≡ drop count old.out.items)
    × (new ≡ record old { out = new.out }))
    ⊎ ((length old.out.items < count) × (result ≡ out_of_range) × (new ≡ old))

-- no dialogue awaits more bytes
abbrev pub AwaitsNone : Option Held → Type 0
AwaitsNone None = Unit {0}
AwaitsNone (Some h) = Awaits (dialogue_of h) → ⊥

-- It failed by what it means that no more bytes come, and its dialogue is over; or it does not await any.
abbrev pub MeetsBytesEnd : Session → Session → ℕ → Type 0
MeetsBytesEnd old new result =
    ((h : Held) × (e : ClientError) × (old.held ≡ Some h) × Awaits (dialogue_of h) × IsEndError e
    × Unless e (e ≡ notes_end (dialogue_of h).notes)
    × HandleFails (record old { held = None }) new e result)
    ⊎ (AwaitsNone old.held × (result ≡ out_of_place) × (new ≡ old))
