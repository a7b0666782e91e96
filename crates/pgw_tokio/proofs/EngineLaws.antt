-- What a dialogue does as an engine.
use Rattle.std.proofs.Common.{◌≡◌, ◌⊎◌, ◌-◌, ℕ, List, [], ◌++◌, length, Option, Some, None}
use Rattle.std.proofs.Common.{Result, Ok, Err, refl, subst}
use Rattle.std.specs.Prelude.{IfSome}
use Rattle.pgw_backend.specs.declared.client_error.PgWireClientError.{PgWireClientError as ClientError}
use Rattle.pgw_backend.specs.declared.client_error.PgWireClientError.TheVariants as client
use Rattle.pgw_session.specs.Demands.{refused_config}
use Rattle.pgw_session.specs.Input.{Input}
use Rattle.pgw_dialogue.specs.Demands.{RefusesKey}
use Rattle.pgw_dialogue.specs.Dialogue.{IsBehind, IsStarved, Starts, Takes}
use Rattle.pgw_dialogue.specs.declared.dialogue.Dialogue.{Dialogue}
use Rattle.pgw_dialogue.specs.declared.phase.DialoguePhase.{DialoguePhase}
use Rattle.pgw_tokio_moving.specs.declared.engine.Turn.{Turn}
use Rattle.pgw_tokio.specs.declared.engine.SessionEngine.{SessionEngine}
use Rattle.pgw_tokio.specs.Engine.{Feeds}
use Rattle.pgw_tokio.specs.First.{first_turn, refusal_of, refused_at, turn_of}
use Rattle.pgw_tokio.specs.Stream.{HasBegun}

abbrev pub engine_of : Option Dialogue → Option ClientError → ℕ → SessionEngine
engine_of d refusal room = record { dialogue = d; refusal = refusal; room = room }

-- ---- how it begins

none_of : (d : Dialogue) (o : Option (List ℕ)) → IfSome o (λ key. RefusesKey {T = Dialogue} key (Ok d))
    → o ≡ None
none_of d None refused = refl
none_of d (Some key) refused = absurd refused

pub has_begun : (input : Input) (limit : ℕ) (d : Dialogue) (old out : List ℕ) (refusal : Option ClientError)
    (said : Turn)
    → old ≡ [] → IfSome (refused_config input.config) (λ key. RefusesKey {T = Dialogue} key (Ok d))
    → Starts input limit old out (Ok d) → refusal ≡ refused_at limit → said ≡ first_turn limit
    → HasBegun input limit (engine_of (Some d) refusal limit) said out
has_begun input limit d old out refusal said empty refused starts refusal_is said_is =
    let s = subst (λ (l : List ℕ). Starts input limit l out (Ok d)) empty starts in
    (d, refl, s, none_of d (refused_config input.config) refused, refl, refusal_is, said_is)

-- ---- a call

-- its dialogue's call alone, with what it put out
takes_alone : (before after : Dialogue) (piece old out : List ℕ) (r : Result DialoguePhase ClientError)
    → (t : Takes before after piece old out r) → Takes before after piece [] t.out r
takes_alone before after piece old out r t =
    record { out = t.out; puts = refl; stands = t.stands; answers = t.answers }

pub feeds_by : (e : SessionEngine) (before after : Dialogue) (piece old out : List ℕ)
    (r : Result DialoguePhase ClientError) (said : Turn) (refusal : Option ClientError)
    → e.dialogue ≡ Some before
    → Takes before after piece old out r → IsBehind after r
    → (IsStarved after → IsStarved before ⊎ (r ≡ Err client.OutOfMemory))
    → said ≡ turn_of r → refusal ≡ refusal_of r
    → (put : List ℕ) × (out ≡ old ++ put)
    × Feeds e piece put said (engine_of (Some after) refusal (e.room - length piece))
feeds_by e before after piece old out r said refusal was t behind starved said_is refusal_is = (
  t.out,
  t.puts,
  record {
    before = before;
    after = after;
    was = was;
    is = refl;
    answer = r;
    takes = takes_alone before after piece old out r t;
    behind = behind;
    starved = starved;
    turned = said_is;
    refused = refusal_is;
    room = refl;
  },
)
