-- The next message is refused exactly where it makes no legal prefix.
use Rattle.std.proofs.Common.{◌≡◌, ℕ, List, [], ◌∷◌, ◌++◌, length, drop, inl, inr, refl, ◌∙◌, ap, sym, subst, append_assoc}
use Rattle.pgw_types.specs.declared.context.ProtocolVersion.{ProtocolVersion}
use Rattle.pgw_backend.specs.declared.backend.PgWireBackendMessage.{PgWireBackendMessage as Backend}
use Rattle.pgw_backend.specs.Front.{front, More, Spells}
use Rattle.pgw_session.specs.declared.stage.Next.{Next}
use Rattle.pgw_session.specs.declared.stage.Next.TheVariants.{Goes, Closes, Wrong, Refuses, PassesOver}
use Rattle.pgw_session.specs.Events.{Event, Got, all_events}
use Rattle.pgw_session.specs.Standings.{standing_of}
use Rattle.pgw_session.specs.Transcript.{IsTranscript, IsLegalPrefix}
use Rattle.pgw_machine.specs.Course.{Waits, onto, run}
use Rattle.pgw_session.specs.Table.{next_after}
use Rattle.pgw_session.proofs.ReadingLaws.{reads_more, reads_whole, steady_by}
use Rattle.pgw_session.proofs.Moves.{moves, turn}
use Rattle.pgw_session.specs.Talk.{Talk, said, heard_of, talk_book, talk_rules, beginning, conversation, HasRefused}
use Rattle.pgw_machine.proofs.CourseLaws.{run_append, whole_from}
use Rattle.pgw_session.proofs.Events.{clean_heard}
use Rattle.pgw_session.proofs.Grammar.{RestBy, by_rest}
use Rattle.pgw_session.proofs.Whole.{no_place}
use Rattle.pgw_session.proofs.Sound.{conversation_sound, SoundAt, Open, some_segments, reply_legal, spelled_front}
use Rattle.pgw_session.specs.Input.{Input}

-- a message behind which the segment can end makes a legal prefix
got_legal : (input : Input) (t : Talk) (m : Backend) (es : List Event) → Open input t
    → RestBy input (next_after input t.stage m) es → IsLegalPrefix input (said t ++ Got m ∷ [])
got_legal input t m es is_open rest =
    let later = some_segments input (drop (length t.closed) input.requests) in
    let transcript = is_open.completes (Got m ∷ es) later.0 (by_rest input t.stage m es rest) later.1 in
    inr (inl (record {
      closed = t.closed;
      part = t.open_events ++ Got m ∷ [];
      rest = es;
      later = later.0;
      are = append_assoc (all_events t.closed) t.open_events (Got m ∷ []);
      transcript =
          subst (λ (l : List Event). IsTranscript input (t.closed ++ l ∷ later.0))
          (sym (append_assoc t.open_events (Got m ∷ []) es)) transcript;
      opening =
          inr (
            is_open.begins.0 ++ Got m ∷ [],
            ap (λ (l : List Event). l ++ Got m ∷ []) is_open.begins.1
                ∙ append_assoc _ is_open.begins.0 (Got m ∷ []),
          );
    }))

-- a message that makes none is refused
refused_by : (input : Input) (t : Talk) (sent : List ℕ) (m : Backend) (n : Next) → t.passed ≡ []
    → next_after input t.stage m ≡ n → Open input t → (IsLegalPrefix input (said t ++ Got m ∷ []) → ⊥)
    → HasRefused (onto sent (moves input t m n))
refused_by input t sent m (Goes stage reply) clean is is_open illegal =
    absurd (illegal (subst (IsLegalPrefix input)
    (sym (append_assoc (all_events t.closed) t.open_events (Got m ∷ [])))
    (reply_legal input t m stage reply is is_open).0))
refused_by input t sent m Closes clean is is_open illegal =
    absurd (illegal (got_legal input t m [] is_open (subst (λ n. RestBy input n []) (sym is) refl)))
refused_by input t sent m Wrong clean is is_open illegal = tt
refused_by input t sent m (Refuses e) clean is is_open illegal = tt
refused_by input t sent m PassesOver clean is is_open illegal =
    (m, [], ap (λ (l : List Backend). l ++ m ∷ []) clean)

-- where the conversation waits with nothing passed over, and a message is whole then
message_taken : (input : Input) (taken sent pending more : List ℕ) (t : Talk) (m : Backend)
    → conversation input taken ≡ Waits t sent pending → t.passed ≡ []
    → Spells (standing_of input.config (said t)).version m (pending ++ more)
    → front (standing_of input.config (heard_of t)).version pending ≡ More
    → conversation input (taken ++ more) ≡ onto sent (moves input t m (next_after input t.stage m))
unfolding conversation
message_taken input taken sent pending more t m waits clean spells part =
    let rules = talk_rules input in
    let version : (standing_of input.config (said t)).version ≡ (standing_of input.config (heard_of t)).version =
    ap (λ (l : List Event). (standing_of input.config l).version) (clean_heard t clean) in
    let spelled = subst (λ (v : ProtocolVersion). Spells v m (pending ++ more)) version spells in
    run_append rules (beginning input) taken more
    ∙ ap (λ c. run rules c more) waits
    ∙ whole_from rules (steady_by (talk_book input) input) t sent pending more m
    (reads_more (standing_of input.config (heard_of t)).version pending part)
    (reads_whole (standing_of input.config (heard_of t)).version (pending ++ more) m (length (pending ++ more))
    (spelled_front (standing_of input.config (heard_of t)).version m (pending ++ more) spelled))
    ∙ ap (λ (l : List Backend). onto sent (turn input t m l)) clean

pub refused_exactly : (input : Input) (taken sent pending more : List ℕ) (t : Talk) (m : Backend)
    → conversation input taken ≡ Waits t sent pending → t.passed ≡ []
    → Spells (standing_of input.config (said t)).version m (pending ++ more)
    → (HasRefused (conversation input (taken ++ more)) → IsLegalPrefix input (said t ++ Got m ∷ []) → ⊥)
    × ((IsLegalPrefix input (said t ++ Got m ∷ []) → ⊥) → HasRefused (conversation input (taken ++ more)))
refused_exactly input taken sent pending more t m waits clean spells =
    let at = subst (SoundAt input taken) waits (conversation_sound input taken) in
    let course = message_taken input taken sent pending more t m waits clean spells at.3 in (
      λ refused. no_place input t sent m clean at.2.heard (subst HasRefused course refused),
      λ illegal. subst HasRefused (sym course)
          (refused_by input t sent m (next_after input t.stage m) clean refl at.2.is_open illegal),
    )
