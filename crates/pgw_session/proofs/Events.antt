-- Lists of events: parts, joined lists, standings, encodings.
use Rattle.std.proofs.Common.{◌≡◌, ℕ, List, [], ◌∷◌, ◌++◌, length, map, fold, Option, Some, None, Result, Ok, Err, slice_get, Bool, true, false, refl, sym, ◌∙◌, ap, subst, append_assoc}
use Rattle.std.proofs.lemmas.List.{append-nil, map-append}
use Rattle.std.proofs.lemmas.List.Sums.{fold-append}
use Rattle.pgw_types.specs.declared.error.PgWireError.{PgWireError}
use Rattle.pgw_backend.specs.declared.backend.PgWireBackendMessage.{PgWireBackendMessage as Backend}
use Rattle.pgw_frontend.specs.declared.frontend.PgWireFrontendMessage.{PgWireFrontendMessage as Frontend}
use Rattle.pgw_backend.specs.Front.{Spells}
use Rattle.pgw_frontend.specs.Frontend.{encoding, encodings, both}
use Rattle.pgw_config.specs.declared.config.Config.{Config}
use Rattle.pgw_session.specs.declared.types.Request.{Request}
use Rattle.pgw_session.specs.declared.standing.Standing.{Standing}
use Rattle.pgw_session.specs.declared.tally.Tally.{Tally}
use Rattle.pgw_session.specs.declared.stage.Next.{Next}
use Rattle.pgw_session.specs.declared.stage.Next.TheVariants.{Goes, Closes, Wrong, Refuses, PassesOver}
use Rattle.pgw_session.specs.Events.{Event, Sent, Got, all_events, sents}
use Rattle.pgw_session.specs.Standings.{standing_of, standing_at, standing_by, first_standing}
use Rattle.pgw_session.specs.Requests.{sends_of}
use Rattle.pgw_session.specs.Segments.{is_ready, sends}
use Rattle.pgw_session.specs.Answers.{tally_of, tally_at, tally_after}
use Rattle.pgw_session.specs.Transcript.{SpellsGot}
use Rattle.pgw_machine.specs.Course.{Move, On, Ends}
use Rattle.pgw_session.specs.Table.{next_after, stage_for}
use Rattle.pgw_session.specs.Machine.{sending}
use Rattle.pgw_session.proofs.Moves.{opens, moves, passing, turn}
use Rattle.pgw_session.specs.Talk.{Talk, Ending, said, heard_of, talk_book, talk_rules}
use Rattle.pgw_session.proofs.ReadingLaws.{steady_by}
use Rattle.pgw_session.proofs.Hears.{Follows, sents_append, sents_sends}
use Rattle.pgw_session.specs.Input.{Input}

pub joined_more : (segments : List (List Event)) (es : List Event)
    → all_events (segments ++ es ∷ []) ≡ all_events segments ++ es
joined_more [] es = append-nil es
joined_more (first ∷ segments) es =
    ap (λ (l : List Event). first ++ l) (joined_more segments es)
    ∙ sym (append_assoc first (all_events segments) es)

-- a joined list, cut in one of its segments
pub joined_cut : (closed : List (List Event)) (part rest : List Event) (later : List (List Event))
    → all_events (closed ++ (part ++ rest) ∷ later) ≡ (all_events closed ++ part) ++ (rest ++ all_events later)
joined_cut [] part rest later = append_assoc part rest (all_events later)
joined_cut (first ∷ closed) part rest later =
    ap (λ (l : List Event). first ++ l) (joined_cut closed part rest later)
    ∙ sym (append_assoc first (all_events closed ++ part) (rest ++ all_events later))
    ∙ ap (λ (l : List Event). l ++ (rest ++ all_events later)) (sym (append_assoc first (all_events closed) part))

standing_sends : (r : Standing) (fs : List Frontend) → fold standing_at r (map Sent fs) ≡ r
standing_sends r [] = refl
standing_sends r (f ∷ fs) = standing_sends r fs

-- the version behind a message, and what was sent then
pub standing_more : (config : Config) (es : List Event) (m : Backend) (fs : List Frontend)
    → standing_of config ((es ++ Got m ∷ []) ++ map Sent fs) ≡ standing_by (standing_of config es) m
unfolding standing_of
standing_more config es m fs =
    fold-append standing_at (first_standing config) (es ++ Got m ∷ []) (map Sent fs)
    ∙ ap (λ r. fold standing_at r (map Sent fs)) (fold-append standing_at (first_standing config) es (Got m ∷ []))
    ∙ standing_sends _ fs

pub standing_plus : (config : Config) (es : List Event) (fs : List Frontend)
    → standing_of config (es ++ map Sent fs) ≡ standing_of config es
unfolding standing_of
standing_plus config es fs =
    fold-append standing_at (first_standing config) es (map Sent fs) ∙ standing_sends _ fs

pub standing_one : (config : Config) (es : List Event) (m : Backend)
    → standing_of config (es ++ Got m ∷ []) ≡ standing_by (standing_of config es) m
unfolding standing_of
standing_one config es m = fold-append standing_at (first_standing config) es (Got m ∷ [])

pub first_sends : (config : Config) (fs : List Frontend)
    → standing_of config (map Sent fs) ≡ first_standing config
unfolding standing_of
first_sends config fs = standing_sends (first_standing config) fs

reply_tally : (t : Tally) (reply : Option Frontend) → fold tally_at t (map Sent (sends reply)) ≡ t
reply_tally t None = refl
reply_tally t (Some m) = refl

pub tally_on : (es : List Event) (m : Backend) (reply : Option Frontend)
    → tally_of (es ++ Got m ∷ map Sent (sends reply)) ≡ tally_after (tally_of es) m
unfolding tally_of
tally_on es m reply = fold-append tally_at _ es (Got m ∷ map Sent (sends reply)) ∙ reply_tally _ reply

-- encodings, one list behind the other
pub both_assoc : (a b c : Result (List ℕ) PgWireError) → both (both a b) c ≡ both a (both b c)
both_assoc (Err e) b c = refl
both_assoc (Ok a) (Err e) c = refl
both_assoc (Ok a) (Ok b) (Err e) = refl
both_assoc (Ok a) (Ok b) (Ok c) = ap Ok (append_assoc a b c)

both_nil : (o : Result (List ℕ) PgWireError) → both (Ok []) o ≡ o
both_nil (Err e) = refl
both_nil (Ok a) = refl

pub encodings_append : (xs ys : List Frontend) → encodings (xs ++ ys) ≡ both (encodings xs) (encodings ys)
encodings_append [] ys = sym (both_nil (encodings ys))
encodings_append (x ∷ xs) ys =
    ap (both (encoding x)) (encodings_append xs ys) ∙ sym (both_assoc (encoding x) (encodings xs) (encodings ys))

pub put_on_sends : (es : List Event) (a b : List ℕ) (fs : List Frontend) (m : Backend)
    → encodings (sents es) ≡ Ok a → encodings fs ≡ Ok b
    → encodings (sents ((es ++ Got m ∷ []) ++ map Sent fs)) ≡ Ok (a ++ b)
put_on_sends es a b fs m put is =
    ap encodings (sents_append (es ++ Got m ∷ []) (map Sent fs)
    ∙ ap (λ (l : List Frontend). l ++ sents (map Sent fs)) (sents_append es (Got m ∷ [])
    ∙ append-nil (sents es))
    ∙ ap (λ (l : List Frontend). sents es ++ l) (sents_sends fs))
    ∙ encodings_append (sents es) fs
    ∙ ap (λ o. both o (encodings fs)) put
    ∙ ap (both (Ok a)) is

-- a message more
pub got_more : (r : Standing) (es : List Event) (m : Backend) (a b : List ℕ) → SpellsGot r es a
    → Spells (fold standing_at r es).version m b → SpellsGot r (es ++ Got m ∷ []) (a ++ b)
got_more r [] m a b s p = (b, [], ap (λ (x : List ℕ). x ++ b) s ∙ sym (append-nil b), p, refl)
got_more r (Sent x ∷ es) m a b s p = got_more r es m a b s p
got_more r (Got x ∷ es) m a b s p = (
  s.0,
  s.1 ++ b,
  ap (λ (l : List ℕ). l ++ b) s.2
      ∙ append_assoc s.0 s.1 b,
  s.3,
  got_more (standing_by r x) es m s.1 b s.4 p,
)

pub got_sends : (r : Standing) (es : List Event) (fs : List Frontend) (a : List ℕ) → SpellsGot r es a
    → SpellsGot r (es ++ map Sent fs) a
got_sends r [] [] a s = s
got_sends r [] (f ∷ fs) a s = got_sends r [] fs a s
got_sends r (Sent x ∷ es) fs a s = got_sends r es fs a s
got_sends r (Got x ∷ es) fs a s = (s.0, s.1, s.2, s.3, got_sends (standing_by r x) es fs s.1 s.4)

pub clean_heard : (t : Talk) → t.passed ≡ [] → said t ≡ heard_of t
clean_heard t clean = sym (append-nil (said t)) ∙ ap (λ (ms : List Backend). said t ++ map Got ms) (sym clean)

-- what a move that goes on has got and sent
abbrev pub Grown : List Event → Move Talk Ending → Type 0
Grown es (On next out) = (fs : List Frontend) × (heard_of next ≡ es ++ map Sent fs) × (encodings fs ≡ Ok out)
Grown es (Ends e out) = Unit {0}

sending_grown : (before behind : Talk) (es : List Event) (fs : List Frontend) (o : Result (List ℕ) PgWireError)
    → encodings fs ≡ o → heard_of behind ≡ es ++ map Sent fs → Grown es (sending before behind o)
sending_grown before behind es fs (Err e) is are = tt
sending_grown before behind es fs (Ok out) is are = (fs, are, is)

pub opens_grown : (input : Input) (closed : List (List Event)) (q : Option Request)
    → Grown (all_events closed) (opens input closed q)
opens_grown input closed None = tt
opens_grown input closed (Some q) =
    sending_grown _ (record {
      closed = closed;
      open_events = map Sent (sends_of q);
      stage = stage_for q;
      passed = [];
    }) (all_events closed) (sends_of q) (encodings (sends_of q)) refl (append-nil _)

moves_grown : (input : Input) (t : Talk) (m : Backend) (n : Next) → t.passed ≡ []
    → Grown (said t ++ Got m ∷ []) (moves input t m n)
moves_grown input t m (Goes stage reply) none =
    sending_grown _ (record {
      closed = t.closed;
      open_events = t.open_events ++ Got m ∷ map Sent (sends reply);
      stage = stage;
      passed = [];
    }) (said t ++ Got m ∷ []) (sends reply) (encodings (sends reply)) refl
    (append-nil _ ∙ sym (append_assoc (all_events t.closed) t.open_events (Got m ∷ map Sent (sends reply)))
    ∙ sym (append_assoc (said t) (Got m ∷ []) (map Sent (sends reply))))
moves_grown input t m Closes none =
    subst (λ (es : List Event). Grown es (moves input t m Closes))
    (joined_more t.closed (t.open_events ++ Got m ∷ [])
    ∙ sym (append_assoc (all_events t.closed) t.open_events (Got m ∷ [])))
    (opens_grown input _ (slice_get input.requests (length t.closed)))
moves_grown input t m Wrong none = tt
moves_grown input t m (Refuses e) none = tt
moves_grown input t m PassesOver none =
    ([], ap (λ (l : List Backend). said t ++ map Got (l ++ m ∷ [])) none ∙ sym (append-nil _), refl)

passing_grown : (input : Input) (t : Talk) (first m : Backend) (b : Bool)
    → Grown (heard_of t ++ Got m ∷ []) (passing input t first m b)
passing_grown input t first m true = tt
passing_grown input t first m false = (
  [],
  ap (λ (l : List Event). said t ++ l) (map-append Got t.passed (m ∷ []))
      ∙ sym (append_assoc (said t) (map Got t.passed) (Got m ∷ [])) ∙ sym (append-nil _),
  refl,
)

pub turn_grown : (input : Input) (t : Talk) (m : Backend) (passed : List Backend) → t.passed ≡ passed
    → Grown (heard_of t ++ Got m ∷ []) (turn input t m passed)
turn_grown input t m [] none =
    subst (λ (l : List Event). Grown (l ++ Got m ∷ []) (turn input t m [])) (sym (append-nil (said t))
    ∙ ap (λ (ms : List Backend). said t ++ map Got ms) (sym none))
    (moves_grown input t m (next_after input t.stage m) none)
turn_grown input t m (first ∷ rest) some = passing_grown input t first m (is_ready m)

pub sents_gots : (es : List Event) (ms : List Backend) → sents (es ++ map Got ms) ≡ sents es
sents_gots [] [] = refl
sents_gots [] (m ∷ ms) = sents_gots [] ms
sents_gots (Sent m ∷ es) ms = ap (λ (l : List Frontend). m ∷ l) (sents_gots es ms)
sents_gots (Got m ∷ es) ms = sents_gots es ms

pub talk_follows : (input : Input) → Follows (talk_rules input) (λ t. standing_of input.config (heard_of t))
talk_follows input = (
  steady_by (talk_book input) input,
  λ t bytes. refl,
  λ t m next out is.
      let g = subst (Grown (heard_of t ++ Got m ∷ [])) is (turn_grown input t m t.passed refl) in
      ap (standing_of input.config) g.1 ∙ standing_more input.config (heard_of t) m g.0,
)
