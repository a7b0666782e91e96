-- A login ends in the startup segment that its link still has.
use Rattle.std.proofs.Common.{◌≡◌, ◌≤◌, ◌+◌, ℕ, Bool, true, false, List, [], ◌∷◌, ◌++◌, length, length-append, Option, Some, Result, Ok, Err, inl, inr, arith, refl, sym, ◌∙◌, ap, subst, append_assoc}
use Rattle.std.proofs.lemmas.List.{append-nil}
use Rattle.pgw_types.specs.declared.error.PgWireError.{PgWireError}
use Rattle.pgw_types.specs.Counts.{Rose}
use Rattle.pgw_backend.specs.declared.client_error.PgWireClientError.{PgWireClientError as ClientError}
use Rattle.pgw_backend.specs.declared.client_error.PgWireClientError.TheVariants as client
use Rattle.pgw_frontend.specs.Frontend.{both, encoding, encodings}
use Rattle.pgw_config.specs.declared.config.Config.{Config}
use Rattle.pgw_link.specs.Foresight.{TapeEnds}
use Rattle.pgw_machine.specs.Course.{Over}
use Rattle.pgw_session.specs.Events.{Event, sents}
use Rattle.pgw_session.specs.Failures.{IsHopeless, IsUnfinished}
use Rattle.pgw_session.specs.Input.{Input}
use Rattle.pgw_session.specs.Segments.{IsStartupSegment, startup_message}
use Rattle.pgw_session.specs.Standings.{first_standing, standing_of}
use Rattle.pgw_session.specs.Talk.{Ending, conversation, whole_talk}
use Rattle.pgw_session.specs.Transcript.{Completes, EncodesSent, SpellsGot}
use Rattle.pgw_session.proofs.Whole.{conversation_completes}
use Rattle.pgw_client.proofs.SessionLaws.{known_rest}
use Rattle.pgw_handlers.specs.declared.client_info.ServerInformation.{ServerInformation}
use Rattle.pgw_handlers.specs.Client.{Client}
use Rattle.pgw_client_calls.specs.Line.{Foretold, Line, MovesLine, Pause, Reasons}
use Rattle.pgw_client_laws.specs.Startup.{IsLetIn, LoggedIn, LoginEnds, LoginFails, StillLogsIn}
use Rattle.pgw_client_laws.specs.Stands.{login}
use Rattle.pgw_client_laws.specs.Turns.{knowing}
use Rattle.pgw_client_laws.proofs.WaitingLaws.{had_enough}

-- a startup segment is a whole session without requests
completes : (config : Config) (nonce : List ℕ) (es : List Event) (limit : ℕ) (bytes spelled more sent : List ℕ)
    → IsStartupSegment (login config nonce) es → bytes ≡ spelled ++ more → length spelled ≤ limit
    → SpellsGot (first_standing config) es spelled → EncodesSent es sent
    → Completes (login config nonce) limit bytes (es ∷ [])
completes config nonce es limit bytes spelled more sent segment begins within got put = record {
  transcript = (segment, tt);
  bytes = spelled;
  more = more;
  begins = begins;
  within = within;
  got = subst (λ (l : List Event). SpellsGot (first_standing config) l spelled) (sym (append-nil es)) got;
  sent = sent;
  put = subst (λ (l : List Event). EncodesSent l sent) (sym (append-nil es)) put;
}

one_of : (es xs : List Event) → es ∷ [] ≡ xs ∷ [] → es ≡ xs
one_of es xs is = cc

same_end : (input : Input) (e f : Ending) (s t bytes : List ℕ) → conversation input bytes ≡ Over e s
    → conversation input bytes ≡ Over f t → e ≡ f
same_end input e f s t bytes one other = let both : Over e s ≡ Over f t = sym one ∙ other in cc

-- bytes begin with one startup segment
same_segment : (config : Config) (nonce : List ℕ) (limit limit' : ℕ) (bytes : List ℕ) (es xs : List Event)
    → Completes (login config nonce) limit bytes (es ∷ []) → Completes (login config nonce) limit' bytes (xs ∷ [])
    → es ≡ xs
same_segment config nonce limit limit' bytes es xs c d =
    let input = login config nonce in
    let one =
    ap (conversation input) c.begins
    ∙ conversation_completes input (es ∷ []) c.bytes c.sent c.more c.transcript c.got c.put in
    let other =
    ap (conversation input) d.begins
    ∙ conversation_completes input (xs ∷ []) d.bytes d.sent d.more d.transcript d.got d.put in
    one_of es xs (ap (λ (e : Ending). e.notes.closed)
    (same_end input (whole_talk (es ∷ [])) (whole_talk (xs ∷ [])) c.sent d.sent bytes one other))

-- the startup message has an encoding where all messages have
first_encodes : (a b : Result (List ℕ) PgWireError) (out : List ℕ) (why : PgWireError) → both a b ≡ Ok out
    → both a (Ok []) ≡ Err why → ⊥
first_encodes (Ok x) b out why whole first = absurd cc
first_encodes (Err e) b out why whole first = absurd cc

-- A login over some bytes, behind which others are left: together they begin with the segment, and where it found no more
-- bytes it had those of the whole segment.
module _ (P : Reasons) (config : Config) (nonce bytes left sent : List ℕ) (info : Client) (rest : List ℕ)
    (es : List Event) (limit : ℕ) (whole : Completes (login config nonce) limit (bytes ++ left) (es ∷ []))
    (enough : (e : ClientError) → P.halts e → Completes (login config nonce) (length bytes) bytes (es ∷ []))
    (calm : (lost : List ℕ) → P.unsent lost → ⊥) where
  hoped : IsHopeless (login config nonce) bytes → ⊥
  hoped none = none limit left (es ∷ []) whole

  finished : (e : ClientError) → P.halts e → IsUnfinished (login config nonce) bytes → ⊥
  finished e why open_still = open_still (es ∷ []) (enough e why)

  fails : (e : ClientError) (broken : Bool) → LoginFails P (login config nonce) bytes sent e
      → IsLetIn config es (Err e) info broken
  fails client.OutOfMemory broken y = tt
  fails (client.PgWireError why) broken (inl y) = absurd (hoped y.1)
  fails (client.PgWireError why) broken (inr y) = absurd (hoped y.1)
  fails (client.UnexpectedMessage m) broken y = absurd (hoped y.1)
  fails client.UnexpectedEOF broken y = absurd (finished client.UnexpectedEOF y.0 y.2)
  fails client.ReadLimit broken y = absurd (finished client.ReadLimit y.0 (y.1).1)
  fails client.IoError broken (inl y) = absurd (finished client.IoError y.0 (y.1).1)
  fails client.IoError broken (inr y) = absurd (calm y.0 y.1)
  fails (client.RemoteError e) broken y = absurd (hoped y.1)
  fails (client.ScramError fault) broken y = absurd (hoped y.1)
  fails (client.UnsupportedSASLAuthMethods methods) broken y = absurd (hoped y.1)
  fails (client.InvalidConfig key) broken y = absurd (hoped y.1)
  fails e broken y = absurd y

  let_in : (information : ServerInformation) → LoggedIn config nonce bytes sent information info rest
      → IsLetIn config es (Ok information) info false
  unfolding standing_of
  let_in information y =
      let x = y.exchanged in
      let begins : bytes ++ left ≡ x.spelled ++ (rest ++ left) =
      ap (λ (l : List ℕ). l ++ left) x.begins ∙ append_assoc x.spelled rest left in
      let found =
      completes config nonce y.es (length x.spelled) (bytes ++ left) x.spelled (rest ++ left) sent y.segment
      begins (omega arith) x.got x.put in
      let same = same_segment config nonce (length x.spelled) limit (bytes ++ left) y.es es found whole in
      (x.knows ∙ ap (λ (l : List Event). knowing config (standing_of config l)) same, y.parameters, refl)

  opened : (why : PgWireError) → encodings (startup_message (login config nonce) ∷ []) ≡ Err why → ⊥
  opened why none =
      let segment = (whole.transcript).0 in
      let all : encodings (sents (es ++ [])) ≡ Ok whole.sent = whole.put in
      let first = ap (λ (l : List Event). encodings (sents (l ++ []))) (sym segment.1) ∙ all in
      first_encodes (encoding (startup_message (login config nonce))) (encodings (sents (segment.0 ++ [])))
      whole.sent why first none

  ends_in : (answer : Result ServerInformation ClientError) (broken : Bool)
      → LoginEnds P config nonce bytes sent info rest answer broken → IsLetIn config es answer info broken
  ends_in (Ok information) false y = let_in information y
  ends_in (Ok information) true y = absurd y
  ends_in (Err e) true y = fails e true y
  ends_in (Err (client.PgWireError why)) false y = absurd (opened why y.0)
  ends_in (Err e) false y = absurd y

pub lets_in : (config : Config) (nonce : List ℕ) (old now : Line) (coming taken sent rest : List ℕ)
    (is : Option (List ℕ)) (es : List Event) (answer : Result ServerInformation ClientError) (info : Client)
    (broken : Bool)
    → LoginEnds (Pause old now) config nonce (old.buffer ++ taken) sent info rest answer broken
    → MovesLine old now taken sent → Foretold (Some coming) is old.tape now.tape
    → StillLogsIn config nonce old coming es → (Rose old.faults now.faults → ⊥)
    → IsLetIn config es answer info broken
lets_in config nonce old now coming taken sent rest is es answer info broken ends moved f w calm =
    let k = known_rest coming taken f.foreseen moved.took in
    let are : (old.buffer ++ taken) ++ k.0 ≡ w.spelled ++ w.more =
    append_assoc old.buffer taken k.0 ∙ ap (λ (l : List ℕ). old.buffer ++ l) (sym k.2) ∙ w.begins in
    let last : TapeEnds (Some k.0) old.tape now.tape =
    subst (λ (o : Option (List ℕ)). TapeEnds o old.tape now.tape) k.1 f.ends in
    let whole =
    completes config nonce es (length w.spelled) ((old.buffer ++ taken) ++ k.0) w.spelled w.more w.sent
    w.segment are (omega arith) w.got w.put in
    ends_in (Pause old now) config nonce (old.buffer ++ taken) k.0 sent info rest es (length w.spelled) whole
    (λ e why.
    let x = had_enough old now w.spelled w.more taken k.0 sent w.within are moved last calm e why in
    completes config nonce es (length (old.buffer ++ taken)) (old.buffer ++ taken) w.spelled x.0 w.sent w.segment
    x.1 (omega (arith, ap length x.1, length-append w.spelled x.0)) w.got w.put)
    (λ lost u. calm u.0) answer broken ends
