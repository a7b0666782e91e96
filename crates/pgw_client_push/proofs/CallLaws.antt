-- The calls of a client: what they start from, and what they leave.
use Rattle.std.proofs.Common.{◌≡◌, ◌⊎◌, ◌<◌, ℕ, zero, suc, ◌+◌, List, [], ◌∷◌, ◌++◌, length, drop, fold, map, Bool, true, false, Option, Some, None, Result, Ok, Err, inl, inr, arith, refl, ◌∙◌, ap, sym, subst, append_assoc, length-append}
use Rattle.std.specs.Prelude.{◌↔◌, IfSome, IsSome}
use Rattle.std.specs.Option.{option_to_list}
use Rattle.std.proofs.lemmas.List.{append-nil}
use Rattle.pgw_types.specs.declared.error.PgWireError.{PgWireError}
use Rattle.pgw_backend.specs.Front.{front}
use Rattle.pgw_backend.specs.declared.client_error.PgWireClientError.{PgWireClientError as ClientError}
use Rattle.pgw_backend.specs.declared.client_error.PgWireClientError.TheVariants as client
use Rattle.pgw_backend.proofs.FrontLaws.{front_nil}
use Rattle.pgw_machine.specs.Course.{Begins, Move, On, Waits, onto, sent_of}
use Rattle.pgw_frontend.specs.Frontend.{encodings}
use Rattle.pgw_frontend.specs.declared.frontend.PgWireFrontendMessage.{PgWireFrontendMessage as Frontend}
use Rattle.pgw_session.specs.declared.notes.Notes.{Notes}
use Rattle.pgw_session.specs.declared.types.Answer.{Answer}
use Rattle.pgw_session.specs.declared.types.Request.{Request}
use Rattle.pgw_session.specs.declared.types.SessionReport.{SessionReport}
use Rattle.pgw_session.specs.Answers.{answers_of, no_tally, tally_at, tally_of}
use Rattle.pgw_session.specs.Events.{Event, Sent, all_events}
use Rattle.pgw_session.specs.Failures.{EndsAs, BytesTell, WaitsStill}
use Rattle.pgw_session.specs.Input.{Input, input_with}
use Rattle.pgw_session.specs.Machine.{map_end, rules_by, sending, turn_by}
use Rattle.pgw_session.specs.Notes.{notes_book, view}
use Rattle.pgw_session.specs.Requests.{sends_of}
use Rattle.pgw_session.specs.Segments.{startup_message}
use Rattle.pgw_session.specs.Standings.{first_standing, standing_of}
use Rattle.pgw_session.specs.Table.{stage_for}
use Rattle.pgw_session.specs.Talk.{Ending, Talk, conversation}
use Rattle.pgw_session.specs.Transcript.{AreSegments, Completed, EncodesSent, IsTranscript, SpellsGot, report_of}
use Rattle.pgw_session.proofs.Events.{standing_plus}
use Rattle.pgw_session.proofs.FailureLaws.{ends_as, told, waits_still}
use Rattle.pgw_session.proofs.Grammar.{startup_same}
use Rattle.pgw_session.proofs.Moves.{opening as opening_of, opens}
use Rattle.pgw_session.proofs.ReadingLaws.{reads_more}
use Rattle.pgw_session.proofs.Whole.{conversation_completes, conversation_goes_on}
use Rattle.pgw_dialogue.specs.declared.phase.DialoguePhase.{DialoguePhase}
use Rattle.pgw_dialogue.specs.Answers.{answer_behind, waiting_answer}
use Rattle.pgw_dialogue.specs.Dialogue.{AnswersDialogue}
use Rattle.pgw_dialogue.specs.Machine.{StartsRun, notes_end, runs, whole_end}
use Rattle.pgw_dialogue.specs.Wire.{Unless}
use Rattle.pgw_dialogue.proofs.TalkLaws.{start_is, waits_in}
use Rattle.pgw_client_push.specs.Behind.{notes_behind}
use Rattle.pgw_client_push.specs.Calls.{HasAnswer, IsLastAnswer, IsLeft, PushesRequest, OpensSegment, Served, TakesPiece, opening_notes, input_with_request}
use Rattle.pgw_client_push.specs.declared.client.PushClient.{PushClient}
use Rattle.pgw_client_push.specs.declared.state.State.{State}
use Rattle.pgw_client_push.specs.declared.state.State.TheVariants as state
use Rattle.pgw_client_push.specs.Serving.{Serves, PushStopsAtFront}
use Rattle.pgw_client_push.specs.State.{push_state_behind}
use Rattle.pgw_client_push.specs.Standing.{PushWaits, IsIdle, IsOpen, IsStarvedPush, NotesAt, StandsFor, StandsIdle, PushStandsIn, asks, last_input}
use Rattle.pgw_client_push.proofs.BehindLaws.{IsOfRequest, last_view, turn_gives}
use Rattle.pgw_client_push.proofs.ViewLaws.{Within, run_where}
use Rattle.pgw_client_push.proofs.PairLaws.{Fits, served_pair, stands_as, stands_in, starved_pair}
use Rattle.pgw_client_push.proofs.StandingLaws.{IsOf, comes_begins, comes_waits, is_of, latest}

-- ---- a piece

fits_more : (input : Input) (limit : ℕ) (old new : PushClient) (given piece put : List ℕ)
    → (new.config ≡ old.config) × (new.nonce ≡ old.nonce) → new.room + length piece ≡ old.room
    → StandsFor input limit old given put → Fits input limit new (given ++ piece)
fits_more input limit old new given piece put made room s =
    record {
      config = made.0 ∙ s.config;
      nonce = made.1
          ∙ s.nonce;
      room = omega (arith, s.room, room, length-append given piece);
    }

-- what the client's machine goes by is the input with the last request alone
goes_by : (input : Input) (mid new : PushClient) → mid.config ≡ input.config → mid.nonce ≡ input.nonce
    → new.asked ≡ mid.asked → last_input mid ≡ latest input new.asked
goes_by input mid new config nonce asked =
    ap (λ x. input_with x (asks mid.asked) mid.nonce) config
    ∙ ap (input_with input.config (asks mid.asked)) nonce
    ∙ ap (λ a. input_with input.config (asks a) input.nonce) (sym asked)

-- ---- the answer that is kept

waiting_has : (c : PushClient) (room closed : ℕ) → HasAnswer c (waiting_answer room closed)
waiting_has c zero closed = tt
waiting_has c (suc room) zero = tt
waiting_has c (suc room) (suc closed) = tt

-- the segment of a request gave its answer
pub answered_by : (mid new : PushClient) (old_out new_out : List ℕ) (result : Result DialoguePhase ClientError)
    → IsOf mid.asked mid.notes → Served mid new old_out new_out result → HasAnswer new result
answered_by mid new old_out new_out result here v = subst (HasAnswer new) (sym v.answer) (go v.fed s.stops)
  where
    s : Serves (last_input mid) mid.notes new.notes mid.inbox new.inbox old_out new_out v.fed
    s = v.serves

    gives : (q : Request) → mid.asked ≡ Some (q ∷ [])
        → PushStopsAtFront (last_input mid) s.notes s.left new.notes new.inbox (Ok true)
        → (answer : Answer) × (new.notes.answers ≡ answer ∷ [])
    gives q asked stops =
        let one = input_with mid.config (q ∷ []) mid.nonce in
        let same : last_input mid ≡ one = ap (λ a. input_with mid.config (asks a) mid.nonce) asked in
        let first : IsOfRequest mid.notes = subst (λ a. IsOf a mid.notes) asked here in
        let rules = rules_by notes_book one in
        let w =
        run_where IsOfRequest (notes_behind 0 []) (map_end (notes_behind 0 [])) rules rules
        (last_view mid.config mid.nonce q [] []) (Waits mid.notes [] []) s.way.taken first in
        let last : IsOfRequest s.notes =
        subst (Within IsOfRequest) (ap (λ i. runs i mid.notes [] s.way.taken) (sym same) ∙ s.way.leads []) w.1 in
        turn_gives mid.config mid.nonce q s.notes (whole_end new.notes) stops.0 s.notes.first_passed last refl
        (ap (λ i. turn_by notes_book i s.notes stops.0 s.notes.first_passed) (sym same)
        ∙ stops.4)

    go : (fed : Result Bool ClientError)
        → PushStopsAtFront (last_input mid) s.notes s.left new.notes new.inbox fed
        → HasAnswer new (answer_behind fed new.room new.notes.closed)
    go (Ok true) stops = λ q is. gives q (sym v.made.2 ∙ is) stops
    go (Ok false) stops = waiting_has new new.room new.notes.closed
    go (Err e) stops = tt

-- the notes of a client that stands open are of the request that was asked last
stood_of : (input : Input) (limit : ℕ) (c : PushClient) (given put : List ℕ) → c.state ≡ state.Open
    → StandsFor input limit c given put → IsOf c.asked c.notes
stood_of input limit c given put stood s =
    let h =
    stands_in input limit c given put state.Open stood s in is_of input c.asked c.notes h.comes.talk
    h.comes.notes_at

-- Messages that are whole were taken by a client that stood stood, with a piece behind what was kept.
pub takes : (old mid new : PushClient) (piece old_out new_out : List ℕ)
    (result : Result DialoguePhase ClientError)
    → old.state ≡ state.Open
    → (mid.config ≡ old.config) × (mid.nonce ≡ old.nonce) × (mid.asked ≡ old.asked) × (mid.notes ≡ old.notes)
    → mid.inbox ≡ old.inbox ++ piece → mid.room + length piece ≡ old.room
    → Served mid new old_out new_out result → TakesPiece old new piece old_out new_out result
takes old mid new piece old_out new_out result stood same inbox room v = record {
  out = (v.serves).way.out;
  puts = (v.serves).way.puts;
  stands = λ input limit given put s. (pair input limit given put s).0;
  answers = λ input limit given put s. (pair input limit given put s).1;
  answered = λ input limit given put s.
      answered_by mid new old_out new_out result
      (subst (λ (n : Notes). IsOf mid.asked n) (sym same.3)
      (subst (λ a. IsOf a old.notes) (sym same.2) (stood_of input limit old given put stood s))) v;
}
  where
    pair : (input : Input) (limit : ℕ) (given put : List ℕ) → StandsFor input limit old given put
        → StandsFor input limit new (given ++ piece) (put ++ (v.serves).way.out)
        × AnswersDialogue input limit (given ++ piece) (put ++ (v.serves).way.out) result
    pair input limit given put s =
        let h = stands_in input limit old given put state.Open stood s in
        let asked : new.asked ≡ old.asked = v.made.2 ∙ same.2 in
        let fits =
        fits_more input limit old new given piece put (
          v.made.0 ∙ same.0,
          v.made.1
              ∙ same.1,
        ) (omega (arith, v.room, room)) s in
        let comes : PushWaits input new.asked mid.notes h.done put =
        subst (λ (n : Notes). PushWaits input new.asked n h.done put) (sym same.3)
        (subst (λ a. PushWaits input a old.notes h.done put) (sym asked) h.comes) in
        let cut : given ++ piece ≡ h.done ++ mid.inbox =
        ap (λ (l : List ℕ). l ++ piece) h.cut ∙ append_assoc h.done old.inbox piece
        ∙ ap (λ (l : List ℕ). h.done ++ l) (sym inbox) in
        let p =
        served_pair input (last_input mid) limit new mid.notes mid.inbox (given ++ piece) h.done put old_out
        new_out v.fed (goes_by input mid new (same.0
        ∙ s.config) (same.1 ∙ s.nonce) v.made.2) fits comes cut v.serves (v.state
        ∙ ap push_state_behind v.answer) in
        subst (λ r. StandsFor input limit new (given ++ piece) (put ++ (v.serves).way.out) × AnswersDialogue input
        limit
        (given ++ piece) (put ++ (v.serves).way.out) r) (sym v.answer) p

-- memory was wanting for the piece
pub lacks : (old new : PushClient) (piece out : List ℕ) → old.state ≡ state.Open
    → (new.config ≡ old.config) × (new.nonce ≡ old.nonce) → new.room + length piece ≡ old.room
    → new.state ≡ state.Starved → TakesPiece old new piece out out (Err client.OutOfMemory)
lacks old new piece out stood same room to = record {
  out = [];
  puts = sym (append-nil out);
  stands = λ input limit given put s. (pair input limit given put s).0;
  answers = λ input limit given put s. (pair input limit given put s).1;
  answered = λ input limit given put s. tt;
}
  where
    pair : (input : Input) (limit : ℕ) (given put : List ℕ) → StandsFor input limit old given put
        → StandsFor input limit new (given ++ piece) (put ++ [])
        × AnswersDialogue input limit (given ++ piece) (put ++ []) (Err client.OutOfMemory)
    pair input limit given put s =
        let h = stands_in input limit old given put state.Open stood s in
        let fits = fits_more input limit old new given piece put same room s in
        let cut : given ++ piece ≡ h.done ++ (old.inbox ++ piece) =
        ap (λ (l : List ℕ). l ++ piece) h.cut ∙ append_assoc h.done old.inbox piece in
        let begins =
        subst (λ (l : List ℕ). Begins (conversation input l) put) (sym cut)
        (comes_begins input old.asked old.notes h.done put (old.inbox ++ piece) h.comes) in
        subst (λ (p : List ℕ). StandsFor input limit new (given ++ piece) p × AnswersDialogue input limit
        (given ++ piece) p (Err client.OutOfMemory)) (sym (append-nil put))
        (starved_pair input limit new (given ++ piece) put client.OutOfMemory fits refl to begins)

-- ---- a request

count_segments : (qs : List Request) (segments : List (List Event)) → AreSegments qs segments
    → length segments ≡ length qs
count_segments [] [] are = refl
count_segments (q ∷ qs) (es ∷ segments) are = ap suc (count_segments qs segments are.1)
count_segments [] (es ∷ segments) are = absurd are
count_segments (q ∷ qs) [] are = absurd are

tally_sent : (fs : List Frontend) → tally_of (map Sent fs) ≡ no_tally
unfolding tally_of
tally_sent fs = go no_tally fs
  where
    go : (t : _) (fs : List Frontend) → fold tally_at t (map Sent fs) ≡ t
    go t [] = refl
    go t (f ∷ fs) = go t fs

-- behind the bytes of a transcript the next request's segment is opened
opens_at : (input : Input) (q : Request) (notes : Notes) (segments : List (List Event))
    (done put opening : List ℕ)
    → IsTranscript input segments → SpellsGot (first_standing input.config) (all_events segments) done
    → EncodesSent (all_events segments) put
    → notes.standing ≡ standing_of input.config (all_events segments)
    → (notes.tally ≡ no_tally) × (notes.first_passed ≡ None) → encodings (sends_of q) ≡ Ok opening
    → PushWaits (input_with_request input q) (Some (q ∷ [])) (opening_notes notes q) done (put ++ opening)
opens_at input q notes [] done put opening transcript got sent standing fresh encoded = absurd transcript
opens_at input q notes (startup ∷ segments) done put opening transcript got sent standing fresh encoded =
    let more = input_with_request input q in
    let all = startup ∷ segments in
    let talk : Talk =
    record { closed = all; open_events = [] ++ map Sent (sends_of q); stage = stage_for q; passed = [] } in
    let is =
    conversation_goes_on more input.requests [] q startup segments done put refl
    (startup_same input more.requests startup transcript.0) transcript.1 got sent in
    let opens_is : opens more all (Some q) ≡ On talk opening = ap (opening_by all q) encoded in
    let answers = answers_of more.requests segments in
    let count = count_segments input.requests segments transcript.1 in
    let closed : suc (length segments) ≡ 1 + length input.requests = omega (arith, count) in
    let heard : (all_events all ++ map Sent (sends_of q)) ++ [] ≡ all_events all ++ map Sent (sends_of q) =
    append-nil _ in
    let stand : standing_of input.config ((all_events all ++ map Sent (sends_of q)) ++ []) ≡ notes.standing =
    ap (standing_of input.config) heard ∙ standing_plus input.config (all_events all) (sends_of q)
    ∙ sym standing in
    let tally : tally_of (map Sent (sends_of q)) ≡ notes.tally = tally_sent (sends_of q) ∙ sym fresh.0 in
    let none = sym (append-nil answers) in
    let passed = sym fresh.1 in
    record {
      talk = talk;
      waits = is ∙ ap (onto put) opens_is;
      notes_at = record {
        before = input.requests;
        earlier = answers;
        are = refl;
        notes_are = cc;
        last = (q, refl, tt, refl, refl);
      };
    }
  where
    opening_by : List (List Event) → Request → Result (List ℕ) PgWireError → Move Talk Ending
    opening_by closed q o = opening_of closed (sends_of q) (stage_for q) o

-- a request's segment was opened, and the messages that are whole were taken
pub asks_next : (old mid new : PushClient) (q : Request) (opening old_out mid_out new_out : List ℕ)
    (result : Result DialoguePhase ClientError)
    → IsIdle old → encodings (sends_of q) ≡ Ok opening → mid_out ≡ old_out ++ opening → OpensSegment old mid q
    → Served mid new mid_out new_out result → PushesRequest old new q old_out new_out result
asks_next old mid new q opening old_out mid_out new_out result idle encoded put_is o v = record {
  opening = opening;
  encoded = encoded;
  out = (v.serves).way.out;
  puts = (v.serves).way.puts ∙ ap (λ (l : List ℕ). l ++ (v.serves).way.out) put_is
      ∙ append_assoc old_out opening (v.serves).way.out;
  stands = λ input limit given put s. (pair input limit given put s).0;
  answers = λ input limit given put s. (pair input limit given put s).1;
}
  where
    pair : (input : Input) (limit : ℕ) (given put : List ℕ) → StandsFor input limit old given put
        → StandsFor (input_with_request input q) limit new given (put ++ (opening ++ (v.serves).way.out))
        × AnswersDialogue (input_with_request input q) limit given (put ++ (opening ++ (v.serves).way.out)) result
    pair input limit given put s =
        let h = stands_in input limit old given put state.Idle idle s in
        let more = input_with_request input q in
        let at =
        opens_at input q old.notes h.segments h.done put opening h.transcript h.got h.put_is h.standing
        h.fresh encoded in
        let asked : new.asked ≡ Some (q ∷ []) = v.made.2 ∙ o.asked in
        let comes : PushWaits more new.asked mid.notes h.done (put ++ opening) =
        subst (λ (n : Notes). PushWaits more new.asked n h.done (put ++ opening)) (sym o.notes)
        (subst (λ a. PushWaits more a (opening_notes old.notes q) h.done (put ++ opening)) (sym asked) at) in
        let fits : Fits more limit new given =
        record {
          config = v.made.0 ∙ o.made.0 ∙ s.config;
          nonce = v.made.1 ∙ o.made.1
              ∙ s.nonce;
          room = omega (arith, v.room, o.room, s.room);
        } in
        let cut : given ≡ h.done ++ mid.inbox = h.cut ∙ ap (λ (l : List ℕ). h.done ++ l) (sym o.inbox) in
        let p =
        served_pair more (last_input mid) limit new mid.notes mid.inbox given h.done (put ++ opening) mid_out
        new_out v.fed (goes_by more mid new (o.made.0
        ∙ s.config) (o.made.1 ∙ s.nonce) v.made.2) fits comes cut v.serves (v.state
        ∙ ap push_state_behind v.answer) in
        subst (λ r. StandsFor more limit new given (put ++ (opening ++ (v.serves).way.out)) × AnswersDialogue more
        limit
        given (put ++ (opening ++ (v.serves).way.out)) r) (sym v.answer)
        (subst (λ (w : List ℕ). StandsFor more limit new given w × AnswersDialogue more limit given w
        (answer_behind v.fed new.room new.notes.closed)) (append_assoc put opening (v.serves).way.out) p)

-- ---- the answer

completes : (c : PushClient) (input : Input) (given put : List ℕ) (h : StandsIdle c input given put)
    → Completed input given put (report_of input h.segments)
completes c input given put h = record {
  segments = h.segments;
  transcript = h.transcript;
  spelled = h.done;
  rest = c.inbox;
  begins = h.cut;
  got = h.got;
  put = h.put_is;
  reported = refl;
}

-- a client that can be asked has held a session
pub holds : (input : Input) (limit : ℕ) (c : PushClient) (given put : List ℕ) → IsIdle c
    → StandsFor input limit c given put → (report : SessionReport) × Completed input given put report
holds input limit c given put idle s =
    let h =
    stands_in input limit c given put state.Idle idle s in
    (report_of input h.segments, completes c input given put h)

pub last_answer : (c : PushClient) (rest : List Answer) (answer : Answer) (input : Input) (limit : ℕ)
    (given put : List ℕ)
    → IsIdle c → c.notes.answers ≡ rest ++ answer ∷ [] → StandsFor input limit c given put
    → IsLastAnswer input given put answer
unfolding report_of
last_answer c rest answer input limit given put idle are s =
    let h = stands_in input limit c given put state.Idle idle s in
    record {
      report = report_of input h.segments;
      completed = completes c input given put h;
      earlier = h.earlier ++ rest;
      last = h.answers ∙ ap (λ (l : List Answer). h.earlier ++ l) are
          ∙ sym (append_assoc h.earlier rest (answer ∷ []));
    }

-- the answer that is handed out, if there is one
pub popped : (c : PushClient) (rest : List Answer) (o : Option Answer) → IsIdle c
    → c.notes.answers ≡ rest ++ option_to_list o → (input : Input) (limit : ℕ) (given put : List ℕ)
    → StandsFor input limit c given put → IfSome o (IsLastAnswer input given put)
popped c rest None idle are input limit given put s = tt
popped c rest (Some answer) idle are input limit given put s =
    last_answer c rest answer input limit given put idle are s

pub one_popped : (items rest : List Answer) (o : Option Answer) (n : ℕ) → items ≡ rest ++ option_to_list o
    → n ≡ length items → IsSome o ↔ (0 < n) → (answer : Answer) → items ≡ answer ∷ [] → o ≡ Some answer
one_popped items rest None n are count some answer one =
    let is : false ≡ true = some.1 (omega (arith, count, ap length one)) in
    absurd (cc)
one_popped items [] (Some x) n are count some answer one =
    let same : x ∷ [] ≡ answer ∷ [] = sym are ∙ one in
    cc
one_popped items (r ∷ rest) (Some x) n are count some answer one =
    absurd (omega (arith, ap length are, ap length one, length-append rest (x ∷ [])))

-- an answer that was taken leaves the rest
pub still_stands : (old new : PushClient) (input : Input) (limit : ℕ) (given put : List ℕ) → IsIdle old
    → new ≡ record old { notes = record old.notes { answers = [] } } → StandsFor input limit old given put
    → StandsFor input limit new given put
still_stands old new input limit given put idle is s =
    let h = stands_in input limit old given put state.Idle idle s in
    let left : PushClient = record old { notes = record old.notes { answers = [] } } in
    subst (λ c. StandsFor input limit c given put) (sym is)
    (stands_as input limit left given put state.Idle
    (record { config = s.config; nonce = s.nonce; room = s.room }) idle
    (record {
      done = h.done;
      cut = h.cut;
      segments = h.segments;
      transcript = h.transcript;
      got = h.got;
      put_is = h.put_is;
      standing = h.standing;
      earlier = answers_of input.requests (drop 1 h.segments);
      answers = sym (append-nil _);
      fresh = h.fresh;
    }))

-- ---- the end of the bytes

pub ends : (c : PushClient) (e : ClientError) → IsOpen c → Unless e (e ≡ notes_end c.notes)
    → (input : Input) (limit : ℕ) (given put : List ℕ) → StandsFor input limit c given put
    → Unless e (EndsAs input given put e)
ends c e stood is input limit given put s ne =
    let h = stands_in input limit c given put state.Open stood.0 s in
    let t = h.comes.talk in
    let waits =
    comes_waits input c.asked c.notes h.done put c.inbox h.comes
    (reads_more c.notes.standing.version c.inbox h.partial) in
    let same : notes_end (view input t) ≡ notes_end c.notes = ap notes_end h.comes.notes_at.notes_are in
    subst (EndsAs input given put) (sym (is ne
    ∙ sym same)) (ends_as input given put c.inbox t (ap (conversation input) h.cut ∙ waits))

-- ---- where an answer leaves it

waiting_left : (c : PushClient) (room closed : ℕ) → c.room ≡ room
    → c.state ≡ push_state_behind (waiting_answer room closed) → IsLeft c (waiting_answer room closed)
waiting_left c zero closed here to = inl to
waiting_left c (suc room) zero here to = (to, omega (arith, here))
waiting_left c (suc room) (suc closed) here to = (to, omega (arith, here))

refused_left : (c : PushClient) (e : ClientError) → c.state ≡ push_state_behind (Err e) → IsLeft c (Err e)
refused_left c client.OutOfMemory to = inr to
refused_left c e to = inl to

pub left_by : (mid new : PushClient) (old_out new_out : List ℕ) (result : Result DialoguePhase ClientError)
    → Served mid new old_out new_out result → IsLeft new result
left_by mid new old_out new_out result v =
    subst (IsLeft new) (sym v.answer) (go v.fed (v.state ∙ ap push_state_behind v.answer))
  where
    go : (fed : Result Bool ClientError)
        → new.state ≡ push_state_behind (answer_behind fed new.room new.notes.closed)
        → IsLeft new (answer_behind fed new.room new.notes.closed)
    go (Ok true) to = to
    go (Ok false) to = waiting_left new new.room new.notes.closed refl to
    go (Err e) to = refused_left new e to

-- ---- the beginning

put_out : (first second notes : Notes) (o : Result (List ℕ) PgWireError) (out : List ℕ)
    → onto [] (sending first second o) ≡ Waits notes out [] → o ≡ Ok out
put_out first second notes (Err e) out is = cc
put_out first second notes (Ok bytes) out is = ap Ok (cc)

pub begins : (input : Input) (limit : ℕ) (c : PushClient) (out : List ℕ) → input.requests ≡ []
    → StartsRun input out (Ok c.notes) → c.config ≡ input.config → c.nonce ≡ input.nonce → c.asked ≡ None
    → c.inbox ≡ [] → c.room ≡ limit → c.state ≡ state.Open
    → (encodings (startup_message input ∷ []) ≡ Ok out) × StandsFor input limit c [] out
begins input limit c out none started config nonce asked empty room stood =
    let w = waits_in input (conversation input []) c.notes out [] (sym (start_is input) ∙ started) in
    let same : c.notes ≡ notes_behind 0 [] c.notes =
    let zero_is : c.notes.closed ≡ c.notes.closed + 0 =
    omega arith in ap (λ k. record c.notes { closed = k }) zero_is in
    let at : NotesAt input None c.notes w.0 =
    record { before = []; earlier = []; are = none; notes_are = sym w.2 ∙ same; last = (refl, refl) } in
    let comes : PushWaits input c.asked c.notes [] out =
    subst (λ a. PushWaits input a c.notes [] out) (sym asked)
    (record { talk = w.0; waits = w.1; notes_at = at }) in (
      put_out _ _ c.notes (encodings (startup_message input ∷ [])) out started,
      stands_as input limit c [] out state.Open
          (record { config = config; nonce = nonce; room = omega (arith, room) }) stood
          (record {
            done = [];
            cut = sym empty;
            comes = comes;
            partial = ap (front c.notes.standing.version) empty
                ∙ front_nil c.notes.standing.version;
          }),
    )

-- one whose segment is open waits within a message
pub still_waits : (input : Input) (limit : ℕ) (c : PushClient) (given put : List ℕ) → IsOpen c
    → StandsFor input limit c given put → WaitsStill input given put × (length given < limit)
still_waits input limit c given put stood s =
    let h = stands_in input limit c given put state.Open stood.0 s in
    let waits =
    comes_waits input c.asked c.notes h.done put c.inbox h.comes
    (reads_more c.notes.standing.version c.inbox h.partial) in (
      waits_still input given put c.inbox h.comes.talk (ap (conversation input) h.cut
          ∙ waits),
      omega (arith, stood.1, s.room),
    )

-- what was put out is all that is sent in the conversation, or a front of it where memory was wanting
sent_in : (s : State) (c : PushClient) (input : Input) (limit : ℕ) (given put : List ℕ)
    → PushStandsIn s c input limit given put
    → (unsent : List ℕ) × (sent_of (conversation input given) ≡ put ++ unsent)
    × ((s ≡ state.Starved) ⊎ (unsent ≡ []))
sent_in state.Open c input limit given put h =
    let waits = comes_waits input c.asked c.notes h.done put c.inbox h.comes
    (reads_more c.notes.standing.version c.inbox h.partial) in
    ([], ap sent_of (ap (conversation input) h.cut ∙ waits) ∙ sym (append-nil put), inr refl)
sent_in state.Idle c input limit given put h =
    let over = conversation_completes input h.segments h.done put c.inbox h.transcript h.got h.put_is in
    ([], ap sent_of (ap (conversation input) h.cut ∙ over) ∙ sym (append-nil put), inr refl)
sent_in state.Refused c input limit given put (inl over) =
    ([], ap sent_of over.2 ∙ sym (append-nil put), inr refl)
sent_in state.Refused c input limit given put (inr waits) =
    ([], ap sent_of (waits.0).2 ∙ sym (append-nil put), inr refl)
sent_in state.Starved c input limit given put begins = (begins.0, begins.1, inl refl)

pub tells : (input : Input) (limit : ℕ) (c : PushClient) (given put : List ℕ) → StandsFor input limit c given put
    → (unsent : List ℕ) × BytesTell input given (put ++ unsent) × (IsStarvedPush c ⊎ (unsent ≡ []))
tells input limit c given put s =
    let t = sent_in c.state c input limit given put s.stands in
    (t.0, subst (BytesTell input given) t.1 (told input given), t.2)
