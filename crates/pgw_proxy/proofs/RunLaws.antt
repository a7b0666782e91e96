-- A run of a proxy, turn by turn.
use Rattle.std.proofs.Common.{◌≡◌, ◌≢◌, ◌<◌, ◌≤◌, ◌+◌, ℕ, true, false, List, [], ◌∷◌, ◌++◌, take, drop, length, get_or, Option, Some, None, Result, Ok, Err, refl, sym, ap, subst, ◌∙◌, append_assoc, inl, inr, arith}
use Rattle.std.specs.Prelude.{◌⊎◌, Bool, IsSome, zero, suc, if◌then◌else◌}
use Rattle.std.specs.Io.KnownBytes.{Keeps}
use Rattle.std.proofs.lemmas.List.{append-nil, length-append, length-take, take-append-drop, take_more}
use Rattle.std.proofs.lemmas.Grind.{flat_map-append}
use Rattle.pgw_types.specs.Counts.{Rose}
use Rattle.pgw_types.specs.declared.error.PgWireError.{PgWireError}
use Rattle.pgw_types.specs.declared.memory.OutOfMemory.{OutOfMemory}
use Rattle.pgw_types.specs.declared.error.PgWireError.TheVariants as wire
use Rattle.pgw_link.specs.Tape.{Tape, Took, LinkFails}
use Rattle.pgw_link.specs.Sending.{WroteSome}
use Rattle.pgw_link.proofs.LogLaws.{foreseen_on, foreseen_kept, foreseen_still, ends_further, ends_on, ends_still}
use Rattle.pgw_backend.specs.declared.backend.PgWireBackendMessage.{PgWireBackendMessage as Backend}
use Rattle.pgw_frontend.specs.declared.frontend.PgWireFrontendMessage.{PgWireFrontendMessage as Frontend}
use Rattle.pgw_backend.specs.Backend.{backend_front}
use Rattle.pgw_proxy.specs.declared.context.Context.{Context}
use Rattle.pgw_proxy.specs.declared.recorded.Side.{Side}
use Rattle.pgw_proxy.specs.declared.recorded.Side.TheVariants.{Client, Server}
use Rattle.pgw_proxy.specs.declared.fault.ProxyFault.{ProxyFault}
use Rattle.pgw_proxy.specs.declared.fault.ProxyFault.TheVariants as fault
use Rattle.pgw_proxy.specs.declared.proxy.Proxy.{Proxy}
use Rattle.pgw_proxy.specs.declared.run.ProxyRun.{ProxyRun}
use Rattle.pgw_proxy.specs.Context.{client_context, first, is_due, is_accepted}
use Rattle.pgw_proxy.specs.Fronts.{RelayFinding, client_side_front, side_front, of_client, of_server, refused}
use Rattle.pgw_proxy.specs.Record.{RelayMessage, side_bytes, record_of}
use Rattle.pgw_proxy.specs.Proxied.{SideEvent, SideEnding, Waits, Fails, SideTakes, waits, fails, breaks, passes, ProxyPlace, proxy_place, side_buffer, RelayCourse, Going, Stopped, side_course, Proxied, begins as nothing, goes, stays, piece_of, side_input, relay_answer}
use Rattle.pgw_proxy.specs.Stands.{ProxyGoesOn, IsRelayAt, RelayStands, Forwards, place_in_proxy}
use Rattle.pgw_proxy.specs.Turns.{Links, Turn, unread, ended, sent, unsent, Turns, begins, goes_on, Still, Gave, SideReadFails, WritesToSide, Got, GotSome, relay_fault, side_faults, graver, io_of, other, side_tape}
use Rattle.pgw_proxy.specs.Run.{AtLink, FaredWell, IsRelayForetold, HadTurns, RelaysMessages, RelaysOr, Span, StopsFor, relay_links, start_of, turns_of}
use Rattle.pgw_proxy.specs.RunSteps.{Delivers, EndsRelayRun, Half, RelayMoves, RelayRuns, RelayStops, end_by, start_by}
use Rattle.pgw_proxy.proofs.TakingLaws.{joined_append, record_append}
use Rattle.pgw_proxy.proofs.StandsLaws.{takes_foreign}

-- ---- what no bytes lead to

abbrev pub is_io : ProxyFault → Bool
is_io fault.ClientIo = true
is_io fault.ServerIo = true
is_io f = false

refused_calm : (make : PgWireError → ProxyFault) → ((e : PgWireError) → is_io (make e) ≡ false)
    → (e : PgWireError) → is_io (refused make e) ≡ false
refused_calm make never wire.OutOfMemory = refl
refused_calm make never e = never e

refuses : {T : Type 0} (f why : ProxyFault) → ◌≡◌ {A = Result T ProxyFault} (Err f) (Err why) → is_io f ≡ false
    → is_io why ≡ false
refuses f why is calm =
    let same : why ≡ f = cc in
    ap is_io same ∙ calm

chosen : {T : Type 0} (f why : ProxyFault) (x : T) (b : Bool)
    → ◌≡◌ {A = Result T ProxyFault} (if b then Err f else Ok x) (Err why) → is_io f ≡ false → is_io why ≡ false
chosen f why x true is calm = refuses f why is calm
chosen f why x false is calm = cc

client_calm : (c : Context) (r : RelayFinding Frontend) (why : ProxyFault) → of_client c r ≡ Err why
    → is_io why ≡ false
client_calm c (Err e) why is = refuses (refused fault.Client e) why is (refused_calm fault.Client (λ x. refl) e)
client_calm c (Ok None) why is = cc
client_calm c (Ok (Some x)) why is = chosen fault.Negotiation why _ (is_due c) is refl

server_calm : (c : Context) (r : RelayFinding Backend) (why : ProxyFault) → of_server c r ≡ Err why
    → is_io why ≡ false
server_calm c (Err e) why is = refuses (refused fault.Server e) why is (refused_calm fault.Server (λ x. refl) e)
server_calm c (Ok None) why is = cc
server_calm c (Ok (Some x)) why is = chosen fault.TlsAccepted why _ (is_accepted x.0) is refl

front_calm : (side : Side) (c : Context) (bytes : List ℕ) (why : ProxyFault) → side_front side c bytes ≡ Err why
    → is_io why ≡ false
unfolding side_front
front_calm Client c bytes why is = client_calm c (client_side_front (client_context c) bytes) why is
front_calm Server c bytes why is = server_calm c (backend_front c.decode bytes) why is

takes_calm : (side : Side) (c : Context) (bytes : List ℕ) (ms : List RelayMessage) (there : SideEnding)
    → SideTakes side c bytes ms there → (why : ProxyFault) → there ≡ Fails why → is_io why ≡ false
takes_calm side c bytes ms there (waits x y none) why is = cc
takes_calm side c bytes ms there (fails x y f bad) why is =
    let same : why ≡ f = cc in
    ap is_io same ∙ front_calm side x y f bad
takes_calm side c bytes ms there (breaks x y) why is =
    let same : why ≡ fault.OutOfMemory = cc in
    ap is_io same
takes_calm side c bytes ms there (passes x next y g rest m more z cut found on) why is =
    takes_calm side next rest more z on why is

not_io : (o : Side) (f : ProxyFault) → is_io f ≡ false → f ≢ io_of o
not_io Client f calm is = let io : is_io f ≡ true = ap is_io is in cc
not_io Server f calm is = let io : is_io f ≡ true = ap is_io is in cc

-- ---- lists that grow by a turn

given_on : (o : Side) (events : List SideEvent) (e : SideEvent)
    → side_input o (events ++ e ∷ []) ≡ side_input o events ++ piece_of o e
given_on o events e =
    flat_map-append (piece_of o) events (e ∷ [])
    ∙ ap (λ (l : List ℕ). side_input o events ++ l) (append-nil (piece_of o e))

own_piece : (o : Side) (piece : List ℕ) → piece_of o (o, piece) ≡ piece
own_piece Client piece = refl
own_piece Server piece = refl

other_piece : (o : Side) (piece : List ℕ) → piece_of (other o) (o, piece) ≡ []
other_piece Client piece = refl
other_piece Server piece = refl

given_own : (o : Side) (events : List SideEvent) (piece : List ℕ)
    → side_input o (events ++ (o, piece) ∷ []) ≡ side_input o events ++ piece
given_own o events piece =
    given_on o events (o, piece) ∙ ap (λ (l : List ℕ). side_input o events ++ l) (own_piece o piece)

given_other : (o : Side) (events : List SideEvent) (piece : List ℕ)
    → side_input (other o) (events ++ (o, piece) ∷ []) ≡ side_input (other o) events
given_other o events piece =
    given_on (other o) events (o, piece)
    ∙ ap (λ (l : List ℕ). side_input (other o) events ++ l) (other_piece o piece)
    ∙ append-nil (side_input (other o) events)

turns_own : (o : Side) (turns : List Side) → turns_of o (turns ++ o ∷ []) ≡ turns_of o turns + 1
turns_own Client [] = refl
turns_own Server [] = refl
turns_own Client (Client ∷ ts) = let h = turns_own Client ts in omega (arith, h)
turns_own Client (Server ∷ ts) = turns_own Client ts
turns_own Server (Client ∷ ts) = turns_own Server ts
turns_own Server (Server ∷ ts) = let h = turns_own Server ts in omega (arith, h)

turns_other : (o : Side) (turns : List Side) → turns_of (other o) (turns ++ o ∷ []) ≡ turns_of (other o) turns
turns_other Client [] = refl
turns_other Server [] = refl
turns_other Client (Server ∷ ts) = let h = turns_other Client ts in omega (arith, h)
turns_other Client (Client ∷ ts) = turns_other Client ts
turns_other Server (Server ∷ ts) = turns_other Server ts
turns_other Server (Client ∷ ts) = let h = turns_other Server ts in omega (arith, h)

round : (o : Side) → other (other o) ≡ o
round Client = refl
round Server = refl

apart : (o : Side) → io_of o ≢ io_of (other o)
apart Client is = cc
apart Server is = cc

no_more : (o : Side) (ms more : List RelayMessage) → side_bytes o more ≡ []
    → side_bytes o (ms ++ more) ≡ side_bytes o ms
no_more o ms more none =
    joined_append o ms more ∙ ap (λ (l : List ℕ). side_bytes o ms ++ l) none ∙ append-nil (side_bytes o ms)

-- what holds of a side and of the other holds of each
each : (o : Side) (Fact : Side → Type 0) → Fact o → Fact (other o) → (side : Side) → Fact side
each Client Fact own far Client = own
each Client Fact own far Server = far
each Server Fact own far Server = own
each Server Fact own far Client = far

-- ---- a link over a turn more

had_more : (old mid last : Tape) (count count2 : ℕ) (came came2 : List ℕ) → HadTurns old mid count came
    → last.ended ≡ mid.ended → count2 + length came ≤ count + length came2 → HadTurns old last count2 came2
had_more old mid last count count2 came came2 (inl few) same more = inl (omega (arith, few, more))
had_more old mid last count count2 came came2 (inr met) same more = inr (met.0, met.1, same ∙ met.2)

-- of the side whose turn it is
module _ (side : Side) (start mid last : Links) (turns : List Side) (events : List SideEvent)
    (ms : List RelayMessage) (half : Half side start mid turns events ms) where
  -- its piece was read
  half_took : (more : List RelayMessage) (piece : List ℕ) → Gave side mid last piece → 0 < length piece
      → side_bytes (other side) more ≡ []
      → Half side start last (turns ++ side ∷ []) (events ++ (side, piece) ∷ []) (ms ++ more)
  half_took more piece gave some none =
      let took = gave.0 in
      let came : side_input side (events ++ (side, piece) ∷ []) ≡ side_input side events ++ piece =
      given_own side events piece in
      let due : side_bytes (other side) (ms ++ more) ≡ side_bytes (other side) ms =
      no_more (other side) ms more none in
      record {
        took = took.took ∙ ap (λ (l : List ℕ). l ++ piece) half.took
            ∙ append_assoc (side_tape side start).took (side_input side events) piece
            ∙ ap (λ (l : List ℕ). (side_tape side start).took ++ l) (sym came);
        wrote = took.wrote ∙ half.wrote ∙ ap (λ (l : List ℕ). (side_tape side start).wrote ++ l) (sym due);
        flushed =
            λ some_due. took.flushed ∙ half.flushed (λ nothing. some_due (due ∙ nothing))
            ∙ ap length (sym took.wrote);
        calm = gave.1 ∙ half.calm;
        answers = half.answers;
        ended = took.goes_on some ∙ half.ended;
        turns_made =
            had_more (side_tape side start) (side_tape side mid) (side_tape side last) (turns_of side turns)
            (turns_of side (turns ++ side ∷ [])) (side_input side events)
            (side_input side (events ++ (side, piece) ∷ [])) half.turns_made (took.goes_on some)
            (omega (
              arith,
              turns_own side turns,
              some,
              ap length came,
              length-append
                  (side_input side events) piece,
            ));
      }

  -- it answered its end
  half_ended : Gave side mid last [] → Half side start last (turns ++ side ∷ []) events ms
  half_ended gave =
      let took = gave.0 in
      let met : (side_tape side last).ended ≡ ((side_tape side start).ended ++ half.answers) ++
      (side_tape side mid).flushed ∷ [] = took.ended refl
      ∙ ap (λ (l : List ℕ). l ++ (side_tape side mid).flushed ∷ []) half.ended in
      record {
        took = took.took ∙ append-nil (side_tape side mid).took ∙ half.took;
        wrote = took.wrote ∙ half.wrote;
        flushed = λ some_due. took.flushed ∙ half.flushed some_due ∙ ap length (sym took.wrote);
        calm = gave.1 ∙ half.calm;
        answers = half.answers ++ (side_tape side mid).flushed ∷ [];
        ended = met ∙ append_assoc (side_tape side start).ended half.answers ((side_tape side mid).flushed ∷ []);
        turns_made = inr (half.answers, (side_tape side mid).flushed, met);
      }

-- of the other side, in a turn of this one
module _ (side : Side) (start mid last : Links) (turns : List Side) (events : List SideEvent)
    (ms : List RelayMessage) (half : Half (other side) start mid turns events ms) where
  -- nothing was written to it
  half_idle : Still (other side) mid last → Half (other side) start last (turns ++ side ∷ []) events ms
  half_idle still =
      let same = still.0 in
      record {
        took = ap (λ (t : Tape). t.took) same ∙ half.took;
        wrote = ap (λ (t : Tape). t.wrote) same ∙ half.wrote;
        flushed =
            λ some_due. ap (λ (t : Tape). t.flushed) same ∙ half.flushed some_due
            ∙ ap (λ (t : Tape). length t.wrote) (sym same);
        calm = still.1 ∙ half.calm;
        answers = half.answers;
        ended = ap (λ (t : Tape). t.ended) same ∙ half.ended;
        turns_made =
            had_more (side_tape (other side) start) (side_tape (other side) mid) (side_tape (other side) last)
            (turns_of (other side) turns) (turns_of (other side) (turns ++ side ∷ []))
            (side_input (other side) events) (side_input (other side) events) half.turns_made
            (ap (λ (t : Tape). t.ended) same) (omega (arith, turns_other side turns));
      }

  -- what was due was written
  half_wrote : (more : List RelayMessage) (piece out : List ℕ)
      → WritesToSide out (side_tape (other side) mid) (side_tape (other side) last)
      → side_faults (other side) last ≡ side_faults (other side) mid
      → out ≡ side_bytes (other (other side)) more
      → Half (other side) start last (turns ++ side ∷ []) (events ++ (side, piece) ∷ []) (ms ++ more)
  half_wrote more piece [] same calm out =
      let far = other side in
      let due : side_bytes (other far) (ms ++ more) ≡ side_bytes (other far) ms =
      no_more (other far) ms more (sym out) in
      let came : side_input far (events ++ (side, piece) ∷ []) ≡ side_input far events =
      given_other side events piece in
      record {
        took = ap (λ (t : Tape). t.took) same ∙ half.took
            ∙ ap (λ (l : List ℕ). (side_tape far start).took ++ l) (sym came);
        wrote =
            ap (λ (t : Tape). t.wrote) same ∙ half.wrote
            ∙ ap (λ (l : List ℕ). (side_tape far start).wrote ++ l) (sym due);
        flushed =
            λ some_due. ap (λ (t : Tape). t.flushed) same ∙ half.flushed (λ nothing. some_due (due ∙ nothing))
            ∙ ap (λ (t : Tape). length t.wrote) (sym same);
        calm = calm ∙ half.calm;
        answers = half.answers;
        ended = ap (λ (t : Tape). t.ended) same ∙ half.ended;
        turns_made =
            had_more (side_tape far start) (side_tape far mid) (side_tape far last) (turns_of far turns)
            (turns_of far (turns ++ side ∷ [])) (side_input far events)
            (side_input far (events ++ (side, piece) ∷ [])) half.turns_made
            (ap (λ (t : Tape). t.ended) same) (omega (arith, turns_other side turns, ap length came));
      }
  half_wrote more piece (b ∷ bs) wrote calm out =
      let far = other side in
      let due : side_bytes (other far) (ms ++ more) ≡ side_bytes (other far) ms ++ (b ∷ bs) =
      joined_append (other far) ms more ∙ ap (λ (l : List ℕ). side_bytes (other far) ms ++ l) (sym out) in
      let came : side_input far (events ++ (side, piece) ∷ []) ≡ side_input far events =
      given_other side events piece in
      record {
        took = (wrote.reads_nothing).took ∙ half.took
            ∙ ap (λ (l : List ℕ). (side_tape far start).took ++ l) (sym came);
        wrote =
            wrote.wrote ∙ ap (λ (l : List ℕ). l ++ (b ∷ bs)) half.wrote
            ∙ append_assoc (side_tape far start).wrote (side_bytes (other far) ms) (b ∷ bs)
            ∙ ap (λ (l : List ℕ). (side_tape far start).wrote ++ l) (sym due);
        flushed = λ some_due. wrote.flushed;
        calm = calm ∙ half.calm;
        answers = half.answers;
        ended = (wrote.reads_nothing).ended ∙ half.ended;
        turns_made =
            had_more (side_tape far start) (side_tape far mid) (side_tape far last) (turns_of far turns)
            (turns_of far (turns ++ side ∷ [])) (side_input far events)
            (side_input far (events ++ (side, piece) ∷ [])) half.turns_made (wrote.reads_nothing).ended
            (omega (arith, turns_other side turns, ap length came));
      }

-- the messages of a turn go to the other side alone
due_of : (side : Side) (ms : List RelayMessage) → side_bytes side ms ≡ side_bytes (other (other side)) ms
due_of side ms = ap (λ o. side_bytes o ms) (sym (round side))

-- ---- where a run ends, at one side

rose_from : (a b c : ℕ) → b ≡ a → Rose b c → Rose a c
rose_from a b c same rose = subst (λ n. Rose n c) same rose

-- no call of it failed
at_calm : (side : Side) (start last : Links) (turns : List Side) (events : List SideEvent)
    (ms : List RelayMessage) (why : Option ProxyFault)
    → Half side start last turns events ms → why ≢ Some (io_of side) → AtLink side start last turns events ms why
at_calm side start last turns events ms why half never = record {
  took = half.took;
  part = side_bytes (other side) ms;
  lost = [];
  cut = sym (append-nil (side_bytes (other side) ms));
  wrote = half.wrote;
  whole = λ _. refl;
  flushed = λ _. half.flushed;
  calm = λ _ _. half.calm;
  failed = λ is. absurd (never is);
  turns_made = λ _. half.turns_made;
}

-- a read of it failed
at_unread : (side : Side) (start mid last : Links) (turns more : List Side) (events : List SideEvent)
    (ms : List RelayMessage)
    → Half side start mid turns events ms → SideReadFails side mid last
    → AtLink side start last (turns ++ more) events ms (Some (io_of side))
at_unread side start mid last turns more events ms half failed =
    let f = failed.0 in
    record {
      took = f.took ∙ half.took;
      part = side_bytes (other side) ms;
      lost = [];
      cut = sym (append-nil (side_bytes (other side) ms));
      wrote = f.wrote ∙ half.wrote;
      whole = λ _. refl;
      flushed = λ well. absurd (well.0 refl);
      calm = λ not_so _. absurd (not_so refl);
      failed =
          λ _. rose_from (side_faults side start) (side_faults side mid) (side_faults side last) half.calm
          failed.1;
      turns_made = λ not_so. absurd (not_so refl);
    }

take_drop : (n : ℕ) (l : List ℕ) → l ≡ take n l ++ drop n l
take_drop zero l = refl
take_drop (suc n) [] = refl
take_drop (suc n) (x ∷ xs) = ap (λ (l : List ℕ). x ∷ l) (take_drop n xs)

-- why a turn stops whose write failed: that, or want of memory
abbrev IsUnsent : Side → ProxyFault → Type 0
IsUnsent far f = (f ≡ io_of far) ⊎ (f ≡ fault.OutOfMemory)

unwell : (far : Side) (f : ProxyFault) (start last : Links) → IsUnsent far f
    → Rose (side_faults far start) (side_faults far last) → FaredWell far start last (Some f) → ⊥
unwell far f start last (inl is) rose well = well.0 (ap Some is)
unwell far f start last (inr is) rose well = well.1 (ap Some is) rose

unsent_not_calm : (far : Side) (f : ProxyFault) → IsUnsent far f → Some f ≢ Some (io_of far)
    → Some f ≢ Some fault.OutOfMemory → ⊥
unsent_not_calm far f (inl is) one two = one (ap Some is)
unsent_not_calm far f (inr is) one two = two (ap Some is)

-- a write to it failed
at_unsent : (side : Side) (start mid last : Links) (turns : List Side) (events : List SideEvent)
    (ms more : List RelayMessage) (piece : List ℕ) (f : ProxyFault)
    → Half (other side) start mid turns events ms → GotSome (other side) mid last (side_bytes side more)
    → IsUnsent (other side) f
    → AtLink (other side) start last (turns ++ side ∷ []) (events ++ (side, piece) ∷ []) (ms ++ more) (Some f)
at_unsent side start mid last turns events ms more piece f half got why =
    let far = other side in
    let w = got.1 in
    let out = side_bytes side more in
    let came : side_input far (events ++ (side, piece) ∷ []) ≡ side_input far events =
    given_other side events piece in
    let part = take w.count out in
    let rose = rose_from (side_faults far start) (side_faults far mid) (side_faults far last) half.calm got.2 in
    record {
      took = (w.reads_nothing).took ∙ half.took ∙ ap (λ (l : List ℕ). (side_tape far start).took ++ l) (sym came);
      part = side_bytes (other far) ms ++ part;
      lost = drop w.count out;
      cut = joined_append (other far) ms more
          ∙ ap (λ (l : List ℕ). side_bytes (other far) ms ++ l) (sym (due_of side more) ∙ take_drop w.count out)
          ∙ sym (append_assoc (side_bytes (other far) ms) part (drop w.count out));
      wrote =
          w.wrote ∙ ap (λ (l : List ℕ). l ++ part) half.wrote
          ∙ append_assoc (side_tape far start).wrote (side_bytes (other far) ms) part;
      whole = λ well. absurd (unwell far f start last why rose well);
      flushed = λ well. absurd (unwell far f start last why rose well);
      calm = λ one two. absurd (unsent_not_calm far f why one two);
      failed = λ _. rose;
      turns_made =
          λ _. had_more (side_tape far start) (side_tape far mid) (side_tape far last) (turns_of far turns)
          (turns_of far (turns ++ side ∷ [])) (side_input far events)
          (side_input far (events ++ (side, piece) ∷ [])) half.turns_made (w.reads_nothing).ended
          (omega (arith, turns_other side turns, ap length came));
    }

some_same : (f g : ProxyFault) → Some f ≡ Some g → f ≡ g
some_same f g is = cc

-- ---- where a turn leads

moved_by : (side : Side) (p : ProxyPlace) (why : ProxyFault) → side_course side p (Fails why) ≡ Stopped why
moved_by Client p why = refl
moved_by Server p why = refl

-- a piece leads on where there is no fault
waits_on : (side : Side) (p : ProxyPlace) (there : SideEnding) → relay_fault (relay_answer there) ≡ None
    → (q : ProxyPlace) × (side_course side p there ≡ Going q)
waits_on Client p (Waits c rest) none = (_, refl)
waits_on Server p (Waits c rest) none = (_, refl)
waits_on side p (Fails why) none = cc

-- and to the fault else
stops_sent : (side : Side) (p : ProxyPlace) (there : SideEnding)
    → StopsFor (relay_fault (relay_answer there)) (side_course side p there)
stops_sent Client p (Waits c rest) = (_, refl)
stops_sent Server p (Waits c rest) = (_, refl)
stops_sent side p (Fails why) = inr (moved_by side p why)

fails_by : (there : SideEnding) (f : ProxyFault) → relay_fault (relay_answer there) ≡ Some f → there ≡ Fails f
fails_by (Waits c rest) f is = cc
fails_by (Fails why) f is = ap Fails (some_same why f is)

-- which is none of a link
sent_calm : (side o : Side) (c : Context) (bytes : List ℕ) (ms : List RelayMessage) (there : SideEnding)
    → SideTakes side c bytes ms there → relay_fault (relay_answer there) ≢ Some (io_of o)
sent_calm side o c bytes ms there taken is =
    not_io o (io_of o) (takes_calm side c bytes ms there taken (io_of o) (fails_by there (io_of o) is)) refl

waited : (side : Side) (p : ProxyPlace) (c : Context) (rest : List ℕ) (why : ProxyFault)
    → side_course side p (Waits c rest) ≢ Stopped why
waited Client p c rest why is = cc
waited Server p c rest why is = cc

which : (side : Side) (f : ProxyFault) → f ≡ io_of side → (f ≡ io_of Client) ⊎ (f ≡ io_of Server)
which Client f is = inl is
which Server f is = inr is

-- why a turn stops whose write failed, and where the pieces lead then
record Unsent (far : Side) (f : ProxyFault) (course : RelayCourse) : Type 0 where
  why : IsUnsent far f
  stops : StopsFor (Some f) course

unsent_for : (side : Side) (p : ProxyPlace) (far : Side) (why f : ProxyFault) → f ≡ io_of far
    → why ≢ fault.OutOfMemory → Unsent far f (side_course side p (Fails why))
unsent_for side p far why f is known = record {
  why = inl is;
  stops =
      inl (
        which far f is,
        λ stopped. known
            (let same : Stopped why ≡ Stopped fault.OutOfMemory = sym (moved_by side p why)
            ∙ stopped in cc),
      );
}

unsent_by : (side : Side) (p : ProxyPlace) (there : SideEnding) (far : Side)
    → Unsent far (graver (relay_answer there) (io_of far)) (side_course side p there)
unsent_by side p (Waits c rest) far =
    record { why = inl refl; stops = inl (which far (io_of far) refl, waited side p c rest fault.OutOfMemory) }
unsent_by side p (Fails fault.OutOfMemory) far =
    record { why = inr refl; stops = inr (moved_by side p fault.OutOfMemory) }
unsent_by side p (Fails (fault.Client e)) far = unsent_for side p far (fault.Client e) _ refl (λ is. cc)
unsent_by side p (Fails (fault.Server e)) far = unsent_for side p far (fault.Server e) _ refl (λ is. cc)
unsent_by side p (Fails fault.Negotiation) far = unsent_for side p far fault.Negotiation _ refl (λ is. cc)
unsent_by side p (Fails fault.TlsAccepted) far = unsent_for side p far fault.TlsAccepted _ refl (λ is. cc)
unsent_by side p (Fails fault.ClientIo) far = unsent_for side p far fault.ClientIo _ refl (λ is. cc)
unsent_by side p (Fails fault.ServerIo) far = unsent_for side p far fault.ServerIo _ refl (λ is. cc)
unsent_by side p (Fails fault.Stopped) far = unsent_for side p far fault.Stopped _ refl (λ is. cc)

unsent_apart : (side : Side) (f : ProxyFault) → IsUnsent (other side) f → Some f ≢ Some (io_of side)
unsent_apart Client f (inl is) same = let io : f ≡ fault.ClientIo = some_same f fault.ClientIo same in cc
unsent_apart Client f (inr is) same = let io : f ≡ fault.ClientIo = some_same f fault.ClientIo same in cc
unsent_apart Server f (inl is) same = let io : f ≡ fault.ServerIo = some_same f fault.ServerIo same in cc
unsent_apart Server f (inr is) same = let io : f ≡ fault.ServerIo = some_same f fault.ServerIo same in cc

-- ---- what a turn leaves of a run

record Left (start last : Links) (turns : List Side) (events : List SideEvent) (ms : List RelayMessage)
    (course : RelayCourse) (why : Option ProxyFault) : Type 0 where
  proxied : Proxied events ms course
  at_each : (side : Side) → AtLink side start last turns events ms why
  stops : StopsFor why course

-- with nothing behind
left_still : (start last : Links) (turns : List Side) (events : List SideEvent) (ms : List RelayMessage)
    (course : RelayCourse) (why : Option ProxyFault)
    → Left start last turns events ms course why → Left start last turns (events ++ []) (ms ++ []) course why
left_still start last turns events ms course why left =
    subst (λ (l : List SideEvent). Left start last turns l (ms ++ []) course why) (sym (append-nil events))
    (subst (λ (l : List RelayMessage). Left start last turns events l course why) (sym (append-nil ms)) left)

module _ (side : Side) (start mid last : Links) (turns : List Side) (events : List SideEvent)
    (ms : List RelayMessage) (p : ProxyPlace) (half : (o : Side) → Half o start mid turns events ms)
    (proxied : Proxied events ms (Going p)) where
  ended_halves : Gave side mid last [] → Still (other side) mid last → (o : Side)
      → Half o start last (turns ++ side ∷ []) events ms
  ended_halves gave still =
      each side (λ o. Half o start last (turns ++ side ∷ []) events ms)
      (half_ended side start mid last turns events ms (half side) gave)
      (half_idle side start mid last turns events ms (half (other side)) still)

  sent_halves : (xs : List RelayMessage) (piece : List ℕ) (there : SideEnding) → 0 < length piece
      → Gave side mid last piece → SideTakes side p.context (side_buffer side p ++ piece) xs there
      → Got (other side) mid last (side_bytes side xs) → (o : Side)
      → Half o start last (turns ++ side ∷ []) (events ++ (side, piece) ∷ []) (ms ++ xs)
  sent_halves xs piece there some gave taken got =
      each side (λ o. Half o start last (turns ++ side ∷ []) (events ++ (side, piece) ∷ []) (ms ++ xs))
      (half_took side start mid last turns events ms (half side) xs piece gave some
      (takes_foreign side p.context (side_buffer side p ++ piece) xs there taken))
      (half_wrote side start mid last turns events ms (half (other side)) xs piece
      (side_bytes side xs) got.0 got.1 (due_of side xs))

  left_by : (more : List SideEvent) (others : List RelayMessage) (course : RelayCourse) (why : Option ProxyFault)
      → Turn side p mid last more others course why
      → Left start last (turns ++ side ∷ []) (events ++ more) (ms ++ others) course why
  left_by more others course why (unread failed still) =
      left_still start last (turns ++ side ∷ []) events ms (Going p) (Some (io_of side)) (record {
        proxied = proxied;
        at_each =
            each side (λ o. AtLink o start last (turns ++ side ∷ []) events ms (Some (io_of side)))
            (at_unread side start mid last turns (side ∷ []) events ms (half side) failed)
            (at_calm (other side) start last (turns ++ side ∷ []) events ms (Some (io_of side))
            (half_idle side start mid last turns events ms (half (other side)) still)
            (λ is. apart side (some_same (io_of side) (io_of (other side)) is)));
        stops = inl (which side (io_of side) refl, λ is. cc);
      })
  left_by more others course why (ended gave still) =
      left_still start last (turns ++ side ∷ []) events ms (Going p) None (record {
        proxied = proxied;
        at_each =
            λ o. at_calm o start last (turns ++ side ∷ []) events ms None (ended_halves gave still o) (λ is. cc);
        stops = (p, refl);
      })
  left_by more others course why (sent piece xs there some few gave taken got) = record {
    proxied = goes events ms xs p side piece there proxied taken;
    at_each =
        λ o. at_calm o start last (turns ++ side ∷ []) (events ++ (side, piece) ∷ []) (ms ++ xs)
        (relay_fault (relay_answer there)) (sent_halves xs piece there some gave taken got o)
        (sent_calm side o p.context (side_buffer side p ++ piece) xs there taken);
    stops = stops_sent side p there;
  }
  left_by more others course why (unsent piece xs there some few gave taken got) =
      let for = unsent_by side p there (other side) in
      let f = graver (relay_answer there) (io_of (other side)) in
      record {
        proxied = goes events ms xs p side piece there proxied taken;
        at_each =
            each side (λ o. AtLink o start last (turns ++ side ∷ []) (events ++ (side, piece) ∷ []) (ms ++ xs)
            (Some f)) (at_calm side start last (turns ++ side ∷ []) (events ++ (side, piece) ∷ []) (ms ++ xs)
            (Some f) (half_took side start mid last turns events ms (half side) xs piece gave some
            (takes_foreign side p.context (side_buffer side p ++ piece) xs there taken))
            (unsent_apart side f for.why))
            (at_unsent side start mid last turns events ms xs piece f (half (other side)) got for.why);
        stops = for.stops;
      }

  -- both links, and where the pieces lead, behind a turn without a fault
  halves_by : (more : List SideEvent) (others : List RelayMessage) (course : RelayCourse)
      (why : Option ProxyFault)
      → Turn side p mid last more others course why → why ≡ None → (o : Side)
      → Half o start last (turns ++ side ∷ []) (events ++ more) (ms ++ others)
  halves_by more others course why (unread failed still) none = cc
  halves_by more others course why (ended gave still) none =
      subst (λ (l : List SideEvent). (o : Side) → Half o start last (turns ++ side ∷ []) l (ms ++ []))
      (sym (append-nil events))
      (subst (λ (l : List RelayMessage). (o : Side) → Half o start last (turns ++ side ∷ []) events l)
      (sym (append-nil ms)) (ended_halves gave still))
  halves_by more others course why (sent piece xs there some few gave taken got) none =
      sent_halves xs piece there some gave taken got
  halves_by more others course why (unsent piece xs there some few gave taken got) none = cc

  going_by : (more : List SideEvent) (others : List RelayMessage) (course : RelayCourse) (why : Option ProxyFault)
      → Turn side p mid last more others course why → why ≡ None → (q : ProxyPlace) × (course ≡ Going q)
  going_by more others course why (unread failed still) none = cc
  going_by more others course why (ended gave still) none = (p, refl)
  going_by more others course why (sent piece xs there some few gave taken got) none = waits_on side p there none
  going_by more others course why (unsent piece xs there some few gave taken got) none = cc

record_on : (tape tape2 : List ℕ) (ms more : List RelayMessage) → tape ≡ record_of ms
    → tape2 ≡ tape ++ record_of more → tape2 ≡ record_of (ms ++ more)
record_on tape tape2 ms more is on =
    on ∙ ap (λ (l : List ℕ). l ++ record_of more) is ∙ sym (record_append ms more)

is_going : (proxy : Proxy) (course : RelayCourse) (q : ProxyPlace) → course ≡ Going q → IsRelayAt proxy course
    → (course ≡ Going (place_in_proxy proxy)) × ProxyGoesOn proxy
is_going proxy (Going p) q is at = (ap Going at.1, at.0)
is_going proxy (Stopped why) q is at = cc

-- one turn more of a run
module _ (turns : List Side) (side : Side) (old new : Proxy) (tape tape2 : List ℕ) (start mid last : Links)
    (runs : RelayRuns turns old tape start mid) (answer : Result (Unit {0}) ProxyFault)
    (moves : RelayMoves side old new tape tape2 mid last answer) where
  made_on : Turns start (turns ++ side ∷ []) (runs.events ++ moves.events) (runs.messages ++ moves.messages)
      moves.course last (relay_fault answer)
  made_on =
      goes_on turns runs.events moves.events runs.messages moves.messages (place_in_proxy old) side mid last
      moves.course (relay_fault answer) runs.made moves.turn

  left_on : Left start last (turns ++ side ∷ []) (runs.events ++ moves.events) (runs.messages ++ moves.messages)
      moves.course (relay_fault answer)
  left_on =
      left_by side start mid last turns runs.events runs.messages (place_in_proxy old) runs.half runs.proxied
      moves.events moves.messages moves.course (relay_fault answer) moves.turn

  pub ran_on : answer ≡ Ok tt → RelayRuns (turns ++ side ∷ []) new tape2 start last
  ran_on good =
      let none : relay_fault answer ≡ None = ap relay_fault good in
      let going =
      going_by side start mid last turns runs.events runs.messages (place_in_proxy old) runs.half runs.proxied
      moves.events moves.messages moves.course (relay_fault answer) moves.turn none in
      let at = is_going new moves.course going.0 going.1 moves.at in
      record {
        events = runs.events ++ moves.events;
        messages = runs.messages ++ moves.messages;
        made = subst (λ (c : RelayCourse). Turns start (turns ++ side ∷ []) (runs.events ++ moves.events)
            (runs.messages ++ moves.messages) c last None) at.0
            (subst (λ (w : Option ProxyFault). Turns start (turns ++ side ∷ []) (runs.events ++ moves.events)
            (runs.messages ++ moves.messages) moves.course last w) none made_on);
        proxied =
            subst (λ (c : RelayCourse). Proxied (runs.events ++ moves.events) (runs.messages ++ moves.messages) c)
            at.0 left_on.proxied;
        goes_on = at.1;
        record_is = record_on tape tape2 runs.messages moves.messages runs.record_is moves.tape;
        half = halves_by side start mid last turns runs.events runs.messages (place_in_proxy old) runs.half
            runs.proxied moves.events moves.messages moves.course (relay_fault answer) moves.turn none;
      }

  ran_out : (rest : List Side) (f : ProxyFault) → answer ≡ Err f
      → (messages : List RelayMessage) × (tape2 ≡ record_of messages)
      × RelaysMessages (turns ++ side ∷ rest) start last messages (relay_fault answer)
  ran_out rest f bad = (
    runs.messages ++ moves.messages,
    record_on tape tape2 runs.messages moves.messages runs.record_is moves.tape,
    record {
      done = turns ++ side ∷ [];
      left = rest;
      cut = sym (append_assoc turns (side ∷ []) rest);
      all = λ none. let some : relay_fault answer ≡ Some f = ap relay_fault bad in cc;
      events = runs.events ++ moves.events;
      course = moves.course;
      made = made_on;
      proxied = left_on.proxied;
      at_each = left_on.at_each;
      stops = left_on.stops;
    },
  )

  -- in a list of turns
  pub ran_to : (rest all : List Side) → all ≡ turns ++ side ∷ rest → (f : ProxyFault) → answer ≡ Err f
      → (messages : List RelayMessage) × (tape2 ≡ record_of messages)
      × RelaysMessages all start last messages (relay_fault answer)
  ran_to rest all cut f bad =
      subst (λ (l : List Side). (messages : List RelayMessage) × (tape2 ≡ record_of messages) × RelaysMessages l
      start last messages (relay_fault answer)) (sym cut) (ran_out rest f bad)

-- ---- the turn that a function took

gave_by : (side : Side) (from to : Span) (piece : List ℕ) → Took from.old from.new piece → from.now ≡ from.before
    → Gave side (start_by side from to) (end_by side from to) piece
gave_by Client from to piece took calm = (took, calm)
gave_by Server from to piece took calm = (took, calm)

unread_by : (side : Side) (from to : Span) → LinkFails from.old from.new (from.old.reads + 1) from.old.writes
    → Rose from.before from.now → SideReadFails side (start_by side from to) (end_by side from to)
unread_by Client from to failed rose = (failed, rose)
unread_by Server from to failed rose = (failed, rose)

still_by : (side : Side) (from to : Span) → to.new ≡ to.old → to.now ≡ to.before
    → Still (other side) (start_by side from to) (end_by side from to)
still_by Client from to same calm = (same, calm)
still_by Server from to same calm = (same, calm)

writes_by : (far : Side) (old new : Tape) (out : List ℕ) → Delivers far old new out (Ok tt)
    → WritesToSide out old new
writes_by far old new [] d = d
writes_by far old new (b ∷ bs) d = d

got_by : (side far : Side) (from to : Span) (out : List ℕ) → Delivers far to.old to.new out (Ok tt)
    → to.now ≡ to.before → Got (other side) (start_by side from to) (end_by side from to) out
got_by Client far from to out d calm = (writes_by far to.old to.new out d, calm)
got_by Server far from to out d calm = (writes_by far to.old to.new out d, calm)

some_written : (far : Side) (old new : Tape) (out : List ℕ) (e : ProxyFault) → Delivers far old new out (Err e)
    → WroteSome old new out
some_written far old new [] e d = absurd d
some_written far old new (b ∷ bs) e d = d.1

some_due : (far : Side) (old new : Tape) (out : List ℕ) (e : ProxyFault) → Delivers far old new out (Err e)
    → out ≢ []
some_due far old new [] e d is = absurd d
some_due far old new (b ∷ bs) e d is = cc

fault_is : (far : Side) (old new : Tape) (out : List ℕ) (e : ProxyFault) → Delivers far old new out (Err e)
    → e ≡ io_of far
fault_is far old new [] e d = absurd d
fault_is far old new (b ∷ bs) e d = d.0

got_some_by : (side far : Side) (from to : Span) (out : List ℕ) (e : ProxyFault)
    → Delivers far to.old to.new out (Err e) → Rose to.before to.now
    → GotSome (other side) (start_by side from to) (end_by side from to) out
got_some_by Client far from to out e d rose =
    (some_due far to.old to.new out e d, some_written far to.old to.new out e d, rose)
got_some_by Server far from to out e d rose =
    (some_due far to.old to.new out e d, some_written far to.old to.new out e d, rose)

pub turn_unread : (side : Side) (proxy : Proxy) (tape : List ℕ) (from to : Span) (f : ProxyFault)
    → ProxyGoesOn proxy → (f ≡ io_of side) × LinkFails from.old from.new (from.old.reads + 1) from.old.writes
    → Rose from.before from.now → to.new ≡ to.old → to.now ≡ to.before
    → RelayMoves side proxy proxy tape tape (start_by side from to) (end_by side from to) (Err f)
turn_unread side proxy tape from to f on came rose same calm = record {
  events = [];
  messages = [];
  course = Going (place_in_proxy proxy);
  turn = subst (λ g. Turn side (place_in_proxy proxy) (start_by side from to) (end_by side from to) [] []
      (Going (place_in_proxy proxy)) (Some g)) (sym came.0)
      (unread (unread_by side from to came.1 rose) (still_by side from to same calm));
  at = (on, refl);
  tape = sym (append-nil tape);
}

none_taken : (n : ℕ) (l : List ℕ) → n ≡ 0 → take n l ≡ []
none_taken n l is = ap (λ m. take m l) is

pub turn_ended : (side : Side) (proxy : Proxy) (tape : List ℕ) (from to : Span) (n : ℕ) (buffer : List ℕ)
    → ProxyGoesOn proxy → (n ≤ 8192) × (n ≤ length buffer) × Took from.old from.new (take n buffer)
    → from.now ≡ from.before → n ≡ 0 → to.new ≡ to.old → to.now ≡ to.before
    → RelayMoves side proxy proxy tape tape (start_by side from to) (end_by side from to) (Ok tt)
turn_ended side proxy tape from to n buffer on came calm none same still = record {
  events = [];
  messages = [];
  course = Going (place_in_proxy proxy);
  turn = ended (gave_by side from to [] (subst (λ (l : List ℕ). Took from.old from.new l) (none_taken n buffer none)
      came.2) calm) (still_by side from to same still);
  at = (on, refl);
  tape = sym (append-nil tape);
}

module _ (side far : Side) (old new : Proxy) (tape tape2 : List ℕ) (from to : Span) (n : ℕ) (buffer : List ℕ)
    (came : (n ≤ 8192) × (n ≤ length buffer) × Took from.old from.new (take n buffer))
    (calm : from.now ≡ from.before) (some : 0 < n) where
  some_came : 0 < length (take n buffer)
  some_came = omega (arith, length-take n buffer, came.1, some)

  few_came : length (take n buffer) ≤ 8192
  few_came = omega (arith, length-take n buffer, came.0, came.1)

  pub turn_sent : (piece start out out2 : List ℕ) (answer : Result (Unit {0}) ProxyFault) → piece ≡ take n buffer
      → start ≡ [] → Forwards side old new piece start out tape tape2 answer → out2 ≡ out
      → Delivers far to.old to.new out2 (Ok tt) → to.now ≡ to.before
      → RelayMoves side old new tape tape2 (start_by side from to) (end_by side from to) answer
  turn_sent piece start out out2 answer is begun f same d still =
      let due : out2 ≡ side_bytes side f.messages =
      same ∙ f.out ∙ ap (λ (l : List ℕ). l ++ side_bytes side f.messages) begun in
      let got =
      subst (λ (l : List ℕ). Got (other side) (start_by side from to) (end_by side from to) l) due
      (got_by side far from to out2 d still) in
      let taken =
      subst (λ (l : List ℕ). SideTakes side old.context (side_buffer side (place_in_proxy old) ++ l)
      f.messages f.there) is f.takes in
      record {
        events = (side, take n buffer) ∷ [];
        messages = f.messages;
        course = side_course side (place_in_proxy old) f.there;
        turn = subst (λ (r : Result (Unit {0}) ProxyFault). Turn side (place_in_proxy old) (start_by side from to)
            (end_by side from to) ((side, take n buffer) ∷ []) f.messages
            (side_course side (place_in_proxy old) f.there) (relay_fault r)) (sym f.says)
            (sent (take n buffer) f.messages f.there some_came few_came
            (gave_by side from to (take n buffer) came.2 calm) taken got);
        at = f.at;
        tape = f.tape;
      }

  pub turn_unsent : (piece start out out2 : List ℕ) (answer : Result (Unit {0}) ProxyFault) (e f_is : ProxyFault)
      → piece ≡ take n buffer → start ≡ [] → Forwards side old new piece start out tape tape2 answer → out2 ≡ out
      → far ≡ other side → Delivers far to.old to.new out2 (Err e) → Rose to.before to.now
      → f_is ≡ graver answer e
      → RelayMoves side old new tape tape2 (start_by side from to) (end_by side from to) (Err f_is)
  turn_unsent piece start out out2 answer e f_is is begun f same across d rose why =
      let due : out2 ≡ side_bytes side f.messages =
      same ∙ f.out ∙ ap (λ (l : List ℕ). l ++ side_bytes side f.messages) begun in
      let got =
      subst (λ (l : List ℕ). GotSome (other side) (start_by side from to) (end_by side from to) l) due
      (got_some_by side far from to out2 e d rose) in
      let taken =
      subst (λ (l : List ℕ). SideTakes side old.context (side_buffer side (place_in_proxy old) ++ l)
      f.messages f.there) is f.takes in
      let io : e ≡ io_of (other side) = fault_is far to.old to.new out2 e d ∙ ap io_of across in
      let told : f_is ≡ graver (relay_answer f.there) (io_of (other side)) =
      why ∙ ap (λ (r : Result (Unit {0}) ProxyFault). graver r e) f.says
      ∙ ap (graver (relay_answer f.there)) io in
      record {
        events = (side, take n buffer) ∷ [];
        messages = f.messages;
        course = side_course side (place_in_proxy old) f.there;
        turn = subst (λ g. Turn side (place_in_proxy old) (start_by side from to) (end_by side from to)
            ((side, take n buffer) ∷ []) f.messages (side_course side (place_in_proxy old) f.there) (Some g))
            (sym told) (unsent (take n buffer) f.messages f.there some_came few_came
            (gave_by side from to (take n buffer) came.2 calm) taken got);
        at = f.at;
        tape = f.tape;
      }

-- ---- all turns

-- no events lead nowhere
none_yet : (events : List SideEvent) (ms : List RelayMessage) (course : RelayCourse) → Proxied events ms course
    → events ≡ [] → (ms ≡ []) × (course ≡ Going (proxy_place first [] []))
none_yet events ms course nothing is = (refl, refl)
none_yet events ms course (goes es xs more p side piece there proxied taken) is =
    absurd (omega (arith, ap length is, length-append es ((side, piece) ∷ [])))
none_yet events ms course (stays es xs why side piece proxied) is =
    absurd (omega (arith, ap length is, length-append es ((side, piece) ∷ [])))

half_first : (side : Side) (start : Links) → Half side start start [] [] []
half_first side start = record {
  took = sym (append-nil (side_tape side start).took);
  wrote = sym (append-nil (side_tape side start).wrote);
  flushed = λ some_due. absurd (some_due refl);
  calm = refl;
  answers = [];
  ended = sym (append-nil (side_tape side start).ended);
  turns_made = inl (omega arith);
}

runs_at : (proxy : Proxy) (tape : List ℕ) (start : Links) → ProxyGoesOn proxy
    → (ms : List RelayMessage) (course : RelayCourse) → Proxied [] ms course → IsRelayAt proxy course
    → tape ≡ record_of ms → RelayRuns [] proxy tape start start
runs_at proxy tape start on ms course proxied at none =
    let yet = none_yet [] ms course proxied refl in
    let here = is_going proxy course (proxy_place first [] []) yet.1 at in
    let same : Going (proxy_place first [] []) ≡ Going (place_in_proxy proxy) = sym yet.1 ∙ here.0 in
    record {
      events = [];
      messages = [];
      made = subst (λ (c : RelayCourse). Turns start [] [] [] c start None) same begins;
      proxied = subst (λ (c : RelayCourse). Proxied [] [] c) same nothing;
      goes_on = on;
      record_is = none ∙ ap record_of yet.0;
      half = λ side. half_first side start;
    }

pub runs_first : (proxy : Proxy) (tape : List ℕ) (start : Links) → ProxyGoesOn proxy
    → RelayStands proxy [] [] [] [] → tape ≡ [] → RelayRuns [] proxy tape start start
runs_first proxy tape start on s none =
    runs_at proxy tape start on s.messages s.course s.proxied s.at (none ∙ s.recorded)

-- where all turns were made
pub passed_all : (turns : List Side) (proxy : Proxy) (tape : List ℕ) (start last : Links)
    → RelayRuns turns proxy tape start last
    → (messages : List RelayMessage) × (tape ≡ record_of messages)
    × RelaysMessages turns start last messages None
passed_all turns proxy tape start last r = (
  r.messages,
  r.record_is,
  record {
    done = turns;
    left = [];
    cut = sym (append-nil turns);
    all = λ _. refl;
    events = r.events;
    course = Going (place_in_proxy proxy);
    made = r.made;
    proxied = r.proxied;
    at_each = λ side. at_calm side start last turns r.events r.messages None (r.half side) (λ e. cc);
    stops = (place_in_proxy proxy, refl);
  },
)

-- a list, cut before and behind an item
pub cut_at : {X : Type 0} (xs : List X) (i : ℕ) (d : X) → i < length xs
    → xs ≡ take i xs ++ get_or xs i d ∷ drop (i + 1) xs
cut_at {X = X} xs i d lt =
    sym (take-append-drop (i + 1) xs) ∙ ap (λ (l : List X). l ++ drop (i + 1) xs) (take_more xs i d lt)
    ∙ append_assoc (take i xs) (get_or xs i d ∷ []) (drop (i + 1) xs)

-- what is foretold over some calls, and over those behind them
pub foretold_on : (a b c : Option (List ℕ)) (t u v : Tape) (before mid now : ℕ) → IsSome a
    → IsRelayForetold (record { old = t; new = u; was = a; is = b; before = before; now = mid })
    → IsRelayForetold (record { old = u; new = v; was = b; is = c; before = mid; now = now }) → IsSome b
    → IsRelayForetold (record { old = t; new = v; was = a; is = c; before = before; now = now })
foretold_on a b c t u v before mid now some f g known = record {
  foreseen = foreseen_on a b c t u v f.foreseen g.foreseen;
  ends = ends_further b c t u v known f.ends g.foreseen g.ends;
}

pub foretold_first : (a : Option (List ℕ)) (t : Tape) (before now : ℕ)
    → IsRelayForetold (record { old = t; new = t; was = a; is = a; before = before; now = now })
foretold_first a t before now = record { foreseen = foreseen_still a t; ends = ends_still a t }

-- behind a write that failed
pub foretold_unsent : (far : Side) (a b : Option (List ℕ)) (t u : Tape) (before now : ℕ) (out : List ℕ)
    (e : ProxyFault)
    → Keeps a b → Delivers far t u out (Err e)
    → IsRelayForetold (record { old = t; new = u; was = a; is = b; before = before; now = now })
foretold_unsent far a b t u before now out e kept d =
    let still = (some_written far t u out e d).reads_nothing in
    record { foreseen = foreseen_kept a b t u still.took kept; ends = ends_on b t u still.ended }

-- ---- the answer

not_memory : (answer : Result (Unit {0}) ProxyFault) (told : Option ProxyFault) → answer ≢ Err fault.OutOfMemory
    → told ≡ relay_fault answer → told ≢ Some fault.OutOfMemory
not_memory (Ok done) told known is same = cc
not_memory (Err f) told known is same = known (ap Err (some_same f fault.OutOfMemory (sym is ∙ same)))

-- a run's answer, of the turns and of the record
pub told_of : (turns : List Side) (client server : Span) (client_foretells server_foretells : Type 0)
    (tape : List ℕ) (answer : Result (Unit {0}) ProxyFault) (r : Result ProxyRun OutOfMemory)
    → RelayStops turns client server tape answer → (client_foretells → IsRelayForetold client)
    → (server_foretells → IsRelayForetold server) → EndsRelayRun tape answer r
    → RelaysOr turns client server client_foretells server_foretells r
told_of turns client server cf sf tape answer (Ok run) (ms, record_is, made) c s (known, tape_is, same) = record {
  messages = ms;
  passes =
      subst (λ (w : Option ProxyFault). RelaysMessages turns (start_of client server) (relay_links client server)
      ms w) (sym same) made;
  record_is = tape_is ∙ record_is;
  known = not_memory answer run.fault known same;
  client_foretold = c;
  server_foretold = s;
}
told_of turns client server cf sf tape answer (Err e) (ms, record_is, made) c s over =
    record { messages = ms; why = relay_fault answer; passes = made; client_foretold = c; server_foretold = s }
