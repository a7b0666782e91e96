-- From what a proxy stood for to what it stands for.
use Rattle.std.proofs.Common.{◌≡◌, ℕ, true, false, List, [], ◌∷◌, ◌++◌, Result, refl, sym, ap, subst, ◌∙◌}
use Rattle.std.specs.Prelude.{is_err}
use Rattle.std.proofs.lemmas.List.{append-nil}
use Rattle.pgw_proxy.specs.declared.context.Context.{Context}
use Rattle.pgw_proxy.specs.declared.recorded.Side.{Side}
use Rattle.pgw_proxy.specs.declared.recorded.Side.TheVariants.{Client, Server}
use Rattle.pgw_proxy.specs.declared.recorded.Recorded.{Recorded}
use Rattle.pgw_proxy.specs.declared.recorded.Recorded.TheVariants as recorded
use Rattle.pgw_proxy.specs.declared.fault.ProxyFault.{ProxyFault}
use Rattle.pgw_proxy.specs.declared.proxy.Proxy.{Proxy}
use Rattle.pgw_proxy.specs.Context.{first}
use Rattle.pgw_proxy.specs.Record.{RelayMessage, side_of, of_side, side_bytes, record_of}
use Rattle.pgw_proxy.specs.Proxied.{SideEvent, SideEnding, Waits, Fails, SideTakes, waits, fails, breaks, passes, ProxyPlace, proxy_place, side_buffer, RelayCourse, Going, Stopped, side_course, Proxied, begins, goes, stays, relay_answer}
use Rattle.pgw_proxy.specs.Stands.{place_in_proxy, IsRelayAt, RelayStands, told_at, ProxyArrives, Forwards}
use Rattle.pgw_proxy.specs.Turns.{other}
use Rattle.pgw_proxy.specs.Taking.{RelayLeaves, SideRelayed}
use Rattle.pgw_proxy.proofs.MetLaws.{met}
use Rattle.pgw_proxy.proofs.TakingLaws.{joined_append, record_append}

-- ---- messages of one side alone

foreign : (side : Side) (m : Recorded) (g : List ℕ) → side_of m ≡ side → of_side (other side) m g ≡ []
foreign Client (recorded.Frontend m) g is = refl
foreign Client (recorded.Backend m) g is = absurd cc
foreign Server (recorded.Frontend m) g is = absurd cc
foreign Server (recorded.Backend m) g is = refl

pub takes_foreign : (side : Side) (c : Context) (bytes : List ℕ) (ms : List RelayMessage) (there : SideEnding)
    → SideTakes side c bytes ms there → side_bytes (other side) ms ≡ []
takes_foreign side c bytes ms there (waits x y none) = refl
takes_foreign side c bytes ms there (fails x y why bad) = refl
takes_foreign side c bytes ms there (breaks x y) = refl
takes_foreign side c bytes ms there (passes x next y g rest m more z cut found takes) =
    let owner = (met side c bytes rest m next found).owner in
    ap (λ (l : List ℕ). l ++ side_bytes (other side) more) (foreign side m g owner)
    ∙ takes_foreign side next rest more there takes

-- ---- where a proxy is

pub at_start : (proxy : Proxy) → proxy.over ≡ false → proxy.context ≡ first → proxy.client.items ≡ []
    → proxy.server.items ≡ [] → RelayStands proxy [] [] [] []
at_start proxy on is client server = record {
  messages = [];
  course = Going (proxy_place first [] []);
  proxied = begins;
  at = (
    on,
    ap (λ (c : Context). proxy_place c [] []) (sym is)
        ∙ ap (λ (l : List ℕ). proxy_place proxy.context l []) (sym client)
        ∙ ap (λ (l : List ℕ). proxy_place proxy.context proxy.client.items l) (sym server),
  );
  server_got = refl;
  client_got = refl;
  recorded = refl;
}

client_at : (old new : Proxy) (there : SideEnding) (answer : Result (Unit {0}) ProxyFault)
    → new.over ≡ is_err answer → answer ≡ relay_answer there → RelayLeaves new.context new.client.items there
    → new.server ≡ old.server → IsRelayAt new (side_course Client (place_in_proxy old) there)
client_at old new (Waits c rest) answer over says leaves same = (
  over ∙ ap is_err says,
  ap (λ (d : Context). proxy_place d rest old.server.items) (sym leaves.0)
      ∙ ap (λ (l : List ℕ). proxy_place new.context l old.server.items) (sym leaves.1)
      ∙ ap (λ b. proxy_place new.context new.client.items b.items) (sym same),
)
client_at old new (Fails why) answer over says leaves same = over ∙ ap is_err says

server_at : (old new : Proxy) (there : SideEnding) (answer : Result (Unit {0}) ProxyFault)
    → new.over ≡ is_err answer → answer ≡ relay_answer there → RelayLeaves new.context new.server.items there
    → new.client ≡ old.client → IsRelayAt new (side_course Server (place_in_proxy old) there)
server_at old new (Waits c rest) answer over says leaves same = (
  over ∙ ap is_err says,
  ap (λ (d : Context). proxy_place d old.client.items rest) (sym leaves.0)
      ∙ ap (λ (l : List ℕ). proxy_place new.context old.client.items l) (sym leaves.1)
      ∙ ap (λ b. proxy_place new.context b.items new.server.items) (sym same),
)
server_at old new (Fails why) answer over says leaves same = over ∙ ap is_err says

pub client_forwards : (old new : Proxy) (piece out_old out_new tape_old tape_new : List ℕ)
    (answer : Result (Unit {0}) ProxyFault)
    → new.over ≡ is_err answer → new.server ≡ old.server
    → SideRelayed Client old.context (old.client.items ++ piece) new.context new.client.items out_old out_new
    tape_old tape_new answer
    → Forwards Client old new piece out_old out_new tape_old tape_new answer
client_forwards old new piece out_old out_new tape_old tape_new answer over same ran = record {
  messages = ran.messages;
  there = ran.there;
  takes = ran.takes;
  at = client_at old new ran.there answer over ran.says ran.leaves same;
  out = ran.out;
  tape = ran.tape;
  says = ran.says;
}

pub server_forwards : (old new : Proxy) (piece out_old out_new tape_old tape_new : List ℕ)
    (answer : Result (Unit {0}) ProxyFault)
    → new.over ≡ is_err answer → new.client ≡ old.client
    → SideRelayed Server old.context (old.server.items ++ piece) new.context new.server.items out_old out_new
    tape_old tape_new answer
    → Forwards Server old new piece out_old out_new tape_old tape_new answer
server_forwards old new piece out_old out_new tape_old tape_new answer over same ran = record {
  messages = ran.messages;
  there = ran.there;
  takes = ran.takes;
  at = server_at old new ran.there answer over ran.says ran.leaves same;
  out = ran.out;
  tape = ran.tape;
  says = ran.says;
}

-- ---- what it stands for

moved_says : (side : Side) (p : ProxyPlace) (there : SideEnding) (answer : Result (Unit {0}) ProxyFault)
    → answer ≡ relay_answer there → answer ≡ told_at (side_course side p there)
moved_says Client p (Waits c rest) answer is = is
moved_says Server p (Waits c rest) answer is = is
moved_says Client p (Fails why) answer is = is
moved_says Server p (Fails why) answer is = is

-- a proxy that stood there has gone on
record Went (side : Side) (new : Proxy) (events : List SideEvent) (ms more : List RelayMessage) (piece : List ℕ)
    (answer : Result (Unit {0}) ProxyFault) : Type 0 where
  course : RelayCourse
  proxied : Proxied (events ++ (side, piece) ∷ []) (ms ++ more) course
  at : IsRelayAt new course
  says : answer ≡ told_at course

went : (side : Side) (old new : Proxy) (events : List SideEvent) (ms more : List RelayMessage) (piece : List ℕ)
    (there : SideEnding) (answer : Result (Unit {0}) ProxyFault) (course : RelayCourse)
    → old.over ≡ false → Proxied events ms course → IsRelayAt old course
    → SideTakes side old.context (side_buffer side (place_in_proxy old) ++ piece) more there
    → IsRelayAt new (side_course side (place_in_proxy old) there) → answer ≡ relay_answer there
    → Went side new events ms more piece answer
went side old new events ms more piece there answer (Stopped why) on proxied at takes is says = absurd cc
went side old new events ms more piece there answer (Going p) on proxied at takes is says =
    let from : Proxied events ms (Going (place_in_proxy old)) =
    subst (λ (q : ProxyPlace). Proxied events ms (Going q)) at.1 proxied in
    record {
      course = side_course side (place_in_proxy old) there;
      proxied = goes events ms more (place_in_proxy old) side piece there from takes;
      at = is;
      says = moved_says side (place_in_proxy old) there answer says;
    }

pub client_stands : (old new : Proxy) (piece out_old out_new tape_old tape_new : List ℕ)
    (answer : Result (Unit {0}) ProxyFault) (events : List SideEvent) (sent got tape : List ℕ)
    → old.over ≡ false
    → Forwards Client old new piece out_old out_new tape_old tape_new answer
    → RelayStands old events sent got tape
    → (more : List ℕ) × (part : List ℕ) × (out_new ≡ out_old ++ more) × (tape_new ≡ tape_old ++ part)
    × ProxyArrives old new (events ++ (Client, piece) ∷ []) (sent ++ more) got (tape ++ part) answer
client_stands old new piece out_old out_new tape_old tape_new answer events sent got tape on f s =
    let w =
    went Client old new events s.messages f.messages piece f.there answer s.course on s.proxied s.at f.takes
    f.at f.says in
    let none =
    takes_foreign Client old.context (side_buffer Client (place_in_proxy old) ++ piece) f.messages f.there
    f.takes in (
      side_bytes Client f.messages,
      record_of f.messages,
      f.out,
      f.tape,
      record {
        stands = record {
          messages = s.messages ++ f.messages;
          course = w.course;
          proxied = w.proxied;
          at = w.at;
          server_got =
              ap (λ (l : List ℕ). l ++ side_bytes Client f.messages) s.server_got
              ∙ sym (joined_append Client s.messages f.messages);
          client_got =
              s.client_got ∙ sym (append-nil (side_bytes Server s.messages))
              ∙ ap (λ (l : List ℕ). side_bytes Server s.messages ++ l) (sym none)
              ∙ sym (joined_append Server s.messages f.messages);
          recorded =
              ap (λ (l : List ℕ). l ++ record_of f.messages) s.recorded
              ∙ sym (record_append s.messages f.messages);
        };
        says = λ going. w.says;
      },
    )

pub server_stands : (old new : Proxy) (piece out_old out_new tape_old tape_new : List ℕ)
    (answer : Result (Unit {0}) ProxyFault) (events : List SideEvent) (sent got tape : List ℕ)
    → old.over ≡ false
    → Forwards Server old new piece out_old out_new tape_old tape_new answer
    → RelayStands old events sent got tape
    → (more : List ℕ) × (part : List ℕ) × (out_new ≡ out_old ++ more) × (tape_new ≡ tape_old ++ part)
    × ProxyArrives old new (events ++ (Server, piece) ∷ []) sent (got ++ more) (tape ++ part) answer
server_stands old new piece out_old out_new tape_old tape_new answer events sent got tape on f s =
    let w =
    went Server old new events s.messages f.messages piece f.there answer s.course on s.proxied s.at f.takes
    f.at f.says in
    let none =
    takes_foreign Server old.context (side_buffer Server (place_in_proxy old) ++ piece) f.messages f.there
    f.takes in (
      side_bytes Server f.messages,
      record_of f.messages,
      f.out,
      f.tape,
      record {
        stands = record {
          messages = s.messages ++ f.messages;
          course = w.course;
          proxied = w.proxied;
          at = w.at;
          server_got =
              s.server_got ∙ sym (append-nil (side_bytes Client s.messages))
              ∙ ap (λ (l : List ℕ). side_bytes Client s.messages ++ l) (sym none)
              ∙ sym (joined_append Client s.messages f.messages);
          client_got =
              ap (λ (l : List ℕ). l ++ side_bytes Server f.messages) s.client_got
              ∙ sym (joined_append Server s.messages f.messages);
          recorded =
              ap (λ (l : List ℕ). l ++ record_of f.messages) s.recorded
              ∙ sym (record_append s.messages f.messages);
        };
        says = λ going. w.says;
      },
    )

-- behind a fault it stands for all that comes
still_at : (proxy : Proxy) (events : List SideEvent) (ms : List RelayMessage) (side : Side) (piece : List ℕ)
    (course : RelayCourse)
    → proxy.over ≡ true → Proxied events ms course → IsRelayAt proxy course
    → Proxied (events ++ (side, piece) ∷ []) ms course
still_at proxy events ms side piece (Going p) over proxied at = let h = at.0 in absurd cc
still_at proxy events ms side piece (Stopped why) over proxied at = stays events ms why side piece proxied

pub stands_still : (proxy : Proxy) (side : Side) (piece sent got tape : List ℕ) (events : List SideEvent)
    → proxy.over ≡ true → RelayStands proxy events sent got tape
    → RelayStands proxy (events ++ (side, piece) ∷ []) sent got tape
stands_still proxy side piece sent got tape events over s = record {
  messages = s.messages;
  course = s.course;
  proxied = still_at proxy events s.messages side piece s.course over s.proxied s.at;
  at = s.at;
  server_got = s.server_got;
  client_got = s.client_got;
  recorded = s.recorded;
}

pub arrives_still : (proxy : Proxy) (side : Side) (piece sent got tape : List ℕ) (events : List SideEvent)
    (answer : Result (Unit {0}) ProxyFault)
    → proxy.over ≡ true → RelayStands proxy events sent got tape
    → ProxyArrives proxy proxy (events ++ (side, piece) ∷ []) sent got tape answer
arrives_still proxy side piece sent got tape events answer over s =
    record { stands = stands_still proxy side piece sent got tape events over s; says = λ going. absurd cc }

pub client_still : (proxy : Proxy) (piece out tape : List ℕ) (answer : Result (Unit {0}) ProxyFault)
    (events : List SideEvent) (sent got recorded : List ℕ)
    → proxy.over ≡ true → RelayStands proxy events sent got recorded
    → (more : List ℕ) × (part : List ℕ) × (out ≡ out ++ more) × (tape ≡ tape ++ part)
    × ProxyArrives proxy proxy (events ++ (Client, piece) ∷ []) (sent ++ more) got (recorded ++ part) answer
client_still proxy piece out tape answer events sent got recorded over s =
    let still = arrives_still proxy Client piece sent got recorded events answer over s in
    let all = events ++ (Client, piece) ∷ [] in (
      [],
      [],
      sym (append-nil out),
      sym (append-nil tape),
      subst
          (λ (l : List ℕ). ProxyArrives proxy proxy all l got (recorded ++ []) answer) (sym (append-nil sent))
          (subst (λ (l : List ℕ). ProxyArrives proxy proxy all sent got l answer) (sym (append-nil recorded))
          still),
    )

pub server_still : (proxy : Proxy) (piece out tape : List ℕ) (answer : Result (Unit {0}) ProxyFault)
    (events : List SideEvent) (sent got recorded : List ℕ)
    → proxy.over ≡ true → RelayStands proxy events sent got recorded
    → (more : List ℕ) × (part : List ℕ) × (out ≡ out ++ more) × (tape ≡ tape ++ part)
    × ProxyArrives proxy proxy (events ++ (Server, piece) ∷ []) sent (got ++ more) (recorded ++ part) answer
server_still proxy piece out tape answer events sent got recorded over s =
    let still = arrives_still proxy Server piece sent got recorded events answer over s in
    let all = events ++ (Server, piece) ∷ [] in (
      [],
      [],
      sym (append-nil out),
      sym (append-nil tape),
      subst
          (λ (l : List ℕ). ProxyArrives proxy proxy all sent l (recorded ++ []) answer) (sym (append-nil got))
          (subst (λ (l : List ℕ). ProxyArrives proxy proxy all sent got l answer) (sym (append-nil recorded))
          still),
    )
