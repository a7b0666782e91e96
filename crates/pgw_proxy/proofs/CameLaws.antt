-- What came of a side is what was passed on of it, and what waits.
use Rattle.std.proofs.Common.{◌≡◌, ℕ, List, [], ◌∷◌, ◌++◌, refl, sym, ap, ◌∙◌, append_assoc}
use Rattle.std.proofs.lemmas.List.{append-nil}
use Rattle.std.proofs.lemmas.Grind.{flat_map-append}
use Rattle.pgw_proxy.specs.declared.context.Context.{Context}
use Rattle.pgw_proxy.specs.declared.recorded.Side.{Side}
use Rattle.pgw_proxy.specs.declared.recorded.Side.TheVariants.{Client, Server}
use Rattle.pgw_proxy.specs.Record.{RelayMessage, passed, side_bytes}
use Rattle.pgw_proxy.specs.Proxied.{SideEvent, SideEnding, Waits, Fails, SideTakes, waits, fails, breaks, passes, ProxyPlace, RelayCourse, Going, Stopped, side_course, Proxied, begins, goes, stays, piece_of, side_input}
use Rattle.pgw_proxy.proofs.MetLaws.{met}
use Rattle.pgw_proxy.proofs.TakingLaws.{joined_append, joined_one}
use Rattle.pgw_proxy.proofs.StandsLaws.{takes_foreign}

abbrev IsRest : List ℕ → SideEnding → Type 0
IsRest rest (Waits c left) = rest ≡ left
IsRest rest (Fails why) = Unit {0}

takes_came : (side : Side) (c : Context) (bytes : List ℕ) (ms : List RelayMessage) (there : SideEnding)
    → SideTakes side c bytes ms there → (rest : List ℕ) × (bytes ≡ side_bytes side ms ++ rest) × IsRest rest there
takes_came side c bytes ms there (waits x y none) = (bytes, refl, refl)
takes_came side c bytes ms there (fails x y why bad) = (bytes, refl, tt)
takes_came side c bytes ms there (breaks x y) = (bytes, refl, tt)
takes_came side c bytes ms there (passes x next y g left m more z cut found takes) =
    let on = takes_came side next left more there takes in
    let owner = (met side c bytes left m next found).owner in
    let own : side_bytes side (passed m g ∷ more) ≡ g ++ side_bytes side more =
    joined_append side (passed m g ∷ []) more
    ∙ ap (λ (l : List ℕ). l ++ side_bytes side more) (joined_one side m g owner) in (
      on.0,
      cut ∙ ap (λ (l : List ℕ). g ++ l) on.1 ∙ sym (append_assoc g (side_bytes side more) on.0)
          ∙ ap (λ (l : List ℕ). l ++ on.0) (sym own),
      on.2,
    )

abbrev IsLeft : List ℕ → List ℕ → RelayCourse → Type 0
IsLeft client server (Going p) = (client ≡ p.client) × (server ≡ p.server)
IsLeft client server (Stopped why) = Unit {0}

record Came (events : List SideEvent) (ms : List RelayMessage) (course : RelayCourse) : Type 0 where
  client : List ℕ
  server : List ℕ
  of_client : side_input Client events ≡ side_bytes Client ms ++ client
  of_server : side_input Server events ≡ side_bytes Server ms ++ server
  left : IsLeft client server course

given_append : (side : Side) (xs ys : List SideEvent)
    → side_input side (xs ++ ys) ≡ side_input side xs ++ side_input side ys
given_append side xs ys = flat_map-append (piece_of side) xs ys

-- a piece of the side itself
own_piece : (side : Side) (before piece waits_now all rest came : List ℕ) (ms more : List RelayMessage)
    → before ≡ side_bytes side ms ++ waits_now → waits_now ++ piece ≡ side_bytes side more ++ rest
    → came ≡ before ++ piece → came ≡ side_bytes side (ms ++ more) ++ rest
own_piece side before piece waits_now all rest came ms more was is now =
    now ∙ ap (λ (l : List ℕ). l ++ piece) was ∙ append_assoc (side_bytes side ms) waits_now piece
    ∙ ap (λ (l : List ℕ). side_bytes side ms ++ l) is
    ∙ sym (append_assoc (side_bytes side ms) (side_bytes side more) rest)
    ∙ ap (λ (l : List ℕ). l ++ rest) (sym (joined_append side ms more))

-- a piece of the other side
other_piece : (side : Side) (before waits_now came : List ℕ) (ms more : List RelayMessage)
    → before ≡ side_bytes side ms ++ waits_now → side_bytes side more ≡ [] → came ≡ before ++ []
    → came ≡ side_bytes side (ms ++ more) ++ waits_now
other_piece side before waits_now came ms more was none now =
    now ∙ append-nil before ∙ was
    ∙ ap (λ (l : List ℕ). l ++ waits_now) (sym (joined_append side ms more
    ∙ ap (λ (l : List ℕ). side_bytes side ms ++ l) none ∙ append-nil (side_bytes side ms)))

client_left : (p : ProxyPlace) (rest client server : List ℕ) (there : SideEnding) → IsRest rest there
    → server ≡ p.server → IsLeft rest server (side_course Client p there)
client_left p rest client server (Waits c left) is same = (is, same)
client_left p rest client server (Fails why) is same = tt

server_left : (p : ProxyPlace) (rest client server : List ℕ) (there : SideEnding) → IsRest rest there
    → client ≡ p.client → IsLeft client rest (side_course Server p there)
server_left p rest client server (Waits c left) is same = (same, is)
server_left p rest client server (Fails why) is same = tt

came : (events : List SideEvent) (ms : List RelayMessage) (course : RelayCourse) → Proxied events ms course
    → Came events ms course
came events ms course begins =
    record { client = []; server = []; of_client = refl; of_server = refl; left = (refl, refl) }
came events ms course (goes es xs more p Client piece there proxied takes) =
    let h = came es xs (Going p) proxied in
    let t = takes_came Client p.context (p.client ++ piece) more there takes in
    let e : SideEvent = (Client, piece) in
    record {
      client = t.0;
      server = h.server;
      of_client =
          own_piece Client (side_input Client es) piece h.client [] t.0 (side_input Client (es ++ e ∷ [])) xs more
          h.of_client (ap (λ (l : List ℕ). l ++ piece) h.left.0
          ∙ t.1) (given_append Client es (e ∷ [])
          ∙ ap (λ (l : List ℕ). side_input Client es ++ l) (append-nil piece));
      of_server =
          other_piece Server (side_input Server es) h.server (side_input Server (es ++ e ∷ [])) xs more
          h.of_server (takes_foreign Client p.context (p.client ++ piece) more there takes)
          (given_append Server es (e ∷ []));
      left = client_left p t.0 [] h.server there t.2 h.left.1;
    }
came events ms course (goes es xs more p Server piece there proxied takes) =
    let h = came es xs (Going p) proxied in
    let t = takes_came Server p.context (p.server ++ piece) more there takes in
    let e : SideEvent = (Server, piece) in
    record {
      client = h.client;
      server = t.0;
      of_client =
          other_piece Client (side_input Client es) h.client (side_input Client (es ++ e ∷ [])) xs more
          h.of_client (takes_foreign Server p.context (p.server ++ piece) more there takes)
          (given_append Client es (e ∷ []));
      of_server =
          own_piece Server (side_input Server es) piece h.server [] t.0 (side_input Server (es ++ e ∷ [])) xs more
          h.of_server (ap (λ (l : List ℕ). l ++ piece) h.left.1
          ∙ t.1) (given_append Server es (e ∷ [])
          ∙ ap (λ (l : List ℕ). side_input Server es ++ l) (append-nil piece));
      left = server_left p t.0 h.client [] there t.2 h.left.0;
    }
came events ms course (stays es xs why side piece proxied) =
    let h = came es xs (Stopped why) proxied in
    let e : SideEvent = (side, piece) in
    record {
      client = h.client ++ side_input Client (e ∷ []);
      server = h.server ++ side_input Server (e ∷ []);
      of_client =
          given_append Client es (e ∷ []) ∙ ap (λ (l : List ℕ). l ++ side_input Client (e ∷ [])) h.of_client
          ∙ append_assoc (side_bytes Client xs) h.client (side_input Client (e ∷ []));
      of_server =
          given_append Server es (e ∷ []) ∙ ap (λ (l : List ℕ). l ++ side_input Server (e ∷ [])) h.of_server
          ∙ append_assoc (side_bytes Server xs) h.server (side_input Server (e ∷ []));
      left = tt;
    }

pub passed_on_came : (events : List SideEvent) (ms : List RelayMessage) (course : RelayCourse)
    → Proxied events ms course → (side : Side)
    → (more : List ℕ) × (side_input side events ≡ side_bytes side ms ++ more)
passed_on_came events ms course proxied Client = let h = came events ms course proxied in (h.client, h.of_client)
passed_on_came events ms course proxied Server = let h = came events ms course proxied in (h.server, h.of_server)
