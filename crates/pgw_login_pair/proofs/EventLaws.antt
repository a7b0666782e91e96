-- What an event does.
use Rattle.std.specs.Prelude.{OnOk}
use Rattle.std.proofs.Common.{◌≡◌, ℕ, zero, suc, get_or, drop, add-one, Result, Ok, Err, ◌+◌, ◌<◌, ◌≤◌, List, [], ◌∷◌, ◌++◌, length, take, refl, sym, ap, subst, ◌∙◌, arith}
use Rattle.atomic_table.specs.Seated.{TableId}
use Rattle.pgw_machine.specs.Course.{Waits, sent_of}
use Rattle.pgw_machine.specs.Play.{Continues}
use Rattle.pgw_machine.specs.declared.event.Event.{Event}
use Rattle.pgw_machine.specs.declared.event.Event.TheVariants.{ToServer, ToClient}
use Rattle.pgw_dialogue.specs.Answers.{answer_to}
use Rattle.pgw_login_server.specs.Server.{serving}
use Rattle.pgw_login_server.specs.Taken.{Acts}
use Rattle.pgw_login_pair.specs.declared.client_side.ClientSide.{ClientSide}
use Rattle.pgw_login_pair.specs.declared.server_side.ServerSide.{ServerSide}
use Rattle.pgw_login_pair.specs.declared.parties.PairInput.{PairInput}
use Rattle.pgw_login_pair.specs.Server.{Means}
use Rattle.pgw_login_pair.specs.Sides.{AreActs, AreIn, ClientAt, ClientTook, ServerAt, ServerTook}
use Rattle.pgw_login_pair.specs.World.{World, Happens, PartiesMeet, client_input, first_world, first_stage, handed, most, party_bytes, talk, taken_then, to_the_client, to_the_server, unless_over}
use Rattle.pgw_login_pair.proofs.Meets.{Grows, first_meets, goes_grows, runs_meet, same_front}
use Rattle.pgw_login_pair.proofs.Moves.{continues_as}
use Rattle.pgw_login_pair.proofs.ServerLaws.{at_sent}

module _ (generator : TableId) (input : PairInput) where
  pub meets_then : (w there : World) (e : Event) → Happens input w e there → PartiesMeet generator input w
      → PartiesMeet generator input there
  meets_then w there e happens meets = runs_meet generator input (e ∷ []) w there (there, happens, refl) meets

  module _ {H : Type 0} where
    -- where they are at first
    pub at_first : (client : ClientSide) (server : ServerSide H) → client.taken ≡ 0 → server.taken ≡ 0
        → (server.out).items ≡ [] → ClientAt input client []
        → ServerAt server (Waits (first_stage generator input) [] [])
        → AreIn generator input client server (first_world generator input)
    at_first client server none also puts at is_at = record {
      meets = first_meets generator input;
      to_server = at.sent;
      to_client = puts;
      by_client = none;
      by_server = also;
      client_at = at;
      server_at = is_at;
    }

    -- what the client's call asks for
    pub client_long : (client : ClientSide) (server : ServerSide H) (w : World) (bytes : List ℕ)
        → bytes ≡ (server.out).items → AreIn generator input client server w → client.taken ≤ length bytes
    client_long client server w bytes is are =
        omega (arith, are.by_client, ap length (is ∙ are.to_client), (are.meets).by_client)

    pub client_here : (client : ClientSide) (server : ServerSide H) (w : World) (bytes : List ℕ)
        → bytes ≡ (server.out).items → AreIn generator input client server w
        → ClientAt input client (take client.taken bytes)
    client_here client server w bytes is are =
        subst (ClientAt input client) (ap (λ n. take n w.to_client) (sym are.by_client)
        ∙ ap (take client.taken) (sym (is ∙ are.to_client))) are.client_at

    pub client_event : (client after : ClientSide) (server : ServerSide H) (w : World) (bytes : List ℕ)
        (count : ℕ) (event : Event)
        → bytes ≡ (server.out).items → event ≡ ToClient count → AreIn generator input client server w
        → ClientTook input client after bytes count
        → (there : World) × Happens input w event there × AreIn generator input after server there
    client_event client after server w bytes count event is same_event are took =
        let there : World =
        record w {
          by_client = taken_then input w count;
          to_server = sent_of
              (talk input (take (taken_then input w count) w.to_client));
        } in
        let happens : Happens input w (ToClient count) there = to_the_client count in
        let f : ℕ → List ℕ → ℕ =
        λ n l. n + length (handed (answer_to (client_input input) most (take n l)) (party_bytes count n l)) in
        let to_client : bytes ≡ w.to_client = is ∙ are.to_client in
        let taken : after.taken ≡ taken_then input w count =
        took.taken ∙ ap (λ n. f n bytes) are.by_client ∙ ap (f w.by_client) to_client in
        let now : take after.taken bytes ≡ take (taken_then input w count) w.to_client =
        ap (λ n. take n bytes) taken ∙ ap (take (taken_then input w count)) to_client in (
          there,
          subst (λ e. Happens input w e there) (sym same_event) happens,
          record {
            meets = meets_then w there (ToClient count) happens are.meets;
            to_server = (took.is_at).sent ∙ ap (λ (l : List ℕ). sent_of (talk input l)) now;
            to_client = are.to_client;
            by_client = taken;
            by_server = are.by_server;
            client_at = subst (ClientAt input after) now took.is_at;
            server_at = are.server_at;
          },
        )

    pub server_event : (means : Acts) → AreActs means (Means input)
        → (client : ClientSide) (server after : ServerSide H) (w : World) (bytes : List ℕ) (count : ℕ)
        (event : Event)
        → bytes ≡ (client.out).items → event ≡ ToServer count → AreIn generator input client server w
        → ServerTook means server after bytes count w.server
        → (there : World) × Happens input w event there × AreIn generator input client after there
    server_event means acts client server after w bytes count event is same_event are took =
        let piece = unless_over w.server (party_bytes count w.by_server w.to_server) in
        let there : World =
        record w {
          by_server = w.by_server + length piece;
          server = took.there;
          to_client = sent_of took.there;
        } in
        let g : ℕ → List ℕ → List ℕ = λ n l. unless_over w.server (party_bytes count n l) in
        let same : g server.taken bytes ≡ piece =
        ap (λ n. g n bytes) are.by_server ∙ ap (g w.by_server) (is ∙ are.to_server) in
        let goes : Continues (serving (Means input)) w.server piece took.there =
        subst (λ (l : List ℕ). Continues (serving (Means input)) w.server l took.there) same
        (continues_as means (Means input) acts w.server (g server.taken bytes) took.there took.goes) in
        let happens : Happens input w (ToServer count) there = to_the_server count took.there goes in
        let grows = goes_grows (serving (Means input)) w.server piece took.there goes in
        let grown : Grows w.to_client (sent_of took.there) =
        (grows.0, grows.1 ∙ ap (λ (l : List ℕ). l ++ grows.0) (sym (are.meets).served)) in
        let front = same_front w.by_client w.to_client (sent_of took.there) grown (are.meets).by_client in (
          there,
          subst (λ e. Happens input w e there) (sym same_event) happens,
          record {
            meets = meets_then w there (ToServer count) happens are.meets;
            to_server = are.to_server;
            to_client = at_sent after.core (after.out).items took.there (took.is_at).is_at;
            by_client = are.by_client;
            by_server =
                took.taken ∙ ap (λ n. n + length (g server.taken bytes)) are.by_server
                ∙ ap (λ (l : List ℕ). w.by_server + length l) same;
            client_at = subst (ClientAt input client) (sym front) are.client_at;
            server_at = took.is_at;
          },
        )

pub on_ok : {T E : Type 0} {A B : Type 0} (r : Result T E) → (A → B) → OnOk r A → OnOk r B
on_ok (Ok x) f h = f h
on_ok (Err e) f h = h

-- the next event and those behind it
next_and_more : (events : List Event) (i : ℕ) (other : Event) → i < length events
    → drop i events ≡ get_or events i other ∷ drop (suc i) events
next_and_more [] i other within = absurd (omega (arith, within))
next_and_more (e ∷ events) zero other within = refl
next_and_more (e ∷ events) (suc i) other within = next_and_more events i other (omega (arith, within))

pub next_and_rest : (events : List Event) (i : ℕ) (other : Event) → i < length events
    → drop i events ≡ get_or events i other ∷ drop (i + 1) events
next_and_rest events i other within =
    next_and_more events i other within ∙ ap (λ n. get_or events i other ∷ drop n events) (sym (add-one i))

pub none_left : (events : List Event) (i : ℕ) → length events ≤ i → drop i events ≡ []
none_left [] zero past = refl
none_left [] (suc i) past = refl
none_left (e ∷ events) zero past = absurd (omega (arith, past))
none_left (e ∷ events) (suc i) past = none_left events i (omega (arith, past))
