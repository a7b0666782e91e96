-- What a client stands for behind a call, pair by pair.
use Rattle.std.proofs.Common.{◌≡◌, ℕ, zero, suc, ◌+◌, ◌-◌, List, ◌++◌, length, take, drop, Bool, true, false, Option, Some, None, Result, Ok, Err, inl, inr, arith, refl, ◌∙◌, ap, sym, subst, append_assoc, take-append-drop}
use Rattle.pgw_backend.specs.Front.{front, More as Wants}
use Rattle.pgw_backend.specs.declared.client_error.PgWireClientError.{PgWireClientError as ClientError}
use Rattle.pgw_backend.specs.declared.client_error.PgWireClientError.TheVariants as client
use Rattle.pgw_machine.specs.Course.{Begins, Over, Waits}
use Rattle.pgw_session.specs.declared.notes.Notes.{Notes}
use Rattle.pgw_session.specs.declared.types.Request.{Request}
use Rattle.pgw_session.specs.Input.{Input}
use Rattle.pgw_session.specs.Machine.{End, error_of, turn_by}
use Rattle.pgw_session.specs.Notes.{notes_book}
use Rattle.pgw_session.specs.Talk.{Ending, Talk, conversation, whole_talk}
use Rattle.pgw_session.proofs.ReadingLaws.{reads_more}
use Rattle.pgw_session.proofs.Whole.{conversation_completes}
use Rattle.pgw_dialogue.specs.declared.phase.DialoguePhase.{DialoguePhase}
use Rattle.pgw_dialogue.specs.Answers.{TakeCause, answer_at, answer_behind, ending_answer, taken_of, waiting_answer}
use Rattle.pgw_dialogue.specs.Dialogue.{AnswersDialogue}
use Rattle.pgw_dialogue.specs.Machine.{runs}
use Rattle.pgw_dialogue.proofs.AnswerLaws.{done_tells, ended_as, waiting_tells}
use Rattle.pgw_dialogue.proofs.DialogueLaws.{taken_below}
use Rattle.pgw_dialogue.proofs.WireLaws.{memory_or}
use Rattle.pgw_client_push.specs.declared.client.PushClient.{PushClient}
use Rattle.pgw_client_push.specs.declared.state.State.{State}
use Rattle.pgw_client_push.specs.declared.state.State.TheVariants as state
use Rattle.pgw_client_push.specs.Serving.{Serves, PushStopsAtFront}
use Rattle.pgw_client_push.specs.Standing.{PushWaits, NotesAt, StandsFor, PushStandsIn}
use Rattle.pgw_client_push.specs.State.{push_state_behind}
use Rattle.pgw_client_push.proofs.StandingLaws.{closes, comes_begins, comes_on, comes_over, comes_waits, latest}

-- a client that goes by this input, with so many bytes given
pub record Fits (input : Input) (limit : ℕ) (c : PushClient) (given : List ℕ) : Type 0 where
  pub config : c.config ≡ input.config
  pub nonce : c.nonce ≡ input.nonce
  pub room : length given + c.room ≡ limit

pub stands_as : (input : Input) (limit : ℕ) (c : PushClient) (given put : List ℕ) (s : State)
    → Fits input limit c given → c.state ≡ s → PushStandsIn s c input limit given put
    → StandsFor input limit c given put
stands_as input limit c given put s fits is h =
    record {
      config = fits.config;
      nonce = fits.nonce;
      room = fits.room;
      stands = subst
          (λ x. PushStandsIn x c input limit given put) (sym is) h;
    }

pub stands_in : (input : Input) (limit : ℕ) (c : PushClient) (given put : List ℕ) (s : State) → c.state ≡ s
    → StandsFor input limit c given put → PushStandsIn s c input limit given put
stands_in input limit c given put s is h = subst (λ x. PushStandsIn x c input limit given put) is h.stands

-- no more is given than may be taken
below : (input : Input) (limit : ℕ) (c : PushClient) (given : List ℕ) → Fits input limit c given
    → taken_of limit given ≡ given
below input limit c given fits = taken_below limit given (omega (arith, fits.room))

abbrev Pair : Input → ℕ → PushClient → List ℕ → List ℕ → Result DialoguePhase ClientError → Type 0
Pair input limit c given put result =
    StandsFor input limit c given put × AnswersDialogue input limit given put result

-- ---- refused

refused_state : (e : ClientError) → (e ≡ client.OutOfMemory → ⊥) → push_state_behind (Err e) ≡ state.Refused
refused_state client.OutOfMemory ne = absurd (ne refl)
refused_state e ne = refl

starved_state : (e : ClientError) → e ≡ client.OutOfMemory → push_state_behind (Err e) ≡ state.Starved
starved_state e is = ap (λ x. push_state_behind (Err x)) is

-- memory was wanting
pub starved_pair : (input : Input) (limit : ℕ) (c : PushClient) (given put : List ℕ) (e : ClientError)
    → Fits input limit c given → e ≡ client.OutOfMemory → c.state ≡ push_state_behind (Err e)
    → Begins (conversation input given) put → Pair input limit c given put (Err e)
starved_pair input limit c given put e fits is to begins = (
  stands_as input limit c given put state.Starved fits (to ∙ starved_state e is) begins,
  record { answer = inr (ap Err is); tells = subst (TakeCause input limit given put) (sym is) tt },
)

-- the conversation has ended with an error
refused_pair : (input : Input) (limit : ℕ) (c : PushClient) (given put : List ℕ) (e : ClientError)
    (ending : Ending)
    → Fits input limit c given → (e ≡ client.OutOfMemory → ⊥) → c.state ≡ push_state_behind (Err e)
    → conversation input given ≡ Over ending put → error_of ending.outcome ≡ Some e
    → Pair input limit c given put (Err e)
refused_pair input limit c given put e ending fits ne to over why =
    let taken : conversation input (taken_of limit given) ≡ Over ending put =
    ap (conversation input) (below input limit c given fits) ∙ over in (
      stands_as input limit c given put state.Refused fits (to ∙ refused_state e ne) (inl (ending, e, over, why)),
      record {
        answer = inl (sym (ap (answer_at (limit - length given)) taken ∙ ap ending_answer why));
        tells = ended_as input limit given put ending ending.outcome e taken refl why;
      },
    )

-- ---- a segment is open

-- how many segments have closed, as the client counts them, and in all
same_phase : (room closed more : ℕ) (asked : Option (List Request)) → ((asked ≡ None) → more ≡ 0)
    → ((qs : List Request) → asked ≡ Some qs → closed ≡ 1)
    → waiting_answer room (closed + more) ≡ waiting_answer room closed
same_phase zero closed more asked none some = refl
same_phase (suc room) closed more None none some = ap (waiting_answer (suc room)) (omega (arith, none refl))
same_phase (suc room) closed more (Some qs) none some =
    let one = some qs refl in
    let all : closed + more ≡ suc more = omega (arith, one) in
    ap (waiting_answer (suc room)) all ∙ ap (waiting_answer (suc room)) (sym one)

phase_is : (input : Input) (asked : Option (List Request)) (notes : Notes) (t : Talk) (room : ℕ)
    → NotesAt input asked notes t → waiting_answer room (length t.closed) ≡ waiting_answer room notes.closed
phase_is input None notes t room a =
    let count : length t.closed ≡ notes.closed + length a.before = ap (λ (n : Notes). n.closed) a.notes_are in
    let none = ap length a.last.0 in
    ap (waiting_answer room) (omega (arith, count, none))
phase_is input (Some qs) notes t room a =
    let count : length t.closed ≡ notes.closed + length a.before = ap (λ (n : Notes). n.closed) a.notes_are in
    ap (waiting_answer room) count
    ∙ same_phase room notes.closed (length a.before) (Some qs) (λ e. absurd (cc)) (λ other e. a.last.3)

waiting_stands : (input : Input) (limit : ℕ) (c : PushClient) (given done put : List ℕ) (room closed : ℕ)
    → Fits input limit c given → given ≡ done ++ c.inbox → PushWaits input c.asked c.notes done put
    → front c.notes.standing.version c.inbox ≡ Wants → c.room ≡ room
    → c.state ≡ push_state_behind (waiting_answer room closed) → StandsFor input limit c given put
waiting_stands input limit c given done put zero closed fits cut comes partial here to =
    let waits =
    comes_waits input c.asked c.notes done put c.inbox comes
    (reads_more c.notes.standing.version c.inbox partial) in
    stands_as input limit c given put state.Refused fits to (inr (
      (
        comes.talk,
        c.inbox,
        ap (conversation input) cut
            ∙ waits,
      ),
      omega (arith, fits.room, here),
    ))
waiting_stands input limit c given done put (suc room) zero fits cut comes partial here to =
    stands_as input limit c given put state.Open fits to
    (record { done = done; cut = cut; comes = comes; partial = partial })
waiting_stands input limit c given done put (suc room) (suc closed) fits cut comes partial here to =
    stands_as input limit c given put state.Open fits to
    (record { done = done; cut = cut; comes = comes; partial = partial })

waiting_pair : (input : Input) (limit : ℕ) (c : PushClient) (given done put : List ℕ) → Fits input limit c given
    → given ≡ done ++ c.inbox → (comes : PushWaits input c.asked c.notes done put)
    → front c.notes.standing.version c.inbox ≡ Wants
    → c.state ≡ push_state_behind (waiting_answer c.room c.notes.closed)
    → Pair input limit c given put (waiting_answer c.room c.notes.closed)
waiting_pair input limit c given done put fits cut comes partial to =
    let t = comes.talk in
    let waits =
    comes_waits input c.asked c.notes done put c.inbox comes
    (reads_more c.notes.standing.version c.inbox partial) in
    let taken : conversation input (taken_of limit given) ≡ Waits t put c.inbox =
    ap (conversation input) (below input limit c given fits ∙ cut) ∙ waits in
    let left : limit - length given ≡ c.room = omega (arith, fits.room) in
    let same = phase_is input c.asked c.notes t c.room comes.notes_at in (
      waiting_stands input limit c given done put c.room c.notes.closed fits cut comes partial refl to,
      subst (AnswersDialogue input limit given put) same
          (record {
            answer =
                inl (ap (λ n. waiting_answer n (length t.closed)) (sym left)
                ∙ sym (ap (answer_at (limit - length given)) taken));
            tells =
                waiting_tells input limit given put c.inbox t c.room (length t.closed) taken refl
                (λ none. omega (arith, fits.room, none));
          }),
    )

-- ---- the messages that are whole were taken

pub served_pair : (input one : Input) (limit : ℕ) (c : PushClient) (notes : Notes)
    (inbox given done put old_out new_out : List ℕ) (fed : Result Bool ClientError)
    → one ≡ latest input c.asked → Fits input limit c given → PushWaits input c.asked notes done put
    → given ≡ done ++ inbox → (s : Serves one notes c.notes inbox c.inbox old_out new_out fed)
    → c.state ≡ push_state_behind (answer_behind fed c.room c.notes.closed)
    → Pair input limit c given (put ++ s.way.out) (answer_behind fed c.room c.notes.closed)
served_pair input one limit c notes inbox given done put old_out new_out fed by fits comes cut s to = go fed
    s.stops to
  where
    out : List ℕ
    out = s.way.out

    before : List ℕ
    before = done ++ s.way.taken

    here : PushWaits input c.asked s.notes before (put ++ out)
    here = comes_on input c.asked notes s.notes done put s.way.taken out comes
        (λ sent. ap (λ i. runs i notes sent s.way.taken) (sym by)
        ∙ s.way.leads sent)

    all : given ≡ before ++ s.left
    all = cut ∙ ap (λ (l : List ℕ). done ++ l) s.way.cut ∙ sym (append_assoc done s.way.taken s.left)

    go : (r : Result Bool ClientError) → PushStopsAtFront one s.notes s.left c.notes c.inbox r
        → c.state ≡ push_state_behind (answer_behind r c.room c.notes.closed)
        → Pair input limit c given (put ++ out) (answer_behind r c.room c.notes.closed)
    go (Ok false) stops there =
        let comes_here =
        subst (λ (n : Notes). PushWaits input c.asked n before (put ++ out)) (sym stops.0) here in
        let partial =
        ap (λ (n : Notes). front n.standing.version c.inbox) stops.0
        ∙ ap (front s.notes.standing.version) stops.1 ∙ stops.2 in
        waiting_pair input limit c given before (put ++ out) fits (all
        ∙ ap (λ (l : List ℕ). before ++ l) (sym stops.1)) comes_here partial there
    go (Ok true) stops there =
        let turn = ap (λ i. turn_by notes_book i s.notes stops.0 s.notes.first_passed) (sym by) ∙ stops.4 in
        let k =
        closes input c.asked s.notes c.notes before (put ++ out) s.left stops.0 stops.1 here stops.2 turn in
        let ended = before ++ take stops.1 s.left in
        let split : given ≡ ended ++ c.inbox =
        all ∙ ap (λ (l : List ℕ). before ++ l) (sym (take-append-drop stops.1 s.left))
        ∙ sym (append_assoc before (take stops.1 s.left) (drop stops.1 s.left))
        ∙ ap (λ (l : List ℕ). ended ++ l) (sym stops.3) in
        let over : conversation input given ≡ Over (whole_talk k.segments) (put ++ out) =
        ap (conversation input) split
        ∙ conversation_completes input k.segments ended (put ++ out) c.inbox k.transcript k.got k.put_is in
        let taken : conversation input (taken_of limit given) ≡ Over (whole_talk k.segments) (put ++ out) =
        ap (conversation input) (below input limit c given fits) ∙ over in (
          stands_as input limit c given (put ++ out) state.Idle fits there
              (record {
                done = ended;
                cut = split;
                segments = k.segments;
                transcript = k.transcript;
                got = k.got;
                put_is = k.put_is;
                standing = k.standing;
                earlier = here.notes_at.earlier;
                answers = k.answers;
                fresh = k.fresh;
              }),
          record {
            answer = inl (sym (ap (answer_at (limit - length given)) taken));
            tells = done_tells input
                limit given (put ++ out) (whole_talk k.segments).notes taken;
          },
        )
    go (Err e) stops there =
        elim (memory_or e) [
          | inl is ↦ starved_pair input limit c given (put ++ out) e fits is there
              (subst (λ (l : List ℕ). Begins (conversation input l) (put ++ out)) (sym all)
              (comes_begins input c.asked s.notes before (put ++ out) s.left here))
          | inr ne ↦
              let x = stops ne in
              let o =
              comes_over input c.asked s.notes before (put ++ out) s.left x.0 here
              (λ sent. ap (λ i. runs i s.notes sent s.left) (sym by)
              ∙ x.2 sent) in
              refused_pair input limit c given (put ++ out) e o.0 fits ne there (ap (conversation input) all
              ∙ o.1) (ap (λ (y : End Notes). error_of y.outcome) o.2 ∙ x.1)
        ]
