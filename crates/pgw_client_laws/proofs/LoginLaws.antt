-- A login with the default handler is the startup segment.
use Rattle.std.proofs.Common.{◌≡◌, ◌⊎◌, ℕ, Bool, true, false, List, [], ◌∷◌, ◌++◌, map, Some, None, Result, Ok, Err, inl, inr, refl, sym, ◌∙◌, ap, subst, append_assoc}
use Rattle.std.proofs.lemmas.List.{append-nil}
use Rattle.pgw_backend.specs.Front as message
use Rattle.pgw_backend.specs.declared.backend.PgWireBackendMessage.{PgWireBackendMessage as Backend}
use Rattle.pgw_backend.specs.declared.client_error.PgWireClientError.{PgWireClientError as ClientError}
use Rattle.pgw_backend.specs.declared.client_error.PgWireClientError.TheVariants as client
use Rattle.pgw_frontend.specs.Frontend.{encoding, encodings, both}
use Rattle.pgw_config.specs.declared.config.Config.{Config}
use Rattle.pgw_machine.specs.Course.{Whole, Ends, Course, Waits, Over, onto, run, sent_of}
use Rattle.pgw_machine.proofs.CourseLaws.{run_bad, run_more, run_ends, run_goes, sent_grows}
use Rattle.pgw_session.specs.declared.standing.Standing.{Standing as Told}
use Rattle.pgw_session.specs.declared.tally.Tally.{Tally}
use Rattle.pgw_session.specs.declared.stage.Stage.{Stage}
use Rattle.pgw_session.specs.declared.stage.Stage.TheVariants.{Starting}
use Rattle.pgw_session.specs.declared.stage.Next.{Next}
use Rattle.pgw_session.specs.declared.stage.Next.TheVariants.{Goes, Closes, Wrong, PassesOver}
use Rattle.pgw_session.specs.declared.stage.Next.TheVariants as next
use Rattle.pgw_session.specs.Input.{Input}
use Rattle.pgw_session.specs.Events.{Event, Sent, Got}
use Rattle.pgw_session.specs.Standings.{first_standing, standing_by, standing_of}
use Rattle.pgw_session.specs.Answers.{tally_of}
use Rattle.pgw_session.specs.Segments.{sends, startup_message}
use Rattle.pgw_session.specs.Faults.{IsStartupError}
use Rattle.pgw_session.specs.Failures.{LeftWith, BytesTell as Tells}
use Rattle.pgw_session.specs.Reading.{version_front}
use Rattle.pgw_session.specs.Table.{next_after as table}
use Rattle.pgw_session.specs.Machine.{Outcome, Complete, Unencoded, Unexpected, Unread, Refused, error_of, sending, moves_by}
use Rattle.pgw_session.specs.Talk.{Talk as Session, Ending, between, talk_book, talk_rules, conversation}
use Rattle.pgw_session.proofs.ReadingLaws.{steady_by, reads_more, reads_bad, reads_whole}
use Rattle.pgw_session.proofs.Events.{standing_more, first_sends, tally_on}
use Rattle.pgw_session.proofs.Grammar.{Rest, RestBy, by_rest}
use Rattle.pgw_session.proofs.FailureLaws.{unencoded, ended_misplaced, ended_unread, ended_refused, unfinished, left_with, waits_still, told as told_of}
use Rattle.pgw_session.proofs.FaultLaws.{startup_error}
use Rattle.pgw_handlers.specs.declared.client_info.ReadyState.{ReadyState}
use Rattle.pgw_handlers.specs.declared.client_info.ReadyState.TheVariants.{Pending, Ready}
use Rattle.pgw_handlers.specs.declared.client_info.ServerInformation.{ServerInformation}
use Rattle.pgw_handlers.specs.Client.{Client, Sight}
use Rattle.pgw_handlers.specs.Sending.{NotSent}
use Rattle.pgw_handlers.specs.Handling.{HandlerView, standing, IsCaused}
use Rattle.pgw_handlers.specs.Startup.{HeardAtStartup, startup}
use Rattle.pgw_handlers_default.specs.Startup.{fresh_startup, exchanges, BeginsStartup, StartupMeans}
use Rattle.pgw_client_calls.specs.Talk.{fresh, Next as NextIs, IsCutPiece, is_refusal, CallEnd, end, CallTalk, OpensTalk}
use Rattle.pgw_client_laws.specs.Turns.{knowing, AreExchanged}
use Rattle.pgw_client_laws.specs.Stands.{login}
use Rattle.pgw_client_laws.specs.Startup.{IsRefusedStartup, LoginFails, LoginEnds, LoginCall}
use Rattle.pgw_client_laws.proofs.Exchanges.{exchanged_none, exchanged_got, exchanged_sent}
use Rattle.pgw_client_calls.specs.Desk.{first_client}
use Rattle.pgw_client_calls.specs.Line.{Line, Reasons, Pause}
use Rattle.pgw_client_laws.proofs.Openings.{IsLinkEnd, one_encoding, never_rose, paused_ends}
use Rattle.pgw_client_laws.proofs.Came.{lacking, Lacking}
use Rattle.pgw_client_laws.proofs.Logins.{informed, informed_is, Handler, login_standing, IsAt, Welcomed, Informed, FailsBy, welcomed, informs, fails_by}

-- ---- the rest of the segment

-- from where a login stands: the events to its end
pub record LedTo (input : Input) (h : Handler) (c : Client) (bytes sent : List ℕ)
    (information : ServerInformation) (info : Client) (rest : List ℕ) : Type 0 where
  pub es : List Event
  pub segment : Rest input h.stage es
  pub exchanged : AreExchanged input.config (login_standing h c) bytes sent es (informed information info) rest
  pub parameters : information.parameters ≡ info.parameters

config_is : (input : Input) (h : Handler) (c : Client) → IsAt input h c → c.config ≡ input.config
config_is input h c at = ap (λ (i : Input). i.config) at.input_is

led_on : (input : Input) (h : Handler) (c : Client) (bytes : List ℕ) (m : Backend) (rest : List ℕ)
    (after : HandlerView Handler) (sent : List ℕ) (x : ServerInformation) (info : Client) (left : List ℕ)
    → NextIs c bytes m rest → Welcomed input h c m after →
    LedTo input after.handler after.sight.client rest sent x info left
    → LedTo input h c bytes (after.sight.wrote ++ sent) x info left
led_on input h c bytes m rest after sent x info left next w l = record {
  es = Got m ∷ (map Sent (sends w.reply) ++ l.es);
  segment =
      by_rest input h.stage m (map Sent (sends w.reply) ++ l.es)
      (subst (λ (n : Next). RestBy input n (map Sent (sends w.reply) ++ l.es)) (sym w.goes)
      (l.es, refl, l.segment));
  exchanged =
      exchanged_got input.config (login_standing h c) (login_standing after.handler after.sight.client) m bytes
      rest (after.sight.wrote ++ sent) next.0 (map Sent (sends w.reply) ++ l.es) (informed x info) left next.1
      next.2 w.stands
      (exchanged_sent input.config (login_standing after.handler after.sight.client) (sends w.reply)
      after.sight.wrote rest sent l.es (informed x info) left w.encodes l.exchanged);
  parameters = l.parameters;
}

led_last : (input : Input) (h : Handler) (c : Client) (bytes : List ℕ) (m : Backend) (rest : List ℕ)
    (after : HandlerView Handler) (x : ServerInformation)
    → IsAt input h c → NextIs c bytes m rest → Informed input h c m after x →
    LedTo input h c bytes after.sight.wrote x after.sight.client rest
led_last input h c bytes m rest after x at next i =
    let stands = standing_by (login_standing h c) m in
    let knows : informed x after.sight.client ≡ knowing input.config stands =
    i.knows ∙ ap (λ (k : Config). knowing k stands) (config_is input h c at) in
    record {
      es = Got m ∷ [];
      segment = by_rest input h.stage m [] (subst (λ (n : Next). RestBy input n []) (sym i.closes) refl);
      exchanged =
          subst (λ (w : List ℕ). AreExchanged input.config (login_standing h c) bytes w (Got m ∷ [])
          (informed x after.sight.client) rest) (sym i.wrote)
          (exchanged_got input.config (login_standing h c) stands m bytes rest [] next.0 []
          (informed x after.sight.client) rest next.1 next.2 refl
          (subst (λ (d : Client). AreExchanged input.config stands rest [] [] d rest) (sym knows)
          (exchanged_none input.config stands rest)));
      parameters = i.parameters;
    }

-- ---- the conversation's end

-- the startup segment is open, behind these events
abbrev at : List Event → Stage → Session
at es s = record { closed = []; open_events = es; stage = s; passed = [] }

-- Why it ended with this error: memory was wanting; or the conversation has it; or that waits, and P says why; or bytes
-- that it put out were not written.
abbrev Led : Reasons → ClientError → Course Session Ending → List ℕ → Type 0
Led P e course sent =
    (e ≡ client.OutOfMemory)
    ⊎ ((ending : Ending) × (course ≡ Over ending sent) × (error_of ending.outcome ≡ Some e))
    ⊎ (P.halts e × (es : List Event) × (s : Stage) × (pending : List ℕ) × (course ≡ Waits (at es s) sent pending)
    × ((tally_of es).remote ≡ None))
    ⊎ ((e ≡ client.IoError) × (lost : List ℕ) × P.unsent lost × (more : List ℕ) ×
    (sent_of course ≡ sent ++ (lost ++ more)))

-- where the conversation stands as a login does
pub record Alike (input : Input) (h : Handler) (c : Client) (es : List Event) : Type 0 where
  pub stands : standing_of input.config es ≡ login_standing h c
  pub plain : (tally_of es).remote ≡ None

abbrev from : Input → Handler → List Event → List ℕ → List ℕ → Course Session Ending
from input h es wrote bytes = run (talk_rules input) (Waits (at es h.stage) wrote []) bytes

module _ (input : Input) (h : Handler) (c : Client) (es : List Event) (alike : Alike input h c es) where
  read_is : (bytes : List ℕ)
      → (talk_rules input).read (at es h.stage) bytes ≡ version_front c.protocol_version bytes
  read_is bytes =
      ap (λ (l : List Event). version_front (standing_of input.config l).version bytes) (append-nil es)
      ∙ ap (λ (r : Told). version_front r.version bytes) alike.stands

  read_whole : (bytes : List ℕ) (m : Backend) (rest : List ℕ) (next : NextIs c bytes m rest)
      → (talk_rules input).read (at es h.stage) bytes ≡ Whole m next.0
  read_whole bytes m rest next = read_is bytes ∙ reads_whole c.protocol_version bytes m next.0 next.1

  step_is : (m : Backend) (n : Next) → table input h.stage m ≡ n
      → (talk_rules input).step (at es h.stage) m ≡ moves_by (talk_book input) input (at es h.stage) m n
  step_is m n is = ap (moves_by (talk_book input) input (at es h.stage) m) is

  pub goes : (m : Backend) (after : HandlerView Handler) (wrote bytes rest : List ℕ) → NextIs c bytes m rest
      → (w : Welcomed input h c m after) →
      from input h es wrote bytes ≡ from input after.handler (es ++ Got m ∷ map Sent (sends w.reply))
      (wrote ++ after.sight.wrote) rest
  goes m after wrote bytes rest next w =
      run_goes (talk_rules input) (steady_by (talk_book input) input) (at es h.stage) wrote bytes m next.0
      (at (es ++ Got m ∷ map Sent (sends w.reply)) after.handler.stage) after.sight.wrote
      (read_whole bytes m rest next)
      (step_is m (Goes after.handler.stage w.reply) w.goes
      ∙ ap (sending (at (es ++ Got m ∷ []) after.handler.stage)
      (at (es ++ Got m ∷ map Sent (sends w.reply)) after.handler.stage)) w.encodes)
      ∙ ap (run (talk_rules input)
      (Waits (at (es ++ Got m ∷ map Sent (sends w.reply)) after.handler.stage) (wrote ++ after.sight.wrote)
      [])) (sym next.2)

  pub alike_on : (m : Backend) (after : HandlerView Handler) → (w : Welcomed input h c m after)
      → Alike input after.handler after.sight.client (es ++ Got m ∷ map Sent (sends w.reply))
  alike_on m after w = record {
    stands =
        ap (standing_of input.config) (sym (append_assoc es (Got m ∷ []) (map Sent (sends w.reply))))
        ∙ standing_more input.config es m (sends w.reply) ∙ ap (λ (r : Told). standing_by r m) alike.stands
        ∙ sym w.stands;
    plain = ap (λ (t : Tally). t.remote) (tally_on es m w.reply ∙ w.plain (tally_of es)) ∙ alike.plain;
  }

  stops : (m : Backend) (wrote bytes rest : List ℕ) (n : Next) (notes : Session) (outcome : Outcome)
      → NextIs c bytes m rest → table input h.stage m ≡ n
      → moves_by (talk_book input) input (at es h.stage) m n ≡ Ends
      (record { notes = notes; outcome = outcome }) [] →
      from input h es wrote bytes ≡ Over (record { notes = notes; outcome = outcome }) wrote
  stops m wrote bytes rest n notes outcome next is moves =
      run_ends (talk_rules input) (steady_by (talk_book input) input) (at es h.stage) wrote bytes m next.0
      (record { notes = notes; outcome = outcome }) (read_whole bytes m rest next) (step_is m n is ∙ moves)

  pub led_fails : (P : Reasons) (m : Backend) (wrote bytes rest : List ℕ) (e : ClientError)
      → NextIs c bytes m rest → FailsBy input h.stage m e → Led P e (from input h es wrote bytes) wrote
  led_fails P m wrote bytes rest e taken (inl starved) = inl starved
  led_fails P m wrote bytes rest e taken (inr (inl refused)) =
      inr (inl (
        _,
        stops m wrote bytes rest (next.Refuses e) (at es h.stage) (Refused e) taken refused refl,
        refl,
      ))
  led_fails P m wrote bytes rest e taken (inr (inr (inl wrong))) =
      inr (inl (
        _,
        stops m wrote bytes rest Wrong (at es h.stage) (Unexpected m) taken wrong.0 refl,
        ap Some
            (sym wrong.1),
      ))
  led_fails P m wrote bytes rest e taken (inr (inr (inr x))) =
      inr (inl (
        _,
        stops m wrote bytes rest (Goes x.0 x.1) (at (es ++ Got m ∷ []) x.0) (Unencoded x.2) taken x.3
            (ap (sending (at (es ++ Got m ∷ []) x.0) (at (es ++ Got m ∷ map Sent (sends x.1)) x.0)) x.4),
        ap Some
            (sym x.5),
      ))

  pub led_lacks : (P : Reasons) (wrote bytes rest : List ℕ) (e : ClientError)
      → (e ≡ client.OutOfMemory) ⊎ (Lacking P c rest e × (rest ≡ bytes))
      → Led P e (from input h es wrote bytes) wrote
  led_lacks P wrote bytes rest e (inl starved) = inl starved
  led_lacks P wrote bytes rest e (inr (inl bad, are)) =
      inr (inl (
        _,
        run_bad (talk_rules input) (steady_by (talk_book input) input) (at es h.stage) wrote bytes
            bad.0 (read_is bytes
            ∙ reads_bad c.protocol_version bytes bad.0 (ap (message.front c.protocol_version) (sym are)
            ∙ bad.2)),
        ap Some (sym bad.1),
      ))
  led_lacks P wrote bytes rest e (inr (inr more, are)) =
      inr (inr (inl (
        more.0,
        es,
        h.stage,
        bytes,
        run_more (talk_rules input) (steady_by (talk_book input) input) (at es h.stage) wrote bytes (read_is bytes
            ∙ reads_more c.protocol_version bytes (ap (message.front c.protocol_version) (sym are)
            ∙ more.1)),
        alike.plain,
      )))

  pub led_unwritten : (P : Reasons) (m : Backend) (after : HandlerView Handler) (wrote part bytes rest : List ℕ)
      → NextIs c bytes m rest → Welcomed input h c m after → IsCutPiece P after.sight.wrote part
      → Led P client.IoError (from input h es wrote bytes) (wrote ++ part)
  led_unwritten P m after wrote part bytes rest taken w cut =
      let more =
      sent_grows (talk_rules input)
      (Waits (at (es ++ Got m ∷ map Sent (sends w.reply)) after.handler.stage)
      (wrote ++ after.sight.wrote) []) rest in
      inr (inr (inr (
        refl,
        cut.1,
        cut.3,
        more.0,
        ap sent_of (goes m after wrote bytes rest taken w) ∙ more.1
            ∙ ap (λ (l : List ℕ). (wrote ++ l) ++ more.0) cut.2
            ∙ ap (λ (l : List ℕ). l ++ more.0) (sym (append_assoc wrote part cut.1))
            ∙ append_assoc (wrote ++ part) cut.1 more.0,
      )))

-- ---- the messages of a login

abbrev never : ClientError → Bool
never e = false

-- what a login comes to from where it stands
abbrev To : Input → Reasons → Handler → Client → List ℕ → List ℕ → Client → List ℕ
    → Result ServerInformation ClientError → Bool → Type 0
To input P h c bytes sent info rest (Ok x) false = LedTo input h c bytes sent x info rest
To input P h c bytes sent info rest (Err e) true =
    (es : List Event) (wrote : List ℕ) → Alike input h c es
    → Led P e (from input h es wrote bytes) (wrote ++ sent)
To input P h c bytes sent info rest result broken = ⊥

hears_on : (input : Input) (P : Reasons) (h : Handler) (c : Client) (bytes : List ℕ) (m : Backend) (rest : List ℕ)
    (after : HandlerView Handler) (sent : List ℕ) (info : Client) (left : List ℕ)
    (result : Result ServerInformation ClientError) (broken : Bool) →
    NextIs c bytes m rest → Welcomed input h c m after
    → To input P after.handler after.sight.client rest sent info left result broken
    → To input P h c bytes (after.sight.wrote ++ sent) info left result broken
hears_on input P h c bytes m rest after sent info left (Ok x) false taken w l =
    led_on input h c bytes m rest after sent x info left taken w l
hears_on input P h c bytes m rest after sent info left (Ok x) true taken w l = absurd l
hears_on input P h c bytes m rest after sent info left (Err e) false taken w l = absurd l
hears_on input P h c bytes m rest after sent info left (Err e) true taken w l = λ es wrote alike.
    subst (λ (r : Course Session Ending). Led P e r (wrote ++ (after.sight.wrote ++ sent)))
    (sym (goes input h c es alike m after wrote bytes rest taken w))
    (subst (λ (t : List ℕ). Led P e
    (from input after.handler (es ++ Got m ∷ map Sent (sends w.reply)) (wrote ++ after.sight.wrote) rest) t)
    (append_assoc wrote after.sight.wrote sent)
    (l (es ++ Got m ∷ map Sent (sends w.reply)) (wrote ++ after.sight.wrote)
    (alike_on input h c es alike m after w)))

-- nothing was sent since
still : (P : Reasons) (e : ClientError) (course : Course Session Ending) (wrote : List ℕ) → Led P e course wrote
    → Led P e course (wrote ++ [])
still P e course wrote l = subst (Led P e course) (sym (append-nil wrote)) l

unwritten_on : (input : Input) (P : Reasons) (h : Handler) (c : Client) (bytes : List ℕ) (m : Backend)
    (rest : List ℕ) (after : HandlerView Handler) (answer : ReadyState ServerInformation) (part : List ℕ)
    → IsAt input h c → NextIs c bytes m rest →
    HeardAtStartup exchanges StartupMeans (standing h (fresh c)) m after (Ok answer)
    → IsCutPiece P after.sight.wrote part
    → To input P h c bytes part after.sight.client rest (Err client.IoError) true
unwritten_on input P h c bytes m rest after Pending part is taken heard cut =
    λ es wrote alike. led_unwritten input h c es alike P m after wrote part bytes rest taken
    (welcomed input h c is m after heard) cut
unwritten_on input P h c bytes m rest after (Ready x) part is taken heard cut =
    absurd (cut.0 (informs input h c is m after x heard).wrote)

pub talk_to : (input : Input) (P : Reasons) (h : Handler) (c : Client) (bytes sent : List ℕ)
    (last : CallEnd ServerInformation)
    → CallTalk (HeardAtStartup exchanges StartupMeans) P never h c bytes sent last → IsAt input h c →
    To input P h c bytes sent last.info last.rest last.answer last.broken
talk_to input P _ _ _ _ _ (CallTalk.lacks h c bytes rest e l) is =
    λ es wrote alike. still P e (from input h es wrote bytes) wrote
    (led_lacks input h c es alike P wrote bytes rest e (lacking P c bytes rest e l))
talk_to input P _ _ _ _ _ (CallTalk.hears h c bytes m rest after sent last taken heard usable quiet talk) is =
    let w = welcomed input h c is m after heard in
    hears_on input P h c bytes m rest after sent last.info last.rest last.answer last.broken taken w
    (talk_to input P after.handler after.sight.client rest sent last talk w.at)
talk_to input P _ _ _ _ _ (CallTalk.closes h c bytes m rest after x taken heard usable ready) is =
    led_last input h c bytes m rest after x is taken (informs input h c is m after x heard)
talk_to input P _ _ _ _ _ (CallTalk.unwritten h c bytes m rest after answer part taken heard usable cut) is =
    unwritten_on input P h c bytes m rest after answer part is taken heard cut
talk_to input P _ _ _ _ _ (CallTalk.breaks h c bytes m rest after e taken heard caused why usable) is = λ es wrote
    alike.
    still P e (from input h es wrote bytes) wrote
    (led_fails input h c es alike P m wrote bytes rest e taken (fails_by input h c is m after e heard caused))
talk_to input P _ _ _ _ _ (CallTalk.fails h c bytes m rest after e taken heard goes usable ready) is =
    let no_error : false ≡ true = goes in absurd (cc)
talk_to input P _ _ _ _ _
    (CallTalk.passes_over h c bytes m rest after e x last left broken taken heard goes usable other passing) is =
    let no_error : false ≡ true = goes in absurd (cc)
talk_to input P _ _ _ _ _ (CallTalk.starves h c bytes last rest) is = λ es wrote alike. inl refl

-- ---- a login

some_is : {x y : ClientError} → Some x ≡ Some y → x ≡ y
some_is {x} {y} is = cc

-- what is refused at startup
refused_at : (P : Reasons) (input : Input) (bytes sent : List ℕ) (ending : Ending) (e x : ClientError)
    → conversation input bytes ≡ Over ending sent → ending.outcome ≡ Refused x → x ≡ e
    → LoginFails P input bytes sent e
refused_at P input bytes sent ending e x is why same =
    let f = ended_refused input bytes sent ending x is why in
    subst (LoginFails P input bytes sent) same (go x f (startup_error input bytes sent x f.0))
  where
    go : (x : ClientError) → IsRefusedStartup input bytes sent x → IsStartupError x
        → LoginFails P input bytes sent x
    go (client.RemoteError e) f s = f
    go (client.ScramError e) f s = f
    go (client.UnsupportedSASLAuthMethods e) f s = f
    go (client.InvalidConfig e) f s = f
    go (client.PgWireError why) f s = inr f
    go x f s = absurd s

ended_at : (P : Reasons) (input : Input) (bytes sent : List ℕ) (ending : Ending) (e : ClientError) (o : Outcome)
    → conversation input bytes ≡ Over ending sent → ending.outcome ≡ o → error_of o ≡ Some e
    → LoginFails P input bytes sent e
ended_at P input bytes sent ending e Complete is why error = absurd (cc)
ended_at P input bytes sent ending e (Unencoded x) is why error =
    let u = unencoded input bytes sent ending x is why in
    subst (LoginFails P input bytes sent) (some_is error) (inl (inr u.0, u.1))
ended_at P input bytes sent ending e (Unexpected m) is why error =
    subst (LoginFails P input bytes sent) (some_is error) (ended_misplaced input ⊥ bytes sent ending m is why)
ended_at P input bytes sent ending e (Unread x) is why error =
    let u = ended_unread input bytes sent ending x is why in
    subst (LoginFails P input bytes sent) (some_is error) (inl (inl u.0, u.1))
ended_at P input bytes sent ending e (Refused x) is why error =
    refused_at P input bytes sent ending e x is why (some_is error)

waits_for : (P : Reasons) (input : Input) (bytes sent : List ℕ) (e : ClientError) (es : List Event) (s : Stage)
    (pending : List ℕ)
    → IsLinkEnd e → P.halts e → conversation input bytes ≡ Waits (at es s) sent pending
    → (tally_of es).remote ≡ None → LoginFails P input bytes sent e
waits_for P input bytes sent client.UnexpectedEOF es s pending l p is none = (
  p,
  subst (LeftWith input bytes sent) none (left_with input bytes sent pending (at es s) is refl),
  unfinished
      input bytes sent pending (at es s) is,
)
waits_for P input bytes sent client.ReadLimit es s pending l p is none =
    (p, waits_still input bytes sent pending (at es s) is)
waits_for P input bytes sent client.IoError es s pending l p is none =
    inl (p, waits_still input bytes sent pending (at es s) is)
waits_for P input bytes sent e es s pending l p is none = absurd l

cause_of : (P : Reasons) (ends : (x : ClientError) → P.halts x → IsLinkEnd x) (input : Input)
    (bytes sent : List ℕ) (e : ClientError)
    → Led P e (conversation input bytes) sent → LoginFails P input bytes sent e
cause_of P ends input bytes sent e (inl starved) = subst (LoginFails P input bytes sent) (sym starved) tt
cause_of P ends input bytes sent e (inr (inl x)) = ended_at P input bytes sent x.0 e (x.0).outcome x.1 refl x.2
cause_of P ends input bytes sent e (inr (inr (inl x))) =
    waits_for P input bytes sent e x.1 x.2 x.3 (ends e x.0) x.0 x.4 x.5
cause_of P ends input bytes sent e (inr (inr (inr x))) =
    subst (LoginFails P input bytes sent) (sym x.0)
    (inr (x.1, x.2, x.3, subst (Tells input bytes) x.4 (told_of input bytes)))

-- the conversation begins so
begins : (input : Input) (out bytes : List ℕ) → encodings (startup_message input ∷ []) ≡ Ok out
    → conversation input bytes ≡ run (talk_rules input)
    (Waits (at (Sent (startup_message input) ∷ []) Starting) out []) bytes
unfolding conversation
begins input out bytes is =
    ap (λ o. run (talk_rules input)
    (onto [] (sending (between []) (at (Sent (startup_message input) ∷ []) Starting) o)) bytes) is

first_alike : (input : Input) (h : Handler) (c : Client) → login_standing h c ≡ first_standing input.config
    → Alike input h c (Sent (startup_message input) ∷ [])
unfolding tally_of
first_alike input h c is =
    record { stands = first_sends input.config (startup_message input ∷ []) ∙ sym is; plain = refl }

-- what a login comes to behind its startup message
ends_on : (P : Reasons) (ends : (x : ClientError) → P.halts x → IsLinkEnd x) (config : Config) (h : Handler)
    (out bytes sent : List ℕ) (info : Client) (rest : List ℕ) (result : Result ServerInformation ClientError)
    (broken : Bool)
    → encodings (startup_message (login config h.nonce) ∷ []) ≡ Ok out →
    To (login config h.nonce) P (fresh_startup h) (first_client config) bytes sent info rest result broken
    → LoginEnds P config h.nonce bytes (out ++ sent) info rest result broken
ends_on P ends config h out bytes sent info rest (Ok x) true is l = absurd l
ends_on P ends config h out bytes sent info rest (Ok x) false is l = record {
  es = Sent (startup_message (login config h.nonce)) ∷ l.es;
  segment = (l.es, refl, l.segment);
  exchanged =
      subst (λ (d : Client). AreExchanged config (first_standing config) bytes (out ++ sent)
      (Sent (startup_message (login config h.nonce)) ∷ l.es) d rest) (sym (informed_is x info l.parameters))
      (exchanged_sent config (first_standing config) (startup_message (login config h.nonce) ∷ []) out bytes sent
      l.es (informed x info) rest is l.exchanged);
  parameters = l.parameters;
}
ends_on P ends config h out bytes sent info rest (Err e) false is l = absurd l
ends_on P ends config h out bytes sent info rest (Err e) true is l =
    let input = login config h.nonce in
    cause_of P ends input bytes (out ++ sent) e
    (subst (λ (r : Course Session Ending). Led P e r (out ++ sent)) (sym (begins input out bytes is))
    (l (Sent (startup_message input) ∷ []) out
    (first_alike input (fresh_startup h) (first_client config) refl)))

begins_at : (config : Config) (h : Handler) → IsAt (login config h.nonce) (fresh_startup h) (first_client config)
begins_at config h = record { input_is = refl; login = tt }

opened_to : (P : Reasons) (ends : (x : ClientError) → P.halts x → IsLinkEnd x) (config : Config) (h : Handler)
    (bytes sent : List ℕ) (last : CallEnd ServerInformation) (after : HandlerView Handler)
    → BeginsStartup (standing h (fresh (first_client config))) after (Ok Pending) →
    CallTalk (HeardAtStartup exchanges StartupMeans) P never after.handler after.sight.client bytes sent last
    → LoginCall config h.nonce bytes (after.sight.wrote ++ sent) P last
opened_to P ends config h bytes sent last after opens talk =
    let s = opens.1 in
    let info : after.sight.client ≡ first_client config = ap (λ (x : Sight). x.client) s.after in
    let wrote : after.sight.wrote ≡ s.bytes = ap (λ (x : Sight). x.wrote) s.after in
    let same : CallTalk (HeardAtStartup exchanges StartupMeans) P never (fresh_startup h) (first_client config)
    bytes sent last =
    subst (λ (d : Client). CallTalk (HeardAtStartup exchanges StartupMeans) P never (fresh_startup h) d bytes sent
    last) info (subst (λ (g : Handler). CallTalk (HeardAtStartup exchanges StartupMeans) P never g
    after.sight.client bytes sent last) opens.0 talk) in
    subst (λ (w : List ℕ). LoginCall config h.nonce bytes (w ++ sent) P last) (sym wrote)
    (ends_on P ends config h s.bytes bytes sent last.info last.rest last.answer last.broken
    (one_encoding (startup_message (login config h.nonce)) s.bytes s.spells)
    (talk_to (login config h.nonce) P (fresh_startup h) (first_client config) bytes sent last same
    (begins_at config h)))

cut_to : (P : Reasons) (config : Config) (h : Handler) (bytes part : List ℕ) (after : HandlerView Handler)
    → BeginsStartup (standing h (fresh (first_client config))) after (Ok Pending)
    → IsCutPiece P after.sight.wrote part →
    LoginCall config h.nonce bytes part P (end (Err client.IoError) after.sight.client true bytes)
cut_to P config h bytes part after opens cut =
    let input = login config h.nonce in
    let s = opens.1 in
    let wrote : after.sight.wrote ≡ s.bytes = ap (λ (x : Sight). x.wrote) s.after in
    let more =
    sent_grows (talk_rules input) (Waits (at (Sent (startup_message input) ∷ []) Starting) s.bytes []) bytes
    in
    let all : sent_of (conversation input bytes) ≡ part ++ (cut.1 ++ more.0) =
    ap sent_of (begins input s.bytes bytes (one_encoding (startup_message input) s.bytes s.spells)) ∙ more.1
    ∙ ap (λ (l : List ℕ). l ++ more.0) (sym wrote ∙ cut.2) ∙ append_assoc part cut.1 more.0 in
    inr (cut.1, cut.3, more.0, subst (Tells input bytes) all (told_of input bytes))

refused_to : (P : Reasons) (config : Config) (h : Handler) (bytes : List ℕ) (after : HandlerView Handler)
    (e : ClientError)
    → BeginsStartup (standing h (fresh (first_client config))) after (Err e) → is_refusal e ≡ true →
    LoginCall config h.nonce bytes [] P (end (Err e) after.sight.client false bytes)
refused_to P config h bytes after (client.PgWireError why) opens is = go opens.1
  where
    go : NotSent (encoding (startup_message (login config h.nonce))) (fresh (first_client config)) after.sight
        (client.PgWireError why)
        ⊎ ((after.sight ≡ fresh (first_client config)) × (client.PgWireError why ≡ client.OutOfMemory)) →
        LoginCall config h.nonce bytes [] P (end (Err (client.PgWireError why)) after.sight.client false bytes)
    go (inl n) = (ap (λ o. both o (Ok [])) n.1, refl, ap (λ (x : Sight). x.client) n.2, refl)
    go (inr n) = let other = n.1 in absurd (cc)
refused_to P config h bytes after e opens is = let not_one : false ≡ true = is in absurd (cc)

unsent_to : (P : Reasons) (config : Config) (h : Handler) (bytes : List ℕ) (after : HandlerView Handler)
    (e : ClientError)
    → NotSent (encoding (startup_message (login config h.nonce))) (fresh (first_client config)) after.sight e
    → IsCaused e 0 0 after.sight.broken →
    is_refusal e ≡ false → LoginCall config h.nonce bytes [] P (end (Err e) after.sight.client true bytes)
unsent_to P config h bytes after client.OutOfMemory n caused why = tt
unsent_to P config h bytes after client.Broken n caused why = let broken : false ≡ true = n.0 in absurd (cc)
unsent_to P config h bytes after client.IoError n caused why = absurd (never_rose caused)
unsent_to P config h bytes after (client.PgWireError x) n caused why =
    let refusal : true ≡ false = why in absurd (cc)
unsent_to P config h bytes after e n caused why = absurd n

breaks_to : (P : Reasons) (config : Config) (h : Handler) (bytes : List ℕ) (after : HandlerView Handler)
    (e : ClientError)
    → BeginsStartup (standing h (fresh (first_client config))) after (Err e) → IsCaused e 0 0 after.sight.broken →
    is_refusal e ≡ false → LoginCall config h.nonce bytes [] P (end (Err e) after.sight.client true bytes)
breaks_to P config h bytes after e opens caused why = go opens.1
  where
    go : NotSent (encoding (startup_message (login config h.nonce))) (fresh (first_client config)) after.sight e
        ⊎ ((after.sight ≡ fresh (first_client config)) × (e ≡ client.OutOfMemory))
        → LoginCall config h.nonce bytes [] P (end (Err e) after.sight.client true bytes)
    go (inl n) = unsent_to P config h bytes after e n caused why
    go (inr n) =
        subst (λ (z : ClientError). LoginCall config h.nonce bytes [] P
        (end (Err z) after.sight.client true bytes)) (sym n.1) tt

pub asked_to : (P : Reasons) (ends : (x : ClientError) → P.halts x → IsLinkEnd x) (config : Config) (h : Handler)
    (bytes sent : List ℕ) (last : CallEnd ServerInformation) →
    OpensTalk (λ old new answer. StartupMeans old startup new answer) (HeardAtStartup exchanges StartupMeans) P
    never h (first_client config) bytes sent last
    → LoginCall config h.nonce bytes sent P last
asked_to P ends config h bytes _ _ (OpensTalk.opened after sent last opens usable talk) =
    opened_to P ends config h bytes sent last after opens talk
asked_to P ends config h bytes _ _ (OpensTalk.unwritten after part opens usable cut) =
    cut_to P config h bytes part after opens cut
asked_to P ends config h bytes _ _ (OpensTalk.refused after e opens is usable) =
    refused_to P config h bytes after e opens is
asked_to P ends config h bytes _ _ (OpensTalk.breaks after e opens caused why usable) =
    breaks_to P config h bytes after e opens caused why
asked_to P ends config h bytes _ _ (OpensTalk.starves last rest) = tt

pub login_call : (before now : Line) (config : Config) (h : Handler) (bytes sent : List ℕ)
    (last : CallEnd ServerInformation) →
    OpensTalk (λ old new answer. StartupMeans old startup new answer) (HeardAtStartup exchanges StartupMeans)
    (Pause before now) (λ e. false) h (first_client config) bytes sent last
    → LoginCall config h.nonce bytes sent (Pause before now) last
login_call before now config h bytes sent last asked =
    asked_to (Pause before now) (paused_ends before now) config h bytes sent last asked
