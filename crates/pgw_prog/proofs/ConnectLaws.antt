-- What is printed of a session with the server that a connection text names.
use Rattle.std.proofs.Common.{◌≡◌, ◌≢◌, ℕ, List, [], ◌∷◌, ◌++◌, Option, Some, None, Result, Ok, Err, refl, sym, ap, subst, ◌∙◌, inl, inr, arith}
use Rattle.std.specs.Result.{IfOk, OnOk, IsErrOf}
use Rattle.std.proofs.lemmas.List.{append_cancel_left}
use Rattle.pgw_types.specs.declared.memory.OutOfMemory.{OutOfMemory}
use Rattle.pgw_types.specs.declared.address.Address.{Address}
use Rattle.pgw_types.specs.Counts.{Rose}
use Rattle.pgw_link.specs.Tape.{Tape}
use Rattle.pgw_link.specs.Dials.{DialTape, Dialled, Shut, CountsClose, MakesNext}
use Rattle.pgw_types.specs.declared.config_error.ConfigError.{ConfigError}
use Rattle.pgw_types.specs.declared.config_error.ConfigError.TheVariants as config_error
use Rattle.pgw_backend.specs.ClientError.{of_config}
use Rattle.pgw_backend.specs.declared.client_error.PgWireClientError.{PgWireClientError}
use Rattle.pgw_backend.specs.declared.client_error.PgWireClientError.TheVariants as client
use Rattle.pgw_config.specs.declared.config.Config.{Config}
use Rattle.pgw_config.specs.Address.{address_of}
use Rattle.pgw_config.specs.Parse.{HasOutcome, IsParsed}
use Rattle.pgw_config.specs.Answers.{IsConfigAnswer}
use Rattle.pgw_session.specs.declared.types.SessionReport.{SessionReport}
use Rattle.pgw_session.specs.Demands.{refused_config}
use Rattle.pgw_session.specs.Events.{Event}
use Rattle.pgw_session.specs.Input.{Input}
use Rattle.pgw_session.specs.Transcript.{Completes, report_of}
use Rattle.pgw_client.specs.Session.{AnswersReport}
use Rattle.pgw_prog.specs.declared.command.Command.TheVariants as command
use Rattle.pgw_prog.specs.declared.command.Connection.{Connection}
use Rattle.pgw_prog.specs.declared.printed.Printed.{Printed}
use Rattle.pgw_prog.specs.Held.{Says, exit_status}
use Rattle.pgw_client.specs.OverLink.{LinkSpan, OverLink}
use Rattle.pgw_prog.specs.Connected.{input_for, next_offer, DialSpan, DialsAndShuts, NoLinkFor, HoldsDialerSession, IsDialOutcome, LeavesFor, LeavesDialer, PrintsRefusal, PrintsTalk, PrintsAtAddress, PrintsBy, PrintsConnection, CanConnect, PrintsReport}
use Rattle.pgw_prog_sessions.specs.SessionText.{report_lines, error_line, result_text}
use Rattle.pgw_prog.proofs.OverLaws.{foretold_less, from_fresh}
use Rattle.pgw_prog.proofs.TextLaws.{error_same, not_io, no_report}

-- a link that was dialled and then closed
pub once : (to : Address) (old between new : DialTape) (first after : Tape) → Dialled to old between first
    → Shut between new after → DialsAndShuts to old new after
once to old between new first after d s =
    record { dialled = s.dialled ∙ d.dialled; shut = s.shut ∙ ap (λ (l : List Tape). l ++ after ∷ []) d.shut }

-- the link that was made has what the dialer offered next
pub offer_is : (was is : Option (List (List ℕ))) (left : Option (List ℕ)) → MakesNext was is left
    → left ≡ next_offer was
offer_is was is left made = made.own ∙ sym (ap next_offer made.offered)

-- a session over a link that was dialled and then closed
pub held_session : (input : Input) (limit : ℕ) (to : Address) (dialer : DialSpan) (between : DialTape)
    (dialled : ℕ) (more : Type 0) (link : LinkSpan) (outcome : Result SessionReport PgWireClientError)
    → (dialer.foretells → more) → (dialer.foretells → link.was ≡ dialer.offer) → dialled ≡ dialer.before
    → CountsClose dialled dialer.now link.now → link.before ≡ 0
    → Dialled to dialer.old between link.old → Shut between dialer.new link.new
    → OverLink input limit more link outcome → HoldsDialerSession input limit to dialer outcome
held_session input limit to dialer between dialled more link outcome known offered same counts none dials shuts
    over = record {
      after = link.new;
      once = once to dialer.old between dialer.new link.old link.new dials shuts;
      faults = link.now;
      counts = subst (λ (n : ℕ). CountsClose n dialer.now link.now) same counts;
      was = link.was;
      offered = offered;
      is = link.is;
      over = from_fresh input limit dialer.foretells link outcome dials.fresh none (foretold_less known over);
    }

-- the answer of a session that completes is its report
says_report : (report : SessionReport) (outcome : Result SessionReport PgWireClientError)
    → AnswersReport report outcome → (IsErrOf outcome client.OutOfMemory → ⊥)
    → (result_text outcome ≡ report_lines report) × (exit_status outcome ≡ 0)
says_report report (Ok answer) same memory = (ap report_lines same, refl)
says_report report (Err e) same memory = absurd (memory (ap Err same))

module _ (nonce : List ℕ) (dialer : DialSpan) (asked : Connection) (p : Printed) where
  -- a dial gives a link unless it failed or memory was wanting
  linked : (outcome : Result SessionReport PgWireClientError) → (Rose dialer.before dialer.now → ⊥)
      → (IsErrOf outcome client.OutOfMemory → ⊥) → NoLinkFor dialer outcome → ⊥
  linked outcome still memory (inl (io, rose)) = still rose
  linked outcome still memory (inr (short, same)) = memory short

  -- the error of a link is that of a dial that failed
  no_link_io : (outcome : Result SessionReport PgWireClientError) → outcome ≡ Err client.IoError
      → NoLinkFor dialer outcome → Rose dialer.before dialer.now
  no_link_io outcome is (inl (io, rose)) = rose
  no_link_io outcome is (inr (short, same)) = cc

  talk_reported : (input : Input) (limit : ℕ) (to : Address) (offer : List ℕ) (segments : List (List Event))
      → dialer.foretells → (Rose dialer.before dialer.now → ⊥) → dialer.offer ≡ Some offer
      → refused_config input.config ≡ None → Completes input limit offer segments
      → (outcome : Result SessionReport PgWireClientError) → IsDialOutcome input limit to dialer outcome
      → (IsErrOf outcome client.OutOfMemory → ⊥)
      → (result_text outcome ≡ report_lines (report_of input segments)) × (exit_status outcome ≡ 0)
  talk_reported input limit to offer segments t still known clear c outcome (inl none) memory =
      absurd (linked outcome still memory none.why)
  talk_reported input limit to offer segments t still known clear c outcome (inr held) memory =
      says_report (report_of input segments) outcome (held.over.reports t clear offer (held.offered t
      ∙ known) segments c (λ some. still (held.counts.failed (omega (arith, some))))) memory

  at_reported : (config : Config) (to : Address) (answer : Result Address ConfigError) (offer : List ℕ)
      (segments : List (List Event))
      → dialer.foretells → (Rose dialer.before dialer.now → ⊥) → dialer.offer ≡ Some offer → answer ≡ Ok to
      → refused_config config ≡ None → Completes (input_for asked nonce config) asked.limit offer segments
      → PrintsAtAddress nonce dialer asked config answer p
      → (p.text.items ≡ report_lines (report_of (input_for asked nonce config) segments)) × (p.status ≡ 0)
  at_reported config to (Ok address) offer segments t still known is clear c prints =
      let told =
      talk_reported (input_for asked nonce config) asked.limit address offer segments t still known clear c
      prints.outcome prints.talked prints.memory in
      (prints.says.0 ∙ told.0, prints.says.1 ∙ told.1)
  at_reported config to (Err e) offer segments t still known is clear c prints = cc

  pub reported : (offer : List ℕ) (segments : List (List Event)) (can : CanConnect asked nonce offer segments)
      → dialer.foretells → (Rose dialer.before dialer.now → ⊥) → dialer.offer ≡ Some offer
      → PrintsConnection nonce dialer asked p
      → (p.text.items ≡ report_lines (report_of (input_for asked nonce can.config) segments)) × (p.status ≡ 0)
  reported offer segments can t still known connects =
      let same : connects.outcome ≡ Ok can.config = sym (connects.only (Ok can.config) can.leads.0) in
      let prints =
      subst (λ (o : Result Config ConfigError). PrintsBy nonce dialer asked o p) same connects.prints in
      at_reported can.config can.address (address_of can.config) offer segments t still known can.leads.1
      can.clear can.completes prints

  refusal_io : (e : ConfigError) → PrintsRefusal e p → p.text.items ≡ error_line client.IoError → ⊥
  refusal_io e prints is = not_io e (error_same (of_config e) (sym prints.1.0 ∙ is))

  outcome_io : (outcome : Result SessionReport PgWireClientError)
      → result_text outcome ≡ error_line client.IoError → outcome ≡ Err client.IoError
  outcome_io (Ok r) is = absurd (no_report r client.IoError is)
  outcome_io (Err e) is = ap Err (error_same e is)

  talk_io : (input : Input) (limit : ℕ) (to : Address) (outcome : Result SessionReport PgWireClientError)
      → IsDialOutcome input limit to dialer outcome → outcome ≡ Err client.IoError → Rose dialer.before dialer.now
  talk_io input limit to outcome (inl none) is = no_link_io outcome is none.why
  talk_io input limit to outcome (inr held) is =
      let rose = held.over.cause.io is in held.counts.failed (omega (arith, rose))

  at_io : (config : Config) (answer : Result Address ConfigError)
      → PrintsAtAddress nonce dialer asked config answer p → p.text.items ≡ error_line client.IoError
      → Rose dialer.before dialer.now
  at_io config (Ok address) prints is =
      talk_io (input_for asked nonce config) asked.limit address prints.outcome prints.talked
      (outcome_io prints.outcome (sym prints.says.0 ∙ is))
  at_io config (Err e) prints is = absurd (refusal_io e prints is)

  by_io : (outcome : Result Config ConfigError) → PrintsBy nonce dialer asked outcome p
      → p.text.items ≡ error_line client.IoError → Rose dialer.before dialer.now
  by_io (Ok config) prints is = at_io config (address_of config) prints is
  by_io (Err e) prints is = absurd (refusal_io e prints is)

  -- the error of a link is printed only where the dialer's count rose
  pub prints_io : PrintsConnection nonce dialer asked p → p.text.items ≡ error_line client.IoError
      → Rose dialer.before dialer.now
  prints_io connects is = by_io connects.outcome connects.prints is

  -- the same behind what was written before
  pub report_written : (offer : List ℕ) (segments : List (List Event))
      (can : CanConnect asked nonce offer segments)
      → dialer.foretells → (Rose dialer.before dialer.now → ⊥) → dialer.offer ≡ Some offer
      → PrintsConnection nonce dialer asked p
      → (was is : List ℕ) → is ≡ was ++ p.text.items → PrintsReport asked nonce offer segments can was is p.status
  report_written offer segments can t still known connects was is wrote =
      let whole = reported offer segments can t still known connects in
      inr (whole.1, wrote ∙ ap (λ (text : List ℕ). was ++ text) whole.0)

  pub io_written : PrintsConnection nonce dialer asked p → (was is : List ℕ) → is ≡ was ++ p.text.items
      → is ≡ was ++ error_line client.IoError → Rose dialer.before dialer.now
  io_written connects was is wrote says =
      prints_io connects (append_cancel_left was p.text.items (error_line client.IoError) (sym wrote ∙ says))

-- a session that ends so
abbrev failed : PgWireClientError → Result SessionReport PgWireClientError
failed e = Err e

module _ (nonce : List ℕ) (dialer : DialSpan) (asked : Connection) where
  -- what is left for the configuration of a text is left for the text
  pub text_leaves : (config : Config) → HasOutcome asked.text (Ok config) → LeavesFor nonce asked config dialer
      → LeavesDialer nonce (command.Connect asked) dialer
  text_leaves config has (inl same) = inl same
  text_leaves config has (inr (to, is, used)) = inr (config, to, (has, is), used)

  pub talk_printed : (config : Config) (address : Address) (outcome : Result SessionReport PgWireClientError)
      (r : Result Printed OutOfMemory)
      → address_of config ≡ Ok address
      → IsDialOutcome (input_for asked nonce config) asked.limit address dialer outcome
      → IfOk r (λ p. Says p (result_text outcome) (exit_status outcome))
      → OnOk r (IsErrOf outcome client.OutOfMemory → ⊥)
      → IfOk r (PrintsAtAddress nonce dialer asked config (address_of config))
  talk_printed config address outcome (Ok p) is talked says memory =
      let prints : PrintsTalk (input_for asked nonce config) asked.limit address dialer p =
      record { outcome = outcome; talked = talked; memory = memory; says = says } in
      subst (λ (answer : Result Address ConfigError). PrintsAtAddress nonce dialer asked config answer p) (sym is)
      prints
  talk_printed config address outcome (Err e) is talked says memory = tt

  -- a refusal that is printed is not want of memory
  printed_as : (why : ConfigError) (e : PgWireClientError) (p : Printed) → e ≡ of_config why
      → e ≢ client.OutOfMemory → Says p (error_line e) 1 → PrintsRefusal why p
  printed_as why e p same memory says = (
    λ short. memory (same
        ∙ ap of_config short),
    subst (λ (x : PgWireClientError). Says p (error_line x) 1) same says,
  )

  pub no_address_printed : (config : Config) (why : ConfigError) (e : PgWireClientError)
      (r : Result Printed OutOfMemory)
      → e ≡ of_config why → IsConfigAnswer (Err why) (address_of config)
      → IfOk r (λ p. Says p (error_line e) 1) → OnOk r (IsErrOf (failed e) client.OutOfMemory → ⊥)
      → IfOk r (PrintsAtAddress nonce dialer asked config (address_of config))
  no_address_printed config why e (Ok p) same given says memory =
      let prints = printed_as why e p same (λ short. memory (ap Err short)) says in
      subst (λ (answer : Result Address ConfigError). PrintsAtAddress nonce dialer asked config answer p)
      (sym (given prints.0)) prints
  no_address_printed config why e (Err none) same given says memory = tt

  pub text_printed : (config : Config) (r : Result Printed OutOfMemory) → HasOutcome asked.text (Ok config)
      → ((other : Result Config ConfigError) → HasOutcome asked.text other → IsConfigAnswer (Ok config) other)
      → IfOk r (PrintsAtAddress nonce dialer asked config (address_of config))
      → IfOk r (PrintsConnection nonce dialer asked)
  text_printed config (Ok p) has only prints =
      record { outcome = Ok config; has = has; only = only; prints = prints }
  text_printed config (Err e) has only prints = tt

  pub refusal_printed : (why : ConfigError) (e : PgWireClientError) (r : Result Printed OutOfMemory)
      → e ≡ of_config why → IsParsed asked.text (Err why)
      → ((other : Result Config ConfigError) → HasOutcome asked.text other → IsConfigAnswer (Err why) other)
      → IfOk r (λ p. Says p (error_line e) 1) → OnOk r (e ≢ client.OutOfMemory)
      → IfOk r (PrintsConnection nonce dialer asked)
  refusal_printed why e (Ok p) same parsed only says memory =
      let prints = printed_as why e p same memory says in
      record {
        outcome = Err why;
        has = parsed prints.0;
        only = λ other has. only other has prints.0;
        prints =
            prints;
      }
  refusal_printed why e (Err none) same parsed only says memory = tt
