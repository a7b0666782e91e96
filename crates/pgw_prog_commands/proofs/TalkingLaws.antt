-- What a client's calls are to those who ask queries of it.
use Rattle.std.proofs.Common.{◌≡◌, ◌∷◌, ◌∙◌, ◌≤◌, ◌+◌, ◌-◌, ℕ, List, [], ◌++◌, length, drop, Bool, true, false}
use Rattle.std.proofs.Common.{Option, Some, None, Result, Ok, Err, OnOk, OnErr, IfErr, inl, inr, refl, sym, ap, subst, arith}
use Rattle.std.proofs.lemmas.List.{append-nil, length-append}
use Rattle.std.proofs.lemmas.Bool.{cases_Bool}
use Rattle.pgw_types.specs.declared.error.PgWireError.{PgWireError}
use Rattle.pgw_backend.specs.declared.backend.PgWireBackendMessage.{PgWireBackendMessage as Backend}
use Rattle.pgw_backend.specs.Front.{front, Bad}
use Rattle.pgw_backend.specs.declared.client_error.PgWireClientError.{PgWireClientError as ClientError}
use Rattle.pgw_backend.specs.declared.client_error.PgWireClientError.TheVariants as client
use Rattle.pgw_link.specs.Tape.{Tape}
use Rattle.pgw_handlers.specs.Client.{Client, Sight}
use Rattle.pgw_handlers.specs.Sending.{Sent, NotSent, WritesFront, bytes_or_none as sent_or_none}
use Rattle.pgw_handlers.specs.Handling.{Leaves}
use Rattle.pgw_handlers.specs.declared.client_info.ReadyState.TheVariants.{Pending, Ready}
use Rattle.pgw_client_calls.specs.State.{ClientState, line_of as whole_line}
use Rattle.pgw_client_calls.specs.Line.{Line as WholeLine}
use Rattle.pgw_client_calls.specs.Reading.{ReadOnce}
use Rattle.pgw_client_calls.specs.Calls.{sight_in, faults_in, own_in, rest_in, CallFrame, KeptRest}
use Rattle.pgw_client_calls.specs.Filling.{Fills as ClientFills, Polls}
use Rattle.pgw_prog_output.specs.Lines.{ServerLine, AsksQuery, AsksSome, QueryNotAsked, SendsQuery, IsUnreadCause, LineTakes, LineFills, query_bytes_or_none}
use Rattle.pgw_prog_output.specs.Lines.{simple_query_bytes}
use Rattle.pgw_prog_commands.specs.Talking.{line_of_client}

module _ {X : Type 0} (tape : X → Tape) (faults : X → ℕ) where
  -- ---- a line, by its parts

  line_is : (c : ClientState X) (x : ServerLine) → (tape c.link).took ≡ x.came → c.buffer ≡ x.buffer
      → (tape c.link).wrote ≡ x.sent → (c.known).protocol_version ≡ x.version → c.limit - c.read ≡ x.left
      → length (tape c.link).ended ≡ x.ended → faults c.link ≡ x.faults → c.broken ≡ x.broken
      → line_of_client tape faults c ≡ x
  line_is c x came buffer sent version left ended failures broken =
      rw (came, buffer, sent, version, left, ended, failures, broken) refl

  version_is : (old new : ClientState X) → new.known ≡ old.known
      → (new.known).protocol_version ≡ (old.known).protocol_version
  version_is old new known = ap (λ (c : Client). c.protocol_version) known

  same_line : (old new : ClientState X) → new ≡ old
      → line_of_client tape faults new ≡ line_of_client tape faults old
  same_line old new same = ap (λ (c : ClientState X). line_of_client tape faults c) same

  -- ---- asking

  same_bytes : (spelled : Result (List ℕ) PgWireError) → sent_or_none spelled ≡ query_bytes_or_none spelled
  same_bytes (Ok bytes) = refl
  same_bytes (Err e) = refl

  -- a call that sends leaves the line but for what it sends, the faults, and whether the client can be used
  sent_line : {T : Type 0} (old new : ClientState X) (sent : List ℕ) (broken : Bool)
      (result : Result T ClientError)
      → Leaves own_in (rest_in tape) (faults_in faults) (sight_in tape) old new result → new.known ≡ old.known
      → (tape new.link).wrote ≡ sent → new.broken ≡ broken
      → line_of_client tape faults new ≡ record (line_of_client tape faults old) {
        sent = sent;
        faults = faults new.link;
        broken = broken;
      }
  sent_line old new sent broken result l known wrote usable =
      line_is new (record (line_of_client tape faults old) { sent = sent; faults = faults new.link; broken = broken })
      (ap (λ (k : KeptRest). k.took) l.rest) (ap (λ (k : CallFrame). k.buffer) l.own) wrote
      (version_is old new known)
      (ap (λ (k : CallFrame). k.limit - k.read) l.own) (ap (λ (k : KeptRest). length k.ended) l.rest) refl usable

  asked : {T : Type 0} (query : List ℕ) (old new : ClientState X) (result : Result T ClientError)
      → Sent (simple_query_bytes query) (sight_in tape old) (sight_in tape new) → new.known ≡ old.known
      → Leaves own_in (rest_in tape) (faults_in faults) (sight_in tape) old new result
      → AsksQuery query (line_of_client tape faults old) (line_of_client tape faults new)
  asked query old new result s known l = record {
    bytes = s.bytes;
    spelled = s.spells;
    usable = s.usable;
    line = sent_line old new ((tape old.link).wrote ++ s.bytes) old.broken result l known (ap (λ (x : Sight).
        x.wrote) s.after) (ap (λ (x : Sight). x.broken) s.after);
  }

  some_asked : {T : Type 0} (query : List ℕ) (old new : ClientState X) (result : Result T ClientError)
      → WritesFront (simple_query_bytes query) (sight_in tape old) (sight_in tape new) → new.known ≡ old.known
      → Leaves own_in (rest_in tape) (faults_in faults) (sight_in tape) old new result
      → AsksSome query (line_of_client tape faults old) (line_of_client tape faults new)
  some_asked query old new result w known l = record {
    front = w.front;
    behind = w.behind;
    cut = sym (same_bytes (simple_query_bytes query)) ∙ w.cut;
    line = sent_line old new ((tape old.link).wrote ++ w.front) new.broken result l known (ap (λ (x : Sight).
        x.wrote) w.after) refl;
  }

  -- nothing was sent
  none_sent : {T : Type 0} (old new : ClientState X) (result : Result T ClientError)
      → sight_in tape new ≡ sight_in tape old → new.known ≡ old.known
      → Leaves own_in (rest_in tape) (faults_in faults) (sight_in tape) old new result
      → line_of_client tape faults new ≡ record (line_of_client tape faults old) { faults = faults new.link }
  none_sent old new result same known l = sent_line old new (tape old.link).wrote old.broken result l known (ap
      (λ (x : Sight). x.wrote) same) (ap (λ (x : Sight). x.broken) same)

  not_asked : (query : List ℕ) (old new : ClientState X) (e : ClientError)
      (result : Result (Unit {0}) ClientError)
      → result ≡ Err e → NotSent (simple_query_bytes query) (sight_in tape old) (sight_in tape new) e
      → new.known ≡ old.known
      → Leaves own_in (rest_in tape) (faults_in faults) (sight_in tape) old new result
      → QueryNotAsked query (line_of_client tape faults old) (line_of_client tape faults new) e
  not_asked query old new client.IoError result is w known l =
      (some_asked query old new result w known l, rw is at (l.cause.failed))
  not_asked query old new client.OutOfMemory result is w known l = some_asked query old new result w known l
  not_asked query old new (client.PgWireError why) result is w known l = (
    w.1,
    none_sent old new result w.2
        known l,
  )
  not_asked query old new client.Broken result is w known l = (w.0, none_sent old new result w.1 known l)
  not_asked query old new e result is w known l = absurd w

  pub sends : (query : List ℕ) (old new : ClientState X) (result : Result (Unit {0}) ClientError)
      → OnOk result (Sent (simple_query_bytes query) (sight_in tape old) (sight_in tape new))
      → IfErr result (λ e. NotSent (simple_query_bytes query) (sight_in tape old) (sight_in tape new) e)
      → new.known ≡ old.known
      → Leaves own_in (rest_in tape) (faults_in faults) (sight_in tape) old new result
      → SendsQuery query (line_of_client tape faults old) (line_of_client tape faults new) result
  sends query old new (Ok done) s n known l = asked query old new (Ok done) s known l
  sends query old new (Err e) s n known l = not_asked query old new e (Err e) refl n known l

  -- a query that there is no memory for
  pub unspelled : (query : List ℕ) (c : ClientState X)
      → AsksSome query (line_of_client tape faults c) (line_of_client tape faults c)
  unspelled query c = record {
    front = [];
    behind = query_bytes_or_none (simple_query_bytes query);
    cut = refl;
    line = ap (λ (w : List ℕ). record (line_of_client tape faults c) { sent = w })
        (sym (append-nil (tape c.link).wrote));
  }

  -- ---- taking a message

  polled_line : (old new : ClientState X) (buffer : List ℕ) (broken : Bool) → new.link ≡ old.link
      → new.known ≡ old.known → new.limit ≡ old.limit → new.read ≡ old.read → new.buffer ≡ buffer
      → new.broken ≡ broken
      → line_of_client tape faults new ≡ record (line_of_client tape faults old)
      { buffer = buffer; broken = broken }
  polled_line old new buffer broken link known limit read buffered usable =
      line_is new (record (line_of_client tape faults old) { buffer = buffer; broken = broken })
      (ap (λ (x : X). (tape x).took) link) buffered (ap (λ (x : X). (tape x).wrote) link)
      (version_is old new known)
      (ap (λ (k : ℕ). k - new.read) limit ∙ ap (λ (k : ℕ). old.limit - k) read)
      (ap (λ (x : X). length (tape x).ended) link) (ap faults link) usable

  unread_as : (e : ClientError) (l : ServerLine)
      → ((e ≡ client.OutOfMemory → ⊥) → (why : PgWireError) × (front l.version
      l.buffer ≡ Bad why) × (e ≡ client.PgWireError why)) → IsUnreadCause l e
  unread_as client.OutOfMemory l u = tt
  unread_as (client.PgWireError why) l u =
      let w = u (λ is. absurd (cc)) in
      let said = w.2 in
      let same : w.0 ≡ why = cc in
      subst (λ (x : PgWireError). front l.version l.buffer ≡ Bad x) same w.1
  unread_as e l u = absurd (let w = u (λ is. absurd (cc)) in let said = w.2 in cc)

  unread_broken : (old new : ClientState X) (e : ClientError) → old.broken ≡ true → e ≡ client.Broken → new ≡ old
      → LineTakes (line_of_client tape faults old) (line_of_client tape faults new) (Err e)
  unread_broken old new e broken is same = (
    subst (λ (x : ClientError). IsUnreadCause (line_of_client tape faults old) x) (sym is) broken,
    same_line old new same ∙ ap (λ (b : Bool). record (line_of_client tape faults old) { broken = b }) broken,
  )

  pub untaken : (old new : ClientState X) (e : ClientError) → Polls old new (Err e)
      → LineTakes (line_of_client tape faults old) (line_of_client tape faults new) (Err e)
  untaken old new e p = elim (cases_Bool old.broken) [
    | inl broken ↦
        let q = p.broken broken in
        let said = q.0 in
        let is : e ≡ client.Broken = cc in
        unread_broken old new e broken is q.1
    | inr fine ↦
        let q = p.polled fine in (
          unread_as e (line_of_client tape faults old) q.0,
          polled_line old new old.buffer true p.link p.known p.limit p.read q.1 q.2,
        )
  ]

  pub none_taken : (old new : ClientState X) → Polls old new (Ok Pending)
      → LineTakes (line_of_client tape faults old) (line_of_client tape faults new) (Ok None)
  none_taken old new p = elim (cases_Bool old.broken) [
    | inl broken ↦ absurd (let e = (p.broken broken).0 in cc)
    | inr fine ↦
        let q = p.polled fine in (
          q.0,
          polled_line old new old.buffer old.broken p.link p.known p.limit p.read q.1 (q.2 ∙ sym fine),
        )
  ]

  pub one_taken : (old new : ClientState X) (m : Backend) → Polls old new (Ok (Ready m))
      → LineTakes (line_of_client tape faults old) (line_of_client tape faults new) (Ok (Some m))
  one_taken old new m p = elim (cases_Bool old.broken) [
    | inl broken ↦ absurd (let e = (p.broken broken).0 in cc)
    | inr fine ↦
        let q = p.polled fine in (
          q.0,
          q.1,
          polled_line old new (drop q.0 old.buffer) old.broken p.link p.known p.limit p.read q.2 (q.3 ∙ sym fine),
        )
  ]

  -- ---- waiting for more bytes

  none_came : (old new : ClientState X) → (tape new.link).took ≡ (tape old.link).took ++ []
      → (tape new.link).took ≡ (tape old.link).took
  none_came old new took = took ∙ append-nil (tape old.link).took

  read_on : (old new : ClientState X) (result : Result Bool ClientError) → old.broken ≡ false
      → new.known ≡ old.known → new.read ≤ new.limit → OnOk result (new.broken ≡ false)
      → OnErr result (new.broken ≡ true)
      → ReadOnce (whole_line tape faults old) (whole_line tape faults new) result
      → LineFills (line_of_client tape faults old) (line_of_client tape faults new) result
  read_on old new (Ok true) fine known within usable broken r = record {
    bytes = r.piece;
    some = omega (arith, r.some, r.drew.read);
    left = omega (arith, within, r.some, r.drew.read, r.drew.limit);
    line = line_is new (record (line_of_client tape faults old) {
      came = (tape old.link).took ++ r.piece;
      buffer = old.buffer ++ r.piece;
      left = new.limit - new.read;
    }) r.drew.took r.buffer r.drew.wrote (version_is old new known) refl (ap (λ (ns : List ℕ). length ns)
        r.goes_on.0) r.goes_on.1 (usable ∙ sym fine);
  }
  read_on old new (Ok false) fine known within usable broken r =
      let left : new.limit - new.read ≡ old.limit - old.read = omega (arith, r.drew.read, r.drew.limit) in
      line_is new (record (line_of_client tape faults old) { ended = length (tape old.link).ended + 1 })
      (none_came old new r.drew.took) r.buffer r.drew.wrote (version_is old new known) left (ap
      (λ (ns : List ℕ). length ns) r.ended
      ∙ length-append (tape old.link).ended ((tape old.link).flushed ∷ [])) r.faults (usable ∙ sym fine)
  read_on old new (Err client.OutOfMemory) fine known within usable broken r = record {
    bytes = r.piece;
    line = line_is new (record (line_of_client tape faults old) {
      came = (tape old.link).took ++ r.piece;
      left = new.limit - new.read;
      broken = true;
    }) r.drew.took r.buffer r.drew.wrote (version_is old new known) refl (ap (λ (ns : List ℕ). length ns)
        r.ended) r.faults broken;
  }
  read_on old new (Err client.IoError) fine known within usable broken r =
      let left : new.limit - new.read ≡ old.limit - old.read = omega (arith, r.drew.read, r.drew.limit) in (
        r.rose,
        line_is new (record (line_of_client tape faults old) { faults = faults new.link; broken = true })
            (none_came old new r.drew.took) r.buffer r.drew.wrote (version_is old new known) left (ap (λ (ns :
            List ℕ). length ns) r.ended) refl broken,
      )
  read_on old new (Err client.ReadLimit) fine known within usable broken r =
      let same = r.0 in
      let none : old.limit - old.read ≡ 0 = omega (arith, r.1) in (
        none,
        line_is new (record (line_of_client tape faults old) { broken = true })
            (ap (λ (l : WholeLine). (l.tape).took) same) (ap (λ (l : WholeLine). l.buffer) same)
            (ap (λ (l : WholeLine). (l.tape).wrote) same) (version_is old new known)
            (ap (λ (l : WholeLine). l.limit - l.read) same) (ap (λ (l : WholeLine). length (l.tape).ended) same)
            (ap (λ (l : WholeLine). l.faults) same) broken,
      )
  read_on old new (Err e) fine known within usable broken r = absurd r

  unread : (old new : ClientState X) (result : Result Bool ClientError) → old.broken ≡ true
      → result ≡ Err client.Broken → new ≡ old
      → LineFills (line_of_client tape faults old) (line_of_client tape faults new) result
  unread old new result broken is same = rw is (broken, same_line old new same)

  pub filled : (foretells : Type 0) (left : X → Option (List ℕ)) (old new : ClientState X) (result : Result Bool
      ClientError) → ClientFills foretells left tape faults old new result
      → LineFills (line_of_client tape faults old) (line_of_client tape faults new) result
  filled foretells left old new result f = elim (cases_Bool old.broken) [
    | inl broken ↦ unread old new result broken (f.broken broken).0 (f.broken broken).1
    | inr fine ↦ read_on old new result fine f.known f.within f.usable f.unusable (f.reads fine)
  ]
