-- A session of a pool is its leases.
use Rattle.std.proofs.Common.{◌≡◌, ℕ, List, [], ◌∷◌, ◌++◌, refl, sym, ◌∙◌, ap, subst, append_assoc}
use Rattle.std.proofs.lemmas.List.{append-nil}
use Rattle.pgw_config.specs.declared.config.Config.{Config}
use Rattle.pgw_session.specs.declared.types.Request.{Request}
use Rattle.pgw_session.specs.Input.{input_with}
use Rattle.pgw_session.specs.Events.{Event, all_events}
use Rattle.pgw_session.specs.Standings.{first_standing}
use Rattle.pgw_session.specs.Transcript.{IsTranscript, SpellsGot, EncodesSent}
use Rattle.pgw_handlers.specs.Client.{Client}
use Rattle.pgw_client_laws.specs.Stands.{Made, made_call, StandsForCalls, requests_of, segments_of, AreAnswered, IsSession}
use Rattle.pgw_pool.specs.Histories.{Lent, Over, ended, checked, History, reset, made_in, made_over, IsOver, AreReset, View, StandsBy, IsIdleInPool, IsLent}
use Rattle.pgw_pool.specs.Sessions.{requests_in, requests_over, segments_in, segments_over, IsAllAnswered, AreAllAnswered, IsMadeOf}

requests_append : (ts us : List Made) → requests_of (ts ++ us) ≡ requests_of ts ++ requests_of us
requests_append [] us = refl
requests_append (t ∷ ts) us = ap (λ (l : List Request). t.request ∷ l) (requests_append ts us)

segments_append : (ts us : List Made) → segments_of (ts ++ us) ≡ segments_of ts ++ segments_of us
segments_append [] us = refl
segments_append (t ∷ ts) us = ap (λ (l : List (List Event)). t.events ∷ l) (segments_append ts us)

requests_one : (o : Over) → requests_of (made_in o) ≡ requests_in o
requests_one (ended l es) = requests_append l.made (made_call reset es ∷ [])
requests_one (checked es) = refl

segments_one : (o : Over) → segments_of (made_in o) ≡ segments_in o
segments_one (ended l es) = segments_append l.made (made_call reset es ∷ [])
segments_one (checked es) = refl

requests_are : (os : List Over) (ts : List Made)
    → requests_of (made_over os ++ ts) ≡ requests_over os ++ requests_of ts
requests_are [] ts = refl
requests_are (o ∷ os) ts =
    ap requests_of (append_assoc (made_in o) (made_over os) ts)
    ∙ requests_append (made_in o) (made_over os ++ ts)
    ∙ ap (λ (l : List Request). l ++ requests_of (made_over os ++ ts)) (requests_one o)
    ∙ ap (λ (l : List Request). requests_in o ++ l) (requests_are os ts)
    ∙ sym (append_assoc (requests_in o) (requests_over os) (requests_of ts))

segments_are : (os : List Over) (ts : List Made)
    → segments_of (made_over os ++ ts) ≡ segments_over os ++ segments_of ts
segments_are [] ts = refl
segments_are (o ∷ os) ts =
    ap segments_of (append_assoc (made_in o) (made_over os) ts)
    ∙ segments_append (made_in o) (made_over os ++ ts)
    ∙ ap (λ (l : List (List Event)). l ++ segments_of (made_over os ++ ts)) (segments_one o)
    ∙ ap (λ (l : List (List Event)). segments_in o ++ l) (segments_are os ts)
    ∙ sym (append_assoc (segments_in o) (segments_over os) (segments_of ts))

answered_append : (ts us : List Made) → AreAnswered ts → AreAnswered us → AreAnswered (ts ++ us)
answered_append [] us a b = b
answered_append (t ∷ ts) us a b = (a.0, answered_append ts us a.1 b)

answered_one : (o : Over) → IsOver o → IsAllAnswered o → AreAnswered (made_in o)
answered_one (ended l es) is own = answered_append l.made (made_call reset es ∷ []) own ((is.1).0, tt)
answered_one (checked es) is own = ((is.0).0, tt)

answered_over : (os : List Over) → AreReset os → AreAllAnswered os → AreAnswered (made_over os)
answered_over [] are all = tt
answered_over (o ∷ os) are all =
    answered_append (made_in o) (made_over os) (answered_one o are.0 all.0) (answered_over os are.1 all.1)

-- the law on clients
abbrev pub Wholes : Type 0
Wholes =
    (config : Config) (nonce : List ℕ) (ts : List Made) (read wrote : List ℕ) (c : Client) (buffer : List ℕ)
    → StandsForCalls config nonce ts read wrote c buffer → AreAnswered ts
    → IsSession config nonce ts read wrote c buffer

pub made_of : Wholes → (h : History) (ts : List Made) (v : View) → StandsBy h (made_over h.over ++ ts) v
    → AreReset h.over → AreAllAnswered h.over → AreAnswered ts → IsMadeOf h ts v
made_of law h ts v stands are all answered =
    let s =
    law h.config h.nonce (made_over h.over ++ ts) v.line.tape.took v.line.tape.wrote v.client v.line.buffer
    stands (answered_append (made_over h.over) ts (answered_over h.over are all) answered) in
    let segments = segments_are h.over ts in
    record {
      startup = s.startup;
      transcript =
          subst (λ (qs : List Request). IsTranscript (input_with h.config qs h.nonce)
          (s.startup ∷ (segments_over h.over ++ segments_of ts))) (requests_are h.over ts)
          (subst (λ (l : List (List Event)). IsTranscript
          (input_with h.config (requests_of (made_over h.over ++ ts)) h.nonce) (s.startup ∷ l)) segments
          s.transcript);
      spelled = s.spelled;
      begins = s.begins;
      got = subst (λ (l : List (List Event)). SpellsGot (first_standing h.config) (all_events (s.startup ∷ l))
          s.spelled) segments s.got;
      put = subst (λ (l : List (List Event)). EncodesSent (all_events (s.startup ∷ l)) v.line.tape.wrote) segments
          s.put;
    }

pub idle_made_of : Wholes → (lent : ℕ) (h : History) (v : View) → IsIdleInPool lent h v → AreAllAnswered h.over
    → IsMadeOf h [] v
idle_made_of law lent h v is all =
    made_of law h [] v (subst (λ (ts : List Made). StandsBy h ts v) (sym (append-nil (made_over h.over))) is.stands)
    is.resets all tt

pub lent_made_of : Wholes → (h : History) (l : Lent) (v : View) → IsLent h l v → AreAllAnswered h.over
    → AreAnswered l.made → IsMadeOf h l.made v
lent_made_of law h l v is all answered = made_of law h l.made v is.stands is.resets all answered
