-- Exchanges, one message more in front.
use Rattle.std.proofs.Common.{◌≡◌, ℕ, List, [], ◌∷◌, ◌++◌, map, fold, take, drop, Ok, refl, sym, ◌∙◌, ap, subst, append_assoc}
use Rattle.std.proofs.lemmas.List.{take-append-drop}
use Rattle.pgw_backend.specs.Front.{front, Whole}
use Rattle.pgw_backend.proofs.FrontLaws.{front_spells}
use Rattle.pgw_backend.specs.declared.backend.PgWireBackendMessage.{PgWireBackendMessage as Backend}
use Rattle.pgw_backend.specs.declared.backend.PgWireBackendMessage.TheVariants as backend
use Rattle.pgw_frontend.specs.declared.frontend.PgWireFrontendMessage.{PgWireFrontendMessage as Frontend}
use Rattle.pgw_frontend.specs.Frontend.{encodings, both}
use Rattle.pgw_config.specs.declared.config.Config.{Config}
use Rattle.pgw_session.specs.declared.standing.Standing.{Standing}
use Rattle.pgw_session.specs.Events.{Event, Sent, Got, sents}
use Rattle.pgw_session.specs.Standings.{standing_at, standing_by}
use Rattle.pgw_session.specs.Transcript.{SpellsGot}
use Rattle.pgw_session.proofs.Hears.{sents_append, sents_sends}
use Rattle.pgw_session.proofs.Events.{encodings_append}
use Rattle.pgw_handlers.specs.Client.{Client}
use Rattle.pgw_client_calls.specs.Talk.{Next, client_after}
use Rattle.pgw_client_laws.specs.Turns.{knowing, standing_of_client, AreExchanged}

pub exchanged_none : (config : Config) (s : Standing) (bytes : List ℕ)
    → AreExchanged config s bytes [] [] (knowing config s) bytes
exchanged_none config s bytes = record { spelled = []; begins = refl; got = refl; put = refl; knows = refl }

pub exchanged_got : (config : Config) (s next : Standing) (m : Backend) (bytes rest sent : List ℕ) (len : ℕ)
    (es : List Event) (info : Client) (left : List ℕ) →
    front s.version bytes ≡ Whole m len → rest ≡ drop len bytes → next ≡ standing_by s m
    → AreExchanged config next rest sent es info left
    → AreExchanged config s bytes sent (Got m ∷ es) info left
exchanged_got config s next m bytes rest sent len es info left is are behind x = record {
  spelled = take len bytes ++ x.spelled;
  begins =
      sym (take-append-drop len bytes) ∙ ap (λ (l : List ℕ). take len bytes ++ l) (sym are ∙ x.begins)
      ∙ sym (append_assoc (take len bytes) x.spelled left);
  got = (
    take len bytes,
    x.spelled,
    refl,
    front_spells s.version bytes m len is,
    subst
        (λ (r : Standing). SpellsGot r es x.spelled) behind x.got,
  );
  put = x.put;
  knows = x.knows ∙ ap (λ (r : Standing). knowing config (fold standing_at r es)) behind;
}

spells_sends : (s : Standing) (fs : List Frontend) (es : List Event) (bytes : List ℕ) → SpellsGot s es bytes
    → SpellsGot s (map Sent fs ++ es) bytes
spells_sends s [] es bytes got = got
spells_sends s (f ∷ fs) es bytes got = spells_sends s fs es bytes got

pub fold_sends : (s : Standing) (fs : List Frontend) (es : List Event)
    → fold standing_at s (map Sent fs ++ es) ≡ fold standing_at s es
fold_sends s [] es = refl
fold_sends s (f ∷ fs) es = fold_sends s fs es

pub exchanged_sent : (config : Config) (s : Standing) (fs : List Frontend) (out bytes sent : List ℕ)
    (es : List Event) (info : Client) (left : List ℕ) →
    encodings fs ≡ Ok out → AreExchanged config s bytes sent es info left
    → AreExchanged config s bytes (out ++ sent) (map Sent fs ++ es) info left
exchanged_sent config s fs out bytes sent es info left is x = record {
  spelled = x.spelled;
  begins = x.begins;
  got = spells_sends s fs es x.spelled x.got;
  put = ap encodings (sents_append (map Sent fs) es ∙ ap (λ (l : List Frontend). l ++ sents es) (sents_sends fs))
      ∙ encodings_append fs (sents es) ∙ ap (λ o. both o (encodings (sents es))) is ∙ ap (both (Ok out)) x.put;
  knows = x.knows ∙ ap (knowing config) (sym (fold_sends s fs es));
}

-- ---- behind ReadyForQuery

pub told_standing : (c : Client) (m : Backend)
    → standing_of_client (client_after m c) ≡ standing_by (standing_of_client c) m
told_standing c (backend.ParameterStatus m) = refl
told_standing c (backend.ReadyForQuery m) = refl
told_standing c m = refl

told_config : (c : Client) (m : Backend) → (client_after m c).config ≡ c.config
told_config c (backend.ParameterStatus m) = refl
told_config c (backend.ReadyForQuery m) = refl
told_config c m = refl

pub got_one : (c d : Client) (m : Backend) (bytes rest sent : List ℕ) (es : List Event) (info : Client)
    (left : List ℕ)
    → Next c bytes m rest → d ≡ client_after m c →
    AreExchanged d.config (standing_of_client d) rest sent es info left
    → AreExchanged c.config (standing_of_client c) bytes sent (Got m ∷ es) info left
got_one c d m bytes rest sent es info left next is x =
    exchanged_got c.config (standing_of_client c) (standing_of_client d) m bytes rest sent next.0 es info left
    next.1 next.2
    (ap standing_of_client is ∙ told_standing c m)
    (subst (λ (k : Config). AreExchanged k (standing_of_client d) rest sent es info left)
    (ap (λ (x : Client). x.config) is
    ∙ told_config c m) x)

pub got_last : (c : Client) (m : Backend) (bytes rest : List ℕ) → Next c bytes m rest
    → AreExchanged c.config (standing_of_client c) bytes [] (Got m ∷ []) (client_after m c) rest
got_last c m bytes rest next =
    got_one c (client_after m c) m bytes rest [] [] (client_after m c) rest next refl
    (exchanged_none (client_after m c).config (standing_of_client (client_after m c)) rest)
