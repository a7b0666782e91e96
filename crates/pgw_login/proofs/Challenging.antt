-- A client was asked for a password.
use Rattle.std.proofs.Common.{◌≡◌, List, [], ◌∷◌, ◌++◌, None, Result, Ok, Err, refl, sym, subst}
use Rattle.pgw_types.specs.declared.error.PgWireError.{PgWireError}
use Rattle.pgw_backend.specs.declared.backend.PgWireBackendMessage.{PgWireBackendMessage as Message}
use Rattle.pgw_login.specs.Login.{Login, login_seen}
use Rattle.pgw_login.specs.Acts.{Standing, Answer, Then, halts, goes, Marks, Sends, Did}
use Rattle.pgw_login.specs.Password.{Opener, with_kept, ChallengedBy, Challenges}
use Rattle.pgw_login.specs.Cleartext.{cleartext_request, cleartext_challenge, OpensCleartext}
use Rattle.pgw_login.specs.declared.password.Challenge.{Challenge}

pub did_challenge : {S : Type 0} {add : S → Message → S} {s0 s1 : S} {before after : Standing} {answer : Answer}
    (opens : Opener) (challenge : Result Challenge PgWireError)
    → opens (login_seen before.client) challenge →
    Did add s0 s1 (ChallengedBy challenge) before after answer
    → Did add s0 s1 (Challenges opens) before after answer
did_challenge opens challenge opened d =
    record { sent = d.sent; told = d.told; later = d.later; done = (challenge, opened, d.done) }

-- ---- in clear text

keeps_nothing : (due : List Message) (before after : Standing) (sent : List Message) (answer : Answer)
    → Then (Marks (with_kept None)) (Sends due) before after sent answer → Sends due before after sent answer
keeps_nothing due before after sent answer (halts b a s e h) = absurd cc
keeps_nothing due before after sent answer (goes b mid a front back r x y) =
    let same : mid ≡ b = x.0 in
    subst (λ (l : List Message). Sends due b a (l ++ back) r) (sym x.1)
    (subst (λ (s : Standing). Sends due s a back r) same y)

pub cleartext_asked : (before after : Standing) (sent : List Message) (answer : Answer)
    → Challenges OpensCleartext before after sent answer
    → Sends (cleartext_request ∷ []) before after sent answer
cleartext_asked before after sent answer h =
    keeps_nothing (cleartext_request ∷ []) before after sent answer
    (subst (λ (c : Result Challenge PgWireError). ChallengedBy c before after sent answer) h.1 h.2)

pub asked_cleartext : (before after : Standing) (sent : List Message) (answer : Answer)
    → Sends (cleartext_request ∷ []) before after sent answer
    → Challenges OpensCleartext before after sent answer
asked_cleartext before after sent answer h =
    (Ok cleartext_challenge, refl, goes before before after [] sent answer (refl, refl, refl) h)
