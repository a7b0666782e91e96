-- Methods were offered.
use Rattle.std.proofs.Common.{◌≡◌, ℕ, List, [], ◌∷◌, inr, subst}
use Rattle.pgw_backend.specs.declared.backend.PgWireBackendMessage.{PgWireBackendMessage as Message}
use Rattle.pgw_login.specs.Acts.{Standing, Answer, Sends, Did}
use Rattle.pgw_login_sasl.specs.Sasl.{sasl_request, Offers}

pub did_offer : {S : Type 0} {add : S → Message → S} {s0 s1 : S} {before after : Standing} {answer : Answer}
    {sent : List (List ℕ)} (methods : List (List ℕ))
    → sent ≡ methods →
    Did add s0 s1 (Sends (sasl_request sent ∷ [])) before after answer
    → Did add s0 s1 (Offers methods) before after answer
did_offer {before = before} {after = after} {answer = answer} methods is d =
    record {
      sent = d.sent;
      told = d.told;
      later = d.later;
      done = inr
          (subst (λ (ms : List (List ℕ)). Sends (sasl_request ms ∷ []) before after d.sent answer) is d.done);
    }
