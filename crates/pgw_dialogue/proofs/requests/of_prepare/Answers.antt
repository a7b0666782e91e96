use Rattle.std.proofs.Common.{◌≡◌, List, [], ◌∷◌, ◌++◌, ap, ◌∙◌}
use Rattle.pgw_frontend.specs.declared.frontend.PgWireFrontendMessage.{PgWireFrontendMessage as Frontend}
use Rattle.pgw_dialogue.proofs.requests.of_prepare.Goals as goal

all_sent : (l0 l1 l2 l3 : List Frontend) (a b c x y z : Frontend) → l0 ≡ [] → l1 ≡ l0 ++ a ∷ []
    → l2 ≡ l1 ++ b ∷ [] → l3 ≡ l2 ++ c ∷ [] → a ≡ x → b ≡ y → c ≡ z → l3 ≡ x ∷ y ∷ z ∷ []
all_sent l0 l1 l2 l3 a b c x y z none one two all is_x is_y is_z =
    let sent : l3 ≡ a ∷ b ∷ c ∷ [] =
    all ∙ ap (λ (l : List Frontend). l ++ c ∷ []) (two
    ∙ ap (λ (l : List Frontend). l ++ b ∷ []) (one ∙ ap (λ (l : List Frontend). l ++ a ∷ []) none)) in
    cc

pub returns : goal.returns
returns c =
    all_sent _ _ _ _ _ _ _ _ _ _ c.new-sends.ensures.items c.in_ok-push.ensures.items c.in_ok-push-2.ensures.items
    c.in_ok-push-3.ensures.items c.in_ok-parse.ensures c.in_ok-describe.ensures c.sync.ensures
