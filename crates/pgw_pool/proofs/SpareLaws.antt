-- Sessions that come to a pool.
use Rattle.std.proofs.Common.{◌≡◌, ◌≤◌, ℕ, List, [], ◌∷◌, ◌++◌, sym, subst}
use Rattle.pgw_pool.specs.Histories.{History, View, IsIdleInPool, AreIdle}
use Rattle.pgw_pool.proofs.HistoryLaws.{idle_later, idle_more}

pub idle_joins : (last low now : ℕ) (hs : List History) (h : History) (vs all : List View) (v : View) → now ≡ low
    → all ≡ vs ++ v ∷ [] → last ≤ low → AreIdle low hs vs → IsIdleInPool last h v → AreIdle now (hs ++ h ∷ []) all
idle_joins last low now hs h vs all v same grown own are is =
    let later = idle_later last low (h ∷ []) (v ∷ []) own (is, tt) in
    subst (λ n. AreIdle n (hs ++ h ∷ []) all) (sym same)
    (subst (AreIdle low (hs ++ h ∷ [])) (sym grown) (idle_more low hs h vs v are later.0))
