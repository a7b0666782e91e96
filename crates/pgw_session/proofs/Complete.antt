-- Of the conversations of two fronts of the same bytes.
use Rattle.std.proofs.Common.{◌≡◌, ◌≤◌, ◌⊎◌, ℕ, List, [], ◌∷◌, ◌++◌, length, inl, inr, arith, refl, ◌∙◌, ap, sym, length-append}
use Rattle.pgw_session.specs.Events.{Event}
use Rattle.pgw_session.specs.Transcript.{Completes}
use Rattle.pgw_machine.specs.Course.{Waits, Over, run}
use Rattle.pgw_session.specs.Talk.{Talk, Ending, talk_rules, conversation, beginning, whole_talk}
use Rattle.pgw_machine.proofs.CourseLaws.{run_over, run_append}
use Rattle.pgw_session.proofs.Whole.{conversation_completes}
use Rattle.pgw_session.specs.Input.{Input}

-- a list that begins as another, and is no shorter, is the other and more
pub prefix_split : (xs ys a b : List ℕ) → xs ++ a ≡ ys ++ b → length xs ≤ length ys
    → (m : List ℕ) × (ys ≡ xs ++ m) × (a ≡ m ++ b)
prefix_split [] ys a b e le = (ys, refl, e)
prefix_split (x ∷ xs) [] a b e le = absurd (omega arith)
prefix_split (x ∷ xs) (y ∷ ys) a b e le =
    let tails : xs ++ a ≡ ys ++ b = cc in
    let heads : x ≡ y = cc in
    let rest = prefix_split xs ys a b tails (omega arith) in
    (rest.0, ap (λ (l : List ℕ). y ∷ l) rest.1 ∙ ap (λ z. z ∷ (xs ++ rest.0)) (sym heads), rest.2)

-- where both ended, the ends are the same
pub ends_agree : (input : Input) (taken left bytes more : List ℕ) (e whole : Ending) (s out : List ℕ)
    → taken ++ left ≡ bytes ++ more
    → conversation input taken ≡ Over e s → conversation input (bytes ++ more) ≡ Over whole out → e ≡ whole
unfolding conversation
ends_agree input taken left bytes more e whole s out same ended completes =
    let start = beginning input in
    let rules = talk_rules input in
    let on : run rules start (taken ++ left) ≡ Over e s =
    run_append rules start taken left ∙ ap (λ c. run rules c left) ended ∙ run_over rules e s left in
    let both : Over e s ≡ Over whole out = sym on ∙ ap (run rules start) same ∙ completes in
    cc

-- the conversation of the longer one does not wait where that of the shorter one ended
pub waits_before : (input : Input) (taken left bytes more sent pending : List ℕ) (t : Talk) (whole : Ending)
    (out : List ℕ)
    → bytes ++ more ≡ taken ++ left → length bytes ≤ length taken
    → ((rest : List ℕ) → conversation input (bytes ++ rest) ≡ Over whole out)
    → conversation input taken ≡ Waits t sent pending → ⊥
waits_before input taken left bytes more sent pending t whole out same le completes waits =
    let split = prefix_split bytes taken more left same le in
    let over = ap (conversation input) split.1 ∙ completes split.0 in
    cc

-- where the bytes to come complete a transcript, a conversation of a front of them that ended, ended there
pub ended_whole : (input : Input) (limit : ℕ) (all taken left sent : List ℕ) (ending : Ending)
    (segments : List (List Event))
    → all ≡ taken ++ left → Completes input limit all segments
    → conversation input taken ≡ Over ending sent → ending ≡ whole_talk segments
ended_whole input limit all taken left sent ending segments are c is =
    ends_agree input taken left c.bytes c.more ending (whole_talk segments) sent c.sent (sym are
    ∙ c.begins) is (conversation_completes input segments c.bytes c.sent c.more c.transcript c.got c.put)

-- and at the limit, or where no more bytes come, it has ended
pub never_waits : (input : Input) (limit : ℕ) (all taken left sent pending : List ℕ) (t : Talk)
    (segments : List (List Event))
    → all ≡ taken ++ left → Completes input limit all segments
    → (length taken ≡ limit) ⊎ (left ≡ []) → conversation input taken ≡ Waits t sent pending → ⊥
never_waits input limit all taken left sent pending t segments are c end is =
    waits_before input taken left c.bytes c.more sent pending t (whole_talk segments) c.sent (sym c.begins
    ∙ are) (short end) (λ rest. conversation_completes input segments c.bytes c.sent rest c.transcript c.got
    c.put) is
  where
    short : (length taken ≡ limit) ⊎ (left ≡ []) → length c.bytes ≤ length taken
    short (inl at) = omega (arith, c.within, at)
    short (inr none) =
        omega (
          arith,
          ap length are,
          ap length c.begins,
          length-append taken left,
          length-append c.bytes c.more,
          ap length none,
        )
