-- Pieces of bytes that a dialogue is given, one after the other.
use Rattle.std.proofs.Common.{◌≡◌, ◌<◌, ◌≤◌, ◌⊎◌, ℕ, zero, suc, ◌+◌, ◌-◌, List, [], ◌∷◌, ◌++◌, length, get_or, take, drop, Option, Some, None, IfSome, Result, Ok, Err, inl, inr, arith, refl, ◌∙◌, ap, sym, subst, add-one, append_assoc, length-append}
use Rattle.std.proofs.lemmas.List.{append-nil, take-append-drop, take-append-le, take_all}
use Rattle.std.proofs.lemmas.List.Folds.{concat-append}
use Rattle.std.proofs.Math.Seq.{take-suc}
use Rattle.std.specs.List.{concat}
use Rattle.pgw_backend.specs.declared.client_error.PgWireClientError.{PgWireClientError as ClientError}
use Rattle.pgw_backend.specs.declared.client_error.PgWireClientError.TheVariants as client
use Rattle.pgw_dialogue.proofs.WireLaws.{memory_or}
use Rattle.pgw_dialogue.specs.Demands.{RefusesKey}
use Rattle.pgw_dialogue.specs.Machine.{notes_end, report_at}
use Rattle.pgw_dialogue.specs.Wire.{Unless}
use Rattle.pgw_machine.specs.Course.{Course, Waits, Over}
use Rattle.pgw_dialogue.proofs.DialogueLaws.{split, takes_broken, takes_done}
use Rattle.pgw_dialogue.proofs.TalkLaws.{over_on}
use Rattle.pgw_dialogue.specs.Answers.{answer_at, answer_to, taken_of, waiting_answer}
use Rattle.pgw_dialogue.specs.Dialogue.{Awaits, IsBehind, IsBroken, IsDone, IsStarved, Stands, Starts, Takes}
use Rattle.pgw_dialogue.specs.declared.dialogue.Dialogue.{Dialogue}
use Rattle.pgw_dialogue.specs.declared.phase.DialoguePhase.{DialoguePhase}
use Rattle.pgw_dialogue.specs.declared.phase.DialoguePhase.TheVariants as phase
use Rattle.pgw_session.specs.declared.types.SessionReport.{SessionReport}
use Rattle.pgw_session.specs.Input.{Input}
use Rattle.pgw_session.specs.Talk.{Talk, Ending, conversation}
use Rattle.example_dialogue.specs.Push.{HoldsExample, begun, unbegun}

-- ---- the bytes of the pieces

-- those so far, with the next
pub with_next : (pieces : List (List ℕ)) (i : ℕ) (piece item : List ℕ) → i < length pieces
    → item ≡ get_or pieces i item → piece ≡ item → concat (take (i + 1) pieces) ≡ concat (take i pieces) ++ piece
with_next pieces i piece item in_list is same =
    let more : take (suc i) pieces ≡ take i pieces ++ (get_or pieces i item ∷ []) =
    take-suc pieces i item in_list in
    ap (λ n. concat (take n pieces)) (add-one i)
    ∙ ap concat more
    ∙ concat-append (take i pieces) (get_or pieces i item ∷ [])
    ∙ ap (λ (b : List ℕ). concat (take i pieces) ++ b) (append-nil (get_or pieces i item) ∙ sym is ∙ sym same)

-- all of them are those so far, the next and the rest
pub with_rest : (pieces : List (List ℕ)) (i : ℕ) (piece item : List ℕ) → i < length pieces
    → item ≡ get_or pieces i item → piece ≡ item
    → concat pieces ≡ (concat (take i pieces) ++ piece) ++ concat (drop (i + 1) pieces)
with_rest pieces i piece item in_list is same =
    sym (ap concat (take-append-drop (i + 1) pieces))
    ∙ concat-append (take (i + 1) pieces) (drop (i + 1) pieces)
    ∙ ap (λ (b : List ℕ). b ++ concat (drop (i + 1) pieces)) (with_next pieces i piece item in_list is same)

-- they are all, once none is left
pub all_of : (pieces : List (List ℕ)) (i : ℕ) → length pieces ≤ i → concat (take i pieces) ≡ concat pieces
all_of pieces i past = ap concat (take_all i pieces past)

-- ---- where a dialogue has come

-- it awaits more, and stands for these bytes and those put out behind what stood there
pub record SoFar (input : Input) (limit : ℕ) (d : Dialogue) (given old_out out : List ℕ) : Type 0 where
  pub awaits : Awaits d
  pub put : List ℕ
  pub puts : out ≡ old_out ++ put
  pub stands : Stands input limit d given put

pub begins : (input : Input) (limit : ℕ) (d : Dialogue) (old_out out : List ℕ) → 0 < limit
    → Starts input limit old_out out (Ok d) → SoFar input limit d [] old_out out
begins input limit d old_out out some s =
    record { awaits = (s.4, subst (λ n. 0 < n) (sym s.5) some); put = s.0; puts = s.2; stands = s.3 }

pub goes_on : (input : Input) (limit : ℕ) (old new : Dialogue) (given piece old_out before out : List ℕ)
    (answer : Result DialoguePhase ClientError)
    → SoFar input limit old given old_out before
    → Takes old new piece before out answer → Awaits new → SoFar input limit new (given ++ piece) old_out out
goes_on input limit old new given piece old_out before out answer s t awaits = record {
  awaits = awaits;
  put = s.put ++ t.out;
  puts = t.puts ∙ ap (λ (b : List ℕ). b ++ t.out) s.puts ∙ append_assoc old_out s.put t.out;
  stands = t.stands input limit given s.put s.stands;
}

pub awaits_behind : (d : Dialogue) (p : DialoguePhase) → (p ≡ phase.Waiting) ⊎ (p ≡ phase.Ready)
    → IsBehind d (Ok p) → Awaits d
awaits_behind d p (inl is) h = subst (λ x. IsBehind d (Ok x)) is h
awaits_behind d p (inr is) h = subst (λ x. IsBehind d (Ok x)) is h

-- ---- what more bytes change behind an answer

-- where nothing more is put out
same_put : (put out : List ℕ) → [] ≡ [] ++ out → put ++ out ≡ put
same_put put out none = ap (λ (b : List ℕ). put ++ b) (sym none) ∙ append-nil put

done_on : (d : Dialogue) → IsDone d → (input : Input) (limit : ℕ) (given more put : List ℕ)
    → Stands input limit d given put → Stands input limit d (given ++ more) put
done_on d is input limit given more put h =
    let t = takes_done d more [] is in
    subst (Stands input limit d (given ++ more)) (same_put put t.out t.puts) (t.stands input limit given put h)

broken_on : (d : Dialogue) → IsBroken d → (input : Input) (limit : ℕ) (given more put : List ℕ)
    → Stands input limit d given put → Stands input limit d (given ++ more) put
broken_on d is input limit given more put h =
    let t = takes_broken d more [] is in
    subst (Stands input limit d (given ++ more)) (same_put put t.out t.puts) (t.stands input limit given put h)

none_left : (limit n : ℕ) → limit - n ≡ 0 → limit ≤ n
none_left limit n none = omega arith

none_more : (limit n m : ℕ) → limit - n ≡ 0 → limit - (n + m) ≡ limit - n
none_more limit n m none = omega arith

no_room : (room closed : ℕ) (e : ClientError) → waiting_answer room closed ≡ Err e → room ≡ 0
no_room zero closed e is = refl
no_room (suc room) zero e is = absurd (cc)
no_room (suc room) (suc closed) e is = absurd (cc)

error_stays : (input : Input) (limit : ℕ) (given more : List ℕ) (e : ClientError) (c : Course Talk Ending)
    → conversation input (taken_of limit given) ≡ c → answer_at (limit - length given) c ≡ Err e
    → answer_to input limit (given ++ more) ≡ Err e
error_stays input limit given more e (Over ending sent) is answer =
    let s = split limit given more in
    ap (answer_at (limit - length (given ++ more)))
    (ap (conversation input) s.1 ∙ over_on input (taken_of limit given) s.0 ending sent is) ∙ answer
error_stays input limit given more e (Waits t sent pending) is answer =
    let none : limit - length given ≡ 0 = no_room (limit - length given) (length t.closed) e answer in
    let full : limit ≤ length given = none_left limit (length given) none in
    let room : limit - length (given ++ more) ≡ limit - length given =
    ap (λ n. limit - n) (length-append given more) ∙ none_more limit (length given) (length more) none in
    ap (λ n. answer_at n (conversation input (taken_of limit (given ++ more)))) room
    ∙ ap (λ (b : List ℕ). answer_at (limit - length given) (conversation input b))
    (take-append-le limit given more full)
    ∙ ap (answer_at (limit - length given)) is
    ∙ answer

awaits_or_broken : (d : Dialogue) → Awaits d → IsBroken d → ⊥
awaits_or_broken d awaits (inl is) = let e = sym awaits.0 ∙ is in cc
awaits_or_broken d awaits (inr is) = let e = sym awaits.0 ∙ is in cc

done_or_starved : (d : Dialogue) → IsDone d → IsStarved d → ⊥
done_or_starved d is starved = let e = sym is ∙ starved in cc

-- ---- what is answered

pub not_begun : (input : Input) (limit : ℕ) (all old_out out : List ℕ) (e : ClientError)
    → Starts input limit old_out out (Err e) → HoldsExample input limit all old_out out (Err e)
not_begun input limit all old_out out e s = unbegun e refl s.1 s.0

-- one that is done stands for all the bytes
pub done : (input : Input) (limit : ℕ) (old new : Dialogue) (all given piece more old_out before out : List ℕ)
    (answer : Result DialoguePhase ClientError)
    → all ≡ (given ++ piece) ++ more
    → SoFar input limit old given old_out before → Takes old new piece before out answer → IsDone new
    → (put : List ℕ) × (out ≡ old_out ++ put) × Stands input limit new all put
done input limit old new all given piece more old_out before out answer are s t is = (
  s.put ++ t.out,
  t.puts ∙ ap (λ (b : List ℕ). b ++ t.out) s.puts ∙ append_assoc old_out s.put t.out,
  subst (λ (b : List ℕ). Stands input limit new b (s.put ++ t.out)) (sym are)
      (done_on new is input limit (given ++ piece) more (s.put ++ t.out)
      (t.stands input limit given s.put s.stands)),
)

-- and its report is the answer
pub done_held : (input : Input) (limit : ℕ) (old new : Dialogue)
    (all given piece more old_out before out : List ℕ) (answer : Result DialoguePhase ClientError)
    (report : SessionReport)
    → all ≡ (given ++ piece) ++ more
    → SoFar input limit old given old_out before → Takes old new piece before out answer → IsDone new
    → report ≡ report_at new.notes → HoldsExample input limit all old_out out (Ok report)
done_held input limit old new all given piece more old_out before out answer report are s t is reported =
    let x = done input limit old new all given piece more old_out before out answer are s t is in
    begun new x.0 x.1 x.2 (λ starved. absurd (done_or_starved new is starved)) (inl (is, sym reported))

pub refused : (input : Input) (limit : ℕ) (old new : Dialogue) (all given piece more old_out before out : List ℕ)
    (e : ClientError)
    → all ≡ (given ++ piece) ++ more
    → SoFar input limit old given old_out before → Takes old new piece before out (Err e) → IsBroken new
    → (IsStarved new → IsStarved old ⊎ ◌≡◌ {A = Result DialoguePhase ClientError} (Err e)
    (Err client.OutOfMemory))
    → HoldsExample input limit all old_out out (Err e)
refused input limit old new all given piece more old_out before out e are s t broken lacks =
    let answers = t.answers input limit given s.put s.stands (awaits_or_broken old s.awaits) in
    begun new (s.put ++ t.out)
    (t.puts ∙ ap (λ (b : List ℕ). b ++ t.out) s.puts ∙ append_assoc old_out s.put t.out)
    (subst (λ (b : List ℕ). Stands input limit new b (s.put ++ t.out)) (sym are)
    (broken_on new broken input limit (given ++ piece) more (s.put ++ t.out)
    (t.stands input limit given s.put s.stands)))
    (λ starved. elim (lacks starved) [
      | inl was ↦ absurd (awaits_or_broken old s.awaits (inr was))
      | inr now ↦ let same : e ≡ client.OutOfMemory = cc in ap Err same
    ])
    (elim answers.answer [
      | inl is ↦ inl (inl (ap (answer_to input limit) are
          ∙ error_stays input limit (given ++ piece) more e (conversation input (taken_of limit (given ++ piece)))
          refl (sym is)))
      | inr lack ↦ let same : e ≡ client.OutOfMemory = cc in inr (ap Err same)
    ])

pub ended : (input : Input) (limit : ℕ) (d : Dialogue) (all given old_out out : List ℕ) (e : ClientError)
    → given ≡ all → SoFar input limit d given old_out out → Unless e (e ≡ notes_end d.notes)
    → HoldsExample input limit all old_out out (Err e)
ended input limit d all given old_out out e are s is =
    begun d s.put s.puts (subst (λ (b : List ℕ). Stands input limit d b s.put) are s.stands)
    (λ starved. absurd (awaits_or_broken d s.awaits (inr starved)))
    (elim (memory_or e) [
      | inl lack ↦ inr (ap Err lack)
      | inr ne ↦ inl (inr (s.awaits, sym (is ne)))
    ])

-- a configuration that was taken demands nothing that is refused
pub not_demanded : {T : Type 0} (o : Option (List ℕ)) (r : Result T ClientError) → IfSome o (λ key. ⊥)
    → IfSome o (λ key. RefusesKey key r)
not_demanded None r h = h
not_demanded (Some key) r h = absurd h
