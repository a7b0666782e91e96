-- What is written of an answer.
use Rattle.std.proofs.Common.{◌≡◌, ◌∙◌, ◌||◌, ℕ, List, [], ◌∷◌, ◌++◌, take, drop, Bool, Option, Result, Ok, Err, OnErr, refl}
use Rattle.std.proofs.Common.{sym, ap, append_assoc}
use Rattle.std.proofs.lemmas.List.{append-nil, take-append-drop}
use Rattle.pgw_link.specs.Stream.{SinkTape}
use Rattle.pgw_prog_output.specs.declared.said.Said.{Said}
use Rattle.pgw_prog_output.specs.declared.answer.Answer.{Answer}
use Rattle.pgw_prog_output.specs.Answers.{rest_text, open_text, columns_open, HearsSaid, Shuts}
use Rattle.pgw_prog_output.specs.Pages.{Sheet, PrintsHeard, IsFront, whole_text, failed_behind}
use Rattle.pgw_prog_output.specs.Said.{is_failed, open_columns, opened_behind}
use Rattle.pgw_prog_output.specs.Written.{WroteFront}

pub none_printed : (s : Sheet) → PrintsHeard [] s s
none_printed s = record { text = λ more. refl; failed = refl; open_is = refl }

failed_on : (b : Bool) (xs ys : List Said) → failed_behind (failed_behind b xs) ys ≡ failed_behind b (xs ++ ys)
failed_on b [] ys = refl
failed_on b (x ∷ xs) ys = failed_on (b || is_failed x) xs ys

opened_on : (o : Option ℕ) (xs ys : List Said)
    → opened_behind (opened_behind o xs) ys ≡ opened_behind o (xs ++ ys)
opened_on o [] ys = refl
opened_on o (x ∷ xs) ys = opened_on (open_columns o x) xs ys

pub prints_on : (xs ys : List Said) (a b c : Sheet) → PrintsHeard xs a b → PrintsHeard ys b c
    → PrintsHeard (xs ++ ys) a c
prints_on xs ys a b c p q = record {
  text = λ more. q.text more ∙ p.text (ys ++ more)
      ∙ ap (λ (t : List Said). whole_text a t) (sym (append_assoc xs ys
      more));
  failed = q.failed ∙ ap (λ (f : Bool). failed_behind f ys) p.failed ∙ failed_on a.failed xs ys;
  open_is =
      q.open_is ∙ ap (λ (o : Option ℕ). opened_behind o ys) p.open_is ∙ opened_on (columns_open a.answer) xs ys;
}

-- what stops behind what was printed stops behind all of it
pub front_on : (xs ys : List Said) (a b : Sheet) (wrote : List ℕ) → PrintsHeard xs a b → IsFront ys b wrote
    → IsFront (xs ++ ys) a wrote
front_on xs ys a b wrote p f = (f.0, f.1 ∙ p.text ys)

-- what waits is written
pub written_out : (a b : Sheet) → b.wrote ≡ a.wrote ++ a.waits → b.waits ≡ [] → b.answer ≡ a.answer
    → b.failed ≡ a.failed → PrintsHeard [] a b
written_out a b wrote waits answer failed = record {
  text = λ more.
      ap (λ (t : List ℕ). (b.wrote ++ t) ++ rest_text b.answer more) waits
      ∙ ap (λ (t : List ℕ). t ++ rest_text b.answer more) (append-nil b.wrote ∙ wrote)
      ∙ ap (λ (x : Answer). (a.wrote ++ a.waits) ++ rest_text x more) answer;
  failed = failed;
  open_is = ap (λ (x : Answer). columns_open x) answer;
}

-- or a front of it
pub written_part : (a : Sheet) (old new : SinkTape) → old.wrote ≡ a.wrote → WroteFront old new a.waits
    → IsFront [] a new.wrote
written_part a old new was f =
    let part = take f.count a.waits in
    let rest = drop f.count a.waits in
    let text = rest_text a.answer [] in (
      rest ++ text,
      ap (λ (t : List ℕ). t ++ (rest ++ text)) (f.wrote ∙ ap (λ (t : List ℕ). t ++ part) was)
          ∙ sym (append_assoc (a.wrote ++ part) rest text)
          ∙ ap (λ (t : List ℕ). t ++ text) (append_assoc a.wrote part rest
          ∙ ap (λ (t : List ℕ). a.wrote ++ t) (take-append-drop f.count a.waits)),
    )

-- nothing was written
pub unwritten : (xs : List Said) (a : Sheet) → IsFront xs a a.wrote
unwritten xs a = (a.waits ++ rest_text a.answer xs, sym (append_assoc a.wrote a.waits (rest_text a.answer xs)))

-- what was heard waits
pub heard_printed : (s : Said) (a b : Sheet) → HearsSaid a.answer s a.waits b.waits b.answer → b.wrote ≡ a.wrote
    → b.failed ≡ (a.failed || is_failed s) → PrintsHeard (s ∷ []) a b
heard_printed s a b h wrote failed = record {
  text = λ more.
      append_assoc b.wrote b.waits (rest_text b.answer more)
      ∙ ap (λ (t : List ℕ). b.wrote ++ t) (h.text more)
      ∙ ap (λ (t : List ℕ). t ++ (a.waits ++ rest_text a.answer (s ∷ more))) wrote
      ∙ sym (append_assoc a.wrote a.waits (rest_text a.answer (s ∷ more)));
  failed = failed;
  open_is = h.open_is;
}

-- ---- the end of a page

-- all that waits, with the end of what was open
pub shut_text : (a : Sheet) (waits : List ℕ) (new : Answer) → Shuts a.answer a.waits waits new
    → a.wrote ++ waits ≡ whole_text a []
shut_text a waits new s =
    ap (λ (t : List ℕ). a.wrote ++ t) s.text
    ∙ sym (append_assoc a.wrote a.waits (open_text a.answer.printer []))
    ∙ ap (λ (t : List ℕ). (a.wrote ++ a.waits) ++ t) (sym (append-nil (open_text a.answer.printer [])))

pub shut_part : (a : Sheet) (waits : List ℕ) (new : Answer) (old now : SinkTape)
    → Shuts a.answer a.waits waits new → old.wrote ≡ a.wrote → WroteFront old now waits → IsFront [] a now.wrote
shut_part a waits new old now s was f =
    let part = take f.count waits in
    let rest = drop f.count waits in (
      rest,
      ap (λ (t : List ℕ). t ++ rest) (f.wrote ∙ ap (λ (t : List ℕ). t ++ part) was)
          ∙ append_assoc a.wrote part rest ∙ ap (λ (t : List ℕ). a.wrote ++ t) (take-append-drop f.count waits)
          ∙ shut_text a waits new s,
    )

-- what holds whatever was answered
pub on_err : {T E : Type 0} (P : Type 0) (r : Result T E) → P → OnErr r P
on_err P (Ok x) p = tt
on_err P (Err e) p = p
