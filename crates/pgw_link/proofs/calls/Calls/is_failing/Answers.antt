use Rattle.std.proofs.Common.{◌≡◌, ◌∙◌, ◌||◌, ◌==◌, nat_lt, sym, ap, arith, true, false, Bool}
use Rattle.std.proofs.lemmas.Bool.Decides.{nat_tests}
use Rattle.std.specs.List.{list_any}
use Rattle.pgw_link.specs.Calls.{is_reached}
use Rattle.pgw_link.proofs.CallLaws.{is_reached-more, or_true, or_false}
use Rattle.pgw_link.proofs.calls.Calls.is_failing.Goals as goal

pub invariant_of-self : goal.invariant_of-self
invariant_of-self c =
    let made = c.args.self.now.made in
    let next = c.saturating_add-self.result in
    let numbers = c.args.self.now.numbers in
    let more = is_reached-more numbers made next (omega arith) (omega arith) (omega arith) in
    let found : list_any (λ n. n == next) numbers ≡ true =
    rw c.as_slice.ensures at (sym c.contains-fails.ensures.value) ∙ c.if-fails.true in
    let some : nat_lt 0 c.saturating_add-self-then-fails.result ≡ true = grind (arith, nat_tests) in
    record {
      account = some
          ∙ sym (more ∙ ap (λ (b : Bool). is_reached numbers made || b) found ∙ or_true (is_reached numbers made));
    }

pub invariant_of-self-else-fails : goal.invariant_of-self-else-fails
invariant_of-self-else-fails c =
    let made = c.args.self.now.made in
    let next = c.saturating_add-self.result in
    let numbers = c.args.self.now.numbers in
    let more = is_reached-more numbers made next (omega arith) (omega arith) (omega arith) in
    let found : list_any (λ n. n == next) numbers ≡ false =
    rw c.as_slice.ensures at (sym c.contains-fails.ensures.value) ∙ c.if-fails.false in
    record {
      account = c.args.self.now.account
          ∙ sym (more ∙ ap (λ (b : Bool). is_reached numbers made || b) found
          ∙ or_false (is_reached numbers made));
    }
