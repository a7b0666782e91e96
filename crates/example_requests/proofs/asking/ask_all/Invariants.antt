use Rattle.std.proofs.Common.{◌≡◌, ◌≤◌, false, take}
use Rattle.pgw_client_calls.specs.State.{line_of, known_by, is_broken}
use Rattle.example_requests.specs.Asking.{AddsQuestions}
use Rattle.example_requests.proofs.asking.ask_all.Given as goal

abbrev pub invariant-loop-question : goal.invariant-loop-question
invariant-loop-question g l = record {
  usable : is_broken l.client ≡ false;
  later : (line_of g.L.Link.tape g.L.Link.faults l.fn.client).faults ≤
      (line_of g.L.Link.tape g.L.Link.faults l.client).faults;
  adds : AddsQuestions (take l.question-index l.questions) l.replies (known_by l.fn.client)
      (line_of g.L.Link.tape g.L.Link.faults l.fn.client) (known_by l.client)
      (line_of g.L.Link.tape g.L.Link.faults l.client);
}
