-- How far a question has come.
use Rattle.std.specs.Prelude.{⊤}
use Rattle.pgw_tokio.specs.Asking.{CanAsk}
use Rattle.pgw_tokio.specs.Login.{StreamCanLogIn}
use Rattle.example_web.specs.declared.clients.Step.{Step as Steps}
use Rattle.example_web.specs.declared.clients.Step.TheVariants.{Connecting, LoggingIn, Asking}
use Rattle.example_web.specs.declared.clients.Next.{Next}
use Rattle.example_web.specs.declared.clients.Next.TheVariants.{Step, Answer}

-- the step has not come to its end
abbrev pub CanGoOn : Steps → Type 0
CanGoOn (Connecting _) = ⊤
CanGoOn (LoggingIn logging_in) = StreamCanLogIn logging_in
CanGoOn (Asking asking) = CanAsk asking

-- what comes next is a step that has not come to its end, or the answer
abbrev pub WebStepGoesOn : Next → Type 0
WebStepGoesOn (Step step) = CanGoOn step
WebStepGoesOn (Answer _) = ⊤
