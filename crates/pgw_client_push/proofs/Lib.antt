mod ViewLaws
mod BehindLaws
mod ServingLaws
mod StandingLaws
mod PairLaws
mod CallLaws
