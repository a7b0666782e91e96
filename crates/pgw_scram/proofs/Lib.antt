pub mod AttributeLaws
pub mod CutLaws
pub mod MessageLaws
pub mod Base64Laws
pub mod ExchangeLaws
pub mod RefusalLaws
pub mod HonestLaws
pub mod BoundLaws
