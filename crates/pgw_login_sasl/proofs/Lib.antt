pub mod ConfigurationLaws
pub mod TokenLaws
pub mod OfferLaws
