pub mod Frontend
pub mod FrontendSpells
pub mod FrontendTexts
