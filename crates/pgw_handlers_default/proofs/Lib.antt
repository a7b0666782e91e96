pub mod StartupLaws
mod RowLaws
