pub mod Bodies
pub mod Laws
pub mod Options
pub mod Rulesets
pub mod Tables
pub mod Texts
pub mod Translations
