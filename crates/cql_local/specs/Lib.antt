pub mod NodeScopes
pub mod Internal
