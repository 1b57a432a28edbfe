pub mod SameMeaning
pub mod FlatText
pub mod Internal
