pub mod Column
pub mod Page
pub mod NodeWords
pub mod PlainTags
