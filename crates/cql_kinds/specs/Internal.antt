pub mod TypingContexts
pub mod Walks
