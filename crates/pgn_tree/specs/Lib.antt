pub mod Links
pub mod Words
pub mod Notes
pub mod NotesInside
pub mod Inside
pub mod GameInside
pub mod Results
pub mod Internal
