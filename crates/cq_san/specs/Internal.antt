pub mod Origins
pub mod Rivals
