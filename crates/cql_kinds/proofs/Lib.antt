pub mod Arms
pub mod Checked
pub mod Counted
pub mod Loops
pub mod Placing
pub mod Walking
