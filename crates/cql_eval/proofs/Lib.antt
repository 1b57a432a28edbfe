pub mod CostSums
pub mod FlatLaw
pub mod FormLaws
mod CoverIndependent
mod CoverMoves
mod OtherNodesCut
mod LocalLaw
pub mod HitsLaw
pub mod SortsLaw
mod Trying
