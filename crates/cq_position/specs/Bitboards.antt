-- Sets of squares as numbers of 64 bits.
pub use Rattle.cq_square_sets.specs.Bitboards.{bit_of, IsBitboard, contains, is_goal}
