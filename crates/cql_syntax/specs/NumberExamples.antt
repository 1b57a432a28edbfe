-- The values of number filters, and cases in which a number has no value.
use Rattle.std.specs.Prelude.{◌≡◌, true, false, [], ◌∷◌, Option, Some, None, ℤ, pos, negsuc}
use Rattle.cq_position.specs.Board.{start_board}
use Rattle.cql_syntax.specs.Samples.{all_of, alone, at, on, anywhere, num, filters, worked, truth}
use Rattle.cql_syntax.specs.Trees.{FilterTree, FormTree, number, plain, elo, unary, chain, sum_of, pair, sort, no_terms, more_terms}
use Rattle.cql_syntax.specs.declared.leaves.Chain.TheVariants.{Product, Max, Min}
use Rattle.cql_syntax.specs.declared.leaves.Of.TheVariants.{Either, White, Black}
use Rattle.cql_syntax.specs.declared.leaves.Pair.TheVariants.{Less, AtMost, Equal, AtLeast, Greater}
use Rattle.cql_syntax.specs.declared.leaves.Plain.TheVariants.{Ply, MoveNumber, Depth, Year}
use Rattle.cql_syntax.specs.declared.leaves.Unary.TheVariants.{Count, Power}

-- the year of a game without a date
abbrev none : FilterTree
none = at (plain Year)

abbrev minus : FilterTree → FilterTree → FormTree
minus a b = sum_of (more_terms false a (more_terms true b no_terms))

abbrev without : FormTree → Option ℤ
without f = worked (alone start_board) f 0

abbrev tested : FormTree → Option ℤ
tested f = worked all_of f 0

abbrev great : FilterTree
great = num 999999999

pub record NumberExamples : Type 0 where
  pub numeral : tested (number 7) ≡ Some (pos 7)
  pub number_of_pawns : tested (unary Count (anywhere 5)) ≡ Some (pos 8)
  pub number_of_no_squares : tested (unary Count (on (0 ∷ []) (0 ∷ []))) ≡ Some (pos 0)
  pub power_of_queen_and_knights : tested (unary Power (on (1 ∷ 4 ∷ []) (1 ∷ 3 ∷ 6 ∷ []))) ≡ Some (pos 15)
  pub power_of_king : tested (unary Power (anywhere 0)) ≡ Some (pos 0)
  pub ply_of_root : worked all_of (plain Ply) 0 ≡ Some (pos 0)
  pub ply : worked all_of (plain Ply) 2 ≡ Some (pos 2)
  pub first_move_number : worked all_of (plain MoveNumber) 1 ≡ Some (pos 1)
  pub move_number : worked all_of (plain MoveNumber) 2 ≡ Some (pos 2)
  pub depth_of_root : worked all_of (plain Depth) 0 ≡ Some (pos 0)
  pub depth_of_first_children : worked all_of (plain Depth) 2 ≡ Some (pos 0)
  pub depth_of_variation : worked all_of (plain Depth) 3 ≡ Some (pos 1)
  pub year : tested (plain Year) ≡ Some (pos 1960)
  pub no_year : without (plain Year) ≡ None
  pub rating_of_white : tested (elo White) ≡ Some (pos 2700)
  pub no_rating_of_white : without (elo White) ≡ None
  pub rating_of_black : tested (elo Black) ≡ Some (pos 2650)
  pub no_rating_of_black : without (elo Black) ≡ None
  pub greater_rating : tested (elo Either) ≡ Some (pos 2700)
  pub no_rating : without (elo Either) ≡ None
  pub difference : tested (minus (num 2) (num 5)) ≡ Some (negsuc 2)
  pub difference_from_none : without (minus (num 2) none) ≡ None
  pub sum_of_nothing : tested (sum_of no_terms) ≡ Some (pos 0)
  pub product : tested (chain Product (filters (num 2 ∷ num 3 ∷ []))) ≡ Some (pos 6)
  pub product_out_of_range : tested (chain Product (filters (great ∷ great ∷ great ∷ []))) ≡ None
  pub product_back_in_range : tested (chain Product (filters (great ∷ great ∷ great ∷ num 0 ∷ []))) ≡ None
  pub greatest : tested (chain Max (filters (num 2 ∷ num 3 ∷ []))) ≡ Some (pos 3)
  pub greatest_with_none : without (chain Max (filters (num 2 ∷ none ∷ []))) ≡ None
  pub least : tested (chain Min (filters (num 2 ∷ num 3 ∷ []))) ≡ Some (pos 2)
  pub least_of_nothing : tested (chain Min (filters [])) ≡ None

pub record ComparisonExamples : Type 0 where
  pub less : truth all_of (pair Less (num 1) (num 2)) 0 ≡ true
  pub not_less : truth all_of (pair Less (num 2) (num 2)) 0 ≡ false
  pub at_most : truth all_of (pair AtMost (num 2) (num 2)) 0 ≡ true
  pub not_at_most : truth all_of (pair AtMost (num 3) (num 2)) 0 ≡ false
  pub equal : truth all_of (pair Equal (num 2) (num 2)) 0 ≡ true
  pub not_equal : truth all_of (pair Equal (num 1) (num 2)) 0 ≡ false
  pub at_least : truth all_of (pair AtLeast (num 2) (num 2)) 0 ≡ true
  pub not_at_least : truth all_of (pair AtLeast (num 1) (num 2)) 0 ≡ false
  pub greater : truth all_of (pair Greater (num 3) (num 2)) 0 ≡ true
  pub not_greater : truth all_of (pair Greater (num 2) (num 2)) 0 ≡ false
  pub none_is_not_equal_to_none : truth (alone start_board) (pair Equal none none) 0 ≡ false
  pub sorts_by_value : truth all_of (sort false [] none) 0 ≡ true
  pub does_not_sort_by_none : truth (alone start_board) (sort false [] none) 0 ≡ false
