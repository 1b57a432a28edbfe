-- The filters that fit a context, for each form; the images of leaves under an exchange of colours; and values at their edges.
use Rattle.std.specs.Prelude.{◌≡◌, ℕ, Bool, true, false, List, [], ◌∷◌, ◌++◌, replicate, codes, Option, Some, None, ℤ, pos, negsuc}
use Rattle.cq_position.specs.Board.{start_board}
use Rattle.cq_position.specs.declared.games.GameResult.TheVariants.{Open}
use Rattle.cq_position.specs.Search.{SearchedTree}
use Rattle.cq_symmetry.specs.Families.{turned, shifted, exchanged}
use Rattle.cq_symmetry.specs.Images.{image}
use Rattle.cq_symmetry.specs.declared.families.Family.TheVariants.{FlipColor, ShiftVertical}
use Rattle.cql_syntax.specs.Contexts.{men_exchanged}
use Rattle.cql_syntax.specs.FamilyExamples.{kings}
use Rattle.cql_syntax.specs.Meaning.{fits, value}
use Rattle.cql_syntax.specs.Samples.{all_of, alone, root, at, on, any_on, num, filters, parts, found, truth, worked}
use Rattle.cql_syntax.specs.Trees.{FilterTree, FormTree, designator, name, plain, tagged, elo, unary, chain, sum_of, pair, if_, square, line, played, transform, any, more_terms, no_terms, path, more_parts, no_parts, group, move_of, written, left_out}
use Rattle.cql_syntax.specs.TreeLists.{terms_from}
use Rattle.cql_syntax.specs.Values.{holds}
use Rattle.cql_syntax.specs.declared.extents.Extent.TheVariants.{Any as AnyLength}
use Rattle.cql_syntax.specs.declared.leaves.Chain.TheVariants.{Product}
use Rattle.cql_syntax.specs.declared.leaves.Field.TheVariants.{Player}
use Rattle.cql_syntax.specs.declared.leaves.Kind.TheVariants.{Position, Set, Number}
use Rattle.cql_syntax.specs.declared.leaves.Mark.TheVariants.{Once, Maybe}
use Rattle.cql_syntax.specs.declared.leaves.Of.TheVariants.{Either, White}
use Rattle.cql_syntax.specs.declared.leaves.Pair.TheVariants.{Attacks}
use Rattle.cql_syntax.specs.declared.leaves.Plain.TheVariants.{Wtm, Btm, Year}
use Rattle.cql_syntax.specs.declared.leaves.Unary.TheVariants.{Not, Count}

-- True if a filter fits a shift by one file to the left. The shift takes the king on a1 off the board, and the one on b1 to a1.
abbrev fits_left : FormTree → Bool
fits_left f = fits (shifted (negsuc 0) (pos 0) ∷ []) (at f)

abbrev off : FilterTree
off = on (0 ∷ []) (0 ∷ [])

abbrev kept : FilterTree
kept = on (0 ∷ []) (1 ∷ [])

abbrev counted : FilterTree → FilterTree
counted f = at (unary Count f)

abbrev added : FilterTree → FilterTree → FormTree
added a b = sum_of (more_terms false (counted a) (more_terms true (counted b) no_terms))

-- a filter fits exactly if all its parts do
pub record FitExamples : Type 0 where
  pub move : fits_left (played (move_of (written kept) (written kept) (written kept) (written kept))) ≡ true
  pub move_of_nothing : fits_left (played (move_of left_out left_out left_out left_out)) ≡ true
  pub origin_off : fits_left (played (move_of (written off) (written kept) left_out left_out)) ≡ false
  pub goal_off : fits_left (played (move_of (written kept) (written off) left_out left_out)) ≡ false
  pub taken_off : fits_left (played (move_of left_out (written kept) (written off) left_out)) ≡ false
  pub promoted_off : fits_left (played (move_of left_out (written kept) left_out (written off))) ≡ false
  pub line_of_both : fits_left (line (path false false AnyLength (parts ((kept, Once) ∷ (kept, Maybe) ∷ [])))) ≡ true
  pub part_off : fits_left (line (path false false AnyLength (parts ((kept, Once) ∷ (off, Maybe) ∷ [])))) ≡ false
  pub group_off : fits_left (line (path false false AnyLength (more_parts (group (parts ((off, Once) ∷ []))) Once no_parts))) ≡ false
  pub sum : fits_left (added kept kept) ≡ true
  pub first_term_off : fits_left (added off kept) ≡ false
  pub second_term_off : fits_left (added kept off) ≡ false
  pub choice : fits_left (if_ kept kept kept) ≡ true
  pub condition_off : fits_left (if_ off kept kept) ≡ false
  pub then_off : fits_left (if_ kept off kept) ≡ false
  pub else_off : fits_left (if_ kept kept off) ≡ false
  pub each_square : fits_left (square true (codes "x") kept kept) ≡ true
  pub squares_off : fits_left (square true (codes "x") off kept) ≡ false
  pub asked_off : fits_left (square true (codes "x") kept off) ≡ false

-- true if a filter holds with the colours exchanged
abbrev once_exchanged : FormTree → Bool
once_exchanged f = holds (value all_of (exchanged ∷ []) [] (at f) 0)

-- the b-file
abbrev file_of_men : FilterTree
file_of_men = at (designator (record { men = 1; part = record { squares = 0x0202020202020202; whole_ranks = false; whole_files = true } }))

-- The players are exchanged, and so are `A` and `a`; `_` and `.` stay as they are. The symmetries that map files to ranks exchange the
-- flags of whole ranks and whole files. A shift along whole ranks or files doesn't move them.
pub record ExchangeExamples : Type 0 where
  pub other_player : once_exchanged (tagged (Player White) (codes "Fine")) ≡ true
  pub not_the_player : once_exchanged (tagged (Player White) (codes "Tal")) ≡ false
  pub either_player : once_exchanged (tagged (Player Either) (codes "Tal")) ≡ true
  pub family_of_players : truth all_of (transform FlipColor (at (tagged (Player White) (codes "Fine")))) 0 ≡ true
  pub empty_square : men_exchanged 0x1000 ≡ 0x1000
  pub any_man : men_exchanged 0x1fff ≡ 0x1fff
  pub white_men : men_exchanged 0x3f ≡ 0xfc0
  pub black_men : men_exchanged 0xfc0 ≡ 0x3f
  pub ranks_to_files : image (turned 5) (record { squares = 0xff; whole_ranks = true; whole_files = false })
      ≡ Some (record { squares = 0x0101010101010101; whole_ranks = false; whole_files = true })
  pub files_to_ranks : image (turned 8) (record { squares = 0x0101010101010101; whole_ranks = false; whole_files = true })
      ≡ Some (record { squares = 0xff00000000000000; whole_ranks = true; whole_files = false })
  pub whole_file_stays : truth kings (transform ShiftVertical (at (unary Not file_of_men))) 0 ≡ false

-- a game of one position with one tag
abbrev with_tag : List ℕ → List ℕ → SearchedTree
with_tag tag text =
    record { game = record { tags = (tag, text) ∷ []; result = Open; nodes = root start_board ∷ [] }; variations = true }

abbrev year_of : List ℕ → Option ℤ
year_of date = worked (with_tag (codes "Date") date) (plain Year) 0

abbrev x_attacks : ℕ → FilterTree
x_attacks s = at (pair Attacks (at (name (codes "x"))) (any_on s))

-- the rook on a1 bound to a name, and then the one on h1 to the same name
abbrev bound_twice : FilterTree → Bool
bound_twice f =
    truth all_of (square false (codes "x") (on (2 ∷ []) (0 ∷ [])) (at (square false (codes "x") (on (2 ∷ []) (7 ∷ [])) f))) 0

-- 999,999,998,000,000,001
abbrev huge : Bool → Bool × FilterTree
huge minus = (minus, at (chain Product (filters (num 999999999 ∷ num 999999999 ∷ []))))

abbrev nine : List (Bool × FilterTree) → Option ℤ
nine more =
    worked all_of (sum_of (terms_from (replicate 9 (huge false) ++ more))) 0

pub record EdgeExamples : Type 0 where
  pub one_rating : worked (with_tag (codes "BlackElo") (codes "2500")) (elo Either) 0 ≡ Some (pos 2500)
  pub not_the_other_rating : worked (with_tag (codes "BlackElo") (codes "2500")) (elo White) 0 ≡ None
  pub year_alone : year_of (codes "1960") ≡ Some (pos 1960)
  pub year_of_three_digits : year_of (codes "960") ≡ None
  pub year_of_few_digits : year_of (codes "96.05.07") ≡ None
  pub unknown_year : year_of (codes "????.05.07") ≡ None
  pub inner_name : bound_twice (x_attacks 6) ≡ true
  pub not_the_outer : bound_twice (x_attacks 1) ≡ false
  pub sum_in_range : nine [] ≡ Some (pos 8999999982000000009)
  pub sum_out_of_range : nine (huge false ∷ []) ≡ None
  pub sum_back_in_range : nine (huge false ∷ huge true ∷ []) ≡ None
  pub sum_in_range_at_each_term : nine (huge true ∷ huge false ∷ []) ≡ Some (pos 8999999982000000009)
  pub any_position : truth all_of (any Position (filters (at (plain Btm) ∷ at (plain Wtm) ∷ []))) 0 ≡ true
  pub no_position : truth all_of (any Position (filters (at (plain Btm) ∷ []))) 0 ≡ false
  pub any_squares : found all_of (any Set (filters (on (2 ∷ []) (0 ∷ []) ∷ on (2 ∷ []) (7 ∷ []) ∷ []))) 0 ≡ 0 ∷ 7 ∷ []
  pub greatest_of_any : worked (alone start_board) (any Number (filters (num 2 ∷ at (plain Year) ∷ num 3 ∷ []))) 0 ≡ Some (pos 3)
  pub greatest_of_none : worked (alone start_board) (any Number (filters (at (plain Year) ∷ []))) 0 ≡ None
