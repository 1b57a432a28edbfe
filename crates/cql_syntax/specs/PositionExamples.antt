-- The nodes at which position filters hold, and those at which they don't.
use Rattle.std.specs.Prelude.{◌≡◌, ℕ, Bool, true, false, List, [], ◌∷◌, codes}
use Rattle.cq_position.specs.Board.{start_board}
use Rattle.cql_syntax.specs.Samples.{all_of, main_of, alone, queen_on, at, on, anywhere, any_on, filters, truth}
use Rattle.cql_syntax.specs.Trees.{FilterTree, name, plain, tagged, outcome, unary, chain, pair, if_, square, comment}
use Rattle.cql_syntax.specs.declared.leaves.Chain.TheVariants.{Or, And, All}
use Rattle.cql_syntax.specs.declared.leaves.Field.{Field}
use Rattle.cql_syntax.specs.declared.leaves.Field.TheVariants.{Player, Event, Site}
use Rattle.cql_syntax.specs.declared.leaves.Of.TheVariants.{Either, White, Black}
use Rattle.cql_syntax.specs.declared.leaves.Outcome.TheVariants.{White as WhiteWins, Black as BlackWins, Draw, Unfinished}
use Rattle.cql_syntax.specs.declared.leaves.Pair.TheVariants.{Attacks}
use Rattle.cql_syntax.specs.declared.leaves.Plain.{Plain}
use Rattle.cql_syntax.specs.declared.leaves.Plain.TheVariants.{Check, Mate, Stalemate, Wtm, Btm, Initial, Terminal, Mainline, Variation, HasComment}
use Rattle.cql_syntax.specs.declared.leaves.Unary.TheVariants.{Not, Find, FindUp, Child, Parent}

abbrev word : Plain → ℕ → Bool
word w n = truth all_of (plain w) n

-- with the queen on b7 it is mate, on c7 stalemate, and on a4 check
abbrev with_queen : Plain → ℕ → Bool
with_queen w s = truth (alone (queen_on s)) (plain w) 0

abbrev in_text : Field → List ℕ → Bool
in_text field text = truth all_of (tagged field text) 0

-- White to move, and Black to move: no node has both
abbrev wtm : FilterTree
wtm = at (plain Wtm)

abbrev btm : FilterTree
btm = at (plain Btm)

abbrev both : List FilterTree
both = wtm ∷ btm ∷ []

abbrev x : FilterTree
x = at (name (codes "x"))

pub record WordExamples : Type 0 where
  pub check : with_queen Check 24 ≡ true
  pub no_check : with_queen Check 50 ≡ false
  pub mate : with_queen Mate 49 ≡ true
  pub no_mate : with_queen Mate 24 ≡ false
  pub stalemate : with_queen Stalemate 50 ≡ true
  pub no_stalemate : with_queen Stalemate 49 ≡ false
  pub white_to_move : word Wtm 0 ≡ true
  pub not_white_to_move : word Wtm 1 ≡ false
  pub black_to_move : word Btm 1 ≡ true
  pub not_black_to_move : word Btm 0 ≡ false
  pub initial : word Initial 0 ≡ true
  pub not_initial : word Initial 1 ≡ false
  pub terminal : word Terminal 3 ≡ true
  pub not_terminal : word Terminal 1 ≡ false
  pub on_main_line : word Mainline 2 ≡ true
  pub not_on_main_line : word Mainline 3 ≡ false
  pub in_variation : word Variation 3 ≡ true
  pub not_in_variation : word Variation 2 ≡ false
  pub has_comment : word HasComment 2 ≡ true
  pub has_no_comment : word HasComment 1 ≡ false

pub record HeaderExamples : Type 0 where
  pub result : truth all_of (outcome WhiteWins) 0 ≡ true
  pub other_results : truth all_of (outcome BlackWins) 0 ≡ false
  pub unfinished : truth (alone start_board) (outcome Unfinished) 0 ≡ true
  pub not_drawn : truth (alone start_board) (outcome Draw) 0 ≡ false
  pub player : in_text (Player Either) (codes "Fine") ≡ true
  pub not_player : in_text (Player Either) (codes "fine") ≡ false
  pub white_player : in_text (Player White) (codes "al, ") ≡ true
  pub not_white_player : in_text (Player White) (codes "Fine") ≡ false
  pub black_player : in_text (Player Black) (codes "Fine, R") ≡ true
  pub not_black_player : in_text (Player Black) (codes "Fine, R.") ≡ false
  pub event : in_text Event (codes "Cup") ≡ true
  pub not_event : in_text Event (codes "Riga") ≡ false
  pub site : in_text Site (codes "Riga") ≡ true
  pub not_site : in_text Site (codes "Cup") ≡ false
  pub empty_text : truth (alone start_board) (tagged Site []) 0 ≡ true
  pub missing_tag : truth (alone start_board) (tagged Site (codes "R")) 0 ≡ false

pub record LogicExamples : Type 0 where
  pub negated : truth all_of (unary Not btm) 0 ≡ true
  pub not_negated : truth all_of (unary Not wtm) 0 ≡ false
  pub one_holds : truth all_of (chain Or (filters both)) 0 ≡ true
  pub none_of_none_holds : truth all_of (chain Or (filters [])) 0 ≡ false
  pub both_hold : truth all_of (chain And (filters (wtm ∷ anywhere 0 ∷ []))) 0 ≡ true
  pub one_fails : truth all_of (chain And (filters both)) 0 ≡ false
  pub items_hold : truth all_of (chain All (filters (wtm ∷ anywhere 0 ∷ []))) 0 ≡ true
  pub item_fails : truth all_of (chain All (filters both)) 0 ≡ false
  pub then_holds : truth all_of (if_ wtm wtm btm) 0 ≡ true
  pub else_fails : truth all_of (if_ btm wtm btm) 0 ≡ false
  pub some_square : truth all_of (square false (codes "x") (anywhere 2) (at (pair Attacks x (any_on 1)))) 0 ≡ true
  pub no_square : truth all_of (square false (codes "x") (anywhere 2) (at (pair Attacks x (any_on 16)))) 0 ≡ false
  pub every_square : truth all_of (square true (codes "x") (on (2 ∷ []) (0 ∷ 1 ∷ [])) (at (pair Attacks x (any_on 1)))) 0 ≡ true
  pub not_every_square : truth all_of (square true (codes "x") (anywhere 2) (at (pair Attacks x (any_on 1)))) 0 ≡ false
  pub every_one_of_none : truth all_of (square true (codes "x") (on (0 ∷ []) []) btm) 0 ≡ true
  pub comment_holds : truth all_of (comment (codes "x")) 0 ≡ true

pub record TreeExamples : Type 0 where
  pub finds_below : truth all_of (unary Find (at (plain Variation))) 0 ≡ true
  pub finds_itself : truth all_of (unary Find (at (plain Initial))) 0 ≡ true
  pub does_not_find_beside : truth all_of (unary Find (at (plain Variation))) 1 ≡ false
  pub finds_in_searched_tree_alone : truth main_of (unary Find (at (plain Variation))) 0 ≡ false
  pub finds_above : truth all_of (unary FindUp (at (plain Initial))) 2 ≡ true
  pub finds_itself_above : truth all_of (unary FindUp (at (plain HasComment))) 2 ≡ true
  pub does_not_find_above : truth all_of (unary FindUp (at (plain HasComment))) 1 ≡ false
  pub child : truth all_of (unary Child (at (plain Variation))) 0 ≡ true
  pub no_grandchild : truth all_of (unary Child (at (plain HasComment))) 0 ≡ false
  pub no_child_outside_of_searched_tree : truth main_of (unary Child (at (plain Variation))) 0 ≡ false
  pub parent : truth all_of (unary Parent (at (plain Initial))) 1 ≡ true
  pub no_grandparent : truth all_of (unary Parent (at (plain Initial))) 2 ≡ false
  pub root_has_no_parent : truth all_of (unary Parent (at (plain Wtm))) 0 ≡ false
