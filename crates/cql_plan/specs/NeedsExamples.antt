-- The games that pass the needs of filters.
use Rattle.std.specs.Prelude.{◌≡◌, true, false, List, [], ◌∷◌, None, codes}
use Rattle.cq_position.specs.Search.{SearchedTree}
use Rattle.cq_position.specs.declared.men.Man.TheVariants.{K, BlackK}
use Rattle.cq_position.specs.declared.men.Side.TheVariants.{White as WhiteSide}
use Rattle.cql_syntax.specs.Samples.{all_of, alone, bare, queen_on, promoting, at, on, num, filters}
use Rattle.cql_syntax.specs.Trees.{FilterTree, tagged, outcome, unary, chain, pair, sort, any}
use Rattle.cql_syntax.specs.declared.leaves.Chain.TheVariants.{Or, And, All, Union, Intersect}
use Rattle.cql_syntax.specs.declared.leaves.Field.TheVariants.{Player, Event, Site}
use Rattle.cql_syntax.specs.declared.leaves.Kind.TheVariants.{Position, Set, Number}
use Rattle.cql_syntax.specs.declared.leaves.Of.TheVariants.{Either, Black}
use Rattle.cql_syntax.specs.declared.leaves.Outcome.TheVariants.{White as WhiteWins, Draw}
use Rattle.cql_syntax.specs.declared.leaves.Pair.TheVariants.{Attacks}
use Rattle.cql_syntax.specs.declared.leaves.Unary.TheVariants.{Not, Find}
use Rattle.cql_plan.specs.Needs.{passes, all_pass}

-- the kings alone, on e1 and e8
abbrev kings : SearchedTree
kings = alone (bare WhiteSide None ((4, K) ∷ (60, BlackK) ∷ []))

-- White's king, queen and rook, men 0, 1 and 2, and the empty square, number 12, on a8
abbrev king : FilterTree
king = on (0 ∷ []) (56 ∷ [])

abbrev queen : FilterTree
queen = on (1 ∷ []) (56 ∷ [])

abbrev queen_or_rook : FilterTree
queen_or_rook = on (1 ∷ 2 ∷ []) (56 ∷ [])

abbrev queen_or_empty : FilterTree
queen_or_empty = on (1 ∷ 12 ∷ []) (56 ∷ [])

pub record DesignatorRows : Type 0 where
  pub no_queen : passes kings queen ≡ false
  pub queen_or_empty : passes kings queen_or_empty ≡ true
  pub king_on_another_square : passes kings king ≡ true
  pub one_of_two_men : passes (alone (queen_on 49)) queen_or_rook ≡ true
  pub queen_by_promotion : passes promoting queen ≡ true
  pub rook_by_no_move : passes promoting (on (2 ∷ []) (56 ∷ [])) ≡ false

pub record HeaderRows : Type 0 where
  pub result : passes all_of (at (outcome WhiteWins)) ≡ true
  pub other_result : passes all_of (at (outcome Draw)) ≡ false
  pub player : passes all_of (at (tagged (Player Either) (codes "Tal"))) ≡ true
  pub not_black : passes all_of (at (tagged (Player Black) (codes "Tal"))) ≡ false
  pub event : passes all_of (at (tagged Event (codes "Riga"))) ≡ false
  pub site : passes all_of (at (tagged Site (codes "Riga"))) ≡ true

abbrev both : List FilterTree
both = queen ∷ king ∷ []

pub record PartRows : Type 0 where
  pub and : passes kings (at (chain And (filters both))) ≡ false
  pub braces : passes kings (at (chain All (filters both))) ≡ false
  pub intersection : passes kings (at (chain Intersect (filters both))) ≡ false
  pub or : passes kings (at (chain Or (filters both))) ≡ true
  pub union : passes kings (at (chain Union (filters both))) ≡ true
  pub or_of_none : passes kings (at (chain Or (filters (queen ∷ [])))) ≡ false
  pub any_position : passes kings (at (any Position (filters both))) ≡ true
  pub any_set : passes kings (at (any Set (filters (queen ∷ [])))) ≡ false
  pub any_number : passes kings (at (any Number (filters []))) ≡ true
  pub items : all_pass kings (filters both) ≡ false
  pub no_items : all_pass kings (filters []) ≡ true

-- a queen isn't needed if no filter tests for it at the node itself
pub record OtherRows : Type 0 where
  pub denied : passes kings (at (unary Not queen)) ≡ true
  pub sought : passes kings (at (unary Find queen)) ≡ true
  pub attacking : passes kings (at (pair Attacks queen king)) ≡ true
  pub sorted_by : passes kings (at (sort false (codes "q") (num 1))) ≡ true
