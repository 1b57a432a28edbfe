-- The value of a form, by the values of its parts.
use Rattle.std.proofs.Common.{◌≡◌, ℕ, Bool, true, List, ◌∷◌, refl, sym, ap, ap₂, ◌∙◌}
use Rattle.std.specs.Prelude.{is_some}
use Rattle.cq_common.specs.Spelling.{one}
use Rattle.cql_syntax.specs.Contexts.{designator_image, field_image, of_image, outcome_image, unary_image, way_image, word_image}
use Rattle.cql_syntax.specs.Headers.{has_text, is_result, rating}
use Rattle.cql_syntax.specs.Meaning.{body_pattern, directions_of, form_value, is_bound_to, line_value, pattern, played_value, position_at, standing_of, term_values, unary_of, value, values, word_of}
use Rattle.cql_syntax.specs.TreeOf.{filter_tree, form_tree}
use Rattle.cql_syntax.specs.Trees.{FilterTree, FilterTrees, FormTree, LineTree, PartTrees, PlayedTree, TermTrees, any, atom, chain, comment, designator, direction, elo, group, if_, line, name, number, outcome, pair, plain, played, sort, square, sum_of, tagged, unary}
use Rattle.cql_syntax.specs.Values.{Value, amount, any_of, as_number, as_truth, chain_of, count, holds, if_of, pair_of, reached_of, square_of, squares_where, total_of}
use Rattle.cql_syntax.specs.declared.leaves.Chain.{Chain}
use Rattle.cql_syntax.specs.declared.leaves.Designator.{Designator}
use Rattle.cql_syntax.specs.declared.leaves.Field.{Field}
use Rattle.cql_syntax.specs.declared.leaves.Kind.{Kind}
use Rattle.cql_syntax.specs.declared.leaves.Of.{Of}
use Rattle.cql_syntax.specs.declared.leaves.Outcome.{Outcome}
use Rattle.cql_syntax.specs.declared.leaves.Pair.{Pair}
use Rattle.cql_syntax.specs.declared.leaves.Plain.{Plain}
use Rattle.cql_syntax.specs.declared.leaves.Unary.{Unary}
use Rattle.cql_syntax.specs.declared.leaves.Way.{Way}
use Rattle.cql_syntax.specs.declared.tree.Filter.{Filter}
use Rattle.cql_plain.specs.Internal.Scopes.{tree_in, value_in}
use Rattle.cql_plain.specs.declared.scope.Scope.{Scope}

module _ (s : Scope) (f : Filter) (n : ℕ) where
  of_form : (x : FormTree) → form_tree f.form ≡ x → form_value (tree_in s) s.context.now s.names.now x n ≡ value_in s (filter_tree f) n
  unfolding value
  of_form x is = sym (ap (λ y. form_value (tree_in s) s.context.now s.names.now y n) is)

  pub designator_value : (d : Designator) → form_tree f.form ≡ designator d → standing_of (position_at (tree_in s) n).men (designator_image s.context.now d) ≡ value_in s (filter_tree f) n
  unfolding value
  designator_value d is = of_form (designator d) is

  pub number_value : (k : ℕ) → form_tree f.form ≡ number k → count k ≡ value_in s (filter_tree f) n
  unfolding value
  number_value k is = of_form (number k) is

  pub name_value : (text : List ℕ) → form_tree f.form ≡ name text → squares_where (is_bound_to s.names.now text) ≡ value_in s (filter_tree f) n
  unfolding value
  name_value text is = of_form (name text) is

  pub word_value : (word : Plain) → form_tree f.form ≡ plain word → word_of (tree_in s) (word_image s.context.now word) n ≡ value_in s (filter_tree f) n
  unfolding value
  word_value word is = of_form (plain word) is

  pub tagged_value : (field : Field) (text : List ℕ) → form_tree f.form ≡ tagged field text
      → as_truth (has_text s.game.now (field_image s.context.now field) text) ≡ value_in s (filter_tree f) n
  unfolding value
  tagged_value field text is = of_form (tagged field text) is

  pub outcome_value : (o : Outcome) → form_tree f.form ≡ outcome o → as_truth (is_result (outcome_image s.context.now o) s.game.now.result) ≡ value_in s (filter_tree f) n
  unfolding value
  outcome_value o is = of_form (outcome o) is

  pub elo_value : (whose : Of) → form_tree f.form ≡ elo whose → as_number (rating s.game.now (of_image s.context.now whose)) ≡ value_in s (filter_tree f) n
  unfolding value
  elo_value whose is = of_form (elo whose) is

  pub comment_value : (text : List ℕ) → form_tree f.form ≡ comment text → as_truth true ≡ value_in s (filter_tree f) n
  unfolding value
  comment_value text is = of_form (comment text) is

  pub unary_value : (u : Unary) (a : FilterTree) → form_tree f.form ≡ unary u a → unary_of (tree_in s) (unary_image s.context.now u) (value_in s a) n ≡ value_in s (filter_tree f) n
  unfolding value
  unary_value u a is = of_form (unary u a) is

  pub steps_value : (way : Way) (least most : ℕ) (a : FilterTree) (x : Value) → form_tree f.form ≡ direction way least most a → x ≡ value_in s a n
      → reached_of (directions_of (way_image s.context.now way)) least most x ≡ value_in s (filter_tree f) n
  unfolding value
  steps_value way least most a x is of_a = ap (reached_of (directions_of (way_image s.context.now way)) least most) of_a ∙ of_form (direction way least most a) is

  pub chain_value : (c : Chain) (fs : FilterTrees) → form_tree f.form ≡ chain c fs → chain_of c (values (tree_in s) s.context.now s.names.now fs n) ≡ value_in s (filter_tree f) n
  unfolding value
  chain_value c fs is = of_form (chain c fs) is

  pub sum_value : (ts : TermTrees) → form_tree f.form ≡ sum_of ts → total_of (term_values (tree_in s) s.context.now s.names.now ts n) ≡ value_in s (filter_tree f) n
  unfolding value
  sum_value ts is = of_form (sum_of ts) is

  pub pair_value : (p : Pair) (a b : FilterTree) (x y : Value) → form_tree f.form ≡ pair p a b → x ≡ value_in s a n → y ≡ value_in s b n
      → pair_of (position_at (tree_in s) n).men p x y ≡ value_in s (filter_tree f) n
  unfolding value
  pair_value p a b x y is of_a of_b = ap₂ (pair_of (position_at (tree_in s) n).men p) of_a of_b ∙ of_form (pair p a b) is

  pub if_value : (a b c : FilterTree) (x y z : Value) → form_tree f.form ≡ if_ a b c → x ≡ value_in s a n → y ≡ value_in s b n → z ≡ value_in s c n
      → if_of x y z ≡ value_in s (filter_tree f) n
  unfolding value
  if_value a b c x y z is of_a of_b of_c = ap₂ (λ v w. if_of v w z) of_a of_b ∙ ap (if_of (value_in s a n) (value_in s b n)) of_c ∙ of_form (if_ a b c) is

  pub square_value : (every : Bool) (text : List ℕ) (a b : FilterTree) (x : Value) → form_tree f.form ≡ square every text a b → x ≡ value_in s a n
      → square_of every x (λ k. holds (value (tree_in s) s.context.now ((text, k) ∷ s.names.now) b n)) ≡ value_in s (filter_tree f) n
  unfolding value
  square_value every text a b x is of_a =
      ap (λ v. square_of every v (λ k. holds (value (tree_in s) s.context.now ((text, k) ∷ s.names.now) b n))) of_a ∙ of_form (square every text a b) is

  pub line_form_value : (l : LineTree) → form_tree f.form ≡ line l → line_value (tree_in s) s.context.now s.names.now l n ≡ value_in s (filter_tree f) n
  unfolding value
  line_form_value l is = of_form (line l) is

  pub move_value : (p : PlayedTree) → form_tree f.form ≡ played p → as_truth (played_value (tree_in s) s.context.now s.names.now p n) ≡ value_in s (filter_tree f) n
  unfolding value
  move_value p is = of_form (played p) is

  pub sort_value : (least : Bool) (text : List ℕ) (a : FilterTree) (x : Value) → form_tree f.form ≡ sort least text a → x ≡ value_in s a n
      → as_truth (is_some (amount x)) ≡ value_in s (filter_tree f) n
  unfolding value
  sort_value least text a x is of_a = ap (λ v. as_truth (is_some (amount v))) of_a ∙ of_form (sort least text a) is

  pub any_value : (k : Kind) (fs : FilterTrees) → form_tree f.form ≡ any k fs → any_of k (values (tree_in s) s.context.now s.names.now fs n) ≡ value_in s (filter_tree f) n
  unfolding value
  any_value k fs is = of_form (any k fs) is

-- the pattern of the body of a part
module _ (s : Scope) where
  pub atom_pattern : (a : FilterTree) → one (value_in s a) ≡ body_pattern (tree_in s) s.context.now s.names.now (atom a)
  unfolding value
  atom_pattern a = refl

  pub group_pattern : (cs : PartTrees) → pattern (tree_in s) s.context.now s.names.now cs ≡ body_pattern (tree_in s) s.context.now s.names.now (group cs)
  unfolding value
  group_pattern cs = refl
