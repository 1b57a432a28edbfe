-- The values of a form of filter by its parts.
use Rattle.std.proofs.Common.{Result, IfOk, ◌≡◌, ◌+◌, ◌≤◌, ◌⊎◌, inl, inr, ◌∙◌, ℕ, Bool, true, false, List, [], refl, sym, ap, ap₂, subst, arith}
use Rattle.std.specs.Prelude.{not, Some, is_some, if◌then◌else◌}
use Rattle.std.specs.List.{list_any}
use Rattle.std.proofs.lemmas.Result.{IfOk-weaker}
use Rattle.std.proofs.Math.Path.{fun_ext}
use Rattle.cq_position.specs.Search.{SearchedTree}
use Rattle.cql_syntax.specs.Meaning.{Names, value, values}
use Rattle.cq_position.specs.Games.{node_at}
use Rattle.cql_syntax.specs.Contexts.{designator_image}
use Rattle.cql_syntax.specs.Headers.{has_text, is_result, rating}
use Rattle.cql_syntax.specs.Meaning.{directions_of, is_bound_to, line_value, played_value, standing_of, term_values, word_of}
use Rattle.cql_syntax.specs.TreeOf.{filter_tree}
use Rattle.cql_syntax.specs.Trees.{FilterTree, filter_at, FormTree, designator, number, name, plain, tagged, outcome, elo, direction, chain, sum_of, pair, if_, line, played, sort, comment, any, FilterTrees, TermTrees, LineTree, PlayedTree}
use Rattle.cql_syntax.specs.Values.{Value, amount, as_number, as_truth, count, squares_where, holds, all_hold, some_holds, if_of, chain_of, pair_of, any_of, reached_of, total_of}
use Rattle.cql_syntax.specs.declared.leaves.Designator.{Designator}
use Rattle.cql_syntax.specs.declared.leaves.Field.{Field}
use Rattle.cql_syntax.specs.declared.leaves.Of.{Of}
use Rattle.cql_syntax.specs.declared.leaves.Outcome.{Outcome}
use Rattle.cql_syntax.specs.declared.leaves.Pair.{Pair}
use Rattle.cql_syntax.specs.declared.leaves.Plain.{Plain}
use Rattle.cql_syntax.specs.declared.leaves.Way.{Way}
use Rattle.cql_syntax.specs.declared.leaves.Chain.{Chain}
use Rattle.cql_syntax.specs.declared.leaves.Chain.TheVariants.{And, All}
use Rattle.cql_syntax.specs.declared.leaves.Kind.{Kind}
use Rattle.cql_syntax.specs.declared.tree.Filter.{Filter}
use Rattle.cql_columns.specs.Columns.{is_live, is_as_wanted, shown, IsColumn, Where}
use Rattle.cql_columns.specs.declared.filter_column.FilterColumn.{FilterColumn}

pub chain_form : (tree : SearchedTree) (e : Names) (f : FilterTree) (at : ℕ) (c : Chain) (fs : FilterTrees) → f ≡ filter_at at (chain c fs)
    → ◌≡◌ {A = ℕ → Value} (λ n. chain_of c (values tree [] e fs n)) (value tree [] e f)
unfolding value
chain_form tree e f at c fs is = fun_ext (λ n. sym (ap (λ x. value tree [] e x n) is))

pub any_form : (tree : SearchedTree) (e : Names) (f : FilterTree) (at : ℕ) (kind : Kind) (fs : FilterTrees) → f ≡ filter_at at (any kind fs)
    → ◌≡◌ {A = ℕ → Value} (λ n. any_of kind (values tree [] e fs n)) (value tree [] e f)
unfolding value
any_form tree e f at kind fs is = fun_ext (λ n. sym (ap (λ x. value tree [] e x n) is))

pub designator_form : (tree : SearchedTree) (e : Names) (f : FilterTree) (at : ℕ) (d : Designator) → f ≡ filter_at at (designator d) → (n : ℕ)
    → standing_of (node_at tree.game.nodes n).position.men (Some d) ≡ value tree [] e f n
unfolding value designator_image
designator_form tree e f at d is n = sym (ap (λ x. value tree [] e x n) is)

pub plain_form : (tree : SearchedTree) (e : Names) (f : FilterTree) (at : ℕ) (word : Plain) → f ≡ filter_at at (plain word) → (n : ℕ)
    → word_of tree word n ≡ value tree [] e f n
unfolding value
plain_form tree e f at word is n = sym (ap (λ x. value tree [] e x n) is)

pub direction_form : (tree : SearchedTree) (e : Names) (f part : FilterTree) (at : ℕ) (way : Way) (least most : ℕ) → f ≡ filter_at at (direction way least most part) → (n : ℕ)
    → reached_of (directions_of way) least most (value tree [] e part n) ≡ value tree [] e f n
unfolding value
direction_form tree e f part at way least most is n = sym (ap (λ x. value tree [] e x n) is)

pub sum_form : (tree : SearchedTree) (e : Names) (f : FilterTree) (at : ℕ) (ts : TermTrees) → f ≡ filter_at at (sum_of ts) → (n : ℕ)
    → total_of (term_values tree [] e ts n) ≡ value tree [] e f n
unfolding value
sum_form tree e f at ts is n = sym (ap (λ x. value tree [] e x n) is)

pub played_form : (tree : SearchedTree) (e : Names) (f : FilterTree) (at : ℕ) (p : PlayedTree) → f ≡ filter_at at (played p) → (n : ℕ)
    → as_truth (played_value tree [] e p n) ≡ value tree [] e f n
unfolding value
played_form tree e f at p is n = sym (ap (λ x. value tree [] e x n) is)

pub sorted_form : (tree : SearchedTree) (e : Names) (f part : FilterTree) (at : ℕ) (least : Bool) (text : List ℕ) → f ≡ filter_at at (sort least text part) → (n : ℕ)
    → as_truth (is_some (amount (value tree [] e part n))) ≡ value tree [] e f n
unfolding value
sorted_form tree e f part at least text is n = sym (ap (λ x. value tree [] e x n) is)

pub line_form : (tree : SearchedTree) (e : Names) (f : FilterTree) (at : ℕ) (l : LineTree) → f ≡ filter_at at (line l) → (n : ℕ)
    → line_value tree [] e l n ≡ value tree [] e f n
unfolding value
line_form tree e f at l is n = sym (ap (λ x. value tree [] e x n) is)

pub IfOk_then : {A E : Type 0} (r : Result A E) {P Q : A → Type 0} → IfOk r P → ((x : A) → P x → Q x) → IfOk r Q
IfOk_then r {P} {Q} had more = IfOk-weaker r P Q more had

-- the second column if the first holds, and the third if it doesn't
pub if_where : (live : List Bool) (a b c : FilterColumn) (u v w : ℕ → Value) → IsColumn a live u → Where live (λ n. is_as_wanted true (holds (shown a n)) ≡ true → shown b n ≡ v n)
    → Where live (λ n. is_as_wanted false (holds (shown a n)) ≡ true → shown c n ≡ w n) → (n : ℕ) → is_live live n ≡ true
    → if_of (shown a n) (shown b n) (shown c n) ≡ if_of (u n) (v n) (w n)
if_where live a b c u v w first second third n l =
    by (holds (shown a n)) (holds (u n)) (ap holds (first n l)) (λ e. ap holds (second n l e)) (λ e. ap holds (third n l (ap not e)))
  where
    by : (h k : Bool) → h ≡ k → (h ≡ true → holds (shown b n) ≡ holds (v n)) → (h ≡ false → holds (shown c n) ≡ holds (w n))
        → as_truth (if h then holds (shown b n) else holds (shown c n)) ≡ as_truth (if k then holds (v n) else holds (w n))
    by true k e f g = ap as_truth (f refl ∙ ap (λ x. if x then holds (v n) else holds (w n)) e)
    by false k e f g = ap as_truth (g refl ∙ ap (λ x. if x then holds (v n) else holds (w n)) e)

-- some of the values hold where it isn't so that none does
pub some_unless : (vs : List Value) (none : Value) → none ≡ as_truth (not (list_any holds vs)) → as_truth (not (holds none)) ≡ some_holds vs
some_unless vs none is = ap (λ v. as_truth (not (holds v))) is ∙ twice (list_any holds vs)
  where
    twice : (b : Bool) → as_truth (not (holds (as_truth (not b)))) ≡ as_truth b
    twice true = refl
    twice false = refl

-- a chain of filters that must all hold
pub chain_all : (c : Chain) (vs : List Value) → (c ≡ And) ⊎ (c ≡ All) → all_hold vs ≡ chain_of c vs
chain_all c vs (inl is) = sym (ap (λ x. chain_of x vs) is)
chain_all c vs (inr is) = sym (ap (λ x. chain_of x vs) is)

pub number_form : (tree : SearchedTree) (e : Names) (f : FilterTree) (at k : ℕ) → f ≡ filter_at at (number k) → (n : ℕ) → count k ≡ value tree [] e f n
unfolding value
number_form tree e f at k is n = sym (ap (λ x. value tree [] e x n) is)

pub name_form : (tree : SearchedTree) (e : Names) (f : FilterTree) (at : ℕ) (text : List ℕ) → f ≡ filter_at at (name text) → (n : ℕ)
    → squares_where (is_bound_to e text) ≡ value tree [] e f n
unfolding value
name_form tree e f at text is n = sym (ap (λ x. value tree [] e x n) is)

pub tagged_form : (tree : SearchedTree) (e : Names) (f : FilterTree) (at : ℕ) (field : Field) (text : List ℕ) → f ≡ filter_at at (tagged field text) → (n : ℕ)
    → as_truth (has_text tree.game field text) ≡ value tree [] e f n
unfolding value
tagged_form tree e f at field text is n = sym (ap (λ x. value tree [] e x n) is)

pub outcome_form : (tree : SearchedTree) (e : Names) (f : FilterTree) (at : ℕ) (o : Outcome) → f ≡ filter_at at (outcome o) → (n : ℕ)
    → as_truth (is_result o tree.game.result) ≡ value tree [] e f n
unfolding value
outcome_form tree e f at o is n = sym (ap (λ x. value tree [] e x n) is)

pub elo_form : (tree : SearchedTree) (e : Names) (f : FilterTree) (at : ℕ) (whose : Of) → f ≡ filter_at at (elo whose) → (n : ℕ)
    → as_number (rating tree.game whose) ≡ value tree [] e f n
unfolding value
elo_form tree e f at whose is n = sym (ap (λ x. value tree [] e x n) is)

pub comment_form : (tree : SearchedTree) (e : Names) (f : FilterTree) (at : ℕ) (text : List ℕ) → f ≡ filter_at at (comment text) → (n : ℕ)
    → as_truth true ≡ value tree [] e f n
unfolding value
comment_form tree e f at text is n = sym (ap (λ x. value tree [] e x n) is)

pub pair_form : (tree : SearchedTree) (e : Names) (f a b : FilterTree) (at : ℕ) (p : Pair) → f ≡ filter_at at (pair p a b) → (n : ℕ)
    → pair_of (node_at tree.game.nodes n).position.men p (value tree [] e a n) (value tree [] e b n) ≡ value tree [] e f n
unfolding value
pair_form tree e f a b at p is n = sym (ap (λ x. value tree [] e x n) is)

-- a filter by its form, and by the filters in its boxes
pub part_form : (at : ℕ) (form : FormTree) (wrap : FilterTree → FormTree) (boxed part : Filter) → form ≡ wrap (filter_tree boxed) → part ≡ boxed
    → filter_at at form ≡ filter_at at (wrap (filter_tree part))
part_form at form wrap boxed part is same = ap (filter_at at) is ∙ ap (λ p. filter_at at (wrap (filter_tree p))) (sym same)

pub parts_form : (at : ℕ) (form : FormTree) (wrap : FilterTree → FilterTree → FormTree) (a b first second : Filter) → form ≡ wrap (filter_tree a) (filter_tree b)
    → first ≡ a → second ≡ b → filter_at at form ≡ filter_at at (wrap (filter_tree first) (filter_tree second))
parts_form at form wrap a b first second is same same_too =
    ap (filter_at at) is ∙ ap₂ (λ p q. filter_at at (wrap (filter_tree p) (filter_tree q))) (sym same) (sym same_too)

pub if_parts : (at : ℕ) (form : FormTree) (a b c first second third : Filter) → form ≡ if_ (filter_tree a) (filter_tree b) (filter_tree c)
    → first ≡ a → second ≡ b → third ≡ c → filter_at at form ≡ filter_at at (if_ (filter_tree first) (filter_tree second) (filter_tree third))
if_parts at form a b c first second third is same same_too same_again =
    ap (filter_at at) is ∙ ap (λ p. filter_at at (if_ (filter_tree p) (filter_tree b) (filter_tree c))) (sym same)
    ∙ ap₂ (λ p q. filter_at at (if_ (filter_tree first) (filter_tree p) (filter_tree q))) (sym same_too) (sym same_again)

-- the cost taken is within the cost of the filter

pub within : (before later cost a : ℕ) → cost ≡ a → later ≤ before + a → later ≤ before + cost
within before later cost a is taken = subst (λ k. later ≤ before + k) (sym is) taken

pub within_first : (before later cost a b : ℕ) → cost ≡ a + b → later ≤ before + a → later ≤ before + cost
within_first before later cost a b is taken = omega (arith, is, taken)

pub within_both : (before later last cost a b : ℕ) → cost ≡ a + b → later ≤ before + a → last ≤ later + b → last ≤ before + cost
within_both before later last cost a b is taken more = omega (arith, is, taken, more)
