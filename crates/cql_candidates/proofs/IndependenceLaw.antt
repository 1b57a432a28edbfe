-- Filters that have no name of a list.
use Rattle.std.proofs.Common.{◌≡◌, ℕ, suc, ◌<◌, ◌==◌, Bool, List, [], ◌∷◌, length, get_or, refl, sym, ap, ap₂, ◌∙◌, arith}
use Rattle.std.specs.Prelude.{if◌then◌else◌}
use Rattle.std.specs.Str.{bytes_eq}
use Rattle.std.proofs.Math.Path.{fun_ext}
use Rattle.cql_syntax.specs.Meaning.{Names, value, unary_of}
use Rattle.cql_syntax.specs.Trees.{FilterTree, filter_at, FilterTrees, more_filters, no_filters, unary, square}
use Rattle.cql_syntax.specs.TreeOf.{filter_tree, filter_trees}
use Rattle.cql_syntax.specs.Values.{holds, square_of}
use Rattle.cql_syntax.specs.declared.leaves.Unary.{Unary}
use Rattle.cql_syntax.specs.declared.tree.Filter.{Filter}
use Rattle.cql_columns.specs.Costs.{filter_cost}
use Rattle.cql_candidates.specs.Covers.{Agree, IsIndependent, AreIndependent}

pub unary_free : (opened : Names) (f part : FilterTree) (i : ℕ) (u : Unary) → f ≡ filter_at i (unary u part) → IsIndependent opened part → IsIndependent opened f
unfolding value filter_cost
unary_free opened f part i u is free = record {
  each = λ tree inner outer n agree. ap (λ g. value tree [] inner g n) is
      ∙ ap (λ v. unary_of tree u v n) (fun_ext (λ m. free.each tree inner outer m agree))
      ∙ sym (ap (λ g. value tree [] outer g n) is);
  cost = λ nodes. ap (filter_cost nodes) is ∙ free.cost nodes;
}

-- one more binding on both sides
pub agree_more : (opened inner outer : Names) (text : List ℕ) (s : ℕ) → Agree opened inner outer → Agree opened ((text, s) ∷ inner) ((text, s) ∷ outer)
agree_more opened inner outer text s agree = record {
  each = λ other closed t. ap (λ b. if bytes_eq text other then s == t else b) (agree.each other closed t);
}

pub square_free : (opened : Names) (f a b : FilterTree) (i : ℕ) (every : Bool) (text : List ℕ) → f ≡ filter_at i (square every text a b) → IsIndependent opened a → IsIndependent opened b → IsIndependent opened f
unfolding value filter_cost
square_free opened f a b i every text is first second = record {
  each = λ tree inner outer n agree. ap (λ g. value tree [] inner g n) is
      ∙ ap₂ (square_of every) (first.each tree inner outer n agree)
      (fun_ext (λ s. ap holds (second.each tree ((text, s) ∷ inner) ((text, s) ∷ outer) n (agree_more opened inner outer text s agree))))
      ∙ sym (ap (λ g. value tree [] outer g n) is);
  cost = λ nodes. ap (filter_cost nodes) is
      ∙ (let x = first.cost nodes in let y = second.cost nodes in omega (arith, x, y));
}

one_more : (opened : Names) (f : FilterTree) (fs : FilterTrees) → IsIndependent opened f → AreIndependent opened fs → AreIndependent opened (more_filters f fs)
unfolding value filter_cost
one_more opened f fs one rest = record {
  each = λ tree inner outer n agree. ap₂ (λ v vs. v ∷ vs) (one.each tree inner outer n agree) (rest.each tree inner outer n agree);
  cost = λ nodes. let x = one.cost nodes in let y = rest.cost nodes in omega (arith, x, y);
}

no_more : (opened : Names) → AreIndependent opened no_filters
unfolding value filter_cost
no_more opened = record { each = λ tree inner outer n agree. refl; cost = λ nodes. refl }

pub all_free : (opened : Names) (xs : List Filter) → ((k : ℕ) (f : Filter) → k < length xs → f ≡ get_or xs k f → IsIndependent opened (filter_tree f)) → AreIndependent opened (filter_trees xs)
all_free opened [] each = no_more opened
all_free opened (x ∷ xs) each = one_more opened (filter_tree x) (filter_trees xs) (each 0 x (omega arith) refl)
    (all_free opened xs (λ k f h is. each (suc k) f (omega (arith, h)) is))

pub free_begun : (opened : Names) (xs : List Filter) (k : ℕ) (f : Filter) → k < 0 → f ≡ get_or xs k f → IsIndependent opened (filter_tree f)
free_begun opened xs k f h is = absurd (omega (arith, h))
