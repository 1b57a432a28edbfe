-- The flat form has the same meaning.
use Rattle.std.proofs.Common.{◌≡◌, ℕ, List, [], ◌∷◌, Bool, true, false, Option, Some, None, refl, sym, ap, ap₂, ◌∙◌, map, arith}
use Rattle.std.specs.Prelude.{◌||◌, ◌&&◌, ℤ, if◌then◌else◌, is_some}
use Rattle.std.specs.List.{list_any}
use Rattle.std.specs.Int.{int_max}
use Rattle.std.proofs.Math.Path.{fun_ext}
use Rattle.std.proofs.lemmas.Int.{ints, int_max_is}
use Rattle.std.proofs.lemmas.Nat.Bits.{bit_at-zero}
use Rattle.cq_position.specs.declared.men.Man.{Man}
use Rattle.cq_position.specs.Led.{led_to}
use Rattle.cq_position.specs.Search.{SearchedTree}
use Rattle.cq_symmetry.specs.Families.{members}
use Rattle.cq_symmetry.specs.Images.{is_in}
use Rattle.cql_syntax.specs.Contexts.{Context, designator_image, unary_image, way_image, field_image}
use Rattle.cql_syntax.specs.Flat.{without, distinct, image_or_nothing, flat, flat_form, flat_all, flat_terms, flat_played, flat_written, flat_parts, flat_body}
use Rattle.cql_syntax.specs.Kinds.{filter_kind}
use Rattle.cql_syntax.specs.Meaning.{Names, value, form_value, values, term_values, pattern, body_pattern, played_value, written_value, position_at, before, stands_on, directions_of, unary_of, marked, line_of, meets_all, fitting}
use Rattle.cql_syntax.specs.Same.{same_filter}
use Rattle.cq_common.specs.Spelling.{one, joined}
use Rattle.cql_syntax.specs.Trees.{FilterTree, filter_at, FormTree, designator, number, name, plain, tagged, outcome, elo, unary, direction, chain, sum_of, pair, if_, square, line, played, transform, sort, comment, any, FilterTrees, no_filters, more_filters, TermTrees, no_terms, more_terms, path, PlayedTree, move_of, WrittenTree, left_out, written, PartTrees, no_parts, more_parts, BodyTree, atom, group}
use Rattle.cql_syntax.specs.Values.{Value, as_truth, as_number, squares_where, holds, has, amount, any_of, chain_of, pair_of, greatest, greater, if_of, square_of, total_of, reached_of}
use Rattle.cql_syntax.specs.declared.leaves.Designator.{Designator}
use Rattle.cql_syntax.specs.declared.leaves.Field.{Field}
use Rattle.cql_syntax.specs.declared.leaves.Kind.{Kind}
use Rattle.cql_syntax.specs.declared.leaves.Kind.TheVariants.{Position, Set, Number}
use Rattle.cql_syntax.proofs.SameSound.{filter_is}

max_same : (a : ℤ) → int_max a a ≡ a
max_same a = omega (arith, ints, int_max_is a a)

max_twice : (a b : ℤ) → int_max a (int_max a b) ≡ int_max a b
max_twice a b = omega (arith, ints, int_max_is a b, int_max_is a (int_max a b))

max_swap : (a b : ℤ) → int_max a b ≡ int_max b a
max_swap a b = omega (arith, ints, int_max_is a b, int_max_is b a)

max_swap_three : (a b c : ℤ) → int_max a (int_max b c) ≡ int_max b (int_max a c)
max_swap_three a b c = omega (arith, ints, int_max_is b c, int_max_is a (int_max b c), int_max_is a c, int_max_is b (int_max a c))

greater_twice : (a : Option ℤ) (x : Option ℤ) → greater a (greater a x) ≡ greater a x
greater_twice None x = refl
greater_twice (Some a) None = ap Some (max_same a)
greater_twice (Some a) (Some b) = ap Some (max_twice a b)

greater_swap : (a b x : Option ℤ) → greater a (greater b x) ≡ greater b (greater a x)
greater_swap None None x = refl
greater_swap None (Some b) x = refl
greater_swap (Some a) None x = refl
greater_swap (Some a) (Some b) None = ap Some (max_swap a b)
greater_swap (Some a) (Some b) (Some c) = ap Some (max_swap_three a b c)

none_set : (s : ℕ) (b : Bool) → false ≡ is_in 0 s && b
none_set s b = simp (bit_at-zero)

stands_image : (men : List Man) (o : Option Designator) → stands_on men o ≡ stands_on men (Some (image_or_nothing o))
stands_image men None = fun_ext (λ s. none_set s _)
stands_image men (Some d) = refl

field_once : (g : Context) (field : Field) → field_image [] (field_image g field) ≡ field_image g field
field_once g field = refl

or_twice : (a b r : Bool) → b ≡ a → (a || r) ≡ (a || (b || r))
or_twice true b r e = refl
or_twice false true r e = cc
or_twice false false r e = refl

or_under : (a b q r : Bool) → (a || q) ≡ (a || r) → (a || (b || q)) ≡ (a || (b || r))
or_under true b q r e = refl
or_under false b q r e = ap (λ x. b || x) e

module _ (tree : SearchedTree) (e : Names) (n : ℕ) where
  abbrev v : FilterTree → Value
  v f = value tree [] e f n

  abbrev vs : FilterTrees → List Value
  vs fs = values tree [] e fs n

  any_chosen : (p : Value → Bool) (x y : FilterTree) (rest fs : FilterTrees) (b : Bool) → (b ≡ true → x ≡ y)
      → (p (v x) || list_any p (vs rest)) ≡ (p (v x) || list_any p (vs fs))
      → (p (v x) || list_any p (vs (if b then rest else more_filters y rest))) ≡ (p (v x) || (p (v y) || list_any p (vs fs)))
  unfolding value
  any_chosen p x y rest fs true is ih = ih ∙ or_twice (p (v x)) (p (v y)) (list_any p (vs fs)) (ap (λ f. p (v f)) (sym (is refl)))
  any_chosen p x y rest fs false is ih = or_under (p (v x)) (p (v y)) (list_any p (vs rest)) (list_any p (vs fs)) ih

  any_without : (p : Value → Bool) (x : FilterTree) (fs : FilterTrees) → (p (v x) || list_any p (vs (without x fs))) ≡ (p (v x) || list_any p (vs fs))
  unfolding value
  any_without p x no_filters = refl
  any_without p x (more_filters y fs) = any_chosen p x y (without x fs) fs (same_filter x y) (filter_is x y) (any_without p x fs)

  any_distinct : (p : Value → Bool) (xs : List FilterTree) → list_any p (vs (distinct xs)) ≡ list_any p (map v xs)
  unfolding value
  any_distinct p [] = refl
  any_distinct p (x ∷ xs) = any_without p x (distinct xs) ∙ ap (λ r. p (v x) || r) (any_distinct p xs)

  greatest_chosen : (x y : FilterTree) (rest fs : FilterTrees) (b : Bool) → (b ≡ true → x ≡ y)
      → greater (amount (v x)) (greatest (vs rest)) ≡ greater (amount (v x)) (greatest (vs fs))
      → greater (amount (v x)) (greatest (vs (if b then rest else more_filters y rest))) ≡ greater (amount (v x)) (greater (amount (v y)) (greatest (vs fs)))
  unfolding value
  greatest_chosen x y rest fs true is ih = ih ∙ sym (greater_twice (amount (v x)) (greatest (vs fs))) ∙ ap (λ f. greater (amount (v x)) (greater (amount (v f)) (greatest (vs fs)))) (is refl)
  greatest_chosen x y rest fs false is ih = greater_swap (amount (v x)) (amount (v y)) (greatest (vs rest)) ∙ ap (greater (amount (v y))) ih
      ∙ greater_swap (amount (v y)) (amount (v x)) (greatest (vs fs))

  greatest_without : (x : FilterTree) (fs : FilterTrees) → greater (amount (v x)) (greatest (vs (without x fs))) ≡ greater (amount (v x)) (greatest (vs fs))
  unfolding value
  greatest_without x no_filters = refl
  greatest_without x (more_filters y fs) = greatest_chosen x y (without x fs) fs (same_filter x y) (filter_is x y) (greatest_without x fs)

  greatest_distinct : (xs : List FilterTree) → greatest (vs (distinct xs)) ≡ greatest (map v xs)
  unfolding value
  greatest_distinct [] = refl
  greatest_distinct (x ∷ xs) = greatest_without x (distinct xs) ∙ ap (greater (amount (v x))) (greatest_distinct xs)

  any_of_distinct : (k : Kind) (xs : List FilterTree) → any_of k (vs (distinct xs)) ≡ any_of k (map v xs)
  any_of_distinct Position xs = ap as_truth (any_distinct holds xs)
  any_of_distinct Set xs = ap squares_where (fun_ext (λ s. any_distinct (λ w. has w s) xs))
  any_of_distinct Number xs = ap as_number (greatest_distinct xs)

  mapped_twice : (gs : List Context) (a : Context → Value) (b : Context → FilterTree) → ((h : Context) → a h ≡ v (b h)) → map a gs ≡ map v (map b gs)
  mapped_twice [] a b is = refl
  mapped_twice (h ∷ gs) a b is = ap₂ (λ x y. x ∷ y) (is h) (mapped_twice gs a b is)

module _ (tree : SearchedTree) where
  mutual
    unfolding value flat designator_image

    pub flat_is_same : (f : FilterTree) (g : Context) (e : Names) (n : ℕ) → value tree g e f n ≡ value tree [] e (flat g f) n
    flat_is_same (filter_at at f) g e n = form_is_same f g e n

    form_is_same : (f : FormTree) (g : Context) (e : Names) (n : ℕ) → form_value tree g e f n ≡ form_value tree [] e (flat_form g f) n
    form_is_same (designator d) g e n = ap squares_where (stands_image (position_at tree n).men (designator_image g d))
    form_is_same (number k) g e n = refl
    form_is_same (name text) g e n = refl
    form_is_same (plain word) g e n = refl
    form_is_same (tagged field text) g e n = refl
    form_is_same (outcome o) g e n = refl
    form_is_same (elo whose) g e n = refl
    form_is_same (unary u f) g e n = ap (λ x. unary_of tree (unary_image g u) x n) (fun_ext (flat_is_same f g e))
    form_is_same (direction way a b f) g e n = ap (reached_of (directions_of (way_image g way)) a b) (flat_is_same f g e n)
    form_is_same (chain c fs) g e n = ap (chain_of c) (all_is_same fs g e n)
    form_is_same (sum_of ts) g e n = ap total_of (terms_is_same ts g e n)
    form_is_same (pair c a b) g e n = ap₂ (pair_of (position_at tree n).men c) (flat_is_same a g e n) (flat_is_same b g e n)
    form_is_same (if_ a b c) g e n = ap₂ (λ x y. if_of x y (value tree g e c n)) (flat_is_same a g e n) (flat_is_same b g e n)
        ∙ ap (if_of (value tree [] e (flat g a) n) (value tree [] e (flat g b) n)) (flat_is_same c g e n)
    form_is_same (square every text a b) g e n = ap₂ (square_of every) (flat_is_same a g e n) (fun_ext (λ s. ap holds (flat_is_same b g ((text, s) ∷ e) n)))
    form_is_same (line (path back primary extent cs)) g e n = ap (λ p. line_of tree back primary extent p n) (parts_is_same cs g e)
    form_is_same (played p) g e n = ap as_truth (played_is_same p g e n)
    form_is_same (transform t f) g e n =
        ap (any_of (filter_kind f)) (mapped_twice tree e n (fitting g (members t) f) (λ h. value tree h e f n) (λ h. flat h f) (λ h. flat_is_same f h e n))
        ∙ sym (any_of_distinct tree e n (filter_kind f) (map (λ h. flat h f) (fitting g (members t) f)))
    form_is_same (sort least text f) g e n = ap (λ x. as_truth (is_some (amount x))) (flat_is_same f g e n)
    form_is_same (comment text) g e n = refl
    form_is_same (any kind fs) g e n = ap (any_of kind) (all_is_same fs g e n)

    pub all_is_same : (fs : FilterTrees) (g : Context) (e : Names) (n : ℕ) → values tree g e fs n ≡ values tree [] e (flat_all g fs) n
    all_is_same no_filters g e n = refl
    all_is_same (more_filters f fs) g e n = ap₂ (λ x y. x ∷ y) (flat_is_same f g e n) (all_is_same fs g e n)

    terms_is_same : (ts : TermTrees) (g : Context) (e : Names) (n : ℕ) → term_values tree g e ts n ≡ term_values tree [] e (flat_terms g ts) n
    terms_is_same no_terms g e n = refl
    terms_is_same (more_terms minus f ts) g e n = ap₂ (λ x y. (minus, x) ∷ y) (flat_is_same f g e n) (terms_is_same ts g e n)

    parts_is_same : (cs : PartTrees) (g : Context) (e : Names) → pattern tree g e cs ≡ pattern tree [] e (flat_parts g cs)
    parts_is_same no_parts g e = refl
    parts_is_same (more_parts body mark cs) g e = ap₂ (λ x y. joined (marked mark x) y) (body_is_same body g e) (parts_is_same cs g e)

    body_is_same : (b : BodyTree) (g : Context) (e : Names) → body_pattern tree g e b ≡ body_pattern tree [] e (flat_body g b)
    body_is_same (atom f) g e = ap one (fun_ext (flat_is_same f g e))
    body_is_same (group cs) g e = parts_is_same cs g e

    played_is_same : (p : PlayedTree) (g : Context) (e : Names) (n : ℕ) → played_value tree g e p n ≡ played_value tree [] e (flat_played g p) n
    played_is_same (move_of origin goal taken promoted) g e n =
        ap₂ (λ x y. meets_all (led_to tree.game.nodes n) x y (written_value tree g e taken (before tree n)) (written_value tree g e promoted n))
        (written_is_same origin g e (before tree n)) (written_is_same goal g e n)
        ∙ ap₂ (λ x y. meets_all (led_to tree.game.nodes n) (written_value tree [] e (flat_written g origin) (before tree n))
        (written_value tree [] e (flat_written g goal) n) x y) (written_is_same taken g e (before tree n)) (written_is_same promoted g e n)

    written_is_same : (w : WrittenTree) (g : Context) (e : Names) (n : ℕ) → written_value tree g e w n ≡ written_value tree [] e (flat_written g w) n
    written_is_same left_out g e n = refl
    written_is_same (written f) g e n = ap Some (flat_is_same f g e n)
