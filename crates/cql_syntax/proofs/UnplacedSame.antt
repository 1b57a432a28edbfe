-- The value of a filter does not depend on its places.
use Rattle.std.proofs.Common.{◌≡◌, ℕ, Bool, true, false, ◌&&◌, List, ◌∷◌, map, Some, refl, sym, ap, ap₂, ◌∙◌}
use Rattle.std.specs.Prelude.{is_some}
use Rattle.std.specs.List.{list_any, filter}
use Rattle.std.proofs.Math.Path.{fun_ext}
use Rattle.cq_common.specs.Spelling.{one, joined}
use Rattle.cq_position.specs.Led.{led_to}
use Rattle.cq_position.specs.Search.{SearchedTree}
use Rattle.cq_symmetry.specs.Families.{members}
use Rattle.cq_symmetry.specs.Mappings.{PlainMapping}
use Rattle.cql_syntax.specs.Contexts.{Context, unary_image, way_image}
use Rattle.cql_syntax.specs.Kinds.{filter_kind, form_kind}
use Rattle.cql_syntax.specs.Meaning.{Names, position_at, directions_of, unary_of, marked, line_of, meets_all, before, fits, form_fits, all_fit, terms_fit, written_fits, parts_fit, body_fits, fitting, value, form_value, values, term_values, pattern, body_pattern, played_value, written_value}
use Rattle.cql_syntax.specs.Trees.{FilterTree, filter_at, FormTree, designator, number, name, plain, tagged, outcome, elo, unary, direction, chain, sum_of, pair, if_, square, line, played, transform, sort, comment, any, FilterTrees, no_filters, more_filters, TermTrees, no_terms, more_terms, path, PlayedTree, move_of, WrittenTree, left_out, written, PartTrees, no_parts, more_parts, BodyTree, atom, group}
use Rattle.cql_syntax.specs.Unplaced.{with_places, form_with, all_with, terms_with, played_with, written_with, parts_with, body_with, unplaced, same_unplaced}
use Rattle.cql_syntax.specs.Values.{Value, as_truth, holds, amount, reached_of, total_of, if_of, square_of, chain_of, pair_of, any_of}
use Rattle.cql_syntax.proofs.SameSound.{filter_is}

module _ (p : Bool) where
  mutual
    unfolding with_places

    kind_same : (f : FilterTree) → filter_kind (with_places p f) ≡ filter_kind f
    kind_same (filter_at at f) = form_kind_same f

    form_kind_same : (f : FormTree) → form_kind (form_with p f) ≡ form_kind f
    form_kind_same (transform t f) = kind_same f
    form_kind_same (designator d) = refl
    form_kind_same (number n) = refl
    form_kind_same (name text) = refl
    form_kind_same (plain word) = refl
    form_kind_same (tagged field text) = refl
    form_kind_same (outcome o) = refl
    form_kind_same (elo whose) = refl
    form_kind_same (unary u f) = refl
    form_kind_same (direction way m n f) = refl
    form_kind_same (chain c fs) = refl
    form_kind_same (sum_of ts) = refl
    form_kind_same (pair c f g) = refl
    form_kind_same (if_ f g h) = refl
    form_kind_same (square every text f g) = refl
    form_kind_same (line l) = refl
    form_kind_same (played m) = refl
    form_kind_same (sort least text f) = refl
    form_kind_same (comment text) = refl
    form_kind_same (any kind fs) = refl

  mutual
    unfolding with_places fits

    fits_same : (f : FilterTree) (g : Context) → fits g (with_places p f) ≡ fits g f
    fits_same (filter_at at f) g = form_fits_same f g

    form_fits_same : (f : FormTree) (g : Context) → form_fits g (form_with p f) ≡ form_fits g f
    form_fits_same (designator d) g = refl
    form_fits_same (number n) g = refl
    form_fits_same (name text) g = refl
    form_fits_same (plain word) g = refl
    form_fits_same (tagged field text) g = refl
    form_fits_same (outcome o) g = refl
    form_fits_same (elo whose) g = refl
    form_fits_same (unary u f) g = fits_same f g
    form_fits_same (direction way m n f) g = fits_same f g
    form_fits_same (chain c fs) g = all_fit_same fs g
    form_fits_same (sum_of ts) g = terms_fit_same ts g
    form_fits_same (pair c a b) g = ap₂ (λ x y. x && y) (fits_same a g) (fits_same b g)
    form_fits_same (if_ a b c) g = ap₂ (λ x y. x && y) (ap₂ (λ x y. x && y) (fits_same a g) (fits_same b g)) (fits_same c g)
    form_fits_same (square every text a b) g = ap₂ (λ x y. x && y) (fits_same a g) (fits_same b g)
    form_fits_same (line (path back primary extent cs)) g = parts_fit_same cs g
    form_fits_same (played (move_of a b c d)) g =
        ap₂ (λ x y. x && y) (ap₂ (λ x y. x && y) (ap₂ (λ x y. x && y) (written_fits_same a g) (written_fits_same b g)) (written_fits_same c g))
        (written_fits_same d g)
    form_fits_same (transform t f) g = ap (λ test. list_any test (members t)) (fun_ext (λ h. fits_same f (h ∷ g)))
    form_fits_same (sort least text f) g = fits_same f g
    form_fits_same (comment text) g = refl
    form_fits_same (any kind fs) g = all_fit_same fs g

    all_fit_same : (fs : FilterTrees) (g : Context) → all_fit g (all_with p fs) ≡ all_fit g fs
    all_fit_same no_filters g = refl
    all_fit_same (more_filters f fs) g = ap₂ (λ x y. x && y) (fits_same f g) (all_fit_same fs g)

    terms_fit_same : (ts : TermTrees) (g : Context) → terms_fit g (terms_with p ts) ≡ terms_fit g ts
    terms_fit_same no_terms g = refl
    terms_fit_same (more_terms minus f ts) g = ap₂ (λ x y. x && y) (fits_same f g) (terms_fit_same ts g)

    written_fits_same : (w : WrittenTree) (g : Context) → written_fits g (written_with p w) ≡ written_fits g w
    written_fits_same left_out g = refl
    written_fits_same (written f) g = fits_same f g

    parts_fit_same : (cs : PartTrees) (g : Context) → parts_fit g (parts_with p cs) ≡ parts_fit g cs
    parts_fit_same no_parts g = refl
    parts_fit_same (more_parts body mark cs) g = ap₂ (λ x y. x && y) (body_fits_same body g) (parts_fit_same cs g)

    body_fits_same : (b : BodyTree) (g : Context) → body_fits g (body_with p b) ≡ body_fits g b
    body_fits_same (atom f) g = fits_same f g
    body_fits_same (group cs) g = parts_fit_same cs g

  fitting_same : (g : Context) (ms : List PlainMapping) (f : FilterTree) → fitting g ms (with_places p f) ≡ fitting g ms f
  fitting_same g ms f = ap (λ test. filter test (map (λ m. m ∷ g) ms)) (fun_ext (λ h. fits_same f h))

  each_same : (hs : List Context) (a b : Context → Value) → ((h : Context) → a h ≡ b h) → map a hs ≡ map b hs
  each_same hs a b is = ap (λ v. map v hs) (fun_ext is)

  module _ (tree : SearchedTree) where
    mutual
      unfolding with_places value

      value_same : (f : FilterTree) (g : Context) (e : Names) (n : ℕ) → value tree g e (with_places p f) n ≡ value tree g e f n
      value_same (filter_at at f) g e n = form_same f g e n

      form_same : (f : FormTree) (g : Context) (e : Names) (n : ℕ) → form_value tree g e (form_with p f) n ≡ form_value tree g e f n
      form_same (designator d) g e n = refl
      form_same (number k) g e n = refl
      form_same (name text) g e n = refl
      form_same (plain word) g e n = refl
      form_same (tagged field text) g e n = refl
      form_same (outcome o) g e n = refl
      form_same (elo whose) g e n = refl
      form_same (unary u f) g e n = ap (λ x. unary_of tree (unary_image g u) x n) (fun_ext (value_same f g e))
      form_same (direction way a b f) g e n = ap (reached_of (directions_of (way_image g way)) a b) (value_same f g e n)
      form_same (chain c fs) g e n = ap (chain_of c) (values_same fs g e n)
      form_same (sum_of ts) g e n = ap total_of (terms_same ts g e n)
      form_same (pair c a b) g e n = ap₂ (pair_of (position_at tree n).men c) (value_same a g e n) (value_same b g e n)
      form_same (if_ a b c) g e n =
          ap₂ (λ x y. if_of x y (value tree g e (with_places p c) n)) (value_same a g e n) (value_same b g e n)
          ∙ ap (if_of (value tree g e a n) (value tree g e b n)) (value_same c g e n)
      form_same (square every text a b) g e n =
          ap₂ (square_of every) (value_same a g e n) (fun_ext (λ s. ap holds (value_same b g ((text, s) ∷ e) n)))
      form_same (line (path back primary extent cs)) g e n = ap (λ q. line_of tree back primary extent q n) (parts_same cs g e)
      form_same (played m) g e n = ap as_truth (played_same m g e n)
      form_same (transform t f) g e n =
          ap₂ (λ k hs. any_of k (map (λ h. value tree h e (with_places p f) n) hs)) (kind_same f) (fitting_same g (members t) f)
          ∙ ap (any_of (filter_kind f)) (each_same (fitting g (members t) f) (λ h. value tree h e (with_places p f) n)
          (λ h. value tree h e f n) (λ h. value_same f h e n))
      form_same (sort least text f) g e n = ap (λ x. as_truth (is_some (amount x))) (value_same f g e n)
      form_same (comment text) g e n = refl
      form_same (any kind fs) g e n = ap (any_of kind) (values_same fs g e n)

      values_same : (fs : FilterTrees) (g : Context) (e : Names) (n : ℕ) → values tree g e (all_with p fs) n ≡ values tree g e fs n
      values_same no_filters g e n = refl
      values_same (more_filters f fs) g e n = ap₂ (λ x y. x ∷ y) (value_same f g e n) (values_same fs g e n)

      terms_same : (ts : TermTrees) (g : Context) (e : Names) (n : ℕ) → term_values tree g e (terms_with p ts) n ≡ term_values tree g e ts n
      terms_same no_terms g e n = refl
      terms_same (more_terms minus f ts) g e n = ap₂ (λ x y. (minus, x) ∷ y) (value_same f g e n) (terms_same ts g e n)

      parts_same : (cs : PartTrees) (g : Context) (e : Names) → pattern tree g e (parts_with p cs) ≡ pattern tree g e cs
      parts_same no_parts g e = refl
      parts_same (more_parts body mark cs) g e = ap₂ (λ x y. joined (marked mark x) y) (body_same body g e) (parts_same cs g e)

      body_same : (b : BodyTree) (g : Context) (e : Names) → body_pattern tree g e (body_with p b) ≡ body_pattern tree g e b
      body_same (atom f) g e = ap one (fun_ext (value_same f g e))
      body_same (group cs) g e = parts_same cs g e

      played_same : (m : PlayedTree) (g : Context) (e : Names) (n : ℕ) → played_value tree g e (played_with p m) n ≡ played_value tree g e m n
      played_same (move_of origin goal taken promoted) g e n =
          ap₂ (λ x y. meets_all (led_to tree.game.nodes n) x y (written_value tree g e (written_with p taken) (before tree n))
          (written_value tree g e (written_with p promoted) n)) (written_same origin g e (before tree n)) (written_same goal g e n)
          ∙ ap₂ (λ x y. meets_all (led_to tree.game.nodes n) (written_value tree g e origin (before tree n)) (written_value tree g e goal n) x y)
          (written_same taken g e (before tree n)) (written_same promoted g e n)

      written_same : (w : WrittenTree) (g : Context) (e : Names) (n : ℕ) → written_value tree g e (written_with p w) n ≡ written_value tree g e w n
      written_same left_out g e n = refl
      written_same (written f) g e n = ap Some (value_same f g e n)

-- filters that are the same but for their places give the same
pub same_value : (f g : FilterTree) → same_unplaced f g ≡ true → (tree : SearchedTree) (c : Context) (e : Names) (n : ℕ)
    → value tree c e f n ≡ value tree c e g n
same_value f g same tree c e n =
    sym (value_same false tree f c e n) ∙ ap (λ h. value tree c e h n) (filter_is (unplaced f) (unplaced g) same) ∙ value_same false tree g c e n
