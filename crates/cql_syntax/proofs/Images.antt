-- The values of families of a designator, by images that are computed from the squares of a part. This takes fewer steps than the test of
-- each square of the board with each other.
use Rattle.std.proofs.Common.{◌≡◌, ℕ, Bool, true, false, ◌&&◌, ◌||◌, List, [], ◌∷◌, map, length, cond, Option, Some, option_map, refl, ap, ◌∙◌}
use Rattle.std.proofs.Math.Path.{fun_ext}
use Rattle.std.specs.Prelude.{if◌then◌else◌, is_some, option_and_then}
use Rattle.std.specs.List.{list_any, filter}
use Rattle.cq_geometry.specs.Squares.{squares}
use Rattle.cq_position.specs.Search.{SearchedTree}
use Rattle.cq_symmetry.specs.Families.{members}
use Rattle.cq_symmetry.specs.Images.{image, image_square, is_in, is_square, is_transposed, mask_of, part_or_none}
use Rattle.cq_symmetry.specs.Mappings.{PlainMapping}
use Rattle.cq_symmetry.specs.declared.families.Family.{Family}
use Rattle.cq_symmetry.specs.declared.parts.SquarePart.{SquarePart}
use Rattle.cql_syntax.specs.Contexts.{Context, designator_image, men_exchanged}
use Rattle.cql_syntax.specs.Meaning.{value, fits, fitting, standing_of, position_at}
use Rattle.cql_syntax.specs.Samples.{at, found}
use Rattle.cql_syntax.specs.Trees.{designator, transform}
use Rattle.cql_syntax.specs.Values.{Value, has, union_of}
use Rattle.cql_syntax.specs.declared.leaves.Designator.{Designator}

any_filtered : (p q : ℕ → Bool) (xs : List ℕ) → list_any (λ x. p x && q x) xs ≡ list_any q (filter p xs)
any_filtered p q [] = refl
any_filtered p q (x ∷ xs) = ap (λ b. (p x && q x) || b) (any_filtered p q xs) ∙ kept (p x)
  where
    kept : (b : Bool) → ((b && q x) || list_any q (filter p xs)) ≡ list_any q (cond b (x ∷ filter p xs) (filter p xs))
    kept true = refl
    kept false = refl

-- the image of a part whose squares are these
unfoldable pub image_from : PlainMapping → SquarePart → List ℕ → Option SquarePart
image_from m part places = part_or_none (record {
  squares = mask_of (λ goal. list_any (λ square. is_square (image_square m part square) goal) places);
  whole_ranks = if is_transposed m.symmetry then part.whole_files else part.whole_ranks;
  whole_files = if is_transposed m.symmetry then part.whole_ranks else part.whole_files;
})

image_is : (m : PlainMapping) (part : SquarePart) → image m part ≡ image_from m part (filter (is_in part.squares) squares)
unfolding image image_from
image_is m part =
    ap (λ (passes : ℕ → Bool). part_or_none (record {
      squares = mask_of passes;
      whole_ranks = if is_transposed m.symmetry then part.whole_files else part.whole_ranks;
      whole_files = if is_transposed m.symmetry then part.whole_ranks else part.whole_files;
    })) (fun_ext (λ goal. any_filtered (is_in part.squares) (λ square. is_square (image_square m part square) goal) squares))

abbrev exchanged_by : PlainMapping → ℕ → ℕ
exchanged_by m men = if m.exchange then men_exchanged men else men

-- the image of a designator in a context
unfoldable pub image_in : Context → Designator → Option Designator
image_in [] d = Some d
image_in (m ∷ g) d = option_and_then (image_in g)
    (option_map (λ part. record { men = exchanged_by m d.men; part = part }) (image_from m d.part (filter (is_in d.part.squares) squares)))

image_in_is : (g : Context) → designator_image g ≡ image_in g
unfolding designator_image image_in
image_in_is [] = refl
image_in_is (m ∷ g) = fun_ext (λ d.
    ap (λ image_by. option_and_then image_by (option_map (λ part. record { men = exchanged_by m d.men; part = part }) (image m d.part))) (image_in_is g)
    ∙ ap (λ found. option_and_then (image_in g) (option_map (λ (part : SquarePart). record { men = exchanged_by m d.men; part = part }) found)) (image_is m d.part))

images_are : designator_image ≡ image_in
images_are = fun_ext image_in_is

-- the contexts of a family's members in which a designator has an image
abbrev pub kept : (Context → Designator → Option Designator) → Family → Context → Designator → List Context
kept by t g d = filter (λ h. is_some (by h d)) (map (λ m. m ∷ g) (members t))

-- the contexts of a family's members in which a family of a designator has one
abbrev pub twice_kept : (Context → Designator → Option Designator) → (t u : Family) → Designator → List Context
twice_kept by t u d = filter (λ h. list_any (λ m. is_some (by (m ∷ h) d)) (members u)) (map (λ m. m ∷ []) (members t))

-- the value of a family of a designator in a context
abbrev pub family_of : (Context → Designator → Option Designator) → SearchedTree → Family → Context → Designator → ℕ → Value
family_of by tree t g d n = union_of (map (λ h. standing_of (position_at tree n).men (by h d)) (kept by t g d))

-- the value of a family of a family
abbrev pub families_of : (Context → Designator → Option Designator) → SearchedTree → (t u : Family) → Designator → ℕ → Value
families_of by tree t u d n = union_of (map (λ h. family_of by tree u h d n) (twice_kept by t u d))

pub kept_are : (t : Family) (d : Designator) (count : ℕ) → length (kept image_in t [] d) ≡ count → length (fitting [] (members t) (at (designator d))) ≡ count
unfolding fits
kept_are t d count is = ap (λ by. length (kept by t [] d)) images_are ∙ is

pub family_finds : (tree : SearchedTree) (t : Family) (d : Designator) (n : ℕ) (places : List ℕ) → filter (has (family_of image_in tree t [] d n)) squares ≡ places
    → found tree (transform t (at (designator d))) n ≡ places
unfolding value fits
family_finds tree t d n places is = ap (λ by. filter (has (family_of by tree t [] d n)) squares) images_are ∙ is

pub families_find : (tree : SearchedTree) (t u : Family) (d : Designator) (n : ℕ) (places : List ℕ) → filter (has (families_of image_in tree t u d n)) squares ≡ places
    → found tree (transform t (at (transform u (at (designator d))))) n ≡ places
unfolding value fits
families_find tree t u d n places is = ap (λ by. filter (has (families_of by tree t u d n)) squares) images_are ∙ is
