-- The definitions at worked rows.
use Rattle.std.proofs.Common.{◌≡◌, false, refl}
use Rattle.cq_symmetry.specs.declared.families.Family.TheVariants.{Flip, Shift}
use Rattle.cql_syntax.specs.Kinds.{filter_kind}
use Rattle.cql_syntax.specs.Places.{places, parts_places}
use Rattle.cql_syntax.specs.Trees.{FilterTree, filter_at, number, plain, sum_of, pair, line, transform, any, FilterTrees, no_filters, more_filters, no_terms, path, PartTrees, no_parts, more_parts, atom, group}
use Rattle.cql_syntax.specs.Weights.{filter_weight, filters_weight, capped}
use Rattle.cql_syntax.specs.declared.extents.Extent.TheVariants.{Any}
use Rattle.cql_syntax.specs.declared.leaves.Kind.TheVariants.{Position, Set}
use Rattle.cql_syntax.specs.declared.leaves.Mark.TheVariants.{Once, Star, Times}
use Rattle.cql_syntax.specs.declared.leaves.Plain.TheVariants.{Check, Ply}
use Rattle.cql_syntax.specs.declared.leaves.Pair.TheVariants.{Attacks, Less}

abbrev check : FilterTree
check = filter_at 0 (plain Check)

abbrev flip : FilterTree → FilterTree
flip f = filter_at 0 (transform Flip f)

abbrev shift : FilterTree → FilterTree
shift f = filter_at 0 (transform Shift f)

-- `flip flip flip flip flip check`
abbrev five_flips : FilterTree
five_flips = flip (flip (flip (flip (flip check))))

five_flips-weight : filter_weight five_flips ≡ 37449
five_flips-weight = refl

-- seven of them and one `check` are as heavy as a query may be
abbrev seven_and : FilterTrees → FilterTrees
seven_and fs = more_filters five_flips (more_filters five_flips (more_filters five_flips (more_filters five_flips (more_filters five_flips (more_filters five_flips (more_filters five_flips fs))))))

heaviest : filters_weight (seven_and (more_filters check no_filters)) ≡ 262144
heaviest = refl

too_heavy : capped (filters_weight (seven_and (more_filters check (more_filters check no_filters)))) ≡ 262145
too_heavy = refl

-- `shift shift shift check`
far_too_heavy : filter_weight (shift (shift (shift check))) ≡ 11441476
far_too_heavy = refl

far_too_heavy-capped : capped (filter_weight (shift (shift (shift check)))) ≡ 262145
far_too_heavy-capped = refl

-- `line --> (check --> check{999999999}){999999999}` weighs its two atoms
abbrev long : PartTrees
long = more_parts (group (more_parts (atom check) Once (more_parts (atom check) (Times 999999999 999999999) no_parts))) (Times 999999999 999999999) no_parts

long-weight : filter_weight (filter_at 0 (line (path false false Any long))) ≡ 3
long-weight = refl

-- and has 999999999 times a thousand million places
long-places : parts_places long ≡ 999999999000000000
long-places = refl

-- `line --> check{64}`
check_64-places : places (path false false Any (more_parts (atom check) (Times 64 64) no_parts)) ≡ 64
check_64-places = refl

-- `line --> (check --> check*){2,3} --> check{0}`
mixed-places : places (path false false Any (more_parts (group (more_parts (atom check) Once (more_parts (atom check) Star no_parts))) (Times 2 3) (more_parts (atom check) (Times 0 0) no_parts))) ≡ 7
mixed-places = refl

-- a family has the kind of its part, and `any` the kind that it names
flipped_pair-kind : filter_kind (flip (filter_at 5 (pair Attacks check check))) ≡ Set
flipped_pair-kind = refl

comparison-kind : filter_kind (filter_at 0 (pair Less (filter_at 0 (plain Ply)) (filter_at 6 (number 3)))) ≡ Position
comparison-kind = refl

empty_sum-kind : filter_kind (filter_at 0 (any Set (more_filters (filter_at 0 (sum_of no_terms)) no_filters))) ≡ Set
empty_sum-kind = refl
