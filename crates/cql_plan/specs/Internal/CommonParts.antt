-- The parts that all members of a family have, and the rest of each.
use Rattle.std.specs.Prelude.{◌≡◌, ℕ, ◌+◌, ◌≤◌, Bool, true, ◌&&◌, []}
use Rattle.std.specs.List.{list_all, list_any}
use Rattle.cq_position.specs.Search.{SearchedTree}
use Rattle.cql_syntax.specs.Meaning.{Names, value, values}
use Rattle.cql_syntax.specs.Occurrences.{TypingContext, part_of, all_of}
use Rattle.cql_syntax.specs.Trees.{FilterTree, FilterTrees}
use Rattle.cql_syntax.specs.Values.{holds}
use Rattle.cql_syntax.specs.declared.leaves.Kind.TheVariants.{Position}
use Rattle.cql_columns.specs.Costs.{filter_cost, filters_cost}
use Rattle.cql_plan.specs.Replacements.{is_sound, is_member, are_members}

abbrev pub each_holds : SearchedTree → Names → ℕ → FilterTrees → Bool
each_holds tree names n fs = list_all holds (values tree [] names fs n)

abbrev pub one_holds : SearchedTree → Names → ℕ → FilterTrees → Bool
one_holds tree names n fs = list_any holds (values tree [] names fs n)

-- filters may be parts, of kind position, of a filter in this context
abbrev pub may_stand : TypingContext → FilterTrees → Bool
may_stand s fs = list_all is_sound (all_of (part_of s Position) fs)

-- if one of the members holds, all of the common filters do
pub record AreCommon (members common : FilterTrees) : Type 0 where
  pub told : (tree : SearchedTree) (names : Names) (n : ℕ)
      → (one_holds tree names n members && each_holds tree names n common) ≡ one_holds tree names n members

-- The parts all hold exactly if all of the common ones and of the rest hold. They cost no less than both.
pub record AreDivided (parts common rest : FilterTrees) : Type 0 where
  pub told : (tree : SearchedTree) (names : Names) (n : ℕ)
      → each_holds tree names n parts ≡ (each_holds tree names n common && each_holds tree names n rest)
  pub common_sound : (s : TypingContext) → may_stand s parts ≡ true → may_stand s common ≡ true
  pub rest_sound : (s : TypingContext) → may_stand s parts ≡ true → may_stand s rest ≡ true
  pub cost : (searched : ℕ) → filters_cost searched common + filters_cost searched rest ≤ filters_cost searched parts

-- if the common ones hold, all of the rest hold exactly if all of the parts do, at no more cost
pub record AreLeft (common parts rest : FilterTrees) : Type 0 where
  pub told : (tree : SearchedTree) (names : Names) (n : ℕ) → (each_holds tree names n common && each_holds tree names n parts)
      ≡ (each_holds tree names n common && each_holds tree names n rest)
  pub sound : (s : TypingContext) → may_stand s parts ≡ true → may_stand s rest ≡ true
  pub cost : (searched : ℕ) → filters_cost searched rest ≤ filters_cost searched parts

-- if the common ones hold, the rest of a member holds exactly if the member does, at no more cost
pub record IsRest (common : FilterTrees) (f g : FilterTree) : Type 0 where
  pub told : (tree : SearchedTree) (names : Names) (n : ℕ) → (each_holds tree names n common && holds (value tree [] names f n))
      ≡ (each_holds tree names n common && holds (value tree [] names g n))
  pub member : (s : TypingContext) → is_member Position s f ≡ true → is_member Position s g ≡ true
  pub cost : (searched : ℕ) → filter_cost searched g ≤ filter_cost searched f

-- if the common ones hold, some rest holds exactly if some member does; the members cost no less than both
pub record AreRests (common members rests : FilterTrees) : Type 0 where
  pub told : (tree : SearchedTree) (names : Names) (n : ℕ) → (each_holds tree names n common && one_holds tree names n members)
      ≡ (each_holds tree names n common && one_holds tree names n rests)
  pub rests_sound : (s : TypingContext) → are_members Position s members ≡ true → are_members Position s rests ≡ true
  pub common_sound : (s : TypingContext) → are_members Position s members ≡ true → may_stand s common ≡ true
  pub cost : (searched : ℕ) → filters_cost searched common + filters_cost searched rests ≤ filters_cost searched members
