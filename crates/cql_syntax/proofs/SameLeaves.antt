-- Values without a tree below them are equal if the tests find them the same. Each is the same as itself.
use Rattle.std.proofs.Common.{◌≡◌, ℕ, Bool, true, false, ◌&&◌, ◌==◌, refl, sym, ap, ap₂, ◌∙◌}
use Rattle.std.specs.Prelude.{[], ◌∷◌, slice_index_or}
use Rattle.std.proofs.lemmas.Bool.{eqb-true}
use Rattle.std.proofs.lemmas.Bool.Decides.{Decides-eqb}
use Rattle.cq_common.proofs.SpellingLaw.{left, right, both_true as both}
use Rattle.cq_symmetry.specs.declared.families.Family.{Family}
use Rattle.cq_symmetry.specs.declared.families.Family.TheVariants.{Flip, Rotate90, FlipVertical, FlipHorizontal, FlipColor, Shift, ShiftHorizontal, ShiftVertical}
use Rattle.cq_symmetry.specs.declared.parts.SquarePart.{SquarePart}
use Rattle.cql_syntax.specs.Leaves.{same_flag, plain_number, of_number, outcome_number, unary_number, way_number, chain_number, pair_number, family_number, kind_number, same_designator, same_field, same_mark, same_extent}
use Rattle.cql_syntax.specs.declared.extents.Extent.{Extent}
use Rattle.cql_syntax.specs.declared.extents.Extent.TheVariants.{Any as AnyLength, Within}
use Rattle.cql_syntax.specs.declared.leaves.Chain.{Chain}
use Rattle.cql_syntax.specs.declared.leaves.Chain.TheVariants.{Or, And, All, Union, Intersect, Product, Max, Min}
use Rattle.cql_syntax.specs.declared.leaves.Designator.{Designator}
use Rattle.cql_syntax.specs.declared.leaves.Field.{Field}
use Rattle.cql_syntax.specs.declared.leaves.Field.TheVariants.{Player, Event, Site}
use Rattle.cql_syntax.specs.declared.leaves.Kind.{Kind}
use Rattle.cql_syntax.specs.declared.leaves.Kind.TheVariants.{Position, Set, Number}
use Rattle.cql_syntax.specs.declared.leaves.Mark.{Mark}
use Rattle.cql_syntax.specs.declared.leaves.Mark.TheVariants.{Once, Star, Plus, Maybe, Times}
use Rattle.cql_syntax.specs.declared.leaves.Of.{Of}
use Rattle.cql_syntax.specs.declared.leaves.Of.TheVariants.{Either, White, Black}
use Rattle.cql_syntax.specs.declared.leaves.Outcome.{Outcome}
use Rattle.cql_syntax.specs.declared.leaves.Outcome.TheVariants.{White as WhiteWins, Black as BlackWins, Draw, Unfinished}
use Rattle.cql_syntax.specs.declared.leaves.Pair.{Pair}
use Rattle.cql_syntax.specs.declared.leaves.Pair.TheVariants.{Attacks, AttackedBy, Between, Less, AtMost, Equal, AtLeast, Greater}
use Rattle.cql_syntax.specs.declared.leaves.Plain.{Plain}
use Rattle.cql_syntax.specs.declared.leaves.Plain.TheVariants.{Check, Mate, Stalemate, Wtm, Btm, Initial, Terminal, Mainline, Variation, HasComment, Ply, MoveNumber, Depth, Year}
use Rattle.cql_syntax.specs.declared.leaves.Unary.{Unary}
use Rattle.cql_syntax.specs.declared.leaves.Unary.TheVariants.{Not, Complement, Count, Power, Light, Dark, Find, FindUp, Child, Parent}
use Rattle.cql_syntax.specs.declared.leaves.Way.{Way}
use Rattle.cql_syntax.specs.declared.leaves.Way.TheVariants.{Up, Down, Left, Right, Northeast, Northwest, Southeast, Southwest, Diagonal, Orthogonal, AnyDirection}

pub same_numbers : (a : ℕ) → (a == a) ≡ true
same_numbers a = (Decides-eqb a a).1 refl

pub flags : (a b : Bool) → same_flag a b ≡ true → a ≡ b
flags true b e = sym e
flags false true e = e
flags false false e = refl

pub same_flags : (a : Bool) → same_flag a a ≡ true
same_flags true = refl
same_flags false = refl

-- words that have their numbers back have different ones
numbered : {A : Type 0} (number : A → ℕ) (back : ℕ → A) → ((a : A) → back (number a) ≡ a) → (a b : A) → (number a == number b) ≡ true → a ≡ b
numbered number back is a b e = sym (is a) ∙ ap back (eqb-true (number a) (number b) e) ∙ is b

abbrev plain_back : ℕ → Plain
plain_back n = slice_index_or (Check ∷ Mate ∷ Stalemate ∷ Wtm ∷ Btm ∷ Initial ∷ Terminal ∷ Mainline ∷ Variation ∷ HasComment ∷ Ply ∷ MoveNumber ∷ Depth ∷ Year ∷ []) n Check

plain_is : (a : Plain) → plain_back (plain_number a) ≡ a
plain_is Check = refl
plain_is Mate = refl
plain_is Stalemate = refl
plain_is Wtm = refl
plain_is Btm = refl
plain_is Initial = refl
plain_is Terminal = refl
plain_is Mainline = refl
plain_is Variation = refl
plain_is HasComment = refl
plain_is Ply = refl
plain_is MoveNumber = refl
plain_is Depth = refl
plain_is Year = refl

pub plains : (a b : Plain) → (plain_number a == plain_number b) ≡ true → a ≡ b
plains a b e = numbered plain_number plain_back plain_is a b e

abbrev of_back : ℕ → Of
of_back n = slice_index_or (Either ∷ White ∷ Black ∷ []) n Either

of_is : (a : Of) → of_back (of_number a) ≡ a
of_is Either = refl
of_is White = refl
of_is Black = refl

pub ofs : (a b : Of) → (of_number a == of_number b) ≡ true → a ≡ b
ofs a b e = numbered of_number of_back of_is a b e

abbrev outcome_back : ℕ → Outcome
outcome_back n = slice_index_or (WhiteWins ∷ BlackWins ∷ Draw ∷ Unfinished ∷ []) n WhiteWins

outcome_is : (a : Outcome) → outcome_back (outcome_number a) ≡ a
outcome_is WhiteWins = refl
outcome_is BlackWins = refl
outcome_is Draw = refl
outcome_is Unfinished = refl

pub outcomes : (a b : Outcome) → (outcome_number a == outcome_number b) ≡ true → a ≡ b
outcomes a b e = numbered outcome_number outcome_back outcome_is a b e

abbrev unary_back : ℕ → Unary
unary_back n = slice_index_or (Not ∷ Complement ∷ Count ∷ Power ∷ Light ∷ Dark ∷ Find ∷ FindUp ∷ Child ∷ Parent ∷ []) n Not

unary_is : (a : Unary) → unary_back (unary_number a) ≡ a
unary_is Not = refl
unary_is Complement = refl
unary_is Count = refl
unary_is Power = refl
unary_is Light = refl
unary_is Dark = refl
unary_is Find = refl
unary_is FindUp = refl
unary_is Child = refl
unary_is Parent = refl

pub unarys : (a b : Unary) → (unary_number a == unary_number b) ≡ true → a ≡ b
unarys a b e = numbered unary_number unary_back unary_is a b e

abbrev way_back : ℕ → Way
way_back n = slice_index_or (Up ∷ Down ∷ Left ∷ Right ∷ Northeast ∷ Northwest ∷ Southeast ∷ Southwest ∷ Diagonal ∷ Orthogonal ∷ AnyDirection ∷ []) n Up

way_is : (a : Way) → way_back (way_number a) ≡ a
way_is Up = refl
way_is Down = refl
way_is Left = refl
way_is Right = refl
way_is Northeast = refl
way_is Northwest = refl
way_is Southeast = refl
way_is Southwest = refl
way_is Diagonal = refl
way_is Orthogonal = refl
way_is AnyDirection = refl

pub ways : (a b : Way) → (way_number a == way_number b) ≡ true → a ≡ b
ways a b e = numbered way_number way_back way_is a b e

abbrev chain_back : ℕ → Chain
chain_back n = slice_index_or (Or ∷ And ∷ All ∷ Union ∷ Intersect ∷ Product ∷ Max ∷ Min ∷ []) n Or

chain_is : (a : Chain) → chain_back (chain_number a) ≡ a
chain_is Or = refl
chain_is And = refl
chain_is All = refl
chain_is Union = refl
chain_is Intersect = refl
chain_is Product = refl
chain_is Max = refl
chain_is Min = refl

pub chains : (a b : Chain) → (chain_number a == chain_number b) ≡ true → a ≡ b
chains a b e = numbered chain_number chain_back chain_is a b e

abbrev pair_back : ℕ → Pair
pair_back n = slice_index_or (Attacks ∷ AttackedBy ∷ Between ∷ Less ∷ AtMost ∷ Equal ∷ AtLeast ∷ Greater ∷ []) n Attacks

pair_is : (a : Pair) → pair_back (pair_number a) ≡ a
pair_is Attacks = refl
pair_is AttackedBy = refl
pair_is Between = refl
pair_is Less = refl
pair_is AtMost = refl
pair_is Equal = refl
pair_is AtLeast = refl
pair_is Greater = refl

pub pairs : (a b : Pair) → (pair_number a == pair_number b) ≡ true → a ≡ b
pairs a b e = numbered pair_number pair_back pair_is a b e

abbrev family_back : ℕ → Family
family_back n = slice_index_or (Flip ∷ Rotate90 ∷ FlipVertical ∷ FlipHorizontal ∷ FlipColor ∷ Shift ∷ ShiftHorizontal ∷ ShiftVertical ∷ []) n Flip

family_is : (a : Family) → family_back (family_number a) ≡ a
family_is Flip = refl
family_is Rotate90 = refl
family_is FlipVertical = refl
family_is FlipHorizontal = refl
family_is FlipColor = refl
family_is Shift = refl
family_is ShiftHorizontal = refl
family_is ShiftVertical = refl

pub familys : (a b : Family) → (family_number a == family_number b) ≡ true → a ≡ b
familys a b e = numbered family_number family_back family_is a b e

abbrev kind_back : ℕ → Kind
kind_back n = slice_index_or (Position ∷ Set ∷ Number ∷ []) n Position

kind_is : (a : Kind) → kind_back (kind_number a) ≡ a
kind_is Position = refl
kind_is Set = refl
kind_is Number = refl

pub kinds : (a b : Kind) → (kind_number a == kind_number b) ≡ true → a ≡ b
kinds a b e = numbered kind_number kind_back kind_is a b e

abbrev part_of : ℕ → Bool → Bool → SquarePart
part_of squares ranks files = record { squares = squares; whole_ranks = ranks; whole_files = files }

abbrev of_parts : ℕ → SquarePart → Designator
of_parts men part = record { men = men; part = part }

pub designators : (a b : Designator) → same_designator a b ≡ true → a ≡ b
designators a b e =
    let men = eqb-true a.men b.men (left _ _ (left _ _ (left _ _ e))) in
    let squares = eqb-true a.part.squares b.part.squares (right _ _ (left _ _ (left _ _ e))) in
    let ranks = flags a.part.whole_ranks b.part.whole_ranks (right _ _ (left _ _ e)) in
    let files = flags a.part.whole_files b.part.whole_files (right _ _ e) in
    ap₂ of_parts men (ap₂ (λ s w. part_of s w a.part.whole_files) squares ranks ∙ ap (part_of b.part.squares b.part.whole_ranks) files)

pub fields : (a b : Field) → same_field a b ≡ true → a ≡ b
fields (Player a) (Player b) e = ap Player (ofs a b e)
fields Event Event e = refl
fields Site Site e = refl
fields a b e = cc

pub marks : (a b : Mark) → same_mark a b ≡ true → a ≡ b
marks Once Once e = refl
marks Star Star e = refl
marks Plus Plus e = refl
marks Maybe Maybe e = refl
marks (Times a b) (Times c d) e = ap₂ Times (eqb-true a c (left _ _ e)) (eqb-true b d (right _ _ e))
marks a b e = cc

pub extents : (a b : Extent) → same_extent a b ≡ true → a ≡ b
extents AnyLength AnyLength e = refl
extents (Within a b) (Within c d) e = ap₂ Within (eqb-true a c (left _ _ e)) (eqb-true b d (right _ _ e))
extents a b e = cc

pub same_designators : (a : Designator) → same_designator a a ≡ true
same_designators a = both _ _ (both _ _ (both _ _ (same_numbers a.men) (same_numbers a.part.squares)) (same_flags a.part.whole_ranks)) (same_flags a.part.whole_files)

pub same_fields : (a : Field) → same_field a a ≡ true
same_fields (Player a) = same_numbers (of_number a)
same_fields Event = refl
same_fields Site = refl

pub same_marks : (a : Mark) → same_mark a a ≡ true
same_marks Once = refl
same_marks Star = refl
same_marks Plus = refl
same_marks Maybe = refl
same_marks (Times a b) = both _ _ (same_numbers a) (same_numbers b)

pub same_extents : (a : Extent) → same_extent a a ≡ true
same_extents AnyLength = refl
same_extents (Within a b) = both _ _ (same_numbers a) (same_numbers b)
