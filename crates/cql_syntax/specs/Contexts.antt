-- The image of a leaf of a query in a context. A context is a list of mappings, the innermost first, each of which maps the leaf in turn.
use Rattle.std.specs.Prelude.{ℕ, ◌+◌, ◌*◌, ◌/◌, ◌%◌, if◌then◌else◌, List, [], ◌∷◌, fold, Option, Some, option_map, option_and_then}
use Rattle.cq_geometry.specs.declared.compass.Compass.{Compass}
use Rattle.cq_geometry.specs.declared.compass.Compass.TheVariants.{Up as ToUp, Down as ToDown, Left as ToLeft, Right as ToRight, Northeast as ToNortheast, Northwest as ToNorthwest, Southeast as ToSoutheast, Southwest as ToSouthwest}
use Rattle.cq_symmetry.specs.Images.{image, image_compass, changes_light}
use Rattle.cq_symmetry.specs.Mappings.{PlainMapping}
use Rattle.cql_syntax.specs.declared.leaves.Designator.{Designator}
use Rattle.cql_syntax.specs.declared.leaves.Field.{Field}
use Rattle.cql_syntax.specs.declared.leaves.Field.TheVariants.{Player, Event, Site}
use Rattle.cql_syntax.specs.declared.leaves.Of.{Of}
use Rattle.cql_syntax.specs.declared.leaves.Of.TheVariants.{Either, White, Black}
use Rattle.cql_syntax.specs.declared.leaves.Outcome.{Outcome}
use Rattle.cql_syntax.specs.declared.leaves.Outcome.TheVariants.{White as WhiteWins, Black as BlackWins, Draw, Unfinished}
use Rattle.cql_syntax.specs.declared.leaves.Plain.{Plain}
use Rattle.cql_syntax.specs.declared.leaves.Plain.TheVariants.{Wtm, Btm}
use Rattle.cql_syntax.specs.declared.leaves.Unary.{Unary}
use Rattle.cql_syntax.specs.declared.leaves.Unary.TheVariants.{Light, Dark}
use Rattle.cql_syntax.specs.declared.leaves.Way.{Way}
use Rattle.cql_syntax.specs.declared.leaves.Way.TheVariants.{Up, Down, Left, Right, Northeast, Northwest, Southeast, Southwest, Diagonal, Orthogonal, AnyDirection}

abbrev pub Context : Type 0
Context = List PlainMapping

-- White men become black ones and black men white ones. Bits 0 to 5 are White's men, bits 6 to 11 Black's, and bit 12 is the empty square.
abbrev pub men_exchanged : ℕ → ℕ
men_exchanged men = men % 64 * 64 + men / 64 % 64 + men / 4096 * 4096

-- the image of a designator under one mapping, if its squares have one
abbrev pub image_of_designator : PlainMapping → Designator → Option Designator
image_of_designator m d =
    option_map (λ part. record { men = if m.exchange then men_exchanged d.men else d.men; part = part }) (image m d.part)

-- The image of a designator in a context. There is none once all its squares have left the board, even if a later mapping could bring them
-- back.
unfoldable pub designator_image : Context → Designator → Option Designator
designator_image [] d = Some d
designator_image (m ∷ g) d = option_and_then (designator_image g) (image_of_designator m d)

-- the image of any other leaf, given its image under one mapping
abbrev pub leaf_image : {A : Type 0} → (PlainMapping → A → A) → Context → A → A
leaf_image by g leaf = fold (λ x m. by m x) leaf g

-- each word with the colours exchanged: the side to move, the player meant, and the result
abbrev pub exchanged_word : Plain → Plain
exchanged_word Wtm = Btm
exchanged_word Btm = Wtm
exchanged_word word = word

abbrev pub exchanged_of : Of → Of
exchanged_of Either = Either
exchanged_of White = Black
exchanged_of Black = White

abbrev pub exchanged_field : Field → Field
exchanged_field (Player whose) = Player (exchanged_of whose)
exchanged_field Event = Event
exchanged_field Site = Site

abbrev pub exchanged_outcome : Outcome → Outcome
exchanged_outcome WhiteWins = BlackWins
exchanged_outcome BlackWins = WhiteWins
exchanged_outcome Draw = Draw
exchanged_outcome Unfinished = Unfinished

-- the colours of squares, exchanged
abbrev pub exchanged_light : Unary → Unary
exchanged_light Light = Dark
exchanged_light Dark = Light
exchanged_light word = word

abbrev pub word_image : Context → Plain → Plain
word_image g word = leaf_image (λ m w. if m.exchange then exchanged_word w else w) g word

abbrev pub of_image : Context → Of → Of
of_image g whose = leaf_image (λ m w. if m.exchange then exchanged_of w else w) g whose

abbrev pub field_image : Context → Field → Field
field_image g field = leaf_image (λ m f. if m.exchange then exchanged_field f else f) g field

abbrev pub outcome_image : Context → Outcome → Outcome
outcome_image g outcome = leaf_image (λ m o. if m.exchange then exchanged_outcome o else o) g outcome

-- `light` and `dark` are exchanged by the symmetries that change the colour of every square
abbrev pub unary_image : Context → Unary → Unary
unary_image g word = leaf_image (λ m w. if changes_light m then exchanged_light w else w) g word

-- the word of one direction
abbrev pub way_of : Compass → Way
way_of ToUp = Up
way_of ToDown = Down
way_of ToLeft = Left
way_of ToRight = Right
way_of ToNortheast = Northeast
way_of ToNorthwest = Northwest
way_of ToSoutheast = Southeast
way_of ToSouthwest = Southwest

-- a symmetry maps each direction, and leaves the words for several as they are
abbrev pub way_under : PlainMapping → Way → Way
way_under m Up = way_of (image_compass m ToUp)
way_under m Down = way_of (image_compass m ToDown)
way_under m Left = way_of (image_compass m ToLeft)
way_under m Right = way_of (image_compass m ToRight)
way_under m Northeast = way_of (image_compass m ToNortheast)
way_under m Northwest = way_of (image_compass m ToNorthwest)
way_under m Southeast = way_of (image_compass m ToSoutheast)
way_under m Southwest = way_of (image_compass m ToSouthwest)
way_under m Diagonal = Diagonal
way_under m Orthogonal = Orthogonal
way_under m AnyDirection = AnyDirection

abbrev pub way_image : Context → Way → Way
way_image g way = leaf_image way_under g way
