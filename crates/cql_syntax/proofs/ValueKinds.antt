-- The value of a filter is of the filter's kind.
use Rattle.std.proofs.Common.{◌≡◌, ℕ, Bool, true, false, List, [], ◌∷◌, refl, sym, ap, ◌∙◌}
use Rattle.std.specs.Prelude.{if◌then◌else◌}
use Rattle.cq_position.specs.Search.{SearchedTree}
use Rattle.cq_position.specs.declared.men.Man.{Man}
use Rattle.cq_symmetry.specs.Images.{changes_light}
use Rattle.cq_symmetry.specs.Mappings.{PlainMapping}
use Rattle.cql_syntax.specs.Contexts.{Context, leaf_image, exchanged_word, exchanged_light, word_image, unary_image}
use Rattle.cql_syntax.specs.Kinds.{plain_kind, unary_kind, chain_kind, pair_kind, filter_kind, form_kind}
use Rattle.cql_syntax.specs.Meaning.{Names, word_of, unary_of, value, form_value, line_value}
use Rattle.cql_syntax.specs.Trees.{FilterTree, filter_at, FormTree, designator, number, name, plain, tagged, outcome, elo, unary, direction, chain, sum_of, pair, if_, square, line, played, transform, sort, comment, any, LineTree, path}
use Rattle.cql_syntax.specs.Values.{Value, is_of_kind, chain_of, pair_of, any_of, square_of}
use Rattle.cql_syntax.specs.declared.leaves.Chain.{Chain}
use Rattle.cql_syntax.specs.declared.leaves.Chain.TheVariants.{Or, And, All, Union, Intersect, Product, Max, Min}
use Rattle.cql_syntax.specs.declared.leaves.Kind.{Kind}
use Rattle.cql_syntax.specs.declared.leaves.Kind.TheVariants.{Position, Set, Number}
use Rattle.cql_syntax.specs.declared.leaves.Pair.{Pair}
use Rattle.cql_syntax.specs.declared.leaves.Pair.TheVariants.{Attacks, AttackedBy, Between, Less, AtMost, Equal, AtLeast, Greater}
use Rattle.cql_syntax.specs.declared.leaves.Plain.{Plain}
use Rattle.cql_syntax.specs.declared.leaves.Plain.TheVariants.{Check, Mate, Stalemate, Wtm, Btm, Initial, Terminal, Mainline, Variation, HasComment, Ply, MoveNumber, Depth, Year}
use Rattle.cql_syntax.specs.declared.leaves.Unary.{Unary}
use Rattle.cql_syntax.specs.declared.leaves.Unary.TheVariants.{Not, Complement, Count, Power, Light, Dark, Find, FindUp, Child, Parent}

-- a property that no mapping changes, no context changes
pub kept : {A B : Type 0} (k : A → B) (by : PlainMapping → A → A) → ((m : PlainMapping) (x : A) → k (by m x) ≡ k x) → (g : Context) (x : A)
    → k (leaf_image by g x) ≡ k x
kept k by same [] x = refl
kept k by same (m ∷ g) x = kept k by same g (by m x) ∙ same m x

pub word_kept : (b : Bool) (w : Plain) → plain_kind (if b then exchanged_word w else w) ≡ plain_kind w
word_kept false w = refl
word_kept true Check = refl
word_kept true Mate = refl
word_kept true Stalemate = refl
word_kept true Wtm = refl
word_kept true Btm = refl
word_kept true Initial = refl
word_kept true Terminal = refl
word_kept true Mainline = refl
word_kept true Variation = refl
word_kept true HasComment = refl
word_kept true Ply = refl
word_kept true MoveNumber = refl
word_kept true Depth = refl
word_kept true Year = refl

pub light_kept : (b : Bool) (u : Unary) → unary_kind (if b then exchanged_light u else u) ≡ unary_kind u
light_kept false u = refl
light_kept true Not = refl
light_kept true Complement = refl
light_kept true Count = refl
light_kept true Power = refl
light_kept true Light = refl
light_kept true Dark = refl
light_kept true Find = refl
light_kept true FindUp = refl
light_kept true Child = refl
light_kept true Parent = refl

word_is : (tree : SearchedTree) (w : Plain) (n : ℕ) → is_of_kind (plain_kind w) (word_of tree w n) ≡ true
word_is tree Check n = refl
word_is tree Mate n = refl
word_is tree Stalemate n = refl
word_is tree Wtm n = refl
word_is tree Btm n = refl
word_is tree Initial n = refl
word_is tree Terminal n = refl
word_is tree Mainline n = refl
word_is tree Variation n = refl
word_is tree HasComment n = refl
word_is tree Ply n = refl
word_is tree MoveNumber n = refl
word_is tree Depth n = refl
word_is tree Year n = refl

unary_is : (tree : SearchedTree) (u : Unary) (v : ℕ → Value) (n : ℕ) → is_of_kind (unary_kind u) (unary_of tree u v n) ≡ true
unary_is tree Not v n = refl
unary_is tree Complement v n = refl
unary_is tree Count v n = refl
unary_is tree Power v n = refl
unary_is tree Light v n = refl
unary_is tree Dark v n = refl
unary_is tree Find v n = refl
unary_is tree FindUp v n = refl
unary_is tree Child v n = refl
unary_is tree Parent v n = refl

chain_is : (c : Chain) (vs : List Value) → is_of_kind (chain_kind c) (chain_of c vs) ≡ true
chain_is Or vs = refl
chain_is And vs = refl
chain_is All vs = refl
chain_is Union vs = refl
chain_is Intersect vs = refl
chain_is Product vs = refl
chain_is Max vs = refl
chain_is Min vs = refl

pair_is : (men : List Man) (c : Pair) (x y : Value) → is_of_kind (pair_kind c) (pair_of men c x y) ≡ true
pair_is men Attacks x y = refl
pair_is men AttackedBy x y = refl
pair_is men Between x y = refl
pair_is men Less x y = refl
pair_is men AtMost x y = refl
pair_is men Equal x y = refl
pair_is men AtLeast x y = refl
pair_is men Greater x y = refl

any_is : (k : Kind) (vs : List Value) → is_of_kind k (any_of k vs) ≡ true
any_is Position vs = refl
any_is Set vs = refl
any_is Number vs = refl

square_is : (every : Bool) (x : Value) (asked : ℕ → Bool) → is_of_kind Position (square_of every x asked) ≡ true
square_is true x asked = refl
square_is false x asked = refl

line_is : (tree : SearchedTree) (g : Context) (e : Names) (l : LineTree) (n : ℕ) → is_of_kind Number (line_value tree g e l n) ≡ true
unfolding value
line_is tree g e (path back primary extent cs) n = refl

form_is : (tree : SearchedTree) (g : Context) (e : Names) (f : FormTree) (n : ℕ) → is_of_kind (form_kind f) (form_value tree g e f n) ≡ true
unfolding value
form_is tree g e (designator d) n = refl
form_is tree g e (number k) n = refl
form_is tree g e (name text) n = refl
form_is tree g e (plain w) n =
    ap (λ k. is_of_kind k (word_of tree (word_image g w) n)) (sym (kept plain_kind (λ m x. if m.exchange then exchanged_word x else x) (λ m x. word_kept m.exchange x) g w))
    ∙ word_is tree (word_image g w) n
form_is tree g e (tagged field text) n = refl
form_is tree g e (outcome o) n = refl
form_is tree g e (elo whose) n = refl
form_is tree g e (unary u f) n =
    ap (λ k. is_of_kind k (unary_of tree (unary_image g u) (value tree g e f) n))
    (sym (kept unary_kind (λ m x. if changes_light m then exchanged_light x else x) (λ m x. light_kept (changes_light m) x) g u))
    ∙ unary_is tree (unary_image g u) (value tree g e f) n
form_is tree g e (direction way a b f) n = refl
form_is tree g e (chain c fs) n = chain_is c _
form_is tree g e (sum_of ts) n = refl
form_is tree g e (pair c a b) n = pair_is _ c _ _
form_is tree g e (if_ a b c) n = refl
form_is tree g e (square every text a b) n = square_is every _ _
form_is tree g e (line l) n = line_is tree g e l n
form_is tree g e (played p) n = refl
form_is tree g e (transform t f) n = any_is (filter_kind f) _
form_is tree g e (sort least text f) n = refl
form_is tree g e (comment text) n = refl
form_is tree g e (any kind fs) n = any_is kind _

pub value_is : (tree : SearchedTree) (g : Context) (e : Names) (f : FilterTree) (n : ℕ) → is_of_kind (filter_kind f) (value tree g e f n) ≡ true
unfolding value
value_is tree g e (filter_at at f) n = form_is tree g e f n
