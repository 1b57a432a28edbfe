-- The tree of a game in the form that a line has, the line's number by the table, and its cost.
use Rattle.std.proofs.Common.{◌≡◌, ℕ, zero, suc, ◌+◌, ◌*◌, ◌<◌, ◌≤◌, ◌&&◌, ◌||◌, pos, ℤ, Bool, true, false, List, [], ◌∷◌, ◌++◌, length, map, drop, take, get_or, Option, Some, None, option_map, refl, sym, ap, ap₂, ◌∙◌, subst, arith, ⊎_elim}
use denote.Hole.Carrier as Carrier
use Rattle.std.specs.Prelude.{not, IfSome, slice_get, if◌then◌else◌}
use Rattle.std.specs.List.{range_with_len, count_by}
use Rattle.std.specs.Prelude.{replicate, ◌==◌}
use Rattle.std.specs.Int.{bit_at}
use Rattle.std.proofs.lemmas.Nat.Bits.{bit_at-zero}
use Rattle.std.proofs.Math.ListN.{get_or-map}
use Rattle.std.proofs.lemmas.List.{take_more}
use Rattle.cql_values.proofs.Evaluated.{map_snoc}
use Rattle.std.proofs.lemmas.Option.{slice_get-get_or, slice_get_cases}
use Rattle.std.proofs.lemmas.List.FromFn.{get_or-map-range_with_len, length-map-range_with_len, map-range_with_len_more}
use Rattle.std.proofs.lemmas.List.Sums.{sum_by-cons, length-filter}
use Rattle.cq_common.specs.Greatest.{IsGreatest}
use Rattle.cq_common.specs.Spelling.{Pattern, nothing}
use Rattle.cq_common.specs.Walks.{Line}
use Rattle.cq_position.specs.Games.{IsTree, node_at, is_first_child, is_searched, searched, numbers}
use Rattle.cq_position.specs.Search.{SearchedTree, IsStep}
use Rattle.cq_position.proofs.WaysUp.{searched_up, parent_before}
use Rattle.cql_lines.specs.Shapes as shapes
use Rattle.cql_lines.specs.Shapes.{joined_by, Edge, searched_count}
use Rattle.cql_lines.specs.Tables.{nodes_of, words_of, holds, holds_in}
use Rattle.cql_lines.specs.Values as values
use Rattle.cql_lines.specs.Values.{GreatestWhere}
use Rattle.cql_lines.specs.declared.shape.Limits.{Limits}
use Rattle.cql_lines.specs.declared.shape.TreeNode.{TreeNode}
use Rattle.cql_lines.specs.declared.table.AtomTable.{AtomTable}
use Rattle.cql_syntax.specs.Meaning.{Names, value, pattern, line_value}
use Rattle.cql_syntax.specs.Places.{parts_places}
use Rattle.cql_syntax.specs.LineTables.{IsSearched, IsSearchedNode, SpellTheSame, AreParents}
use Rattle.cql_syntax.specs.TreeOf.{body_tree, part_trees, parts_tree, line_tree}
use Rattle.cql_syntax.specs.Trees.{PartTrees}
use Rattle.cql_syntax.specs.Values.{as_number, holds as value_holds}
use Rattle.cql_syntax.specs.declared.extents.Extent.TheVariants.{Any, Within}
use Rattle.cql_syntax.specs.declared.tree.Constituent.{Constituent}
use Rattle.cql_syntax.specs.declared.tree.Line.{Line as OneLine, Line', out-Line}
use Rattle.cql_columns.specs.Columns.{is_live, shown, IsPart}
use Rattle.cql_columns.specs.Costs.{filter_cost, line_cost, parts_atoms, parts_cost, body_cost, searched_len}
use Rattle.cql_columns.proofs.Costing.{ItemOf}
use Rattle.cql_columns.specs.FlatTrees.{unflat, IsFlatLine, AreFlatParts}
use Rattle.cql_columns.specs.declared.filter_column.FilterColumn.{FilterColumn}
use Rattle.cql_operators.specs.LineAtoms.{parts_numbered, limits_in, spot_at, AreClearFrom}
use Rattle.cql_operators.specs.SpelledParts.{AreAlike, IsNever, AreTabled}
use Rattle.cql_operators.proofs.SpelledAlike.{along_wider, alike_on}
use Rattle.cql_syntax.proofs.TabledLines.{spelled_lines_are_theirs}
use Rattle.cql_operators.proofs.LineAtoms.{drop_parts, few_atoms}

-- the tree of a game

spot_there : (tree : SearchedTree) (count : ℕ) (p : ℕ) → p < count → slice_get (map (spot_at tree) (range_with_len 0 count)) p ≡ Some (spot_at tree p)
spot_there tree count p h =
    slice_get-get_or (map (spot_at tree) (range_with_len 0 count)) p (spot_at tree p) (let e = length-map-range_with_len (spot_at tree) 0 count in omega (arith, h, e))
    ∙ ap Some (get_or-map-range_with_len (spot_at tree) 0 count p p (spot_at tree p) h (omega arith))

pub parent_in : (tree : SearchedTree) (k : ℕ) (spots : List TreeNode) (o : Option ℕ) → IsTree tree.game.nodes → spots ≡ map (spot_at tree) (range_with_len 0 k) → o ≡ (node_at tree.game.nodes k).parent
    → IfSome o (λ p. p < length spots)
parent_in tree k spots None is_tree is here = tt
parent_in tree k spots (Some p) is_tree is here =
    let b = parent_before tree.game.nodes k p is_tree (sym here) in
    let e = ap length is ∙ length-map-range_with_len (spot_at tree) 0 k in
    omega (arith, b.0, e)

pub searched_in : (tree : SearchedTree) (k : ℕ) (spots : List TreeNode) (o : Option ℕ) (there : Bool) → IsTree tree.game.nodes
    → spots ≡ map (spot_at tree) (range_with_len 0 k) → o ≡ (node_at tree.game.nodes k).parent
    → there ≡ is_searched tree.variations tree.game.nodes k → IfSome o (λ p. there ≡ true → shapes.is_searched spots p ≡ true)
searched_in tree k spots None there is_tree is here s = tt
searched_in tree k spots (Some p) there is_tree is here s = λ e.
    let b = parent_before tree.game.nodes k p is_tree (sym here) in
    ap (λ xs. shapes.is_searched xs p) is ∙ ap shapes.searched_by (spot_there tree k p b.0) ∙ searched_up tree.variations tree.game.nodes k p is_tree (sym here) (sym s ∙ e)

abbrev spot_of : Option ℕ → Bool → Bool → TreeNode
spot_of parent searched first = record { parent = parent; searched = searched; first = first }

pub spots_more : (tree : SearchedTree) (k : ℕ) (spots : List TreeNode) (o : Option ℕ) (there first : Bool) → spots ≡ map (spot_at tree) (range_with_len 0 k) → o ≡ (node_at tree.game.nodes k).parent
    → there ≡ is_searched tree.variations tree.game.nodes k → first ≡ is_first_child tree.game.nodes k
    → spots ++ record { parent = o; searched = there; first = first } ∷ [] ≡ map (spot_at tree) (range_with_len 0 (k + 1))
spots_more tree k spots o there first before parent searched is_first =
    ap (λ s. s ++ spot_of o there first ∷ []) before
    ∙ ap (λ x. map (spot_at tree) (range_with_len 0 k) ++ x ∷ [])
    (ap (λ p. spot_of p there first) parent ∙ ap (λ b. spot_of (node_at tree.game.nodes k).parent b first) searched
    ∙ ap (spot_of (node_at tree.game.nodes k).parent (is_searched tree.variations tree.game.nodes k)) is_first)
    ∙ sym (map-range_with_len_more (spot_at tree) 0 k k (omega arith))

joined_to : (searched first primary : Bool) (o : Option ℕ) (p : ℕ) → (if searched && (first || not primary) then o else None) ≡ Some p
    → (searched ≡ true) × (o ≡ Some p) × (primary ≡ true → first ≡ true)
joined_to false first primary o p e = cc
joined_to true true primary o p e = (refl, e, λ h. refl)
joined_to true false true o p e = cc
joined_to true false false o p e = (refl, e, λ h. h)

to_join : (searched first primary : Bool) (o : Option ℕ) (p : ℕ) → searched ≡ true → o ≡ Some p → (primary ≡ true → first ≡ true) → (if searched && (first || not primary) then o else None) ≡ Some p
to_join false first primary o p s e f = cc
to_join true true primary o p s e f = e
to_join true false true o p s e f = absurd (let x : false ≡ true = f refl in cc)
to_join true false false o p s e f = e

-- the nodes of a game as a line's tree has them
abbrev spots_in : SearchedTree → List TreeNode
spots_in tree = map (spot_at tree) (numbers tree.game.nodes)

spots_join : (tree : SearchedTree) (primary : Bool) → IsTree tree.game.nodes → AreParents tree primary (shapes.joined primary (spots_in tree))
spots_join tree primary is_tree = record { are_parents = are; all_parents = all }
  where
    are : (n p : ℕ) → shapes.joined primary (spots_in tree) n ≡ Some p → IsSearched tree n × ((node_at tree.game.nodes n).parent ≡ Some p) × (primary ≡ true → is_first_child tree.game.nodes n ≡ true)
    are n p e = ⊎_elim
        (λ there. joined_to (is_searched tree.variations tree.game.nodes n) (is_first_child tree.game.nodes n) primary (node_at tree.game.nodes n).parent p
        (sym (ap (joined_by primary) (spot_there tree (length tree.game.nodes) n (let l = length-map-range_with_len (spot_at tree) 0 (length tree.game.nodes) in omega (arith, there.1, l)))) ∙ e))
        (λ past. absurd (let x : None ≡ Some p = sym (ap (joined_by primary) past.1) ∙ e in cc))
        (slice_get_cases (spots_in tree) n).1

    all : (n p : ℕ) → IsSearched tree n → (node_at tree.game.nodes n).parent ≡ Some p → (primary ≡ true → is_first_child tree.game.nodes n ≡ true) → shapes.joined primary (spots_in tree) n ≡ Some p
    all n p s e f =
        ap (joined_by primary) (spot_there tree (length tree.game.nodes) n (parent_before tree.game.nodes n p is_tree e).1)
        ∙ to_join (is_searched tree.variations tree.game.nodes n) (is_first_child tree.game.nodes n) primary (node_at tree.game.nodes n).parent p s e f

answer_there : (b : Bool) (P : ℕ → Type 0) (o : Option ℕ) → b ≡ true → GreatestWhere b P o → IsGreatest P o
answer_there true P o e h = h
answer_there false P o e h = cc

abbrev Wanted : (ℕ → ℕ → Bool) → Pattern ℕ → ℕ → Option ℕ → List TreeNode → Bool → Bool → Option Limits → Type 0
Wanted test p n o xs x y z = IsGreatest (λ len. Line test (Edge x y xs) p n len × (values.allows z len ≡ true)) o

-- a pattern of numbers spells at a node the same as the parts of a line
abbrev pub SpellsLine : SearchedTree → Names → OneLine → (ℕ → ℕ → Bool) → Pattern ℕ → ℕ → Type 0
SpellsLine tree e l test p n = SpellTheSame tree (out-Line l).back (out-Line l).primary test p (pattern tree [] e (parts_tree (out-Line l).parts)) n

greatest_is : (tree : SearchedTree) → IsTree tree.game.nodes → (e : Names) (l : OneLine) (test : ℕ → ℕ → Bool) (p : Pattern ℕ) (n : ℕ) → IsSearchedNode tree n → SpellsLine tree e l test p n
    → (o : Option ℕ) → Wanted test p n o (spots_in tree) (out-Line l).back (out-Line l).primary (limits_in (out-Line l).extent) → as_number (option_map pos o) ≡ line_value tree [] e (line_tree l) n
unfolding value out-Line Carrier.out
greatest_is tree is_tree e (Line' true primary Any cs) test p n asked alike o g = spelled_lines_are_theirs tree is_tree true primary
    (shapes.joined primary (spots_in tree)) (spots_join tree primary is_tree) Any test p (pattern tree [] e (parts_tree cs)) n asked alike o g
greatest_is tree is_tree e (Line' false primary Any cs) test p n asked alike o g = spelled_lines_are_theirs tree is_tree false primary
    (shapes.joined primary (spots_in tree)) (spots_join tree primary is_tree) Any test p (pattern tree [] e (parts_tree cs)) n asked alike o g
greatest_is tree is_tree e (Line' true primary (Within least most) cs) test p n asked alike o g = spelled_lines_are_theirs tree is_tree true primary
    (shapes.joined primary (spots_in tree)) (spots_join tree primary is_tree) (Within least most) test p (pattern tree [] e (parts_tree cs)) n asked alike o g
greatest_is tree is_tree e (Line' false primary (Within least most) cs) test p n asked alike o g = spelled_lines_are_theirs tree is_tree false primary
    (shapes.joined primary (spots_in tree)) (spots_join tree primary is_tree) (Within least most) test p (pattern tree [] e (parts_tree cs)) n asked alike o g

-- the steps of a line

count_map : (test : TreeNode → Bool) (spot : ℕ → TreeNode) (ns : List ℕ) → count_by test (map spot ns) ≡ count_by (λ n. test (spot n)) ns
count_map test spot [] = refl
count_map test spot (n ∷ ns) =
    sum_by-cons (λ s. if test s then 1 else 0) (spot n) (map spot ns) ∙ ap (λ k. (if test (spot n) then 1 else 0) + k) (count_map test spot ns)
    ∙ sym (sum_by-cons (λ m. if test (spot m) then 1 else 0) n ns)

-- a line's tree has as many searched nodes as the tree of the game
spots_searched : (tree : SearchedTree) (spots : List TreeNode) → spots ≡ map (spot_at tree) (numbers tree.game.nodes) → searched_count spots ≡ searched_len tree
unfolding searched
spots_searched tree spots is =
    ap searched_count is ∙ count_map (λ s. s.searched) (spot_at tree) (numbers tree.game.nodes)
    ∙ sym (length-filter (is_searched tree.variations tree.game.nodes) (numbers tree.game.nodes))

drop_costs : (nodes : ℕ) (xs : List Constituent) (i : ℕ) (c : Constituent) → i < length xs → c ≡ get_or xs i c
    → parts_cost nodes (part_trees (drop i xs)) ≡ body_cost nodes (body_tree c.body) + parts_cost nodes (part_trees (drop (i + 1) xs))
unfolding filter_cost
drop_costs nodes xs i c below is = ap (parts_cost nodes) (drop_parts xs i c below is)

pub parts_cost_more : (nodes : ℕ) (xs : List Constituent) (part : ItemOf xs) (before now later : ℕ)
    → now + parts_cost nodes (part_trees (drop part.index xs)) ≤ before + parts_cost nodes (part_trees xs) → later ≤ now + body_cost nodes (body_tree part.item.body)
    → later + parts_cost nodes (part_trees (drop (part.index + 1) xs)) ≤ before + parts_cost nodes (part_trees xs)
parts_cost_more nodes xs part before now later had new = omega (arith, drop_costs nodes xs part.index part.item part.below part.is, had, new)

pub parts_cost_within : (nodes : ℕ) (xs : List Constituent) (part : ItemOf xs) (before now later : ℕ) (cs : PartTrees)
    → now + parts_cost nodes (part_trees (drop part.index xs)) ≤ before + parts_cost nodes (part_trees xs) → later ≤ now + body_cost nodes (body_tree part.item.body) → part_trees xs ≡ cs
    → later ≤ before + parts_cost nodes cs
parts_cost_within nodes xs part before now later cs had new same =
    omega (arith, drop_costs nodes xs part.index part.item part.below part.is, had, new, ap (parts_cost nodes) same)

-- a line as its fields

pub line_flat : (l : OneLine) → IsFlatLine (line_tree l) → (parts_places (parts_tree (out-Line l).parts) ≤ 64) × AreFlatParts (parts_tree (out-Line l).parts)
unfolding unflat out-Line Carrier.out
line_flat (Line' back primary extent cs) h = (omega (arith, h), omega (arith, h))

pub line_parts_flat : (l : OneLine) → IsFlatLine (line_tree l) → AreFlatParts (parts_tree (out-Line l).parts)
line_parts_flat l h = (line_flat l h).1

pub line_few : (l : OneLine) → IsFlatLine (line_tree l) → parts_atoms (parts_tree (out-Line l).parts) ≤ 64
line_few l h = omega (arith, few_atoms (parts_tree (out-Line l).parts) (line_flat l h).0)

line_costs : (nodes : ℕ) (l : OneLine) → line_cost nodes (line_tree l) ≡ parts_atoms (parts_tree (out-Line l).parts) * nodes + parts_cost nodes (parts_tree (out-Line l).parts)
unfolding filter_cost out-Line Carrier.out
line_costs nodes (Line' back primary extent cs) = refl

pub atoms_within : (nodes : ℕ) (l : OneLine) (before now : ℕ) → now ≤ before + parts_cost nodes (parts_tree (out-Line l).parts) → now ≤ before + line_cost nodes (line_tree l)
atoms_within nodes l before now h = omega (arith, line_costs nodes l, h)

pub looks_within : (tree : SearchedTree) (l : OneLine) (before now later atoms : ℕ) (spots : List TreeNode)
    → spots ≡ map (spot_at tree) (numbers tree.game.nodes) → atoms ≡ parts_atoms (parts_tree (out-Line l).parts)
    → now ≤ before + parts_cost (searched_len tree) (parts_tree (out-Line l).parts) → later ≤ now + atoms * searched_count spots
    → later ≤ before + line_cost (searched_len tree) (line_tree l)
looks_within tree l before now later atoms spots is count h more =
    omega (arith, line_costs (searched_len tree) l, h, more, ap (λ k. atoms * k) (spots_searched tree spots is), ap (λ a. a * searched_len tree) count)

same_words : {A : Type 0} (d : A) (j m : ℕ) → get_or (replicate j d) m d ≡ d
same_words d zero zero = refl
same_words d zero (suc m) = refl
same_words d (suc j) zero = refl
same_words d (suc j) (suc m) = same_words d j m

-- the fields of the shape made of a game for a line
pub record ShapeOf (tree : SearchedTree) (l : OneLine) : Type 0 where
  pub spots : List TreeNode
  pub back : Bool
  pub primary : Bool
  pub limits : Option Limits
  pub spots_are : spots ≡ map (spot_at tree) (numbers tree.game.nodes)
  pub back_is : back ≡ (out-Line l).back
  pub primary_is : primary ≡ (out-Line l).primary
  pub limits_are : limits ≡ limits_in (out-Line l).extent

-- the parts of a line are in a table, and a pattern has their numbers
pub line_spelled : {L : Type 0} {own : _} (tree : SearchedTree) (e : Names) (l : OneLine) (table : AtomTable L own) (p : Pattern ℕ) → p ≡ parts_numbered 0 (parts_tree (out-Line l).parts)
    → AreTabled tree (out-Line l).back (IsSearchedNode tree) table (0 + parts_atoms (parts_tree (out-Line l).parts))
    (parts_numbered 0 (parts_tree (out-Line l).parts)) (pattern tree [] e (parts_tree (out-Line l).parts))
    → (n : ℕ) → IsSearchedNode tree n → SpellsLine tree e l (holds_in table) p n
line_spelled tree e l table p is tabled n asked =
    alike_on tree (out-Line l).back (out-Line l).primary (holds_in table) p (pattern tree [] e (parts_tree (out-Line l).parts))
    (subst (λ x. AreAlike (IsStep tree (out-Line l).back false) (IsSearchedNode tree) (holds_in table) x (pattern tree [] e (parts_tree (out-Line l).parts))) (sym is)
    (tabled (holds_in table) (λ a m h. refl))) n asked

-- a number of another type at a node
pub wide_at : (wide : List (Option ℤ)) (found : List (Option ℕ)) → wide ≡ map (option_map pos) found → (n : ℕ) → as_number (get_or wide n None) ≡ as_number (option_map pos (get_or found n None))
wide_at wide found is n = ap as_number (ap (λ xs. get_or xs n None) is ∙ get_or-map (option_map pos) found n None)

-- the value at a searched node, by the shape made of the game
pub numbers_are : (tree : SearchedTree) → IsTree tree.game.nodes → (e : Names) (l : OneLine) (shape : ShapeOf tree l) (test : ℕ → ℕ → Bool) (p : Pattern ℕ) (n : ℕ)
    → IsSearchedNode tree n → SpellsLine tree e l test p n → (o : Option ℕ)
    → GreatestWhere (shapes.is_searched shape.spots n) (λ len. Line test (Edge shape.back shape.primary shape.spots) p n len × (values.allows shape.limits len ≡ true)) o
    → as_number (option_map pos o) ≡ line_value tree [] e (line_tree l) n
numbers_are tree is_tree e l shape test p n asked alike o answer =
    greatest_is tree is_tree e l test p n asked alike o
    (subst (λ x. Wanted test p n o (spots_in tree) (out-Line l).back (out-Line l).primary x) shape.limits_are
    (subst (λ x. Wanted test p n o (spots_in tree) (out-Line l).back x shape.limits) shape.primary_is
    (subst (λ x. Wanted test p n o (spots_in tree) x shape.primary shape.limits) shape.back_is
    (subst (λ x. Wanted test p n o x shape.back shape.primary shape.limits) shape.spots_are
    (answer_there (shapes.is_searched shape.spots n) (λ len. Line test (Edge shape.back shape.primary shape.spots) p n len × (values.allows shape.limits len ≡ true)) o
    (ap (λ xs. shapes.is_searched xs n) shape.spots_are ∙ ap shapes.searched_by (spot_there tree (length tree.game.nodes) n asked.1) ∙ asked.0) answer)))))

nothing_at : (xs : List (Option ℤ)) (n : ℕ) → xs ≡ [] → get_or xs n None ≡ None
nothing_at [] zero is = refl
nothing_at [] (suc n) is = refl
nothing_at (x ∷ xs) n is = cc

-- an atom put at the nodes at which its column holds
pub held_put : (tree : SearchedTree) (live : List Bool) (c : FilterColumn) (held shown_held : List Bool) (test : ℕ → Bool) (count : ℕ)
    → IsPart tree live c true held → shown_held ≡ held → ((n : ℕ) → n < count → test n ≡ is_live shown_held n) → (n : ℕ) → n < count
    → test n ≡ (is_live live n && value_holds (shown c n))
held_put tree live c held shown_held test count part same put n h = put n h ∙ ap (λ l. is_live l n) same ∙ part.narrowed.each n

-- a line whose pattern is never spelled has no number
pub no_line : (tree : SearchedTree) → IsTree tree.game.nodes → (e : Names) (l : OneLine) (wide : List (Option ℤ)) → wide ≡ []
    → IsNever (IsStep tree (out-Line l).back false) (IsSearchedNode tree) (pattern tree [] e (parts_tree (out-Line l).parts)) → (n : ℕ) → IsSearchedNode tree n
    → as_number (get_or wide n None) ≡ line_value tree [] e (line_tree l) n
unfolding value out-Line Carrier.out
no_line tree is_tree e (Line' back primary extent cs) wide is never n asked =
    ap as_number (nothing_at wide n is)
    ∙ spelled_lines_are_theirs tree is_tree back primary (shapes.joined primary (spots_in tree)) (spots_join tree primary is_tree) extent
    (λ a m. false) nothing (pattern tree [] e (parts_tree cs)) n asked
    (λ w goes. (λ x. absurd cc, λ x. absurd (never (n ∷ w) (asked, along_wider tree back primary n w goes) x)))
    None (λ len x. let none : n ∷ x.0.0 ≡ [] = x.0.3 in absurd cc)

count_words : (d j : ℕ) → length (replicate j d) ≡ j
count_words d zero = refl
count_words d (suc j) = ap suc (count_words d j)

pub table_clear : {L : Type 0} {own : _} (table : AtomTable L own) (k : ℕ) → words_of table ≡ replicate k 0 → AreClearFrom table 0
table_clear table k is a n h = ap (λ ws. holds ws a n) is ∙ ap (λ w. bit_at w a == 1) (same_words 0 k n) ∙ ap (λ b. b == 1) (bit_at-zero a)

pub table_nodes : {L : Type 0} {own : _} (table : AtomTable L own) (k n : ℕ) → words_of table ≡ replicate k 0 → k ≡ n → nodes_of table ≡ n
table_nodes table k n is same = ap length is ∙ count_words 0 k ∙ same

-- numbers of another type, one by one
pub wide_more : (xs : List (Option ℕ)) (i : ℕ) (d : Option ℕ) (y : Option ℤ) (before later : List (Option ℤ)) → i < length xs → y ≡ option_map pos (get_or xs i d) → later ≡ before ++ y ∷ []
    → before ≡ map (option_map pos) (take i xs) → later ≡ map (option_map pos) (take (i + 1) xs)
wide_more xs i d y before later below is more had =
    more ∙ ap₂ (λ l x. l ++ x ∷ []) had is ∙ sym (ap (map (option_map pos)) (take_more xs i d below) ∙ map_snoc (option_map pos) (take i xs) (get_or xs i d))
