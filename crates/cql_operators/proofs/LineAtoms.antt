-- The atoms and places of a line, and its pattern part by part.
use Rattle.std.proofs.Common.{◌≡◌, ℕ, zero, suc, ◌+◌, ◌*◌, ◌<◌, ◌≤◌, max, List, [], ◌∷◌, ◌++◌, length, drop, get_or, refl, sym, ap, ap₂, ◌∙◌, subst, arith, add-one}
use Rattle.std.proofs.Math.Nat.{suc-max-suc, zero-max}
use Rattle.cq_common.specs.Spelling.{Pattern, nothing, joined}
use Rattle.cql_lines.specs.Automata.{places as automaton_places}
use Rattle.cql_lines.specs.Building.{AtomsBelow}
use Rattle.cql_lines.specs.PatternTrees.{pattern_tree, pattern_trees}
use Rattle.cql_lines.specs.declared.pattern.Pattern.{Pattern as Given}
use Rattle.cql_syntax.specs.Meaning.{marked}
use Rattle.cql_syntax.specs.Places.{copies, parts_places, body_places}
use Rattle.cql_syntax.specs.TreeOf.{body_tree, part_trees}
use Rattle.cql_syntax.specs.Trees.{PartTrees, no_parts, more_parts, BodyTree, atom, group}
use Rattle.cql_syntax.specs.declared.leaves.Mark.{Mark}
use Rattle.cql_syntax.specs.declared.leaves.Mark.TheVariants.{Once, Star, Plus, Maybe, Times}
use Rattle.cql_syntax.specs.declared.tree.Constituent.{Constituent}
use Rattle.cql_columns.specs.Costs.{parts_atoms, body_atoms}
use Rattle.cql_columns.proofs.Costing.{ItemOf}
use Rattle.cql_columns.specs.FlatTrees.{unflat, AreFlatParts, IsFlatBody}
use Rattle.cql_operators.specs.LineAtoms.{parts_numbered, body_numbered}

-- as many places as the line has, and no more atoms

at_least_one : (n : ℕ) → max 1 (suc n) ≡ suc n
at_least_one n = suc-max-suc 0 n ∙ ap suc (zero-max n)

times_one : (n : ℕ) → n ≡ 1 * n
times_one n = omega arith

marked_places : (m : Mark) (p : Pattern ℕ) → automaton_places (marked m p) ≡ copies m * automaton_places p
marked_places Once p = times_one (automaton_places p)
marked_places Star p = times_one (automaton_places p)
marked_places Plus p = times_one (automaton_places p)
marked_places Maybe p = refl
marked_places (Times least zero) p = times_one (automaton_places p)
marked_places (Times least (suc n)) p = ap (λ k. k * automaton_places p) (sym (at_least_one n))

times_more : (c x : ℕ) → 1 ≤ c → x ≤ c * x
times_more zero x h = absurd (omega (arith, h))
times_more (suc k) x h = let e : suc k * x ≡ k * x + x = grind arith in omega (arith, e)

some_copies : (m : Mark) → 1 ≤ copies m
some_copies Once = omega arith
some_copies Star = omega arith
some_copies Plus = omega arith
some_copies Maybe = omega arith
some_copies (Times least zero) = omega arith
some_copies (Times least (suc n)) = let e = at_least_one n in omega (arith, e)

mutual
  parts_same : (k : ℕ) (cs : PartTrees) → automaton_places (parts_numbered k cs) ≡ parts_places cs
  parts_same k no_parts = refl
  parts_same k (more_parts body mark cs) =
      ap₂ (λ a b. a + b) (marked_places mark (body_numbered k body) ∙ ap (λ n. copies mark * n) (body_same k body)) (parts_same (k + body_atoms body) cs)

  body_same : (k : ℕ) (b : BodyTree) → automaton_places (body_numbered k b) ≡ body_places b
  body_same k (atom f) = refl
  body_same k (group cs) = parts_same k cs

mutual
  parts_few : (cs : PartTrees) → parts_atoms cs ≤ parts_places cs
  parts_few no_parts = omega arith
  parts_few (more_parts body mark cs) =
      let here = body_few body in
      let copied = times_more (copies mark) (body_places body) (some_copies mark) in
      let rest = parts_few cs in
      omega (arith, here, copied, rest)

  body_few : (b : BodyTree) → body_atoms b ≤ body_places b
  body_few (atom f) = omega arith
  body_few (group cs) = parts_few cs

pub few_atoms : (cs : PartTrees) → parts_places cs ≤ 64 → parts_atoms cs ≤ 64
few_atoms cs h = omega (arith, parts_few cs, h)

pub few_places : (cs : PartTrees) (p : Pattern ℕ) → p ≡ parts_numbered 0 cs → parts_places cs ≤ 64 → automaton_places p ≤ 64
few_places cs p is h = omega (arith, ap automaton_places is, parts_same 0 cs, h)

marked_below : (m : Mark) (p : Pattern ℕ) (n : ℕ) → AtomsBelow p n → AtomsBelow (marked m p) n
marked_below Once p n h = h
marked_below Star p n h = h
marked_below Plus p n h = h
marked_below Maybe p n h = h
marked_below (Times least most) p n h = h

mutual
  parts_below : (k n : ℕ) (cs : PartTrees) → k + parts_atoms cs ≤ n → AtomsBelow (parts_numbered k cs) n
  parts_below k n no_parts h = tt
  parts_below k n (more_parts body mark cs) h = (
    marked_below mark (body_numbered k body) n (body_below k n body (omega (arith, h))),
    parts_below (k + body_atoms body) n cs (omega (arith, h)),
  )

  body_below : (k n : ℕ) (b : BodyTree) → k + body_atoms b ≤ n → AtomsBelow (body_numbered k b) n
  body_below k n (atom f) h = omega (arith, h)
  body_below k n (group cs) h = parts_below k n cs h

pub atoms_below : (cs : PartTrees) (p : Pattern ℕ) (n : ℕ) → p ≡ parts_numbered 0 cs → parts_atoms cs ≤ n → AtomsBelow p n
atoms_below cs p n is h = subst (λ q. AtomsBelow q n) (sym is) (parts_below 0 n cs (omega (arith, h)))

-- the rest of the parts in a row

drop_next : (xs : List Constituent) (i : ℕ) (c : Constituent) → i < length xs → c ≡ get_or xs i c → part_trees (drop i xs) ≡ more_parts (body_tree c.body) c.mark (part_trees (drop (suc i) xs))
drop_next [] zero c h e = absurd (omega (arith, h))
drop_next [] (suc i) c h e = absurd (omega (arith, h))
drop_next (x ∷ xs) zero c h e = ap (λ (y : Constituent). more_parts (body_tree y.body) y.mark (part_trees xs)) (sym e)
drop_next (x ∷ xs) (suc i) c h e = drop_next xs i c (omega (arith, h)) e

pub drop_parts : (xs : List Constituent) (i : ℕ) (c : Constituent) → i < length xs → c ≡ get_or xs i c → part_trees (drop i xs) ≡ more_parts (body_tree c.body) c.mark (part_trees (drop (i + 1) xs))
drop_parts xs i c h e = drop_next xs i c h e ∙ ap (λ j. more_parts (body_tree c.body) c.mark (part_trees (drop j xs))) (sym (add-one i))

pub drop_all : (xs : List Constituent) (i : ℕ) → length xs ≤ i → part_trees (drop i xs) ≡ no_parts
drop_all [] zero h = refl
drop_all [] (suc i) h = refl
drop_all (x ∷ xs) zero h = absurd (omega (arith, h))
drop_all (x ∷ xs) (suc i) h = drop_all xs i (omega (arith, h))

left_flat : (y : Constituent) (ys : List Constituent) → AreFlatParts (part_trees (y ∷ ys)) → IsFlatBody (body_tree y.body)
unfolding unflat
left_flat y ys h = omega (arith, h)

rest_flat : (y : Constituent) (ys : List Constituent) → AreFlatParts (part_trees (y ∷ ys)) → AreFlatParts (part_trees ys)
unfolding unflat
rest_flat y ys h = omega (arith, h)

pub part_flat : (xs : List Constituent) (i : ℕ) (c : Constituent) (cs : PartTrees) → i < length xs → c ≡ get_or xs i c → part_trees xs ≡ cs → AreFlatParts cs → IsFlatBody (body_tree c.body)
unfolding unflat
part_flat xs i c cs below is same flat = at xs i c below is (subst AreFlatParts (sym same) flat)
  where
    at : (ys : List Constituent) (k : ℕ) (g : Constituent) → k < length ys → g ≡ get_or ys k g → AreFlatParts (part_trees ys) → IsFlatBody (body_tree g.body)
    at [] zero g h e all = absurd (omega (arith, h))
    at [] (suc k) g h e all = absurd (omega (arith, h))
    at (y ∷ ys) zero g h e all = subst (λ (x : Constituent). IsFlatBody (body_tree x.body)) (sym e) (left_flat y ys all)
    at (y ∷ ys) (suc k) g h e all = at ys k g (omega (arith, h)) e (rest_flat y ys all)

-- the atoms that are left after some parts
pub atoms_left : (xs : List Constituent) (i : ℕ) (c : Constituent) → i < length xs → c ≡ get_or xs i c
    → parts_atoms (part_trees (drop i xs)) ≡ body_atoms (body_tree c.body) + parts_atoms (part_trees (drop (i + 1) xs))
atoms_left xs i c h e = ap parts_atoms (drop_parts xs i c h e)

pub atoms_end : (xs : List Constituent) (i : ℕ) → length xs ≤ i → parts_atoms (part_trees (drop i xs)) ≡ 0
atoms_end xs i h = ap parts_atoms (drop_all xs i h)

-- The pattern of parts one by one: the patterns so far, followed by the pattern of the parts that are left.

abbrev pub followed_by : Pattern ℕ → List Given → Pattern ℕ
followed_by q [] = q
followed_by q (p ∷ ps) = joined (pattern_tree p) (followed_by q ps)

followed_none : (ps : List Given) → followed_by nothing ps ≡ pattern_trees ps
followed_none [] = refl
followed_none (p ∷ ps) = ap (joined (pattern_tree p)) (followed_none ps)

followed_snoc : (q : Pattern ℕ) (ps : List Given) (p : Given) → followed_by q (ps ++ p ∷ []) ≡ followed_by (joined (pattern_tree p) q) ps
followed_snoc q [] p = refl
followed_snoc q (x ∷ ps) p = ap (joined (pattern_tree x)) (followed_snoc q ps p)

pub record PatternSoFar (first : ℕ) (xs : List Constituent) (i next : ℕ) (ps : List Given) : Type 0 where
  pub whole : followed_by (parts_numbered next (part_trees (drop i xs))) ps ≡ parts_numbered first (part_trees xs)
  pub count : next + parts_atoms (part_trees (drop i xs)) ≡ first + parts_atoms (part_trees xs)

pub pattern_begun : (first : ℕ) (xs : List Constituent) (ps : List Given) → ps ≡ [] → PatternSoFar first xs 0 first ps
pattern_begun first xs ps is = record {
  whole = ap (followed_by (parts_numbered first (part_trees (drop 0 xs)))) is
      ∙ ap (λ ys. parts_numbered first (part_trees ys)) (drop_none xs);
  count = ap (λ ys. first + parts_atoms (part_trees ys)) (drop_none xs);
}
  where
    drop_none : (ys : List Constituent) → drop 0 ys ≡ ys
    drop_none [] = refl
    drop_none (y ∷ ys) = refl

pub pattern_more : (first : ℕ) (xs : List Constituent) (part : ItemOf xs) (next later : ℕ) (ps more : List Given) (p : Given)
    → pattern_tree p ≡ marked part.item.mark (body_numbered next (body_tree part.item.body)) → later ≡ next + body_atoms (body_tree part.item.body) → more ≡ ps ++ p ∷ []
    → PatternSoFar first xs part.index next ps → PatternSoFar first xs (part.index + 1) later more
pattern_more first xs part next later ps more p is on new had =
    let left : PartTrees = part_trees (drop (part.index + 1) xs) in
    record {
      whole = ap (followed_by (parts_numbered later left)) new ∙ followed_snoc (parts_numbered later left) ps p
          ∙ ap₂ (λ (a : Pattern ℕ) (n : ℕ). followed_by (joined a (parts_numbered n left)) ps) is on
          ∙ ap (λ cs. followed_by (parts_numbered next cs) ps) (sym (drop_parts xs part.index part.item part.below part.is)) ∙ had.whole;
      count = (let e = atoms_left xs part.index part.item part.below part.is in omega (arith, e, on, had.count));
    }

-- the next part's atoms are of the first 64
pub next_few : (first : ℕ) (xs : List Constituent) (i : ℕ) (c : Constituent) (next : ℕ) (ps : List Given) (cs : PartTrees)
    → PatternSoFar first xs i next ps → i < length xs → c ≡ get_or xs i c → part_trees xs ≡ cs → first + parts_atoms cs ≤ 64 → next + body_atoms (body_tree c.body) ≤ 64
next_few first xs i c next ps cs had below is same few = let l = atoms_left xs i c below is in let s = ap parts_atoms same in omega (arith, l, s, had.count, few)

pub pattern_all : (first : ℕ) (xs : List Constituent) (i next : ℕ) (ps : List Given) (cs : PartTrees) → length xs ≤ i → part_trees xs ≡ cs
    → PatternSoFar first xs i next ps → pattern_trees ps ≡ parts_numbered first cs
pattern_all first xs i next ps cs end same had = sym (followed_none ps) ∙ ap (λ ds. followed_by (parts_numbered next ds) ps) (sym (drop_all xs i end)) ∙ had.whole ∙ ap (parts_numbered first) same

pub next_all : (first : ℕ) (xs : List Constituent) (i next : ℕ) (ps : List Given) (cs : PartTrees) → length xs ≤ i → part_trees xs ≡ cs
    → PatternSoFar first xs i next ps → next ≡ first + parts_atoms cs
next_all first xs i next ps cs end same had = let e = atoms_end xs i end in let s = ap parts_atoms same in omega (arith, e, s, had.count)
