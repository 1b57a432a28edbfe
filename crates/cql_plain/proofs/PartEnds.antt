-- The places at which the parts of a line end: loops over parts, over the repetitions of a part, and over nodes.
use Rattle.std.proofs.Common.{◌≡◌, ℕ, zero, suc, ◌+◌, ◌<◌, ◌≤◌, Bool, true, false, not, ◌&&◌, ◌||◌, nat_eq, List, [], ◌∷◌, ◌++◌, map, drop, length, get_or, Option, Some, None, refl, sym, ap, ap₂, ◌∙◌, subst, arith, inl, inr, eqb-true}
use Rattle.std.specs.Prelude.{◌⊎◌, ◌↔◌, zip}
use Rattle.std.specs.List.{list_any, range_with_len}
use Rattle.std.proofs.lemmas.Bool.{cases_lt, cases_Bool, eq-eqb}
use Rattle.std.proofs.lemmas.List.{get_or_past, length-map, get_or-map}
use Rattle.std.proofs.lemmas.List.FromFn.{length-range_with_len, get_or-range_with_len, map-range_with_len_more}
use Rattle.cq_common.specs.Spelling.{Pattern, one, repeated}
use Rattle.cq_position.specs.Search.{SearchedTree}
use Rattle.cql_syntax.specs.Contexts.{Context}
use Rattle.cql_syntax.specs.Meaning.{Names, marked, pattern, body_pattern, value}
use Rattle.cql_syntax.specs.Trees.{PartTrees}
use Rattle.cql_syntax.specs.TreeOf.{body_tree, part_trees}
use Rattle.cql_syntax.specs.Values.{Value, holds}
use Rattle.cql_syntax.specs.declared.leaves.Mark.{Mark}
use Rattle.cql_syntax.specs.declared.leaves.Mark.TheVariants.{Once, Star, Plus, Maybe, Times}
use Rattle.cql_syntax.specs.declared.tree.Constituent.{Constituent}
use Rattle.cql_plain.specs.Internal.LineParts.{holds_of, EndsOf, least_times, most_times}
use Rattle.cql_plain.specs.Internal.Paths.{place_before, GoesTo, AreSteps, comes_from}
use Rattle.cql_plain.specs.Internal.PatternEnds.{IsEnd, HasPlace}
use Rattle.cql_plain.specs.declared.paths.PathStep.{PathStep}
use Rattle.cql_plain.proofs.LineLaw.{short}
use Rattle.cq_common.proofs.WithinLaw.{left, right}
use Rattle.cql_plain.proofs.PatternEnds.{Turns, begun, turned, stopped, repeated_law, once_law, any_most, star_few, plus_few, joined_law, nothing_law, one_law, IsNext, more_ends}

-- sets made of others
get_zip : (f : Bool → Bool → Bool) → f false false ≡ false → (xs ys : List Bool) → length ys ≡ length xs → (j : ℕ)
    → get_or (map (λ (b : Bool × Bool). f b.0 b.1) (zip xs ys)) j false ≡ f (get_or xs j false) (get_or ys j false)
get_zip f none [] [] e j = sym none
get_zip f none [] (y ∷ ys) e j = absurd (omega arith)
get_zip f none (x ∷ xs) [] e j = absurd (omega arith)
get_zip f none (x ∷ xs) (y ∷ ys) e zero = refl
get_zip f none (x ∷ xs) (y ∷ ys) e (suc j) = get_zip f none xs ys (omega arith) j

length_zip : (f : Bool × Bool → Bool) (xs ys : List Bool) → length ys ≡ length xs → length (map f (zip xs ys)) ≡ length xs
length_zip f [] [] e = refl
length_zip f [] (y ∷ ys) e = absurd (omega arith)
length_zip f (x ∷ xs) [] e = absurd (omega arith)
length_zip f (x ∷ xs) (y ∷ ys) e = ap suc (length_zip f xs ys (omega arith))

get_counted : (b : Bool) (xs : List Bool) (j : ℕ) → get_or (map (λ x. b && x) xs) j false ≡ (b && get_or xs j false)
get_counted true [] j = refl
get_counted false [] j = refl
get_counted b (x ∷ xs) zero = refl
get_counted b (x ∷ xs) (suc j) = get_counted b xs j

none_in : (xs : List Bool) → list_any (λ x. x) xs ≡ false → (j : ℕ) → HasPlace xs j → ⊥
none_in [] e j h = cc
none_in (true ∷ xs) e j h = cc
none_in (false ∷ xs) e zero h = cc
none_in (false ∷ xs) e (suc j) h = none_in xs e j h

-- the repetitions of a part
module _ (steps : List (Option PathStep)) (p : Pattern (ℕ → Value)) (least : ℕ) (starts : List Bool) where
  pub record AreTurns (t : ℕ) (here ends : List Bool) : Type 0 where
    pub here_count : length here ≡ length starts
    pub ends_count : length ends ≡ length starts
    pub turns : Turns (GoesTo steps) holds_of p least t (HasPlace starts) (HasPlace here) (HasPlace ends)

  pub turns_begun : (here ends : List Bool) → here ≡ map (λ b. true && b) starts → ends ≡ map (λ b. (nat_eq least 0) && b) starts → AreTurns 0 here ends
  turns_begun here ends is_here is_ends = record {
    here_count = ap length is_here ∙ length-map starts (λ b. true && b);
    ends_count = ap length is_ends ∙ length-map starts (λ b. (nat_eq least 0) && b);
    turns = begun (GoesTo steps) holds_of p least (HasPlace starts) (HasPlace here) (HasPlace ends) (record {
      here = λ j. (λ h. sym (at_here j) ∙ h, λ h. at_here j ∙ h);
      ends = λ j h. let e = sym (at_ends j) ∙ h in
          (eqb-true least 0 (left (nat_eq least 0) (get_or starts j false) e), right (nat_eq least 0) (get_or starts j false) e);
      all = λ j z h. at_ends j ∙ ap₂ (λ x y. x && y) (eq-eqb least 0 z) h;
    });
  }
    where
      at_here : (j : ℕ) → get_or here j false ≡ get_or starts j false
      at_here j = ap (λ xs. get_or xs j false) is_here ∙ get_counted true starts j

      at_ends : (j : ℕ) → get_or ends j false ≡ (nat_eq least 0 && get_or starts j false)
      at_ends j = ap (λ xs. get_or xs j false) is_ends ∙ get_counted (nat_eq least 0) starts j

  fresh_by : (n e : Bool) (counts : Bool) → n ≡ true → ((n && not (counts && e)) ≡ true) ⊎ (e ≡ true)
  fresh_by n true counts h = inr refl
  fresh_by n false true h = inl (rw h refl)
  fresh_by n false false h = inl (rw h refl)

  added_by : (n e : Bool) (counts : Bool) → (e || (counts && n)) ≡ true → (e ≡ true) ⊎ ((counts ≡ true) × (n ≡ true))
  added_by n true counts h = inl refl
  added_by n false counts h = inr (left counts n h, right counts n h)

  kept_by : (n e : Bool) (counts : Bool) → e ≡ true → (e || (counts && n)) ≡ true
  kept_by n e counts h = rw h refl

  new_by : (n e : Bool) → n ≡ true → (e || (true && n)) ≡ true
  new_by n true h = refl
  new_by n false h = h

  pub turns_more : (t : ℕ) (here ends next new_here new_ends : List Bool) (counts : Bool) → EndsOf steps p here next
      → (counts ≡ true → least ≤ t + 1) → (least ≤ t + 1 → counts ≡ true)
      → new_here ≡ map (λ b. b.0 && not (counts && b.1)) (zip next ends) → new_ends ≡ map (λ b. b.1 || (counts && b.0)) (zip next ends)
      → AreTurns t here ends → AreTurns (t + 1) new_here new_ends
  turns_more t here ends next new_here new_ends counts e low high is_here is_ends a = record {
    here_count = ap length is_here ∙ length_zip (λ b. b.0 && not (counts && b.1)) next ends same ∙ e.count ∙ a.here_count;
    ends_count = ap length is_ends ∙ length_zip (λ b. b.1 || (counts && b.0)) next ends same ∙ e.count ∙ a.here_count;
    turns = subst (λ k. Turns (GoesTo steps) holds_of p least k (HasPlace starts) (HasPlace new_here) (HasPlace new_ends)) (let k : suc t ≡ t + 1 = omega arith in k)
        (turned (GoesTo steps) holds_of p least t (HasPlace starts) (HasPlace next) (HasPlace here) (HasPlace ends) (HasPlace new_here) (HasPlace new_ends) e.each (record {
          here = λ j h. left (get_or next j false) (not (counts && get_or ends j false)) (sym (at_here j) ∙ h);
          fresh = λ j h. elim (fresh_by (get_or next j false) (get_or ends j false) counts h) [ inl new ↦ inl (at_here j ∙ new) | inr old ↦ inr old ];
          kept = λ j h. at_ends j ∙ kept_by (get_or next j false) (get_or ends j false) counts h;
          added = λ j l h. at_ends j ∙ ap (λ c. get_or ends j false || (c && get_or next j false)) (high l) ∙ new_by (get_or next j false) (get_or ends j false) h;
          ends = λ j h. elim (added_by (get_or next j false) (get_or ends j false) counts (sym (at_ends j) ∙ h)) [ inl old ↦ inl old | inr new ↦ inr (low new.0, new.1) ];
        }) a.turns);
  }
    where
      same : length ends ≡ length next
      same = a.ends_count ∙ sym a.here_count ∙ sym e.count

      none : (false || (counts && false)) ≡ false
      none = elim (cases_Bool counts) [ inl t ↦ rw t refl | inr f ↦ rw f refl ]

      at_here : (j : ℕ) → get_or new_here j false ≡ (get_or next j false && not (counts && get_or ends j false))
      at_here j = ap (λ xs. get_or xs j false) is_here ∙ get_zip (λ x y. x && not (counts && y)) refl next ends same j

      at_ends : (j : ℕ) → get_or new_ends j false ≡ (get_or ends j false || (counts && get_or next j false))
      at_ends j = ap (λ xs. get_or xs j false) is_ends ∙ get_zip (λ x y. y || (counts && x)) none next ends same j

  pub turns_next : (t : ℕ) (here ends next given next_1 ends_1 next_2 ends_2 new_here new_ends : List Bool) (counts : Bool)
      → given ≡ here → next_1 ≡ next → ends_1 ≡ ends → next_2 ≡ next → ends_2 ≡ ends → EndsOf steps p given next
      → (counts ≡ true → least ≤ t + 1) → (least ≤ t + 1 → counts ≡ true)
      → new_here ≡ map (λ b. b.0 && not (counts && b.1)) (zip next_1 ends_1) → new_ends ≡ map (λ b. b.1 || (counts && b.0)) (zip next_2 ends_2)
      → AreTurns t here ends → AreTurns (t + 1) new_here new_ends
  turns_next t here ends next given next_1 ends_1 next_2 ends_2 new_here new_ends counts g n1 e1 n2 e2 e low high is_here is_ends a =
      turns_more t here ends next new_here new_ends counts (subst (λ s. EndsOf steps p s next) g e) low high
      (is_here ∙ ap₂ (λ x y. map (λ (b : Bool × Bool). b.0 && not (counts && b.1)) (zip x y)) n1 e1)
      (is_ends ∙ ap₂ (λ x y. map (λ (b : Bool × Bool). b.1 || (counts && b.0)) (zip x y)) n2 e2) a

  pub turns_end : (most : ℕ) (here ends : List Bool) → AreTurns most here ends → EndsOf steps (repeated least (Some most) p) starts ends
  turns_end most here ends a = record {
    count = a.ends_count;
    each = λ j. (
      λ h. (repeated_law (GoesTo steps) holds_of p least (Some most) (HasPlace starts) j).1 (a.turns.ends j h),
      λ h. let r = (repeated_law (GoesTo steps) holds_of p least (Some most) (HasPlace starts) j).0 h in a.turns.all_ends r.count j r.enough r.within r.ends,
    );
  }

  pub turns_stop : (t most : ℕ) (here ends : List Bool) → list_any (λ x. x) here ≡ false → t ≤ most → AreTurns t here ends → EndsOf steps (repeated least (Some most) p) starts ends
  turns_stop t most here ends none low a = record {
    count = a.ends_count;
    each = λ j. (
      λ h. let e = a.turns.ends j h in
          (repeated_law (GoesTo steps) holds_of p least (Some most) (HasPlace starts) j).1 (record { count = e.count; enough = e.enough; within = omega (arith, e.within, low); ends = e.ends }),
      λ h. let r = (repeated_law (GoesTo steps) holds_of p least (Some most) (HasPlace starts) j).0 h in
          stopped (GoesTo steps) holds_of p least t (HasPlace starts) (HasPlace here) (HasPlace ends) (none_in here none) a.turns r.count j r.enough r.ends,
    );
  }

-- a mark allows all repetitions that can be used
pub marks_law : (steps : List (Option PathStep)) → AreSteps steps → (mark : Mark) (p : Pattern (ℕ → Value)) (S : ℕ → Type 0) (j : ℕ)
    → IsEnd (GoesTo steps) holds_of (marked mark p) S j ↔ IsEnd (GoesTo steps) holds_of (repeated (least_times mark) (Some (most_times mark (length steps))) p) S j
marks_law steps sound Once p S j = once_law (GoesTo steps) holds_of p S j
marks_law steps sound Star p S j =
    (star_few (GoesTo steps) holds_of (length steps) (short steps sound) p S j, any_most (GoesTo steps) holds_of p 0 (length steps) S j)
marks_law steps sound Plus p S j =
    (plus_few (GoesTo steps) holds_of (length steps) (short steps sound) p S j, any_most (GoesTo steps) holds_of p 1 (length steps + 1) S j)
marks_law steps sound Maybe p S j = (λ h. h, λ h. h)
marks_law steps sound (Times least most) p S j = (λ h. h, λ h. h)

-- parts in a row
pub record AreParts (steps : List (Option PathStep)) (tree : SearchedTree) (g : Context) (e : Names) (starts : List Bool) (whole left : PartTrees) (places : List Bool) : Type 0 where
  pub count : length places ≡ length starts
  pub each : (j : ℕ) → IsEnd (GoesTo steps) holds_of (pattern tree g e left) (HasPlace places) j ↔ IsEnd (GoesTo steps) holds_of (pattern tree g e whole) (HasPlace starts) j

module _ (steps : List (Option PathStep)) (sound : AreSteps steps) (tree : SearchedTree) (g : Context) (e : Names) (starts : List Bool) (whole : PartTrees) where
  pub parts_begun : (left : PartTrees) (places : List Bool) → places ≡ map (λ b. true && b) starts → left ≡ whole → AreParts steps tree g e starts whole left places
  parts_begun left places is same = record {
    count = ap length is ∙ length-map starts (λ b. true && b);
    each = λ j. subst (λ t. IsEnd (GoesTo steps) holds_of (pattern tree g e t) (HasPlace places) j ↔ IsEnd (GoesTo steps) holds_of (pattern tree g e whole) (HasPlace starts) j) (sym same) (
      more_ends (GoesTo steps) holds_of (pattern tree g e whole) (HasPlace places) (HasPlace starts) (λ i h. sym (at i) ∙ h) j,
      more_ends (GoesTo steps) holds_of (pattern tree g e whole) (HasPlace starts) (HasPlace places) (λ i h. at i ∙ h) j,
    );
  }
    where
      at : (j : ℕ) → get_or places j false ≡ get_or starts j false
      at j = ap (λ xs. get_or xs j false) is ∙ get_counted true starts j

  one_part : (c : Constituent) (cs : List Constituent) (places new : List Bool) → EndsOf steps (marked c.mark (body_pattern tree g e (body_tree c.body))) places new
      → AreParts steps tree g e starts whole (part_trees (c ∷ cs)) places → AreParts steps tree g e starts whole (part_trees cs) new
  unfolding value
  one_part c cs places new ends a = record {
    count = ends.count ∙ a.count;
    each = λ j. (
      λ h. (a.each j).0 ((joined_law (GoesTo steps) holds_of (marked c.mark (body_pattern tree g e (body_tree c.body))) (pattern tree g e (part_trees cs)) (HasPlace places) j).1
          (more_ends (GoesTo steps) holds_of (pattern tree g e (part_trees cs)) (HasPlace new) (IsEnd (GoesTo steps) holds_of (marked c.mark (body_pattern tree g e (body_tree c.body))) (HasPlace places))
          (λ i s. (ends.each i).0 s) j h)),
      λ h. more_ends (GoesTo steps) holds_of (pattern tree g e (part_trees cs)) (IsEnd (GoesTo steps) holds_of (marked c.mark (body_pattern tree g e (body_tree c.body))) (HasPlace places)) (HasPlace new)
          (λ i s. (ends.each i).1 s) j
          ((joined_law (GoesTo steps) holds_of (marked c.mark (body_pattern tree g e (body_tree c.body))) (pattern tree g e (part_trees cs)) (HasPlace places) j).0 ((a.each j).1 h)),
    );
  }

  of_mark : (mark : Mark) (p : Pattern (ℕ → Value)) (least most : ℕ) (places new : List Bool) → least ≡ least_times mark → most ≡ most_times mark (length steps)
      → EndsOf steps (repeated least (Some most) p) places new → EndsOf steps (marked mark p) places new
  of_mark mark p least most places new is_least is_most ends = record {
    count = ends.count;
    each = λ j. (
      λ h. (marks_law steps sound mark p (HasPlace places) j).1 (subst (λ q. IsEnd (GoesTo steps) holds_of q (HasPlace places) j) same ((ends.each j).0 h)),
      λ h. (ends.each j).1 (subst (λ q. IsEnd (GoesTo steps) holds_of q (HasPlace places) j) (sym same) ((marks_law steps sound mark p (HasPlace places) j).0 h)),
    );
  }
    where
      same : repeated least (Some most) p ≡ repeated (least_times mark) (Some (most_times mark (length steps))) p
      same = ap₂ (λ l m. repeated l (Some m) p) is_least is_most

  dropped : (cs : List Constituent) (i : ℕ) (c : Constituent) → i < length cs → c ≡ get_or cs i c → drop i cs ≡ c ∷ drop (i + 1) cs
  dropped [] i c h e = absurd (omega arith)
  dropped (d ∷ cs) zero c h e = ap (λ x. x ∷ cs) (sym e)
  dropped (d ∷ cs) (suc i) c h e = let n : suc i + 1 ≡ suc (i + 1) = omega arith in dropped cs i c (omega arith) e ∙ ap (λ k. c ∷ drop k (d ∷ cs)) (sym n)

  pub parts_more : (cs : List Constituent) (i : ℕ) (c : Constituent) (least most : ℕ) (places given new : List Bool) → i < length cs → c ≡ get_or cs i c
      → least ≡ least_times c.mark → most ≡ most_times c.mark (length steps) → given ≡ places
      → EndsOf steps (repeated least (Some most) (body_pattern tree g e (body_tree c.body))) given new
      → AreParts steps tree g e starts whole (part_trees (drop i cs)) places → AreParts steps tree g e starts whole (part_trees (drop (i + 1) cs)) new
  parts_more cs i c least most places given new h is is_least is_most same ends a =
      one_part c (drop (i + 1) cs) places new (of_mark c.mark (body_pattern tree g e (body_tree c.body)) least most places new is_least is_most
      (subst (λ set. EndsOf steps (repeated least (Some most) (body_pattern tree g e (body_tree c.body))) set new) same ends))
      (subst (λ ds. AreParts steps tree g e starts whole (part_trees ds) places) (dropped cs i c h is) a)

  all_dropped : (cs : List Constituent) (i : ℕ) → length cs ≤ i → drop i cs ≡ []
  all_dropped [] zero h = refl
  all_dropped [] (suc i) h = refl
  all_dropped (c ∷ cs) zero h = absurd (omega arith)
  all_dropped (c ∷ cs) (suc i) h = all_dropped cs i (omega arith)

  no_parts_left : (places : List Bool) → AreParts steps tree g e starts whole (part_trees []) places → EndsOf steps (pattern tree g e whole) starts places
  unfolding value
  no_parts_left places a = record {
    count = a.count;
    each = λ j. (
      λ h. (a.each j).0 ((nothing_law (GoesTo steps) holds_of (HasPlace places) j).1 h),
      λ h. (nothing_law (GoesTo steps) holds_of (HasPlace places) j).0 ((a.each j).1 h),
    );
  }

  pub parts_end : (cs : List Constituent) (i : ℕ) (places : List Bool) → length cs ≤ i → AreParts steps tree g e starts whole (part_trees (drop i cs)) places
      → EndsOf steps (pattern tree g e whole) starts places
  parts_end cs i places h a = no_parts_left places (subst (λ ds. AreParts steps tree g e starts whole (part_trees ds) places) (all_dropped cs i h) a)

-- nodes at which an atom holds
record Came (steps : List (Option PathStep)) (starts : List Bool) (k : ℕ) : Type 0 where
  start : ℕ
  begins : HasPlace starts start
  goes : GoesTo steps start k

came_by : (steps : List (Option PathStep)) (starts : List Bool) (k : ℕ) (o : Option PathStep) → get_or steps k None ≡ o → comes_from starts o ≡ true → Came steps starts k
came_by steps starts k None at e = absurd cc
came_by steps starts k (Some r) at e = record { start = r.before; begins = e; goes = ap place_before at }

comes_by : (starts : List Bool) (i : ℕ) (o : Option PathStep) → place_before o ≡ Some i → HasPlace starts i → comes_from starts o ≡ true
comes_by starts i None e h = absurd cc
comes_by starts i (Some r) e h = let same : r.before ≡ i = cc in subst (HasPlace starts) (sym same) h

from_zero : (k : ℕ) → k ≡ 0 + k
from_zero k = omega arith

found_at : (f : ℕ → Bool) (n k : ℕ) → get_or (map f (range_with_len 0 n)) k false ≡ true → (k < n) × (f k ≡ true)
found_at f n k e = elim (cases_lt k n) [
  | inl less ↦ (
    less,
    ap f (from_zero k ∙ sym (get_or-range_with_len 0 n k 0 less)) ∙ sym (get_or-map f (range_with_len 0 n) k 0 false (omega (arith, less, length-range_with_len 0 n))) ∙ e,
  )
  | inr past ↦ absurd (
      let none : get_or (map f (range_with_len 0 n)) k false ≡ false =
      get_or_past (map f (range_with_len 0 n)) k false (omega (arith, past, length-map (range_with_len 0 n) f, length-range_with_len 0 n)) in
      let both = sym none ∙ e in cc)
]

at_found : (f : ℕ → Bool) (n k : ℕ) → k < n → f k ≡ true → get_or (map f (range_with_len 0 n)) k false ≡ true
at_found f n k less e =
    get_or-map f (range_with_len 0 n) k 0 false (omega (arith, less, length-range_with_len 0 n)) ∙ ap f (get_or-range_with_len 0 n k 0 less ∙ sym (from_zero k)) ∙ e

pub atom_law : (steps : List (Option PathStep)) (v : ℕ → Value) (starts ends : List Bool) (n : ℕ) → n ≡ length steps → length starts ≡ length steps + 1
    → ends ≡ false ∷ map (λ k. comes_from starts (get_or steps k None) && holds (v k)) (range_with_len 0 n) → EndsOf steps (one v) starts ends
atom_law steps v starts ends n is count all = record {
  count = ap length all ∙ ap suc (length-map (range_with_len 0 n) f ∙ length-range_with_len 0 n ∙ is) ∙ omega (arith, count);
  each = λ j. (
    λ h. (one_law (GoesTo steps) holds_of v (HasPlace starts) j).1 (to_next j (subst (λ xs. HasPlace xs j) all h)),
    λ h. subst (λ xs. HasPlace xs j) (sym all) (of_next j ((one_law (GoesTo steps) holds_of v (HasPlace starts) j).0 h)),
  );
}
  where
    f : ℕ → Bool
    f = λ k. comes_from starts (get_or steps k None) && holds (v k)

    to_next : (j : ℕ) → HasPlace (false ∷ map (λ k. comes_from starts (get_or steps k None) && holds (v k)) (range_with_len 0 n)) j → IsNext (GoesTo steps) holds_of v (HasPlace starts) j
    to_next zero h = absurd (cc)
    to_next (suc k) h =
        let at = found_at (λ k. comes_from starts (get_or steps k None) && holds (v k)) n k h in
        let c = came_by steps starts k (get_or steps k None) refl (left (comes_from starts (get_or steps k None)) (holds (v k)) at.1) in
        record { node = k; start = c.start; is = refl; begins = c.begins; leads = c.goes; passes = right (comes_from starts (get_or steps k None)) (holds (v k)) at.1 }

    inside : (i k : ℕ) → GoesTo steps i k → k < n
    inside i k e = elim (cases_lt k n) [
      | inl less ↦ less
      | inr past ↦ absurd (let none = ap place_before (get_or_past steps k None (omega (arith, past, is))) in let both = sym none ∙ e in cc)
    ]

    both_true : (a b : Bool) → a ≡ true → b ≡ true → (a && b) ≡ true
    both_true a b x y = rw x y

    of_next : (j : ℕ) → IsNext (GoesTo steps) holds_of v (HasPlace starts) j → HasPlace (false ∷ map (λ k. comes_from starts (get_or steps k None) && holds (v k)) (range_with_len 0 n)) j
    of_next zero r = absurd (omega (arith, r.is))
    of_next (suc k) r =
        let same : r.node ≡ k = omega (arith, r.is) in
        let goes = subst (GoesTo steps r.start) same r.leads in
        at_found (λ k. comes_from starts (get_or steps k None) && holds (v k)) n k (inside r.start k goes)
        (both_true (comes_from starts (get_or steps k None)) (holds (v k)) (comes_by starts r.start (get_or steps k None) goes r.begins) (ap (holds_of v) (sym same) ∙ r.passes))

pub atom_more : (steps : List (Option PathStep)) (v : ℕ → Value) (starts ends new : List Bool) (k : ℕ) (passes : Bool)
    → passes ≡ (comes_from starts (get_or steps k None) && holds (v k)) → new ≡ ends ++ passes ∷ []
    → ends ≡ false ∷ map (λ k. comes_from starts (get_or steps k None) && holds (v k)) (range_with_len 0 k)
    → new ≡ false ∷ map (λ k. comes_from starts (get_or steps k None) && holds (v k)) (range_with_len 0 (k + 1))
atom_more steps v starts ends new k passes is more had =
    more ∙ ap₂ (λ xs b. xs ++ b ∷ []) had is ∙ ap (λ xs. false ∷ xs) (sym (map-range_with_len_more (λ k. comes_from starts (get_or steps k None) && holds (v k)) 0 k k (omega arith)))
