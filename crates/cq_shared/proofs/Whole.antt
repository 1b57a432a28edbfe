-- The nodes left after all parts, and the cost of the parts.
use Rattle.std.proofs.Common.{◌≡◌, ℕ, ◌+◌, ◌<◌, ◌≤◌, ◌&&◌, true, List, [], ◌∷◌, length, map, get_or, refl, sym, ap, ap₂, ◌∙◌, subst, arith, Bool}
use Rattle.std.specs.List.{filter}
use Rattle.cq_position.specs.Games.{Game}
use Rattle.cql_plan.specs.Plans.{query_of}
use Rattle.cql_syntax.specs.Hits.{hits}
use Rattle.cq_shared.specs.PartOwners.{owner_query, AreOwners}
use Rattle.cq_shared.specs.Internal.FirstNodes.{AreStartNodes}
use Rattle.cq_shared.specs.Interning.{all_shown}
use Rattle.cq_shared.specs.Matching.{is_before, is_class, costs_if, plan_cost, AreLeft}
use Rattle.cq_shared.specs.Parts.{PartTree, parts_in_all, different, equal_parts}
use Rattle.cql_syntax.specs.QueryTrees.{trees_of}
use Rattle.cq_shared.specs.Plans.{plan_parts}
use Rattle.cq_shared.specs.Internal.Reading.{AreFound}
use Rattle.cq_shared.specs.Singles.{shown}
use Rattle.cq_shared.specs.StepBounds.{both, is_needed_in, needed_parts, TakeAtMost}
use Rattle.cq_shared.specs.declared.nodes.NodeSet.{NodeSet}
use Rattle.cq_shared.specs.declared.part.PartOwner.{PartOwner}
use Rattle.cq_shared.specs.declared.part.Part.{Part}
use Rattle.cq_shared.proofs.After.{left_next, cost_next, cost_all, cost_some, still_admits}
use Rattle.cq_shared.proofs.FirstNodes.{begun_admits}
use Rattle.cq_shared.proofs.Keyed.{class_low}
use Rattle.cq_shared.proofs.Makings.{equal_is, plan_trees}
use Rattle.cq_shared.proofs.Meeting.{met_before, meets_hit}

-- all classes of parts

classes_low : (parts : List Part) (k : ℕ) (p : Part) → k < length parts → p ≡ get_or parts k p → p.class < 6
classes_low parts k p low reads = omega (arith, p.class_is, class_low (shown p.single).filter)

pub are_found : (game : Game) (parts : List Part) (owners : List PartOwner) (start_nodes left later : List NodeSet) → AreOwners parts owners → AreStartNodes game owners start_nodes
    → AreLeft (is_before 5) game parts start_nodes left → AreLeft (is_class 5) game parts left later → AreFound game owners later
are_found game parts owners start_nodes left later are had first second =
    let all = left_next 5 game parts start_nodes left later first second in
    record {
      count = all.count ∙ had.count;
      each = λ q a low reads n.
          all.each q n ∙ ap₂ (λ x y. x && y) (had.each q a low reads n) (met_before game parts q n (classes_low parts) ∙ meets_hit game parts q n a (are.each q a low reads));
    }

-- the cost of the parts

abbrev pub asked_cost : Game → List PartOwner → ℕ
asked_cost game owners = plan_cost game (needed_parts game (trees_of (map (λ a. query_of a.plan) owners)) (plan_parts (map (λ a. query_of a.plan) owners)))

module _ (game : Game) (parts : List Part) (owners : List PartOwner) where
  abbrev test : PartTree → Bool
  test = is_needed_in game (map (λ a. owner_query a) owners)

  abbrev want : Part → Bool
  want p = test (shown p.single)

  abbrev asked : ℕ
  asked = asked_cost game owners

  pub costs_are : equal_parts (all_shown parts) (different (parts_in_all (map (λ a. owner_query a) owners))) ≡ true
      → costs_if (both (is_before 5) want) game parts + costs_if (both (is_class 5) want) game parts ≡ asked
  unfolding needed_parts
  costs_are same =
      sym (cost_next 5 want game parts) ∙ cost_all game test parts (classes_low parts)
      ∙ ap₂ (λ qs ps. plan_cost game (filter (is_needed_in game qs) ps)) (sym (plan_trees owners))
      (equal_is (all_shown parts) (different (parts_in_all (map (λ a. owner_query a) owners))) same ∙ ap (λ qs. different (parts_in_all qs)) (sym (plan_trees owners)))

  pub first_cost : (start_nodes : List NodeSet) (before now : ℕ) → AreOwners parts owners → AreStartNodes game owners start_nodes
      → equal_parts (all_shown parts) (different (parts_in_all (map (λ a. owner_query a) owners))) ≡ true → TakeAtMost (is_before 5) game parts start_nodes before now → now ≤ before + asked
  first_cost start_nodes before now are had same takes = omega (arith, takes want (begun_admits game parts owners start_nodes are had), costs_are same)

  pub both_cost : (start_nodes left : List NodeSet) (before middle now : ℕ) → AreOwners parts owners → AreStartNodes game owners start_nodes
      → equal_parts (all_shown parts) (different (parts_in_all (map (λ a. owner_query a) owners))) ≡ true → AreLeft (is_before 5) game parts start_nodes left
      → TakeAtMost (is_before 5) game parts start_nodes before middle → TakeAtMost (is_class 5) game parts left middle now → now ≤ before + asked
  both_cost start_nodes left before middle now are had same so_far first second =
      let admits = begun_admits game parts owners start_nodes are had in
      omega (
        arith,
        first want admits,
        second want (λ k p low reads. still_admits (is_before 5) game parts start_nodes left want p so_far (admits k p low reads)),
        costs_are same,
      )

  -- the parts of the queries that pass cost no more than all
  pub all_cost : (before now : ℕ) → now ≤ before + asked → now ≤ before + plan_cost game (plan_parts (map (λ a. query_of a.plan) owners))
  unfolding needed_parts
  all_cost before now most =
      let some = cost_some game (is_needed_in game (trees_of (map (λ a. query_of a.plan) owners))) (plan_parts (map (λ a. query_of a.plan) owners)) in
      omega (arith, most, some)

-- a plan, as its parts and its queries are lent

pub record IsPlan (parts : List Part) (owners : List PartOwner) : Type 0 where
  pub are : AreOwners parts owners
  pub same : equal_parts (all_shown parts) (different (parts_in_all (map (λ a. owner_query a) owners))) ≡ true

pub plan_lent : (parts lent : List Part) (owners lent_askers : List PartOwner) → lent ≡ parts → lent_askers ≡ owners → IsPlan parts owners → IsPlan lent lent_askers
plan_lent parts lent owners lent_askers same same_askers plan =
    subst (λ ps. IsPlan ps lent_askers) (sym same) (subst (IsPlan parts) (sym same_askers) plan)

-- the hits of the queries of a plan
pub hits_of_all : (game : Game) (owners : List PartOwner) → map (λ a. hits (owner_query a) game) owners ≡ map (λ q. hits q game) (trees_of (map (λ a. query_of a.plan) owners))
hits_of_all game [] = refl
hits_of_all game (a ∷ owners) = ap (λ ns. hits (owner_query a) game ∷ ns) (hits_of_all game owners)
