use Rattle.std.proofs.Common.{◌≡◌, ◌<◌, ◌+◌, ◌-◌, ℕ, zero, suc, Option, Some, None, [], ◌∷◌, ◌++◌, arith, ap, sym, ◌∙◌}
use Rattle.std.specs.List.{range_with_len, filter_map}
use Rattle.std.proofs.lemmas.Grind.{common_steps}
use Rattle.std.proofs.lemmas.List.Elements.{filter_map-append}
use Rattle.cq_geometry.specs.declared.compass.Compass.{Compass}
use Rattle.cq_geometry.specs.Steps.{steps_away}
use Rattle.cq_geometry.specs.Directions.{files_of, ranks_of}
use Rattle.cq_geometry.specs.Internal.Expansions.{steps_below}
use Rattle.cq_geometry.proofs.lines.along.Goals as goal
use Rattle.cq_geometry.proofs.lines.along.Goals.{in-Some, in_default}

range_more : (a n : ℕ) → range_with_len a (n + 1) ≡ range_with_len a n ++ (a + n) ∷ []
range_more a zero = let e : a + 0 ≡ a = omega arith in ap (λ k. k ∷ []) (sym e)
range_more a (suc n) =
    let e : suc n + 1 ≡ suc (n + 1) = omega arith in
    let f : a + 1 + n ≡ a + suc n = omega arith in
    ap (range_with_len a) e
    ∙ ap (λ xs. a ∷ xs) (range_more (a + 1) n ∙ ap (λ k. range_with_len (a + 1) n ++ k ∷ []) f)

-- the squares short of one step more
steps_more : (s : ℕ) (c : Compass) (n : ℕ) (goal : Option ℕ) → 0 < n → steps_away (files_of c) (ranks_of c) s n ≡ goal
    → steps_below s c (n + 1) ≡ steps_below s c n ++ filter_map (λ g. g) (goal ∷ [])
steps_more s c n goal h e =
    let away = steps_away (files_of c) (ranks_of c) s in
    let one_more : n + 1 - 1 ≡ (n - 1) + 1 = omega arith in
    let last : 1 + (n - 1) ≡ n = omega arith in
    ap (λ k. filter_map away (range_with_len 1 k)) one_more
    ∙ ap (filter_map away) (range_more 1 (n - 1) ∙ ap (λ k. range_with_len 1 (n - 1) ++ k ∷ []) last)
    ∙ filter_map-append away (range_with_len 1 (n - 1)) (n ∷ [])
    ∙ ap (λ g. steps_below s c n ++ filter_map (λ x. x) (g ∷ [])) e

pub loop-n-preserved : goal.loop-n-preserved
loop-n-preserved c =
    elim c.match-toward.branch [
      | in-Some w ↦
          let more = steps_more c.args.s c.args.c c.loop-n.n (Some w.in-Some.square) c.loop-n.auto.n (sym w.in-Some.ensures.goal) in
          grind (arith, common_steps)
      | in_default w ↦
          let more = steps_more c.args.s c.args.c c.loop-n.n None c.loop-n.auto.n (sym w.in_default.ensures.goal) in
          grind (arith, common_steps)
    ]

pub returns : goal.returns
returns c =
    let same : c.loop-n.n - 1 ≡ c.args.end - 1 = omega arith in
    c.loop-n.invariant.found
    ∙ ap (λ k. filter_map (steps_away (files_of c.args.c) (ranks_of c.args.c) c.args.s) (range_with_len 1 k)) same
