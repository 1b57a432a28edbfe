use Rattle.std.proofs.Common.{◌≡◌, ◌<◌, ◌≤◌, ℕ, List, ◌∷◌, ◌++◌, length, arith, ap, sym, rules, to_z, w8}
use Rattle.std.proofs.lemmas.Grind.{common_steps}
use Rattle.std.proofs.lemmas.List.Elements.{All-same}
use Rattle.cq_geometry.specs.Steps.{ray_from}
use Rattle.cq_geometry.proofs.Rays.{ray_board, ray_some, ray_none, ray_short}
use Rattle.cq_geometry.proofs.lines.ray.Goals as goal

-- there is room for one square more if the ray goes on
room : (found rest all : List ℕ) (next : ℕ) (more : List ℕ) → found ++ rest ≡ all → rest ≡ next ∷ more → length all ≤ 7 → length found < 7
room found rest all next more e f h = grind (arith, common_steps)

pub push-requires : goal.push-requires
push-requires g c =
    let e = ray_some (to_z w8 g.row.DF) (to_z w8 g.row.DR) c.loop-next.at c.in-Some.next c.requires c.loop-next.invariant.board (sym c.in-Some.ensures.goal) in
    (search rules, room _ _ _ _ _ c.loop-next.invariant.rest e (ray_short _ _ _))

pub loop-next-smaller : goal.loop-next-smaller
loop-next-smaller g c =
    let e = ray_some (to_z w8 g.row.DF) (to_z w8 g.row.DR) c.loop-next.at c.in-Some.next c.requires c.loop-next.invariant.board (sym c.in-Some.ensures.goal) in
    omega (arith, ap length e)

pub loop-next-preserved : goal.loop-next-preserved
loop-next-preserved g c =
    let e = ray_some (to_z w8 g.row.DF) (to_z w8 g.row.DR) c.loop-next.at c.in-Some.next c.requires c.loop-next.invariant.board (sym c.in-Some.ensures.goal) in
    record { board = c.in-Some.ensures.board; rest = grind (arith, common_steps) }

pub returns : goal.returns
returns g c =
    let files = to_z w8 g.row.DF in
    let ranks = to_z w8 g.row.DR in
    let e = ray_none files ranks c.loop-next.at c.requires c.loop-next.invariant.board (sym c.in_default.ensures.goal) in
    let same : c.loop-next.squares.items ≡ ray_from files ranks c.args.s = grind (arith, common_steps) in
    record { squares = same; board = All-same (λ q. q < 64) _ _ same (ray_board files ranks c.args.s) }
