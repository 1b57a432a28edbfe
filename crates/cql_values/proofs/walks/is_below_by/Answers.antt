use Rattle.std.proofs.Common.{◌≡◌, false, get_or, length, ap, sym, ◌∙◌, arith}
use Rattle.std.proofs.lemmas.List.FromFn.{length-map-range_with_len, get_or-map-range_with_len}
use Rattle.cq_position.specs.Games.{is_below}
use Rattle.cq_position.proofs.WaysUp.{is_below_self, below_parent, root_below}
use Rattle.cql_values.proofs.walks.is_below_by.Goals as goal

pub returns-then-k-n : goal.returns-then-k-n
returns-then-k-n c =
    let same : c.args.k ≡ c.args.n = omega (arith, c.if-k-n.true) in
    sym (ap (is_below c.args.game.now.nodes c.args.n) same ∙ is_below_self c.args.game.now.nodes c.args.n c.requires.tree)

pub bounds-before-parent : goal.bounds-before-parent
bounds-before-parent c =
    let many = ap length c.requires.before ∙ length-map-range_with_len (is_below c.args.game.now.nodes c.args.n) 0 c.args.k in
    omega (arith, many, c.in-Some.ensures.before)

pub returns-in-Some : goal.returns-in-Some
returns-in-Some c =
    let nodes = c.args.game.now.nodes in
    let p = c.in-Some.parent in
    ap (λ l. get_or l p false) c.requires.before ∙ get_or-map-range_with_len (is_below nodes c.args.n) 0 c.args.k p p false c.in-Some.ensures.before (omega arith)
    ∙ sym (below_parent nodes c.args.n c.args.k p c.requires.tree (sym c.in-Some.ensures.value) (λ e. absurd (omega (arith, e, c.if-k-n.false))))

pub returns-in-None : goal.returns-in-None
returns-in-None c =
    sym (root_below c.args.game.now.nodes c.args.n c.args.k c.requires.tree (sym c.in-None.ensures.value) (λ e. absurd (omega (arith, e, c.if-k-n.false))))
