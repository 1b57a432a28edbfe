use Rattle.std.proofs.Common.{◌≡◌, ℕ, ◌<◌, ◌≤◌, ◌-◌, List, length, take, drop, get_or, [], sym, ap, ◌∙◌, subst, arith}
use Rattle.pgn_tree.specs.Internal.Comments.{parts, start_of}
use Rattle.pgn_tree.proofs.Parts.{length_parts, in_order, in_text, part_is}
use Rattle.pgn_tree.proofs.comments.Comments.get.Goals as goal

low : (text ends : List ℕ) (comments : List (List ℕ)) (i : ℕ) → parts text 0 ends ≡ comments → i < length comments → i < length ends
low text ends comments i is less = let len = length_parts text 0 ends in let same = ap length is in omega (arith, less, len, same)

pub start_of-start-requires : goal.start_of-start-requires
start_of-start-requires c =
    let less = low c.self.inside.text.items c.self.inside.ends.items c.args.self.now c.args.i c.self.view_is c.requires in
    let same = ap length c.as_slice.ensures.value in
    omega (arith, less, same)

pub index-requires : goal.index-requires
index-requires c =
    let less = low c.self.inside.text.items c.self.inside.ends.items c.args.self.now c.args.i c.self.view_is c.requires in
    let len = c.self.inside.ends.ok.0 in
    omega (arith, less, len)

pub slice_bounds-result-count : goal.slice_bounds-result-count
slice_bounds-result-count c =
    in_order c.self.inside.text.items c.self.inside.ends.items c.self.invariant.ends_stand c.args.i c.start_of-start.result c.index.result.now
    (low c.self.inside.text.items c.self.inside.ends.items c.args.self.now c.args.i c.self.view_is c.requires)
    (c.start_of-start.ensures ∙ ap (λ e. start_of 0 e c.args.i) c.as_slice.ensures.value) c.index.ensures

pub slice_bounds-result-start : goal.slice_bounds-result-start
slice_bounds-result-start c =
    in_order c.self.inside.text.items c.self.inside.ends.items c.self.invariant.ends_stand c.args.i c.start_of-start.result c.index.result.now
    (low c.self.inside.text.items c.self.inside.ends.items c.args.self.now c.args.i c.self.view_is c.requires)
    (c.start_of-start.ensures ∙ ap (λ e. start_of 0 e c.args.i) c.as_slice.ensures.value) c.index.ensures

pub slice_bounds-result-end : goal.slice_bounds-result-end
slice_bounds-result-end c =
    subst (λ t. c.index.result.now ≤ length t) (sym c.deref.ensures.value)
    (in_text c.self.inside.text.items c.self.inside.ends.items c.self.invariant.ends_stand c.args.i c.start_of-start.result c.index.result.now
    (low c.self.inside.text.items c.self.inside.ends.items c.args.self.now c.args.i c.self.view_is c.requires)
    (c.start_of-start.ensures ∙ ap (λ e. start_of 0 e c.args.i) c.as_slice.ensures.value) c.index.ensures)

pub returns : goal.returns
returns c =
    ap (λ t. take (c.index.result.now - c.start_of-start.result) (drop c.start_of-start.result t)) c.deref.ensures.value
    ∙ part_is c.self.inside.text.items c.self.inside.ends.items c.self.invariant.ends_stand c.args.i c.start_of-start.result c.index.result.now
    (low c.self.inside.text.items c.self.inside.ends.items c.args.self.now c.args.i c.self.view_is c.requires)
    (c.start_of-start.ensures ∙ ap (λ e. start_of 0 e c.args.i) c.as_slice.ensures.value) c.index.ensures
    ∙ ap (λ l. get_or l c.args.i []) c.self.view_is
