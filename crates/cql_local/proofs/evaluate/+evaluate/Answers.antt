use Rattle.std.proofs.Common.{rules, ◌≡◌, ℕ, ◌^◌, ◌<◌, [], ◌∷◌, Bool, true, false, ◌&&◌, ◌||◌, refl, drop, length, ap, ap₂, sym, ◌∙◌, subst, arith, Some}
use Rattle.std.specs.Prelude.{filter, not, is_some, IfOk, IfSome, IsNone}
use Rattle.std.specs.List.{list_any, list_all}
use Rattle.std.proofs.lemmas.Result.{IfOk-weaker}
use Rattle.cq_bits.proofs.Gathering.{cleared, smaller}
use Rattle.cq_geometry.specs.Squares.{squares}
use Rattle.cq_position.specs.Games.{node_at, is_searched, next_sibling, way_up}
use Rattle.cq_position.specs.Led.{led_to}
use Rattle.cq_position.specs.Search.{children_in}
use Rattle.cq_position.proofs.WaysUp.{way_from, way_on}
use Rattle.cq_symmetry.specs.Images.{is_in}
use Rattle.cql_syntax.specs.Meaning.{meets, value, written_value}
use Rattle.cql_syntax.specs.TreeOf.{filter_tree, filters_tree, form_tree, played_tree, written_tree}
use Rattle.cql_syntax.specs.Trees.{filter_at, unary, direction, pair, if_, square, sort, written}
use Rattle.cql_syntax.specs.Values.{holds, has, as_truth, as_squares, square_of, reached_of, pair_of}
use Rattle.cql_syntax.specs.declared.tree.Filter.{Filter}
use Rattle.cql_values.proofs.Evaluated.{by_settling, word_here}
use Rattle.cql_values.proofs.Masks.{union_step, intersection_step, all_squares}
use Rattle.cql_values.proofs.Ways.{within_up, children_from, all_children, parent_of_first, parent_of_next, inside_of}
use Rattle.cql_values.specs.FilterValues.{settles, unary_result}
use Rattle.cql_values.specs.Bindings.{rebound}
use Rattle.cql_values.specs.ValueModel.{as_value}
use Rattle.cql_local.specs.Internal.MovesSought.{AreMoveEnds, HoldsAfterMoves}
use Rattle.cql_local.specs.NodeScopes.{tree_of}
use Rattle.cql_local.specs.Internal.NodeValues.{value_at, values_at, holds_at}
use Rattle.cql_local.proofs.Children.{child_found, child_passed}
use Rattle.cql_local.proofs.Cutting.{goal_of, not_led, promoted_of, taken_of}
use Rattle.cql_local.proofs.Forms.{unary_value, steps_value, chain_value, pair_value, if_value, move_value, sort_value, any_value}
use Rattle.cql_local.proofs.Loops.{all_values, any_values, all_stop, all_end, any_stop, any_end, settled_first, none_settles, settling, not_settling, by_found, rebound_again, rebound_outer, rebound_some, rebound_length, square_value, union_whole, common_whole}
use Rattle.cql_local.proofs.Meeting.{no_move, origin_fails, goal_fails, no_more_asked, taken_fails, promoted_decides}
use Rattle.cql_local.proofs.Seeking.{not_held}
use Rattle.cql_local.proofs.evaluate.+evaluate.Goals as goal

pub all_of-returns-then-not-holds-clause-value : goal.all_of-returns-then-not-holds-clause-value
all_of-returns-then-not-holds-clause-value t c =
    let place = c.args.place.now in
    let e = c.args.names.now in
    let items = c.as_slice-part-items.result.now in
    let f = c.part-item.result in
    let p : Filter → Bool = λ f. holds (value_at place e (filter_tree f) place.node) in
    let is : p f ≡ false = ap (λ (b : _). holds (value_at place b (filter_tree f) place.node)) (sym c.loop-part.invariant.names)
    ∙ sym (c.holds.ensures ∙ ap holds c.in_ok-value.ensures.value) ∙ c.if-not-holds.true in
    ap as_truth (all_stop p items (list_all p items) c.loop-part.part-index f c.loop-part-test.true c.part-item.is is c.loop-part.invariant.left
    ∙ sym (all_values holds (tree_of place) e place.node items) ∙ ap (λ fs. list_all holds (values_at place e fs place.node)) c.as_slice-part-items.ensures.tree)

pub all_of-returns-clause-value : goal.all_of-returns-clause-value
all_of-returns-clause-value t c =
    let place = c.args.place.now in
    let e = c.args.names.now in
    let items = c.as_slice-part-items.result.now in
    let p : Filter → Bool = λ f. holds (value_at place e (filter_tree f) place.node) in
    ap as_truth (all_end p items (list_all p items) c.loop-part.part-index c.loop-part-test.false c.loop-part.invariant.left
    ∙ sym (all_values holds (tree_of place) e place.node items) ∙ ap (λ fs. list_all holds (values_at place e fs place.node)) c.as_slice-part-items.ensures.tree)

pub some_child-loop-at-init : goal.some_child-loop-at-init
some_child-loop-at-init t c =
    let place = c.args.place.now in
    let nodes = place.game.now.nodes in
    let test = is_searched place.variations nodes in
    let p : ℕ → Bool = λ k. holds (value_at place c.args.names.now (filter_tree c.args.part.now) k) in
    record {
      left = ap (λ o. list_any p (filter test (children_from nodes place.node o))) c.first_child-at.ensures.value
          ∙ sym (ap (λ l. list_any p (filter test l)) (all_children nodes place.node));
      within = inside_of c.first_child-at.result place.node (length nodes) c.first_child-at.ensures.after;
      child = parent_of_first nodes place.node c.first_child-at.result c.first_child-at.ensures.value;
      names = refl;
    }

pub some_child-returns-then-there-clause-value : goal.some_child-returns-then-there-clause-value
some_child-returns-then-there-clause-value t c =
    let place = c.args.place.now in
    let nodes = place.game.now.nodes in
    let test = is_searched place.variations nodes in
    let m = c.in-Some.child in
    let f = filter_tree c.args.part.now in
    let p : ℕ → Bool = λ k. holds (value_at place c.args.names.now f k) in
    let is : (test m && p m) ≡ true = ap (λ (b : _). test m && holds (value_at place b f m)) (sym c.loop-at.invariant.names) ∙ sym c.in_ok-there.ensures.value ∙ c.if-there.true in
    let parent : (node_at nodes m).parent ≡ Some place.node = subst (λ o. IfSome o (λ d. (node_at nodes d).parent ≡ Some place.node)) c.in-Some.is c.loop-at.invariant.child in
    let had = subst (λ o. list_any p (filter test (children_from nodes place.node o)) ≡ list_any p (children_in (tree_of place) place.node)) c.in-Some.is c.loop-at.invariant.left in
    ap as_truth (child_found p nodes place.variations place.node m (next_sibling nodes m) (list_any p (children_in (tree_of place) place.node)) parent refl is had)

pub some_child-loop-at-preserved : goal.some_child-loop-at-preserved
some_child-loop-at-preserved t c =
    let place = c.args.place.now in
    let nodes = place.game.now.nodes in
    let test = is_searched place.variations nodes in
    let m = c.in-Some.child in
    let f = filter_tree c.args.part.now in
    let p : ℕ → Bool = λ k. holds (value_at place c.args.names.now f k) in
    let is : (test m && p m) ≡ false = ap (λ (b : _). test m && holds (value_at place b f m)) (sym c.loop-at.invariant.names) ∙ sym c.in_ok-there.ensures.value ∙ c.if-there.false in
    let parent : (node_at nodes m).parent ≡ Some place.node = subst (λ o. IfSome o (λ d. (node_at nodes d).parent ≡ Some place.node)) c.in-Some.is c.loop-at.invariant.child in
    let had = subst (λ o. list_any p (filter test (children_from nodes place.node o)) ≡ list_any p (children_in (tree_of place) place.node)) c.in-Some.is c.loop-at.invariant.left in
    record {
      left = child_passed p nodes place.variations place.node m c.next_sibling-at.result (list_any p (children_in (tree_of place) place.node)) parent c.next_sibling-at.ensures.value is had;
      within = inside_of c.next_sibling-at.result m (length nodes) c.next_sibling-at.ensures.after;
      child = parent_of_next nodes place.node m c.next_sibling-at.result parent c.next_sibling-at.ensures.value;
      names = c.holds_searched.ensures.names ∙ c.loop-at.invariant.names;
    }

pub some_of-returns-then-holds-clause-value : goal.some_of-returns-then-holds-clause-value
some_of-returns-then-holds-clause-value t c =
    let place = c.args.place.now in
    let e = c.args.names.now in
    let items = c.as_slice-part-items.result.now in
    let f = c.part-item.result in
    let p : Filter → Bool = λ f. holds (value_at place e (filter_tree f) place.node) in
    let is : p f ≡ true = ap (λ (b : _). holds (value_at place b (filter_tree f) place.node)) (sym c.loop-part.invariant.names)
    ∙ sym (c.holds.ensures ∙ ap holds c.in_ok-value.ensures.value) ∙ c.if-holds.true in
    ap as_truth (any_stop p items (list_any p items) c.loop-part.part-index f c.loop-part-test.true c.part-item.is is c.loop-part.invariant.left
    ∙ sym (any_values holds (tree_of place) e place.node items) ∙ ap (λ fs. list_any holds (values_at place e fs place.node)) c.as_slice-part-items.ensures.tree)

pub some_of-returns-clause-value : goal.some_of-returns-clause-value
some_of-returns-clause-value t c =
    let place = c.args.place.now in
    let e = c.args.names.now in
    let items = c.as_slice-part-items.result.now in
    let p : Filter → Bool = λ f. holds (value_at place e (filter_tree f) place.node) in
    ap as_truth (any_end p items (list_any p items) c.loop-part.part-index c.loop-part-test.false c.loop-part.invariant.left
    ∙ sym (any_values holds (tree_of place) e place.node items) ∙ ap (λ fs. list_any holds (values_at place e fs place.node)) c.as_slice-part-items.ensures.tree)

pub union_of-loop-part-preserved : goal.union_of-loop-part-preserved
union_of-loop-part-preserved t c =
    let place = c.args.place.now in
    let e = c.args.names.now in
    let f = c.part-item.result in
    let x : Filter → ℕ → Bool = λ f. has (value_at place e (filter_tree f) place.node) in
    let is : x f ≡ is_in c.squares-mask.result = ap (λ (b : _). has (value_at place b (filter_tree f) place.node)) (sym c.loop-part.invariant.names)
    ∙ sym (ap has c.in_ok-value.ensures.value) ∙ c.squares-mask.ensures in
    record {
      mask = union_step c.loop-part.mask c.squares-mask.result c.as_slice-part-items.result.now x c.loop-part.part-index f c.loop-part-test.true
          (ap x (sym c.part-item.is) ∙ is) c.loop-part.invariant.mask;
      names = c.evaluate.ensures.names ∙ c.loop-part.invariant.names;
    }

pub union_of-returns-clause-value : goal.union_of-returns-clause-value
union_of-returns-clause-value t c =
    union_whole (tree_of c.args.place.now) c.args.names.now c.args.place.now.node c.as_slice-part-items.result.now (filters_tree c.args.parts.now) c.loop-part.part-index c.loop-part.mask
    (omega arith) c.loop-part-test.false c.as_slice-part-items.ensures.tree c.loop-part.invariant.mask

pub common_of-loop-part-init : goal.common_of-loop-part-init
common_of-loop-part-init t c = record { mask = all_squares; names = search rules }

pub common_of-loop-part-preserved : goal.common_of-loop-part-preserved
common_of-loop-part-preserved t c =
    let place = c.args.place.now in
    let e = c.args.names.now in
    let f = c.part-item.result in
    let x : Filter → ℕ → Bool = λ f. has (value_at place e (filter_tree f) place.node) in
    let is : x f ≡ is_in c.squares-mask.result = ap (λ (b : _). has (value_at place b (filter_tree f) place.node)) (sym c.loop-part.invariant.names)
    ∙ sym (ap has c.in_ok-value.ensures.value) ∙ c.squares-mask.ensures in
    record {
      mask = intersection_step c.loop-part.mask c.squares-mask.result c.as_slice-part-items.result.now x c.loop-part.part-index f c.loop-part-test.true
          (ap x (sym c.part-item.is) ∙ is) c.loop-part.invariant.mask;
      names = c.evaluate.ensures.names ∙ c.loop-part.invariant.names;
    }

pub common_of-returns-clause-value : goal.common_of-returns-clause-value
common_of-returns-clause-value t c =
    common_whole (tree_of c.args.place.now) c.args.names.now c.args.place.now.node c.as_slice-part-items.result.now (filters_tree c.args.parts.now) c.loop-part.part-index c.loop-part.mask
    (omega arith) c.loop-part-test.false c.as_slice-part-items.ensures.tree c.loop-part.invariant.mask

pub evaluate-returns-in_ok-holds-in-Square-clause-value : goal.evaluate-returns-in_ok-holds-in-Square-clause-value
evaluate-returns-in_ok-holds-in-Square-clause-value t c =
    let place = c.args.place.now in
    let f = c.args.f.now in
    let e = c.args.names.now in
    let a = filter_tree c.deref-in-Square.result.now in
    let b = filter_tree c.deref-in-Square-2.result.now in
    let v : as_truth c.in_ok-holds-in-Square.holds ≡ square_of c.in-Square.every (as_squares (is_in c.squares.result)) (holds_at place c.in-Square.name e b)
    = c.in_ok-holds-in-Square.ensures.value ∙ ap₂ (λ text names. square_of c.in-Square.every (as_squares (is_in c.squares.result)) (holds_at place text names b))
    c.as_slice.ensures c.evaluate-in-Square.ensures.names in
    let whole = ap (λ form. filter_at f.at (form_tree form)) c.in-Square.is
    ∙ sym (ap₂ (λ p q. filter_at f.at (square c.in-Square.every c.in-Square.name (filter_tree p) (filter_tree q))) c.deref-in-Square.ensures c.deref-in-Square-2.ensures) in
    v ∙ square_value (tree_of place) e place.node f.at c.in-Square.every c.in-Square.name a b c.squares.result (as_value c.in_ok-squares-in-Square.squares)
    c.in_ok-squares-in-Square.ensures.value c.squares.ensures ∙ sym (ap (λ w. value_at place e w place.node) whole)

pub is_met-returns-in_default-clause-value : goal.is_met-returns-in_default-clause-value
unfolding value
is_met-returns-in_default-clause-value t c =
    let place = c.args.place.now in
    ap (λ p. meets (written_value (tree_of place) [] c.args.names.now (written_tree p) place.node) c.args.square) (sym c.in_default.is)

pub is_met-returns-in_default-square-clause-value : goal.is_met-returns-in_default-square-clause-value
unfolding value
is_met-returns-in_default-square-clause-value t c =
    let place = c.args.place.now in
    let e = c.args.names.now in
    ap (meets (Some (value_at place e (filter_tree c.in-Some.part.value) place.node))) (sym c.in_default-square.is)
    ∙ ap (λ p. meets (written_value (tree_of place) [] e (written_tree p) place.node) c.args.square) (sym c.in-Some.is)

pub is_met-returns-clause-value : goal.is_met-returns-clause-value
unfolding value
is_met-returns-clause-value t c =
    let place = c.args.place.now in
    let e = c.args.names.now in
    let v = value_at place e (filter_tree c.deref.result.now) place.node in
    let sq = c.in-Some-square.square in
    c.has_square.ensures ∙ ap (λ x. x sq) (sym c.squares.ensures) ∙ ap (λ x. has x sq) c.in_ok-value.ensures.value ∙ ap (meets (Some v)) (sym c.in-Some-square.is)
    ∙ ap (λ w. meets (written_value (tree_of place) [] e w place.node) c.args.square) (ap (λ p. written (filter_tree p)) c.deref.ensures ∙ sym (ap written_tree c.in-Some.is))

pub some_above-returns-then-there-clause-value : goal.some_above-returns-then-there-clause-value
some_above-returns-then-there-clause-value t c =
    let place = c.args.place.now in
    let nodes = place.game.now.nodes in
    let m = c.in-Some.node in
    let f = filter_tree c.args.part.now in
    let p : ℕ → Bool = λ k. holds (value_at place c.args.names.now f k) in
    let is : p m ≡ true = ap (λ (b : _). holds (value_at place b f m)) (sym c.loop-at.invariant.names) ∙ sym c.in_ok-there.ensures.value ∙ c.if-there.true in
    let had = subst (λ o. list_any p (way_from nodes o) ≡ list_any p (way_up nodes place.node)) c.in-Some.is c.loop-at.invariant.left in
    ap as_truth (sym (ap (λ b. b || list_any p (way_from nodes (node_at nodes m).parent)) is) ∙ sym (ap (list_any p) (way_on nodes m (node_at nodes m).parent c.requires.tree refl)) ∙ had)

pub some_above-loop-at-preserved : goal.some_above-loop-at-preserved
some_above-loop-at-preserved t c =
    let place = c.args.place.now in
    let nodes = place.game.now.nodes in
    let m = c.in-Some.node in
    let o = c.parent-at.result in
    let f = filter_tree c.args.part.now in
    let p : ℕ → Bool = λ k. holds (value_at place c.args.names.now f k) in
    let is : p m ≡ false = ap (λ (b : _). holds (value_at place b f m)) (sym c.loop-at.invariant.names) ∙ sym c.in_ok-there.ensures.value ∙ c.if-there.false in
    let had = subst (λ o. list_any p (way_from nodes o) ≡ list_any p (way_up nodes place.node)) c.in-Some.is c.loop-at.invariant.left in
    let low : m < length nodes = subst (λ o. IfSome o (λ k. k < length nodes)) c.in-Some.is c.loop-at.invariant.within in
    record {
      left = sym (ap (λ b. b || list_any p (way_from nodes o)) is) ∙ sym (ap (list_any p) (way_on nodes m o c.requires.tree (sym c.parent-at.ensures.value))) ∙ had;
      within = within_up nodes m o c.requires.tree c.parent-at.ensures.value low;
      names = c.holds_after.ensures.names ∙ c.loop-at.invariant.names;
    }

pub holds_after-returns-then-not-may_hold-clause-value : goal.holds_after-returns-then-not-may_hold-clause-value
holds_after-returns-then-not-may_hold-clause-value t c =
    let place = c.args.place.now in
    not_held (holds (value_at place c.args.names.now (filter_tree c.args.part.now) place.node)) c.may_hold.result
    (λ h. c.may_hold.ensures (λ moved. c.requires.sought.led moved (tree_of place) place.node h)) c.if-not-may_hold.true

pub some_settles-returns-then-holds-every-clause-value : goal.some_settles-returns-then-holds-every-clause-value
some_settles-returns-then-holds-every-clause-value t c =
    let place = c.args.place.now in
    let sq = c.lowest_square-square.result in
    let f = filter_tree c.args.asked.now in
    let test : ℕ → Bool = λ s. holds (value_at place (rebound c.args.names.now s) f place.node) in
    let is : c.holds.result ≡ test sq = c.holds.ensures ∙ ap holds c.in_ok-value.ensures.value
    ∙ ap (λ (b : _). holds (value_at place b f place.node)) (c.rebind.ensures ∙ c.loop-left.invariant.names sq) in
    let first = settled_first c.args.every test c.loop-left.left sq c.number.result (omega arith) (search rules) c.lowest_square-square.ensures.value c.number.ensures.value in
    sym (ap (λ b. b || list_any (settles c.args.every (is_in (cleared c.loop-left.left c.number.result)) test) squares) (settling c.args.every c.holds.result (test sq) is c.if-holds-every.true)) ∙ sym first ∙ c.loop-left.invariant.left

pub some_settles-loop-left-smaller : goal.some_settles-loop-left-smaller
some_settles-loop-left-smaller t c =
    let some : 0 < c.loop-left.left = omega arith in
    let fits : c.loop-left.left < 2 ^ 64 = search rules in
    smaller c.loop-left.left c.lowest_square-square.result c.number.result some fits c.lowest_square-square.ensures.value c.number.ensures.value

pub some_settles-loop-left-preserved : goal.some_settles-loop-left-preserved
some_settles-loop-left-preserved t c =
    let place = c.args.place.now in
    let sq = c.lowest_square-square.result in
    let f = filter_tree c.args.asked.now in
    let test : ℕ → Bool = λ s. holds (value_at place (rebound c.args.names.now s) f place.node) in
    let is : c.holds.result ≡ test sq = c.holds.ensures ∙ ap holds c.in_ok-value.ensures.value
    ∙ ap (λ (b : _). holds (value_at place b f place.node)) (c.rebind.ensures ∙ c.loop-left.invariant.names sq) in
    let first = settled_first c.args.every test c.loop-left.left sq c.number.result (omega arith) (search rules) c.lowest_square-square.ensures.value c.number.ensures.value in
    record {
      left = sym (ap (λ b. b || list_any (settles c.args.every (is_in (cleared c.loop-left.left c.number.result)) test) squares) (not_settling c.args.every c.holds.result (test sq) is c.if-holds-every.false)) ∙ sym first ∙ c.loop-left.invariant.left;
      bound = subst (λ (b : _). 0 < length b) (sym (c.evaluate.ensures.names ∙ c.rebind.ensures)) (let l = rebound_length c.loop-left.names sq in omega (arith, l, c.loop-left.invariant.bound));
      names = λ s. ap (λ (b : _). rebound b s) (c.evaluate.ensures.names ∙ c.rebind.ensures) ∙ rebound_again c.loop-left.names sq s ∙ c.loop-left.invariant.names s;
    }

pub some_settles-returns-clause-value : goal.some_settles-returns-clause-value
some_settles-returns-clause-value t c =
    let place = c.args.place.now in
    let test : ℕ → Bool = λ s. holds (value_at place (rebound c.args.names.now s) (filter_tree c.args.asked.now) place.node) in
    sym (none_settles c.args.every test c.loop-left.left (omega (arith, c.loop-left-test.false))) ∙ c.loop-left.invariant.left

pub square_at-returns-then-left-eq0-clause-value : goal.square_at-returns-then-left-eq0-clause-value
square_at-returns-then-left-eq0-clause-value t c =
    let test = holds_at c.args.place.now c.args.name.now c.args.names.now (filter_tree c.args.asked.now) in
    sym (by_settling c.args.every (as_squares (is_in c.squares_to_try-left.result)) test false (sym (none_settles c.args.every test c.squares_to_try-left.result (omega (arith, c.if-left-eq0.true)))))
    ∙ c.squares_to_try-left.ensures

pub square_at-unbind-requires : goal.square_at-unbind-requires
square_at-unbind-requires t c = rebound_some c.some_settles-found.new.names c.bind.new.self (search rules) (c.some_settles-found.ensures.names 0)

pub square_at-returns-in-Ok-clause-value : goal.square_at-returns-in-Ok-clause-value
square_at-returns-in-Ok-clause-value t c =
    let place = c.args.place.now in
    let f = filter_tree c.args.asked.now in
    let test = holds_at place c.args.name.now c.args.names.now f in
    let left = c.squares_to_try-left.result in
    let value : c.in-Ok.found ≡ list_any (settles c.args.every (is_in left) (λ s. holds (value_at place (rebound c.bind.new.self s) f place.node))) squares
    = subst (λ r. IfOk r (λ b. b ≡ list_any (settles c.args.every (is_in left) (λ s. holds (value_at place (rebound c.bind.new.self s) f place.node))) squares)) c.in-Ok.is
    c.some_settles-found.ensures.value in
    let bound : c.bind.new.self ≡ (c.args.name.now, c.lowest_square.result) ∷ c.args.names.now = c.in_ok-bind.ensures.ok in
    ap as_truth (by_found c.in-Ok.found c.args.every)
    ∙ sym (by_settling c.args.every (as_squares (is_in left)) test c.in-Ok.found (value
    ∙ ap (λ (b : _). list_any (settles c.args.every (is_in left) (λ s. holds (value_at place (rebound b s) f place.node))) squares) bound))
    ∙ c.squares_to_try-left.ensures

pub square_at-returns-in-Ok-clause-names : goal.square_at-returns-in-Ok-clause-names
square_at-returns-in-Ok-clause-names t c =
    c.unbind.ensures ∙ rebound_outer c.some_settles-found.new.names c.bind.new.self (c.some_settles-found.ensures.names 0) ∙ ap (drop 1) c.in_ok-bind.ensures.ok

pub square_at-returns-in-Err-clause-names : goal.square_at-returns-in-Err-clause-names
square_at-returns-in-Err-clause-names t c =
    c.unbind.ensures ∙ rebound_outer c.some_settles-found.new.names c.bind.new.self (c.some_settles-found.ensures.names 0) ∙ ap (drop 1) c.in_ok-bind.ensures.ok

pub unary_at-returns-in_ok-value-in_default : goal.unary_at-returns-in_ok-value-in_default
unary_at-returns-in_ok-value-in_default t c =
    let tree = tree_of c.args.place.now in
    let at = value_at c.args.place.now c.args.names.now (filter_tree c.args.part.now) in
    record {
      value = c.unary_of_value.ensures ∙ ap (λ p. unary_result p.men c.args.word (as_value c.in_ok-value-in_default.value)) c.position.ensures
          ∙ word_here tree c.args.word at c.args.place.now.node (as_value c.in_ok-value-in_default.value) c.in_default.not-Find c.in_default.not-FindUp c.in_default.not-Child
          c.in_default.not-Parent c.in_ok-value-in_default.ensures.value;
      names = c.evaluate.ensures.names;
    }

pub played_at-returns-in_default-clause-value : goal.played_at-returns-in_default-clause-value
played_at-returns-in_default-clause-value t c =
    let place = c.args.place.now in
    let tree = tree_of place in
    let p = c.args.played.now in
    no_move tree c.args.names.now place.node p (c.ends_of.ensures.none (subst IsNone (sym c.in_default.is) refl))

pub played_at-returns-then-not-branch-clause-value : goal.played_at-returns-then-not-branch-clause-value
played_at-returns-then-not-branch-clause-value t c =
    let place = c.args.place.now in
    let tree = tree_of place in
    let p = c.args.played.now in
    let ends = subst (λ o. IfSome o (AreMoveEnds place.game.now.nodes place.node)) c.in-Some.is c.ends_of.ensures.some in
    origin_fails tree c.args.names.now place.node p c.in-Some.ends ends (sym c.in_ok-is_met.ensures.value ∙ c.if-not-branch.true)

pub played_at-returns-then-not-branch-2-clause-value : goal.played_at-returns-then-not-branch-2-clause-value
played_at-returns-then-not-branch-2-clause-value t c =
    let place = c.args.place.now in
    let tree = tree_of place in
    let p = c.args.played.now in
    let ends = subst (λ o. IfSome o (AreMoveEnds place.game.now.nodes place.node)) c.in-Some.is c.ends_of.ensures.some in
    let origin = sym c.in_ok-is_met.ensures.value ∙ c.if-not-branch.false in
    let goal = sym (ap (λ (b : _). meets (written_value tree [] b (goal_of p) place.node) (Some c.in-Some.ends.goal)) c.is_met.ensures.names)
    ∙ sym c.in_ok-is_met-2.ensures.value ∙ c.if-not-branch-2.true in
    goal_fails tree c.args.names.now place.node p c.in-Some.ends ends origin goal

pub played_at-returns-then-is_none-2-clause-value : goal.played_at-returns-then-is_none-2-clause-value
played_at-returns-then-is_none-2-clause-value t c =
    let place = c.args.place.now in
    let tree = tree_of place in
    let p = c.args.played.now in
    let ends = subst (λ o. IfSome o (AreMoveEnds place.game.now.nodes place.node)) c.in-Some.is c.ends_of.ensures.some in
    let origin = sym c.in_ok-is_met.ensures.value ∙ c.if-not-branch.false in
    let goal = sym (ap (λ (b : _). meets (written_value tree [] b (goal_of p) place.node) (Some c.in-Some.ends.goal)) c.is_met.ensures.names)
    ∙ sym c.in_ok-is_met-2.ensures.value ∙ c.if-not-branch-2.false in
    no_more_asked tree c.args.names.now place.node p c.in-Some.ends ends origin goal (c.is_none.ensures ∙ ap not c.if-is_none.true)
    (c.is_none-then-is_none.ensures ∙ ap not c.if-is_none-2.true)

pub played_at-returns-in_default-led_to-clause-value : goal.played_at-returns-in_default-led_to-clause-value
played_at-returns-in_default-led_to-clause-value t c =
    let place = c.args.place.now in
    let tree = tree_of place in
    let p = c.args.played.now in
    no_move tree c.args.names.now place.node p (not_led (led_to place.game.now.nodes place.node) c.led_to.result c.led_to.ensures c.in_default-led_to.is)

pub played_at-returns-then-not-branch-3-clause-value : goal.played_at-returns-then-not-branch-3-clause-value
played_at-returns-then-not-branch-3-clause-value t c =
    let place = c.args.place.now in
    let tree = tree_of place in
    let p = c.args.played.now in
    let ends = subst (λ o. IfSome o (AreMoveEnds place.game.now.nodes place.node)) c.in-Some.is c.ends_of.ensures.some in
    let origin = sym c.in_ok-is_met.ensures.value ∙ c.if-not-branch.false in
    let goal = sym (ap (λ (b : _). meets (written_value tree [] b (goal_of p) place.node) (Some c.in-Some.ends.goal)) c.is_met.ensures.names)
    ∙ sym c.in_ok-is_met-2.ensures.value ∙ c.if-not-branch-2.false in
    let led = sym c.in-Some-led_to.is ∙ c.led_to.ensures in
    let names = c.is_met-2.ensures.names ∙ c.is_met.ensures.names in
    let taken = sym (ap (λ (b : _). meets (written_value tree [] b (taken_of p) c.in-Some.ends.before) c.in-Some-led_to.led.taken) names)
    ∙ sym c.in_ok-is_met-3.ensures.value ∙ c.if-not-branch-3.true in
    taken_fails tree c.args.names.now place.node p c.in-Some.ends ends c.in-Some-led_to.led led origin goal taken

pub played_at-returns-clause-value : goal.played_at-returns-clause-value
played_at-returns-clause-value t c =
    let place = c.args.place.now in
    let tree = tree_of place in
    let p = c.args.played.now in
    let ends = subst (λ o. IfSome o (AreMoveEnds place.game.now.nodes place.node)) c.in-Some.is c.ends_of.ensures.some in
    let origin = sym c.in_ok-is_met.ensures.value ∙ c.if-not-branch.false in
    let goal = sym (ap (λ (b : _). meets (written_value tree [] b (goal_of p) place.node) (Some c.in-Some.ends.goal)) c.is_met.ensures.names)
    ∙ sym c.in_ok-is_met-2.ensures.value ∙ c.if-not-branch-2.false in
    let led = sym c.in-Some-led_to.is ∙ c.led_to.ensures in
    let names = c.is_met-2.ensures.names ∙ c.is_met.ensures.names in
    let taken = sym (ap (λ (b : _). meets (written_value tree [] b (taken_of p) c.in-Some.ends.before) c.in-Some-led_to.led.taken) names)
    ∙ sym c.in_ok-is_met-3.ensures.value ∙ c.if-not-branch-3.false in
    let promoted = ap₂ (λ (b : _) s. meets (written_value tree [] b (promoted_of p) place.node) s) (c.is_met-3.ensures.names ∙ names) c.promotion_goal.ensures in
    IfOk-weaker c.is_met-4.result _ _ (λ met known. known ∙ promoted ∙ promoted_decides tree c.args.names.now place.node p c.in-Some.ends ends c.in-Some-led_to.led led origin goal taken)
    c.is_met-4.ensures.value

pub evaluate-returns-in-Unary-clause-value : goal.evaluate-returns-in-Unary-clause-value
evaluate-returns-in-Unary-clause-value t c =
    let place = c.args.place.now in
    let f = c.args.f.now in
    let e = c.args.names.now in
    let whole = ap (λ p. filter_at f.at (unary c.in-Unary.word (filter_tree p))) c.deref.ensures ∙ sym (ap (λ form. filter_at f.at (form_tree form)) c.in-Unary.is) in
    IfOk-weaker c.unary_at.result _ _ (λ v known. known ∙ unary_value (tree_of place) e place.node f.at c.in-Unary.word (filter_tree c.deref.result.now)
    ∙ ap (λ w. value_at place e w place.node) whole) c.unary_at.ensures.value

pub evaluate-returns-in_ok-value-in-Steps-clause-value : goal.evaluate-returns-in_ok-value-in-Steps-clause-value
evaluate-returns-in_ok-value-in-Steps-clause-value t c =
    let place = c.args.place.now in
    let f = c.args.f.now in
    let e = c.args.names.now in
    let s = c.in-Steps in
    let whole = ap (λ p. filter_at f.at (direction s.way s.m s.n (filter_tree p))) c.deref-in-Steps.ensures ∙ sym (ap (λ form. filter_at f.at (form_tree form)) s.is) in
    c.reached.ensures ∙ ap (λ ways. reached_of ways s.m s.n (as_value c.in_ok-value-in-Steps.value)) c.directions.ensures
    ∙ steps_value (tree_of place) e place.node f.at s.way s.m s.n (filter_tree c.deref-in-Steps.result.now) (as_value c.in_ok-value-in-Steps.value) c.in_ok-value-in-Steps.ensures.value
    ∙ ap (λ w. value_at place e w place.node) whole

pub evaluate-returns-in-Chain-clause-value : goal.evaluate-returns-in-Chain-clause-value
evaluate-returns-in-Chain-clause-value t c =
    let place = c.args.place.now in
    let f = c.args.f.now in
    let e = c.args.names.now in
    IfOk-weaker c.chain_at.result _ _ (λ v known. known ∙ chain_value (tree_of place) e place.node f.at c.in-Chain.chain (filters_tree c.in-Chain.parts)
    ∙ sym (ap (λ form. value_at place e (filter_at f.at (form_tree form)) place.node) c.in-Chain.is)) c.chain_at.ensures.value

pub evaluate-returns-in_ok-second-in-Pair-clause-value : goal.evaluate-returns-in_ok-second-in-Pair-clause-value
evaluate-returns-in_ok-second-in-Pair-clause-value t c =
    let place = c.args.place.now in
    let f = c.args.f.now in
    let e = c.args.names.now in
    let pair_is = c.in-Pair.pair in
    let a = filter_tree c.deref-in-Pair.result.now in
    let b = filter_tree c.deref-in-Pair-2.result.now in
    let x = as_value c.in_ok-first-in-Pair.first in
    let y = as_value c.in_ok-second-in-Pair.second in
    let whole = ap₂ (λ p q. filter_at f.at (pair pair_is (filter_tree p) (filter_tree q))) c.deref-in-Pair.ensures c.deref-in-Pair-2.ensures
    ∙ sym (ap (λ form. filter_at f.at (form_tree form)) c.in-Pair.is) in
    c.pair_of.ensures ∙ ap (λ p. pair_of p.men pair_is x y) c.position.ensures
    ∙ pair_value (tree_of place) e place.node f.at pair_is a b x y c.in_ok-first-in-Pair.ensures.value
    (c.in_ok-second-in-Pair.ensures.value ∙ ap (λ (names : _). value_at place names b place.node) c.evaluate-in-Pair.ensures.names)
    ∙ ap (λ w. value_at place e w place.node) whole

pub evaluate-returns-in_ok-otherwise-in-If-clause-value : goal.evaluate-returns-in_ok-otherwise-in-If-clause-value
evaluate-returns-in_ok-otherwise-in-If-clause-value t c =
    let place = c.args.place.now in
    let f = c.args.f.now in
    let e = c.args.names.now in
    let p = c.deref-in-If.result.now in
    let q = c.deref-in-If-2.result.now in
    let r = c.deref-in-If-3.result.now in
    let whole = ap (λ r. filter_at f.at (if_ (filter_tree p) (filter_tree q) (filter_tree r))) c.deref-in-If-3.ensures
    ∙ ap₂ (λ p q. filter_at f.at (if_ (filter_tree p) (filter_tree q) (filter_tree c.in-If.otherwise.value))) c.deref-in-If.ensures c.deref-in-If-2.ensures
    ∙ sym (ap (λ form. filter_at f.at (form_tree form)) c.in-If.is) in
    c.if_of.ensures
    ∙ if_value (tree_of place) e place.node f.at (filter_tree p) (filter_tree q) (filter_tree r) _ _ _
    c.in_ok-condition-in-If.ensures.value
    (c.in_ok-then-in-If.ensures.value ∙ ap (λ (names : _). value_at place names (filter_tree q) place.node) c.evaluate-in-If.ensures.names)
    (c.in_ok-otherwise-in-If.ensures.value ∙ ap (λ (names : _). value_at place names (filter_tree r) place.node) (c.evaluate-in-If-2.ensures.names ∙ c.evaluate-in-If.ensures.names))
    ∙ ap (λ w. value_at place e w place.node) whole

pub evaluate-returns-in_ok-met-in-Played-clause-value : goal.evaluate-returns-in_ok-met-in-Played-clause-value
evaluate-returns-in_ok-met-in-Played-clause-value t c =
    let place = c.args.place.now in
    let f = c.args.f.now in
    let e = c.args.names.now in
    move_value (tree_of place) e place.node f.at (played_tree c.in-Played.played) c.in_ok-met-in-Played.met c.in_ok-met-in-Played.ensures.value
    ∙ sym (ap (λ form. value_at place e (filter_at f.at (form_tree form)) place.node) c.in-Played.is)

pub evaluate-returns-in_ok-value-in-Sort-clause-value : goal.evaluate-returns-in_ok-value-in-Sort-clause-value
evaluate-returns-in_ok-value-in-Sort-clause-value t c =
    let place = c.args.place.now in
    let f = c.args.f.now in
    let e = c.args.names.now in
    let s = c.in-Sort in
    let whole = ap (λ p. filter_at f.at (sort s.field-0 s.field-1 (filter_tree p))) c.deref-in-Sort.ensures ∙ sym (ap (λ form. filter_at f.at (form_tree form)) s.is) in
    ap as_truth (c.is_some.ensures ∙ ap is_some c.number.ensures)
    ∙ sort_value (tree_of place) e place.node f.at s.field-0 s.field-1 (filter_tree c.deref-in-Sort.result.now) (as_value c.in_ok-value-in-Sort.value) c.in_ok-value-in-Sort.ensures.value
    ∙ ap (λ w. value_at place e w place.node) whole

pub evaluate-returns-in-Any-clause-value : goal.evaluate-returns-in-Any-clause-value
evaluate-returns-in-Any-clause-value t c =
    let place = c.args.place.now in
    let f = c.args.f.now in
    let e = c.args.names.now in
    IfOk-weaker c.any_at.result _ _ (λ v known. known ∙ any_value (tree_of place) e place.node f.at c.in-Any.kind (filters_tree c.in-Any.parts)
    ∙ sym (ap (λ form. value_at place e (filter_at f.at (form_tree form)) place.node) c.in-Any.is)) c.any_at.ensures.value

-- names stay bound as they were, call by call
pub evaluate-returns-in-Unary-clause-names : goal.evaluate-returns-in-Unary-clause-names
evaluate-returns-in-Unary-clause-names t c = c.unary_at.ensures.names

pub evaluate-returns-in_err-value-in-Steps-clause-names : goal.evaluate-returns-in_err-value-in-Steps-clause-names
evaluate-returns-in_err-value-in-Steps-clause-names t c = c.evaluate.ensures.names

pub evaluate-returns-in_ok-value-in-Steps-clause-names : goal.evaluate-returns-in_ok-value-in-Steps-clause-names
evaluate-returns-in_ok-value-in-Steps-clause-names t c = c.evaluate.ensures.names

pub evaluate-returns-in-Chain-clause-names : goal.evaluate-returns-in-Chain-clause-names
evaluate-returns-in-Chain-clause-names t c = c.chain_at.ensures.names

pub evaluate-returns-in_err-first-in-Pair-clause-names : goal.evaluate-returns-in_err-first-in-Pair-clause-names
evaluate-returns-in_err-first-in-Pair-clause-names t c = c.evaluate-in-Pair.ensures.names

pub evaluate-returns-in_err-second-in-Pair-clause-names : goal.evaluate-returns-in_err-second-in-Pair-clause-names
evaluate-returns-in_err-second-in-Pair-clause-names t c = c.evaluate-in-Pair-2.ensures.names ∙ c.evaluate-in-Pair.ensures.names

pub evaluate-returns-in_ok-second-in-Pair-clause-names : goal.evaluate-returns-in_ok-second-in-Pair-clause-names
evaluate-returns-in_ok-second-in-Pair-clause-names t c = c.evaluate-in-Pair-2.ensures.names ∙ c.evaluate-in-Pair.ensures.names

pub evaluate-returns-in_err-condition-in-If-clause-names : goal.evaluate-returns-in_err-condition-in-If-clause-names
evaluate-returns-in_err-condition-in-If-clause-names t c = c.evaluate-in-If.ensures.names

pub evaluate-returns-in_err-then-in-If-clause-names : goal.evaluate-returns-in_err-then-in-If-clause-names
evaluate-returns-in_err-then-in-If-clause-names t c = c.evaluate-in-If-2.ensures.names ∙ c.evaluate-in-If.ensures.names

pub evaluate-returns-in_err-otherwise-in-If-clause-names : goal.evaluate-returns-in_err-otherwise-in-If-clause-names
evaluate-returns-in_err-otherwise-in-If-clause-names t c = c.evaluate-in-If-3.ensures.names ∙ c.evaluate-in-If-2.ensures.names ∙ c.evaluate-in-If.ensures.names

pub evaluate-returns-in_ok-otherwise-in-If-clause-names : goal.evaluate-returns-in_ok-otherwise-in-If-clause-names
evaluate-returns-in_ok-otherwise-in-If-clause-names t c = c.evaluate-in-If-3.ensures.names ∙ c.evaluate-in-If-2.ensures.names ∙ c.evaluate-in-If.ensures.names

pub evaluate-returns-in_err-squares-in-Square-clause-names : goal.evaluate-returns-in_err-squares-in-Square-clause-names
evaluate-returns-in_err-squares-in-Square-clause-names t c = c.evaluate-in-Square.ensures.names

pub evaluate-returns-in_err-holds-in-Square-clause-names : goal.evaluate-returns-in_err-holds-in-Square-clause-names
evaluate-returns-in_err-holds-in-Square-clause-names t c = c.square_at.ensures.names ∙ c.evaluate-in-Square.ensures.names

pub evaluate-returns-in_ok-holds-in-Square-clause-names : goal.evaluate-returns-in_ok-holds-in-Square-clause-names
evaluate-returns-in_ok-holds-in-Square-clause-names t c = c.square_at.ensures.names ∙ c.evaluate-in-Square.ensures.names

pub evaluate-returns-in_err-met-in-Played-clause-names : goal.evaluate-returns-in_err-met-in-Played-clause-names
evaluate-returns-in_err-met-in-Played-clause-names t c = c.played_at.ensures.names

pub evaluate-returns-in_ok-met-in-Played-clause-names : goal.evaluate-returns-in_ok-met-in-Played-clause-names
evaluate-returns-in_ok-met-in-Played-clause-names t c = c.played_at.ensures.names

pub evaluate-returns-in_err-value-in-Sort-clause-names : goal.evaluate-returns-in_err-value-in-Sort-clause-names
evaluate-returns-in_err-value-in-Sort-clause-names t c = c.evaluate-in-Sort.ensures.names

pub evaluate-returns-in_ok-value-in-Sort-clause-names : goal.evaluate-returns-in_ok-value-in-Sort-clause-names
evaluate-returns-in_ok-value-in-Sort-clause-names t c = c.evaluate-in-Sort.ensures.names

pub evaluate-returns-in-Any-clause-names : goal.evaluate-returns-in-Any-clause-names
evaluate-returns-in-Any-clause-names t c = c.any_at.ensures.names

pub played_at-returns-in_err-is_met-clause-names : goal.played_at-returns-in_err-is_met-clause-names
played_at-returns-in_err-is_met-clause-names t c = c.is_met.ensures.names

pub played_at-returns-then-not-branch-clause-names : goal.played_at-returns-then-not-branch-clause-names
played_at-returns-then-not-branch-clause-names t c = c.is_met.ensures.names

pub played_at-returns-in_err-is_met-2-clause-names : goal.played_at-returns-in_err-is_met-2-clause-names
played_at-returns-in_err-is_met-2-clause-names t c = c.is_met-2.ensures.names ∙ c.is_met.ensures.names

pub played_at-returns-then-not-branch-2-clause-names : goal.played_at-returns-then-not-branch-2-clause-names
played_at-returns-then-not-branch-2-clause-names t c = c.is_met-2.ensures.names ∙ c.is_met.ensures.names

pub played_at-returns-then-is_none-2-clause-names : goal.played_at-returns-then-is_none-2-clause-names
played_at-returns-then-is_none-2-clause-names t c = c.is_met-2.ensures.names ∙ c.is_met.ensures.names

pub played_at-returns-in_default-led_to-clause-names : goal.played_at-returns-in_default-led_to-clause-names
played_at-returns-in_default-led_to-clause-names t c = c.is_met-2.ensures.names ∙ c.is_met.ensures.names

pub played_at-returns-in_err-is_met-3-clause-names : goal.played_at-returns-in_err-is_met-3-clause-names
played_at-returns-in_err-is_met-3-clause-names t c = c.is_met-3.ensures.names ∙ c.is_met-2.ensures.names ∙ c.is_met.ensures.names

pub played_at-returns-then-not-branch-3-clause-names : goal.played_at-returns-then-not-branch-3-clause-names
played_at-returns-then-not-branch-3-clause-names t c = c.is_met-3.ensures.names ∙ c.is_met-2.ensures.names ∙ c.is_met.ensures.names

pub played_at-returns-clause-names : goal.played_at-returns-clause-names
played_at-returns-clause-names t c = c.is_met-4.ensures.names ∙ c.is_met-3.ensures.names ∙ c.is_met-2.ensures.names ∙ c.is_met.ensures.names
