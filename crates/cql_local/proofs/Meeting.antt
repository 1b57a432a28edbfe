-- The filter on the move to a node, part by part.
use Rattle.std.proofs.Common.{◌≡◌, ℕ, Bool, true, false, ◌&&◌, [], Option, Some, None, option_map, refl, sym, ap, ap₂, ◌∙◌}
use Rattle.std.specs.Prelude.{is_some, unwrap_or}
use Rattle.std.specs.declared.alloc.Global.{Global}
use Rattle.std.specs.declared.boxed.Box.{Box}
use Rattle.cq_position.specs.Led.{PlainLed, led_to}
use Rattle.cq_position.specs.Search.{SearchedTree}
use Rattle.cql_played.specs.Led.{as_led}
use Rattle.cql_played.specs.declared.led.Led.{Led}
use Rattle.cql_syntax.specs.Meaning.{Names, value, written_value, played_value, meets, meets_all, goal_if, before}
use Rattle.cql_syntax.specs.TreeOf.{played_tree, written_tree}
use Rattle.cql_syntax.specs.declared.tree.Filter.{Filter}
use Rattle.cql_syntax.specs.declared.tree.Played.{Played, out-Played}
use Rattle.cql_local.specs.Internal.MovesSought.{AreMoveEnds}
use Rattle.cql_local.specs.declared.move_ends.MoveEnds.{MoveEnds}
use Rattle.cql_local.proofs.Cutting.{move_value, origin_of, goal_of, taken_of, promoted_of}

-- no move led to the node
pub no_move : (tree : SearchedTree) (e : Names) (n : ℕ) (p : Played) → led_to tree.game.nodes n ≡ None → false ≡ played_value tree [] e (played_tree p) n
no_move tree e n p none = sym (move_value tree e p n
    ∙ ap (λ o. meets_all o (written_value tree [] e (origin_of p) (before tree n)) (written_value tree [] e (goal_of p) n) (written_value tree [] e (taken_of p) (before tree n))
    (written_value tree [] e (promoted_of p) n)) none)

-- a part that is left out
absent : (tree : SearchedTree) (e : Names) (o : Option (Box Filter Global)) (n : ℕ) (s : Option ℕ) → is_some o ≡ false → meets (written_value tree [] e (written_tree o) n) s ≡ true
unfolding value
absent tree e None n s is = refl
absent tree e (Some f) n s is = cc

led_same : (o : Option PlainLed) (m : PlainLed) (l : Led) → o ≡ Some m → Some l ≡ option_map as_led o → l ≡ as_led m
led_same o m l is led = let h = led ∙ ap (option_map as_led) is in cc

module _ (tree : SearchedTree) (e : Names) (n : ℕ) (p : Played) (d : MoveEnds) (ends : AreMoveEnds tree.game.nodes n d) where
  -- the part is met
  abbrev pub origin_met : Bool
  origin_met = meets (written_value tree [] e (origin_of p) d.before) (Some d.origin)

  abbrev pub goal_met : Bool
  goal_met = meets (written_value tree [] e (goal_of p) n) (Some d.goal)

  abbrev pub taken_met : Option ℕ → Bool
  taken_met s = meets (written_value tree [] e (taken_of p) d.before) s

  abbrev pub promoted_met : Led → Bool
  promoted_met l = meets (written_value tree [] e (promoted_of p) n) (goal_if l.promoted l.goal)

  all_met : (l : Led) → Some l ≡ option_map as_led (led_to tree.game.nodes n) → played_value tree [] e (played_tree p) n ≡ (origin_met && goal_met && taken_met l.taken && promoted_met l)
  all_met l is =
      move_value tree e p n
      ∙ ap (λ o. meets_all o (written_value tree [] e (origin_of p) (before tree n)) (written_value tree [] e (goal_of p) n) (written_value tree [] e (taken_of p) (before tree n))
      (written_value tree [] e (promoted_of p) n)) ends.is
      ∙ ap (λ m. meets (written_value tree [] e (origin_of p) m) (Some ends.led.origin) && meets (written_value tree [] e (goal_of p) n) (Some ends.led.goal)
      && meets (written_value tree [] e (taken_of p) m) ends.led.taken && promoted_met (as_led ends.led)) (ap (λ o. unwrap_or o n) ends.before)
      ∙ ap₂ (λ s t. meets (written_value tree [] e (origin_of p) d.before) (Some s) && meets (written_value tree [] e (goal_of p) n) (Some t) && taken_met ends.led.taken
      && promoted_met (as_led ends.led)) ends.origin ends.goal
      ∙ ap (λ k. origin_met && goal_met && taken_met k.taken && promoted_met k) (sym (led_same (led_to tree.game.nodes n) ends.led l ends.is is))

  is_led : Some (as_led ends.led) ≡ option_map as_led (led_to tree.game.nodes n)
  is_led = ap (option_map as_led) (sym ends.is)

  pub origin_fails : origin_met ≡ false → false ≡ played_value tree [] e (played_tree p) n
  origin_fails origin = rw (all_met (as_led ends.led) is_led, origin) refl

  pub goal_fails : origin_met ≡ true → goal_met ≡ false → false ≡ played_value tree [] e (played_tree p) n
  goal_fails origin goal = rw (all_met (as_led ends.led) is_led, origin, goal) refl

  pub no_more_asked : origin_met ≡ true → goal_met ≡ true → is_some (out-Played p).taken ≡ false → is_some (out-Played p).promoted ≡ false → true ≡ played_value tree [] e (played_tree p) n
  no_more_asked origin goal taken promoted =
      let taken_is = absent tree e (out-Played p).taken d.before ends.led.taken taken in
      let promoted_is = absent tree e (out-Played p).promoted n (goal_if ends.led.promoted ends.led.goal) promoted in
      rw (all_met (as_led ends.led) is_led, origin, goal, taken_is, promoted_is) refl

  pub taken_fails : (l : Led) → Some l ≡ option_map as_led (led_to tree.game.nodes n) → origin_met ≡ true → goal_met ≡ true → taken_met l.taken ≡ false → false ≡ played_value tree [] e (played_tree p) n
  taken_fails l is origin goal taken = rw (all_met l is, origin, goal, taken) refl

  pub promoted_decides : (l : Led) → Some l ≡ option_map as_led (led_to tree.game.nodes n) → origin_met ≡ true → goal_met ≡ true → taken_met l.taken ≡ true
      → promoted_met l ≡ played_value tree [] e (played_tree p) n
  promoted_decides l is origin goal taken = rw (all_met l is, origin, goal, taken) refl
