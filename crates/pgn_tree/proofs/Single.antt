-- A path down is the way up reversed, so there is at most one, and it is in the tree in which it ends.
use Rattle.std.proofs.Common.{◌≡◌, ℕ, Bool, true, false, List, [], ◌∷◌, ◌++◌, Some, None, refl, sym, ap, ◌∙◌, append_assoc}
use Rattle.std.specs.Prelude.{reverse}
use Rattle.std.specs.List.{last_or, list_all}
use Rattle.std.proofs.lemmas.Bool.{and_parts}
use Rattle.std.proofs.lemmas.List.{reverse-append, reverse-reverse, append_cancel_right}
use Rattle.std.proofs.lemmas.List.Folds.{list_all-append}
use Rattle.cq_position.specs.Games.{Game, way_up, is_main, is_searched, IsTree}
use Rattle.cq_position.specs.Search.{SearchedTree, IsStep, Along, IsPath, IsDownPath}
use Rattle.cq_position.proofs.Ancestors.{way_step}
use Rattle.cq_position.proofs.Trees.{tree_first}
use Rattle.pgn_tree.proofs.DownPath.{all_of}
use Rattle.pgn_tree.proofs.MainLine.{in_line}

some_is : (m n : ℕ) → Some m ≡ Some n → m ≡ n
some_is m n e = cc

module _ (g : Game) (tree : IsTree g.nodes) where
  abbrev Leads : ℕ → List ℕ → Type 0
  Leads n w = Along (IsStep (all_of g) false false) n w

  way_back : (n : ℕ) (w : List ℕ) (to : ℕ) → Leads n w → last_or (Some n) w ≡ Some to → way_up g.nodes to ≡ reverse w ++ way_up g.nodes n
  way_back n [] to goes ends = ap (way_up g.nodes) (sym (some_is n to ends))
  way_back n (k ∷ ms) to goes ends =
      way_back k ms to goes.1 ends
      ∙ ap (λ l. reverse ms ++ l) (way_step g.nodes (tree_first g.nodes tree) k n goes.0.child)
      ∙ sym (append_assoc (reverse ms) (k ∷ []) (way_up g.nodes n))
      ∙ ap (λ l. l ++ way_up g.nodes n) (sym (reverse-append (k ∷ []) ms))

  later_way : (from to : ℕ) (w : List ℕ) (d : IsDownPath g from to w) → way_up g.nodes to ≡ reverse d.goes.later ++ way_up g.nodes from
  later_way from to w d = way_back from d.goes.later to d.goes.goes (ap (last_or None) (sym d.goes.begins) ∙ d.ends)

  single : (from to : ℕ) (v w : List ℕ) → IsDownPath g from to v → IsDownPath g from to w → v ≡ w
  single from to v w a b =
      let turned : reverse a.goes.later ≡ reverse b.goes.later =
      append_cancel_right (reverse a.goes.later) (reverse b.goes.later) (way_up g.nodes from) (sym (later_way from to v a) ∙ later_way from to w b) in
      let same : a.goes.later ≡ b.goes.later = sym (reverse-reverse a.goes.later) ∙ ap reverse turned ∙ reverse-reverse b.goes.later in
      a.goes.begins ∙ ap (λ l. from ∷ l) same ∙ sym b.goes.begins

  -- the nodes on the way to a node of the main line are of it
  main_above : (n : ℕ) (w : List ℕ) (to : ℕ) → Leads n w → last_or (Some n) w ≡ Some to → is_main g.nodes to ≡ true → is_main g.nodes n ≡ true
  main_above n w to goes ends main =
      (and_parts (list_all (in_line g.nodes) (reverse w)) (is_main g.nodes n)
      (sym (list_all-append (in_line g.nodes) (reverse w) (way_up g.nodes n)) ∙ ap (list_all (in_line g.nodes)) (sym (way_back n w to goes ends)) ∙ main)).1

  searched_above : (variations : Bool) (n : ℕ) (w : List ℕ) (to : ℕ) → Leads n w → last_or (Some n) w ≡ Some to → is_searched variations g.nodes to ≡ true → is_searched variations g.nodes n ≡ true
  searched_above true n w to goes ends is = refl
  searched_above false n w to goes ends is = main_above n w to goes ends is

  searched_along : (variations : Bool) (n : ℕ) (w : List ℕ) (to : ℕ) → Leads n w → last_or (Some n) w ≡ Some to → is_searched variations g.nodes to ≡ true
      → Along (IsStep (record { game = g; variations = variations }) false false) n w
  searched_along variations n [] to goes ends is = tt
  searched_along variations n (k ∷ ms) to goes ends is = (
    record { child = goes.0.child; is_in = searched_above variations k ms to goes.1 ends is; first = λ e. absurd cc },
    searched_along variations k ms to goes.1 ends is,
  )

pub single_law : (g : Game) → IsTree g.nodes → (from to : ℕ) (v w : List ℕ) → IsDownPath g from to v → IsDownPath g from to w → v ≡ w
single_law g tree from to v w a b = single g tree from to v w a b

pub searched_law : (tree : SearchedTree) → IsTree tree.game.nodes → (from to : ℕ) (w : List ℕ) → is_searched tree.variations tree.game.nodes to ≡ true
    → IsDownPath tree.game from to w → IsPath tree false false from w
searched_law tree is_tree from to w is d = record {
  later = d.goes.later;
  begins = d.goes.begins;
  goes = searched_along tree.game is_tree tree.variations from d.goes.later to d.goes.goes (ap (last_or None) (sym d.goes.begins) ∙ d.ends) is;
}
