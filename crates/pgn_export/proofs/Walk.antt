-- The words of a line and of the variations, node by node.
use Rattle.std.proofs.Common.{◌≡◌, ℕ, suc, ◌<◌, Bool, true, false, ◌||◌, List, [], ◌∷◌, ◌++◌, length, Option, Some, None, refl, sym, ap, ◌∙◌, arith, codes}
use Rattle.std.specs.Option.{is_some}
use Rattle.std.proofs.lemmas.List.Sums.{fold-append}
use Rattle.cq_position.specs.declared.men.Side.{Side}
use Rattle.cq_position.specs.declared.men.Side.TheVariants.{White, Black}
use Rattle.cq_position.specs.declared.moves.Move.{Move}
use Rattle.cq_position.specs.Board.{Board}
use Rattle.cq_position.specs.Games.{Node, node_at, first_child, next_sibling, IsTree}
use Rattle.cq_position.specs.Continuations.{none}
use Rattle.cq_position.proofs.Trees.{tree_first}
use Rattle.pgn_export.specs.Internal.Page.{Page, with_word, with_words, with_longer_word}
use Rattle.pgn_export.specs.Words.{with_prefix, with_suffix, in_parens}
use Rattle.pgn_export.specs.Movetext.{number_words, move_words, is_any, is_played, is_due, line_words, variation_words}
use Rattle.pgn_export.specs.Internal.NodeWords.{played_of, after_node, instead_of}
use Rattle.pgn_export.proofs.Pages.{last_longer}
use Rattle.pgn_export.proofs.Places.{no_child, has_child, no_sibling, has_sibling}

no_mark : (ws : List (List ℕ)) → with_prefix [] ws ≡ ws
no_mark [] = refl
no_mark (w ∷ ws) = refl

-- the words of a first move, which begins with its number
pub record Starts (ws : List (List ℕ)) : Type 0 where
  pub first : List ℕ
  pub others : List (List ℕ)
  pub is : ws ≡ first ∷ others

number_starts : (side : Side) (n : ℕ) (more : List (List ℕ)) → Starts (number_words side true n ++ more)
number_starts White n more = record { first = _; others = more; is = refl }
number_starts Black n more = record { first = _; others = more; is = refl }

opened_starts : (mark : List ℕ) (ws more : List (List ℕ)) → Starts ws → with_prefix mark (ws ++ more) ≡ with_prefix mark ws ++ more
opened_starts mark [] more s = absurd (let e : 0 ≡ suc (length s.others) = ap length s.is in omega (arith, e))
opened_starts mark (w ∷ ws) more s = refl

opened_some : (mark : List ℕ) (ws : List (List ℕ)) → Starts ws → Starts (with_prefix mark ws)
opened_some mark [] s = absurd (let e : 0 ≡ suc (length s.others) = ap length s.is in omega (arith, e))
opened_some mark (w ∷ ws) s = record { first = mark ++ w; others = ws; is = refl }

longer_starts : (mark : List ℕ) (p : Page) (ws : List (List ℕ)) → Starts ws → with_longer_word (with_words p ws) mark ≡ with_words p (with_suffix mark ws)
longer_starts mark p [] s = absurd (let e : 0 ≡ suc (length s.others) = ap length s.is in omega (arith, e))
longer_starts mark p (w ∷ ws) s = last_longer mark p w ws

-- some words and then others
then : (p : Page) (xs ys : List (List ℕ)) → with_words (with_words p xs) ys ≡ with_words p (xs ++ ys)
then p xs ys = sym (fold-append with_word p xs ys)

starts_more : (ws more : List (List ℕ)) → Starts ws → Starts (ws ++ more)
starts_more ws more s = record { first = s.first; others = s.others ++ more; is = ap (λ l. l ++ more) s.is }

or_false : (b : Bool) → b ≡ (b || false)
or_false true = refl
or_false false = refl

module _ (nodes : List Node) (tree : IsTree nodes) where
  position : ℕ → Board
  position k = (node_at nodes k).position

  -- the move that led to a child
  pub led : (parent k : ℕ) → k < length nodes → (node_at nodes k).parent ≡ Some parent → (m : Move) × ((node_at nodes k).led_by ≡ Some m)
  led parent k within is =
      let before = (tree_first nodes tree).before k parent is in
      let child = tree.children k (omega (arith, before)) within in
      (child.move, child.led_by)

  played_by : (parent k : ℕ) (o : Option ℕ) → k < length nodes → (node_at nodes k).parent ≡ Some parent → next_sibling nodes k ≡ o → is_some o ≡ is_played (instead_of nodes parent k)
  played_by parent k None within is e = ap is_played (sym (no_sibling nodes tree parent k within is e))
  played_by parent k (Some c) within is e =
      let b = has_sibling nodes tree parent k c within is e in
      let l = led parent c b.within b.child in
      ap is_played (sym (b.begins l.0 l.1))

  pub due_in_line : (parent k : ℕ) (m : Move) → k < length nodes → (node_at nodes k).parent ≡ Some parent
      → (is_any (node_at nodes k).nags || is_any (node_at nodes k).comments || is_some (next_sibling nodes k)) ≡ is_due (played_of (node_at nodes k) m) (instead_of nodes parent k)
  due_in_line parent k m within is =
      ap (λ t. is_any (node_at nodes k).nags || is_any (node_at nodes k).comments || t) (played_by parent k (next_sibling nodes k) within is refl)

  -- one move of the line, with the variations that replace it
  pub line_step : (whole before mid new : Page) (due next_due : Bool) (at c : ℕ) → at < length nodes → first_child nodes at ≡ Some c
      → with_words before (line_words (node_at nodes at).position due (after_node nodes at)) ≡ whole
      → ((m : Move) → (node_at nodes c).led_by ≡ Some m → mid ≡ with_words before (with_prefix [] (move_words (node_at nodes at).position due (played_of (node_at nodes c) m))))
      → new ≡ with_words mid (variation_words (node_at nodes at).position (instead_of nodes at c))
      → next_due ≡ (is_any (node_at nodes c).nags || is_any (node_at nodes c).comments || is_some (next_sibling nodes c))
      → with_words new (line_words (node_at nodes c).position next_due (after_node nodes c)) ≡ whole
  unfolding line_words
  line_step whole before mid new due next_due at c within e kept one two three =
      let b = has_child nodes tree at c within e in
      let l = led at c b.within b.child in
      let m = played_of (node_at nodes c) l.0 in
      let p = (node_at nodes at).position in
      let mw = move_words p due m in
      let vs = variation_words p (instead_of nodes at c) in
      let lw = line_words (node_at nodes c).position next_due (after_node nodes c) in
      ap (λ x. with_words x lw) (two ∙ ap (λ x. with_words x vs) (one l.0 l.1 ∙ ap (with_words before) (no_mark mw)))
      ∙ then (with_words before mw) vs lw
      ∙ then before mw (vs ++ lw)
      ∙ ap (λ d. with_words before (mw ++ (vs ++ line_words (node_at nodes c).position d (after_node nodes c)))) (three ∙ due_in_line at c l.0 b.within b.child)
      ∙ ap (λ k. with_words before (line_words p due k)) (sym (b.begins l.0 l.1))
      ∙ kept

  pub line_end : (whole page : Page) (due : Bool) (at : ℕ) → at < length nodes → first_child nodes at ≡ None
      → with_words page (line_words (node_at nodes at).position due (after_node nodes at)) ≡ whole → page ≡ whole
  unfolding line_words
  line_end whole page due at within e kept =
      ap (λ k. with_words page (line_words (node_at nodes at).position due k)) (sym (no_child nodes tree at within e)) ∙ kept

  -- one variation
  pub variation_step : (whole before mid inner new : Page) (due : Bool) (parent at s : ℕ) → at < length nodes → (node_at nodes at).parent ≡ Some parent → next_sibling nodes at ≡ Some s
      → with_words before (variation_words (node_at nodes parent).position (instead_of nodes parent at)) ≡ whole
      → ((m : Move) → (node_at nodes s).led_by ≡ Some m → mid ≡ with_words before (with_prefix (codes "(") (move_words (node_at nodes parent).position true (played_of (node_at nodes s) m))))
      → due ≡ (is_any (node_at nodes s).nags || is_any (node_at nodes s).comments)
      → inner ≡ with_words mid (line_words (node_at nodes s).position due (after_node nodes s))
      → new ≡ with_longer_word inner (codes ")")
      → with_words new (variation_words (node_at nodes parent).position (instead_of nodes parent s)) ≡ whole
  unfolding variation_words
  variation_step whole before mid inner new due parent at s within is e kept one two three four =
      let b = has_sibling nodes tree parent at s within is e in
      let l = led parent s b.within b.child in
      let m = played_of (node_at nodes s) l.0 in
      let p = (node_at nodes parent).position in
      let mw = move_words p true m in
      let starts = number_starts p.side p.number _ in
      let lw = line_words (node_at nodes s).position due (after_node nodes s) in
      let vs = variation_words p (instead_of nodes parent s) in
      let due_is : due ≡ is_due m none = two ∙ or_false (is_any (node_at nodes s).nags || is_any (node_at nodes s).comments) in
      let inside : inner ≡ with_words before (with_prefix (codes "(") (mw ++ lw)) =
      three ∙ ap (λ x. with_words x lw) (one l.0 l.1) ∙ then before (with_prefix (codes "(") mw) lw
      ∙ ap (with_words before) (sym (opened_starts (codes "(") mw lw starts)) in
      let shut : new ≡ with_words before (in_parens (mw ++ lw)) =
      four ∙ ap (λ x. with_longer_word x (codes ")")) inside
      ∙ longer_starts (codes ")") before (with_prefix (codes "(") (mw ++ lw)) (opened_some (codes "(") (mw ++ lw) (starts_more mw lw starts)) in
      ap (λ x. with_words x vs) shut
      ∙ then before (in_parens (mw ++ lw)) vs
      ∙ ap (λ d. with_words before (in_parens (mw ++ line_words (node_at nodes s).position d (after_node nodes s)) ++ vs)) due_is
      ∙ ap (λ k. with_words before (variation_words p k)) (sym (b.begins l.0 l.1))
      ∙ kept

  pub variations_end : (whole page : Page) (parent at : ℕ) → at < length nodes → (node_at nodes at).parent ≡ Some parent → next_sibling nodes at ≡ None
      → with_words page (variation_words (node_at nodes parent).position (instead_of nodes parent at)) ≡ whole → page ≡ whole
  unfolding variation_words
  variations_end whole page parent at within is e kept =
      ap (λ k. with_words page (variation_words (node_at nodes parent).position k)) (sym (no_sibling nodes tree parent at within is e)) ∙ kept
