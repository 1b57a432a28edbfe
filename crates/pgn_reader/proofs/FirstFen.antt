-- The position in which a game begins with one more tag.
use Rattle.std.proofs.Common.{◌≡◌, ℕ, Bool, true, false, cond, List, [], ◌∷◌, ◌++◌, Option, Some, None, Ok, refl, sym, ap, ◌∙◌}
use Rattle.std.specs.Prelude.{codes}
use Rattle.std.specs.List.{find}
use Rattle.std.specs.Option.{option_map, option_or, is_some}
use Rattle.std.specs.Str.{bytes_eq}
use Rattle.std.proofs.lemmas.List.Folds.{find-append}
use Rattle.cq_position.specs.Board.{Board}
use Rattle.cq_position.specs.Fen.{fen_meaning}
use Rattle.cq_position.specs.Games.{tag_value, with_tag}
use Rattle.pgn_reader.specs.Tags.{Tags, start_by, start_of}
use Rattle.pgn_reader.proofs.Heading.{value_kept}

-- the value of a name that another tag has not
other_value : (name other value : List ℕ) (ts : Tags) (there : Bool) → bytes_eq name other ≡ false
    → tag_value name (cond there ts (ts ++ (other, value) ∷ [])) ≡ tag_value name ts
other_value name other value ts true differ = refl
other_value name other value ts false differ =
    ap (option_map (λ t. t.1)) (find-append (λ t. bytes_eq name t.0) ts ((other, value) ∷ []))
    ∙ ap (λ b. option_map (λ t. t.1) (option_or (find (λ t. bytes_eq name t.0) ts) (cond b (Some (other, value)) None))) differ
    ∙ by_first (find (λ t. bytes_eq name t.0) ts)
  where
    by_first : (o : Option (List ℕ × List ℕ)) → option_map (λ t. t.1) (option_or o None) ≡ option_map (λ t. t.1) o
    by_first None = refl
    by_first (Some t) = refl

pub same_without_fen : (name value : List ℕ) (ts : Tags) (start : Board) → start_of ts ≡ Ok start → bytes_eq (codes "FEN") name ≡ false
    → Ok start ≡ start_of (with_tag ts name value)
unfolding start_of
same_without_fen name value ts start is differ =
    sym is ∙ ap start_by (sym (other_value (codes "FEN") name value ts (is_some (tag_value name ts)) differ))

pub same_after_fen : (name value fen : List ℕ) (ts : Tags) (start : Board) → start_of ts ≡ Ok start → tag_value (codes "FEN") ts ≡ Some fen
    → Ok start ≡ start_of (with_tag ts name value)
unfolding start_of
same_after_fen name value fen ts start is there =
    sym is ∙ ap start_by (there ∙ sym (value_kept (codes "FEN") name value ts fen (is_some (tag_value name ts)) there))

new_value : (name value : List ℕ) (ts : Tags) → tag_value name ts ≡ None → bytes_eq name name ≡ true → tag_value name (ts ++ (name, value) ∷ []) ≡ Some value
new_value name value ts none same =
    ap (option_map (λ t. t.1)) (find-append (λ t. bytes_eq name t.0) ts ((name, value) ∷ []))
    ∙ ap (λ b. option_map (λ t. t.1) (option_or (find (λ t. bytes_eq name t.0) ts) (cond b (Some (name, value)) None))) same
    ∙ by_first (find (λ t. bytes_eq name t.0) ts) none
  where
    by_first : (o : Option (List ℕ × List ℕ)) → option_map (λ t. t.1) o ≡ None → option_map (λ t. t.1) (option_or o (Some (name, value))) ≡ Some value
    by_first None e = refl
    by_first (Some t) e = absurd (let x : Some t.1 ≡ None = e in cc)

fen_added : (value : List ℕ) (ts : Tags) → tag_value (codes "FEN") ts ≡ None → tag_value (codes "FEN") (with_tag ts (codes "FEN") value) ≡ Some value
fen_added value ts none =
    ap (λ o. tag_value (codes "FEN") (cond (is_some o) ts (ts ++ (codes "FEN", value) ∷ []))) none ∙ new_value (codes "FEN") value ts none refl

pub first_fen : (name value : List ℕ) (ts : Tags) → name ≡ codes "FEN" → tag_value (codes "FEN") ts ≡ None → fen_meaning value ≡ start_of (with_tag ts name value)
unfolding start_of
first_fen name value ts is none = sym (ap (λ n. start_by (tag_value (codes "FEN") (with_tag ts n value))) is ∙ ap start_by (fen_added value ts none))
