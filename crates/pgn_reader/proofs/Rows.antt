-- Rows of continuations.
use Rattle.std.proofs.Common.{◌≡◌, ℕ, ◌+◌, List, [], ◌∷◌, ◌++◌, refl, sym, ap, ap₂, ◌∙◌, append_assoc}
use Rattle.cq_position.specs.Continuations.{Played, Continuations, none, played}
use Rattle.pgn_reader.specs.Line.{beside, with_leading_notes}
use Rattle.pgn_reader.specs.Internal.Frame.{rows}

pub rows_beside : (level : ℕ) (a b : Continuations) → rows level (beside a b) ≡ rows level a ++ rows level b
unfolding rows
rows_beside level none b = refl
rows_beside level (played m next others) b =
    ap (λ x. record { level = level; move = m } ∷ (rows (level + 1) next ++ x)) (rows_beside level others b)
    ∙ ap (λ x. record { level = level; move = m } ∷ x) (sym (append_assoc (rows (level + 1) next) (rows level others) (rows level b)))

pub rows_none : (level : ℕ) → rows level none ≡ []
unfolding rows
rows_none level = refl

pub rows_played : (level : ℕ) (m : Played) (next others : Continuations)
    → rows level (played m next others) ≡ record { level = level; move = m } ∷ (rows (level + 1) next ++ rows level others)
unfolding rows
rows_played level m next others = refl

-- glyphs and comments that wait, and those after them
pub noted_twice : (ns ms : List ℕ) (cs ds : List (List ℕ)) (c : Continuations) → with_leading_notes ns cs (with_leading_notes ms ds c) ≡ with_leading_notes (ns ++ ms) (cs ++ ds) c
noted_twice ns ms cs ds none = refl
noted_twice ns ms cs ds (played m next others) =
    ap₂ (λ x y. played (record m { nags = x; comments = y }) next others) (sym (append_assoc ns ms m.nags)) (sym (append_assoc cs ds m.comments))
