-- The places of the games of an archive.
use Rattle.std.specs.Prelude.{◌≡◌, ℕ, ◌<◌, ◌≤◌, List, [], ◌∷◌}
use Rattle.pgn_cut.specs.declared.span.Span.{Span}

-- a span has at least one byte, and ends by a place
abbrev pub EndsBy : ℕ → Span → Type 0
EndsBy place s = (s.start < s.end) × (s.end ≤ place)

-- spans are in order from a place on: each ends by another place, and begins at the end of the one before it or
-- after that
abbrev pub AreSpansInOrder : ℕ → ℕ → List Span → Type 0
AreSpansInOrder from to [] = Unit {0}
AreSpansInOrder from to (s ∷ ss) = (from ≤ s.start) × EndsBy to s × AreSpansInOrder s.end to ss

-- at most one span, which ends at a place
abbrev pub FinishesAt : ℕ → List Span → Type 0
FinishesAt place [] = Unit {0}
FinishesAt place (s ∷ []) = s.end ≡ place
FinishesAt place (s ∷ t ∷ ss) = ⊥
