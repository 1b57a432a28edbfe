-- The tags of a map.
use Rattle.std.specs.Prelude.{ℕ, List, map}
use Rattle.std.specs.Global.{Vec}

abbrev pub plain : List (Vec ℕ × List ℕ) → List (List ℕ × List ℕ)
plain entries = map {B = List ℕ × List ℕ} (λ e. (e.0.items, e.1)) entries
