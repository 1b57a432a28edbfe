-- The longest front of a text that has a reading.
use Rattle.std.specs.Prelude.{ℕ, zero, suc, nat_le, List, length, take, Option, None, if◌then◌else◌}
use Rattle.std.specs.Option.{option_map, option_or}

-- the reading of the first n bytes of a text, and n, if the text has them and they have a reading
abbrev pub front : {X : Type 0} → (List ℕ → Option X) → ℕ → List ℕ → Option (X × ℕ)
front read n text = if nat_le n (length text) then option_map (λ x. (x, n)) (read (take n text)) else None

-- the reading of the longest front of at most n bytes that has one, and its length
unfoldable pub longest_within : {X : Type 0} → (List ℕ → Option X) → ℕ → List ℕ → Option (X × ℕ)
longest_within read zero text = None
longest_within read (suc n) text = option_or (option_map (λ x. (x, suc n)) (read (take (suc n) text))) (longest_within read n text)

-- the reading of the longest front of a text that has one, and its length
unfoldable pub longest : {X : Type 0} → (List ℕ → Option X) → List ℕ → Option (X × ℕ)
longest read text = longest_within read (length text) text
