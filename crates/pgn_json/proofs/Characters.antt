-- The characters of a text, and its bytes.
use Rattle.std.proofs.Common.{◌≡◌, ℕ, suc, ◌<◌, ◌≤◌, false, List, [], ◌∷◌, ◌++◌, length, get_or, refl, ap, ap₂, ◌∙◌, sym, arith, inl, inr, append-nil, IsUtf8}
use Rattle.std.proofs.lemmas.Bool.{or_parts, cases_lt, false_from_ne_true, le-ltb, ne_eqb}
use Rattle.std.proofs.lemmas.Grind.{flat_map-append}
use Rattle.std.proofs.lemmas.Str.{IsUtf8-from_is_utf8, is_utf8-from_IsUtf8, chars-encodes, encode_ascii, inside_one}
use Rattle.std.specs.List.{flat_map, list_any}
use Rattle.std.specs.Prelude.{chars, if◌then◌else◌}
use Rattle.std.specs.Str.{is_utf8}
use lib.Utf8.{encode, encodes}
use Rattle.pgn_json.specs.Internal.Bytes.{byte_text}
use Rattle.pgn_json.specs.Strings.{character_text, characters, escape, needs_escape}

-- a character that is not ASCII needs no escape
high_stays : (c : ℕ) → 128 ≤ c → needs_escape c ≡ false
high_stays c high = rw (le-ltb c 32 (omega arith), ne_eqb c 34 (λ e. omega arith), ne_eqb c 92 (λ e. omega arith)) refl

high_bytes : (bytes : List ℕ) → ((k : ℕ) → k < length bytes → 128 ≤ get_or bytes k 0) → flat_map byte_text bytes ≡ bytes
high_bytes [] high = refl
high_bytes (b ∷ bytes) high =
    ap₂ (λ (x y : List ℕ). x ++ y) (ap (λ e. if e then escape b else b ∷ []) (high_stays b (high 0 (omega arith)))) (high_bytes bytes (λ k below. high (suc k) (omega (arith, below))))

-- the bytes of a character are written as the character is
one_character : (c : ℕ) → flat_map byte_text (encode c) ≡ character_text c
one_character c = elim (cases_lt c 128) [
  | inl low ↦ rw (encode_ascii c low, append-nil (byte_text c)) refl
  | inr high ↦
      let within : (k : ℕ) → k < length (encode c) → 128 ≤ get_or (encode c) k 0 = λ k below. elim (cases_lt (get_or (encode c) k 0) 128) [
        | inl less ↦ absurd (omega (arith, inside_one c [] (encode c) k (sym (append-nil _)) below less))
        | inr more ↦ more
      ] in
      high_bytes (encode c) within ∙ ap (λ e. if e then escape c else encode c) (sym (high_stays c high))
]

all_characters : (cs : List ℕ) → flat_map byte_text (encodes cs) ≡ flat_map character_text cs
all_characters [] = refl
all_characters (c ∷ cs) = flat_map-append byte_text (encode c) (encodes cs) ∙ ap₂ (λ (x y : List ℕ). x ++ y) (one_character c) (all_characters cs)

-- UTF-8 is written as its characters are
pub spelled : (text : List ℕ) → IsUtf8 text → flat_map byte_text text ≡ flat_map character_text (characters text)
unfolding characters
spelled text u =
    let chosen : characters text ≡ u.0 = ap (λ b. if b then chars text else text) (is_utf8-from_IsUtf8 text u) ∙ ap chars (sym u.1.1) ∙ chars-encodes u.0 u.1.0 in
    ap (flat_map byte_text) (sym u.1.1) ∙ all_characters u.0 ∙ ap (flat_map character_text) (sym chosen)

-- and all else is Latin-1
pub latin : (text : List ℕ) → (IsUtf8 text → ⊥) → characters text ≡ text
unfolding characters
latin text not_so = ap (λ b. if b then chars text else text) (false_from_ne_true (is_utf8 text) (λ is. not_so (IsUtf8-from_is_utf8 text is)))

-- a text without an escape is written as it is
pub unescaped : (text : List ℕ) → list_any needs_escape text ≡ false → flat_map byte_text text ≡ text
unescaped [] none = refl
unescaped (b ∷ text) none =
    let parts = or_parts (needs_escape b) (list_any needs_escape text) none in
    ap₂ (λ (x y : List ℕ). x ++ y) (ap (λ e. if e then escape b else b ∷ []) parts.0) (unescaped text parts.1)
