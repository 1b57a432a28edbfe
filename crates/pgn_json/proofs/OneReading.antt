-- A text spells one string.
use Rattle.std.proofs.Common.{◌≡◌, ℕ, ◌+◌, ◌<◌, ◌≤◌, true, false, List, [], ◌∷◌, ◌++◌, get_or, drop, Some, None, refl, ap, ap₂, ◌∙◌, sym, arith, append_assoc, ⊎_elim, ◌*◌, ◌-◌}
use Rattle.std.proofs.lemmas.Option.{same_Some}
use Rattle.std.specs.Char.{IsScalar, digit_value}
use lib.Utf8.{scalar_cases}
use Rattle.pgn_json.specs.Grammar.{is_unescaped, letter_meaning, IsCodeUnit, Spells, unescaped, by_letter, by_code_unit, by_surrogates, SpellsAll, IsString}

-- a text that does not begin with a backslash is no escape
no_backslash : (c : ℕ) (r s : List ℕ) → is_unescaped c ≡ true → c ∷ r ≡ 92 ∷ s → ⊥
no_backslash c r s plain same = let e : false ≡ true = sym (ap is_unescaped (ap (λ l. get_or l 0 0) same)) ∙ plain in cc

no_number : (c letter : ℕ) (r s : List ℕ) → letter_meaning letter ≡ Some c → 92 ∷ letter ∷ r ≡ 92 ∷ 117 ∷ s → ⊥
no_number c letter r s means same = let e : None ≡ Some c = sym (ap letter_meaning (ap (λ l. get_or l 1 0) same)) ∙ means in cc

one_number : (n m : ℕ) (t u r s : List ℕ) → IsCodeUnit n t → IsCodeUnit m u → t ++ r ≡ u ++ s → (n ≡ m) × (r ≡ s)
one_number n m t u r s a b same =
    let h = sym (ap (λ l. l ++ r) a.written) ∙ same ∙ ap (λ l. l ++ s) b.written in
    let digit = λ (i : ℕ). ap (λ l. digit_value (get_or l i 0)) h in
    (omega (arith, a.number, b.number, digit 2, digit 3, digit 4, digit 5), ap (drop 6) h)

no_surrogate : (c : ℕ) → IsScalar c → 55296 ≤ c → c < 57344 → ⊥
no_surrogate c is low high = ⊎_elim (λ h. absurd (omega (arith, h, low))) (λ h. absurd (omega (arith, h.0, high))) (scalar_cases c is)

pub one_spelling : (c d : ℕ) (f g r s : List ℕ) → Spells c f → Spells d g → f ++ r ≡ g ++ s → (c ≡ d) × (r ≡ s)
one_spelling c d f g r s (unescaped p e) (unescaped q k) same =
    let h = sym (ap (λ l. l ++ r) e) ∙ same ∙ ap (λ l. l ++ s) k in (ap (λ l. get_or l 0 0) h, ap (drop 1) h)
one_spelling c d f g r s (unescaped p e) (by_letter letter q k) same = absurd (no_backslash c r _ p (sym (ap (λ l. l ++ r) e) ∙ same ∙ ap (λ l. l ++ s) k))
one_spelling c d f g r s (unescaped p e) (by_code_unit n q) same = absurd (no_backslash c r _ p (sym (ap (λ l. l ++ r) e) ∙ same ∙ ap (λ l. l ++ s) n.written))
one_spelling c d f g r s (unescaped p e) (by_surrogates high low front back n m i j q k) same =
    absurd (no_backslash c r _ p (sym (ap (λ l. l ++ r) e) ∙ same ∙ ap (λ l. l ++ s) (k ∙ ap (λ l. l ++ back) n.written)))
one_spelling c d f g r s (by_letter letter q k) (unescaped p e) same = absurd (no_backslash d s _ p (sym (ap (λ l. l ++ s) e) ∙ sym same ∙ ap (λ l. l ++ r) k))
one_spelling c d f g r s (by_letter letter p e) (by_letter other q k) same =
    let h = sym (ap (λ l. l ++ r) e) ∙ same ∙ ap (λ l. l ++ s) k in
    (same_Some c d (sym p ∙ ap letter_meaning (ap (λ l. get_or l 1 0) h) ∙ q), ap (drop 2) h)
one_spelling c d f g r s (by_letter letter p e) (by_code_unit n q) same = absurd (no_number c letter r _ p (sym (ap (λ l. l ++ r) e) ∙ same ∙ ap (λ l. l ++ s) n.written))
one_spelling c d f g r s (by_letter letter p e) (by_surrogates high low front back n m i j q k) same =
    absurd (no_number c letter r _ p (sym (ap (λ l. l ++ r) e) ∙ same ∙ ap (λ l. l ++ s) (k ∙ ap (λ l. l ++ back) n.written)))
one_spelling c d f g r s (by_code_unit n q) (unescaped p e) same = absurd (no_backslash d s _ p (sym (ap (λ l. l ++ s) e) ∙ sym same ∙ ap (λ l. l ++ r) n.written))
one_spelling c d f g r s (by_code_unit n q) (by_letter letter p e) same = absurd (no_number d letter s _ p (sym (ap (λ l. l ++ s) e) ∙ sym same ∙ ap (λ l. l ++ r) n.written))
one_spelling c d f g r s (by_code_unit n p) (by_code_unit m q) same = one_number c d f g r s n m same
one_spelling c d f g r s (by_code_unit n p) (by_surrogates high low front back a b i j q k) same =
    let is = one_number c high f front r (back ++ s) n a (same ∙ ap (λ l. l ++ s) k ∙ append_assoc front back s) in
    absurd (no_surrogate c p (omega (arith, is.0, i.0)) (omega (arith, is.0, i.1)))
one_spelling c d f g r s (by_surrogates high low front back n m i j q k) (unescaped p e) same =
    absurd (no_backslash d s _ p (sym (ap (λ l. l ++ s) e) ∙ sym same ∙ ap (λ l. l ++ r) (k ∙ ap (λ l. l ++ back) n.written)))
one_spelling c d f g r s (by_surrogates high low front back n m i j q k) (by_letter letter p e) same =
    absurd (no_number d letter s _ p (sym (ap (λ l. l ++ s) e) ∙ sym same ∙ ap (λ l. l ++ r) (k ∙ ap (λ l. l ++ back) n.written)))
one_spelling c d f g r s (by_surrogates high low front back a b i j q k) (by_code_unit n p) same =
    let is = one_number d high g front s (back ++ r) n a (sym same ∙ ap (λ l. l ++ r) k ∙ append_assoc front back r) in
    absurd (no_surrogate d p (omega (arith, is.0, i.0)) (omega (arith, is.0, i.1)))
one_spelling c d f g r s (by_surrogates high low front back a b i j q k) (by_surrogates high' low' front' back' a' b' i' j' q' k') same =
    let whole = sym (ap (λ l. l ++ r) k ∙ append_assoc front back r) ∙ same ∙ (ap (λ l. l ++ s) k' ∙ append_assoc front' back' s) in
    let one = one_number high high' front front' (back ++ r) (back' ++ s) a a' whole in
    let two = one_number low low' back back' r s b b' one.1 in
    (q ∙ ap₂ (λ x y. 65536 + 1024 * (x - 55296) + (y - 56320)) one.0 two.0 ∙ sym q', two.1)

-- no spelling begins with a quote
no_quote : (c : ℕ) (f r s : List ℕ) → Spells c f → f ++ r ≡ 34 ∷ s → ⊥
no_quote c f r s (unescaped p e) same =
    let first = ap (λ l. get_or l 0 0) (sym (ap (λ l. l ++ r) e) ∙ same) in let e : false ≡ true = sym (ap is_unescaped first) ∙ p in cc
no_quote c f r s (by_letter letter p e) same = absurd (omega (arith, ap (λ l. get_or l 0 0) (sym (ap (λ l. l ++ r) e) ∙ same)))
no_quote c f r s (by_code_unit n p) same = absurd (omega (arith, ap (λ l. get_or l 0 0) (sym (ap (λ l. l ++ r) n.written) ∙ same)))
no_quote c f r s (by_surrogates high low front back n m i j q e) same =
    absurd (omega (arith, ap (λ l. get_or l 0 0) (sym (ap (λ l. l ++ r) (e ∙ ap (λ l. l ++ back) n.written)) ∙ same)))

all_spellings : (cs ds f g r s : List ℕ) → SpellsAll cs f → SpellsAll ds g → f ++ 34 ∷ r ≡ g ++ 34 ∷ s → (cs ≡ ds) × (r ≡ s)
all_spellings [] [] f g r s a b same = (refl, ap (drop 1) (sym (ap (λ l. l ++ 34 ∷ r) a) ∙ same ∙ ap (λ l. l ++ 34 ∷ s) b))
all_spellings [] (d ∷ ds) f g r s a b same =
    absurd (no_quote d b.0 (b.1 ++ 34 ∷ s) r b.3
    (sym (ap (λ l. l ++ 34 ∷ s) b.2 ∙ append_assoc b.0 b.1 (34 ∷ s)) ∙ sym same ∙ ap (λ l. l ++ 34 ∷ r) a))
all_spellings (c ∷ cs) [] f g r s a b same =
    absurd (no_quote c a.0 (a.1 ++ 34 ∷ r) s a.3
    (sym (ap (λ l. l ++ 34 ∷ r) a.2 ∙ append_assoc a.0 a.1 (34 ∷ r)) ∙ same ∙ ap (λ l. l ++ 34 ∷ s) b))
all_spellings (c ∷ cs) (d ∷ ds) f g r s a b same =
    let front = ap (λ l. l ++ 34 ∷ r) a.2 ∙ append_assoc a.0 a.1 (34 ∷ r) in
    let other = ap (λ l. l ++ 34 ∷ s) b.2 ∙ append_assoc b.0 b.1 (34 ∷ s) in
    let one = one_spelling c d a.0 b.0 (a.1 ++ 34 ∷ r) (b.1 ++ 34 ∷ s) a.3 b.3 (sym front ∙ same ∙ other) in
    let more = all_spellings cs ds a.1 b.1 r s a.4 b.4 one.1 in
    (ap₂ (λ x (xs : List ℕ). x ∷ xs) one.0 more.0, more.1)

-- a string ends at its first quote that is not escaped
pub one_string : (cs ds f g r s : List ℕ) → IsString cs f → IsString ds g → f ++ r ≡ g ++ s → (cs ≡ ds) × (r ≡ s)
one_string cs ds f g r s a b same =
    let front : f ++ r ≡ 34 ∷ (a.inside ++ 34 ∷ r) = ap (λ l. l ++ r) a.between ∙ ap (λ l. 34 ∷ l) (append_assoc a.inside (34 ∷ []) r) in
    let other : g ++ s ≡ 34 ∷ (b.inside ++ 34 ∷ s) = ap (λ l. l ++ s) b.between ∙ ap (λ l. 34 ∷ l) (append_assoc b.inside (34 ∷ []) s) in
    all_spellings cs ds a.inside b.inside r s a.spelled b.spelled (ap (drop 1) (sym front ∙ same ∙ other))
