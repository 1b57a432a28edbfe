-- A group in brackets at the front of a text, and in the fronts of the text.
use Rattle.std.proofs.Common.{◌≡◌, ℕ, zero, suc, ◌+◌, ◌<◌, ◌≤◌, ◌≢◌, Bool, true, false, cond, eqb, ltb, min, List, [], ◌∷◌, length, take, Option, None, Some, ⊎_elim, refl, sym, ap, ◌∙◌, arith, length-take, length-take-le}
use Rattle.std.specs.Prelude.{not, option_and_then}
use Rattle.std.proofs.str.Laws.{order}
use Rattle.std.specs.Option.{option_map}
use Rattle.std.specs.List.{position, position_or_len}
use Rattle.std.proofs.lemmas.List.{take-take}
use Rattle.std.proofs.lemmas.Bool.{ltb-true, ltb-false, lt-ltb, le-ltb, eqb-true, eq-eqb, ne_eqb, cond-true, cond-false}
use Rattle.std.proofs.lemmas.Option.{cond_some, same_Some}
use Rattle.std.proofs.lemmas.List.Quantifiers.{position-Some}
use Rattle.cql_lexer.specs.Characters.{is_closing_bracket}
use Rattle.cql_lexer.specs.Designators.{group, in_brackets}

shorter : (b : Bool) (k m n : ℕ) → m ≡ min k n → cond (not b) (1 + m) 0 ≡ min (suc k) (cond (not b) (1 + n) 0)
shorter true k m n e = omega arith
shorter false k m n e = omega arith

cond_none : {X : Type 0} (b : Bool) (x : X) → cond b (Some x) None ≡ None → b ≡ false
cond_none true x e = absurd (cc)
cond_none false x e = refl

no_place : (test : ℕ → Bool) (text : List ℕ) → length text ≤ position_or_len test text → position test text ≡ None
no_place test text h = cond-false _ _ _ (le-ltb _ _ h)

some_place : (test : ℕ → Bool) (text : List ℕ) (end : ℕ) → position_or_len test text ≡ end → end < length text → position test text ≡ Some end
some_place test text end e h =
    let inside : position_or_len test text < length text = omega arith in
    cond-true (ltb (position_or_len test text) (length text)) (Some (position_or_len test text)) None (lt-ltb _ _ inside) ∙ ap (λ k. Some k) e

-- the first place that passes, in a front
position_or_len-take : (test : ℕ → Bool) (k : ℕ) (text : List ℕ) → position_or_len test (take k text) ≡ min k (position_or_len test text)
position_or_len-take test zero text = omega arith
position_or_len-take test (suc k) [] = omega arith
position_or_len-take test (suc k) (b ∷ text) = shorter (test b) k _ _ (position_or_len-take test k text)

pub position-take_some : (test : ℕ → Bool) (k : ℕ) (text : List ℕ) (end : ℕ) → position test text ≡ Some end → end < k → position test (take k text) ≡ Some end
position-take_some test k text end found before =
    let here = cond_some _ _ _ found in
    let p = position_or_len-take test k text in
    some_place test (take k text) end (omega (arith, here.1)) (omega (arith, length-take k text, ltb-true _ _ here.0, here.1))

pub position-take_short : (test : ℕ → Bool) (k : ℕ) (text : List ℕ) (end : ℕ) → position test text ≡ Some end → k ≤ end → position test (take k text) ≡ None
position-take_short test k text end found before =
    let here = cond_some _ _ _ found in
    let p = position_or_len-take test k text in
    no_place test (take k text) (omega (arith, length-take k text, ltb-true _ _ here.0, here.1))

pub position-take_none : (test : ℕ → Bool) (k : ℕ) (text : List ℕ) → position test text ≡ None → position test (take k text) ≡ None
position-take_none test k text none =
    let here = cond_none _ _ none in
    let p = position_or_len-take test k text in
    no_place test (take k text) (omega (arith, length-take k text, ltb-false _ _ here))

-- a text is `[`, and then this before the first `]`
pub record Opens (text inside : List ℕ) : Type 0 where
  pub rest : List ℕ
  pub end : ℕ
  pub is : text ≡ 91 ∷ rest
  pub closes : position is_closing_bracket rest ≡ Some end
  pub inside_is : take end rest ≡ inside

mapped : (o : Option ℕ) (f : ℕ → List ℕ) (x : List ℕ) → option_map f o ≡ Some x → (k : ℕ) × (o ≡ Some k) × (f k ≡ x)
mapped None f x e = absurd (cc)
mapped (Some k) f x e = (k, refl, same_Some _ _ e)

opened : (c : Bool) (b : ℕ) (rest inside : List ℕ) → (c ≡ true → b ≡ 91) → cond c (option_map (λ end. take end rest) (position is_closing_bracket rest)) None ≡ Some inside → Opens (b ∷ rest) inside
opened false b rest inside h e = absurd (cc)
opened true b rest inside h e =
    let found = mapped _ _ _ e in
    record { rest = rest; end = found.0; is = ap (λ x. x ∷ rest) (h refl); closes = found.1; inside_is = found.2 }

pub opens : (text inside : List ℕ) → group text ≡ Some inside → Opens text inside
opens [] inside e = absurd (cc)
opens (b ∷ rest) inside e = opened (eqb b 91) b rest inside (eqb-true b 91) e

-- the group's bytes fit in the text
pub group_fits : (text inside : List ℕ) → Opens text inside → length inside + 2 ≤ length text
group_fits text inside o =
    let place = position-Some is_closing_bracket o.rest o.end 0 o.closes in
    omega (arith, ap length o.is, ap length (sym o.inside_is), length-take-le o.end o.rest (omega (arith, place.0)), place.0)

-- the group in fronts of the text: those that have its last byte have the group
group_front : (text inside : List ℕ) (m : ℕ) → Opens text inside → length inside + 2 ≤ m → group (take m text) ≡ Some inside
group_front text inside zero o h = absurd (omega arith)
group_front text inside (suc k) o h =
    let place = position-Some is_closing_bracket o.rest o.end 0 o.closes in
    let len = length-take-le o.end o.rest (omega (arith, place.0)) in
    let before : o.end < k = omega (arith, len, ap length o.inside_is) in
    ap (λ t. group (take (suc k) t)) o.is
    ∙ ap (option_map (λ end. take end (take k o.rest))) (position-take_some is_closing_bracket k o.rest o.end o.closes before)
    ∙ ap (λ x. Some x) (take-take o.end k o.rest (omega arith) ∙ o.inside_is)

group_short : (text inside : List ℕ) (m : ℕ) → Opens text inside → m < length inside + 2 → group (take m text) ≡ None
group_short text inside zero o h = refl
group_short text inside (suc k) o h =
    let place = position-Some is_closing_bracket o.rest o.end 0 o.closes in
    let len = length-take-le o.end o.rest (omega (arith, place.0)) in
    let before : k ≤ o.end = omega (arith, len, ap length o.inside_is) in
    ap (λ t. group (take (suc k) t)) o.is
    ∙ ap (option_map (λ end. take end (take k o.rest))) (position-take_short is_closing_bracket k o.rest o.end o.closes before)

map_none : (o : Option ℕ) (f : ℕ → List ℕ) → option_map f o ≡ None → o ≡ None
map_none None f e = refl
map_none (Some k) f e = absurd (cc)

still_none : (c : Bool) (rest : List ℕ) (k : ℕ) → cond c (option_map (λ end. take end rest) (position is_closing_bracket rest)) None ≡ None
    → cond c (option_map (λ end. take end (take k rest)) (position is_closing_bracket (take k rest))) None ≡ None
still_none false rest k e = refl
still_none true rest k e = ap (option_map (λ end. take end (take k rest))) (position-take_none is_closing_bracket k rest (map_none _ _ e))

group_none : (text : List ℕ) (m : ℕ) → group text ≡ None → group (take m text) ≡ None
group_none text zero e = refl
group_none [] (suc k) e = refl
group_none (b ∷ rest) (suc k) e = still_none (eqb b 91) rest k e

-- the bytes between the brackets of a front
pub in_brackets-whole : (text inside : List ℕ) → Opens text inside → in_brackets (take (length inside + 2) text) ≡ Some inside
in_brackets-whole text inside o =
    let fits = group_fits text inside o in
    let len = length-take-le (length inside + 2) text fits in
    ap (option_and_then (λ i. cond (eqb (length i + 2) (length (take (length inside + 2) text))) (Some i) None)) (group_front text inside (length inside + 2) o (omega arith))
    ∙ cond-true (eqb (length inside + 2) (length (take (length inside + 2) text))) (Some inside) None (eq-eqb _ _ (sym len))

pub in_brackets-other : (text inside : List ℕ) (m : ℕ) → Opens text inside → m ≤ length text → m ≢ length inside + 2 → in_brackets (take m text) ≡ None
in_brackets-other text inside m o h other =
    let len = length-take-le m text h in
    ⊎_elim
    (λ short. ap (option_and_then (λ i. cond (eqb (length i + 2) (length (take m text))) (Some i) None)) (group_short text inside m o short))
    (λ long. ap (option_and_then (λ i. cond (eqb (length i + 2) (length (take m text))) (Some i) None)) (group_front text inside m o long)
    ∙ cond-false (eqb (length inside + 2) (length (take m text))) (Some inside) None (ne_eqb _ _ (λ same. other (sym (same ∙ len)))))
    (order m (length inside + 2))

pub in_brackets-none : (text : List ℕ) (m : ℕ) → group text ≡ None → in_brackets (take m text) ≡ None
in_brackets-none text m e = ap (option_and_then (λ i. cond (eqb (length i + 2) (length (take m text))) (Some i) None)) (group_none text m e)
