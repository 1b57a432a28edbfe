-- The longest designator at the front of a text, from the longest men and the longest squares.
use Rattle.std.proofs.Common.{◌≡◌, ℕ, zero, suc, ◌+◌, ◌-◌, ◌<◌, ◌≤◌, ◌≢◌, Bool, true, false, cond, eqb, List, [], ◌∷◌, length, take, drop, get_or, Option, None, Some, ⊎_elim, refl, sym, ap, subst, ◌∙◌, arith, length-take-le, length-drop, get_or-take, get_or-drop}
use Rattle.std.specs.Prelude.{option_and_then}
use Rattle.std.specs.Option.{option_map, option_or}
use Rattle.std.proofs.str.Laws.{order}
use Rattle.std.specs.Prelude.{◌&&◌}
use Rattle.std.specs.Int.{is_in_range}
use Rattle.std.proofs.lemmas.Bool.{and_parts, cases_eq, eqb-true, leb-true}
use Rattle.std.proofs.lemmas.Option.{cond_some}
use Rattle.std.proofs.lemmas.List.{take-take, drop-take, take_rest}
use Rattle.cql_syntax.specs.declared.leaves.Designator.{Designator}
use Rattle.cql_lexer.specs.Designators.{group, men_of, in_brackets, squares_of, specification, specifications, rectangle, men_then_squares, designator, men_on, any_men, all_squares}
use Rattle.cql_lexer.specs.Longest.{longest}
use Rattle.cql_lexer.proofs.Longest.{Within, Nothing, some_or_none, none_some, longest_some, longest_none, longest_parts, longest_nothing}
use Rattle.cql_lexer.proofs.Groups.{Opens, opens}
use Rattle.cql_lexer.proofs.Fronts.{men_group-other, men_plain-other, squares_group-other, squares_plain}

in_range : (first last b : ℕ) → is_in_range first last b ≡ true → (first ≤ b) × (b ≤ last)
in_range first last b e = (leb-true first b (and_parts _ _ e).0, leb-true b last (and_parts _ _ e).1)

-- only fronts of one length can be men
record OnlyLength (text : List ℕ) (n : ℕ) : Type 0 where
  other : (m : ℕ) → m ≤ length text → m ≢ n → men_of (take m text) ≡ None

only_men : (text : List ℕ) → (n : ℕ) × OnlyLength text n
only_men text =
    ⊎_elim
    (λ plain. (1, record { other = λ m h e. men_plain-other text m plain h e }))
    (λ found. (length found.0 + 2, record { other = λ m h e. men_group-other text found.0 m (opens text found.0 found.1) h e }))
    (some_or_none (group text))

-- the longest men of a front
men_short : (text : List ℕ) (men n m : ℕ) → Within men_of (length text) text men n → m ≤ length text → m < n → longest men_of (take m text) ≡ None
men_short text men n m w h short =
    let only = only_men text in
    let len = length-take-le m text h in
    let is : n ≡ only.0 = ⊎_elim (λ e. e) (λ e. absurd (none_some men (sym (only.1.other n w.fits e) ∙ w.reads))) (cases_eq n only.0) in
    sym (longest_none men_of (take m text) (record { none = λ j a b. ap men_of (take-take j m text (omega arith)) ∙ only.1.other j (omega arith) (λ e. absurd (omega (arith, is, e))) }))

men_long : (text : List ℕ) (men n m : ℕ) → Within men_of (length text) text men n → m ≤ length text → n ≤ m → longest men_of (take m text) ≡ Some (men, n)
men_long text men n m w h long =
    let len = length-take-le m text h in
    sym (longest_some men_of (take m text) men n (record {
      positive = w.positive;
      fits = omega (arith, len);
      reads = ap men_of (take-take n m text long) ∙ w.reads;
      last = λ j a b. ap men_of (take-take j m text (omega arith)) ∙ w.last j a (omega arith);
    }))

men_nothing : (text : List ℕ) (m : ℕ) → Nothing men_of (length text) text → m ≤ length text → longest men_of (take m text) ≡ None
men_nothing text m w h =
    let len = length-take-le m text h in
    sym (longest_none men_of (take m text) (record { none = λ j a b. ap men_of (take-take j m text (omega arith)) ∙ w.none j a (omega arith) }))

-- a front that is men and squares
join_none : (t : List ℕ) → longest men_of t ≡ None → men_then_squares t ≡ None
join_none t e = ap (option_and_then (λ men. option_map (men_on men.0) (squares_of (drop men.1 t)))) e

join_some : (t : List ℕ) (men n : ℕ) → longest men_of t ≡ Some (men, n) → men_then_squares t ≡ option_map (men_on men) (squares_of (drop n t))
join_some t men n e = ap (option_and_then (λ men. option_map (men_on men.0) (squares_of (drop men.1 t)))) e

-- a whole text that is no designator, and those that are
none_of_three : (t : List ℕ) → men_then_squares t ≡ None → squares_of t ≡ None → men_of t ≡ None → designator t ≡ None
unfolding designator
none_of_three t a b c =
    ap (λ o. option_or o (option_or (option_map (men_on any_men) (squares_of t)) (option_map (λ men. men_on men all_squares) (men_of t)))) a
    ∙ ap (λ o. option_or (option_map (men_on any_men) o) (option_map (λ men. men_on men all_squares) (men_of t))) b
    ∙ ap (option_map (λ men. men_on men all_squares)) c

first_of_three : (t : List ℕ) (d : Designator) → men_then_squares t ≡ Some d → designator t ≡ Some d
unfolding designator
first_of_three t d a = ap (λ o. option_or o (option_or (option_map (men_on any_men) (squares_of t)) (option_map (λ men. men_on men all_squares) (men_of t)))) a

second_of_three : (t : List ℕ) (squares : ℕ) → men_then_squares t ≡ None → squares_of t ≡ Some squares → designator t ≡ Some (men_on any_men squares)
unfolding designator
second_of_three t squares a b =
    ap (λ o. option_or o (option_or (option_map (men_on any_men) (squares_of t)) (option_map (λ men. men_on men all_squares) (men_of t)))) a
    ∙ ap (λ o. option_or (option_map (men_on any_men) o) (option_map (λ men. men_on men all_squares) (men_of t))) b

third_of_three : (t : List ℕ) (men : ℕ) → men_then_squares t ≡ None → squares_of t ≡ None → men_of t ≡ Some men → designator t ≡ Some (men_on men all_squares)
unfolding designator
third_of_three t men a b c =
    ap (λ o. option_or o (option_or (option_map (men_on any_men) (squares_of t)) (option_map (λ men. men_on men all_squares) (men_of t)))) a
    ∙ ap (λ o. option_or (option_map (men_on any_men) o) (option_map (λ men. men_on men all_squares) (men_of t))) b
    ∙ ap (option_map (λ men. men_on men all_squares)) c

-- a specification begins with the letter of a file, and its second byte is a digit or `-`
record Begins (t : List ℕ) : Type 0 where
  high : 97 ≤ get_or t 0 0
  low : get_or t 1 0 ≤ 56

rectangle_parts : (file last_file rank last_rank s : ℕ) → rectangle file last_file rank last_rank ≡ Some s → (97 ≤ file) × (rank ≤ 56)
rectangle_parts file last_file rank last_rank s e =
    let test = (cond_some _ _ _ e).0 in
    let three = (and_parts _ _ test).0 in
    let two = (and_parts _ _ three).0 in
    ((in_range 97 104 file (and_parts _ _ two).0).0, (in_range 49 56 rank (and_parts _ _ three).1).1)

begins_four : (a b c d s : ℕ) (e f : Bool) → (e ≡ true → b ≡ 45) → cond e (rectangle a c d d) (cond f (rectangle a a b d) None) ≡ Some s → Begins (a ∷ b ∷ c ∷ d ∷ [])
begins_four a b c d s true f is e = let parts = rectangle_parts a c d d s e in record { high = parts.0; low = omega (arith, is refl) }
begins_four a b c d s false true is e = let parts = rectangle_parts a a b d s e in record { high = parts.0; low = parts.1 }
begins_four a b c d s false false is e = absurd (none_some s e)

begins_six : (a b c d f g s : ℕ) (e : Bool) → (e ≡ true → b ≡ 45) → cond e (rectangle a c d g) None ≡ Some s → Begins (a ∷ b ∷ c ∷ d ∷ f ∷ g ∷ [])
begins_six a b c d f g s true is e = let parts = rectangle_parts a c d g s e in record { high = parts.0; low = omega (arith, is refl) }
begins_six a b c d f g s false is e = absurd (none_some s e)

specification_begins : (t : List ℕ) (s : ℕ) → specification t ≡ Some s → Begins t
specification_begins [] s e = absurd (none_some s e)
specification_begins (a ∷ []) s e = absurd (none_some s e)
specification_begins (a ∷ b ∷ []) s e = let parts = rectangle_parts a a b b s e in record { high = parts.0; low = parts.1 }
specification_begins (a ∷ b ∷ c ∷ []) s e = absurd (none_some s e)
specification_begins (a ∷ b ∷ c ∷ d ∷ []) s e = begins_four a b c d s (eqb b 45) (eqb c 45) (eqb-true b 45) e
specification_begins (a ∷ b ∷ c ∷ d ∷ f ∷ []) s e = absurd (none_some s e)
specification_begins (a ∷ b ∷ c ∷ d ∷ f ∷ g ∷ []) s e = begins_six a b c d f g s (eqb b 45 && eqb f 45) (λ h. eqb-true b 45 (and_parts _ _ h).0) e
specification_begins (a ∷ b ∷ c ∷ d ∷ f ∷ g ∷ h ∷ t) s e = absurd (none_some s e)

and_then_some : (o : Option (List ℕ)) (f : List ℕ → Option ℕ) (s : ℕ) → option_and_then f o ≡ Some s → (x : List ℕ) × (o ≡ Some x)
and_then_some None f s e = absurd (none_some s e)
and_then_some (Some x) f s e = (x, refl)

in_group : (o : Option (List ℕ)) (n : ℕ) (x : List ℕ) → option_and_then (λ inside. cond (eqb (length inside + 2) n) (Some inside) None) o ≡ Some x → (y : List ℕ) × (o ≡ Some y)
in_group None n x e = absurd (cc)
in_group (Some y) n x e = (y, refl)

-- squares begin with the letter of a file or with `[`
first_high : (t : List ℕ) (s : ℕ) → squares_of t ≡ Some s → 91 ≤ get_or t 0 0
first_high t s e =
    ⊎_elim
    (λ none.
    let inside = and_then_some _ _ s (sym (ap (λ o. option_or o (option_and_then specifications (in_brackets t))) none) ∙ e) in
    let found = in_group _ _ _ inside.1 in
    let is = ap (λ l. get_or l 0 0) (opens t found.0 found.1).is in
    omega (arith, is))
    (λ some. let begins = specification_begins t some.0 some.1 in omega (arith, begins.high))
    (some_or_none (specification t))

-- the length of the men, by the front of the text
men_plain_len : (text : List ℕ) (men n : ℕ) → group text ≡ None → Within men_of (length text) text men n → n ≡ 1
men_plain_len text men n plain w = ⊎_elim (λ e. e) (λ e. absurd (none_some men (sym (men_plain-other text n plain w.fits e) ∙ w.reads))) (cases_eq n 1)

men_group_len : (text inside : List ℕ) (men n : ℕ) → Opens text inside → Within men_of (length text) text men n → n ≡ length inside + 2
men_group_len text inside men n o w = ⊎_elim (λ e. e) (λ e. absurd (none_some men (sym (men_group-other text inside n o w.fits e) ∙ w.reads))) (cases_eq n (length inside + 2))

squares_group_len : (text inside : List ℕ) (squares k : ℕ) → Opens text inside → Within squares_of (length text) text squares k → k ≡ length inside + 2
squares_group_len text inside squares k o w = ⊎_elim (λ e. e) (λ e. absurd (none_some squares (sym (squares_group-other text inside k o w.fits e) ∙ w.reads))) (cases_eq k (length inside + 2))

not_both : (text : List ℕ) (squares k m s : ℕ) → Within squares_of (length (drop 1 text)) (drop 1 text) squares k → 1 < m → specification (take m text) ≡ Some s → ⊥
not_both text squares k m s v above e =
    let begins = specification_begins (take m text) s e in
    let high = first_high (take k (drop 1 text)) squares v.reads in
    let one = get_or-take m text 1 0 above in
    let other = get_or-take k (drop 1 text) 0 0 v.positive ∙ get_or-drop 1 text 0 0 in
    absurd (omega (arith, begins.low, high, one, other))

-- no squares are longer than the men if squares follow the men
no_squares : (text : List ℕ) (men n squares k m : ℕ) → Within men_of (length text) text men n
    → Within squares_of (length (drop n text)) (drop n text) squares k → n < m → m ≤ length text → squares_of (take m text) ≡ None
no_squares text men n squares k m w v above h =
    ⊎_elim
    (λ plain.
    let one = men_plain_len text men n plain w in
    squares_plain text m plain
    ∙ ⊎_elim (λ none. none) (λ some. absurd (not_both text squares k m some.0
    (subst (λ j. Within squares_of (length (drop j text)) (drop j text) squares k) one v) (omega arith) some.1)) (some_or_none (specification (take m text))))
    (λ found.
    let o = opens text found.0 found.1 in
    let len = men_group_len text found.0 men n o w in
    squares_group-other text found.0 m o h (λ same. absurd (omega arith)))
    (some_or_none (group text))

-- the squares are no shorter than the men if there are both
not_shorter : (text : List ℕ) (men n squares k : ℕ) → Within men_of (length text) text men n → Within squares_of (length text) text squares k → n ≤ k
not_shorter text men n squares k w v =
    ⊎_elim
    (λ plain. omega (arith, men_plain_len text men n plain w, v.positive))
    (λ found. let o = opens text found.0 found.1 in omega (arith, men_group_len text found.0 men n o w, squares_group_len text found.0 squares k o v))
    (some_or_none (group text))

squares_behind : (text : List ℕ) (m : ℕ) → Nothing squares_of (length text) text → m ≤ length text → squares_of (take m text) ≡ None
squares_behind text zero v h = refl
squares_behind text (suc m) v h = v.none (suc m) (omega arith) h

-- the squares after the men in a front
behind : (text : List ℕ) (men n m : ℕ) → Within men_of (length text) text men n → m ≤ length text → n ≤ m
    → men_then_squares (take m text) ≡ option_map (men_on men) (squares_of (take (m - n) (drop n text)))
behind text men n m w h long =
    join_some (take m text) men n (men_long text men n m w h long)
    ∙ ap (λ t. option_map (men_on men) (squares_of t)) (let e : m ≡ n + (m - n) = omega arith in ap (λ j. drop n (take j text)) e ∙ drop-take n (m - n) text)

-- no front is men and squares, where no squares follow the men
join_nothing : (text : List ℕ) (men n m : ℕ) → Within men_of (length text) text men n → Nothing squares_of (length (drop n text)) (drop n text)
    → m ≤ length text → men_then_squares (take m text) ≡ None
join_nothing text men n m w v h =
    ⊎_elim
    (λ short. join_none (take m text) (men_short text men n m w h short))
    (λ long. behind text men n m w h long ∙ ap (option_map (men_on men)) (squares_behind (drop n text) (m - n) v (omega (arith, length-drop n text))))
    (order m n)

-- men and squares
pub men_and_squares : (text : List ℕ) (men n squares k : ℕ) → Some (men, n) ≡ longest men_of text
    → Some (squares, k) ≡ longest squares_of (take (length text - n) (drop n text)) → Some (men_on men squares, n + k) ≡ longest designator text
men_and_squares text men n squares k e f =
    let w = longest_parts men_of text men n (sym e) in
    let v = longest_parts squares_of (drop n text) squares k (sym (ap (longest squares_of) (take_rest text n)) ∙ sym f) in
    let rest = length-drop n text in
    longest_some designator text (men_on men squares) (n + k) (record {
      positive = omega (arith, v.positive);
      fits = omega (arith, v.fits, w.fits);
      reads = first_of_three _ _ (behind text men n (n + k) w (omega (arith, v.fits, w.fits)) (omega arith)
          ∙ (let same : n + k - n ≡ k = omega arith in ap (λ j. option_map (men_on men) (squares_of (take j (drop n text)))) same)
          ∙ ap (option_map (men_on men)) v.reads);
      last = λ m a b. none_of_three _
          (behind text men n m w b (omega arith) ∙ ap (option_map (men_on men)) (v.last (m - n) (omega arith) (omega arith)))
          (no_squares text men n squares k m w v (omega (arith, v.positive)) b)
          (w.last m (omega (arith, v.positive)) b);
    })

-- squares, where there are men, but no squares after them
pub squares_beside_men : (text : List ℕ) (men n squares k : ℕ) → Some (men, n) ≡ longest men_of text
    → None ≡ longest squares_of (take (length text - n) (drop n text)) → Some (squares, k) ≡ longest squares_of text
    → Some (men_on any_men squares, k) ≡ longest designator text
squares_beside_men text men n squares k e f g =
    let w = longest_parts men_of text men n (sym e) in
    let u = longest_nothing squares_of (drop n text) (sym (ap (longest squares_of) (take_rest text n)) ∙ sym f) in
    let v = longest_parts squares_of text squares k (sym g) in
    let le = not_shorter text men n squares k w v in
    longest_some designator text (men_on any_men squares) k (record {
      positive = v.positive;
      fits = v.fits;
      reads = second_of_three _ _ (join_nothing text men n k w u v.fits) v.reads;
      last = λ m a b. none_of_three _ (join_nothing text men n m w u b) (v.last m a b) (w.last m (omega arith) b);
    })

-- men alone
pub men_alone : (text : List ℕ) (men n : ℕ) → Some (men, n) ≡ longest men_of text → None ≡ longest squares_of (take (length text - n) (drop n text))
    → None ≡ longest squares_of text → Some (men_on men all_squares, n) ≡ longest designator text
men_alone text men n e f g =
    let w = longest_parts men_of text men n (sym e) in
    let u = longest_nothing squares_of (drop n text) (sym (ap (longest squares_of) (take_rest text n)) ∙ sym f) in
    let v = longest_nothing squares_of text (sym g) in
    longest_some designator text (men_on men all_squares) n (record {
      positive = w.positive;
      fits = w.fits;
      reads = third_of_three _ _ (join_nothing text men n n w u w.fits) (v.none n w.positive w.fits) w.reads;
      last = λ m a b. none_of_three _ (join_nothing text men n m w u b) (v.none m (omega arith) b) (w.last m a b);
    })

-- squares alone
pub squares_alone : (text : List ℕ) (squares k : ℕ) → None ≡ longest men_of text → Some (squares, k) ≡ longest squares_of text → Some (men_on any_men squares, k) ≡ longest designator text
squares_alone text squares k e f =
    let u = longest_nothing men_of text (sym e) in
    let v = longest_parts squares_of text squares k (sym f) in
    longest_some designator text (men_on any_men squares) k (record {
      positive = v.positive;
      fits = v.fits;
      reads = second_of_three _ _ (join_none _ (men_nothing text k u v.fits)) v.reads;
      last = λ m a b. none_of_three _ (join_none _ (men_nothing text m u b)) (v.last m a b) (u.none m (omega arith) b);
    })

-- neither
pub no_designator : (text : List ℕ) → None ≡ longest men_of text → None ≡ longest squares_of text → None ≡ longest designator text
no_designator text e f =
    let u = longest_nothing men_of text (sym e) in
    let v = longest_nothing squares_of text (sym f) in
    longest_none designator text (record { none = λ m a b. none_of_three _ (join_none _ (men_nothing text m u b)) (v.none m a b) (u.none m a b) })

-- men and squares fit in the text
pub men_front : (text : List ℕ) (men n : ℕ) → Some (men, n) ≡ longest men_of text → (0 < n) × (n ≤ length text)
men_front text men n e = let w = longest_parts men_of text men n (sym e) in (w.positive, w.fits)

pub squares_front : (text : List ℕ) (squares k : ℕ) → Some (squares, k) ≡ longest squares_of text → (0 < k) × (k ≤ length text)
squares_front text squares k e = let w = longest_parts squares_of text squares k (sym e) in (w.positive, w.fits)

-- an option without a value is none
pub none_from : {X : Type 0} (o : Option X) → ((x : X) → o ≡ Some x → ⊥) → None ≡ o
none_from None h = refl
none_from (Some x) h = absurd (h x refl)
