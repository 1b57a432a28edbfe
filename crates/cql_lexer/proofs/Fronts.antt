-- The longest men and the longest squares at the front of a text.
use Rattle.std.proofs.Common.{◌≡◌, ◌⊎◌, ℕ, zero, suc, ◌+◌, ◌<◌, ◌≤◌, ◌≢◌, Bool, true, false, cond, leb, List, [], ◌∷◌, length, take, get_or, Option, None, Some, inl, inr, ⊎_elim, refl, sym, ap, ◌∙◌, arith, length-take-le}
use Rattle.std.specs.Prelude.{option_and_then}
use Rattle.std.specs.Option.{option_map, option_or}
use Rattle.std.proofs.lemmas.Bool.{cases_eq}
use Rattle.cql_lexer.specs.Designators.{group, in_brackets, men_of, men_of_letter, men_of_letters, specification, specifications, squares_of, rectangle}
use Rattle.cql_lexer.specs.Longest.{front, longest}
use Rattle.cql_lexer.proofs.Longest.{some_or_none, longest_some, longest_none, longest_of_three}
use Rattle.cql_lexer.proofs.Groups.{Opens, opens, group_fits, in_brackets-whole, in_brackets-other, in_brackets-none}

-- men alone
men_one : (t : List ℕ) → length t ≡ 1 → men_of t ≡ men_of_letter (get_or t 0 0)
men_one [] e = absurd (omega arith)
men_one (a ∷ []) e = refl
men_one (a ∷ b ∷ t) e = absurd (omega arith)

men_other : (t : List ℕ) → length t ≢ 1 → men_of t ≡ option_and_then men_of_letters (in_brackets t)
men_other [] e = refl
men_other (a ∷ []) e = absurd (e refl)
men_other (a ∷ b ∷ t) e = refl

pub men_group-other : (text inside : List ℕ) (m : ℕ) → Opens text inside → m ≤ length text → m ≢ length inside + 2 → men_of (take m text) ≡ None
men_group-other text inside m o h other =
    ⊎_elim
    (λ one. ap (λ j. men_of (take j text)) one ∙ ap (λ t. men_of (take 1 t)) o.is)
    (λ more. men_other (take m text) (λ e. more (sym (length-take-le m text h) ∙ e)) ∙ ap (option_and_then men_of_letters) (in_brackets-other text inside m o h other))
    (cases_eq m 1)

men_group : (text inside : List ℕ) → Opens text inside → men_of (take (length inside + 2) text) ≡ men_of_letters inside
men_group text inside o =
    let len = length-take-le (length inside + 2) text (group_fits text inside o) in
    men_other (take (length inside + 2) text) (λ e. absurd (omega (arith, len, e))) ∙ ap (option_and_then men_of_letters) (in_brackets-whole text inside o)

pub men_plain-other : (text : List ℕ) (m : ℕ) → group text ≡ None → m ≤ length text → m ≢ 1 → men_of (take m text) ≡ None
men_plain-other text m plain h other =
    men_other (take m text) (λ e. other (sym (length-take-le m text h) ∙ e)) ∙ ap (option_and_then men_of_letters) (in_brackets-none text m plain)

pub men_group_some : (text inside : List ℕ) (men : ℕ) → group text ≡ Some inside → men_of_letters inside ≡ Some men → Some (men, length inside + 2) ≡ longest men_of text
men_group_some text inside men e f =
    let o = opens text inside e in
    longest_some men_of text men (length inside + 2) (record {
      positive = omega arith;
      fits = group_fits text inside o;
      reads = men_group text inside o ∙ f;
      last = λ m a b. men_group-other text inside m o b (λ same. absurd (omega arith));
    })

pub men_group_none : (text inside : List ℕ) → group text ≡ Some inside → men_of_letters inside ≡ None → None ≡ longest men_of text
men_group_none text inside e f =
    let o = opens text inside e in
    longest_none men_of text (record {
      none = λ m a b. ⊎_elim (λ same. ap (λ j. men_of (take j text)) same ∙ men_group text inside o ∙ f) (λ other. men_group-other text inside m o b other) (cases_eq m (length inside + 2));
    })

men_first : (text : List ℕ) → 0 < length text → men_of (take 1 text) ≡ men_of_letter (get_or text 0 0)
men_first [] h = absurd (omega arith)
men_first (a ∷ t) h = refl

pub men_plain_some : (text : List ℕ) (men : ℕ) → group text ≡ None → 0 < length text → men_of_letter (get_or text 0 0) ≡ Some men → Some (men, 1) ≡ longest men_of text
men_plain_some text men e h f =
    longest_some men_of text men 1 (record {
      positive = omega arith;
      fits = omega arith;
      reads = men_first text h ∙ f;
      last = λ m a b. men_plain-other text m e b (λ same. absurd (omega arith));
    })

pub men_plain_none : (text : List ℕ) → group text ≡ None → (0 < length text → men_of_letter (get_or text 0 0) ≡ None) → None ≡ longest men_of text
men_plain_none text e f =
    longest_none men_of text (record {
      none = λ m a b. ⊎_elim (λ same. ap (λ j. men_of (take j text)) same ∙ men_first text (omega arith) ∙ f (omega arith)) (λ other. men_plain-other text m e b other) (cases_eq m 1);
    })

-- squares alone
or_none : {X : Type 0} (o : Option X) → option_or o None ≡ o
or_none None = refl
or_none (Some x) = refl

from_open : (b c d : ℕ) → rectangle 91 b c d ≡ None
from_open b c d = refl

by_test : (c : Bool) (x y : Option ℕ) → x ≡ None → y ≡ None → cond c x y ≡ None
by_test true x y e f = e
by_test false x y e f = f

-- no specification begins with `[`
specification_open : (t : List ℕ) → specification (91 ∷ t) ≡ None
specification_open [] = refl
specification_open (a ∷ []) = refl
specification_open (a ∷ b ∷ []) = refl
specification_open (a ∷ b ∷ c ∷ []) = by_test _ _ _ refl (by_test _ _ _ refl refl)
specification_open (a ∷ b ∷ c ∷ d ∷ []) = refl
specification_open (a ∷ b ∷ c ∷ d ∷ e ∷ []) = by_test _ _ _ refl refl
specification_open (a ∷ b ∷ c ∷ d ∷ e ∷ f ∷ t) = refl

specification_group : (text inside : List ℕ) (m : ℕ) → Opens text inside → specification (take m text) ≡ None
specification_group text inside zero o = refl
specification_group text inside (suc k) o = ap (λ t. specification (take (suc k) t)) o.is ∙ specification_open (take k o.rest)

pub squares_group-other : (text inside : List ℕ) (m : ℕ) → Opens text inside → m ≤ length text → m ≢ length inside + 2 → squares_of (take m text) ≡ None
squares_group-other text inside m o h other =
    ap (λ x. option_or x (option_and_then specifications (in_brackets (take m text)))) (specification_group text inside m o)
    ∙ ap (option_and_then specifications) (in_brackets-other text inside m o h other)

squares_group : (text inside : List ℕ) → Opens text inside → squares_of (take (length inside + 2) text) ≡ specifications inside
squares_group text inside o =
    ap (λ x. option_or x (option_and_then specifications (in_brackets (take (length inside + 2) text)))) (specification_group text inside (length inside + 2) o)
    ∙ ap (option_and_then specifications) (in_brackets-whole text inside o)

pub squares_plain : (text : List ℕ) (m : ℕ) → group text ≡ None → squares_of (take m text) ≡ specification (take m text)
squares_plain text m e = ap (λ x. option_or (specification (take m text)) (option_and_then specifications x)) (in_brackets-none text m e) ∙ or_none _

pub squares_group_some : (text inside : List ℕ) (squares : ℕ) → group text ≡ Some inside → specifications inside ≡ Some squares → Some (squares, length inside + 2) ≡ longest squares_of text
squares_group_some text inside squares e f =
    let o = opens text inside e in
    longest_some squares_of text squares (length inside + 2) (record {
      positive = omega arith;
      fits = group_fits text inside o;
      reads = squares_group text inside o ∙ f;
      last = λ m a b. squares_group-other text inside m o b (λ same. absurd (omega arith));
    })

pub squares_group_none : (text inside : List ℕ) → group text ≡ Some inside → specifications inside ≡ None → None ≡ longest squares_of text
squares_group_none text inside e f =
    let o = opens text inside e in
    longest_none squares_of text (record {
      none = λ m a b. ⊎_elim (λ same. ap (λ j. squares_of (take j text)) same ∙ squares_group text inside o ∙ f)
          (λ other. squares_group-other text inside m o b other) (cases_eq m (length inside + 2));
    })

-- a specification is of two, four or six bytes
specification_size : (t : List ℕ) (s : ℕ) → specification t ≡ Some s → (length t ≡ 2) ⊎ ((length t ≡ 4) ⊎ (length t ≡ 6))
specification_size [] s e = absurd (cc)
specification_size (a ∷ []) s e = absurd (cc)
specification_size (a ∷ b ∷ []) s e = inl refl
specification_size (a ∷ b ∷ c ∷ []) s e = absurd (cc)
specification_size (a ∷ b ∷ c ∷ d ∷ []) s e = inr (inl refl)
specification_size (a ∷ b ∷ c ∷ d ∷ f ∷ []) s e = absurd (cc)
specification_size (a ∷ b ∷ c ∷ d ∷ f ∷ g ∷ []) s e = inr (inr refl)
specification_size (a ∷ b ∷ c ∷ d ∷ f ∷ g ∷ h ∷ t) s e = absurd (cc)

specification_none : (text : List ℕ) (m : ℕ) → m ≤ length text → m ≢ 6 → m ≢ 4 → m ≢ 2 → specification (take m text) ≡ None
specification_none text m h six four two =
    let len = sym (length-take-le m text h) in
    ⊎_elim (λ none. none)
    (λ some. ⊎_elim (λ e. absurd (two (len ∙ e))) (λ rest. ⊎_elim (λ e. absurd (four (len ∙ e))) (λ e. absurd (six (len ∙ e))) rest) (specification_size (take m text) some.0 some.1))
    (some_or_none (specification (take m text)))

-- squares are a specification if no group is at the front
plain_front : (n : ℕ) (text : List ℕ) → group text ≡ None → front specification n text ≡ front squares_of n text
plain_front n text plain = ap (λ o. cond (leb n (length text)) (option_map {U = ℕ × ℕ} (λ x. (x, n)) o) None) (sym (squares_plain text n plain))

pub squares_plain_front : (text : List ℕ) → group text ≡ None → option_or (option_or (front specification 6 text) (front specification 4 text)) (front specification 2 text) ≡ longest squares_of text
squares_plain_front text plain =
    ap (λ o. option_or (option_or o (front specification 4 text)) (front specification 2 text)) (plain_front 6 text plain)
    ∙ ap (λ o. option_or (option_or (front squares_of 6 text) o) (front specification 2 text)) (plain_front 4 text plain)
    ∙ ap (λ o. option_or (option_or (front squares_of 6 text) (front squares_of 4 text)) o) (plain_front 2 text plain)
    ∙ longest_of_three squares_of text 6 4 2 (omega arith) (omega arith) (omega arith) (λ m h six four two. squares_plain text m plain ∙ specification_none text m h six four two)
