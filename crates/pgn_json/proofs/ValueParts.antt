-- The parts of a JSON value, and those that are only in some.
use Rattle.std.proofs.Common.{◌≡◌, ℕ, Bool, true, false, List, [], ◌∷◌, ◌++◌, length, map, drop, get_or, refl, ap, ◌∙◌, sym, arith, append_assoc, codes}
use Rattle.std.specs.Prelude.{if◌then◌else◌}
use Rattle.cq_position.specs.Games.{Node}
use Rattle.pgn_json.specs.Data.{Value, truth, number, string, array, object, Values, no_values, more_values, Members, no_members, more_members, values_of, members_of}
use Rattle.pgn_json.specs.GameValue.{array_member, note_members, text_value}
use Rattle.pgn_json.specs.Strings.{characters}

abbrev pub number_in : Value → ℕ
number_in (number n) = n
number_in (string cs) = 0
number_in (array vs) = 0
number_in (object ms) = 0
number_in truth = 0

abbrev pub characters_in : Value → List ℕ
characters_in (string cs) = cs
characters_in (number n) = []
characters_in (array vs) = []
characters_in (object ms) = []
characters_in truth = []

abbrev values_listed : Values → List Value
values_listed no_values = []
values_listed (more_values v vs) = v ∷ values_listed vs

abbrev pub values_in : Value → List Value
values_in (array vs) = values_listed vs
values_in (number n) = []
values_in (string cs) = []
values_in (object ms) = []
values_in truth = []

abbrev members_listed : Members → List (List ℕ × Value)
members_listed no_members = []
members_listed (more_members name v ms) = (name, v) ∷ members_listed ms

abbrev pub members_in : Value → List (List ℕ × Value)
members_in (object ms) = members_listed ms
members_in (number n) = []
members_in (string cs) = []
members_in (array vs) = []
members_in truth = []

pub values_back : (vs : List Value) → values_listed (values_of vs) ≡ vs
values_back [] = refl
values_back (v ∷ vs) = ap (λ l. v ∷ l) (values_back vs)

pub members_back : (ms : List (List ℕ × Value)) → members_listed (members_of ms) ≡ ms
members_back [] = refl
members_back (m ∷ ms) = ap (λ l. m ∷ l) (members_back ms)

-- the member at a place
abbrev pub member_at : List (List ℕ × Value) → ℕ → List ℕ × Value
member_at ms i = get_or ms i ([], truth)

-- the length of the first name
abbrev pub size : List (List ℕ × Value) → ℕ
size ms = length (member_at ms 0).0

size_after : (name : List ℕ) (vs : List Value) (ms : List (List ℕ × Value)) (n : ℕ) → (length name ≡ n → ⊥) → (size ms ≡ n → ⊥)
    → size (array_member name vs ++ ms) ≡ n → ⊥
size_after name [] ms n here there = there
size_after name (v ∷ vs) ms n here there = here

pub size_if : (b : Bool) (m : List ℕ × Value) (ms : List (List ℕ × Value)) (n : ℕ) → (length m.0 ≡ n → ⊥) → (size ms ≡ n → ⊥)
    → size ((if b then m ∷ [] else []) ++ ms) ≡ n → ⊥
size_if true m ms n here there = here
size_if false m ms n here there = there

one_array : (name : List ℕ) (vs ws : List Value) (ms ns : List (List ℕ × Value)) → (size ms ≡ length name → ⊥) → (size ns ≡ length name → ⊥)
    → array_member name vs ++ ms ≡ array_member name ws ++ ns → (vs ≡ ws) × (ms ≡ ns)
one_array name [] [] ms ns i j same = (refl, same)
one_array name [] (w ∷ ws) ms ns i j same = absurd (i (ap size same))
one_array name (v ∷ vs) [] ms ns i j same = absurd (j (sym (ap size same)))
one_array name (v ∷ vs) (w ∷ ws) ms ns i j same = (
  sym (values_back (v ∷ vs)) ∙ ap (λ l. values_in (member_at l 0).1) same ∙ values_back (w ∷ ws),
  ap (drop 1) same,
)

-- the text after a member that may be there
pub after_one : (b c : Bool) (x y : List ℕ × Value) (ms ns : List (List ℕ × Value)) → (size ms ≡ length y.0 → ⊥) → (size ns ≡ length x.0 → ⊥)
    → (if b then x ∷ [] else []) ++ ms ≡ (if c then y ∷ [] else []) ++ ns → ms ≡ ns
after_one true true x y ms ns i j same = ap (drop 1) same
after_one true false x y ms ns i j same = absurd (j (sym (ap size same)))
after_one false true x y ms ns i j same = absurd (i (ap size same))
after_one false false x y ms ns i j same = same

pub map_back : {X Y : Type 0} (value : X → Value) (back : Value → Y) (read : X → Y) → ((x : X) → back (value x) ≡ read x) → (xs : List X)
    → map back (map value xs) ≡ map read xs
map_back value back read each [] = refl
map_back value back read each (x ∷ xs) = λ i. each x i ∷ map_back value back read each xs i

numbers_back : (ns : List ℕ) → map number_in (map number ns) ≡ ns
numbers_back [] = refl
numbers_back (n ∷ ns) = ap (λ l. n ∷ l) (numbers_back ns)

-- nodes with the same notes
pub record SameNotes (a b : Node) : Type 0 where
  pub nags : a.nags ≡ b.nags
  pub comments : map characters a.comments ≡ map characters b.comments

-- the notes, and the text after them, whose first name is another
pub same_notes : (a b : Node) (ms ns : List (List ℕ × Value)) → (size ms ≡ 4 → ⊥) → (size ms ≡ 8 → ⊥) → (size ns ≡ 4 → ⊥) → (size ns ≡ 8 → ⊥)
    → note_members a ++ ms ≡ note_members b ++ ns → SameNotes a b × (ms ≡ ns)
same_notes a b ms ns no_nags no_comments no_nags' no_comments' same =
    let nags = map number a.nags in
    let nags' = map number b.nags in
    let comments = map text_value a.comments in
    let comments' = map text_value b.comments in
    let whole = sym (append_assoc (array_member (codes "nags") nags) (array_member (codes "comments") comments) ms) ∙ same
    ∙ append_assoc (array_member (codes "nags") nags') (array_member (codes "comments") comments') ns in
    let one = one_array (codes "nags") nags nags' (array_member (codes "comments") comments ++ ms) (array_member (codes "comments") comments' ++ ns)
    (size_after (codes "comments") comments ms 4 (λ e. absurd (omega (arith, e))) no_nags)
    (size_after (codes "comments") comments' ns 4 (λ e. absurd (omega (arith, e))) no_nags') whole in
    let two = one_array (codes "comments") comments comments' ms ns no_comments no_comments' one.1 in (
      record {
        nags = sym (numbers_back a.nags) ∙ ap (map number_in) one.0 ∙ numbers_back b.nags;
        comments =
            sym (map_back text_value characters_in characters (λ c. refl) a.comments) ∙ ap (map characters_in) two.0
            ∙ map_back text_value characters_in characters (λ c. refl) b.comments;
      },
      two.1,
    )
