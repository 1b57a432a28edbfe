-- A string is read back.
use Rattle.std.proofs.Common.{◌≡◌, ℕ, ◌+◌, ◌/◌, ◌%◌, ◌<◌, ◌==◌, ◌||◌, ◌&&◌, not, nat_lt, Bool, true, false, List, [], ◌∷◌, ◌++◌, refl, ap, ap₂, ◌∙◌, sym, subst, arith, inl, inr, append-nil}
use Rattle.std.proofs.Math.Nat.{div-add-mod, mod-lt}
use Rattle.std.proofs.lemmas.Bool.{and_parts, cases_eq, cases_lt, ne_eqb, or_parts, lt-ltb, le-ltb}
use Rattle.std.proofs.lemmas.Str.{digit_value-digit_char, encode_ascii, encodes-append}
use Rattle.std.specs.Char.{digit_char}
use Rattle.std.specs.List.{flat_map}
use Rattle.std.specs.Prelude.{if◌then◌else◌, encode_utf8}
use Rattle.std.specs.Str.{encode_utf8_all}
use lib.Utf8.{encode, encodes, low_scalar, scalar, scalars}
use Rattle.pgn_json.specs.Grammar.{IsReadAs, IsString, Spells, unescaped, by_letter, by_code_unit, SpellsAll}
use Rattle.pgn_json.specs.Strings.{character_text, characters, escape, needs_escape, quoted, short_letter, string_text}
use Rattle.pgn_json.proofs.OneReading.{one_string}

abbrev spelling : ℕ → List ℕ
spelling c = if needs_escape c then escape c else c ∷ []

low_digit : (d : ℕ) → d < 16 → digit_char d < 128
low_digit d low = elim (cases_lt d 10) [
  | inl less ↦ subst (λ b. (if b then 48 + d else 87 + d) < 128) (sym (lt-ltb d 10 less)) (omega (arith, less))
  | inr more ↦ subst (λ b. (if b then 48 + d else 87 + d) < 128) (sym (le-ltb d 10 more)) (omega (arith, low))
]

-- an escape spells its character, and is ASCII
record IsEscape (c : ℕ) (text : List ℕ) : Type 0 where
  spells : Spells c text
  encoded : encodes text ≡ text
  legal : scalars text ≡ true

abbrev number_text : ℕ → List ℕ
number_text c = 92 ∷ 117 ∷ 48 ∷ 48 ∷ digit_char (c / 16) ∷ digit_char (c % 16) ∷ []

numbered : (c : ℕ) → c < 256 → IsEscape c (number_text c)
unfolding encode_utf8
numbered c low =
    let whole = div-add-mod c 16 in
    let small : c % 16 < 16 = mod-lt c (omega arith) in
    let few : c / 16 < 16 = omega (arith, whole, low) in
    let high_digit = digit_value-digit_char (c / 16) (omega (arith, few)) in
    let last_digit = digit_value-digit_char (c % 16) (omega (arith, small)) in
    record {
      spells = by_code_unit (record {
        first = 48;
        second = 48;
        third = digit_char (c / 16);
        fourth = digit_char (c % 16);
        digits = (omega arith, omega arith, omega (arith, high_digit, few), omega (arith, last_digit, small));
        written = refl;
        number = omega (arith, high_digit, last_digit, whole);
      }) (low_scalar c (omega (arith, low)));
      encoded = rw (encode_ascii (digit_char (c / 16)) (low_digit (c / 16) few), encode_ascii (digit_char (c % 16)) (low_digit (c % 16) small)) refl;
      legal =
          rw (
            low_scalar (digit_char (c / 16)) (omega (arith, low_digit (c / 16) few)),
            low_scalar (digit_char (c % 16)) (omega (arith, low_digit (c % 16) small)),
          ) refl;
    }

short : (c letter : ℕ) → Spells letter (escape letter) → encodes (escape letter) ≡ escape letter → scalars (escape letter) ≡ true → c ≡ letter
    → IsEscape c (escape c)
short c letter spells encoded legal is =
    subst (λ x. IsEscape x (escape x)) (sym is) (record { spells = spells; encoded = encoded; legal = legal })

escaped : (c : ℕ) → c < 256 → IsEscape c (escape c)
unfolding encode_utf8
escaped c low = elim (cases_eq c 34) [
  | inl e ↦ short c 34 (by_letter 34 refl refl) refl refl e
  | inr a ↦
      elim (cases_eq c 92) [
        | inl e ↦ short c 92 (by_letter 92 refl refl) refl refl e
        | inr b ↦
            elim (cases_eq c 8) [
              | inl e ↦ short c 8 (by_letter 98 refl refl) refl refl e
              | inr d ↦
                  elim (cases_eq c 9) [
                    | inl e ↦ short c 9 (by_letter 116 refl refl) refl refl e
                    | inr f ↦
                        elim (cases_eq c 10) [
                          | inl e ↦ short c 10 (by_letter 110 refl refl) refl refl e
                          | inr g ↦
                              elim (cases_eq c 12) [
                                | inl e ↦ short c 12 (by_letter 102 refl refl) refl refl e
                                | inr h ↦
                                    elim (cases_eq c 13) [
                                      | inl e ↦ short c 13 (by_letter 114 refl refl) refl refl e
                                      | inr i ↦
                                          let none : short_letter c ≡ 0 = rw (ne_eqb c 34 a, ne_eqb c 92 b, ne_eqb c 8 d, ne_eqb c 9 f, ne_eqb c 10 g, ne_eqb c 12 h, ne_eqb c 13 i) refl in
                                          subst (λ n. IsEscape c (if n == 0 then number_text c else 92 ∷ n ∷ [])) (sym none) (numbered c low)
                                    ]
                              ]
                        ]
                  ]
            ]
      ]
]

few_escaped : (c : ℕ) → needs_escape c ≡ true → c < 256
few_escaped c is = elim (cases_lt c 256) [
  | inl less ↦ less
  | inr more ↦ absurd (let e : false ≡ true = sym (rw (le-ltb c 32 (omega arith), ne_eqb c 34 (λ e. omega arith), ne_eqb c 92 (λ e. omega arith)) refl) ∙ is in cc)
]

plain_by : (a b d : Bool) → a ≡ false → b ≡ false → d ≡ false → (not a && (not b && not d)) ≡ true
plain_by a b d p q r = rw (p, q, r) refl

one_spelled : (c : ℕ) → Spells c (spelling c)
one_spelled c = elim (needs_escape c) as (λ b. needs_escape c ≡ b → Spells c (if b then escape c else c ∷ [])) [
  | true ↦ λ is. (escaped c (few_escaped c is)).spells
  | false ↦ λ is.
      let p = or_parts (nat_lt c 32) ((c == 34) || (c == 92)) is in
      let q = or_parts (c == 34) (c == 92) p.1 in
      unescaped (plain_by (nat_lt c 32) (c == 34) (c == 92) p.0 q.0 q.1) refl
] refl

one_encoded : (c : ℕ) → encodes (spelling c) ≡ character_text c
one_encoded c = elim (needs_escape c) as (λ b. needs_escape c ≡ b → encodes (if b then escape c else c ∷ []) ≡ (if b then escape c else encode c)) [
  | true ↦ λ is. (escaped c (few_escaped c is)).encoded
  | false ↦ λ is. append-nil (encode c)
] refl

all_spelled : (cs : List ℕ) → SpellsAll cs (flat_map spelling cs)
all_spelled [] = refl
all_spelled (c ∷ cs) = (spelling c, flat_map spelling cs, refl, one_spelled c, all_spelled cs)

all_encoded : (cs : List ℕ) → encodes (flat_map spelling cs) ≡ flat_map character_text cs
all_encoded [] = refl
all_encoded (c ∷ cs) = encodes-append (spelling c) (flat_map spelling cs) ∙ ap₂ (λ (x y : List ℕ). x ++ y) (one_encoded c) (all_encoded cs)

-- scalar values are spelled by scalar values
pub both_legal : (xs ys : List ℕ) → scalars xs ≡ true → scalars ys ≡ true → scalars (xs ++ ys) ≡ true
both_legal [] ys a b = b
both_legal (x ∷ xs) ys a b =
    let parts = and_parts (scalar x) (scalars xs) a in rw (parts.0, both_legal xs ys parts.1 b) refl

one_legal : (c : ℕ) → scalar c ≡ true → scalars (spelling c) ≡ true
one_legal c legal = elim (needs_escape c) as (λ b. needs_escape c ≡ b → scalars (if b then escape c else c ∷ []) ≡ true) [
  | true ↦ λ is. (escaped c (few_escaped c is)).legal
  | false ↦ λ is. rw legal refl
] refl

all_legal : (cs : List ℕ) → scalars cs ≡ true → scalars (flat_map spelling cs) ≡ true
all_legal [] legal = refl
all_legal (c ∷ cs) legal =
    let parts = and_parts (scalar c) (scalars cs) legal in
    both_legal (spelling c) (flat_map spelling cs) (one_legal c parts.0) (all_legal cs parts.1)

-- a string that JSON reads as characters, between its quotes
abbrev pub string_spelling : List ℕ → List ℕ
string_spelling cs = 34 ∷ (flat_map spelling cs ++ 34 ∷ [])

pub string_spelled : (cs : List ℕ) → IsString cs (string_spelling cs)
string_spelled cs = record { inside = flat_map spelling cs; between = refl; spelled = all_spelled cs }

pub string_encoded : (cs : List ℕ) → encodes (string_spelling cs) ≡ quoted cs
unfolding encode_utf8
string_encoded cs = ap (λ l. 34 ∷ l) (encodes-append (flat_map spelling cs) (34 ∷ []) ∙ ap (λ l. l ++ 34 ∷ []) (all_encoded cs))

pub string_legal : (cs : List ℕ) → scalars cs ≡ true → scalars (string_spelling cs) ≡ true
string_legal cs legal = both_legal (flat_map spelling cs) (34 ∷ []) (all_legal cs legal) refl

pub read_back : (text : List ℕ) → (json : List ℕ) × (encode_utf8_all json ≡ string_text text) × IsReadAs json (characters text)
read_back text =
    let cs = characters text in (
      string_spelling cs,
      string_encoded cs,
      record { string = string_spelled cs; alone = λ ds other. (one_string ds cs _ _ [] [] other (string_spelled cs) refl).0 },
    )
