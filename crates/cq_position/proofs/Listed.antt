-- Men that are listed square by square, and equal lists of men.
use Rattle.std.proofs.Common.{◌≡◌, ℕ, ◌+◌, ◌<◌, ◌≤◌, Bool, true, false, ◌&&◌, ◌==◌, List, length, refl, sym, ap, ◌∙◌, arith, inl, inr}
use Rattle.std.specs.Prelude.{slice_set}
use Rattle.std.specs.Bool.{Decides}
use Rattle.std.proofs.lemmas.Bool.{cases_Bool, cases_eq, and_parts, eq-eqb, eqb-true, false_from_ne_true}
use Rattle.std.proofs.lemmas.List.{ext_get_or, get_or-set_same, get_or-set_other, length-set}
use Rattle.std.proofs.lemmas.Slice.Eq.{slice_eq-Decides}
use Rattle.cq_square_sets.specs.Planes.{AreWords, list_of, word_of}
use Rattle.cq_square_sets.proofs.Words.{words_back}
use Rattle.cq_position.specs.declared.men.Man.{Man}
use Rattle.cq_position.specs.declared.men.Man.TheVariants.{Empty}
use Rattle.cq_position.specs.Men.{man_number, same_man, same_men}
use Rattle.cq_position.specs.Board.{man_at}
use Rattle.cq_position.specs.Planes.{man_numbered}
use Rattle.cq_position.specs.Inside.{numbered}
use Rattle.cq_position.proofs.Digits.{man_back}

-- the men of the first squares are those of the list
pub record AreSame (men listed : List Man) (number : ℕ) : Type 0 where
  pub long : length men ≡ 64
  pub same : (k : ℕ) → k < number → man_at men k ≡ man_at listed k

pub same_start : (men listed : List Man) → length men ≡ 64 → AreSame men listed 0
same_start men listed long = record { long = long; same = λ k h. absurd (omega arith) }

pub same_more : (men listed : List Man) (number : ℕ) (man : Man) → number < 64 → man ≡ man_at listed number → AreSame men listed number
    → AreSame (slice_set men number man) listed (number + 1)
same_more men listed number man low e r = record {
  long = length-set men number man ∙ r.long;
  same = λ k h. elim (cases_eq k number) [
    | inl here ↦ rw here (get_or-set_same men number man Empty (omega (arith, r.long, low)) ∙ e)
    | inr other ↦ get_or-set_other men number k man Empty other ∙ r.same k (omega (arith, h, other))
  ];
}

pub same_end : (men listed : List Man) (number : ℕ) → 64 ≤ number → length listed ≡ 64 → AreSame men listed number → men ≡ listed
same_end men listed number all long r = ext_get_or Empty men listed (r.long ∙ sym long) (λ k h. r.same k (omega (arith, h, r.long, all)))

-- equal men
pub Decides-man : (a b : Man) → Decides (same_man a b) (a ≡ b)
Decides-man a b = (
  λ h. sym (man_back a) ∙ ap man_numbered (eqb-true (man_number a) (man_number b) h) ∙ man_back b,
  λ h. eq-eqb (man_number a) (man_number b) (ap man_number h),
)

pub Decides-men : (xs ys : List Man) → Decides (same_men xs ys) (xs ≡ ys)
Decides-men xs ys = slice_eq-Decides Decides-man xs ys (same_men xs ys) refl

-- equal words
four_true : (a b c d : Bool) → a ≡ true → b ≡ true → c ≡ true → d ≡ true → (a && (b && (c && d))) ≡ true
four_true a b c d e f g h = rw (e, f, g, h) refl

words_decide : (a b c d e f g h : ℕ) → AreWords 13 a b c d → AreWords 13 e f g h
    → ((a == e) && ((b == f) && ((c == g) && (d == h)))) ≡ same_men (list_of man_numbered a b c d) (list_of man_numbered e f g h)
words_decide a b c d e f g h m n =
    let xs = list_of man_numbered a b c d in
    let ys = list_of man_numbered e f g h in
    let one = words_back man_number man_numbered 13 numbered a b c d m in
    let two = words_back man_number man_numbered 13 numbered e f g h n in
    elim (cases_Bool (same_men xs ys)) [
      | inl same ↦
          let lists = (Decides-men xs ys).0 same in
          four_true (a == e) (b == f) (c == g) (d == h)
          (eq-eqb a e (sym one.ones ∙ ap (word_of man_number 0) lists ∙ two.ones))
          (eq-eqb b f (sym one.twos ∙ ap (word_of man_number 1) lists ∙ two.twos))
          (eq-eqb c g (sym one.fours ∙ ap (word_of man_number 2) lists ∙ two.fours))
          (eq-eqb d h (sym one.eights ∙ ap (word_of man_number 3) lists ∙ two.eights))
          ∙ sym same
      | inr other ↦
          false_from_ne_true _ (λ t.
          let p = and_parts (a == e) _ t in
          let q = and_parts (b == f) _ p.1 in
          let r = and_parts (c == g) _ q.1 in
          let lists : xs ≡ ys = rw (eqb-true a e p.0, eqb-true b f q.0, eqb-true c g r.0, eqb-true d h r.1) refl in
          let bad : false ≡ true = sym other ∙ (Decides-men xs ys).1 lists in
          cc)
          ∙ sym other
    ]

regroup : (p q r s : Bool) → ((p && q) && (r && s)) ≡ (p && (q && (r && s)))
regroup true q r s = refl
regroup false q r s = refl

decided : (a b c d e f g h : ℕ) (low high : Bool) → AreWords 13 a b c d → AreWords 13 e f g h → low ≡ ((a == e) && (b == f)) → high ≡ ((c == g) && (d == h))
    → (low && high) ≡ same_men (list_of man_numbered a b c d) (list_of man_numbered e f g h)
decided a b c d e f g h low high m n l k =
    rw (l, k) (regroup (a == e) (b == f) (c == g) (d == h) ∙ words_decide a b c d e f g h m n)

-- if the first two words are the same, the others decide
pub same_then : (a b c d e f g h : ℕ) (low high : Bool) → AreWords 13 a b c d → AreWords 13 e f g h → low ≡ ((a == e) && (b == f)) → high ≡ ((c == g) && (d == h))
    → low ≡ true → high ≡ same_men (list_of man_numbered a b c d) (list_of man_numbered e f g h)
same_then a b c d e f g h low high m n l k t = sym (ap (λ x. x && high) t) ∙ decided a b c d e f g h low high m n l k

pub same_else : (a b c d e f g h : ℕ) (low : Bool) → AreWords 13 a b c d → AreWords 13 e f g h → low ≡ ((a == e) && (b == f))
    → low ≡ false → low ≡ same_men (list_of man_numbered a b c d) (list_of man_numbered e f g h)
same_else a b c d e f g h low m n l t =
    let high = (c == g) && (d == h) in
    t ∙ sym (ap (λ x. x && high) t) ∙ decided a b c d e f g h low high m n l refl
