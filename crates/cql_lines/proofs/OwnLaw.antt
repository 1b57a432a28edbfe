-- A node's own lengths, by those of the nodes that it is joined to.
use Rattle.std.proofs.Common.{◌≡◌, ℕ, zero, suc, ◌<◌, ◌≤◌, List, [], ◌∷◌, length, refl, sym, ◌∙◌, subst, Some, inl, inr, arith, slice_get}
use Rattle.std.proofs.lemmas.Bool.{cases_lt, cases_Bool}
use Rattle.std.proofs.lemmas.Option.{slice_get_within}
use Rattle.cql_lines.specs.declared.automaton.Transition.{Transition}
use Rattle.cql_lines.specs.Internal.AcceptedLengths.{AcceptedLengthFrom, AcceptedLength}
use Rattle.cql_lines.proofs.Below.{Below}
use Rattle.cql_lines.specs.Internal.Lengths.{IsGreatestOrZero, is_set, greatest_in, farther, place_value}
use Rattle.cq_common.specs.Greatest.{IsGreatest}
use Rattle.cql_lines.specs.Tables.{holds}
use Rattle.cql_lines.specs.Internal.DownwardPass.{found}
use Rattle.cql_lines.proofs.WaysLaw.{place_here, place_off, read_here}
use Rattle.cql_lines.proofs.Measures.{Measure, HasNone, Goes}

pub longest_found : (P : ℕ → Type 0) (m : ℕ) → (P 0 → ⊥) → IsGreatestOrZero P m → IsGreatest P (found m)
longest_found P zero none g = λ k p. none (subst P (let h = g.bounds k p in omega arith) p)
longest_found P (suc m) none g = (g.reached (omega arith), g.bounds)

pub rule_at : (rules : List Transition) (i : ℕ) → i < length rules → (r : Transition) × (slice_get rules i ≡ Some r)
rule_at [] i low = absurd (omega arith)
rule_at (r ∷ rules) zero low = (r, refl)
rule_at (r ∷ rules) (suc i) low = rule_at rules i (omega arith)

module _ (words : List ℕ) (rules : List Transition) (E : ℕ → ℕ → Type 0) where
  pub place_greatest : (n i held : ℕ) (row : ℕ → ℕ) → ((j : ℕ) → IsGreatestOrZero (Below (holds words) rules E j n) (row j)) → (r : Transition) → slice_get rules i ≡ Some r
      → is_set held r.atom ≡ holds words r.atom n → IsGreatestOrZero (AcceptedLengthFrom (holds words) rules E i n) (place_value r held row (length rules))
  place_greatest n i held row known r rule table = elim (cases_Bool (is_set held r.atom)) [
    | inl set ↦
        let v : place_value r held row (length rules) ≡ farther r.after.ends (greatest_in r.after.places row (length rules)) = (rw set refl) in
        subst (IsGreatestOrZero (AcceptedLengthFrom (holds words) rules E i n)) (sym v) (place_here (holds words) rules E n i row known r rule (sym table ∙ set))
    | inr unset ↦
        let v : place_value r held row (length rules) ≡ 0 = (rw unset refl) in
        subst (IsGreatestOrZero (AcceptedLengthFrom (holds words) rules E i n)) (sym v) (place_off (holds words) rules E n i r rule (sym table ∙ unset))
  ]

  pub read_found : (f n : ℕ) (own : ℕ → ℕ) → ((i : ℕ) → IsGreatestOrZero (AcceptedLengthFrom (holds words) rules E i n) (own i))
      → IsGreatest (AcceptedLength (holds words) rules E f n) (found (greatest_in f own (length rules)))
  read_found f n own known =
      longest_found (AcceptedLength (holds words) rules E f n) (greatest_in f own (length rules))
      (λ r. (let e = r.2 in omega arith))
      (read_here (holds words) rules E f n own known)

-- the contents of a node's own row
module _ (Represents : Measure) (none : HasNone Represents) (place : Transition → ℕ → (ℕ → ℕ) → ℕ → ℕ) (goes : Goes Represents place) (words : List ℕ) (rules : List Transition) (E : ℕ → ℕ → Type 0) where
  own_past : (n : ℕ) (own : ℕ → ℕ) (i : ℕ) → length rules ≤ i → own i ≡ 0 → Represents (AcceptedLengthFrom (holds words) rules E i n) (own i)
  own_past n own i past v =
      subst (Represents (AcceptedLengthFrom (holds words) rules E i n)) (sym v)
      (none (AcceptedLengthFrom (holds words) rules E i n) (λ k f. (let within = slice_get_within rules i f.3 f.4 in omega arith)))

  pub own_known : (n held : ℕ) (row : ℕ → ℕ) (own : ℕ → ℕ) → ((j : ℕ) → Represents (Below (holds words) rules E j n) (row j))
      → ((i : ℕ) (r : Transition) → slice_get rules i ≡ Some r → is_set held r.atom ≡ holds words r.atom n)
      → ((i : ℕ) (r : Transition) → slice_get rules i ≡ Some r → own i ≡ place r held row (length rules)) → ((i : ℕ) → length rules ≤ i → own i ≡ 0)
      → (i : ℕ) → Represents (AcceptedLengthFrom (holds words) rules E i n) (own i)
  own_known n held row own known table here past i = elim (cases_lt i (length rules)) [
    | inl within ↦
        let r = rule_at rules i within in
        subst (Represents (AcceptedLengthFrom (holds words) rules E i n)) (sym (here i r.0 r.1)) (goes words rules E n i held row known r.0 r.1 (table i r.0 r.1))
    | inr after ↦ own_past n own i after (past i after)
  ]
