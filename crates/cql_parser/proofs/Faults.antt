-- Tokens have one fault at most, and only where they spell no query.
use Rattle.std.proofs.Common.{◌≡◌, inl, inr, ℕ, List, [], ◌∷◌, ◌++◌, refl, sym, ap, ap₂, ◌∙◌, subst, append_assoc}
use Rattle.cql_syntax.specs.Limits.{most_open}
use Rattle.cql_lexer.specs.Tokens.{EndOnce}
use Rattle.cql_syntax.specs.Trees.{QueryTree}
use Rattle.cql_syntax.specs.declared.fault.QueryFault.{QueryFault}
use Rattle.cql_syntax.specs.declared.fault.QueryReason.{QueryReason}
use Rattle.cql_syntax.specs.declared.token.QueryToken.{QueryToken}
use Rattle.cql_syntax.specs.declared.token.QueryTokenKind.{QueryTokenKind}
use Rattle.cql_syntax.specs.declared.token.QueryTokenKind.TheVariants.{Word, Reserved, Name, Squares, Number, Text, FileName, Outcome, Mark, End}
use Rattle.cql_parser.specs.Grammar.{IsGrammatical, IsGrammaticalPrefix}
use Rattle.cql_parser.specs.PartialFilters.{Spells}
use Rattle.cql_parser.specs.Faults.{IsEnded, IsReason, IsFault}
use Rattle.cql_parser.proofs.Begun.{begins_less}

pub faulty_spells_none : (ts : List QueryToken) (f : QueryFault) (q : QueryTree) → IsFault ts f → Spells most_open ts q → ⊥
faulty_spells_none ts f q fault spells = fault.dead (record {
  rest = fault.rest;
  query = subst (IsGrammatical most_open) (sym fault.spelled ∙ sym (append_assoc fault.before (fault.token ∷ []) fault.rest)) spells.as_written;
})

-- There is one place at most at which a list stops to have what each of its fronts has with it.
one_place : (Has : List QueryToken → Type 0) → ((ts rest : List QueryToken) → Has (ts ++ rest) → Has ts)
    → (b c r s : List QueryToken) (x y : QueryToken) → b ++ (x ∷ r) ≡ c ++ (y ∷ s) → Has b → (Has (b ++ (x ∷ [])) → ⊥)
    → Has c → (Has (c ++ (y ∷ [])) → ⊥) → (b ≡ c) × (x ≡ y)
one_place Has less [] [] r s x y is b not_b c not_c = (refl, cc)
one_place Has less [] (z ∷ zs) r s x y is b not_b c not_c =
    absurd (not_b (subst (λ t. Has (t ∷ [])) (let e : z ≡ x = cc in e) (less (z ∷ []) zs c)))
one_place Has less (z ∷ zs) [] r s x y is b not_b c not_c =
    absurd (not_c (subst (λ t. Has (t ∷ [])) (let e : z ≡ y = cc in e) (less (z ∷ []) zs b)))
one_place Has less (z ∷ zs) (w ∷ ws) r s x y is b not_b c not_c =
    let head_is : w ≡ z = cc in
    let tail_is : zs ++ (x ∷ r) ≡ ws ++ (y ∷ s) = cc in
    let found = one_place (λ ts. Has (z ∷ ts)) (λ ts rest. less (z ∷ ts) rest) zs ws r s x y tail_is b not_b
    (subst (λ t. Has (t ∷ ws)) head_is c) (λ h. not_c (subst (λ t. Has (t ∷ (ws ++ (y ∷ [])))) (sym head_is) h)) in
    (ap₂ (λ t u. t ∷ u) (sym head_is) found.0, found.1)

-- a fault within the grammar has one reason
one_kind : (ts : List QueryToken) (p q : QueryReason) → (IsReason ts (Number 0) p) → (IsReason ts (Number 0) q) → p ≡ q
one_kind ts p q (inl a) (inl b) = a.0 ∙ sym b.0
one_kind ts p q (inl a) (inr b) = absurd (b.1 a.1 a.2)
one_kind ts p q (inr a) (inl b) = absurd (a.1 b.1 b.2)
one_kind ts p q (inr a) (inr b) = a.0 ∙ sym b.0

one_reason : (ts : List QueryToken) (kind : QueryTokenKind) (p q : QueryReason) → IsReason ts kind p → IsReason ts kind q → p ≡ q
one_reason ts (Reserved name) p q a b = a ∙ sym b
one_reason ts End p q a b = a ∙ sym b
one_reason ts (Word w) p q a b = one_kind ts p q a b
one_reason ts (Name n) p q a b = one_kind ts p q a b
one_reason ts (Squares d) p q a b = one_kind ts p q a b
one_reason ts (Number n) p q a b = one_kind ts p q a b
one_reason ts (Text t) p q a b = one_kind ts p q a b
one_reason ts (FileName n) p q a b = one_kind ts p q a b
one_reason ts (Outcome o) p q a b = one_kind ts p q a b
one_reason ts (Mark m) p q a b = one_kind ts p q a b

pub at_most_one_fault : (ts : List QueryToken) (f g : QueryFault) → IsFault ts f → IsFault ts g → f ≡ g
at_most_one_fault ts f g a b =
    let place = one_place (IsGrammaticalPrefix most_open) (begins_less most_open) a.before b.before a.rest b.rest a.token b.token (a.spelled
    ∙ sym b.spelled) a.begins a.dead b.begins b.dead in
    let byte_is : f.byte ≡ g.byte = a.byte ∙ ap (λ x. x.at) place.1 ∙ sym b.byte in
    let reason : IsReason (a.before ++ (a.token ∷ [])) a.token.kind g.reason =
    subst (λ ts. IsReason ts a.token.kind g.reason) (sym (ap₂ (λ t x. t ++ (x ∷ [])) place.0 place.1))
    (subst (λ x. IsReason (b.before ++ (b.token ∷ [])) x.kind g.reason) (sym place.1) b.reason) in
    let reason_is : f.reason ≡ g.reason = one_reason (a.before ++ (a.token ∷ [])) a.token.kind f.reason g.reason a.reason reason in
    ap₂ (λ byte reason. record { byte = byte; reason = reason }) byte_is reason_is

pub ended_once : (n : ℕ) (ts : List QueryToken) → EndOnce n ts → IsEnded ts
ended_once n [] ends = absurd ends
ended_once n (x ∷ []) ends = ap (λ t. t.kind) ends
ended_once n (x ∷ y ∷ ts) ends = ended_once n (y ∷ ts) ends.1
