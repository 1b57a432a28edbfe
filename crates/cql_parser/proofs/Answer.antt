-- The results of reading a list of tokens.
use Rattle.std.proofs.Common.{◌≡◌, ℕ, List, [], ◌∷◌, ◌++◌, refl, sym, ap, ap₂, ◌∙◌, subst}
use Rattle.cql_syntax.specs.Trees.{QueryTree}
use Rattle.cql_syntax.specs.declared.token.QueryToken.{QueryToken}
use Rattle.cql_parser.specs.Grammar.{Items, IsGrammaticalPrefix}
use Rattle.cql_parser.specs.PartialFilters.{query_of, opening, Spells}
use Rattle.cql_parser.specs.Internal.Machine.{Opening, Reading, Done, Deep, Stuck, feed, begun, written}
use Rattle.cql_parser.proofs.Begun.{Lives, alive}
use Rattle.cql_parser.proofs.Read.{St, go, go_append, query_read}
use Rattle.cql_parser.proofs.ReadIsWritten.{Stands, told}

-- a token list is written in one way
abbrev IsDone : List QueryToken → Items → St → Type 0
IsDone h b (Opening h' place) = ⊥
IsDone h b (Reading h' b' k) = ⊥
IsDone h b (Done h' b') = (h ≡ h') × (b ≡ b')
IsDone h b Deep = ⊥
IsDone h b Stuck = ⊥

pub at_most_one : (l : ℕ) (ts : List QueryToken) (q r : QueryTree) → Spells l ts q → Spells l ts r → q ≡ r
at_most_one l ts q r a b =
    let one : IsDone a.as_written.opening a.as_written.items (Done b.as_written.opening b.as_written.items) =
    subst (IsDone a.as_written.opening a.as_written.items) (sym (query_read l ts a.as_written)
    ∙ query_read l ts b.as_written) (refl, refl) in
    sym a.is ∙ ap₂ (λ h ps. query_of (opening h) ps) one.0 one.1 ∙ b.is

-- a stuck state stays stuck
stuck_stays : (l : ℕ) (ts : List QueryToken) → go l Stuck ts ≡ Stuck
unfolding feed
stuck_stays l [] = refl
stuck_stays l (x ∷ ts) = stuck_stays l ts

deep_stays : (l : ℕ) (ts : List QueryToken) → go l Deep ts ≡ Deep
unfolding feed
deep_stays l [] = refl
deep_stays l (x ∷ ts) = deep_stays l ts

never_done : (l : ℕ) (ts : List QueryToken) (s : St) → go l (begun written) ts ≡ s
    → ((more_ : List QueryToken) → go l s more_ ≡ s) → ((h : List QueryToken) (b : Items) → s ≡ Done h b → ⊥)
    → IsGrammaticalPrefix l ts → ⊥
never_done l ts s is stays undone b =
    undone b.query.opening b.query.items
    (sym (stays b.rest) ∙ ap (λ u. go l u b.rest) (sym is) ∙ sym (go_append l (begun written) ts b.rest)
    ∙ query_read l (ts ++ b.rest) b.query)

pub stuck_is_dead : (l : ℕ) (ts : List QueryToken) → go l (begun written) ts ≡ Stuck → IsGrammaticalPrefix l ts → ⊥
stuck_is_dead l ts is = never_done l ts Stuck is (stuck_stays l) (λ h b e. cc)

pub deep_is_dead : (l : ℕ) (ts : List QueryToken) → go l (begun written) ts ≡ Deep → IsGrammaticalPrefix l ts → ⊥
deep_is_dead l ts is = never_done l ts Deep is (deep_stays l) (λ h b e. cc)

pub living_begins : (l : ℕ) (ts : List QueryToken) → Lives (go l (begun written) ts) → IsGrammaticalPrefix l ts
living_begins l ts live = alive l ts (go l (begun written) ts) (told l ts) live

pub done_spells : (l : ℕ) (ts : List QueryToken) (h : List QueryToken) (b : Items) → go l (begun written) ts ≡ Done h b
    → Spells l ts (query_of (opening h) b)
done_spells l ts h b is =
    let good = subst (Stands l ts) is (told l ts) in
    record { as_written = good.query; is = ap₂ (λ o ps. query_of (opening o) ps) good.opening_is good.items_is }
