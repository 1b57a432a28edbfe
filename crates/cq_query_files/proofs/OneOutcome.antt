-- A text is at most one query, has at most one fault, and not both.
use Rattle.std.proofs.Common.{◌≡◌, inl, inr, ℕ, List, Result, Ok, Err, sym, ◌∙◌, subst}
use Rattle.cql_syntax.specs.Limits.{most_open}
use Rattle.cql_syntax.specs.Trees.{QueryTree}
use Rattle.cql_syntax.specs.declared.fault.QueryFault.{QueryFault}
use Rattle.cql_syntax.specs.declared.token.QueryToken.{QueryToken}
use Rattle.cql_lexer.specs.Tokens.{tokens_of}
use Rattle.cql_parser.specs.PartialFilters.{Spells}
use Rattle.cql_parser.specs.Faults.{IsFault}
use Rattle.cq_query_files.specs.Queries.{IsQuery, IsQueryFault, HasParseFault, HasTreeFault}

-- the laws of token lists

abbrev pub SpellOne : Type 0
SpellOne = (tokens : List QueryToken) (q r : QueryTree) → Spells most_open tokens q → Spells most_open tokens r → q ≡ r

abbrev pub SpellNone : Type 0
SpellNone = (tokens : List QueryToken) (f : QueryFault) (q : QueryTree) → IsFault tokens f → Spells most_open tokens q → ⊥

abbrev pub FaultOne : Type 0
FaultOne = (tokens : List QueryToken) (f g : QueryFault) → IsFault tokens f → IsFault tokens g → f ≡ g

same_tokens : (text : List ℕ) (ts us : List QueryToken) → tokens_of text ≡ Ok ts → tokens_of text ≡ Ok us → ts ≡ us
same_tokens text ts us e f = let g : ◌≡◌ {A = Result (List QueryToken) QueryFault} (Ok ts) (Ok us) = sym e ∙ f in cc

pub one_query : SpellOne → (text : List ℕ) (q r : QueryTree) → IsQuery text q → IsQuery text r → q ≡ r
one_query one text q r is other =
    one is.tokens q r is.spells (subst (λ ts. Spells most_open ts r) (same_tokens text other.tokens is.tokens other.are_tokens is.are_tokens) other.spells)

pub no_fault : SpellOne → SpellNone → (text : List ℕ) (q : QueryTree) (f : QueryFault) → IsQuery text q → IsQueryFault text f → ⊥
no_fault one none text q f is (inl lexical) = let g : ◌≡◌ {A = Result (List QueryToken) QueryFault} (Ok is.tokens) (Err f) = sym is.are_tokens ∙ lexical in cc
no_fault one none text q f is (inr (inl parse)) =
    none is.tokens f q (subst (λ ts. IsFault ts f) (same_tokens text parse.tokens is.tokens parse.are_tokens is.are_tokens) parse.is_fault) is.spells
no_fault one none text q f is (inr (inr tree)) =
    let same : tree.query ≡ q =
    one is.tokens tree.query q (subst (λ ts. Spells most_open ts tree.query) (same_tokens text tree.tokens is.tokens tree.are_tokens is.are_tokens) tree.spells) is.spells in
    let a = tree.broken in
    let b = is.unbroken in
    cc

-- a text with a lexical fault has no tokens
no_tokens : (text : List ℕ) (f : QueryFault) (tokens : List QueryToken) → tokens_of text ≡ Err f → tokens_of text ≡ Ok tokens → ⊥
no_tokens text f tokens lexical are = let g : ◌≡◌ {A = Result (List QueryToken) QueryFault} (Ok tokens) (Err f) = sym are ∙ lexical in cc

one_lexical : (text : List ℕ) (f g : QueryFault) → tokens_of text ≡ Err f → tokens_of text ≡ Err g → f ≡ g
one_lexical text f g is other = let same : ◌≡◌ {A = Result (List QueryToken) QueryFault} (Err f) (Err g) = sym is ∙ other in cc

one_parse : FaultOne → (text : List ℕ) (f g : QueryFault) → HasParseFault text f → HasParseFault text g → f ≡ g
one_parse one text f g is other =
    one is.tokens f g is.is_fault
    (subst (λ ts. IsFault ts g) (same_tokens text other.tokens is.tokens other.are_tokens is.are_tokens) other.is_fault)

parse_or_tree : SpellNone → (text : List ℕ) (f g : QueryFault) → HasParseFault text f → HasTreeFault text g → ⊥
parse_or_tree none text f g parse tree =
    none parse.tokens f tree.query parse.is_fault
    (subst (λ ts. Spells most_open ts tree.query) (same_tokens text tree.tokens parse.tokens tree.are_tokens parse.are_tokens) tree.spells)

one_tree : SpellOne → (text : List ℕ) (f g : QueryFault) → HasTreeFault text f → HasTreeFault text g → f ≡ g
one_tree one text f g is other =
    let same : is.query ≡ other.query =
    one is.tokens is.query other.query is.spells
    (subst (λ ts. Spells most_open ts other.query) (same_tokens text other.tokens is.tokens other.are_tokens is.are_tokens) other.spells) in
    let a = is.broken in
    let b = other.broken in
    cc

pub one_fault : FaultOne → SpellOne → SpellNone → (text : List ℕ) (f g : QueryFault) → IsQueryFault text f → IsQueryFault text g → f ≡ g
one_fault one spell none text f g (inl a) (inl b) = one_lexical text f g a b
one_fault one spell none text f g (inl a) (inr (inl b)) = absurd (no_tokens text f b.tokens a b.are_tokens)
one_fault one spell none text f g (inl a) (inr (inr b)) = absurd (no_tokens text f b.tokens a b.are_tokens)
one_fault one spell none text f g (inr (inl a)) (inl b) = absurd (no_tokens text g a.tokens b a.are_tokens)
one_fault one spell none text f g (inr (inl a)) (inr (inl b)) = one_parse one text f g a b
one_fault one spell none text f g (inr (inl a)) (inr (inr b)) = absurd (parse_or_tree none text f g a b)
one_fault one spell none text f g (inr (inr a)) (inl b) = absurd (no_tokens text g a.tokens b a.are_tokens)
one_fault one spell none text f g (inr (inr a)) (inr (inl b)) = absurd (parse_or_tree none text g f b a)
one_fault one spell none text f g (inr (inr a)) (inr (inr b)) = one_tree spell text f g a b
