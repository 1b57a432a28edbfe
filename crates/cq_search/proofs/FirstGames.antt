-- The games up to the first match.
use Rattle.std.proofs.Common.{◌≡◌, ◌⊎◌, ℕ, ◌+◌, ◌<◌, ◌≤◌, Bool, true, false, List, [], ◌∷◌, ◌++◌, length, append-nil, Ok, Err, inl, inr, refl, ap, ap₂, sym, ◌∙◌, cond, arith}
use Rattle.std.specs.Prelude.{count_by, if◌then◌else◌}
use Rattle.std.specs.List.{flat_map}
use Rattle.std.proofs.lemmas.Bool.{cases_Bool}
use Rattle.std.proofs.lemmas.List.Sums.{sum_by-cons}
use Rattle.pgn_batches.specs.KeptGames.{KeptGames}
use Rattle.cq_position.specs.Games.{Game}
use Rattle.pgn_export.specs.Export.{export_text}
use Rattle.cql_syntax.specs.Hits.{keys, marked}
use Rattle.cql_syntax.specs.Trees.{QueryTree}
use Rattle.cq_shards.specs.Answers.{answer_of, answers_from, has_match}
use Rattle.cq_shards.specs.FirstMatch.{AreUpToFirst}
use Rattle.cq_shards.specs.Order.{is_found, is_match as is_match_kept, values_in}
use Rattle.cq_shards.specs.ReadResults.{AreReadResults, ReadResult}
use Rattle.cq_shards.specs.declared.answers.Answer.TheVariants.{Miss, Match}
use Rattle.cq_shards.specs.declared.answers.GameAnswer.{GameAnswer}
use Rattle.cq_search.specs.GameOutput.{export_if, is_match, tally_of, report_of}
use Rattle.cq_search.specs.Internal.ByBatches.{HaveOutcomes}
use Rattle.cq_search.specs.FirstGame.{AreFirstMatchTexts, first_export, first_texts_of, some_match, up_to_first}
use Rattle.cq_query_files.specs.Views.{Texts}
use Rattle.cq_search.proofs.Given.{Rest, rest_of}

-- ---- more games

grows_if : (b : Bool) (r : ReadResult) (xs ys : List ReadResult) → (more : List ReadResult) × (ys ≡ xs ++ more)
    → (more : List ReadResult) × (r ∷ (if b then [] else ys) ≡ (r ∷ (if b then [] else xs)) ++ more)
grows_if true r xs ys so = ([], refl)
grows_if false r xs ys so = (so.0, ap (λ l. r ∷ l) so.1)

pub up_grows : (query : QueryTree) (rs qs : List ReadResult) → (more : List ReadResult) × (up_to_first query (rs ++ qs) ≡ up_to_first query rs ++ more)
up_grows query [] qs = (up_to_first query qs, refl)
up_grows query (r ∷ rs) qs = grows_if (is_match query r) r (up_to_first query rs) (up_to_first query (rs ++ qs)) (up_grows query rs qs)

same_if : (b m : Bool) (r : ReadResult) (xs ys : List ReadResult) → (if b then true else m) ≡ true → (m ≡ true → ys ≡ xs) → r ∷ (if b then [] else ys) ≡ r ∷ (if b then [] else xs)
same_if true m r xs ys some same = refl
same_if false m r xs ys some same = ap (λ l. r ∷ l) (same some)

-- games after a match change nothing
pub up_same : (query : QueryTree) (rs qs : List ReadResult) → some_match query rs ≡ true → up_to_first query (rs ++ qs) ≡ up_to_first query rs
up_same query [] qs some = absurd cc
up_same query (r ∷ rs) qs some = same_if (is_match query r) (some_match query rs) r (up_to_first query rs) (up_to_first query (rs ++ qs)) some (up_same query rs qs)

on_if : (b m : Bool) (r : ReadResult) (rs up more : List ReadResult) → (if b then true else m) ≡ false → (m ≡ false → up ≡ rs ++ more) → r ∷ (if b then [] else up) ≡ r ∷ (rs ++ more)
on_if true m r rs up more none same = absurd cc
on_if false m r rs up more none same = ap (λ l. r ∷ l) (same none)

-- games before all matches are all there
pub up_on : (query : QueryTree) (rs qs : List ReadResult) → some_match query rs ≡ false → up_to_first query (rs ++ qs) ≡ rs ++ up_to_first query qs
up_on query [] qs none = refl
up_on query (r ∷ rs) qs none =
    on_if (is_match query r) (some_match query rs) r rs (up_to_first query (rs ++ qs)) (up_to_first query qs) none (up_on query rs qs)

pub all_up : (query : QueryTree) (rs : List ReadResult) → some_match query rs ≡ false → up_to_first query rs ≡ rs
all_up query rs none = ap (up_to_first query) (sym (append-nil rs)) ∙ up_on query rs [] none ∙ append-nil rs

few_if : (b : Bool) (xs : List ReadResult) (n : ℕ) → length xs ≤ n → length (if b then [] else xs) ≤ n
few_if true xs n few = omega arith
few_if false xs n few = few

pub up_few : (query : QueryTree) (rs : List ReadResult) → length (up_to_first query rs) ≤ length rs
up_few query [] = omega arith
up_few query (r ∷ rs) = let few = few_if (is_match query r) (up_to_first query rs) (length rs) (up_few query rs) in omega (arith, few)

some_if : (b m n : Bool) → (if b then true else m) ≡ true → (m ≡ true → n ≡ true) → (if b then true else n) ≡ true
some_if true m n some stays = refl
some_if false m n some stays = stays some

pub some_grows : (query : QueryTree) (rs qs : List ReadResult) → some_match query rs ≡ true → some_match query (rs ++ qs) ≡ true
some_grows query [] qs some = absurd cc
some_grows query (r ∷ rs) qs some = some_if (is_match query r) (some_match query rs) (some_match query (rs ++ qs)) some (some_grows query rs qs)

-- ---- counts

count_cons : (query : QueryTree) (r : ReadResult) (rs : List ReadResult) → count_by (is_match query) (r ∷ rs) ≡ cond (is_match query r) 1 0 + count_by (is_match query) rs
count_cons query r rs = sum_by-cons (λ q. cond (is_match query q) 1 0) r rs

counted_if : (query : QueryTree) (r : ReadResult) (rs : List ReadResult) → 0 < count_by (is_match query) (r ∷ rs)
    → (0 < count_by (is_match query) rs → some_match query rs ≡ true) → (is_match query r ≡ true) ⊎ (is_match query r ≡ false)
    → some_match query (r ∷ rs) ≡ true
counted_if query r rs some later (inl is) = ap (λ b. if b then true else some_match query rs) is
counted_if query r rs some later (inr is) =
    let c = count_cons query r rs in
    let z : ◌≡◌ {A = ℕ} (cond (is_match query r) 1 0) 0 = ap (λ b. cond b 1 0) is in
    ap (λ b. if b then true else some_match query rs) is ∙ later (omega (arith, some, c, z))

pub some_counted : (query : QueryTree) (rs : List ReadResult) → 0 < count_by (is_match query) rs → some_match query rs ≡ true
some_counted query [] some = absurd (omega (arith, some))
some_counted query (r ∷ rs) some = counted_if query r rs some (some_counted query rs) (cases_Bool (is_match query r))

uncounted_if : (query : QueryTree) (r : ReadResult) (rs : List ReadResult) → count_by (is_match query) (r ∷ rs) ≡ 0
    → (count_by (is_match query) rs ≡ 0 → some_match query rs ≡ false) → (is_match query r ≡ true) ⊎ (is_match query r ≡ false)
    → some_match query (r ∷ rs) ≡ false
uncounted_if query r rs none later (inl is) =
    let c = count_cons query r rs in
    let z : ◌≡◌ {A = ℕ} (cond (is_match query r) 1 0) 1 = ap (λ b. cond b 1 0) is in
    absurd (omega (arith, none, c, z))
uncounted_if query r rs none later (inr is) =
    let c = count_cons query r rs in
    let z : ◌≡◌ {A = ℕ} (cond (is_match query r) 1 0) 0 = ap (λ b. cond b 1 0) is in
    ap (λ b. if b then true else some_match query rs) is ∙ later (omega (arith, none, c, z))

pub none_counted : (query : QueryTree) (rs : List ReadResult) → count_by (is_match query) rs ≡ 0 → some_match query rs ≡ false
none_counted query [] none = refl
none_counted query (r ∷ rs) none = uncounted_if query r rs none (none_counted query rs) (cases_Bool (is_match query r))

-- a match among the games up to the first is one among all
pub some_of_first : (query : QueryTree) (rs : List ReadResult) → some_match query (up_to_first query rs) ≡ some_match query rs
some_of_first query [] = refl
some_of_first query (r ∷ rs) = first_if (is_match query r) refl (some_of_first query rs)
  where
    first_if : (b : Bool) → is_match query r ≡ b → some_match query (up_to_first query rs) ≡ some_match query rs
        → (if is_match query r then true else some_match query (if is_match query r then [] else up_to_first query rs)) ≡ (if is_match query r then true else some_match query rs)
    first_if true is same = ap (λ b. if b then true else some_match query (if b then [] else up_to_first query rs)) is ∙ sym (ap (λ b. if b then true else some_match query rs) is)
    first_if false is same =
        ap (λ b. if b then true else some_match query (if b then [] else up_to_first query rs)) is ∙ same ∙ sym (ap (λ b. if b then true else some_match query rs) is)

-- ---- the export

no_export : (query : QueryTree) (r : ReadResult) → is_match query r ≡ false → export_if query r ≡ []
no_export query (Ok game) none = ap (λ b. cond b (export_text (marked query game)) []) none
no_export query (Err fault) none = refl

export_one : (query : QueryTree) (r : ReadResult) (up : List ReadResult) (rest : List ℕ) (b : Bool) → is_match query r ≡ b → flat_map (export_if query) up ≡ rest
    → export_if query r ++ flat_map (export_if query) (if b then [] else up) ≡ (if b then export_if query r else rest)
export_one query r up rest true is same = append-nil (export_if query r)
export_one query r up rest false is same = ap₂ (λ xs ys. xs ++ ys) (no_export query r is) same

pub first_is : (query : QueryTree) (rs : List ReadResult) → flat_map (export_if query) (up_to_first query rs) ≡ first_export query rs
first_is query [] = refl
first_is query (r ∷ rs) = export_one query r (up_to_first query rs) (first_export query rs) (is_match query r) refl (first_is query rs)

first_none : (b m : Bool) (xs ys : List ℕ) → (if b then true else m) ≡ false → (m ≡ false → ys ≡ []) → (if b then xs else ys) ≡ []
first_none true m xs ys none same = absurd cc
first_none false m xs ys none same = same none

pub no_first : (query : QueryTree) (rs : List ReadResult) → some_match query rs ≡ false → first_export query rs ≡ []
no_first query [] none = refl
no_first query (r ∷ rs) none = first_none (is_match query r) (some_match query rs) (export_if query r) (first_export query rs) none (no_first query rs)

-- ---- the texts

pub are_first : (query : QueryTree) (rs : List ReadResult) → AreFirstMatchTexts query rs (tally_of query (up_to_first query rs)).refused (first_texts_of query rs)
are_first query rs = record { export = refl; report = refl; count = refl }

same_texts : (out out' err err' : List ℕ) → out ≡ out' → err ≡ err' → ◌≡◌ {A = Texts} (record { out = out; err = err }) (record { out = out'; err = err' })
same_texts out out' err err' e f = cc

pub texts_same : (query : QueryTree) (rs qs : List ReadResult) → some_match query rs ≡ true → first_texts_of query (rs ++ qs) ≡ first_texts_of query rs
texts_same query rs qs some =
    let same = up_same query rs qs some in
    same_texts _ _ _ _ (sym (first_is query (rs ++ qs)) ∙ ap (flat_map (export_if query)) same ∙ first_is query rs) (ap (report_of query) same)

-- ---- the answers of a batch up to its first match

pub record UpTo (query : QueryTree) (n : ℕ) (games : KeptGames) (answers : List GameAnswer) : Type 0 where
  pub outcomes : List ReadResult
  pub are_read : AreReadResults games outcomes
  pub are : answers ≡ answers_from query n (up_to_first query outcomes)

found_if : (b : Bool) (text : List ℕ) (game : Game) (query : QueryTree) → is_found (cond b (Match text (values_in (keys query game))) Miss) ≡ b
found_if true text game query = refl
found_if false text game query = refl

same_match : (query : QueryTree) (n : ℕ) (r : ReadResult) → is_match_kept (answer_of query n r) ≡ is_match query r
same_match query n (Ok game) = found_if (has_match query game) (export_text (marked query game)) game query
same_match query n (Err fault) = refl

ends_here : (query : QueryTree) (n : ℕ) (r : ReadResult) (rs : List ReadResult) (a : GameAnswer) (answers : List GameAnswer) → a ≡ answer_of query n r → is_match_kept a ≡ true → answers ≡ []
    → a ∷ answers ≡ answers_from query n (up_to_first query (r ∷ rs))
unfolding answers_from
ends_here query n r rs a answers is some none =
    let t : is_match query r ≡ true = sym (same_match query n r) ∙ ap is_match_kept (sym is) ∙ some in
    ap₂ (λ x xs. x ∷ xs) is (none ∙ ap (λ b. answers_from query (n + 1) (if b then [] else up_to_first query rs)) (sym t))

goes_on : (query : QueryTree) (n : ℕ) (r : ReadResult) (rs : List ReadResult) (a : GameAnswer) (answers : List GameAnswer) → a ≡ answer_of query n r → is_match_kept a ≡ false
    → answers ≡ answers_from query (n + 1) (up_to_first query rs) → a ∷ answers ≡ answers_from query n (up_to_first query (r ∷ rs))
unfolding answers_from
goes_on query n r rs a answers is none later =
    let f : is_match query r ≡ false = sym (same_match query n r) ∙ ap is_match_kept (sym is) ∙ none in
    ap₂ (λ x xs. x ∷ xs) is (later ∙ ap (λ b. answers_from query (n + 1) (if b then [] else up_to_first query rs)) (sym f))

no_answers : (query : QueryTree) (n : ℕ) → answers_from query n [] ≡ []
unfolding answers_from
no_answers query n = refl

pub up_to : HaveOutcomes → (query : QueryTree) (n : ℕ) (games : KeptGames) (answers : List GameAnswer) → AreUpToFirst query n games answers → UpTo query n games answers
up_to have query n [] [] are = record { outcomes = []; are_read = tt; are = sym (no_answers query n) }
up_to have query n [] (a ∷ answers) are = absurd are
up_to have query n (g ∷ games) [] are = absurd are
up_to have query n (g ∷ games) (a ∷ answers) (is, inl (some, none)) =
    let rest : Rest games = rest_of have games in
    record {
      outcomes = is.0 ∷ rest.outcomes;
      are_read = (is.1, rest.are_read);
      are = ends_here query n is.0 rest.outcomes a answers is.2 some none;
    }
up_to have query n (g ∷ games) (a ∷ answers) (is, inr (none, later)) =
    let rest : UpTo query (n + 1) games answers = up_to have query (n + 1) games answers later in
    record {
      outcomes = is.0 ∷ rest.outcomes;
      are_read = (is.1, rest.are_read);
      are = goes_on query n is.0 rest.outcomes a answers is.2 none rest.are;
    }
