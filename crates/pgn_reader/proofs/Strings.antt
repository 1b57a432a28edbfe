-- The value of a string.
use Rattle.std.proofs.Common.{◌≡◌, ℕ, ◌≤◌, List, [], ◌++◌, length, drop, refl, sym, ap, ◌∙◌, append-nil}
use Rattle.std.proofs.lemmas.List.{drop_all}
use Rattle.pgn_reader.specs.Tags.{unescaped}

unescaped_none : unescaped [] ≡ []
unfolding unescaped
unescaped_none = refl

-- nothing is left
pub all_written : (value text : List ℕ) (at : ℕ) → length text ≤ at → value ++ unescaped (drop at text) ≡ unescaped text → value ≡ unescaped text
all_written value text at done is =
    sym (append-nil value) ∙ ap (λ x. value ++ x) (sym unescaped_none) ∙ ap (λ x. value ++ unescaped x) (sym (drop_all at text done)) ∙ is
