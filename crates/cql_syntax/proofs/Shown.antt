-- The result of a call is shown by a term, and so by each term that equals it.
use Rattle.std.proofs.Common.{◌≡◌, subst}
use Rattle.std.specs.Prelude.{Result, IfOk}

pub shown : {A E B : Type 0} (show : A → B) (r : Result A E) (x y : B) → x ≡ y → IfOk r (λ a. show a ≡ x) → IfOk r (λ a. show a ≡ y)
shown show r x y same = subst (λ z. IfOk r (λ a. show a ≡ z)) same
