-- Lines to which texts are added.
use Rattle.std.proofs.Common.{◌≡◌, ℕ, List, ◌++◌, append_assoc, Ok, Err, sym, ap, ◌∙◌}
use Rattle.std.specs.Prelude.{Result, OnOk}

-- the clause of a success
pub on_ok : {T E : Type 0} {A B : Type 0} (result : Result T E) → (A → B) → OnOk result A → OnOk result B
on_ok (Ok x) f a = f a
on_ok (Err e) f a = tt

-- a line to which two texts are added
pub two_more : (line mid new a b c d : List ℕ) → mid ≡ line ++ (a ++ b) → new ≡ mid ++ (c ++ d) → new ≡ line ++ (((a ++ b) ++ c) ++ d)
two_more line mid new a b c d e f =
    f ∙ ap (λ l. l ++ (c ++ d)) e ∙ append_assoc line (a ++ b) (c ++ d) ∙ ap (λ l. line ++ l) (sym (append_assoc (a ++ b) c d))
