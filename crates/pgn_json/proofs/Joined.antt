-- The members of an object, one after the other.
use Rattle.std.proofs.Common.{◌≡◌, ℕ, false, List, [], ◌∷◌, ◌++◌, length, ap, ◌∙◌, sym, append_assoc, append-nil, codes}
use Rattle.std.proofs.lemmas.Grind.{flat_map-append}
use Rattle.std.specs.List.{flat_map}
use Rattle.std.specs.Prelude.{if◌then◌else◌, ◌==◌}
use Rattle.pgn_json.specs.Values.{array, array_member, member, next, object, plain, separated}

regrouped : (line o g b t s r n m x e : List ℕ)
    → ((((((line ++ (o ++ (g ++ b))) ++ t) ++ (s ++ r)) ++ n) ++ m) ++ x) ++ e ≡ line ++ (o ++ ((g ++ (b ++ (t ++ (s ++ (r ++ (n ++ (m ++ (x ++ [])))))))) ++ e))
regrouped line o g b t s r n m x e = simp (append_assoc, append-nil)

pub game_joined : (line g b t s r x : List ℕ) (notes marks : List (List ℕ))
    → ((((((line ++ (codes "{" ++ (g ++ next b))) ++ next t) ++ (next s ++ next r)) ++ flat_map next notes) ++ flat_map next marks) ++ next x) ++ codes "}"
    ≡ line ++ object (g ∷ b ∷ t ∷ s ∷ r ∷ (notes ++ (marks ++ (x ∷ []))))
game_joined line g b t s r x notes marks =
    let ends : flat_map next (notes ++ (marks ++ (x ∷ []))) ≡ flat_map next notes ++ (flat_map next marks ++ (next x ++ []))
    = flat_map-append next notes (marks ++ (x ∷ [])) ∙ ap (λ l. flat_map next notes ++ l) (flat_map-append next marks (x ∷ [])) in
    regrouped line (codes "{") g (next b) (next t) (next s) (next r) (flat_map next notes) (flat_map next marks) (next x) (codes "}")
    ∙ ap (λ l. line ++ (codes "{" ++ ((g ++ (next b ++ (next t ++ (next s ++ (next r ++ l))))) ++ codes "}"))) (sym ends)

node_regrouped : (line o p l u s n f e : List ℕ)
    → ((((line ++ (o ++ (p ++ l))) ++ (u ++ s)) ++ n) ++ f) ++ e ≡ line ++ (o ++ ((p ++ (l ++ (u ++ (s ++ (n ++ f))))) ++ e))
node_regrouped line o p l u s n f e = simp append_assoc

pub node_joined : (line p l u s : List ℕ) (notes fens : List (List ℕ))
    → ((((line ++ (codes "{" ++ (p ++ next l))) ++ (next u ++ next s)) ++ flat_map next notes) ++ flat_map next fens) ++ codes "}"
    ≡ line ++ object (p ∷ l ∷ u ∷ s ∷ (notes ++ fens))
node_joined line p l u s notes fens =
    node_regrouped line (codes "{") p (next l) (next u) (next s) (flat_map next notes) (flat_map next fens) (codes "}")
    ∙ ap (λ x. line ++ (codes "{" ++ ((p ++ (next l ++ (next u ++ (next s ++ x)))) ++ codes "}"))) (sym (flat_map-append next notes fens))

bracketed : (line c p k s e : List ℕ) → ((line ++ (c ++ (p ++ k))) ++ s) ++ e ≡ line ++ ((c ++ (p ++ (k ++ (s ++ e)))) ++ [])
bracketed line c p k s e = simp (append_assoc, append-nil)

-- a member with values
pub array_written : (line l1 l2 l3 name : List ℕ) (values : List (List ℕ)) → (length values == 0) ≡ false
    → l1 ≡ line ++ (codes "," ++ (plain name ++ codes ":[")) → l2 ≡ l1 ++ separated values → l3 ≡ l2 ++ codes "]"
    → l3 ≡ line ++ flat_map next (array_member name values)
array_written line l1 l2 l3 name values some_ one two three =
    three ∙ ap (λ l. l ++ codes "]") (two ∙ ap (λ l. l ++ separated values) one)
    ∙ bracketed line (codes ",") (plain name) (codes ":[") (separated values) (codes "]")
    ∙ ap (λ b. line ++ flat_map next (if b then [] else member name (array values) ∷ [])) (sym some_)
