-- Groups of rows, the last group first.
use Rattle.std.proofs.Common.{◌≡◌, List, [], ◌∷◌, ◌++◌, reverse, sym, ap, ◌∙◌, append_assoc, append-nil}
use Rattle.std.specs.Prelude.{flat_map}
use Rattle.std.proofs.lemmas.List.{reverse-append}
use Rattle.std.proofs.lemmas.List.Concat.{flat_map-cons}
use Rattle.pgn_reader.specs.Internal.Frame.{NodeRow}
use Rattle.pgn_reader.specs.Internal.LineInside.{backwards}

pub backwards_last : {A : Type 0} (f : A → List NodeRow) (groups : List A) (g : A) → backwards f (groups ++ g ∷ []) ≡ f g ++ backwards f groups
backwards_last f groups g = ap (flat_map f) (reverse-append groups (g ∷ [])) ∙ flat_map-cons f g (reverse groups)

-- one group more was added
pub group_added : {A : Type 0} (f : A → List NodeRow) (rows more all : List NodeRow) (was groups : List A) (g : A) → was ≡ groups ++ g ∷ [] → more ≡ rows ++ f g → rows ++ backwards f was ≡ all
    → more ++ backwards f groups ≡ all
group_added f rows more all was groups g was_is more_is is =
    ap (λ x. x ++ backwards f groups) more_is ∙ append_assoc rows (f g) (backwards f groups) ∙ ap (λ x. rows ++ x) (sym (backwards_last f groups g))
    ∙ ap (λ x. rows ++ backwards f x) (sym was_is) ∙ is

pub groups_done : {A : Type 0} (f : A → List NodeRow) (rows all : List NodeRow) (groups : List A) → groups ≡ [] → rows ++ backwards f groups ≡ all → rows ≡ all
groups_done f rows all groups none is = sym (append-nil rows) ∙ ap (λ x. rows ++ backwards f x) (sym none) ∙ is

-- one row more was added
pub item_added : {A : Type 0} (rows more was rest all : List A) (x : A) → more ≡ rows ++ x ∷ [] → was ≡ x ∷ rest → rows ++ was ≡ all → more ++ rest ≡ all
item_added rows more was rest all x more_is was_is is =
    ap (λ y. y ++ rest) more_is ∙ append_assoc rows (x ∷ []) rest ∙ ap (λ y. rows ++ y) (sym was_is) ∙ is

-- rows to which others were added three times
pub in_order : {A : Type 0} (rows more second here third earlier all : List A) → second ≡ rows ++ more → third ≡ second ++ here → all ≡ third ++ earlier
    → all ≡ rows ++ (more ++ (here ++ earlier))
in_order rows more second here third earlier all second_is third_is all_is =
    all_is ∙ ap (λ y. y ++ earlier) (third_is ∙ ap (λ y. y ++ here) second_is) ∙ append_assoc (rows ++ more) here earlier
    ∙ append_assoc rows more (here ++ earlier)
