-- The marks of an accepted query have no closing brace; a game is marked at its hits.
use Rattle.std.proofs.Common.{◌≡◌, ◌≢◌, ℕ, Bool, true, false, List, [], ◌∷◌, ◌++◌, All, None, refl, sym, ap, ◌∙◌, map, subst}
use Rattle.std.specs.Prelude.{nat_eq, ◌||◌}
use Rattle.std.specs.List.{flat_map}
use Rattle.std.proofs.lemmas.List.Elements.{All-nil, All-append, All-cons}
use Rattle.std.proofs.lemmas.List.Concat.{flat_map-cons}
use Rattle.std.proofs.lemmas.Grind.{flat_map-append}
use Rattle.cq_position.specs.Games.{Game}
use Rattle.cq_annotate.specs.Marking.{game_marked}
use Rattle.cql_syntax.specs.Hits.{form_texts, comment_texts, marks, hits, marked}
use Rattle.cql_syntax.specs.Kinds.{form_kind}
use Rattle.cql_syntax.specs.Occurrences.{Occurrence, occurrences, inner, of_items, top_item, sorts_with}
use Rattle.cql_syntax.specs.TreeFaults.{where_it, holds_brace, wrong_kind, below_top, past_four_sorts, unbound_name, brace_in_comment, rule_faults, broken_rules, tree_fault, tree_faults, first}
use Rattle.cql_syntax.specs.Trees.{filter_at, FormTree, comment, FilterTrees, no_filters, more_filters, QueryTree}
use Rattle.cql_syntax.specs.declared.fault.QueryReason.TheVariants.{TextHoldsBrace}

abbrev Unbraced : List ℕ → Type 0
Unbraced text = All (λ b. b ≢ 125) text

none_first : {A : Type 0} (xs ys : List A) → xs ++ ys ≡ [] → xs ≡ []
none_first [] ys e = refl
none_first (x ∷ xs) ys e = cc

none_second : {A : Type 0} (xs ys : List A) → xs ++ ys ≡ [] → ys ≡ []
none_second [] ys e = e
none_second (x ∷ xs) ys e = cc

last_of_five : {A : Type 0} (a b c d e : List A) → a ++ (b ++ (c ++ (d ++ e))) ≡ [] → e ≡ []
last_of_five a b c d e is = none_second d e (none_second c (d ++ e) (none_second b (c ++ (d ++ e)) (none_second a (b ++ (c ++ (d ++ e))) is)))

none_mapped : {A B : Type 0} (f : A → B) (xs : List A) → map f xs ≡ [] → xs ≡ []
none_mapped f [] e = refl
none_mapped f (x ∷ xs) e = cc

not_here : {A : Type 0} (test : Bool) (x : A) → where_it test x ≡ [] → test ≡ false
not_here false x e = refl
not_here true x e = cc

first_false : (a b : Bool) → (a || b) ≡ false → a ≡ false
first_false true b e = cc
first_false false b e = refl

second_false : (a b : Bool) → (a || b) ≡ false → b ≡ false
second_false true b e = cc
second_false false b e = e

other_byte : (b : ℕ) → nat_eq 125 b ≡ false → b ≢ 125
other_byte b e same = let x : nat_eq 125 125 ≡ false = subst (λ n. nat_eq 125 n ≡ false) same e in cc

no_brace : (text : List ℕ) → holds_brace text ≡ false → Unbraced text
no_brace [] e = All-nil (λ b. b ≢ 125)
no_brace (b ∷ text) e =
    All-cons (λ x. x ≢ 125) b text (other_byte b (first_false (nat_eq 125 b) (holds_brace text) e)) (no_brace text (second_false (nat_eq 125 b) (holds_brace text) e))

none_found : {A : Type 0} (xs : List A) → first xs ≡ None → xs ≡ []
none_found [] e = refl
none_found (x ∷ xs) e = cc

form_unbraced : (f : FormTree) → brace_in_comment f ≡ [] → All Unbraced (form_texts f)
form_unbraced (comment text) e = All-cons Unbraced text [] (no_brace text (not_here (holds_brace text) TextHoldsBrace e)) (All-nil Unbraced)
form_unbraced _ e = All-nil Unbraced

rule_kept : (o : Occurrence) → rule_faults o ≡ [] → brace_in_comment o.form ≡ []
rule_kept o e =
    let rules : broken_rules o ≡ [] = none_mapped (λ reason. record { byte = o.at; reason = reason }) (broken_rules o) e in
    last_of_five (wrong_kind o.standing.wanted (form_kind o.form)) (below_top o.standing.item o.form) (past_four_sorts o.standing.item o.form)
    (unbound_name o.standing.names o.form) (brace_in_comment o.form) rules

items_unbraced : (sorts : ℕ) (fs : FilterTrees) → flat_map rule_faults (of_items sorts fs) ≡ [] → All Unbraced (comment_texts fs)
unfolding of_items occurrences
items_unbraced sorts no_filters e = All-nil Unbraced
items_unbraced sorts (more_filters (filter_at at f) fs) e =
    let o : Occurrence = record { standing = top_item sorts; at = at; form = f } in
    let inside : List Occurrence = inner (top_item sorts) f in
    let rest : List Occurrence = of_items (sorts_with sorts (filter_at at f)) fs in
    let split : flat_map rule_faults (o ∷ inside) ++ flat_map rule_faults rest ≡ [] = sym (flat_map-append rule_faults (o ∷ inside) rest) ∙ e in
    let here : rule_faults o ++ flat_map rule_faults inside ≡ [] = sym (flat_map-cons rule_faults o inside) ∙ none_first _ _ split in
    All-append Unbraced (form_texts f) (comment_texts fs) (form_unbraced f (rule_kept o (none_first _ _ here)))
    (items_unbraced (sorts_with sorts (filter_at at f)) fs (none_second _ _ split))

pub marks_unbraced : (q : QueryTree) → tree_fault q ≡ None → All (λ text. All (λ b. b ≢ 125) text) (marks q)
unfolding tree_fault tree_faults marks
marks_unbraced q e =
    let all = none_found (tree_faults q) e in
    let match : holds_brace q.match_text ≡ false = not_here (holds_brace q.match_text) _ (none_first _ _ all) in
    All-cons Unbraced q.match_text (comment_texts q.items) (no_brace q.match_text match) (items_unbraced 0 q.items (none_first _ _ (none_second _ _ all)))

pub marked_by_hits : (q : QueryTree) (game : Game) (nodes : List ℕ) → nodes ≡ hits q game → game_marked (marks q) nodes game ≡ marked q game
unfolding marked
marked_by_hits q game nodes e = ap (λ ns. game_marked (marks q) ns game) e
