-- The nodes at which the evaluation of queries starts, query by query.
use Rattle.std.proofs.Common.{◌≡◌, ℕ, zero, suc, ◌+◌, ◌<◌, ◌≤◌, Bool, true, false, ◌&&◌, List, [], ◌∷◌, ◌++◌, length, take, map, get_or, refl, sym, ap, ◌∙◌, subst, arith, nat_lt, length-append, ⊎_elim}
use Rattle.std.specs.List.{list_any}
use Rattle.std.proofs.lemmas.Bool.{cases_lt, lt-ltb, le-ltb, and_parts, and_from, or_left, or_right, ltb-true}
use Rattle.std.proofs.lemmas.List.{take_more, take_all}
use Rattle.cq_position.specs.Games.{Game, is_searched}
use Rattle.cql_plan.specs.Needs.{query_passes}
use Rattle.cql_syntax.specs.Flat.{flat_query}
use Rattle.cql_syntax.specs.Leaves.{same_flag}
use Rattle.cql_syntax.specs.Trees.{FilterTree, QueryTree}
use Rattle.cql_syntax.specs.Unplaced.{same_unplaced}
use Rattle.cq_shared.specs.PartOwners.{owner_query, AreOwners}
use Rattle.cq_shared.specs.Internal.FirstNodes.{is_start_node, AreStartNodes}
use Rattle.cq_shared.specs.Interning.{all_shown}
use Rattle.cq_shared.specs.Matching.{is_left, is_owned_by, AreReady}
use Rattle.cq_shared.specs.Parts.{PartTree, query_parts, parts_in, parts_with, same_part}
use Rattle.cq_shared.specs.Singles.{shown}
use Rattle.cq_shared.specs.StepBounds.{AdmitsAll, has_part, is_needed_in}
use Rattle.cq_shared.specs.declared.nodes.NodeSet.{NodeSet}
use Rattle.cq_shared.specs.declared.part.PartOwner.{PartOwner}
use Rattle.cq_shared.specs.declared.part.Part.{Part}
use Rattle.cq_shared.proofs.Meeting.{among_at, asked_read, flag_is}
use Rattle.cq_shared.proofs.Seeking.{at_read}
use Rattle.cq_shared.proofs.Gaining.{shown_length, shown_read}
use Rattle.cq_shared.proofs.Unions.{Told, past_end, left_before, left_last, left_past}

-- the nodes of one query

pub begun_by : (test : ℕ → Bool) (many k : ℕ) (items : List Bool) → many ≤ k → k ≤ many → Told test k items → (n : ℕ) → get_or items n false ≡ (nat_lt n many && test n)
begun_by test many k items high low had n = ⊎_elim
    (λ less. had.each n (omega (arith, less, high)) ∙ ap (λ b. b && test n) (sym (lt-ltb n many less)))
    (λ past. past_end false items n (omega (arith, past, low, had.count)) ∙ ap (λ b. b && test n) (sym (le-ltb n many past)))
    (cases_lt n many)

-- query by query

pub begun_none : (game : Game) (owners : List PartOwner) (start_nodes : List NodeSet) → start_nodes ≡ [] → AreStartNodes game (take 0 owners) start_nodes
begun_none game owners start_nodes none = record { count = ap length none; each = λ q a low reads n. absurd (omega (arith, low)) }

read_before : (xs : List PartOwner) (y : PartOwner) (k : ℕ) (x : PartOwner) → k < length xs → x ≡ get_or (xs ++ y ∷ []) k x → x ≡ get_or xs k x
read_before [] y k x low reads = absurd (omega (arith, low))
read_before (z ∷ zs) y zero x low reads = reads
read_before (z ∷ zs) y (suc k) x low reads = read_before zs y k x (omega (arith, low)) reads

read_end : (xs : List PartOwner) (y x : PartOwner) → get_or (xs ++ y ∷ []) (length xs) x ≡ y
read_end [] y x = refl
read_end (z ∷ zs) y x = read_end zs y x

begun_snoc : (game : Game) (owners : List PartOwner) (a : PartOwner) (start_nodes : List NodeSet) (x : NodeSet) → ((n : ℕ) → get_or x.there.items n false ≡ is_start_node game (owner_query a) n)
    → AreStartNodes game owners start_nodes → AreStartNodes game (owners ++ a ∷ []) (start_nodes ++ x ∷ [])
begun_snoc game owners a start_nodes x is had = record {
  count = length-append start_nodes (x ∷ []) ∙ ap (λ i. i + 1) had.count ∙ sym (length-append owners (a ∷ []));
  each = λ q b low reads n. ⊎_elim
      (λ before. left_before start_nodes x q n (omega (arith, before, had.count)) ∙ had.each q b before (read_before owners a q b before reads) n)
      (λ past. let e : q ≡ length owners = omega (arith, past, low, length-append owners (a ∷ [])) in
      let here : b ≡ a = reads ∙ ap (λ j. get_or (owners ++ a ∷ []) j b) e ∙ read_end owners a b in
      left_last start_nodes x q n (e ∙ sym had.count) ∙ is n ∙ ap (λ y. is_start_node game (owner_query y) n) (sym here))
      (cases_lt q (length owners));
}

pub begun_more : (game : Game) (owners : List PartOwner) (i : ℕ) (a : PartOwner) (start_nodes later : List NodeSet) (x : NodeSet) → i < length owners → a ≡ get_or owners i a → later ≡ start_nodes ++ x ∷ []
    → ((n : ℕ) → get_or x.there.items n false ≡ is_start_node game (owner_query a) n) → AreStartNodes game (take i owners) start_nodes → AreStartNodes game (take (i + 1) owners) later
begun_more game owners i a start_nodes later x low reads more is had =
    subst (AreStartNodes game (take (i + 1) owners)) (sym more)
    (subst (λ xs. AreStartNodes game xs (start_nodes ++ x ∷ [])) (ap (λ y. take i owners ++ y ∷ []) reads ∙ sym (take_more owners i a low)) (begun_snoc game (take i owners) a start_nodes x is had))

pub begun_all : (game : Game) (owners : List PartOwner) (i : ℕ) (start_nodes : List NodeSet) → length owners ≤ i → AreStartNodes game (take i owners) start_nodes → AreStartNodes game owners start_nodes
begun_all game owners i start_nodes past had = subst (λ xs. AreStartNodes game xs start_nodes) (take_all i owners past) had

-- each query with a part has begun with nodes of the part's tree

record OneOf (owners : List PartOwner) (q : ℕ) : Type 0 where
  owner : PartOwner
  reads : owner ≡ get_or owners q owner

one_of : (owners : List PartOwner) (q : ℕ) → q < length owners → OneOf owners q
one_of [] q low = absurd (omega (arith, low))
one_of (x ∷ xs) zero low = record { owner = x; reads = refl }
one_of (x ∷ xs) (suc q) low = let e = one_of xs q (omega (arith, low)) in record { owner = e.owner; reads = e.reads }

there_below : (left : List NodeSet) (q n : ℕ) → is_left left q n ≡ true → q < length left
there_below left q n there = ⊎_elim (λ low. low) (λ past. absurd (no (left_past left q n past) there)) (cases_lt q (length left))
  where
    no : {b : Bool} → b ≡ false → b ≡ true → ⊥
    no e f = cc

with_variations : (v : Bool) (fs : List FilterTree) (k : ℕ) (p : PartTree) → k < length (parts_with v fs) → p ≡ get_or (parts_with v fs) k p → p.variations ≡ v
with_variations v [] k p low reads = absurd (omega (arith, low))
with_variations v (f ∷ fs) zero p low reads = ap (λ r. r.variations) reads
with_variations v (f ∷ fs) (suc k) p low reads = with_variations v fs k p (omega (arith, low)) reads

-- each part with a start node is one of a query whose needs the game meets

any_at : (h : PartTree → Bool) (ps : List PartTree) (k : ℕ) (p : PartTree) → k < length ps → p ≡ get_or ps k p → h p ≡ true → list_any h ps ≡ true
any_at h [] k p low reads is = absurd (omega (arith, low))
any_at h (x ∷ ps) zero p low reads is = or_left (h x) (list_any h ps) (ap h (sym reads) ∙ is)
any_at h (x ∷ ps) (suc k) p low reads is = or_right (h x) (list_any h ps) (any_at h ps k p (omega (arith, low)) reads is)

any_asked : (h : QueryTree → Bool) (owners : List PartOwner) (q : ℕ) (a : PartOwner) → q < length owners → a ≡ get_or owners q a → h (owner_query a) ≡ true
    → list_any h (map (λ b. owner_query b) owners) ≡ true
any_asked h [] q a low reads is = absurd (omega (arith, low))
any_asked h (x ∷ owners) zero a low reads is = or_left (h (owner_query x)) (list_any h (map (λ b. owner_query b) owners)) (ap (λ b. h (owner_query b)) (sym reads) ∙ is)
any_asked h (x ∷ owners) (suc q) a low reads is =
    or_right (h (owner_query x)) (list_any h (map (λ b. owner_query b) owners)) (any_asked h owners q a (omega (arith, low)) reads is)

pub begun_admits : (game : Game) (parts : List Part) (owners : List PartOwner) (start_nodes : List NodeSet) → AreOwners parts owners → AreStartNodes game owners start_nodes
    → AdmitsAll (λ p. is_needed_in game (map (λ a. owner_query a) owners) (shown p.single)) start_nodes parts
begun_admits game parts owners start_nodes are had = λ k p low reads w.
    let l = there_below start_nodes w.query w.node w.there in
    let below : w.query < length owners = omega (arith, l, had.count) in
    let one = one_of owners w.query below in
    let a = one.owner in
    let b : is_start_node game (owner_query a) w.node ≡ true = sym (had.each w.query a below one.reads w.node) ∙ w.there in
    let is = are.each w.query a below one.reads in
    let found = among_at (all_shown parts) a.numbers.items (parts_in (owner_query a)) k is.numbers (sym (is.asked k) ∙ asked_read parts k w.query p low reads ∙ w.has) in
    let same = sym (at_read (all_shown parts) k (shown p.single) found.part (omega (arith, low, shown_length parts)) (shown_read parts k p reads low)) ∙ found.here in
    let searched : Bool = is_searched (owner_query a).variations game.nodes w.node in
    let later = and_parts (nat_lt w.node (length game.nodes)) (query_passes (owner_query a) game && searched) b in
    any_asked (λ q. query_passes q game && has_part (shown p.single) q) owners w.query a below one.reads
    (and_from (query_passes (owner_query a) game) (has_part (shown p.single) (owner_query a)) (and_parts (query_passes (owner_query a) game) searched later.1).0
    (any_at (same_part (shown p.single)) (parts_in (owner_query a)) found.number found.part found.low found.reads same))

pub begun_ready : (game : Game) (parts : List Part) (owners : List PartOwner) (start_nodes : List NodeSet) → AreOwners parts owners → AreStartNodes game owners start_nodes → AreReady game start_nodes parts
begun_ready game parts owners start_nodes are had = λ k p low reads. record {
  searched = λ q n has there. search_at k p low reads q n has there;
  inside = λ q n has there. (let b = begun q n there in ltb-true n (length game.nodes) (and_parts _ _ b.1).0);
}
  where
    begun : (q n : ℕ) → is_left start_nodes q n ≡ true → (a : OneOf owners q) × (is_start_node game (owner_query a.owner) n ≡ true)
    begun q n there =
        let l = there_below start_nodes q n there in let low : q < length owners = omega (arith, l, had.count) in
        let a = one_of owners q low in (a, sym (had.each q a.owner low a.reads n) ∙ there)

    search_at : (k : ℕ) (p : Part) → k < length parts → p ≡ get_or parts k p → (q n : ℕ) → is_owned_by q p ≡ true → is_left start_nodes q n ≡ true
        → is_searched p.single.query.variations game.nodes n ≡ true
    search_at k p low reads q n has there =
        let b = begun q n there in
        let a = b.0.owner in
        let l = there_below start_nodes q n there in let below : q < length owners = omega (arith, l, had.count) in
        let is = are.each q a below b.0.reads in
        let found = among_at (all_shown parts) a.numbers.items (parts_in (owner_query a)) k is.numbers (sym (is.asked k) ∙ asked_read parts k q p low reads ∙ has) in
        let same = sym (at_read (all_shown parts) k (shown p.single) found.part (omega (arith, low, shown_length parts)) (shown_read parts k p reads low)) ∙ found.here in
        let same_both = and_parts (same_flag p.single.query.variations found.part.variations) (same_unplaced (shown p.single).filter found.part.filter) same in
        let v = flag_is p.single.query.variations found.part.variations same_both.0
        ∙ with_variations (owner_query a).variations (query_parts (flat_query (owner_query a)).items) found.number found.part found.low found.reads in
        let searched : Bool = is_searched (owner_query a).variations game.nodes n in
        let later = and_parts (nat_lt n (length game.nodes)) (query_passes (owner_query a) game && searched) b.1 in
        ap (λ w. is_searched w game.nodes n) v ∙ (and_parts (query_passes (owner_query a) game) searched later.1).1
