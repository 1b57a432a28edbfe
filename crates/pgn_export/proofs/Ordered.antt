-- The tags of a normal game are written in their order.
use Rattle.std.proofs.Common.{◌≡◌, ◌≢◌, ℕ, suc, ◌<◌, Bool, true, false, cond, List, [], ◌∷◌, ◌++◌, length, take, drop, Option, Some, None, refl, sym, ap, ◌∙◌, subst, arith, true≢false, append_assoc, append-nil, length-append}
use Rattle.std.specs.Prelude.{◌&&◌, not, codes, map, if◌then◌else◌}
use Rattle.std.specs.BTreeMap.{insert_entry}
use Rattle.std.specs.Cmp.Lexicographic.{slice_cmp, nat_list_cmp_total}
use Rattle.std.specs.List.{AllByRecursion, filter, find, fold, list_all}
use Rattle.std.specs.List.Sorted.{IsStrictlySortedBy}
use Rattle.std.specs.Option.{option_map, is_some}
use Rattle.std.specs.Ordering.{nat_cmp, match_ordering, ordering_reverse}
use Rattle.std.specs.Str.{bytes_eq}
use Rattle.std.specs.declared.cmp.Ordering.{Ordering}
use Rattle.std.specs.declared.cmp.Ordering.TheVariants.{Less, Equal, Greater}
use Rattle.std.proofs.lemmas.Slice.Eq.{bytes_eq-Decides}
use Rattle.std.proofs.lemmas.Map.Keys.{sorted_tail}
use Rattle.std.proofs.lemmas.Map.Views.{All-after_first}
use Rattle.std.proofs.lemmas.List.{get_or_append_left}
use Rattle.std.proofs.Math.Seq.{get_or-append_seam}
use Rattle.cq_position.specs.Games.{Game, tag_at, tag_value, with_tag, HaveDistinctNames}
use Rattle.pgn_reader.specs.Tags.{with_pair, tags_of}
use Rattle.pgn_tree.specs.Results.{result_text}
use Rattle.pgn_export.specs.NormalGames.{IsNormal, roster_names}
use Rattle.pgn_export.specs.TagLines.{roster, is_in_roster, roster_tag, put, sorted, other_tags, written_tags}
use Rattle.pgn_export.proofs.Pairs.{pair_of, value_back}
use Rattle.pgn_export.proofs.Remarks.{all_each}

abbrev pub Tag : Type 0
Tag = List ℕ × List ℕ

abbrev pub before : List ℕ → List ℕ → Ordering
before = slice_cmp nat_cmp

abbrev pub AreSorted : List Tag → Type 0
AreSorted tags = IsStrictlySortedBy before (map (λ t. t.0) tags)

-- a name after another
pub turned : (a b : List ℕ) → before a b ≡ Less → before b a ≡ Greater
turned a b less = nat_list_cmp_total.antisymm b a ∙ ap ordering_reverse less

self_by : (o : Ordering) → o ≡ ordering_reverse o → o ≡ Equal
self_by Less e = absurd cc
self_by Equal e = refl
self_by Greater e = absurd cc

pub same_name : (a : List ℕ) → before a a ≡ Equal
same_name a = self_by (before a a) (nat_list_cmp_total.antisymm a a)

-- a tag whose name comes after all others is put last
put_last : (tags : List Tag) (t : Tag) → AllByRecursion (λ name. before name t.0 ≡ Less) (map (λ u. u.0) tags) → put tags t ≡ tags ++ t ∷ []
put_last [] t all = refl
put_last (u ∷ us) t all =
    ap (λ o. match_ordering o ((t.0, t.1) ∷ u ∷ us) ((u.0, t.1) ∷ us) (u ∷ insert_entry before us t.0 t.1)) (turned u.0 t.0 all.0)
    ∙ ap (λ l. u ∷ l) (put_last us t all.1)

-- names in order: the first is before the others, and these are in order
first_less : (t : Tag) (ts : List Tag) → AreSorted (t ∷ ts) → AllByRecursion (λ y. before t.0 y ≡ Less) (map (λ u. u.0) ts)
first_less t ts all = all_each (λ y. before t.0 y ≡ Less) (map (λ u. u.0) ts) (All-after_first before t.0 (map (λ u. u.0) ts) all)

rest_sorted : (t : Tag) (ts : List Tag) → AreSorted (t ∷ ts) → AreSorted ts
rest_sorted t ts all = sorted_tail before t.0 (map (λ u. u.0) ts) all

-- names in order, cut anywhere
seam : (xs ys : List Tag) (t : Tag) (name : List ℕ) → AllByRecursion (λ y. before name y ≡ Less) (map (λ u. u.0) (xs ++ (t ∷ ys))) → before name t.0 ≡ Less
seam [] ys t name all = all.0
seam (x ∷ xs) ys t name all = seam xs ys t name all.1

all_before : (xs ys : List Tag) (t : Tag) → AreSorted (xs ++ (t ∷ ys)) → AllByRecursion (λ name. before name t.0 ≡ Less) (map (λ u. u.0) xs)
all_before [] ys t all = tt
all_before (x ∷ xs) ys t all = (seam xs ys t x.0 (first_less x (xs ++ (t ∷ ys)) all), all_before xs ys t (rest_sorted x (xs ++ (t ∷ ys)) all))

put_all : (ts done : List Tag) → AreSorted (done ++ ts) → fold put done ts ≡ done ++ ts
put_all [] done all = sym (append-nil done)
put_all (t ∷ ts) done all =
    ap (λ l. fold put l ts) (put_last done t (all_before done ts t all))
    ∙ put_all ts (done ++ t ∷ []) (subst AreSorted (sym (append_assoc done (t ∷ []) ts)) all)
    ∙ append_assoc done (t ∷ []) ts

pub sorted_same : (tags : List Tag) → AreSorted tags → sorted tags ≡ tags
sorted_same tags all = put_all tags [] all

-- a tag that is there is put in its own place
some_is : (a b : List ℕ) → Some a ≡ Some b → a ≡ b
some_is a b e = cc

by_found : (t : Bool) (u : Tag) (rest : Option Tag) (value : List ℕ) {P : Type 0} → option_map (λ t. t.1) (cond t (Some u) rest) ≡ Some value
    → (t ≡ true → u.1 ≡ value → P) → (t ≡ false → option_map (λ t. t.1) rest ≡ Some value → P) → P
by_found true u rest value is here later = here refl (some_is u.1 value is)
by_found false u rest value is here later = later refl is

found_less : (name other : List ℕ) (tags : List Tag) (value : List ℕ) → tag_value other tags ≡ Some value → AllByRecursion (λ y. before name y ≡ Less) (map (λ u. u.0) tags) → before name other ≡ Less
found_less name other [] value is all = absurd (let e : None ≡ Some value = is in cc)
found_less name other (u ∷ us) value is all =
    by_found (bytes_eq other u.0) u (find (λ t. bytes_eq other t.0) us) value is
    (λ same here. subst (λ n. before name n ≡ Less) (sym ((bytes_eq-Decides other u.0).0 same)) all.0)
    (λ differ later. found_less name other us value later all.1)

put_same : (tags : List Tag) (name value : List ℕ) → AreSorted tags → tag_value name tags ≡ Some value → put tags (name, value) ≡ tags
put_same [] name value all is = absurd (let e : None ≡ Some value = is in cc)
put_same (u ∷ us) name value all is =
    by_found (bytes_eq name u.0) u (find (λ t. bytes_eq name t.0) us) value is
    (λ same here.
    ap (λ o. match_ordering o ((name, value) ∷ u ∷ us) ((u.0, value) ∷ us) (u ∷ insert_entry before us name value)) (ap (λ n. before n u.0) ((bytes_eq-Decides name u.0).0 same) ∙ same_name u.0)
    ∙ ap (λ v. (u.0, v) ∷ us) (sym here))
    (λ differ later.
    ap (λ o. match_ordering o ((name, value) ∷ u ∷ us) ((u.0, value) ∷ us) (u ∷ insert_entry before us name value)) (turned u.0 name (found_less u.0 name us value later (first_less u us all)))
    ∙ ap (λ l. u ∷ l) (put_same us name value (rest_sorted u us all) later))

-- a list of seven tags and others
record Seven (tags : List Tag) : Type 0 where
  one : List ℕ
  two : List ℕ
  three : List ℕ
  four : List ℕ
  five : List ℕ
  six : List ℕ
  seven : List ℕ
  is : tags ≡ (codes "Event", one) ∷ (codes "Site", two) ∷ (codes "Date", three) ∷ (codes "Round", four) ∷ (codes "White", five) ∷ (codes "Black", six) ∷ (codes "Result", seven) ∷ drop 7 tags

named : (t : Tag) (name : List ℕ) → t.0 ≡ name → t ≡ (name, t.1)
named t name is = ap (λ (n : List ℕ). (n, t.1)) is

first_is : (a b : List ℕ) (us vs : List (List ℕ)) → a ∷ us ≡ b ∷ vs → (a ≡ b) × (us ≡ vs)
first_is a b us vs e = (cc, cc)

shorter : (n m : ℕ) (us vs : List (List ℕ)) → n < m → length us ≡ n → length vs ≡ m → us ≡ vs → ⊥
shorter n m us vs less a b e = let l = ap length e in omega (arith, less, a, b, l)

seven_of : (tags : List Tag) → map (λ t. t.0) (take 7 tags) ≡ roster_names → Seven tags
seven_of [] e = absurd (shorter 0 7 _ _ (omega arith) refl refl e)
seven_of (a ∷ []) e = absurd (shorter 1 7 _ _ (omega arith) refl refl e)
seven_of (a ∷ b ∷ []) e = absurd (shorter 2 7 _ _ (omega arith) refl refl e)
seven_of (a ∷ b ∷ c ∷ []) e = absurd (shorter 3 7 _ _ (omega arith) refl refl e)
seven_of (a ∷ b ∷ c ∷ d ∷ []) e = absurd (shorter 4 7 _ _ (omega arith) refl refl e)
seven_of (a ∷ b ∷ c ∷ d ∷ f ∷ []) e = absurd (shorter 5 7 _ _ (omega arith) refl refl e)
seven_of (a ∷ b ∷ c ∷ d ∷ f ∷ g ∷ []) e = absurd (shorter 6 7 _ _ (omega arith) refl refl e)
seven_of (a ∷ b ∷ c ∷ d ∷ f ∷ g ∷ h ∷ rest) e =
    let e1 = first_is a.0 (codes "Event") _ _ e in
    let e2 = first_is b.0 (codes "Site") _ _ e1.1 in
    let e3 = first_is c.0 (codes "Date") _ _ e2.1 in
    let e4 = first_is d.0 (codes "Round") _ _ e3.1 in
    let e5 = first_is f.0 (codes "White") _ _ e4.1 in
    let e6 = first_is g.0 (codes "Black") _ _ e5.1 in
    let e7 = first_is h.0 (codes "Result") _ _ e6.1 in
    record {
      one = a.1;
      two = b.1;
      three = c.1;
      four = d.1;
      five = f.1;
      six = g.1;
      seven = h.1;
      is =
          ap (λ x. x ∷ b ∷ c ∷ d ∷ f ∷ g ∷ h ∷ rest) (named a (codes "Event") e1.0)
          ∙ ap (λ x. (codes "Event", a.1) ∷ x ∷ c ∷ d ∷ f ∷ g ∷ h ∷ rest) (named b (codes "Site") e2.0)
          ∙ ap (λ x. (codes "Event", a.1) ∷ (codes "Site", b.1) ∷ x ∷ d ∷ f ∷ g ∷ h ∷ rest) (named c (codes "Date") e3.0)
          ∙ ap (λ x. (codes "Event", a.1) ∷ (codes "Site", b.1) ∷ (codes "Date", c.1) ∷ x ∷ f ∷ g ∷ h ∷ rest) (named d (codes "Round") e4.0)
          ∙ ap (λ x. (codes "Event", a.1) ∷ (codes "Site", b.1) ∷ (codes "Date", c.1) ∷ (codes "Round", d.1) ∷ x ∷ g ∷ h ∷ rest) (named f (codes "White") e5.0)
          ∙ ap (λ x. (codes "Event", a.1) ∷ (codes "Site", b.1) ∷ (codes "Date", c.1) ∷ (codes "Round", d.1) ∷ (codes "White", f.1) ∷ x ∷ h ∷ rest) (named g (codes "Black") e6.0)
          ∙ ap (λ x. (codes "Event", a.1) ∷ (codes "Site", b.1) ∷ (codes "Date", c.1) ∷ (codes "Round", d.1) ∷ (codes "White", f.1) ∷ (codes "Black", g.1) ∷ x ∷ rest) (named h (codes "Result") e7.0);
    }

-- the tags after the roster
others_by : (tags rest : List Tag) (fen : Option (List ℕ)) → tag_value (codes "FEN") tags ≡ fen → filter (λ t. not (is_in_roster t.0)) tags ≡ rest → AreSorted rest
    → ((value : List ℕ) → fen ≡ Some value → tag_value (codes "SetUp") rest ≡ Some (codes "1")) → other_tags tags ≡ rest
unfolding other_tags
others_by tags rest None is kept all set_up =
    ap (λ o. if is_some o then put (sorted (filter (λ t. not (is_in_roster t.0)) tags)) (codes "SetUp", codes "1") else sorted (filter (λ t. not (is_in_roster t.0)) tags)) is
    ∙ ap sorted kept ∙ sorted_same rest all
others_by tags rest (Some value) is kept all set_up =
    ap (λ o. if is_some o then put (sorted (filter (λ t. not (is_in_roster t.0)) tags)) (codes "SetUp", codes "1") else sorted (filter (λ t. not (is_in_roster t.0)) tags)) is
    ∙ ap (λ l. put l (codes "SetUp", codes "1")) (ap sorted kept ∙ sorted_same rest all)
    ∙ put_same rest (codes "SetUp") (codes "1") all (set_up value refl)

pub and_parts_of : (s t : Bool) → (s && t) ≡ true → (s ≡ true) × (t ≡ true)
and_parts_of true t e = (refl, e)
and_parts_of false t e = absurd (true≢false (sym e))

none_left_out : (tags : List Tag) → list_all (λ t. not (is_in_roster t.0)) tags ≡ true → filter (λ t. not (is_in_roster t.0)) tags ≡ tags
none_left_out [] all = refl
none_left_out (t ∷ ts) all =
    let both = and_parts_of (not (is_in_roster t.0)) (list_all (λ t. not (is_in_roster t.0)) ts) all in
    ap (λ b. cond b (t ∷ filter (λ t. not (is_in_roster t.0)) ts) (filter (λ t. not (is_in_roster t.0)) ts)) both.0
    ∙ ap (λ l. t ∷ l) (none_left_out ts both.1)

-- so all tags are written as they are
seven_written : (a b c d e f r : List ℕ) (rest : List Tag)
    → let tags : List Tag = (codes "Event", a) ∷ (codes "Site", b) ∷ (codes "Date", c) ∷ (codes "Round", d) ∷ (codes "White", e) ∷ (codes "Black", f)
    ∷ (codes "Result", r) ∷ rest in
    list_all (λ t. not (is_in_roster t.0)) rest ≡ true → AreSorted rest
    → ((value : List ℕ) → tag_value (codes "FEN") tags ≡ Some value → tag_value (codes "SetUp") tags ≡ Some (codes "1"))
    → map (roster_tag tags) roster ++ ((codes "Result", r) ∷ other_tags tags) ≡ tags
unfolding roster_tag
seven_written a b c d e f r rest apart all set_up =
    let tags : List Tag = (codes "Event", a) ∷ (codes "Site", b) ∷ (codes "Date", c) ∷ (codes "Round", d) ∷ (codes "White", e) ∷ (codes "Black", f) ∷ (codes "Result", r) ∷ rest in
    ap (λ l. (codes "Event", a) ∷ (codes "Site", b) ∷ (codes "Date", c) ∷ (codes "Round", d) ∷ (codes "White", e) ∷ (codes "Black", f) ∷ (codes "Result", r) ∷ l)
    (others_by tags rest (tag_value (codes "FEN") tags) refl (none_left_out rest apart) all set_up)

pub written_as_they_are : (g : Game) → IsNormal g → written_tags g ≡ g.tags
written_as_they_are g normal =
    let s = seven_of g.tags normal.order.roster in
    let tags : List Tag = (codes "Event", s.one) ∷ (codes "Site", s.two) ∷ (codes "Date", s.three) ∷ (codes "Round", s.four) ∷ (codes "White", s.five) ∷ (codes "Black", s.six)
    ∷ (codes "Result", s.seven) ∷ drop 7 g.tags in
    subst (λ (tags : List Tag). map (roster_tag tags) roster ++ ((codes "Result", result_text g.result) ∷ other_tags tags) ≡ tags) (sym s.is)
    (ap (λ r. map (roster_tag tags) roster ++ ((codes "Result", r) ∷ other_tags tags))
    (sym (some_is s.seven (result_text g.result) (subst (λ tags. tag_value (codes "Result") tags ≡ Some (result_text g.result)) s.is normal.result)))
    ∙ seven_written s.one s.two s.three s.four s.five s.six s.seven (drop 7 g.tags) normal.order.others normal.order.sorted
    (subst (λ tags. (value : List ℕ) → tag_value (codes "FEN") tags ≡ Some value → tag_value (codes "SetUp") tags ≡ Some (codes "1")) s.is normal.set_up))

-- and pairs with distinct names are their own tags
pub absent : (name : List ℕ) (tags : List Tag) → ((i : ℕ) → i < length tags → (tag_at tags i).0 ≢ name) → is_some (tag_value name tags) ≡ false
absent name [] differ = refl
absent name (t ∷ ts) differ = by_name (bytes_eq name t.0) refl (absent name ts (λ i h. differ (suc i) (omega (arith, h))))
  where
    by_name : (b : Bool) → bytes_eq name t.0 ≡ b → is_some (option_map (λ t. t.1) (find (λ t. bytes_eq name t.0) ts)) ≡ false
        → is_some (option_map (λ t. t.1) (cond b (Some t) (find (λ t. bytes_eq name t.0) ts))) ≡ false
    by_name true same rest = absurd (differ 0 (omega arith) (sym ((bytes_eq-Decides name t.0).0 same)))
    by_name false other rest = rest

pairs_by : (ts done : List Tag) → HaveDistinctNames (done ++ ts) → fold with_pair done (map pair_of ts) ≡ done ++ ts
pairs_by [] done distinct = sym (append-nil done)
pairs_by (t ∷ ts) done distinct =
    let here : tag_at (done ++ (t ∷ ts)) (length done) ≡ t = get_or-append_seam done t ts ([], []) in
    let len = length-append done (t ∷ ts) in
    let new : is_some (tag_value t.0 done) ≡ false = absent t.0 done (λ i h is.
    distinct.differ i (length done) h (omega (arith, len)) (ap (λ u. u.0) (get_or_append_left done (t ∷ ts) ([], []) i h) ∙ is ∙ ap (λ u. u.0) (sym here))) in
    ap (λ l. fold with_pair l (map pair_of ts))
    (ap (λ v. with_tag done t.0 v) (value_back t.1) ∙ ap (λ b. if b then done else done ++ (t.0, t.1) ∷ []) new)
    ∙ pairs_by ts (done ++ t ∷ []) (subst HaveDistinctNames (sym (append_assoc done (t ∷ []) ts)) distinct)
    ∙ append_assoc done (t ∷ []) ts

pub tags_back : (tags : List Tag) → HaveDistinctNames tags → tags_of (map pair_of tags) ≡ tags
tags_back tags distinct = pairs_by tags [] distinct
