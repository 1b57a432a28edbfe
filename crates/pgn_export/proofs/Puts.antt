-- Tags put in their places.
use Rattle.std.proofs.Common.{◌≡◌, ℕ, ◌<◌, arith, length, Bool, true, false, cond, not, List, [], ◌∷◌, ◌++◌, refl, sym, ap, ◌∙◌, append_assoc, append-nil}
use Rattle.std.specs.Prelude.{if◌then◌else◌}
use Rattle.std.specs.BTreeMap.{insert_entry}
use Rattle.std.specs.Cmp.Lexicographic.{slice_cmp}
use Rattle.std.specs.Global.{Vec}
use Rattle.std.specs.List.{filter, flat_map, fold}
use Rattle.std.proofs.lemmas.List.Concat.{flat_map-append}
use Rattle.std.specs.Ordering.{nat_cmp, match_ordering}
use Rattle.std.specs.declared.cmp.Ordering.{Ordering}
use Rattle.std.specs.declared.cmp.Ordering.TheVariants.{Less, Equal, Greater}
use Rattle.pgn_export.specs.Internal.PlainTags.{plain}
use Rattle.cq_position.specs.Games.{Game}
use Rattle.pgn_export.specs.TagLines.{is_in_roster, put, tag_line, written_tags}

by_order : (o : Ordering) (before same after : List (Vec ℕ × List ℕ)) (x y z : List (List ℕ × List ℕ)) → plain before ≡ x → plain same ≡ y → plain after ≡ z
    → plain (match_ordering o before same after) ≡ match_ordering o x y z
by_order Less before same after x y z e f g = e
by_order Equal before same after x y z e f g = f
by_order Greater before same after x y z e f g = g

-- a map's tags after one more
pub plain_insert : (es : List (Vec ℕ × List ℕ)) (k : Vec ℕ) (v : List ℕ)
    → plain (insert_entry (λ a b. slice_cmp nat_cmp a.items b.items) es k v) ≡ insert_entry (slice_cmp nat_cmp) (plain es) k.items v
plain_insert [] k v = refl
plain_insert (e ∷ es) k v =
    by_order (slice_cmp nat_cmp k.items e.0.items) ((k, v) ∷ e ∷ es) ((e.0, v) ∷ es) (e ∷ insert_entry (λ a b. slice_cmp nat_cmp a.items b.items) es k v)
    ((k.items, v) ∷ (e.0.items, e.1) ∷ plain es) ((e.0.items, v) ∷ plain es) ((e.0.items, e.1) ∷ insert_entry (slice_cmp nat_cmp) (plain es) k.items v)
    refl refl (ap (λ l. (e.0.items, e.1) ∷ l) (plain_insert es k v))

-- one tag more, unless it is of the roster
pub put_more : (before new : List (List ℕ × List ℕ)) (t : List ℕ × List ℕ) (ts : List (List ℕ × List ℕ)) (roster : Bool) → is_in_roster t.0 ≡ roster
    → new ≡ (if roster then before else put before t)
    → fold put new (filter (λ t. not (is_in_roster t.0)) ts) ≡ fold put before (filter (λ t. not (is_in_roster t.0)) (t ∷ ts))
put_more before new t ts true is e =
    ap (λ x. fold put x (filter (λ t. not (is_in_roster t.0)) ts)) e
    ∙ sym (ap (λ b. fold put before (cond (not b) (t ∷ filter (λ t. not (is_in_roster t.0)) ts) (filter (λ t. not (is_in_roster t.0)) ts))) is)
put_more before new t ts false is e =
    ap (λ x. fold put x (filter (λ t. not (is_in_roster t.0)) ts)) e
    ∙ sym (ap (λ b. fold put before (cond (not b) (t ∷ filter (λ t. not (is_in_roster t.0)) ts) (filter (λ t. not (is_in_roster t.0)) ts))) is)

-- six lines, one after another
pub six : (old one two three four five six_ a b c d e f : List ℕ) → one ≡ old ++ a → two ≡ one ++ b → three ≡ two ++ c → four ≡ three ++ d → five ≡ four ++ e → six_ ≡ five ++ f
    → six_ ≡ old ++ (a ++ (b ++ (c ++ (d ++ (e ++ (f ++ []))))))
six old one two three four five six_ a b c d e f p q r s t u =
    u ∙ ap (λ l. l ++ f) (t ∙ ap (λ l. l ++ e) (s ∙ ap (λ l. l ++ d) (r ∙ ap (λ l. l ++ c) (q ∙ ap (λ l. l ++ b) p))))
    ∙ append_assoc ((((old ++ a) ++ b) ++ c) ++ d) e f
    ∙ append_assoc (((old ++ a) ++ b) ++ c) d (e ++ f)
    ∙ append_assoc ((old ++ a) ++ b) c (d ++ (e ++ f))
    ∙ append_assoc (old ++ a) b (c ++ (d ++ (e ++ f)))
    ∙ append_assoc old a (b ++ (c ++ (d ++ (e ++ f))))
    ∙ ap (λ l. old ++ (a ++ (b ++ (c ++ (d ++ (e ++ l)))))) (sym (append-nil f))

-- the lines of the roster, of the result and of the others
pub all_lines : (line : List ℕ × List ℕ → List ℕ) (old one two new : List ℕ) (roster others : List (List ℕ × List ℕ)) (t : List ℕ × List ℕ)
    → one ≡ old ++ flat_map line roster → two ≡ one ++ line t → new ≡ two ++ flat_map line others → new ≡ old ++ flat_map line (roster ++ (t ∷ others))
all_lines line old one two new roster others t p q r =
    r ∙ ap (λ l. l ++ flat_map line others) (q ∙ ap (λ l. l ++ line t) p)
    ∙ append_assoc (old ++ flat_map line roster) (line t) (flat_map line others)
    ∙ append_assoc old (flat_map line roster) (line t ++ flat_map line others)
    ∙ ap (λ l. old ++ l) (sym (flat_map-append line roster (t ∷ others)))

-- a game has tag lines
pub some_tags : (g : Game) → 0 < length (flat_map tag_line (written_tags g))
unfolding tag_line
some_tags g = omega arith
