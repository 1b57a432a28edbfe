-- The pieces of a file of queries.
use Rattle.std.proofs.Common.{Bor, ◌≡◌, ℕ, zero, suc, ◌+◌, ◌-◌, ◌≤◌, ◌<◌, Bool, true, false, List, [], ◌∷◌, ◌++◌, length, map, take, drop, append-nil, append_assoc, add-one, arith, refl, ap, sym, ◌∙◌, subst}
use Rattle.std.specs.Prelude.{◌==◌, if◌then◌else◌, slice_index, Some, None}
use Rattle.std.specs.List.{concat, onto_first, slice_split}
use Rattle.std.proofs.Math.Seq.{take-add}
use Rattle.std.proofs.lemmas.List.{take_all, drop_all, drop-drop, length-drop, length-map, map-append}
use Rattle.std.proofs.lemmas.List.Splits.{length-slice_split, slice_split-cons_yes, slice_split-cons_no}
use Rattle.memchr.specs.Find.{IsFirstByte}
use Rattle.cq_query_files.specs.QueryFiles.{is_divider, lines, pieces}

-- ---- the first line

lines_feed : (b : ℕ) (rest : List ℕ) → (b == 10) ≡ true → lines (b ∷ rest) ≡ (b ∷ []) ∷ lines rest
unfolding lines
lines_feed b rest e = ap (λ t. if t then (b ∷ []) ∷ lines rest else onto_first b (lines rest)) e

lines_on : (b : ℕ) (rest : List ℕ) → (b == 10) ≡ false → lines (b ∷ rest) ≡ onto_first b (lines rest)
unfolding lines
lines_on b rest e = ap (λ t. if t then (b ∷ []) ∷ lines rest else onto_first b (lines rest)) e

no_lines : lines [] ≡ []
unfolding lines
no_lines = refl

-- none of the first bytes of a text, so many, is a line feed
abbrev NoFeed : List ℕ → ℕ → Type 0
NoFeed text n = (i : ℕ) → i < n → (slice_index text i == 10) ≡ true → ⊥

not_feed : (t : Bool) → (t ≡ true → ⊥) → t ≡ false
not_feed true never = absurd (never refl)
not_feed false never = refl

line_ends : (text : List ℕ) (n : ℕ) → NoFeed text n → n < length text → (slice_index text n == 10) ≡ true
    → lines text ≡ take (suc n) text ∷ lines (drop (suc n) text)
line_ends [] n none less is = absurd (omega (arith, less))
line_ends (b ∷ rest) zero none less is = lines_feed b rest is
line_ends (b ∷ rest) (suc n) none less is =
    lines_on b rest (not_feed (b == 10) (none 0 (omega arith)))
    ∙ ap (onto_first b) (line_ends rest n (λ i h. none (suc i) (omega (arith, h))) (omega (arith, less)) is)

line_alone : (b : ℕ) (rest : List ℕ) → NoFeed (b ∷ rest) (length (b ∷ rest)) → lines (b ∷ rest) ≡ (b ∷ rest) ∷ []
line_alone b [] none = lines_on b [] (not_feed (b == 10) (none 0 (omega arith))) ∙ ap (onto_first b) no_lines
line_alone b (c ∷ rest) none =
    lines_on b (c ∷ rest) (not_feed (b == 10) (none 0 (omega arith)))
    ∙ ap (onto_first b) (line_alone c rest (λ i h. none (suc i) (omega (arith, h))))

line_last : (text : List ℕ) → 0 < length text → NoFeed text (length text) → lines text ≡ text ∷ []
line_last [] some none = absurd (omega (arith, some))
line_last (b ∷ rest) some none = line_alone b rest none

-- from what `memchr` finds
pub line_found : (text : List ℕ) (n : ℕ) → IsFirstByte (λ b. b == 10) text (Some n) → lines text ≡ take (n + 1) text ∷ lines (drop (n + 1) text)
line_found text n found =
    subst (λ m. lines text ≡ take m text ∷ lines (drop m text)) (sym (add-one n))
    (line_ends text n (λ i h passes. found.0.before i (omega arith) h passes) found.0.high found.1)

pub line_unfound : (text : List ℕ) → 0 < length text → IsFirstByte (λ b. b == 10) text None → lines text ≡ take (length text) text ∷ lines (drop (length text) text)
line_unfound text some none =
    line_last text some (λ i h passes. none i (omega arith) h passes)
    ∙ ap (λ t. t ∷ []) (sym (take_all (length text) text (omega arith)))
    ∙ ap (λ ls. take (length text) text ∷ ls) (sym (ap lines (drop_all (length text) text (omega arith)) ∙ no_lines))

-- ---- a line before some pieces

-- a text put before the first of some pieces
abbrev pub onto_piece : List ℕ → List (List ℕ) → List (List ℕ)
onto_piece front [] = front ∷ []
onto_piece front (p ∷ ps) = (front ++ p) ∷ ps

onto_twice : (a b : List ℕ) (ps : List (List ℕ)) → onto_piece a (onto_piece b ps) ≡ onto_piece (a ++ b) ps
onto_twice a b [] = refl
onto_twice a b (p ∷ ps) = ap (λ l. l ∷ ps) (sym (append_assoc a b p))

onto_lines : (line : List ℕ) (parts : List (List (List ℕ))) → map concat (onto_first line parts) ≡ onto_piece line (map concat parts)
onto_lines line [] = ap (λ l. l ∷ []) (append-nil line)
onto_lines line (p ∷ ps) = refl

pub divided : (text line rest : List ℕ) → lines text ≡ line ∷ lines rest → is_divider line ≡ true → pieces text ≡ [] ∷ pieces rest
unfolding pieces
divided text line rest first is = ap (λ ls. map concat (slice_split is_divider ls)) first ∙ ap (map concat) (slice_split-cons_yes is_divider line (lines rest) is)

pub continued : (text line rest : List ℕ) → lines text ≡ line ∷ lines rest → is_divider line ≡ false → pieces text ≡ onto_piece line (pieces rest)
unfolding pieces
continued text line rest first is =
    ap (λ ls. map concat (slice_split is_divider ls)) first
    ∙ ap (map concat) (slice_split-cons_no is_divider line (lines rest) is)
    ∙ onto_lines line (slice_split is_divider (lines rest))

no_pieces : pieces [] ≡ [] ∷ []
unfolding pieces
no_pieces = ap (λ ls. map concat (slice_split is_divider ls)) no_lines

pub some_pieces : (text : List ℕ) → 1 ≤ length (pieces text)
unfolding pieces
some_pieces text =
    let a = length-map (slice_split is_divider (lines text)) concat in
    let b = length-slice_split is_divider (lines text) in
    omega (arith, a, b)

onto_nothing : (ps : List (List ℕ)) → 1 ≤ length ps → ps ≡ onto_piece [] ps
onto_nothing [] some = absurd (omega (arith, some))
onto_nothing (p ∷ ps) some = refl

-- ---- the loop

-- the bytes from one place to another
abbrev pub between : List ℕ → ℕ → ℕ → List ℕ
between text begin end = take (end - begin) (drop begin text)

-- the pieces that are done, and the start of the open one, after the lines up to a place
pub record CutSoFar (text : List ℕ) (done : List (List ℕ)) (begin at : ℕ) : Type 0 where
  pub low : begin ≤ at
  pub high : at ≤ length text
  pub is : pieces text ≡ done ++ onto_piece (between text begin at) (pieces (drop at text))

pub uncut : (text : List ℕ) → CutSoFar text [] 0 0
uncut text = record { low = omega arith; high = omega arith; is = onto_nothing (pieces text) (some_pieces text) }

-- the first line from a place on, which ends at another
abbrev pub LineTo : List ℕ → ℕ → ℕ → Type 0
LineTo text at end = lines (drop at text) ≡ between text at end ∷ lines (drop end text)

-- the bytes from a place on, as a slice gives them
abbrev pub from_place : List ℕ → ℕ → List ℕ
from_place text at = take (length text - at) (drop at text)

from_is : (text : List ℕ) (at : ℕ) → from_place text at ≡ drop at text
from_is text at = let long = length-drop at text in take_all (length text - at) (drop at text) (omega (arith, long))

pub line_to : (text : List ℕ) (at n : ℕ) → lines (from_place text at) ≡ take n (from_place text at) ∷ lines (drop n (from_place text at)) → LineTo text at (at + n)
line_to text at n first =
    let long : n ≡ at + n - at = omega arith in
    subst (λ rest. lines rest ≡ take n rest ∷ lines (drop n rest)) (from_is text at) first
    ∙ ap (λ rest. take n (drop at text) ∷ lines rest) (drop-drop n at text)
    ∙ ap (λ m. take m (drop at text) ∷ lines (drop (at + n) text)) long

pub line_within : (text : List ℕ) (at n : ℕ) → at ≤ length text → n ≤ length (from_place text at) → at + n ≤ length text
line_within text at n low few =
    let same = ap length (from_is text at) in
    let long = length-drop at text in
    omega (arith, low, few, same, long)

between_on : (text : List ℕ) (begin at end : ℕ) → begin ≤ at → at ≤ end → between text begin at ++ between text at end ≡ between text begin end
between_on text begin at end low high =
    let place : begin + (at - begin) ≡ at = omega (arith, low) in
    let long : at - begin + (end - at) ≡ end - begin = omega (arith, low, high) in
    ap (λ l. between text begin at ++ take (end - at) l) (sym (drop-drop (at - begin) begin text ∙ ap (λ n. drop n text) place))
    ∙ sym (take-add (at - begin) (end - at) (drop begin text)) ∙ ap (λ n. take n (drop begin text)) long

pub cut_on : (text : List ℕ) (done : List (List ℕ)) (begin at end : ℕ) → CutSoFar text done begin at → at ≤ end → end ≤ length text → LineTo text at end
    → is_divider (between text at end) ≡ false → CutSoFar text done begin end
cut_on text done begin at end so low high first is = record {
  low = let l = so.low in omega (arith, l, low);
  high = high;
  is = so.is
      ∙ ap (λ ps. done ++ onto_piece (between text begin at) ps) (continued (drop at text) (between text at end) (drop end text) first is)
      ∙ ap (λ ps. done ++ ps) (onto_twice (between text begin at) (between text at end) (pieces (drop end text)))
      ∙ ap (λ l. done ++ onto_piece l (pieces (drop end text))) (between_on text begin at end so.low low);
}

pub cut_there : (text : List ℕ) (done : List (List ℕ)) (begin at end : ℕ) → CutSoFar text done begin at → end ≤ length text → LineTo text at end
    → is_divider (between text at end) ≡ true → CutSoFar text (done ++ between text begin at ∷ []) end end
cut_there text done begin at end so high first is =
    let none : end - end ≡ 0 = omega arith in
    record {
      low = omega arith;
      high = high;
      is = so.is
          ∙ ap (λ ps. done ++ onto_piece (between text begin at) ps) (divided (drop at text) (between text at end) (drop end text) first is)
          ∙ ap (λ l. done ++ (l ∷ pieces (drop end text))) (append-nil (between text begin at))
          ∙ sym (append_assoc done (between text begin at ∷ []) (pieces (drop end text)))
          ∙ ap (λ ps. (done ++ between text begin at ∷ []) ++ ps) (onto_nothing (pieces (drop end text)) (some_pieces (drop end text)))
          ∙ ap (λ n. (done ++ between text begin at ∷ []) ++ onto_piece (take n (drop end text)) (pieces (drop end text))) (sym none);
    }

pub cut_all : (text : List ℕ) (done : List (List ℕ)) (begin at : ℕ) → CutSoFar text done begin at → length text ≤ at
    → done ++ from_place text begin ∷ [] ≡ pieces text
cut_all text done begin at so over =
    let low = so.low in
    let long = length-drop begin text in
    sym (so.is
    ∙ ap (λ ps. done ++ onto_piece (between text begin at) ps) (ap pieces (drop_all at text over) ∙ no_pieces)
    ∙ ap (λ l. done ++ l ∷ []) (append-nil (between text begin at) ∙ take_all (at - begin) (drop begin text) (omega (arith, low, over, long)) ∙ sym (from_is text begin)))

-- the texts of some slices, of which one is the last
abbrev pub texts_of : List (Bor (List ℕ)) → List (List ℕ)
texts_of slices = map (λ s. s.now) slices

pub pushed : (slices more : List (Bor (List ℕ))) (last : Bor (List ℕ)) → more ≡ slices ++ last ∷ [] → texts_of more ≡ texts_of slices ++ last.now ∷ []
pushed slices more last is = ap texts_of is ∙ map-append (λ (s : Bor (List ℕ)). s.now) slices (last ∷ [])
