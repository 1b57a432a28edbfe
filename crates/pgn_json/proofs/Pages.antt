-- Texts that are written by pages, one after the other.
use Rattle.std.proofs.Common.{◌≡◌, ℕ, ◌+◌, ◌<◌, List, [], ◌∷◌, ◌++◌, length, min, take, drop, append-nil, append_assoc, Ok, Err, refl, ap, sym, ◌∙◌, subst}
use Rattle.std.specs.Prelude.{OnOk, Result, get_or}
use Rattle.std.proofs.Math.Nat.{min-le_right}
use Rattle.std.proofs.Math.Seq.{take-append-add, take-append_seam}
use Rattle.std.proofs.lemmas.Grind.{flat_map-append}
use Rattle.std.proofs.lemmas.List.{take-append-drop, take-append-le, take_min, take_more}
use Rattle.cq_outside.specs.Faults.{Rose}
use Rattle.cq_outside.specs.Flow.{Grew}
use Rattle.cq_common.specs.declared.faults.Failed.{Failed}
use Rattle.cq_common.specs.declared.faults.Refusal.{Refusal}
use Rattle.cq_common.specs.declared.faults.Refusal.TheVariants.{Fault, NoMemory}
use Rattle.pgn_json.specs.Internal.Pages.{Adds, FailsIn, WaitsOf, WritesText}
use Rattle.pgn_json.specs.Internal.Texts.{all_lines}
use Rattle.cq_program.specs.Views.{SinkView}
use Rattle.pgn_json.specs.declared.texts.Texts.{Texts}
use Rattle.pgn_json.proofs.Grown.{grew_none, grew_on, rose_on}

-- ---- the waiting bytes

pub nothing_waits : (s : SinkView) → WaitsOf [] s s []
nothing_waits s = record { written = []; all = refl; grew = grew_none s.taken; same = refl }

pub waits_more : (text more waiting all : List ℕ) (was now : SinkView) → all ≡ waiting ++ more → WaitsOf text was now waiting → WaitsOf (text ++ more) was now all
waits_more text more waiting all was now is waits = record {
  written = waits.written;
  all = ap (λ l. l ++ more) waits.all ∙ append_assoc waits.written waiting more ∙ ap (λ l. waits.written ++ l) (sym is);
  grew = waits.grew;
  same = waits.same;
}

-- it was written
pub none_waits : (text waiting : List ℕ) (was mid now : SinkView) → WaitsOf text was mid waiting → Grew mid.taken now.taken waiting → now.faults ≡ mid.faults
    → WaitsOf text was now []
none_waits text waiting was mid now waits grew same = record {
  written = text;
  all = sym (append-nil text);
  grew = subst (Grew was.taken now.taken) (sym waits.all) (grew_on was.taken mid.taken now.taken waits.written waiting waits.grew grew);
  same = same ∙ waits.same;
}

pub front_written : (text waiting : List ℕ) (was mid now : SinkView) → WaitsOf text was mid waiting → ((k : ℕ) × Grew mid.taken now.taken (take k waiting))
    → (count : ℕ) × Grew was.taken now.taken (take count text)
front_written text waiting was mid now waits (k, grew) =
    let n = length waits.written in (
      n + k,
      subst (Grew was.taken now.taken) (sym (ap (take (n + k)) waits.all ∙ take-append-add waits.written waiting k))
          (grew_on was.taken mid.taken now.taken waits.written (take k waiting) waits.grew grew),
    )

pub write_failed : (text waiting : List ℕ) (was mid now : SinkView) (failed : Failed) → WaitsOf text was mid waiting
    → ((k : ℕ) × Grew mid.taken now.taken (take k waiting)) → Rose mid.faults now.faults → FailsIn text was now (Fault failed)
write_failed text waiting was mid now failed waits part rose =
    (front_written text waiting was mid now waits part, rose_on was.faults mid.faults now.faults waits.same rose)

pub page_starved : (text more waiting : List ℕ) (was now : SinkView) → WaitsOf text was now waiting → FailsIn (text ++ more) was now NoMemory
page_starved text more waiting was now waits =
    let w = waits.written in (
      (
        length w,
        subst (Grew was.taken now.taken) (sym (ap (λ l. take (length w) (l ++ more)) waits.all ∙ ap (take (length w)) (append_assoc w waiting more) ∙ take-append_seam w (waiting ++ more)))
            waits.grew,
      ),
      waits.same,
    )

-- ---- a prefix of a prefix

front_of : (k : ℕ) (xs ys : List ℕ) → take (min k (length xs)) (xs ++ ys) ≡ take k xs
front_of k xs ys = take-append-le (min k (length xs)) xs ys (min-le_right k (length xs)) ∙ take_min k xs

pub fails_sooner : (xs ys text : List ℕ) (was now : SinkView) (refusal : Refusal Failed) → text ≡ xs ++ ys → FailsIn xs was now refusal → FailsIn text was now refusal
fails_sooner xs ys text was now (Fault failed) is ((k, grew), rose) =
    ((min k (length xs), subst (Grew was.taken now.taken) (sym (ap (take (min k (length xs))) is ∙ front_of k xs ys)) grew), rose)
fails_sooner xs ys text was now NoMemory is ((k, grew), same) =
    ((min k (length xs), subst (Grew was.taken now.taken) (sym (ap (take (min k (length xs))) is ∙ front_of k xs ys)) grew), same)

-- ---- the lines of several games

pub lines_more : (texts : List Texts) (i : ℕ) (t : Texts) → i < length texts → t ≡ get_or texts i t → all_lines (take (i + 1) texts) ≡ all_lines (take i texts) ++ t.lines
lines_more texts i t less is =
    ap all_lines (take_more texts i t less ∙ ap (λ x. take i texts ++ x ∷ []) (sym is))
    ∙ flat_map-append (λ (x : Texts). x.lines) (take i texts) (t ∷ []) ∙ ap (λ l. all_lines (take i texts) ++ l) (append-nil t.lines)

pub lines_split : (texts : List Texts) (i : ℕ) → all_lines texts ≡ all_lines (take i texts) ++ all_lines (drop i texts)
lines_split texts i = ap all_lines (sym (take-append-drop i texts)) ∙ flat_map-append (λ (x : Texts). x.lines) (take i texts) (drop i texts)

-- ---- the last page

pub page_written : (text waiting : List ℕ) (was now : SinkView) (result : Result (Unit {0}) (Refusal Failed)) → OnOk result (waiting ≡ [])
    → Adds text was now waiting result → WritesText text was now result
page_written text waiting was now (Ok u) none waits =
    (subst (Grew was.taken now.taken) (sym (waits.all ∙ ap (λ l. waits.written ++ l) none ∙ append-nil waits.written)) waits.grew, waits.same)
page_written text waiting was now (Err refusal) none fails = fails
