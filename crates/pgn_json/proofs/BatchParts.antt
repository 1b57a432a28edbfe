-- The games of a part of a batch, and their texts.
use Rattle.std.proofs.Common.{◌≡◌, ℕ, suc, ◌+◌, ◌<◌, ◌≤◌, List, [], ◌∷◌, ◌++◌, length, length-append, take, drop, append-nil, ◌^◌, Some, refl, ap, sym, ◌∙◌, subst, arith}
use Rattle.std.specs.Prelude.{slice_get}
use Rattle.std.proofs.lemmas.List.{get_or-drop, get_or-take, length-drop, length-take, length-take-le, take_all}
use Rattle.std.proofs.lemmas.List.Concat.{flat_map-cons}
use Rattle.std.proofs.lemmas.List.Sums.{sum_by-cons}
use Rattle.std.proofs.lemmas.Option.{get_or_from_slice_get, slice_get-get_or}
use Rattle.pgn_batches.specs.Games.{games_of, number_of}
use Rattle.pgn_batches.specs.KeptGames.{KeptGames}
use Rattle.pgn_batches.specs.declared.batch.Batch.{Batch}
use Rattle.pgn_batches.specs.declared.kept_game.KeptGame.{KeptGame}
use Rattle.cq_outside.specs.Flow.{Grew}
use Rattle.pgn_json.specs.Internal.PartTexts.{ArePlaced, IsPlaced}
use Rattle.pgn_json.specs.Internal.Parts.{Part, part_at, size}
use Rattle.pgn_json.specs.Internal.Texts.{AreTextsOf, HasTaken, HasWritten, HasWrittenFront, all_faults, all_faulty, all_lines}
use Rattle.cq_program.specs.Views.{SinkView}
use Rattle.pgn_json.specs.Writing.{NoWriteFailed, Sinks, Writes}
use Rattle.pgn_json.specs.declared.texts.Texts.{Texts}
use Rattle.pgn_json.proofs.Entries.{few_faulty, few_texts, kept_count, no_texts, texts_on}
use Rattle.pgn_json.proofs.Grown.{grew_none}

-- ---- games

pub within_batch : (games : KeptGames) (first number : ℕ) → number < length (take 128 (drop first games)) → (first + number < length games) × (number < 128)
within_batch games first number less =
    let a = length-drop first games in
    let b = length-take 128 (drop first games) in
    (omega (arith, less, a, b), omega (arith, less, b))

in_part : (games : KeptGames) (first number : ℕ) (game : KeptGame) → slice_get games (first + number) ≡ Some game → number < length (take 128 (drop first games))
    → slice_get (take 128 (drop first games)) number ≡ Some game
in_part games first number game at less =
    let few = (within_batch games first number less).1 in
    slice_get-get_or (take 128 (drop first games)) number game less
    ∙ ap Some (get_or-take 128 (drop first games) number game few ∙ get_or-drop first games number game ∙ get_or_from_slice_get games (first + number) game game at)

-- the texts of a game of a batch, as one of a part
pub of_part : (mark : List ℕ) (batch : Batch) (first number : ℕ) (texts : Texts) → number < size (part_at mark batch first)
    → ((game : KeptGame) × (slice_get (games_of batch) (first + number) ≡ Some game)
    × AreTextsOf mark (number_of batch + (first + number) + 1) (game ∷ []) texts)
    → (game : KeptGame) × (slice_get (part_at mark batch first).games number ≡ Some game)
    × AreTextsOf mark ((part_at mark batch first).before + number + 1) (game ∷ []) texts
of_part mark batch first number texts less (game, at, are) =
    (game, in_part (games_of batch) first number game at less, subst (λ k. AreTextsOf mark k (game ∷ []) texts) (omega arith) are)

-- ---- the texts of all of them

abbrev joined : List Texts → Texts
joined texts = record { lines = all_lines texts; faults = all_faults texts; faulty = all_faulty texts }

abbrev part_of : List ℕ → ℕ → KeptGames → Part
part_of mark before games = record { mark = mark; before = before; games = games }

first_is : (mark : List ℕ) (before : ℕ) (g : KeptGame) (gs : KeptGames) (t : Texts) (ts : List Texts) → IsPlaced (part_of mark before (g ∷ gs)) 0 (t ∷ ts)
    → AreTextsOf mark (before + 1) (g ∷ []) t
first_is mark before g gs t ts (u, at, is) =
    let game_is : is.game ≡ g = let e = is.at in cc in
    let same : u ≡ t = cc in
    subst (λ x. AreTextsOf mark (before + 1) (g ∷ []) x) same (subst (λ x. AreTextsOf mark (before + 1) (x ∷ []) u) game_is
    (subst (λ k. AreTextsOf mark k (is.game ∷ []) u) (omega arith) is.are))

rest_are : (mark : List ℕ) (before : ℕ) (g : KeptGame) (gs : KeptGames) (t : Texts) (ts : List Texts) → ArePlaced (part_of mark before (g ∷ gs)) (t ∷ ts)
    → ArePlaced (part_of mark (before + 1) gs) ts
rest_are mark before g gs t ts placed = record {
  count = let n = placed.count in omega (arith, n);
  each = λ number less.
      let is = placed.each (suc number) (omega (arith, less)) in (
        is.0,
        is.1,
        record {
          game = is.2.game;
          at = is.2.at;
          are = subst (λ k. AreTextsOf mark k (is.2.game ∷ []) is.0) (omega arith) is.2.are;
        },
      );
}

pub all_texts : (mark : List ℕ) (before : ℕ) (games : KeptGames) (places : List Texts) → ArePlaced (part_of mark before games) places
    → AreTextsOf mark (before + 1) games (joined places)
all_texts mark before [] [] placed = no_texts mark (before + 1) [] (joined []) refl refl refl refl
all_texts mark before [] (t ∷ ts) placed = let n = placed.count in absurd (omega (arith, n))
all_texts mark before (g ∷ gs) [] placed = let n = placed.count in absurd (omega (arith, n))
all_texts mark before (g ∷ gs) (t ∷ ts) placed =
    texts_on mark (before + 1) (g ∷ []) gs t (joined ts) (joined (t ∷ ts))
    (first_is mark before g gs t ts (placed.each 0 (omega arith)))
    (all_texts mark (before + 1) gs ts (rest_are mark before g gs t ts placed))
    (flat_map-cons (λ (x : Texts). x.lines) t ts) (flat_map-cons (λ (x : Texts). x.faults) t ts) (sum_by-cons (λ (x : Texts). x.faulty) t ts)

pub few_faulty_texts : (mark : List ℕ) (batch : Batch) (first : ℕ) (places : List Texts) → ArePlaced (part_at mark batch first) places → all_faulty places ≤ 128
few_faulty_texts mark batch first places placed =
    let part = part_at mark batch first in
    let few = few_texts mark (part.before + 1) part.games (joined places) (all_texts mark part.before part.games places placed) in
    let n = length-take 128 (drop first (games_of batch)) in
    omega (arith, few, n)

-- ---- the texts of a part

unfailed : (s : Sinks) → NoWriteFailed s s
unfailed s = record { out = refl; err = refl }

pub nothing_written : (part : Part) (s : Sinks) → HasWrittenFront part s s × NoWriteFailed s s
nothing_written part s = (
  record {
    games = [];
    rest = part.games;
    split = refl;
    next = [];
    are = tt;
    out_count = 0;
    err_count = 0;
    writes = record { out_ = grew_none s.out.taken; err_ = grew_none s.err.taken };
  },
  unfailed s,
)

pub part_written : (part : Part) (places : List Texts) (was now : Sinks) (faults : List ℕ) (count : ℕ) → ArePlaced part places → Writes was now (all_lines places) faults
    → NoWriteFailed was now → faults ≡ all_faults places → count ≡ all_faulty places → HasWritten part was now count
part_written part places was now faults count placed writes unfailed is counts = record {
  texts = joined places;
  are = all_texts part.mark part.before part.games places placed;
  writes = subst (Writes was now (all_lines places)) is writes;
  count_is = counts;
  unfailed = unfailed;
}

-- prefixes of the lines and of those of the faulty games
pub fronts_written : (part : Part) (places : List Texts) (was now : Sinks) (j k : ℕ) → ArePlaced part places
    → Grew was.out.taken now.out.taken (take j (all_lines places)) → Grew was.err.taken now.err.taken (take k (all_faults places)) → HasWrittenFront part was now
fronts_written part places was now j k placed lines_ faults_ =
    let texts = all_texts part.mark part.before part.games places placed in
    record {
      games = part.games;
      rest = [];
      split = sym (append-nil part.games);
      next = texts.entries;
      are = texts.are;
      out_count = j;
      err_count = k;
      writes = record {
        out_ = subst (λ l. Grew was.out.taken now.out.taken (take j l)) texts.lines_ lines_;
        err_ = subst (λ l. Grew was.err.taken now.err.taken (take k l)) texts.faults_ faults_;
      };
    }

pub front_of_lines : (part : Part) (places : List Texts) (out now err : SinkView) → ArePlaced part places
    → ((j : ℕ) × Grew out.taken now.taken (take j (all_lines places))) → HasWrittenFront part (record { out = out; err = err }) (record { out = now; err = err })
front_of_lines part places out now err placed (j, grew) =
    fronts_written part places (record { out = out; err = err }) (record { out = now; err = err }) j 0 placed grew (grew_none err.taken)

pub front_of_faults : (part : Part) (places : List Texts) (out now_out err now_err : SinkView) (faults : List ℕ) → ArePlaced part places
    → Grew out.taken now_out.taken (all_lines places) → faults ≡ all_faults places → ((k : ℕ) × Grew err.taken now_err.taken (take k faults))
    → HasWrittenFront part (record { out = out; err = err }) (record { out = now_out; err = now_err })
front_of_faults part places out now_out err now_err faults placed lines_ is (k, grew) =
    let n = length (all_lines places) in
    fronts_written part places (record { out = out; err = err }) (record { out = now_out; err = now_err }) n k placed
    (subst (Grew out.taken now_out.taken) (sym (take_all n (all_lines places) (omega arith))) lines_)
    (subst (λ l. Grew err.taken now_err.taken (take k l)) is grew)

-- ---- the number of faulty games

-- the games before a batch, and its own up to a part, were written
pub record UpToPart : Type 0 where
  pub mark : List ℕ
  pub was : Sinks
  pub mid : Sinks
  pub count : ℕ
  pub games : KeptGames
  pub batch : Batch
  pub first : ℕ
  pub less : first < length (games_of batch)
  pub index : number_of batch ≡ length games
  pub taken : HasTaken mark was mid count (games ++ take first (games_of batch))

abbrev pub next_part : UpToPart → Part
next_part at = part_at at.mark at.batch at.first

pub few_written : (at : UpToPart) (now : Sinks) (more : ℕ) → HasWritten (next_part at) at.mid now more → at.count + more < 2 ^ 64
few_written at now more written =
    let batch = at.batch in
    let first = at.first in
    let less = at.less in
    let index = at.index in
    let most = batch.numbers in
    let part = next_part at in
    let few = few_faulty at.taken.entries in
    let entries = kept_count 1 (at.games ++ take first (games_of batch)) at.taken.entries at.taken.are in
    let long = length-append at.games (take first (games_of batch)) in
    let part_long = length-take-le first (games_of batch) (omega (arith, less)) in
    let a = at.taken.count_is in
    let few_more = few_texts at.mark (part.before + 1) part.games written.texts written.are in
    let size_is = length-take 128 (drop first (games_of batch)) in
    let b = written.count_is in
    omega (arith, few, entries, long, part_long, a, few_more, size_is, b, less, index, most)
