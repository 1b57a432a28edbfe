-- Games of an archive, and their texts, one after the other.
use Rattle.std.proofs.Common.{◌≡◌, ℕ, ◌+◌, ◌≤◌, List, [], ◌∷◌, ◌++◌, Bool, cond, length, append-nil, map, take, Some, refl, ap, ap₂, sym, ◌∙◌, subst, arith}
use Rattle.std.specs.Prelude.{◌↔◌, slice_get, Result, Ok, Err}
use Rattle.std.proofs.lemmas.Grind.{flat_map-append}
use Rattle.std.proofs.lemmas.List.{take_more, take-map}
use Rattle.std.proofs.lemmas.List.Sums.{count_by-le-length, sum_by-append}
use Rattle.std.proofs.Math.Seq.{take-append_seam}
use Rattle.std.proofs.lemmas.Option.{slice_get_within, get_or_from_slice_get}
use Rattle.pgn_batches.specs.KeptGames.{KeptGames, kept, most_kept}
use Rattle.pgn_batches.specs.declared.kept_game.KeptGame.{KeptGame}
use Rattle.cq_position.specs.Games.{Game}
use Rattle.pgn_cut.specs.GameTokens.{game_bytes}
use Rattle.pgn_cut.specs.declared.span.Span.{Span}
use Rattle.cq_report.specs.Games.{fault_line}
use Rattle.pgn_json.specs.Json.{json_text}
use Rattle.pgn_json.specs.Lines.{AreEntries, ArchiveGame, fault_lines, fault_of, faulty, is_faulty, line_of, lines}
use Rattle.pgn_json.specs.Internal.Texts.{AreKept, AreTextsOf}
use Rattle.pgn_json.specs.declared.texts.Texts.{Texts}
use Rattle.pgn_reader.specs.Limits.{longest}
use Rattle.pgn_reader.specs.Verdict.{IsReadResult}
use Rattle.pgn_reader.specs.declared.fault.GameFault.{GameFault}

-- ---- games

pub kept_on : (number : ℕ) (gs hs : KeptGames) (es ds : List ArchiveGame) → AreKept number gs es → AreKept (number + length gs) hs ds → AreKept number (gs ++ hs) (es ++ ds)
kept_on number [] hs [] ds before after = subst (λ k. AreKept k hs ds) (omega arith) after
kept_on number [] hs (e ∷ es) ds before after = absurd before
kept_on number (g ∷ gs) hs [] ds before after = absurd before
kept_on number (g ∷ gs) hs (e ∷ es) ds before after =
    (before.0, kept_on (number + 1) gs hs es ds before.1 (subst (λ k. AreKept k hs ds) (omega arith) after))

pub kept_count : (number : ℕ) (gs : KeptGames) (es : List ArchiveGame) → AreKept number gs es → length es ≡ length gs
kept_count number [] [] are = refl
kept_count number [] (e ∷ es) are = absurd are
kept_count number (g ∷ gs) [] are = absurd are
kept_count number (g ∷ gs) (e ∷ es) are = let r = kept_count (number + 1) gs es are.1 in omega (arith, r)

-- ---- texts

pub lines_on : (mark : List ℕ) (es ds : List ArchiveGame) → lines mark (es ++ ds) ≡ lines mark es ++ lines mark ds
lines_on mark es ds = flat_map-append (λ (e : ArchiveGame). line_of mark e.number e.byte e.outcome) es ds

pub faults_on : (es ds : List ArchiveGame) → fault_lines (es ++ ds) ≡ fault_lines es ++ fault_lines ds
faults_on es ds = flat_map-append (λ (e : ArchiveGame). fault_of e.number e.outcome) es ds

pub faulty_on : (es ds : List ArchiveGame) → faulty (es ++ ds) ≡ faulty es + faulty ds
faulty_on es ds = sum_by-append (λ (e : ArchiveGame). cond (is_faulty e.outcome) 1 0) es ds

pub few_faulty : (es : List ArchiveGame) → faulty es ≤ length es
few_faulty es = count_by-le-length (λ (e : ArchiveGame). is_faulty e.outcome) es

-- ---- the texts of one game more

pub no_texts : (mark : List ℕ) (number : ℕ) (games : KeptGames) (t : Texts) → games ≡ [] → t.lines ≡ [] → t.faults ≡ [] → t.faulty ≡ 0 → AreTextsOf mark number games t
no_texts mark number games t none lines faults count = record {
  entries = [];
  are = subst (λ gs. AreKept number gs []) (sym none) tt;
  lines_ = lines;
  faults_ = faults;
  faulty_ = count;
}

pub texts_on : (mark : List ℕ) (number : ℕ) (gs hs : KeptGames) (a b c : Texts) → AreTextsOf mark number gs a → AreTextsOf mark (number + length gs) hs b
    → c.lines ≡ a.lines ++ b.lines → c.faults ≡ a.faults ++ b.faults → c.faulty ≡ a.faulty + b.faulty → AreTextsOf mark number (gs ++ hs) c
texts_on mark number gs hs a b c before after lines faults count = record {
  entries = before.entries ++ after.entries;
  are = kept_on number gs hs before.entries after.entries before.are after.are;
  lines_ = lines ∙ ap₂ (λ x y. x ++ y) before.lines_ after.lines_ ∙ sym (lines_on mark before.entries after.entries);
  faults_ = faults ∙ ap₂ (λ x y. x ++ y) before.faults_ after.faults_ ∙ sym (faults_on before.entries after.entries);
  faulty_ = count ∙ ap₂ (λ x y. x + y) before.faulty_ after.faulty_ ∙ sym (faulty_on before.entries after.entries);
}

pub games_more : (games : KeptGames) (i : ℕ) (g : KeptGame) → slice_get games i ≡ Some g → take (i + 1) games ≡ take i games ++ g ∷ []
games_more games i g at =
    let less = slice_get_within games i g at in
    take_more games i g less ∙ ap (λ x. take i games ++ x ∷ []) (get_or_from_slice_get games i g g at)

pub few_texts : (mark : List ℕ) (number : ℕ) (games : KeptGames) (t : Texts) → AreTextsOf mark number games t → t.faulty ≤ length games
few_texts mark number games t are =
    let few = few_faulty are.entries in
    let count = kept_count number games are.entries are.are in
    let is = are.faulty_ in omega (arith, few, count, is)

-- a game that is read, and a faulty one
pub text_read : (mark : List ℕ) (number : ℕ) (g : KeptGame) (game : Game) (t : Texts) → IsReadResult g.start g.first g.bytes (Ok game)
    → t.lines ≡ json_text mark number g.start game → t.faults ≡ [] → t.faulty ≡ 0 → AreTextsOf mark number (g ∷ []) t
text_read mark number g game t read lines faults count = record {
  entries = record { number = number; byte = g.start; outcome = Ok game } ∷ [];
  are = ((refl, refl, read), tt);
  lines_ = lines ∙ sym (append-nil (json_text mark number g.start game));
  faults_ = faults;
  faulty_ = count;
}

pub text_faulty : (mark : List ℕ) (number : ℕ) (g : KeptGame) (fault : GameFault) (t : Texts) → IsReadResult g.start g.first g.bytes (Err fault)
    → t.lines ≡ [] → t.faults ≡ fault_line number fault → t.faulty ≡ 1 → AreTextsOf mark number (g ∷ []) t
text_faulty mark number g fault t read lines faults count = record {
  entries = record { number = number; byte = g.start; outcome = Err fault } ∷ [];
  are = ((refl, refl, read), tt);
  lines_ = lines;
  faults_ = faults ∙ sym (append-nil (fault_line number fault));
  faulty_ = count;
}

-- ---- games of an archive as they are kept

abbrev pub Decide : Type 0
Decide = (start : ℕ) (first : Bool) (bytes : List ℕ) (outcome : Result Game GameFault) → IsReadResult start first (take (longest + 1) bytes) outcome
    ↔ IsReadResult start first bytes outcome

kept_read : Decide → (start : ℕ) (first : Bool) (bytes : List ℕ) (r : Result Game GameFault) → IsReadResult start first (take most_kept bytes) r → IsReadResult start first bytes r
unfolding most_kept
kept_read decide start first bytes r read = (decide start first bytes r).0 read

pub archive_of : Decide → (number : ℕ) (archive : List ℕ) (ss : List Span) (es : List ArchiveGame) → AreKept number (map (kept archive) ss) es → AreEntries archive number ss es
archive_of decide number archive [] [] are = tt
archive_of decide number archive [] (e ∷ es) are = absurd are
archive_of decide number archive (s ∷ ss) [] are = absurd are
archive_of decide number archive (s ∷ ss) (e ∷ es) are =
    ((are.0.0, are.0.1, kept_read decide s.start s.first (game_bytes archive s) e.outcome are.0.2), archive_of decide (number + 1) archive ss es are.1)

-- games that are the first ones of some spans
pub first_spans : (archive : List ℕ) (ss : List Span) (gs rest : KeptGames) → map (kept archive) ss ≡ gs ++ rest → gs ≡ map (kept archive) (take (length gs) ss)
first_spans archive ss gs rest are =
    sym (take-append_seam gs rest) ∙ ap (take (length gs)) (sym are) ∙ take-map (kept archive) (length gs) ss
