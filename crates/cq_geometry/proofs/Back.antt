-- The coordinates of a step's goal, and the step back.
use Rattle.std.specs.Prelude.{option_map, option_and_then, neg_ℤ}
use Rattle.std.proofs.Common.{◌≡◌, ℕ, ◌<◌, ℤ, pos, negsuc, ◌+ℤ◌, inl, inr, Option, Some, None, refl, sym, ap, ap₂, ◌∙◌, arith}
use Rattle.std.proofs.lemmas.Bool.{cases_lt, cond_below, cond_above}
use Rattle.std.proofs.lemmas.Int.{ints}
use Rattle.cq_geometry.specs.Squares.{square_of, file_of, rank_of}
use Rattle.cq_geometry.specs.Steps.{on_board, square_on_board, stepped}

-- a coordinate that is on the board
record IsOn (z : ℤ) (n : ℕ) : Type 0 where
  same : z ≡ pos n
  below : n < 8

on_board_is : (z : ℤ) (n : ℕ) → on_board z ≡ Some n → IsOn z n
on_board_is (negsuc k) n e = absurd (cc)
on_board_is (pos k) n e =
    elim (cases_lt k 8) [
      | inl h ↦
          let same : Some k ≡ Some n = cond_below k 8 (Some k) None h ∙ e in
          let equal : k ≡ n = cc in
          record { same = ap pos equal; below = omega arith }
      | inr h ↦
          let none : None ≡ Some n = cond_above k 8 (Some k) None None h refl ∙ e in
          absurd (cc)
    ]

is_on_board : (n : ℕ) → n < 8 → on_board (pos n) ≡ Some n
is_on_board n h = sym (cond_below n 8 (Some n) None h)

-- the goal of a step
pub record LeadsTo (files ranks : ℤ) (a b : ℕ) : Type 0 where
  pub file : pos (file_of a) +ℤ files ≡ pos (file_of b)
  pub rank : pos (rank_of a) +ℤ ranks ≡ pos (rank_of b)
  pub board : b < 64

record Parts (file rank : Option ℕ) (b : ℕ) : Type 0 where
  f : ℕ
  r : ℕ
  file_is : file ≡ Some f
  rank_is : rank ≡ Some r
  goal_is : square_of f r ≡ b

parts : (file rank : Option ℕ) (b : ℕ) → option_and_then (λ f. option_map (λ r. square_of f r) rank) file ≡ Some b → Parts file rank b
parts None rank b e = absurd (cc)
parts (Some f) None b e = absurd (cc)
parts (Some f) (Some r) b e = record { f = f; r = r; file_is = refl; rank_is = refl; goal_is = cc }

pub leads_to : (files ranks : ℤ) (a b : ℕ) → stepped files ranks a ≡ Some b → LeadsTo files ranks a b
leads_to files ranks a b e =
    let file = pos (file_of a) +ℤ files in
    let rank = pos (rank_of a) +ℤ ranks in
    let p = parts (on_board file) (on_board rank) b e in
    let on_file = on_board_is file p.f p.file_is in
    let on_rank = on_board_is rank p.r p.rank_is in
    let f_is : p.f ≡ file_of b = omega (arith, p.goal_is, on_file.below, on_rank.below) in
    let r_is : p.r ≡ rank_of b = omega (arith, p.goal_is, on_file.below, on_rank.below) in
    record {
      file = on_file.same ∙ ap pos f_is;
      rank = on_rank.same ∙ ap pos r_is;
      board = omega (arith, p.goal_is, on_file.below, on_rank.below);
    }

-- a step that ends on the board leads there
pub leads_there : (files ranks : ℤ) (a b : ℕ) → LeadsTo files ranks a b → stepped files ranks a ≡ Some b
leads_there files ranks a b h =
    let f : file_of b < 8 = omega arith in
    let r : rank_of b < 8 = omega (arith, h.board) in
    let whole : square_of (file_of b) (rank_of b) ≡ b = omega arith in
    ap₂ square_on_board h.file h.rank
    ∙ ap₂ (λ x y. option_and_then (λ f. option_map (λ r. square_of f r) y) x) (is_on_board (file_of b) f) (is_on_board (rank_of b) r)
    ∙ ap Some whole

undone : (m n : ℕ) (z : ℤ) → pos m +ℤ z ≡ pos n → pos n +ℤ neg_ℤ z ≡ pos m
undone m n z e = omega (arith, ints)

-- the opposite step leads back
pub step_back : (files ranks : ℤ) (a b : ℕ) → a < 64 → stepped files ranks a ≡ Some b
    → stepped (neg_ℤ files) (neg_ℤ ranks) b ≡ Some a
step_back files ranks a b h e =
    let there = leads_to files ranks a b e in
    leads_there (neg_ℤ files) (neg_ℤ ranks) b a
    (record {
      file = undone (file_of a) (file_of b) files there.file;
      rank = undone (rank_of a) (rank_of b) ranks there.rank;
      board = h;
    })
