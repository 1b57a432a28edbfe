-- The kept bytes of the open game.
use Rattle.std.specs.Prelude.{◌≡◌, ◌⊎◌, ℕ, ◌+◌, ◌<◌, ◌≤◌, List, All, length, take, drop}
use Rattle.pgn_cut.specs.OpenGames.{later_games}
use Rattle.pgn_cut.specs.declared.span.Span.{Span}
use Rattle.pgn_batches.specs.KeptGames.{most_kept}
use Rattle.pgn_batches.specs.declared.state.Window.{Window}

-- the window has the archive's first bytes from its place on
pub record IsWindowOf (w : Window) (archive : List ℕ) : Type 0 where
  pub within : w.from ≤ length archive
  pub is : w.bytes.items ≡ take most_kept (drop w.from archive)

-- a game begins with the window, or at a place or after it
abbrev pub BeginsInWindow : Window → ℕ → Span → Type 0
BeginsInWindow w at s = (s.start ≡ w.from) ⊎ (at ≤ s.start)

-- whatever follows a front, the games that it leaves open begin with the window or after the front
abbrev pub HasOpen : Window → List ℕ → Type 0
HasOpen w front = (more : List ℕ) → All (BeginsInWindow w (length front)) (later_games front more)

-- a game that begins with the window or after it ends in a piece of `size` bytes after the window
pub record IsInside (w : Window) (at size : ℕ) (s : Span) : Type 0 where
  pub begins : BeginsInWindow w at s
  pub some : s.start < s.end
  pub to : s.end ≤ at + size
