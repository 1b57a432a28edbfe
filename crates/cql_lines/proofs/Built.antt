-- The rules that an automaton has for a pattern, wherever they are numbered.
use Rattle.std.specs.Prelude.{◌≡◌, ℕ, zero, suc, ◌-◌, ◌^◌, List, Bool, true, Option, Some, None, slice_get, bit_or}
use Rattle.cq_common.specs.Spelling.{Pattern, one, nothing, joined, repeated}
use Rattle.cql_lines.specs.declared.automaton.FollowSet.{FollowSet}
use Rattle.cql_lines.specs.declared.automaton.Transition.{Transition}
use Rattle.cql_lines.specs.Places.{when}
use Rattle.cql_lines.specs.Building.{begins, null_times, nullable}

-- at most n copies, the first m of them due; B builds one
abbrev pub BuiltTimes : (FollowSet → ℕ → Type 0) → Bool → ℕ → ℕ → FollowSet → ℕ → Type 0
BuiltTimes B b m zero next f = f ≡ 0
BuiltTimes B b m (suc n) next f =
    (g : ℕ) × (h : ℕ) × BuiltTimes B b (m - 1) n next g × B (begins g (null_times b (m - 1) n) next) h × (f ≡ bit_or h (when b g))

abbrev pub BuiltRepeated : (FollowSet → ℕ → Type 0) → Bool → ℕ → Option ℕ → FollowSet → ℕ → Type 0
BuiltRepeated B b m (Some n) next f = BuiltTimes B b m n next f
BuiltRepeated B b zero None next f = B (begins f true next) f
BuiltRepeated B b (suc zero) None next f = B (begins f true next) f
BuiltRepeated B b (suc (suc m)) None next f = ⊥

-- the rules have places for the pattern, after which a list goes on by next; f are those that read its first node
abbrev pub Built : List Transition → Pattern ℕ → FollowSet → ℕ → Type 0
Built rules (one a) next f = (i : ℕ) × (slice_get rules i ≡ Some (record { atom = a; after = next })) × (f ≡ 2 ^ i)
Built rules nothing next f = f ≡ 0
Built rules (joined p q) next f =
    (g : ℕ) × (h : ℕ) × Built rules q next g × Built rules p (begins g (nullable q) next) h × (f ≡ bit_or h (when (nullable p) g))
Built rules (repeated least most p) next f = BuiltRepeated (Built rules p) (nullable p) least most next f
