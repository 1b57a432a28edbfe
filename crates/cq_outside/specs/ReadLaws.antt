-- Laws of a source in memory over lists of reads.
use Rattle.std.specs.Prelude.{◌≡◌, ℕ, ◌≤◌, ◌-◌, ◌^◌, List, [], ◌∷◌, ◌++◌, Bool, true, false, nat_lt, if◌then◌else◌}
use Rattle.std.proofs.Common.{refl, sym, ap, ◌∙◌, subst, le_refl, le_trans}
use Rattle.std.proofs.Math.Nat.{le-add_right}
use Rattle.cq_outside.specs.Calls.{one_more}
use Rattle.cq_outside.specs.MemSource.{FailingSource, fails_next, after_read, after_reads, Follows}

-- every source follows itself
pub follows_itself : (s : FailingSource) → Follows s s
follows_itself s = ([], refl)

after_more_reads : (s : FailingSource) (xs ys : List ℕ) → after_reads s (xs ++ ys) ≡ after_reads (after_reads s xs) ys
after_more_reads s [] ys = refl
after_more_reads s (x ∷ xs) ys = after_more_reads (after_read s x) xs ys

-- reads after reads are reads
pub follows_on : (s t u : FailingSource) → Follows s t → Follows t u → Follows s u
follows_on s t u f g = (f.0 ++ g.0, g.1 ∙ ap (λ x. after_reads x g.0) f.1 ∙ sym (after_more_reads s f.0 g.0))

least_of_two : (b : Bool) (n x y : ℕ) → n ≤ x → n ≤ y → n ≤ (if b then x else y)
least_of_two true n x y f g = f
least_of_two false n x y f g = g

never_less : (count : ℕ) → count ≤ one_more count
never_less count = least_of_two (nat_lt count (2 ^ 64 - 1)) count _ _ (le-add_right count 1) (le_refl count)

fewest_faults : (b : Bool) (n : ℕ) (x y : FailingSource) → n ≤ x.faults → n ≤ y.faults → n ≤ (if b then x else y).faults
fewest_faults true n x y f g = f
fewest_faults false n x y f g = g

faults_after_read : (s : FailingSource) (room : ℕ) → s.faults ≤ (after_read s room).faults
faults_after_read s room = fewest_faults (fails_next s) s.faults _ _ (never_less s.faults) (le_refl s.faults)

faults_after_reads : (s : FailingSource) (rooms : List ℕ) → s.faults ≤ (after_reads s rooms).faults
faults_after_reads s [] = le_refl s.faults
faults_after_reads s (room ∷ rooms) = le_trans (faults_after_read s room) (faults_after_reads (after_read s room) rooms)

-- the count of faults never falls along reads
pub faults_never_fall : (s t : FailingSource) → Follows s t → s.faults ≤ t.faults
faults_never_fall s t f = subst (λ x. s.faults ≤ x.faults) (sym f.1) (faults_after_reads s f.0)
