use Rattle.std.proofs.Common.{◌≡◌, ℕ, ◌+◌, ◌<◌, Bool, false, ◌||◌, ap, sym, ◌∙◌, inl, inr, arith}
use Rattle.std.proofs.Math.Bool.{or-false}
use Rattle.std.proofs.lemmas.Bool.{cases_eq}
use Rattle.cql_lines.specs.Internal.Lengths.{is_set, at}
use Rattle.cql_lines.proofs.table.AtomTable.held.Goals as goal

-- one atom more is read
one_more : (word old new atom : ℕ) (holds : Bool) → holds ≡ is_set word atom → is_set old atom ≡ false → is_set new atom ≡ (holds || is_set old atom)
    → ((a : ℕ) → a < atom → is_set new a ≡ is_set old a) → ((a : ℕ) → a < atom → is_set old a ≡ is_set word a)
    → (a : ℕ) → a < atom + 1 → is_set new a ≡ is_set word a
one_more word old new atom holds held fresh set kept before a low = elim (cases_eq a atom) [
  | inl is ↦ ap (is_set new) is ∙ set ∙ ap (λ b. holds || b) fresh ∙ or-false holds ∙ held ∙ ap (is_set word) (sym is)
  | inr other ↦ kept a (omega arith) ∙ before a (omega arith)
]

pub loop-atom-preserved : goal.loop-atom-preserved
loop-atom-preserved g c = record {
  read = one_more (at c.args.self.now.words.items c.args.node) c.loop-atom.mask c.with_bit-mask.result c.loop-atom.atom c.look-holds.result
      c.look-holds.ensures.held (c.loop-atom.invariant.fresh _ (omega arith)) c.with_bit-mask.ensures.set c.with_bit-mask.ensures.others c.loop-atom.invariant.read;
  fresh = λ a more. c.with_bit-mask.ensures.above a (omega (arith, more)) (c.loop-atom.invariant.fresh a (omega (arith, more)));
  taken = omega (arith, c.look-holds.ensures.step, c.loop-atom.invariant.taken);
}

pub returns-clause-held : goal.returns-clause-held
returns-clause-held g c = λ a low. c.loop-atom.invariant.read a (omega (arith, low, c.loop-atom-test.false))
