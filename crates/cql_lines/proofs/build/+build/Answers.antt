use Rattle.std.proofs.Common.{◌≡◌, ◌∙◌, ℕ, ◌+◌, ◌-◌, ◌*◌, ◌<◌, ◌≤◌, ◌++◌, length, arith, rules, sym, ap, ap₂, subst, Some}
use Rattle.std.proofs.lemmas.Nat.{mul-le}
use Rattle.std.specs.Prelude.{IfOk, OnOk, bit_or}
use Rattle.cq_common.specs.Spelling.{Pattern, joined, repeated}
use Rattle.cql_lines.specs.Building.{begins, size, firsts, firsts_times, rows, rows_times, nullable, null_times}
use Rattle.cql_lines.specs.Places.{when}
use Rattle.cql_lines.specs.Internal.BinaryPatterns.{plain_tree}
use Rattle.cql_lines.specs.declared.binary_pattern.BinaryPattern.TheFolds.{the_lemmas}
use Rattle.cql_lines.proofs.BuildingLaw.{rows_length}
use Rattle.cql_lines.proofs.BuildSteps.{rows_after, times_rows, times_first, due_next, left_due, left_next}
use Rattle.cql_lines.proofs.build.+build.Goals as goal

next_length : (old mid new s k : ℕ) → mid ≡ old + k * s → new ≡ mid + s → new ≡ old + (k + 1) * s
next_length old mid new s k e f = grind arith

room_for_one : (old mid n k s : ℕ) → k < n → mid ≡ old + k * s → old + n * s ≤ 64 → mid + s ≤ 64
room_for_one old mid n k s low e room =
    let more = mul-le (k + 1) s n s (omega arith) (omega arith) in
    let one : (k + 1) * s ≡ k * s + s = grind arith in
    omega arith

pub build_times-build-requires : goal.build_times-build-requires
build_times-build-requires t c = (
  search (rules, the_lemmas),
  room_for_one (length c.args.rules.now.items) (length c.loop-k.rules.items) c.args.n c.loop-k.k (size (plain_tree c.args.p.now)) c.loop-k-test.true c.loop-k.invariant.len c.requires,
)

pub build_times-loop-k-preserved : goal.build_times-loop-k-preserved
build_times-loop-k-preserved t c =
    let p = plain_tree c.args.p.now in
    let due = due_next c.args.m c.args.n c.loop-k.k c.loop-k-test.true in
    record {
      rows = times_rows (rows p) (firsts p) (nullable p) (size p) c.args.rules.now.items c.loop-k.rules.items c.build.new.rules.items
          (c.args.m - (c.args.n - (c.loop-k.k + 1))) c.loop-k.k c.args.next c.loop-k.first c.loop-k.null
          (c.loop-k.invariant.rows ∙ ap (λ d. c.args.rules.now.items ++ rows_times (rows p) (firsts p) (nullable p) (size p) d c.loop-k.k c.args.next (length c.args.rules.now.items)) due)
          c.loop-k.invariant.len c.loop-k.invariant.first
          (c.loop-k.invariant.null ∙ ap (λ e. null_times e (c.args.m - (c.args.n - c.loop-k.k)) c.loop-k.k) c.is_nullable-empty.ensures ∙ ap (λ d. null_times (nullable p) d c.loop-k.k) due)
          (c.in_ok-build.ensures.rows ∙ ap (λ x. c.loop-k.rules.items ++ rows p x (length c.loop-k.rules.items)) c.begin.ensures);
      len = next_length (length c.args.rules.now.items) (length c.loop-k.rules.items) (length c.build.new.rules.items) (size p) c.loop-k.k c.loop-k.invariant.len c.in_ok-build.ensures.len;
      first = times_first (rows p) (firsts p) (nullable p)
          (size p) c.args.rules.now.items c.loop-k.rules.items c.loop-k.k c.loop-k.first c.in_ok-build.field-0 c.with_where-first.result c.is_nullable-empty.result
          c.loop-k.invariant.len c.loop-k.invariant.first c.in_ok-build.ensures.first c.is_nullable-empty.ensures c.with_where-first.ensures;
      null = c.null_after-null.ensures c.loop-k.k (c.loop-k.invariant.null ∙ ap (λ d. null_times c.is_nullable-empty.result d c.loop-k.k) (left_due c.args.m c.args.n c.loop-k.k c.loop-k-test.true))
          ∙ ap (λ d. null_times c.is_nullable-empty.result d (c.loop-k.k + 1)) (left_next c.args.m c.args.n c.loop-k.k c.loop-k-test.true);
    }

-- at the end all parts are due
all_due : (m n k : ℕ) → k ≡ n → m - (n - k) ≡ m
all_due m n k all = omega arith

pub build_times-returns-clause-rows : goal.build_times-returns-clause-rows
build_times-returns-clause-rows t c =
    let p = plain_tree c.args.p.now in
    let old = c.args.rules.now.items in
    let all : c.loop-k.k ≡ c.args.n = omega arith in
    c.loop-k.invariant.rows ∙ ap₂ (λ d j. old ++ rows_times (rows p) (firsts p) (nullable p) (size p) d j c.args.next (length old)) (all_due c.args.m c.args.n c.loop-k.k all) all

pub build_times-returns-clause-first : goal.build_times-returns-clause-first
build_times-returns-clause-first t c =
    let p = plain_tree c.args.p.now in
    let all : c.loop-k.k ≡ c.args.n = omega arith in
    c.loop-k.invariant.first ∙ ap (λ j. firsts_times (firsts p) (nullable p) (size p) j (length c.args.rules.now.items)) all

pub build_times-returns-clause-len : goal.build_times-returns-clause-len
build_times-returns-clause-len t c =
    let all : c.loop-k.k ≡ c.args.n = omega arith in
    c.loop-k.invariant.len ∙ ap (λ j. length c.args.rules.now.items + j * size (plain_tree c.args.p.now)) all

-- a pair of patterns has the places of both
both_size : (p first later : Pattern ℕ) → p ≡ joined first later → size p ≡ size later + size first
both_size p first later is = ap size is

pub build-build-requires : goal.build-build-requires
build-build-requires t c =
    let whole = both_size (plain_tree c.args.p.now) (plain_tree c.in-Both.a.value) (plain_tree c.in-Both.b.value) (ap plain_tree c.in-Both.is) in
    let part = ap (λ p. size (plain_tree p)) c.deref.ensures in
    (search (rules, the_lemmas), omega (arith, whole, part, c.requires))

pub build-build-requires-in-Both : goal.build-build-requires-in-Both
build-build-requires-in-Both t c =
    let whole = both_size (plain_tree c.args.p.now) (plain_tree c.in-Both.a.value) (plain_tree c.in-Both.b.value) (ap plain_tree c.in-Both.is) in
    let later = ap (λ p. size (plain_tree p)) c.deref.ensures in
    let first = ap (λ p. size (plain_tree p)) c.deref-in-Both.ensures in
    (search (rules, the_lemmas), omega (arith, whole, later, first, c.in_ok-more-in-Both.ensures.len, c.requires))

pub build-returns-in_ok-first-in-Both-clause-rows : goal.build-returns-in_ok-first-in-Both-clause-rows
build-returns-in_ok-first-in-Both-clause-rows t c =
    let old = c.args.rules.now.items in
    let later = plain_tree c.deref.result.now in
    let first = plain_tree c.deref-in-Both.result.now in
    let begun : c.begin.result ≡ begins (firsts later (length old)) (nullable later) c.args.next =
    c.begin.ensures ∙ ap (λ f. begins f c.is_nullable.result c.args.next) c.in_ok-more-in-Both.ensures.first
    ∙ ap (λ e. begins (firsts later (length old)) e c.args.next) (c.is_nullable.ensures ∙ ap (λ p. nullable (plain_tree p)) (c.deref-in-Both-2.ensures ∙ sym c.deref.ensures)) in
    rows_after old c.build.new.rules.items c.build-in-Both.new.rules.items (rows later c.args.next (length old)) (size later) (rows first (begins (firsts later (length old)) (nullable later) c.args.next))
    c.in_ok-more-in-Both.ensures.rows (rows_length later c.args.next (length old))
    (c.in_ok-first-in-Both.ensures.rows ∙ ap (λ x. c.build.new.rules.items ++ rows first x (length c.build.new.rules.items)) begun)
    ∙ ap₂ (λ p q. old ++ rows (joined (plain_tree p) (plain_tree q)) c.args.next (length old)) c.deref-in-Both.ensures c.deref.ensures
    ∙ ap (λ p. old ++ rows (plain_tree p) c.args.next (length old)) (sym c.in-Both.is)

pub build-returns-in_ok-first-in-Both-clause-first : goal.build-returns-in_ok-first-in-Both-clause-first
build-returns-in_ok-first-in-Both-clause-first t c =
    let old = length c.args.rules.now.items in
    let later = plain_tree c.deref.result.now in
    let first = plain_tree c.deref-in-Both.result.now in
    c.with_where.ensures
    ∙ ap₂ (λ f m. bit_or f (when c.is_nullable-in-Both.result m)) (c.in_ok-first-in-Both.ensures.first ∙ ap (firsts first) c.in_ok-more-in-Both.ensures.len) c.in_ok-more-in-Both.ensures.first
    ∙ ap (λ e. bit_or (firsts first (old + size later)) (when e (firsts later old)))
    (c.is_nullable-in-Both.ensures ∙ ap (λ p. nullable (plain_tree p)) (c.deref-in-Both-3.ensures ∙ sym c.deref-in-Both.ensures))
    ∙ ap₂ (λ p q. firsts (joined (plain_tree p) (plain_tree q)) old) c.deref-in-Both.ensures c.deref.ensures
    ∙ ap (λ p. firsts (plain_tree p) old) (sym c.in-Both.is)

pub build-returns-in_ok-first-in-Both-clause-len : goal.build-returns-in_ok-first-in-Both-clause-len
build-returns-in_ok-first-in-Both-clause-len t c =
    let whole = both_size (plain_tree c.args.p.now) (plain_tree c.in-Both.a.value) (plain_tree c.in-Both.b.value) (ap plain_tree c.in-Both.is) in
    let later = ap (λ p. size (plain_tree p)) c.deref.ensures in
    let first = ap (λ p. size (plain_tree p)) c.deref-in-Both.ensures in
    omega (arith, whole, later, first, c.in_ok-more-in-Both.ensures.len, c.in_ok-first-in-Both.ensures.len)

pub build-build_times-requires : goal.build-build_times-requires
build-build_times-requires t c =
    let is : repeated c.in-Times.m (Some c.in-Times.n) (plain_tree c.deref-in-Times.result.now) ≡ plain_tree c.args.p.now
    = ap (λ p. repeated c.in-Times.m (Some c.in-Times.n) (plain_tree p)) c.deref-in-Times.ensures ∙ ap plain_tree (sym c.in-Times.is) in
    (search (rules, the_lemmas), subst (λ p. length c.args.rules.now.items + size p ≤ 64) (sym is) c.requires)

pub build-returns-in-Times : goal.build-returns-in-Times
build-returns-in-Times t c =
    let old = c.args.rules.now.items in
    let new = c.build_times.new.rules.items in
    let is : repeated c.in-Times.m (Some c.in-Times.n) (plain_tree c.deref-in-Times.result.now) ≡ plain_tree c.args.p.now
    = ap (λ p. repeated c.in-Times.m (Some c.in-Times.n) (plain_tree p)) c.deref-in-Times.ensures ∙ ap plain_tree (sym c.in-Times.is) in
    record {
      rows = subst (λ p. OnOk c.build_times.result (new ≡ old ++ rows p c.args.next (length old))) is c.build_times.ensures.rows;
      first = subst (λ p. IfOk c.build_times.result (λ f. f ≡ firsts p (length old))) is c.build_times.ensures.first;
      len = subst (λ p. OnOk c.build_times.result (length new ≡ length old + size p)) is c.build_times.ensures.len;
    }
