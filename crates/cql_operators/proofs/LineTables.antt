-- The atoms of a line, put into a table one by one.
use Rattle.std.proofs.Common.{◌≡◌, ℕ, ◌+◌, ◌<◌, ◌≤◌, ◌&&◌, ◌||◌, Bool, true, false, List, [], ◌∷◌, length, drop, refl, sym, ap, ◌∙◌, subst, arith, ⊎_elim}
use Rattle.std.specs.List.{list_any}
use Rattle.cq_common.specs.Spelling.{one}
use Rattle.cq_position.specs.Search.{SearchedTree, IsStep}
use Rattle.cql_lines.specs.Tables.{holds_in}
use Rattle.cql_lines.specs.declared.table.AtomTable.{AtomTable}
use Rattle.cql_syntax.specs.Meaning.{Names, marked, value, pattern, body_pattern}
use Rattle.cql_syntax.specs.TreeOf.{body_tree, part_trees}
use Rattle.cql_syntax.specs.Trees.{FilterTree, PartTrees, no_parts, BodyTree, atom, group}
use Rattle.cql_syntax.specs.Values.{Value, holds as value_holds}
use Rattle.cql_syntax.specs.declared.tree.Constituent.{Constituent}
use Rattle.cql_columns.specs.Columns.{is_live, shown, IsColumn, IsNodeSet, IsPart}
use Rattle.cql_columns.specs.Costs.{parts_atoms, body_atoms}
use Rattle.cql_columns.specs.Scopes.{tree_in}
use Rattle.cql_columns.specs.declared.scope.Scope.{Scope}
use Rattle.cql_columns.proofs.Costing.{ItemOf}
use Rattle.cql_columns.specs.declared.filter_column.FilterColumn.{FilterColumn}
use Rattle.cql_columns.proofs.Filling.{split_last, live_below}
use Rattle.cql_operators.specs.LineAtoms.{parts_numbered, body_numbered, AreClearFrom, HasRoom, IsPut, IsFilledIn}
use Rattle.cql_operators.specs.SpelledParts.{IsLive, AreAlike, IsNever, Agrees, AreTabled, AreOnward, LeadsOn, SpellsNothing}
use Rattle.cql_operators.proofs.Lives.{none_live}
use Rattle.cql_operators.proofs.SpelledAlike.{InTable, atom_alike, after_atom, never_atom, never_there, never_one}
use Rattle.cql_operators.proofs.LineAtoms.{atoms_end, atoms_left, drop_all, drop_parts}

-- the atoms of a table

-- a tree that lines walk one way, and the squares that names have there
pub record Walk : Type 0 where
  pub tree : SearchedTree
  pub back : Bool
  pub names : Names

abbrev pub walk_in : Scope → Bool → Walk
walk_in s back = record { tree = tree_in s; back = back; names = s.names.now }

-- the body of a part, whose atoms are in a table from the first on
abbrev pub of_body : {L : Type 0} {own : _} → Walk → AtomTable L own → ℕ → BodyTree → InTable (AtomTable L own)
of_body walk table first b = record { table = table; past = first + body_atoms b; numbered = body_numbered first b; stands_for = body_pattern walk.tree [] walk.names b }

-- The state of a row: its next atom, the nodes at which its next part may begin, and the table. `met` is true if each atom so far holds at
-- some node.
pub record Stage (T : Type 0) : Type 0 where
  pub at : ℕ
  pub starts : List Bool
  pub met : Bool
  pub table : T

-- parts in a row that are put in a table, and the stage at which they begin
pub record Row (T : Type 0) : Type 0 where
  pub walk : Walk
  pub parts : List Constituent
  pub begun : Stage T

abbrev pub stage : {L : Type 0} {own : _} → ℕ → List Bool → Bool → AtomTable L own → Stage (AtomTable L own)
stage at starts met table = record { at = at; starts = starts; met = met; table = table }

abbrev pub row_in : {L : Type 0} {own : _} → Scope → Bool → List Constituent → Stage (AtomTable L own) → Row (AtomTable L own)
row_in s back parts begun = record { walk = walk_in s back; parts = parts; begun = begun }

-- parts in a row are never spelled on ways from some nodes
abbrev pub NeverSpelled : Walk → List Bool → PartTrees → Type 0
NeverSpelled walk live cs = IsNever (IsStep walk.tree walk.back false) (IsLive live) (pattern walk.tree [] walk.names cs)

-- a pattern of numbers, by a test, spells the same as parts in a row on ways from some nodes
abbrev pub SpelledFrom : Walk → (ℕ → ℕ → Bool) → ℕ → List Bool → PartTrees → Type 0
SpelledFrom walk test first live cs = AreAlike (IsStep walk.tree walk.back false) (IsLive live) test (parts_numbered first cs) (pattern walk.tree [] walk.names cs)

-- the rest of the parts tells the whole, given the table of the parts so far
abbrev pub TellsAll : {L : Type 0} {own : _} → Row (AtomTable L own) → PartTrees → Stage (AtomTable L own) → Type 0
TellsAll row rest now =
    (test : ℕ → ℕ → Bool) → Agrees test now.table now.at → SpelledFrom row.walk test now.at now.starts rest → SpelledFrom row.walk test row.begun.at row.begun.starts (part_trees row.parts)

-- if the rest is never spelled, the whole isn't
abbrev pub NeverAll : {L : Type 0} {own : _} → Row (AtomTable L own) → PartTrees → List Bool → Type 0
NeverAll row rest starts = NeverSpelled row.walk starts rest → NeverSpelled row.walk row.begun.starts (part_trees row.parts)

-- a part leads from one stage to the next
abbrev pub PartLeads : {L : Type 0} {own : _} → Walk → Constituent → Stage (AtomTable L own) → Stage (AtomTable L own) → Type 0
PartLeads walk c now next = LeadsOn walk.tree walk.back now.starts next.starts next.table (now.at + body_atoms (body_tree c.body))
    (marked c.mark (body_numbered now.at (body_tree c.body))) (marked c.mark (body_pattern walk.tree [] walk.names (body_tree c.body)))

tells_next : {L : Type 0} {own : _} (row : Row (AtomTable L own)) (part : ItemOf row.parts) (now next : Stage (AtomTable L own)) → next.at ≡ now.at + body_atoms (body_tree part.item.body)
    → PartLeads row.walk part.item now next → IsFilledIn now.table next.table now.at (now.at + body_atoms (body_tree part.item.body))
    → TellsAll row (part_trees (drop part.index row.parts)) now → TellsAll row (part_trees (drop (part.index + 1) row.parts)) next
unfolding pattern
tells_next row part now next on leads filled had test same last =
    let rest : PartTrees = part_trees (drop (part.index + 1) row.parts) in
    subst (λ cs. TellsAll row cs now) (drop_parts row.parts part.index part.item part.below part.is) had test
    (λ a n h. same a n (omega (arith, h, on)) ∙ filled.before a n h)
    (leads.alike test (λ a n h. same a n (omega (arith, h, on))) (parts_numbered (now.at + body_atoms (body_tree part.item.body)) rest) (pattern row.walk.tree [] row.walk.names rest)
    (subst (λ k. SpelledFrom row.walk test k next.starts rest) on last))

never_next : {L : Type 0} {own : _} (row : Row (AtomTable L own)) (part : ItemOf row.parts) (now next : Stage (AtomTable L own)) → PartLeads row.walk part.item now next
    → NeverAll row (part_trees (drop part.index row.parts)) now.starts → NeverAll row (part_trees (drop (part.index + 1) row.parts)) next.starts
unfolding pattern
never_next row part now next leads had last =
    subst (λ cs. NeverAll row cs now.starts) (drop_parts row.parts part.index part.item part.below part.is) had
    (leads.never (pattern row.walk.tree [] row.walk.names (part_trees (drop (part.index + 1) row.parts))) last)

ends_next : {L : Type 0} {own : _} (row : Row (AtomTable L own)) (part : ItemOf row.parts) (starts : List Bool)
    → SpellsNothing row.walk.tree row.walk.back starts (marked part.item.mark (body_pattern row.walk.tree [] row.walk.names (body_tree part.item.body)))
    → NeverAll row (part_trees (drop part.index row.parts)) starts → NeverSpelled row.walk row.begun.starts (part_trees row.parts)
unfolding pattern
ends_next row part starts ends had =
    subst (λ cs. NeverAll row cs starts) (drop_parts row.parts part.index part.item part.below part.is) had
    (ends (pattern row.walk.tree [] row.walk.names (part_trees (drop (part.index + 1) row.parts))))

tells_end : {L : Type 0} {own : _} (row : Row (AtomTable L own)) (now : Stage (AtomTable L own)) → TellsAll row no_parts now
    → AreTabled row.walk.tree row.walk.back (IsLive row.begun.starts) now.table now.at
    (parts_numbered row.begun.at (part_trees row.parts)) (pattern row.walk.tree [] row.walk.names (part_trees row.parts))
unfolding pattern
tells_end row now had test same = had test same (λ w way. (λ x. x, λ x. x))

pub record TableSoFar {L : Type 0} {own : _} (row : Row (AtomTable L own)) (i : ℕ) (now : Stage (AtomTable L own)) : Type 0 where
  pub asked : IsNodeSet row.walk.tree now.starts
  pub tells : TellsAll row (part_trees (drop i row.parts)) now
  pub never : NeverAll row (part_trees (drop i row.parts)) now.starts
  pub ends : row.begun.met ≡ true → now.met ≡ false → NeverSpelled row.walk row.begun.starts (part_trees row.parts)
  pub filled : IsFilledIn row.begun.table now.table row.begun.at now.at
  pub count : now.at + parts_atoms (part_trees (drop i row.parts)) ≡ row.begun.at + parts_atoms (part_trees row.parts)
  pub beyond : row.begun.at ≤ now.at

not_both : (b : Bool) → b ≡ true → b ≡ false → ⊥
not_both true e f = cc
not_both false e f = cc

none_dropped : (xs : List Constituent) → drop 0 xs ≡ xs
none_dropped [] = refl
none_dropped (x ∷ xs) = refl

-- the first stage, with a copy of the nodes
abbrev pub started : {L : Type 0} {own : _} → Stage (AtomTable L own) → List Bool → Stage (AtomTable L own)
started begun starts = stage begun.at starts begun.met begun.table

pub table_begun : {L : Type 0} {own : _} (row : Row (AtomTable L own)) (starts : List Bool) → IsNodeSet row.walk.tree row.begun.starts → starts ≡ row.begun.starts
    → TableSoFar row 0 (started row.begun starts)
table_begun row starts asked is = record {
  asked = subst (IsNodeSet row.walk.tree) (sym is) asked;
  tells = λ test same last.
      subst (λ ys. SpelledFrom row.walk test row.begun.at row.begun.starts (part_trees ys)) (none_dropped row.parts)
      (subst (λ l. SpelledFrom row.walk test row.begun.at l (part_trees (drop 0 row.parts))) is last);
  never = λ last. subst (λ ys. NeverSpelled row.walk row.begun.starts (part_trees ys)) (none_dropped row.parts)
      (subst (λ l. NeverSpelled row.walk l (part_trees (drop 0 row.parts))) is last);
  ends = λ b m. absurd (not_both row.begun.met b m);
  filled = record { atoms = refl; nodes = refl; before = λ a n h. refl; after = λ a n h. refl };
  count = ap (λ ys. row.begun.at + parts_atoms (part_trees ys)) (none_dropped row.parts);
  beyond = omega arith;
}

truth_or : (P : Type 0) (b : Bool) → (b ≡ true → P) → (b ≡ false → P) → P
truth_or P true f g = f refl
truth_or P false f g = g refl

pub table_more : {L : Type 0} {own : _} (row : Row (AtomTable L own)) (part : ItemOf row.parts) (now next : Stage (AtomTable L own)) → next.at ≡ now.at + body_atoms (body_tree part.item.body)
    → PartLeads row.walk part.item now next
    → (now.met ≡ true → next.met ≡ false
    → SpellsNothing row.walk.tree row.walk.back now.starts (marked part.item.mark (body_pattern row.walk.tree [] row.walk.names (body_tree part.item.body))))
    → IsFilledIn now.table next.table now.at (now.at + body_atoms (body_tree part.item.body)) → TableSoFar row part.index now → TableSoFar row (part.index + 1) next
table_more row part now next on leads ends filled had = record {
  asked = leads.asked;
  tells = tells_next row part now next on leads filled had.tells;
  never = never_next row part now next leads had.never;
  ends = λ b m. truth_or (NeverSpelled row.walk row.begun.starts (part_trees row.parts)) now.met
      (λ yes. ends_next row part now.starts (ends yes m) had.never)
      (λ no. had.ends b no);
  filled = record {
    atoms = filled.atoms ∙ had.filled.atoms;
    nodes = filled.nodes ∙ had.filled.nodes;
    before = λ a n h. filled.before a n (omega (arith, h, had.beyond)) ∙ had.filled.before a n h;
    after = λ a n h. filled.after a n (omega (arith, h, on)) ∙ had.filled.after a n (omega (arith, h, on));
  };
  count = (let l = atoms_left row.parts part.index part.item part.below part.is in omega (arith, l, on, had.count));
  beyond = omega (arith, had.beyond, on);
}

module _ {L : Type 0} {own : _} (row : Row (AtomTable L own)) (i : ℕ) (now : Stage (AtomTable L own)) (cs : PartTrees)
    (end : length row.parts ≤ i) (same : part_trees row.parts ≡ cs) (had : TableSoFar row i now) where
  pub table_all : AreTabled row.walk.tree row.walk.back (IsLive row.begun.starts) now.table (row.begun.at + parts_atoms cs)
      (parts_numbered row.begun.at cs) (pattern row.walk.tree [] row.walk.names cs)
  table_all =
      subst (λ ds. AreTabled row.walk.tree row.walk.back (IsLive row.begun.starts) now.table (row.begun.at + parts_atoms ds)
      (parts_numbered row.begun.at ds) (pattern row.walk.tree [] row.walk.names ds)) same
      (subst (λ k. AreTabled row.walk.tree row.walk.back (IsLive row.begun.starts) now.table k
      (parts_numbered row.begun.at (part_trees row.parts)) (pattern row.walk.tree [] row.walk.names (part_trees row.parts)))
      (let l = atoms_end row.parts i end in omega (arith, l, had.count))
      (tells_end row now (subst (λ ds. TellsAll row ds now) (drop_all row.parts i end) had.tells)))

  pub ends_all : row.begun.met ≡ true → now.met ≡ false → NeverSpelled row.walk row.begun.starts cs
  ends_all b m = subst (NeverSpelled row.walk row.begun.starts) same (had.ends b m)

  pub at_all : now.at ≡ row.begun.at + parts_atoms cs
  at_all = let l = atoms_end row.parts i end in let s = ap parts_atoms same in omega (arith, l, s, had.count)

  pub filled_all : IsFilledIn row.begun.table now.table row.begun.at (row.begun.at + parts_atoms cs)
  filled_all = subst (IsFilledIn row.begun.table now.table row.begun.at) at_all had.filled

pub still_clear : {L : Type 0} {own : _} (old table : AtomTable L own) (first at : ℕ) → first ≤ at → AreClearFrom old first → IsFilledIn old table first at → AreClearFrom table at
still_clear old table first at beyond clear filled a n h = filled.after a n h ∙ clear a n (omega (arith, h, beyond))

-- the next part is flat, and has room too
pub part_room : {L : Type 0} {own : _} (row : Row (AtomTable L own)) (part : ItemOf row.parts) (now : Stage (AtomTable L own)) (count : ℕ) (cs : PartTrees)
    → TableSoFar row part.index now → part_trees row.parts ≡ cs → HasRoom count row.begun.at (row.begun.at + parts_atoms cs) row.begun.table
    → HasRoom count now.at (now.at + body_atoms (body_tree part.item.body)) now.table
part_room row part now count cs had same room =
    let l = atoms_left row.parts part.index part.item part.below part.is in let s = ap parts_atoms same in
    record {
      few = omega (arith, l, s, had.count, room.few);
      atoms = omega (arith, l, s, had.count, room.atoms, had.filled.atoms);
      nodes = had.filled.nodes ∙ room.nodes;
      clear = still_clear row.begun.table now.table row.begun.at now.at had.beyond room.clear had.filled;
    }

-- one atom

pub record PutUpTo {L : Type 0} {own : _} (test : ℕ → Bool) (which k : ℕ) (old table : AtomTable L own) : Type 0 where
  pub put : (n : ℕ) → n < k → holds_in table which n ≡ test n
  pub later : (n : ℕ) → k ≤ n → holds_in table which n ≡ false
  pub filled : IsFilledIn old table which (which + 1)

pub put_begun : {L : Type 0} {own : _} (test : ℕ → Bool) (which : ℕ) (table : AtomTable L own) → ((n : ℕ) → holds_in table which n ≡ false) → PutUpTo test which 0 table table
put_begun test which table clear = record {
  put = λ n h. absurd (omega (arith, h));
  later = λ n h. clear n;
  filled = record { atoms = refl; nodes = refl; before = λ a n h. refl; after = λ a n h. refl };
}

or_none : (b c : Bool) → c ≡ false → (b || c) ≡ b
or_none true c e = refl
or_none false c e = e

pub put_more : {L : Type 0} {own : _} (test : ℕ → Bool) (which k : ℕ) (there : Bool) (old table new : AtomTable L own) → there ≡ test k → IsPut which k there table new
    → PutUpTo test which k old table → PutUpTo test which (k + 1) old new
put_more test which k there old table new is step had = record {
  put = λ n h. ⊎_elim
      (λ less. step.others which n (λ e. omega (arith, e.1, less)) ∙ had.put n less)
      (λ same. ap (holds_in new which) same ∙ step.here ∙ or_none there (holds_in table which k) (had.later k (omega arith)) ∙ is ∙ ap test (sym same))
      (split_last n k h);
  later = λ n h. step.others which n (λ e. omega (arith, e.1, h)) ∙ had.later n (omega (arith, h));
  filled = record {
    atoms = step.atoms ∙ had.filled.atoms;
    nodes = step.nodes ∙ had.filled.nodes;
    before = λ a n h. step.others a n (λ e. omega (arith, e.0, h)) ∙ had.filled.before a n h;
    after = λ a n h. step.others a n (λ e. omega (arith, e.0, h)) ∙ had.filled.after a n h;
  };
}

-- an atom's column is in the table, at the live nodes
module _ {L : Type 0} {own : _} (tree : SearchedTree) (back : Bool) (table : AtomTable L own) (which : ℕ) (c : FilterColumn) (v : ℕ → Value) (live : List Bool) (asked : IsNodeSet tree live)
    (column : IsColumn c live v)
    (put : (n : ℕ) → n < length tree.game.nodes → holds_in table which n ≡ (is_live live n && value_holds (shown c n))) where
  atom_there : (test : ℕ → ℕ → Bool) → Agrees test table (which + 1) → (n : ℕ) → IsLive live n → test which n ≡ value_holds (v n)
  atom_there test same n l =
      same which n (omega arith) ∙ put n (omega (arith, live_below live n l, asked.count)) ∙ ap (λ b. b && value_holds (shown c n)) l ∙ ap value_holds (column n l)

  pub atom_tabled : AreTabled tree back (IsLive live) table (which + 1) (one which) (one v)
  atom_tabled test same = atom_alike (IsStep tree back false) (IsLive live) test which v (atom_there test same)

  module _ (held : List Bool) (part : IsPart tree live c true held) where
    is_held : (n : ℕ) → IsLive live n → value_holds (v n) ≡ true → IsLive held n
    is_held n l h = part.narrowed.each n ∙ ap (λ b. b && value_holds (shown c n)) l ∙ ap value_holds (column n l) ∙ h

    -- the next part may begin one step after a node at which the atom holds
    pub atom_leads : (next : List Bool) → AreOnward tree back held next → LeadsOn tree back live next table (which + 1) (one which) (one v)
    atom_leads next on = record {
      asked = on.asked;
      alike = λ test same q s g. after_atom (IsStep tree back false) (IsLive live) (IsLive next) test which v (atom_there test same)
          (λ n m l h step. on.covers n m (is_held n l h) step) q s g;
      never = λ s g. never_atom (IsStep tree back false) (IsLive live) (IsLive next) v (λ n m l h step. on.covers n m (is_held n l h) step) s g;
    }

    pub atom_never : list_any (λ b. b) held ≡ false → IsNever (IsStep tree back false) (IsLive live) (one v)
    atom_never none = never_one (IsStep tree back false) (IsLive live) v (λ n l h. none_live held none n (is_held n l h))

    pub atom_ends : list_any (λ b. b) held ≡ false → SpellsNothing tree back live (one v)
    atom_ends none s = never_there (IsStep tree back false) (IsLive live) v (λ n l h. none_live held none n (is_held n l h)) s

-- an atom without live nodes holds at no node
module _ (tree : SearchedTree) (back : Bool) (v : ℕ → Value) (live : List Bool) (none : list_any (λ b. b) live ≡ false) where
  pub none_ends : SpellsNothing tree back live (one v)
  none_ends s = never_there (IsStep tree back false) (IsLive live) v (λ n l h. none_live live none n l) s

-- an atom or a group as the body of a part

pub atom_form : {L : Type 0} {own : _} (tree : SearchedTree) (back : Bool) (e : Names) (In : ℕ → Type 0) (table : AtomTable L own) (first : ℕ) (b : BodyTree) (f : FilterTree) → b ≡ atom f
    → AreTabled tree back In table (first + 1) (one first) (one (value tree [] e f)) → AreTabled tree back In table (first + body_atoms b) (body_numbered first b) (body_pattern tree [] e b)
unfolding value
atom_form tree back e In table first b f is h = subst (λ x. AreTabled tree back In table (first + body_atoms x) (body_numbered first x) (body_pattern tree [] e x)) (sym is) h

pub never_form : (tree : SearchedTree) (back : Bool) (e : Names) (In : ℕ → Type 0) (b : BodyTree) (f : FilterTree) → b ≡ atom f
    → IsNever (IsStep tree back false) In (one (value tree [] e f)) → IsNever (IsStep tree back false) In (body_pattern tree [] e b)
unfolding value
never_form tree back e In b f is h = subst (λ x. IsNever (IsStep tree back false) In (body_pattern tree [] e x)) (sym is) h

-- a row goes on as long as each atom holds somewhere
pub not_some : (met some : Bool) → met ≡ true → (met && some) ≡ false → some ≡ false
not_some true some e f = f
not_some false some e f = cc

pub leads_form : {L : Type 0} {own : _} (walk : Walk) (old new : List Bool) (table : AtomTable L own) (first : ℕ) (b : BodyTree) (f : FilterTree) → b ≡ atom f
    → LeadsOn walk.tree walk.back old new table (first + 1) (one first) (one (value walk.tree [] walk.names f))
    → LeadsOn walk.tree walk.back old new table (first + body_atoms b) (body_numbered first b) (body_pattern walk.tree [] walk.names b)
unfolding value
leads_form walk old new table first b f is h =
    subst (λ x. LeadsOn walk.tree walk.back old new table (first + body_atoms x) (body_numbered first x) (body_pattern walk.tree [] walk.names x)) (sym is) h

pub ends_form : (tree : SearchedTree) (back : Bool) (e : Names) (live : List Bool) (b : BodyTree) (f : FilterTree) → b ≡ atom f
    → SpellsNothing tree back live (one (value tree [] e f)) → SpellsNothing tree back live (body_pattern tree [] e b)
unfolding value
ends_form tree back e live b f is h = subst (λ x. SpellsNothing tree back live (body_pattern tree [] e x)) (sym is) h

pub group_tabled : {L : Type 0} {own : _} (tree : SearchedTree) (back : Bool) (e : Names) (In : ℕ → Type 0) (table : AtomTable L own) (first : ℕ) (b : BodyTree) (cs : PartTrees) → b ≡ group cs
    → AreTabled tree back In table (first + parts_atoms cs) (parts_numbered first cs) (pattern tree [] e cs)
    → AreTabled tree back In table (first + body_atoms b) (body_numbered first b) (body_pattern tree [] e b)
unfolding value
group_tabled tree back e In table first b cs is h = subst (λ x. AreTabled tree back In table (first + body_atoms x) (body_numbered first x) (body_pattern tree [] e x)) (sym is) h

pub group_never : (tree : SearchedTree) (back : Bool) (e : Names) (In : ℕ → Type 0) (b : BodyTree) (cs : PartTrees) → b ≡ group cs
    → IsNever (IsStep tree back false) In (pattern tree [] e cs) → IsNever (IsStep tree back false) In (body_pattern tree [] e b)
unfolding value
group_never tree back e In b cs is h = subst (λ x. IsNever (IsStep tree back false) In (body_pattern tree [] e x)) (sym is) h
