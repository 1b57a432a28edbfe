-- One law for each form of a pattern: the places at which it ends.
use Rattle.std.proofs.Common.{◌≡◌, ℕ, zero, suc, ◌+◌, ◌≤◌, Bool, true, List, [], ◌∷◌, ◌++◌, length, refl, sym, ap, ◌∙◌, subst, Option, Some, None, IfSome, inl, inr, arith, length-append, append_assoc, append-nil}
use Rattle.std.specs.Prelude.{◌⊎◌, ◌↔◌}
use Rattle.std.proofs.lemmas.Bool.{cases_lt}
use Rattle.cq_common.specs.Spelling.{Pattern, one, nothing, joined, repeated, Times, Spells}
use Rattle.cql_plain.specs.Internal.PatternEnds.{Spans, IsEnd}

times_snoc : (Part : List ℕ → Type 0) (k : ℕ) (u v : List ℕ) → Times Part k u → Part v → Times Part (suc k) (u ++ v)
times_snoc Part zero u v t p = (v, [], ap (λ l. l ++ v) t ∙ sym (append-nil v), p, refl)
times_snoc Part (suc k) u v t p =
    (t.0, t.1 ++ v, ap (λ l. l ++ v) t.2 ∙ append_assoc t.0 t.1 v, t.3, times_snoc Part k t.1 v t.4 p)

-- a part that is empty is never needed
record Few (Part : List ℕ → Type 0) (k : ℕ) (w : List ℕ) : Type 0 where
  count : ℕ
  within : count ≤ k
  few : count ≤ length w
  parts : Times Part count w

mutual_few : (Part : List ℕ → Type 0) (k : ℕ) (w u v : List ℕ) → w ≡ u ++ v → Part u → Few Part k v → Few Part (suc k) w
mutual_few Part k w [] v e p f = record { count = f.count; within = omega (arith, f.within); few = omega (arith, f.few, ap length e); parts = subst (Times Part f.count) (sym e) f.parts }
mutual_few Part k w (x ∷ u) v e p f =
    let l = ap length e in let m = length-append u v in
    record { count = suc f.count; within = omega (arith, f.within); few = omega (arith, f.few, l, m); parts = (x ∷ u, v, e, p, f.parts) }

few_parts : (Part : List ℕ → Type 0) (k : ℕ) (w : List ℕ) → Times Part k w → Few Part k w
few_parts Part zero w t = record { count = 0; within = omega arith; few = omega arith; parts = t }
few_parts Part (suc k) w t = mutual_few Part k w t.0 t.1 t.2 t.3 (few_parts Part k t.1 t.4)

module _ {A : Type 0} (goes : ℕ → ℕ → Type 0) (test : A → ℕ → Bool) where
  -- a slice of two parts
  pub record Halves (i : ℕ) (u v : List ℕ) (j : ℕ) : Type 0 where
    pub middle : ℕ
    pub before : Spans goes i u middle
    pub after : Spans goes middle v j

  pub halves : (i : ℕ) (u v : List ℕ) (j : ℕ) → Spans goes i (u ++ v) j → Halves i u v j
  halves i [] v j s = record { middle = i; before = refl; after = s }
  halves i (k ∷ u) v j s = let h = halves (suc k) u v j s.1 in record { middle = h.middle; before = (s.0, h.before); after = h.after }

  pub whole : (i : ℕ) (u v : List ℕ) (m j : ℕ) → Spans goes i u m → Spans goes m v j → Spans goes i (u ++ v) j
  whole i [] v m j s t = subst (λ x. Spans goes x v j) (sym s) t
  whole i (k ∷ u) v m j s t = (s.0, whole (suc k) u v m j s.1 t)

  pub more_ends : (p : Pattern A) (S T : ℕ → Type 0) → ((i : ℕ) → S i → T i) → (j : ℕ) → IsEnd goes test p S j → IsEnd goes test p T j
  more_ends p S T each j r = record { start = r.start; path = r.path; begins = each r.start r.begins; leads = r.leads; spelled = r.spelled }

  -- one node
  pub record IsNext (a : A) (S : ℕ → Type 0) (j : ℕ) : Type 0 where
    pub node : ℕ
    pub start : ℕ
    pub is : j ≡ suc node
    pub begins : S start
    pub leads : goes start node
    pub passes : test a node ≡ true

  one_found : (a : A) (S : ℕ → Type 0) (j : ℕ) → IsEnd goes test (one a) S j → IsNext a S j
  one_found a S j r =
      let s = subst (λ w. Spans goes r.start w j) r.spelled.1 r.leads in
      record { node = r.spelled.0; start = r.start; is = sym s.1; begins = r.begins; leads = s.0; passes = r.spelled.2 }

  one_ends : (a : A) (S : ℕ → Type 0) (j : ℕ) → IsNext a S j → IsEnd goes test (one a) S j
  one_ends a S j n = record { start = n.start; path = n.node ∷ []; begins = n.begins; leads = (n.leads, sym n.is); spelled = (n.node, refl, n.passes) }

  pub one_law : (a : A) (S : ℕ → Type 0) (j : ℕ) → IsEnd goes test (one a) S j ↔ IsNext a S j
  one_law a S j = (one_found a S j, one_ends a S j)

  -- nothing
  nothing_found : (S : ℕ → Type 0) (j : ℕ) → IsEnd goes test nothing S j → S j
  nothing_found S j r = let s = subst (λ w. Spans goes r.start w j) r.spelled r.leads in subst S s r.begins

  pub nothing_law : (S : ℕ → Type 0) (j : ℕ) → IsEnd goes test nothing S j ↔ S j
  nothing_law S j = (nothing_found S j, λ h. record { start = j; path = []; begins = h; leads = refl; spelled = refl })

  -- one pattern after another
  joined_found : (p q : Pattern A) (S : ℕ → Type 0) (j : ℕ) → IsEnd goes test (joined p q) S j → IsEnd goes test q (IsEnd goes test p S) j
  joined_found p q S j r =
      let s = subst (λ w. Spans goes r.start w j) r.spelled.2 r.leads in
      let h = halves r.start r.spelled.0 r.spelled.1 j s in
      record {
        start = h.middle;
        path = r.spelled.1;
        leads = h.after;
        spelled = r.spelled.4;
        begins = record { start = r.start; path = r.spelled.0; begins = r.begins; leads = h.before; spelled = r.spelled.3 };
      }

  joined_ends : (p q : Pattern A) (S : ℕ → Type 0) (j : ℕ) → IsEnd goes test q (IsEnd goes test p S) j → IsEnd goes test (joined p q) S j
  joined_ends p q S j r =
      record {
        start = r.begins.start;
        path = r.begins.path ++ r.path;
        begins = r.begins.begins;
        leads = whole r.begins.start r.begins.path r.path r.start j r.begins.leads r.leads;
        spelled = (r.begins.path, r.path, refl, r.begins.spelled, r.spelled);
      }

  pub joined_law : (p q : Pattern A) (S : ℕ → Type 0) (j : ℕ) → IsEnd goes test (joined p q) S j ↔ IsEnd goes test q (IsEnd goes test p S) j
  joined_law p q S j = (joined_found p q S j, joined_ends p q S j)

  -- so many parts, one after another
  abbrev pub Power : Pattern A → ℕ → (ℕ → Type 0) → ℕ → Type 0
  Power p zero S j = S j
  Power p (suc k) S j = IsEnd goes test p (Power p k S) j

  first_last : (p : Pattern A) (k : ℕ) (S : ℕ → Type 0) (j : ℕ) → Power p k (IsEnd goes test p S) j → IsEnd goes test p (Power p k S) j
  first_last p zero S j r = r
  first_last p (suc k) S j r = more_ends p (Power p k (IsEnd goes test p S)) (IsEnd goes test p (Power p k S)) (first_last p k S) j r

  of_times : (p : Pattern A) (k : ℕ) (S : ℕ → Type 0) (i : ℕ) (w : List ℕ) (j : ℕ) → S i → Spans goes i w j → Times (Spells test p) k w → Power p k S j
  of_times p zero S i w j h s t = let e : i ≡ j = subst (λ l. Spans goes i l j) t s in subst S e h
  of_times p (suc k) S i w j h s t =
      let two = halves i t.0 t.1 j (subst (λ l. Spans goes i l j) t.2 s) in
      first_last p k S j
      (of_times p k (IsEnd goes test p S) two.middle t.1 j (record { start = i; path = t.0; begins = h; leads = two.before; spelled = t.3 }) two.after t.4)

  record Parts (p : Pattern A) (k : ℕ) (S : ℕ → Type 0) (j : ℕ) : Type 0 where
    start : ℕ
    path : List ℕ
    begins : S start
    leads : Spans goes start path j
    parts : Times (Spells test p) k path

  to_times : (p : Pattern A) (k : ℕ) (S : ℕ → Type 0) (j : ℕ) → Power p k S j → Parts p k S j
  to_times p zero S j h = record { start = j; path = []; begins = h; leads = refl; parts = refl }
  to_times p (suc k) S j r =
      let b = to_times p k S r.start r.begins in
      record {
        start = b.start;
        path = b.path ++ r.path;
        begins = b.begins;
        leads = whole b.start b.path r.path r.start j b.leads r.leads;
        parts = times_snoc (Spells test p) k b.path r.path b.parts r.spelled;
      }

  -- a number of parts that is permitted
  pub record IsRepeated (p : Pattern A) (least : ℕ) (most : Option ℕ) (S : ℕ → Type 0) (j : ℕ) : Type 0 where
    pub count : ℕ
    pub enough : least ≤ count
    pub within : IfSome most (λ m. count ≤ m)
    pub ends : Power p count S j

  repeated_found : (p : Pattern A) (least : ℕ) (most : Option ℕ) (S : ℕ → Type 0) (j : ℕ) → IsEnd goes test (repeated least most p) S j → IsRepeated p least most S j
  repeated_found p least most S j r = record {
    count = r.spelled.0;
    enough = r.spelled.1;
    within = r.spelled.2;
    ends = of_times p r.spelled.0 S r.start r.path j r.begins r.leads r.spelled.3;
  }

  repeated_ends : (p : Pattern A) (least : ℕ) (most : Option ℕ) (S : ℕ → Type 0) (j : ℕ) → IsRepeated p least most S j → IsEnd goes test (repeated least most p) S j
  repeated_ends p least most S j r =
      let t = to_times p r.count S j r.ends in
      record { start = t.start; path = t.path; begins = t.begins; leads = t.leads; spelled = (r.count, r.enough, r.within, t.parts) }

  pub repeated_law : (p : Pattern A) (least : ℕ) (most : Option ℕ) (S : ℕ → Type 0) (j : ℕ) → IsEnd goes test (repeated least most p) S j ↔ IsRepeated p least most S j
  repeated_law p least most S j = (repeated_found p least most S j, repeated_ends p least most S j)

  -- as no slice is longer, no more parts are needed
  module _ (bound : ℕ) (short : (i : ℕ) (w : List ℕ) (j : ℕ) → Spans goes i w j → length w ≤ bound) where
    pub star_few : (p : Pattern A) (S : ℕ → Type 0) (j : ℕ) → IsEnd goes test (repeated 0 None p) S j → IsEnd goes test (repeated 0 (Some bound) p) S j
    star_few p S j r =
        let f = few_parts (Spells test p) r.spelled.0 r.path r.spelled.3 in
        let h = short r.start r.path j r.leads in
        record { start = r.start; path = r.path; begins = r.begins; leads = r.leads; spelled = (f.count, omega arith, omega (arith, f.few, h), f.parts) }

    pub plus_few : (p : Pattern A) (S : ℕ → Type 0) (j : ℕ) → IsEnd goes test (repeated 1 None p) S j → IsEnd goes test (repeated 1 (Some (bound + 1)) p) S j
    plus_few p S j r = plus_by r.spelled.0 r.spelled.1 r.spelled.3
      where
        plus_by : (k : ℕ) → 1 ≤ k → Times (Spells test p) k r.path → IsEnd goes test (repeated 1 (Some (bound + 1)) p) S j
        plus_by zero h t = absurd (omega arith)
        plus_by (suc k) h t =
            let f = few_parts (Spells test p) k t.1 t.4 in
            let l = ap length t.2 in let m = length-append t.0 t.1 in
            let s = short r.start r.path j r.leads in
            record {
              start = r.start;
              path = r.path;
              begins = r.begins;
              leads = r.leads;
              spelled = (suc f.count, omega arith, omega (arith, f.few, s, l, m), (t.0, t.1, t.2, t.3, f.parts));
            }

  -- one part alone
  pub once_law : (p : Pattern A) (S : ℕ → Type 0) (j : ℕ) → IsEnd goes test p S j ↔ IsEnd goes test (repeated 1 (Some 1) p) S j
  once_law p S j = (once_ends, once_found)
    where
      once_ends : IsEnd goes test p S j → IsEnd goes test (repeated 1 (Some 1) p) S j
      once_ends r = repeated_ends p 1 (Some 1) S j (record { count = 1; enough = omega arith; within = omega arith; ends = r })

      of_one : (k : ℕ) → 1 ≤ k → k ≤ 1 → Power p k S j → IsEnd goes test p S j
      of_one zero low high h = absurd (omega arith)
      of_one (suc zero) low high h = h
      of_one (suc (suc k)) low high h = absurd (omega arith)

      once_found : IsEnd goes test (repeated 1 (Some 1) p) S j → IsEnd goes test p S j
      once_found r = let f = repeated_found p 1 (Some 1) S j r in of_one f.count f.enough f.within f.ends

  pub any_most : (p : Pattern A) (least most : ℕ) (S : ℕ → Type 0) (j : ℕ) → IsEnd goes test (repeated least (Some most) p) S j → IsEnd goes test (repeated least None p) S j
  any_most p least most S j r =
      record { start = r.start; path = r.path; begins = r.begins; leads = r.leads; spelled = (r.spelled.0, r.spelled.1, tt, r.spelled.3) }

  -- Parts one after another. After t of them the places `Here` are reached, without those that were ends before. The ends so far are
  -- `Ends`, after at least `least` parts.
  pub record Turns (p : Pattern A) (least t : ℕ) (S Here Ends : ℕ → Type 0) : Type 0 where
    pub reached : (j : ℕ) → Here j → Power p t S j
    pub ends : (j : ℕ) → Ends j → IsRepeated p least (Some t) S j
    pub all_reached : t ≤ least → (j : ℕ) → Power p t S j → Here j
    pub all_ends : (k j : ℕ) → least ≤ k → k ≤ t → Power p k S j → Ends j
    pub closed : (j : ℕ) → IsEnd goes test p Ends j → Ends j ⊎ IsEnd goes test p Here j

  pub record IsBegun (least : ℕ) (S Here Ends : ℕ → Type 0) : Type 0 where
    pub here : (j : ℕ) → Here j ↔ S j
    pub ends : (j : ℕ) → Ends j → (least ≡ 0) × S j
    pub all : (j : ℕ) → least ≡ 0 → S j → Ends j

  pub begun : (p : Pattern A) (least : ℕ) (S Here Ends : ℕ → Type 0) → IsBegun least S Here Ends → Turns p least 0 S Here Ends
  begun p least S Here Ends b = record {
    reached = λ j h. (b.here j).0 h;
    ends = λ j h. let e = b.ends j h in record { count = 0; enough = omega (arith, e.0); within = omega arith; ends = e.1 };
    all_reached = λ h j s. (b.here j).1 s;
    all_ends = at_zero;
    closed = λ j r. let e = b.ends r.start r.begins in inr (record { start = r.start; path = r.path; begins = (b.here r.start).1 e.1; leads = r.leads; spelled = r.spelled });
  }
    where
      at_zero : (k j : ℕ) → least ≤ k → k ≤ 0 → Power p k S j → Ends j
      at_zero zero j low high h = b.all j (omega arith) h
      at_zero (suc k) j low high h = absurd (omega arith)

  -- the places and the ends after one part more
  pub record IsTurn (least t : ℕ) (Next Here Ends NewHere NewEnds : ℕ → Type 0) : Type 0 where
    pub here : (j : ℕ) → NewHere j → Next j
    pub fresh : (j : ℕ) → Next j → NewHere j ⊎ Ends j
    pub kept : (j : ℕ) → Ends j → NewEnds j
    pub added : (j : ℕ) → least ≤ t + 1 → Next j → NewEnds j
    pub ends : (j : ℕ) → NewEnds j → Ends j ⊎ ((least ≤ t + 1) × Next j)

  pub turned : (p : Pattern A) (least t : ℕ) (S Next Here Ends NewHere NewEnds : ℕ → Type 0) → ((j : ℕ) → Next j ↔ IsEnd goes test p Here j)
      → IsTurn least t Next Here Ends NewHere NewEnds → Turns p least t S Here Ends → Turns p least (suc t) S NewHere NewEnds
  turned p least t S Next Here Ends NewHere NewEnds next n o = record {
    reached = λ j h. from_next j (n.here j h);
    ends = λ j h. elim (n.ends j h) [ inl old ↦ old_end j old | inr new ↦ new_end j new.0 new.1 ];
    all_reached = λ low j h. elim (n.fresh j ((next j).1 (more_ends p (Power p t S) Here (o.all_reached (omega arith)) j h))) [
      | inl new ↦ new
      | inr old ↦ absurd (let e = o.ends j old in omega (arith, e.enough, e.within))
    ];
    all_ends = λ k j low high h. elim (cases_lt t k) [
      | inl last ↦ last_ends k j low (omega arith) h
      | inr before ↦ n.kept j (o.all_ends k j low before h)
    ];
    closed = λ j r. elim (n.ends r.start r.begins) [
      | inl old ↦ inl (old_closed j (record { start = r.start; path = r.path; begins = old; leads = r.leads; spelled = r.spelled }))
      | inr new ↦ elim (n.fresh r.start new.1) [
        | inl here ↦ inr (record { start = r.start; path = r.path; begins = here; leads = r.leads; spelled = r.spelled })
        | inr old ↦ inl (old_closed j (record { start = r.start; path = r.path; begins = old; leads = r.leads; spelled = r.spelled }))
      ]
    ];
  }
    where
      from_next : (j : ℕ) → Next j → Power p (suc t) S j
      from_next j h = more_ends p Here (Power p t S) o.reached j ((next j).0 h)

      old_end : (j : ℕ) → Ends j → IsRepeated p least (Some (suc t)) S j
      old_end j h = let e = o.ends j h in record { count = e.count; enough = e.enough; within = omega (arith, e.within); ends = e.ends }

      new_end : (j : ℕ) → least ≤ t + 1 → Next j → IsRepeated p least (Some (suc t)) S j
      new_end j low h = record { count = suc t; enough = omega arith; within = omega arith; ends = from_next j h }

      -- ends begin after enough parts
      old_closed : (j : ℕ) → IsEnd goes test p Ends j → NewEnds j
      old_closed j r =
          let e = o.ends r.start r.begins in
          let low : least ≤ t + 1 = omega (arith, e.enough, e.within) in
          elim (o.closed j r) [ inl end ↦ n.kept j end | inr more ↦ n.added j low ((next j).1 more) ]

      last_ends : (k j : ℕ) → least ≤ k → k ≡ suc t → Power p k S j → NewEnds j
      last_ends zero j low is h = absurd (omega arith)
      last_ends (suc m) j low is h = elim (cases_lt t least) [
        | inl early ↦ n.added j (omega arith) ((next j).1 (more_ends p (Power p m S) Here (λ i s. o.all_reached (omega arith) i (subst (λ x. Power p x S i) same s)) j h))
        | inr late ↦ old_closed j (more_ends p (Power p m S) Ends (λ i s. o.all_ends m i (omega arith) (omega arith) s) j h)
      ]
        where
          same : m ≡ t
          same = omega arith

  -- no new place is reached, and so there are no other ends
  pub stopped : (p : Pattern A) (least t : ℕ) (S Here Ends : ℕ → Type 0) → ((j : ℕ) → Here j → ⊥) → Turns p least t S Here Ends
      → (k j : ℕ) → least ≤ k → Power p k S j → Ends j
  stopped p least t S Here Ends none o k j low h = elim (cases_lt t least) [
    | inl early ↦ absurd (no_more k j (omega arith) (omega arith) h)
    | inr late ↦ all_more late k j low h
  ]
    where
      no_more : (k j : ℕ) → t ≤ k → t ≤ least → Power p k S j → ⊥
      no_more zero j low early h = none j (o.all_reached early j (subst (λ x. Power p x S j) (let e : 0 ≡ t = omega arith in e) h))
      no_more (suc k) j low early h = elim (cases_lt k t) [
        | inl here ↦ none j (o.all_reached early j (subst (λ x. Power p x S j) (let e : suc k ≡ t = omega arith in e) h))
        | inr later ↦ no_more k h.start later early h.begins
      ]

      all_more : least ≤ t → (k j : ℕ) → least ≤ k → Power p k S j → Ends j
      all_more late zero j low h = o.all_ends 0 j low (omega arith) h
      all_more late (suc k) j low h = elim (cases_lt t (suc k)) [
        | inl after ↦ elim (o.closed j (more_ends p (Power p k S) Ends (λ i s. all_more late k i (omega arith) s) j h)) [
          | inl end ↦ end
          | inr more ↦ absurd (none more.start more.begins)
        ]
        | inr before ↦ o.all_ends (suc k) j low before h
      ]
