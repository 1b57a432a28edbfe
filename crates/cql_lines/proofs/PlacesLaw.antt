-- Places read exactly the lists that the pattern spells.
use Rattle.std.proofs.Common.{◌≡◌, ℕ, zero, suc, ◌-◌, ◌^◌, ◌≤◌, Bool, true, false, ◌&&◌, List, [], ◌∷◌, ◌++◌, length, refl, sym, ap, ◌∙◌, subst, Option, Some, None, inl, inr, arith, append_assoc, length-append, slice_get}
use Rattle.std.specs.Prelude.{IfSome, ◌⊎◌, bit_or}
use Rattle.std.specs.Int.{bit_at}
use Rattle.std.proofs.lemmas.Nat.Bits.{bit_at_or, bit_at-zero, bit_at-lt, bit_at-pow_same, bit_at-pow_other}
use Rattle.std.proofs.lemmas.Bool.{cases_eq}
use Rattle.cql_lines.specs.declared.automaton.FollowSet.{FollowSet}
use Rattle.cql_lines.specs.declared.automaton.Transition.{Transition}
use Rattle.cq_common.specs.Spelling.{Pattern, one, nothing, joined, repeated, Times, Spells}
use Rattle.cql_lines.specs.Places.{IsIn, from, Accepts, when}
use Rattle.cql_lines.specs.Building.{begins, null_times, null_repeated, nullable}
use Rattle.cql_lines.proofs.Built.{BuiltTimes, BuiltRepeated, Built}

-- a split into a permitted number of parts
abbrev Repeats : (List ℕ → Type 0) → ℕ → Option ℕ → List ℕ → Type 0
Repeats Part least most w = (k : ℕ) × (least ≤ k) × IfSome most (λ m. k ≤ m) × Times Part k w

pub in_left : (a b i : ℕ) → IsIn a i → IsIn (bit_or a b) i
in_left a b i e = let h = bit_at_or a b i in let l = bit_at-lt b i in omega arith

pub in_right : (a b i : ℕ) → IsIn b i → IsIn (bit_or a b) i
in_right a b i e = let h = bit_at_or a b i in let l = bit_at-lt a i in omega arith

pub in_either : (a b i : ℕ) → IsIn (bit_or a b) i → IsIn a i ⊎ IsIn b i
in_either a b i e = elim (cases_eq (bit_at a i) 1) [
  | inl is ↦ inl is
  | inr other ↦ inr (let h = bit_at_or a b i in let l = bit_at-lt a i in let k = bit_at-lt b i in omega arith)
]

pub in_none : (i : ℕ) → IsIn 0 i → ⊥
in_none i e = let h = bit_at-zero i in omega arith

pub in_when : (b : Bool) (m i : ℕ) → IsIn (when b m) i → (b ≡ true) × IsIn m i
in_when true m i e = (refl, e)
in_when false m i e = absurd (in_none i e)

pub in_single : (k i : ℕ) → IsIn (2 ^ k) i → i ≡ k
in_single k i e = elim (cases_eq i k) [
  | inl is ↦ is
  | inr other ↦ absurd (let h = bit_at-pow_other k i other in omega arith)
]

module _ (test : ℕ → ℕ → Bool) (rules : List Transition) where
  -- reading on by more places
  or_left : (a b : ℕ) (w : List ℕ) → Accepts test rules (from a) w → Accepts test rules (from (bit_or a b)) w
  or_left a b [] t = t
  or_left a b (x ∷ w) t = (t.0, t.1, in_left a b t.0 t.2, t.3, t.4, t.5)

  or_right : (a b : ℕ) (w : List ℕ) → Accepts test rules (from b) w → Accepts test rules (from (bit_or a b)) w
  or_right a b [] t = t
  or_right a b (x ∷ w) t = (t.0, t.1, in_right a b t.0 t.2, t.3, t.4, t.5)

  or_split : (a b : ℕ) (w : List ℕ) → Accepts test rules (from (bit_or a b)) w → Accepts test rules (from a) w ⊎ Accepts test rules (from b) w
  or_split a b [] t = inl t
  or_split a b (x ∷ w) t = elim (in_either a b t.0 t.2) [
    | inl l ↦ inl (t.0, t.1, l, t.3, t.4, t.5)
    | inr r ↦ inr (t.0, t.1, r, t.3, t.4, t.5)
  ]

  when_split : (b : Bool) (a : ℕ) (w : List ℕ) → Accepts test rules (from (when b a)) w → (b ≡ true) × Accepts test rules (from a) w
  when_split true a w t = (refl, t)
  when_split false a [] t = absurd (cc)
  when_split false a (x ∷ w) t = absurd (in_none t.0 t.2)

  when_passes : (b : Bool) (a : ℕ) (w : List ℕ) → b ≡ true → Accepts test rules (from a) w → Accepts test rules (from (when b a)) w
  when_passes true a w e t = t
  when_passes false a w e t = absurd (cc)

  pub begins_split : (f : ℕ) (b : Bool) (next : FollowSet) (w : List ℕ) → Accepts test rules (begins f b next) w → Accepts test rules (from f) w ⊎ ((b ≡ true) × Accepts test rules next w)
  begins_split f true next [] t = inr (refl, t)
  begins_split f false next [] t = inl t
  begins_split f b next (x ∷ w) t = elim (in_either f (when b next.places) t.0 t.2) [
    | inl l ↦ inl (t.0, t.1, l, t.3, t.4, t.5)
    | inr r ↦ let i = in_when b next.places t.0 r in inr (i.0, (t.0, t.1, i.1, t.3, t.4, t.5))
  ]

  pub begins_first : (f : ℕ) (b : Bool) (next : FollowSet) (w : List ℕ) → Accepts test rules (from f) w → Accepts test rules (begins f b next) w
  begins_first f b next [] t = absurd (cc)
  begins_first f b next (x ∷ w) t = (t.0, t.1, in_left f (when b next.places) t.0 t.2, t.3, t.4, t.5)

  pub begins_next : (f : ℕ) (b : Bool) (next : FollowSet) (w : List ℕ) → b ≡ true → Accepts test rules next w → Accepts test rules (begins f b next) w
  begins_next f false next w e t = absurd (cc)
  begins_next f true next [] e t = t
  begins_next f true next (x ∷ w) e t = (t.0, t.1, in_right f next.places t.0 t.2, t.3, t.4, t.5)

  -- a front that is not empty is spelled, and the rest is read
  pub record Front (P : List ℕ → Type 0) (next : FollowSet) (w : List ℕ) : Type 0 where
    pub x : ℕ
    pub u : List ℕ
    pub v : List ℕ
    pub whole : w ≡ x ∷ (u ++ v)
    pub spelled : P (x ∷ u)
    pub read : Accepts test rules next v

  -- the places are those of a part
  pub record Means (B : FollowSet → ℕ → Type 0) (b : Bool) (P : List ℕ → Type 0) : Type 0 where
    pub sound : (next : FollowSet) (f : ℕ) (w : List ℕ) → B next f → Accepts test rules (from f) w → Front P next w
    pub complete : (next : FollowSet) (f : ℕ) (x : ℕ) (u v : List ℕ) → B next f → P (x ∷ u) → Accepts test rules next v → Accepts test rules (from f) (x ∷ (u ++ v))
    pub empty : b ≡ true → P []
    pub emptied : P [] → b ≡ true

  pub both_left : (a b : Bool) → (a && b) ≡ true → a ≡ true
  both_left true b e = refl
  both_left false b e = e

  pub both_right : (a b : Bool) → (a && b) ≡ true → b ≡ true
  both_right true b e = e
  both_right false b e = absurd (cc)

  pub both_true : (a b : Bool) → a ≡ true → b ≡ true → (a && b) ≡ true
  both_true a b e f = rw e f

  nothing_before : (u v : List ℕ) → [] ≡ u ++ v → (u ≡ []) × (v ≡ [])
  nothing_before [] v e = (refl, sym e)
  nothing_before (x ∷ u) v e = absurd (cc)

  none_read : (f : ℕ) (w : List ℕ) → f ≡ 0 → Accepts test rules (from f) w → ⊥
  none_read f [] e t = cc
  none_read f (x ∷ w) e t = in_none t.0 (subst (λ m. IsIn m t.0) e t.2)

  few_parts : (P : List ℕ → Type 0) (m : ℕ) (x : ℕ) (u : List ℕ) → Repeats P m (Some 0) (x ∷ u) → ⊥
  few_parts P m x u (zero, low, high, t) = cc
  few_parts P m x u (suc k, low, high, t) = omega (arith, high)

  all_empty : (P : List ℕ → Type 0) → P [] → (k : ℕ) → Times P k []
  all_empty P e zero = refl
  all_empty P e (suc k) = ([], [], refl, e, all_empty P e k)

  some_emptied : (P : List ℕ → Type 0) (b : Bool) → (P [] → b ≡ true) → (m : ℕ) → Repeats P (suc m) None [] → b ≡ true
  some_emptied P b e m (zero, low, high, t) = absurd (omega (arith, low))
  some_emptied P b e m (suc k, low, high, t) = let z = nothing_before t.0 t.1 t.2 in e (subst P z.0 t.3)

  one_front : (a : ℕ) (next : FollowSet) (f i : ℕ) (w : List ℕ) → slice_get rules i ≡ Some (record { atom = a; after = next }) → f ≡ 2 ^ i
      → Accepts test rules (from f) w → Front (Spells test (one a)) next w
  one_front a next f i [] g e t = absurd (cc)
  one_front a next f i (x ∷ w) g e t =
      let same : t.0 ≡ i = in_single i t.0 (subst (λ m. IsIn m t.0) e t.2) in
      let rule : Some t.1 ≡ Some (record { atom = a; after = next }) = sym t.3 ∙ ap (slice_get rules) same ∙ g in
      let is : t.1 ≡ record { atom = a; after = next } = cc in
      record { x = x; u = []; v = w; whole = refl; spelled = (x, refl, ap (λ (r : Transition). test r.atom x) (sym is) ∙ t.4); read = subst (λ (r : Transition). Accepts test rules r.after w) is t.5 }

  one_read : (a : ℕ) (next : FollowSet) (f i : ℕ) (x : ℕ) (u v : List ℕ) → slice_get rules i ≡ Some (record { atom = a; after = next }) → f ≡ 2 ^ i
      → (n : ℕ) → x ∷ u ≡ n ∷ [] → test a n ≡ true → Accepts test rules next v → Accepts test rules (from f) (x ∷ (u ++ v))
  one_read a next f i x [] v g e n s h r =
      let is : n ≡ x = cc in
      (i, record { atom = a; after = next }, subst (λ m. IsIn m i) (sym e) (bit_at-pow_same i), g, ap (test a) (sym is) ∙ h, r)
  one_read a next f i x (y ∷ u) v g e n s h r = absurd (cc)

  -- one part after another
  abbrev pub Joined : (List ℕ → Type 0) → (List ℕ → Type 0) → List ℕ → Type 0
  Joined P Q w = (u : List ℕ) × (v : List ℕ) × (w ≡ u ++ v) × P u × Q v

  joined_front : (P Q : List ℕ → Type 0) (b c : Bool) → (B C : FollowSet → ℕ → Type 0) → Means B b P → Means C c Q
      → (next : FollowSet) (f g h : ℕ) (w : List ℕ) → C next g → B (begins g c next) h → f ≡ bit_or h (when b g) → Accepts test rules (from f) w → Front (Joined P Q) next w
  joined_front P Q b c B C mp mq next f g h w bq bp e t =
      let t' = subst (λ m. Accepts test rules (from m) w) e t in
      elim (or_split h (when b g) w t') [
        | inl first ↦
            let p = mp.sound (begins g c next) h w bp first in
            elim (begins_split g c next p.v p.read) [
              | inl more ↦
                  let q = mq.sound next g p.v bq more in
                  record {
                    x = p.x;
                    u = p.u ++ (q.x ∷ q.u);
                    v = q.v;
                    whole = p.whole ∙ ap (λ r. p.x ∷ (p.u ++ r)) q.whole ∙ ap (λ r. p.x ∷ r) (sym (append_assoc p.u (q.x ∷ q.u) q.v));
                    spelled = (p.x ∷ p.u, q.x ∷ q.u, refl, p.spelled, q.spelled);
                    read = q.read;
                  }
              | inr out ↦
                  record {
                    x = p.x;
                    u = p.u ++ [];
                    v = p.v;
                    whole = p.whole ∙ ap (λ r. p.x ∷ r) (sym (append_assoc p.u [] p.v));
                    spelled = (p.x ∷ p.u, [], refl, p.spelled, mq.empty out.0);
                    read = out.1;
                  }
            ]
        | inr skipped ↦
            let s = when_split b g w skipped in
            let q = mq.sound next g w bq s.1 in
            record { x = q.x; u = q.u; v = q.v; whole = q.whole; spelled = ([], q.x ∷ q.u, refl, mp.empty s.0, q.spelled); read = q.read }
      ]

  joined_read : (P Q : List ℕ → Type 0) (b c : Bool) → (B C : FollowSet → ℕ → Type 0) → Means B b P → Means C c Q
      → (next : FollowSet) (f g h : ℕ) (y : ℕ) (w v : List ℕ) → C next g → B (begins g c next) h → f ≡ bit_or h (when b g)
      → (u t : List ℕ) → y ∷ w ≡ u ++ t → P u → Q t → Accepts test rules next v → Accepts test rules (from f) (y ∷ (w ++ v))
  joined_read P Q b c B C mp mq next f g h y w v bq bp e [] t s p q r =
      let front = mq.complete next g y w v bq (subst Q (sym s) q) r in
      subst (λ m. Accepts test rules (from m) (y ∷ (w ++ v))) (sym e) (or_right h (when b g) (y ∷ (w ++ v)) (when_passes b g (y ∷ (w ++ v)) (mp.emptied p) front))
  joined_read P Q b c B C mp mq next f g h y w v bq bp e (x ∷ u) [] s p q r =
      let front = mp.complete (begins g c next) h x u v bp p (begins_next g c next v (mq.emptied q) r) in
      let same : y ∷ (w ++ v) ≡ x ∷ (u ++ v) = ap (λ l. l ++ v) s ∙ ap (λ l. x ∷ l) (append_assoc u [] v) in
      subst (λ l. Accepts test rules (from f) l) (sym same) (subst (λ m. Accepts test rules (from m) (x ∷ (u ++ v))) (sym e) (or_left h (when b g) (x ∷ (u ++ v)) front))
  joined_read P Q b c B C mp mq next f g h y w v bq bp e (x ∷ u) (z ∷ t) s p q r =
      let rest = mq.complete next g z t v bq q r in
      let front = mp.complete (begins g c next) h x u (z ∷ (t ++ v)) bp p (begins_first g c next (z ∷ (t ++ v)) rest) in
      let same : y ∷ (w ++ v) ≡ x ∷ (u ++ (z ∷ (t ++ v))) = ap (λ l. l ++ v) s ∙ ap (λ l. x ∷ l) (append_assoc u (z ∷ t) v) in
      subst (λ l. Accepts test rules (from f) l) (sym same) (subst (λ m. Accepts test rules (from m) (x ∷ (u ++ (z ∷ (t ++ v))))) (sym e) (or_left h (when b g) (x ∷ (u ++ (z ∷ (t ++ v)))) front))

  -- at least one part, as many as there are
  many_front : (P : List ℕ → Type 0) (b : Bool) (B : FollowSet → ℕ → Type 0) → Means B b P → (next : FollowSet) (f : ℕ) → B (begins f true next) f
      → (k : ℕ) (w : List ℕ) → length w ≤ k → Accepts test rules (from f) w → Front (Repeats P 1 None) next w
  many_front P b B m next f built zero [] l t = absurd (cc)
  many_front P b B m next f built zero (x ∷ w) l t = absurd (omega arith)
  many_front P b B m next f built (suc k) w l t =
      let p = m.sound (begins f true next) f w built t in
      elim (begins_split f true next p.v p.read) [
        | inl more ↦
            let a = ap length p.whole in let c = length-append p.u p.v in
            let short : length p.v ≤ k = omega arith in
            let q = many_front P b B m next f built k p.v short more in
            record {
              x = p.x;
              u = p.u ++ (q.x ∷ q.u);
              v = q.v;
              whole = p.whole ∙ ap (λ r. p.x ∷ (p.u ++ r)) q.whole ∙ ap (λ r. p.x ∷ r) (sym (append_assoc p.u (q.x ∷ q.u) q.v));
              spelled = (suc q.spelled.0, omega arith, tt, (p.x ∷ p.u, q.x ∷ q.u, refl, p.spelled, q.spelled.3));
              read = q.read;
            }
        | inr out ↦
            record {
              x = p.x;
              u = p.u ++ [];
              v = p.v;
              whole = p.whole ∙ ap (λ r. p.x ∷ r) (sym (append_assoc p.u [] p.v));
              spelled = (1, omega arith, tt, (p.x ∷ p.u, [], refl, p.spelled, refl));
              read = out.1;
            }
      ]

  many_part : (P : List ℕ → Type 0) (b : Bool) (B : FollowSet → ℕ → Type 0) → Means B b P → (next : FollowSet) (f : ℕ) → B (begins f true next) f
      → (k : ℕ) → ((y : ℕ) (w v : List ℕ) → Times P k (y ∷ w) → Accepts test rules next v → Accepts test rules (from f) (y ∷ (w ++ v)))
      → (y : ℕ) (w v : List ℕ) (u t : List ℕ) → y ∷ w ≡ u ++ t → P u → Times P k t → Accepts test rules next v → Accepts test rules (from f) (y ∷ (w ++ v))
  many_part P b B m next f built k fewer y w v [] t s p q r = fewer y w v (subst (Times P k) (sym s) q) r
  many_part P b B m next f built k fewer y w v (x ∷ u) [] s p q r =
      let same : y ∷ (w ++ v) ≡ x ∷ (u ++ v) = ap (λ l. l ++ v) s ∙ ap (λ l. x ∷ l) (append_assoc u [] v) in
      subst (λ l. Accepts test rules (from f) l) (sym same) (m.complete (begins f true next) f x u v built p (begins_next f true next v refl r))
  many_part P b B m next f built k fewer y w v (x ∷ u) (z ∷ t) s p q r =
      let rest = fewer z t v q r in
      let same : y ∷ (w ++ v) ≡ x ∷ (u ++ (z ∷ (t ++ v))) = ap (λ l. l ++ v) s ∙ ap (λ l. x ∷ l) (append_assoc u (z ∷ t) v) in
      subst (λ l. Accepts test rules (from f) l) (sym same) (m.complete (begins f true next) f x u (z ∷ (t ++ v)) built p (begins_first f true next (z ∷ (t ++ v)) rest))

  many_read : (P : List ℕ → Type 0) (b : Bool) (B : FollowSet → ℕ → Type 0) → Means B b P → (next : FollowSet) (f : ℕ) → B (begins f true next) f
      → (k : ℕ) (y : ℕ) (w v : List ℕ) → Times P k (y ∷ w) → Accepts test rules next v → Accepts test rules (from f) (y ∷ (w ++ v))
  many_read P b B m next f built zero y w v t r = absurd (cc)
  many_read P b B m next f built (suc k) y w v t r =
      many_part P b B m next f built k (many_read P b B m next f built k) y w v t.0 t.1 t.2 t.3 t.4 r

  joined_means : (P Q : List ℕ → Type 0) (b c : Bool) → (B C : FollowSet → ℕ → Type 0) → Means B b P → Means C c Q
      → Means (λ next f. (g : ℕ) × (h : ℕ) × C next g × B (begins g c next) h × (f ≡ bit_or h (when b g))) (b && c) (Joined P Q)
  joined_means P Q b c B C mp mq = record {
    sound = λ next f w t a. joined_front P Q b c B C mp mq next f t.0 t.1 w t.2 t.3 t.4 a;
    complete = λ next f x u v t s a. joined_read P Q b c B C mp mq next f t.0 t.1 x u v t.2 t.3 t.4 s.0 s.1 s.2 s.3 s.4 a;
    empty = λ e. ([], [], refl, mp.empty (both_left b c e), mq.empty (both_right b c e));
    emptied = λ s. let z = nothing_before s.0 s.1 s.2 in both_true b c (mp.emptied (subst P z.0 s.3)) (mq.emptied (subst Q z.1 s.4));
  }

  -- a part, and up to n more
  one_more : (P : List ℕ → Type 0) (m n : ℕ) (w : List ℕ) → Joined P (Repeats P (m - 1) (Some n)) w → Repeats P m (Some (suc n)) w
  one_more P m n w s = (suc s.4.0, omega (arith, s.4.1), omega (arith, s.4.2), (s.0, s.1, s.2, s.3, s.4.3))

  one_less : (P : List ℕ → Type 0) (m n : ℕ) (x : ℕ) (w : List ℕ) → Repeats P m (Some (suc n)) (x ∷ w) → Joined P (Repeats P (m - 1) (Some n)) (x ∷ w)
  one_less P m n x w (zero, low, high, t) = absurd (cc)
  one_less P m n x w (suc k, low, high, t) = (t.0, t.1, t.2, t.3, (k, omega (arith, low), omega (arith, high), t.4))

  times_empty : (P : List ℕ → Type 0) (b : Bool) → (b ≡ true → P []) → (m n : ℕ) → null_times b m n ≡ true → Repeats P m (Some n) []
  times_empty P b e zero n t = (0, omega arith, omega arith, refl)
  times_empty P b e (suc m) zero t = absurd (cc)
  times_empty P b e (suc m) (suc n) t =
      let r = times_empty P b e m n (both_right b (null_times b m n) t) in
      (suc r.0, omega (arith, r.1), omega (arith, r.2), ([], [], refl, e (both_left b (null_times b m n) t), r.3))

  times_emptied : (P : List ℕ → Type 0) (b : Bool) → (P [] → b ≡ true) → (m n : ℕ) → Repeats P m (Some n) [] → null_times b m n ≡ true
  times_emptied P b e zero n r = refl
  times_emptied P b e (suc m) zero r = absurd (omega (arith, r.1, r.2))
  times_emptied P b e (suc m) (suc n) (zero, low, high, t) = absurd (omega (arith, low))
  times_emptied P b e (suc m) (suc n) (suc k, low, high, t) =
      let z = nothing_before t.0 t.1 t.2 in
      both_true b (null_times b m n) (e (subst P z.0 t.3)) (times_emptied P b e m n (k, omega (arith, low), omega (arith, high), subst (Times P k) z.1 t.4))

  times_means : (P : List ℕ → Type 0) (b : Bool) (B : FollowSet → ℕ → Type 0) → Means B b P → (m n : ℕ) → Means (BuiltTimes B b m n) (null_times b m n) (Repeats P m (Some n))
  times_means P b B mp m zero = record {
    sound = λ next f w t a. absurd (none_read f w t a);
    complete = λ next f x u v t s a. absurd (few_parts P m x u s);
    empty = times_empty P b mp.empty m 0;
    emptied = times_emptied P b mp.emptied m 0;
  }
  times_means P b B mp m (suc n) =
      let j = joined_means P (Repeats P (m - 1) (Some n)) b (null_times b (m - 1) n) B (BuiltTimes B b (m - 1) n) mp (times_means P b B mp (m - 1) n) in
      record {
        sound = λ next f w t a. let r = j.sound next f w t a in record { x = r.x; u = r.u; v = r.v; whole = r.whole; spelled = one_more P m n (r.x ∷ r.u) r.spelled; read = r.read };
        complete = λ next f x u v t s a. j.complete next f x u v t (one_less P m n x u s) a;
        empty = times_empty P b mp.empty m (suc n);
        emptied = times_emptied P b mp.emptied m (suc n);
      }

  many_empty : (P : List ℕ → Type 0) → P [] → Repeats P 1 None []
  many_empty P e = (1, omega arith, tt, ([], [], refl, e, refl))

  many_emptied : (P : List ℕ → Type 0) → Repeats P 1 None [] → P []
  many_emptied P (zero, low, high, t) = absurd (omega (arith, low))
  many_emptied P (suc k, low, high, t) = let z = nothing_before t.0 t.1 t.2 in subst P z.0 t.3

  many_means : (P : List ℕ → Type 0) (b : Bool) (B : FollowSet → ℕ → Type 0) → Means B b P → Means (λ next f. B (begins f true next) f) b (Repeats P 1 None)
  many_means P b B mp = record {
    sound = λ next f w t a. many_front P b B mp next f t (length w) w (omega arith) a;
    complete = λ next f x u v t s a. many_read P b B mp next f t s.0 x u v s.3 a;
    empty = λ e. many_empty P (mp.empty e);
    emptied = λ s. mp.emptied (many_emptied P s);
  }

  repeated_means : (P : List ℕ → Type 0) (b : Bool) (B : FollowSet → ℕ → Type 0) → Means B b P → (m : ℕ) (most : Option ℕ) → Means (BuiltRepeated B b m most) (null_repeated b m most) (Repeats P m most)
  repeated_means P b B mp m (Some n) = times_means P b B mp m n
  repeated_means P b B mp zero None =
      let j = many_means P b B mp in
      record {
        sound = λ next f w t a. let r = j.sound next f w t a in record { x = r.x; u = r.u; v = r.v; whole = r.whole; spelled = (r.spelled.0, omega arith, tt, r.spelled.3); read = r.read };
        complete = λ next f x u v t s a. many_read P b B mp next f t s.0 x u v s.3 a;
        empty = λ e. (0, omega arith, tt, refl);
        emptied = λ s. refl;
      }
  repeated_means P b B mp (suc zero) None = many_means P b B mp
  repeated_means P b B mp (suc (suc m)) None = record {
    sound = λ next f w t a. absurd t;
    complete = λ next f x u v t s a. absurd t;
    empty = λ e. let p = mp.empty e in (suc (suc m), omega arith, tt, all_empty P p (suc (suc m)));
    emptied = λ s. some_emptied P b mp.emptied (suc m) s;
  }

  -- the places read exactly the lists that the pattern spells
  pub pattern_means : (p : Pattern ℕ) → Means (Built rules p) (nullable p) (Spells test p)
  pattern_means (one a) = record {
    sound = λ next f w t s. one_front a next f t.0 w t.1 t.2 s;
    complete = λ next f x u v t s r. one_read a next f t.0 x u v t.1 t.2 s.0 s.1 s.2 r;
    empty = λ e. absurd (cc);
    emptied = λ s. absurd (let e = s.1 in cc);
  }
  pattern_means nothing = record {
    sound = λ next f w t a. absurd (none_read f w t a);
    complete = λ next f x u v t s a. absurd (cc);
    empty = λ e. refl;
    emptied = λ s. refl;
  }
  pattern_means (joined p q) = joined_means (Spells test p) (Spells test q) (nullable p) (nullable q) (Built rules p) (Built rules q) (pattern_means p) (pattern_means q)
  pattern_means (repeated least most p) = repeated_means (Spells test p) (nullable p) (Built rules p) (pattern_means p) least most
