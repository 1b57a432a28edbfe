-- Words that are kept one by one, and the words still to come.
use Rattle.std.proofs.Common.{◌≡◌, ℕ, ◌<◌, List, [], ◌∷◌, ◌++◌, length, drop, map, Option, None, Some, Result, Ok, Err, refl, sym, ap, ◌∙◌, arith, append_assoc, append-nil, true≢false, length-append, length-drop}
use Rattle.std.specs.Prelude.{IsSome, OnErr}
use Rattle.std.specs.Option.{option_to_list}
use Rattle.std.proofs.lemmas.List.{map-append}

module _ {X : Type 0} (f : X → List ℕ) where
  -- all after the first, once one was taken off
  pub first_off : (items rest kept : List X) (name : Option X) (len : ℕ) → items ≡ option_to_list name ++ rest → kept ≡ [] → len ≡ length items → (0 < len → IsSome name)
      → drop 1 (map f items) ≡ map f kept ++ map f rest
  first_off items rest kept (Some x) len e k l h = rw e (rw k refl)
  first_off [] rest kept None len e k l h = rw k (rw (sym e) refl)
  first_off (x ∷ xs) rest kept None len e k l h = absurd (true≢false (sym (h (omega (arith, l)))))

  -- one more is kept
  pub one_kept : (all : List (List ℕ)) (kept items rest : List X) (word : X) → drop 1 all ≡ map f kept ++ map f items → items ≡ word ∷ rest
      → drop 1 all ≡ map f (kept ++ word ∷ []) ++ map f rest
  one_kept all kept items rest word e i =
      e ∙ ap (λ l. map f kept ++ map f l) i
      ∙ sym (ap (λ l. l ++ map f rest) (map-append f kept (word ∷ [])) ∙ append_assoc (map f kept) (f word ∷ []) (map f rest))

  -- if one is still to come, there are two or more
  pub name_and_word : (all : List (List ℕ)) (kept items rest : List X) (word : X) → drop 1 all ≡ map f kept ++ map f items → items ≡ word ∷ rest → 1 < length all
  name_and_word all kept items rest word e i =
      let l = ap length (e ∙ ap (λ l. map f kept ++ map f l) i) in
      omega (arith, length-drop 1 all, l, length-append (map f kept) (f word ∷ map f rest))

  -- if none is still to come, all are kept
  pub all_kept : (all : List (List ℕ)) (kept items : List X) (len : ℕ) → drop 1 all ≡ map f kept ++ map f items → len ≡ length items → (0 < len → IsSome {T = X} None)
      → map f kept ≡ drop 1 all
  all_kept all kept [] len e l h = sym (e ∙ append-nil (map f kept))
  all_kept all kept (x ∷ xs) len e l h = absurd (true≢false (sym (h (omega (arith, l)))))
