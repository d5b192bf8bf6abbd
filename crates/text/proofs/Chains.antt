-- What `reduce` gives over a known list, where its items are read as values.
use Rattle.std.proofs.Common.{◌≡◌, ℕ, leb, arith, Bool, true, false, cond, List, [], ◌∷◌, map, Some, None, Option, sym, refl, ap, ◌∙◌, subst}
use Rattle.std.specs.List.{fold, reduce, FoldsTo}
use Rattle.std.specs.Option.{option_map}
use Rattle.std.specs.Fn.{Called}
use Rattle.std.specs.Iterator.{ReducesItems, FoldTurn}
use Rattle.std.proofs.lemmas.Iterator.{YieldsList, items_from_drains}
use Rattle.std.proofs.lemmas.Bool.Decides.{nat_tests}
use denote.Param.Members.{Mut}

module _ {A B F : Type 0} (v : A → B) {g : Mut F (A × (A × Unit {0})) A} (h : B → B → B) {f : F}
    (each : (a x b : A) (q : F) → Called g f (a, (x, tt)) b q → (q ≡ f) × (v b ≡ h (v a) (v x))) where
  folds : (xs : List A) (p q : F × A) → p.0 ≡ f → FoldsTo (FoldTurn g) p xs q → v q.1 ≡ fold h (v p.1) (map v xs)
  folds [] p q e c = ap (λ w. v w.1) (sym c)
  folds (x ∷ xs) p q e c =
      let m = each p.1 x c.0.1 c.0.0 (subst (λ w. Called g w (p.1, (x, tt)) c.0.1 c.0.0) e c.1) in
      folds xs c.0 q m.0 c.2 ∙ ap (λ b. fold h b (map v xs)) m.1

  pub reduced : {S : Type 0} {steps : S → Option A → S → Type 0} {s : S} {all : List B} (r : Option A) → ReducesItems steps g s f r → YieldsList steps v s all → option_map v r ≡ reduce h all
  reduced None d y = ap (reduce h) (items_from_drains [] (d.1.0, d.1.1, λ w. (d.0, d.1.2)) y)
  reduced (Some b) d y =
      ap Some (folds d.1 (f, d.0) (d.2, b) refl d.4) ∙ ap (reduce h) (items_from_drains (d.0 ∷ d.1) (d.3.1.0, d.3.1.1, λ w. (d.3.0, d.3.1.2)) y)

-- `reduce` from the left is the same from the right
module _ {X : Type 0} (h : X → X → X) where
  -- a, with what became of the others
  abbrev pub onto_first : X → Option X → X
  onto_first a None = a
  onto_first a (Some b) = h a b

  module _ (assoc : (a b c : X) → h (h a b) c ≡ h a (h b c)) where
    both : (a b : X) (o : Option X) → onto_first (h a b) o ≡ h a (onto_first b o)
    both a b None = refl
    both a b (Some c) = assoc a b c

    pub fold_onto_first : (a : X) (xs : List X) → fold h a xs ≡ onto_first a (reduce h xs)
    fold_onto_first a [] = refl
    fold_onto_first a (x ∷ xs) = fold_onto_first (h a x) xs ∙ both a x (reduce h xs) ∙ sym (ap (h a) (fold_onto_first x xs))

-- the first of two where it stays, else the second
module _ {X : Type 0} (stays : X → X → Bool) where
  abbrev pub pick : X → X → X
  pick a b = cond (stays a b) a b

  pub kept : (a b : X) → stays a b ≡ true → pick a b ≡ a
  kept a b e = ap (λ q. cond q a b) e

  pub taken : (a b : X) → stays a b ≡ false → pick a b ≡ b
  taken a b e = ap (λ q. cond q a b) e

  module _ (yes : (a b c : X) → stays a b ≡ true → stays b c ≡ true → stays a c ≡ true) (no : (a b c : X) → stays a b ≡ false → stays b c ≡ false → stays a c ≡ false) where
    at : (a b c : X) (p q : Bool) → stays a b ≡ p → stays b c ≡ q → pick (pick a b) c ≡ pick a (pick b c)
    at a b c true true x y = ap (λ z. pick z c) (kept a b x) ∙ kept a c (yes a b c x y) ∙ sym (ap (pick a) (kept b c y) ∙ kept a b x)
    at a b c true false x y = ap (λ z. pick z c) (kept a b x) ∙ sym (ap (pick a) (taken b c y))
    at a b c false true x y = ap (λ z. pick z c) (taken a b x) ∙ kept b c y ∙ sym (ap (pick a) (kept b c y) ∙ taken a b x)
    at a b c false false x y = ap (λ z. pick z c) (taken a b x) ∙ taken b c y ∙ sym (ap (pick a) (taken b c y) ∙ taken a c (no a b c x y))

    pub pick_assoc : (a b c : X) → pick (pick a b) c ≡ pick a (pick b c)
    pick_assoc a b c = at a b c (stays a b) (stays b c) refl refl

-- numbers in order, and none in order
pub chain_le : (m n k : ℕ) → leb m n ≡ true → leb n k ≡ true → leb m k ≡ true
chain_le m n k a b = grind (arith, nat_tests)

pub chain_gt : (m n k : ℕ) → leb m n ≡ false → leb n k ≡ false → leb m k ≡ false
chain_gt m n k a b = grind (arith, nat_tests)
