-- What `fold` gives over a known list, where what it carries and its items are read as values.
use Rattle.std.proofs.Common.{◌≡◌, List, [], ◌∷◌, map, Option, sym, refl, ap, ◌∙◌, subst}
use Rattle.std.specs.List.{fold, FoldsTo}
use Rattle.std.specs.Fn.{Called}
use Rattle.std.specs.Iterator.{FoldsItems, FoldTurn}
use Rattle.std.proofs.lemmas.Iterator.{YieldsList, items_from_drains}
use denote.Param.Members.{Mut}

module _ {A B C D F : Type 0} (v : A → B) (w : C → D) {g : Mut F (C × (A × Unit {0})) C} (h : D → B → D) {f : F}
    (each : (a : C) (x : A) (b : C) (q : F) → Called g f (a, (x, tt)) b q → (q ≡ f) × (w b ≡ h (w a) (v x))) where
  folds : (xs : List A) (p q : F × C) → p.0 ≡ f → FoldsTo (FoldTurn g) p xs q → w q.1 ≡ fold h (w p.1) (map v xs)
  folds [] p q e c = ap (λ y. w y.1) (sym c)
  folds (x ∷ xs) p q e c =
      let m = each p.1 x c.0.1 c.0.0 (subst (λ y. Called g y (p.1, (x, tt)) c.0.1 c.0.0) e c.1) in
      folds xs c.0 q m.0 c.2 ∙ ap (λ b. fold h b (map v xs)) m.1

  pub folded : {S : Type 0} {steps : S → Option A → S → Type 0} {s : S} {all : List B} (init r : C) → FoldsItems steps g s f init r → YieldsList steps v s all → w r ≡ fold h (w init) all
  folded init r d y = folds d.0 (f, init) (d.1, r) refl d.3 ∙ ap (fold h (w init)) (items_from_drains d.0 (d.2.1.0, d.2.1.1, λ u. (d.2.0, d.2.1.2)) y)
