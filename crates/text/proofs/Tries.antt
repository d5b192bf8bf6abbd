-- Whether a text is names, as `try_fold` finds it byte by byte.
use Rattle.std.proofs.Common.{◌≡◌, ℕ, Bool, true, false, cond, ◌&&◌, ControlFlow, Continue, Break, eqb, List, [], ◌∷◌, Some, None, Option, sym, refl, ap, ◌∙◌, subst}
use Rattle.std.specs.List.{FoldsTo}
use Rattle.std.specs.Fn.{Called}
use Rattle.std.specs.Option.{MatchOption}
use Rattle.std.specs.ControlFlow.{continue_value}
use Rattle.std.specs.Iterator.{AlwaysYields, Yields, TryFoldTurn, TryFoldsItems}
use Rattle.std.proofs.lemmas.Iterator.{YieldsList}
use Rattle.text.specs.Forms.{name_byte, names_from}
use Rattle.text.specs.Names.{begun_after}
use denote.Param.Members.{Mut}

abbrev pub next : Option Bool → (Bool → Option Bool) → Option Bool
next None more = None
next (Some begun) more = more begun

-- the bytes one after the other, up to one that may not stand there
abbrev pub tries : Bool → List ℕ → Option Bool
tries begun [] = Some begun
tries begun (b ∷ bs) = next (begun_after begun b) (λ c. tries c bs)

abbrev pub or_false : Option Bool → Bool
or_false None = false
or_false (Some b) = b

at : (p q : Bool) (bs : List ℕ) → ((begun : Bool) → or_false (tries begun bs) ≡ names_from begun bs)
    → or_false (next (cond p (Some true) (cond q (Some false) None)) (λ c. tries c bs)) ≡ cond p (names_from true bs) (cond q (names_from false bs) false)
at true q bs h = h true
at false true bs h = h false
at false false bs h = refl

pub tries_names : (bs : List ℕ) (begun : Bool) → or_false (tries begun bs) ≡ names_from begun bs
tries_names [] begun = refl
tries_names (b ∷ bs) begun = at (name_byte b) (eqb b 58 && begun) bs (tries_names bs)

-- what the kit says of `?` on an `Option`: it goes on with the value of a `Some`, and breaks off at `None`
abbrev Goes : (E : Type 0) → Option Bool → ControlFlow E Bool → Type 0
Goes E r c = r ≡ continue_value c

module _ {S A F : Type 0} (E : Type 0) (steps : S → Option A → S → Type 0) (v : A → ℕ) (g : Mut F (Bool × (A × Unit {0})) (Option Bool)) (f : F)
    (each : (a : Bool) (x : A) (r : Option Bool) (q : F) → Called g f (a, (x, tt)) r q → (q ≡ f) × (r ≡ begun_after a (v x))) where
  -- the last call, after which nothing more is looked at
  abbrev Stopped : F → Bool → Option Bool → A → Type 0
  Stopped h a r x = (w : Option Bool) × (j : F) × (e : E) × Called g h (a, (x, tt)) w j × Goes E w (Break e) × (r ≡ None)

  ended : (ys : List ℕ) (s u : S) (o : Option A) (h : F) (a : Bool) (r : Option Bool) → h ≡ f → AlwaysYields steps v s ys → steps s o u
      → MatchOption o (Goes E r (Continue a)) (Stopped h a r) → r ≡ tries a ys
  ended [] s u None h a r q y i m = m
  ended [] s u (Some x) h a r q y i m = absurd (y x u i)
  ended (b ∷ bs) s u None h a r q y i m = absurd (y.0 u i)
  ended (b ∷ bs) s u (Some x) h a r q y i m =
      let k = each a x m.0 m.1 (subst (λ z. Called g z (a, (x, tt)) m.0 m.1) q m.3) in
      m.5 ∙ ap (λ o. next o (λ c. tries c bs)) (sym m.4 ∙ k.1 ∙ ap (begun_after a) (y.1 x u i).0)

  turns : (xs : List A) (ys : List ℕ) (s t u : S) (o : Option A) (p q : F × Bool) (r : Option Bool) → p.0 ≡ f → AlwaysYields steps v s ys → Yields steps s xs t → steps t o u
      → FoldsTo (TryFoldTurn g (Goes E)) p xs q → MatchOption o (Goes E r (Continue q.1)) (Stopped q.0 q.1 r) → r ≡ tries p.1 ys
  turns [] ys s t u o p q r e y i st c m =
      ended ys s u o p.0 p.1 r e y (subst (λ z. steps z o u) (sym i) st)
      (subst (λ (z : F × Bool). MatchOption o (Goes E r (Continue z.1)) (Stopped z.0 z.1 r)) (sym c) m)
  turns (x ∷ xs) [] s t u o p q r e y i st c m = absurd (y x i.0 i.1)
  turns (x ∷ xs) (b ∷ bs) s t u o p q r e y i st c m =
      let k = each p.1 x c.1.0 c.0.0 (subst (λ z. Called g z (p.1, (x, tt)) c.1.0 c.0.0) e c.1.1) in
      let n = y.1 x i.0 i.1 in
      turns xs bs i.0 t u o c.0 q r k.0 n.1 i.2 st c.2 m ∙ ap (λ z. next z (λ c. tries c bs)) (sym c.1.2 ∙ k.1 ∙ ap (begun_after p.1) n.0)

  pub tried : (s u : S) (ys : List ℕ) (a : Bool) (r : Option Bool) → TryFoldsItems steps g (Goes E) (λ e x. x ≡ None) s f a r u → YieldsList steps v s ys → r ≡ tries a ys
  tried s u ys a r d y = turns d.0 ys s d.4.0 u d.1 (f, a) (d.2, d.3) r refl y.runs d.4.1 d.4.2 d.5 d.6
