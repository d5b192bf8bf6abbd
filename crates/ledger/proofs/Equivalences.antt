-- Ways to make a sameness of keys that is reflexive, symmetric and transitive.
use Rattle.std.proofs.Common.{◌≡◌, Bool, ◌&&◌, Decides, sym, refl, ◌∙◌}
use Rattle.std.proofs.lemmas.Bool.{and_parts, and_from}
use Rattle.ledger.specs.Kinds.{Equivalence}

-- a test of whether two keys have equal images
pub by_image : {K B : Type 0} (same : K → K → Bool) (f : K → B) → ((x y : K) → Decides (same x y) (f x ≡ f y)) → Equivalence same
by_image same f d = record {
  reflexive = λ x. (d x x).1 refl;
  symmetric = λ x y e. (d y x).1 (sym ((d x y).0 e));
  transitive = λ x y z e h. (d x z).1 ((d x y).0 e ∙ (d y z).0 h);
}

-- a sameness of one part
pub through : {J K : Type 0} (same : K → K → Bool) (f : J → K) → Equivalence same → Equivalence (λ x y. same (f x) (f y))
through same f e = record {
  reflexive = λ x. e.reflexive (f x);
  symmetric = λ x y. e.symmetric (f x) (f y);
  transitive = λ x y z. e.transitive (f x) (f y) (f z);
}

-- two samenesses together
pub both : {K : Type 0} (p q : K → K → Bool) → Equivalence p → Equivalence q → Equivalence (λ x y. p x y && q x y)
both p q d e = record {
  reflexive = λ x. and_from _ _ (d.reflexive x) (e.reflexive x);
  symmetric = λ x y h. let s = and_parts (p x y) (q x y) h in and_from _ _ (d.symmetric x y s.0) (e.symmetric x y s.1);
  transitive = λ x y z h k.
      let s = and_parts (p x y) (q x y) h in
      let t = and_parts (p y z) (q y z) k in
      and_from _ _ (d.transitive x y z s.0 t.0) (e.transitive x y z s.1 t.1);
}
