-- Names that come first, by the bytes in front and by what stands behind them.
use Rattle.std.proofs.Common.{◌≡◌, ℕ, Bool, true, false, cond, ◌&&◌, eqb, List, [], ◌∷◌, length, sym, refl, ap, ◌∙◌, arith}
use Rattle.std.specs.List.{slice_get}
use Rattle.std.specs.Char.{to_ascii_lowercase}
use Rattle.std.proofs.lemmas.Bool.Decides.{nat_tests}
use Rattle.text.specs.Forms.{same_text, begins_with}
use Rattle.text.specs.Names.{names, onto, first_names}
use Rattle.text.proofs.Named.{names_head}
use Rattle.address_names.specs.Agree.{is_end}

low_same : (b c : ℕ) → eqb b 58 ≡ true → eqb c 58 ≡ true → eqb (to_ascii_lowercase c) (to_ascii_lowercase b) ≡ true
low_same b c p q = grind (arith, nat_tests)

low_other : (b c : ℕ) → eqb b 58 ≡ true → eqb c 58 ≡ false → eqb (to_ascii_lowercase c) (to_ascii_lowercase b) ≡ false
low_other b c p q = grind (arith, nat_tests)

low_colon : (b c : ℕ) → eqb b 58 ≡ false → eqb c 58 ≡ true → eqb (to_ascii_lowercase c) (to_ascii_lowercase b) ≡ false
low_colon b c p q = grind (arith, nat_tests)

turned : (x y : ℕ) → eqb x y ≡ eqb y x
turned x y = grind (arith, nat_tests)

join : (e x y p z : Bool) → (x && y) ≡ (p && z) → ((e && x) && y) ≡ ((e && p) && z)
join true x y p z h = h
join false x y p z h = refl

-- a byte more of both
more : (q k : Bool) (b c : ℕ) (n m : List ℕ) (ns ms : List (List ℕ)) (p z : Bool) → eqb b 58 ≡ q → eqb c 58 ≡ k → (same_text n m && first_names ns ms) ≡ (p && z)
    → first_names (cond q ([] ∷ (n ∷ ns)) (onto b (n ∷ ns))) (cond k ([] ∷ (m ∷ ms)) (onto c (m ∷ ms))) ≡ ((eqb (to_ascii_lowercase c) (to_ascii_lowercase b) && p) && z)
more true true b c n m ns ms p z i j h = h ∙ ap (λ e. (e && p) && z) (sym (low_same b c i j))
more true false b c n m ns ms p z i j h = ap (λ e. (e && p) && z) (sym (low_other b c i j))
more false true b c n m ns ms p z i j h = ap (λ e. (e && p) && z) (sym (low_colon b c i j))
more false false b c n m ns ms p z i j h =
    join (eqb (to_ascii_lowercase b) (to_ascii_lowercase c)) (same_text n m) (first_names ns ms) p z h
    ∙ ap (λ e. (e && p) && z) (turned (to_ascii_lowercase b) (to_ascii_lowercase c))

none_left : (k : Bool) (c : ℕ) (m : List ℕ) (ms : List (List ℕ)) → first_names ([] ∷ []) (cond k ([] ∷ (m ∷ ms)) (onto c (m ∷ ms))) ≡ k
none_left true c m ms = refl
none_left false c m ms = refl

too_many : (q : Bool) (b : ℕ) (n : List ℕ) (ns : List (List ℕ)) → first_names (cond q ([] ∷ (n ∷ ns)) (onto b (n ∷ ns))) ([] ∷ []) ≡ false
too_many true b n ns = refl
too_many false b n ns = refl

-- the bytes of the one in front of the other, letter case apart, and there a name ends
pub first_by_front : (l t : List ℕ) → first_names (names l) (names t) ≡ (begins_with l t && is_end (slice_get t (length l)))
first_by_front [] [] = refl
first_by_front [] (c ∷ cs) =
    let m = names_head cs in
    (λ i. first_names ([] ∷ []) (cond (eqb c 58) ([] ∷ m.1 i) (onto c (m.1 i)))) ∙ none_left (eqb c 58) c _ m.0
first_by_front (b ∷ bs) [] =
    let n = names_head bs in
    (λ i. first_names (cond (eqb b 58) ([] ∷ n.1 i) (onto b (n.1 i))) ([] ∷ [])) ∙ too_many (eqb b 58) b _ n.0
first_by_front (b ∷ bs) (c ∷ cs) =
    let n = names_head bs in
    let m = names_head cs in
    (λ i. first_names (cond (eqb b 58) ([] ∷ n.1 i) (onto b (n.1 i))) (cond (eqb c 58) ([] ∷ m.1 i) (onto c (m.1 i))))
    ∙ more (eqb b 58) (eqb c 58) b c _ _ n.0 m.0 (begins_with bs cs) (is_end (slice_get cs (length bs))) refl refl
    ((λ i. first_names (sym n.1 i) (sym m.1 i)) ∙ first_by_front bs cs)
