-- An address by its bytes and by its names.
use Rattle.std.proofs.Common.{◌≡◌, ℕ, suc, ◌≤◌, Bool, true, false, cond, ◌&&◌, ◌||◌, eqb, leb, List, [], ◌∷◌, ◌++◌, length, take, sym, refl, ap, ◌∙◌, subst, arith, length-append}
use Rattle.std.proofs.lemmas.Bool.{eqb-true, ne_eqb, leb-true, le-leb, and_parts, and_from, true≢false}
use Rattle.std.proofs.lemmas.List.Splits.{join_with_byte-slice_split}
use Rattle.text.proofs.Named.{names_head}
use Rattle.text.specs.Forms.{all, name_byte, names_from, is_address}
use Rattle.text.specs.Names.{names, onto, is_name, all_names, name_len, joined, Named, ExactlyNames}

-- the names that are left, the first begun already where g is true
abbrev left : Bool → List (List ℕ) → Bool
left g [] = g
left g (n ∷ ns) = (g || leb 1 (length n)) && (all name_byte n && all_names ns)

assoc : (x y z : Bool) → (x && (y && z)) ≡ ((x && y) && z)
assoc true y z = refl
assoc false y z = refl

never : (x : Bool) → (x && false) ≡ false
never true = refl
never false = refl

-- one byte more, by its kind: q that it is a colon, p that it is a name byte
one : (q p g : Bool) (b : ℕ) (n : List ℕ) (ns : List (List ℕ)) → name_byte b ≡ p → (q ≡ true → p ≡ false) →
    cond p (left true (n ∷ ns)) (cond (q && g) (left false (n ∷ ns)) false) ≡ left g (cond q ([] ∷ (n ∷ ns)) (onto b (n ∷ ns)))
one true true g b n ns e h = absurd (true≢false (h refl))
one true false true b n ns e h = assoc (leb 1 (length n)) (all name_byte n) (all_names ns)
one true false false b n ns e h = refl
one false true true b n ns e h = ap (λ x. (x && all name_byte n) && all_names ns) (sym e)
one false true false b n ns e h = λ i. sym (le-leb 1 (suc (length n)) (omega arith)) i && ((sym e i && all name_byte n) && all_names ns)
one false false true b n ns e h = ap (λ x. (x && all name_byte n) && all_names ns) (sym e)
one false false false b n ns e h = λ i. sym (le-leb 1 (suc (length n)) (omega arith)) i && ((sym e i && all name_byte n) && all_names ns)

colon : (b : ℕ) → eqb b 58 ≡ true → name_byte b ≡ false
colon b e = ap name_byte (eqb-true b 58 e)

by_names : (g : Bool) (bs : List ℕ) → names_from g bs ≡ left g (names bs)
by_names true [] = refl
by_names false [] = refl
by_names g (b ∷ bs) =
    let p = names_head bs in
    (λ i. cond (name_byte b) (by_names true bs i) (cond (eqb b 58 && g) (by_names false bs i) false))
    ∙ (λ i. cond (name_byte b) (left true (p.1 i)) (cond (eqb b 58 && g) (left false (p.1 i)) false))
    ∙ one (eqb b 58) (name_byte b) g b _ p.0 refl (colon b)
    ∙ (λ i. left g (cond (eqb b 58) ([] ∷ sym p.1 i) (onto b (sym p.1 i))))

left_all : (bs : List ℕ) → left false (names bs) ≡ all_names (names bs)
left_all bs = let p = names_head bs in ap (left false) p.1 ∙ assoc (leb 1 (length (take (name_len bs) bs))) (all name_byte (take (name_len bs) bs)) (all_names p.0) ∙ ap all_names (sym p.1)

pub by_parts : (bs : List ℕ) → names_from false bs ≡ all_names (names bs)
by_parts bs = by_names false bs ∙ left_all bs

no_colon : (b : ℕ) → name_byte b ≡ true → eqb b 58 ≡ false
no_colon b h = ne_eqb b 58 (λ e. true≢false (sym h ∙ ap name_byte e))

name_bytes : (n : List ℕ) → is_name n ≡ true → all name_byte n ≡ true
name_bytes n h = (and_parts (leb 1 (length n)) (all name_byte n) h).1

-- a name in front of what follows a colon, or alone
names_front : (n : List ℕ) (t : List ℕ) → all name_byte n ≡ true → names (n ++ (58 ∷ t)) ≡ n ∷ names t
names_front [] t h = refl
names_front (b ∷ n) t h =
    let e = no_colon b (and_parts (name_byte b) (all name_byte n) h).0 in
    (λ i. cond (e i) ([] ∷ names (n ++ (58 ∷ t))) (onto b (names (n ++ (58 ∷ t)))))
    ∙ ap (onto b) (names_front n t (and_parts (name_byte b) (all name_byte n) h).1)

names_alone : (n : List ℕ) → all name_byte n ≡ true → names n ≡ n ∷ []
names_alone [] h = refl
names_alone (b ∷ n) h =
    let e = no_colon b (and_parts (name_byte b) (all name_byte n) h).0 in
    (λ i. cond (e i) ([] ∷ names n) (onto b (names n))) ∙ ap (onto b) (names_alone n (and_parts (name_byte b) (all name_byte n) h).1)

names_joined : (n : List ℕ) (ns : List (List ℕ)) → all_names (n ∷ ns) ≡ true → names (joined (n ∷ ns)) ≡ n ∷ ns
names_joined n [] h = names_alone n (name_bytes n (and_parts (is_name n) true h).0)
names_joined n (m ∷ ns) h =
    names_front n (joined (m ∷ ns)) (name_bytes n (and_parts (is_name n) (all_names (m ∷ ns)) h).0)
    ∙ ap (λ t. n ∷ t) (names_joined m ns (and_parts (is_name n) (all_names (m ∷ ns)) h).1)

-- a text that is joined of names is long enough and read as such
spelled_long : (n : List ℕ) (ns : List (List ℕ)) → all_names (n ∷ ns) ≡ true → 1 ≤ length (joined (n ∷ ns))
spelled_long n [] h = leb-true 1 (length n) (and_parts (leb 1 (length n)) (all name_byte n) (and_parts (is_name n) true h).0).0
spelled_long n (m ∷ ns) h = simp length-append (omega arith)

pub exactly_names : (bs : List ℕ) → ExactlyNames bs
exactly_names bs = record { only = only; every = every }
  where
    only : is_address bs ≡ true → Named bs
    only h =
        let rest = and_parts (leb (length bs) 64) (names_from false bs) (and_parts (leb 1 (length bs)) (leb (length bs) 64 && names_from false bs) h).1 in
        record {
          parts = names bs;
          some = let p = names_head bs in subst (λ t. 1 ≤ length t) (sym p.1) (omega arith);
          lawful = sym (by_parts bs) ∙ rest.1;
          spelled = join_with_byte-slice_split 58 bs;
          short = leb-true (length bs) 64 rest.0;
        }

    spelled_ok : (ns : List (List ℕ)) → 1 ≤ length ns → all_names ns ≡ true → length (joined ns) ≤ 64 → is_address (joined ns) ≡ true
    spelled_ok [] some lawful short = absurd (omega arith)
    spelled_ok (n ∷ ns) some lawful short =
        and_from (leb 1 (length (joined (n ∷ ns)))) (leb (length (joined (n ∷ ns))) 64 && names_from false (joined (n ∷ ns))) (le-leb _ _ (spelled_long n ns lawful))
        (and_from (leb (length (joined (n ∷ ns))) 64) (names_from false (joined (n ∷ ns))) (le-leb _ _ short)
        (by_parts (joined (n ∷ ns)) ∙ ap all_names (names_joined n ns lawful) ∙ lawful))

    every : Named bs → is_address bs ≡ true
    every s = ap is_address (sym s.spelled) ∙ spelled_ok s.parts s.some s.lawful (subst (λ t. length t ≤ 64) (sym s.spelled) s.short)
