-- Each call on a joined spool is the call on the part that the place falls in.
use Rattle.std.proofs.Common.{◌≡◌, ℕ, ◌≤◌, Bool, true, false, cond, ◌&&◌, leb, List, [], length, set, Ok, Err, Result, sym, refl, ap, ◌∙◌}
use Rattle.std.proofs.lemmas.Bool.{ltb-true, and_parts}
use Rattle.spool.specs.declared.fault.SpoolFault.{SpoolFault}
use Rattle.spool.specs.declared.fault.SpoolFault.TheVariants.{NoPlace, Unstorable, ShortBuffer}
use Rattle.spool.specs.Meaning.{is_place, at, storable, over_front, length_answer, store_answer, stored, clear_answer, cleared, copy_answer, copied}
use Rattle.joined_spool.specs.Joins.{joined, answer_in, first_after, second_after}
use Rattle.joined_spool.proofs.Lies.{answer_in_lem, after_in}

-- what reads a place by its test and its bytes
by_test : {X : Type 0} (F : Bool → List ℕ → X) (t u : Bool) (x y : List ℕ) → t ≡ u → (u ≡ true → x ≡ y) → F false x ≡ F false y → F t x ≡ F u y
by_test F t true x y e s n = ap (λ b. F b x) e ∙ ap (F true) (s refl)
by_test F t false x y e s n = ap (λ b. F b x) e ∙ n

reads : {X : Type 0} (F : Bool → List ℕ → X) (past : X) → ((x : List ℕ) → F false x ≡ past)
    → (a b : List (List ℕ)) (p : ℕ) (r : X) → length a ≤ 256 → r ≡ answer_in (λ q m. F (is_place q m) (at q m)) past p a b
    → r ≡ F (is_place p (joined a b)) (at p (joined a b))
reads F past none a b p r few e =
    e
    ∙ answer_in_lem (λ q m. F (is_place q m) (at q m)) past a b p few
    (λ m q j l. by_test F _ _ (at p (joined a b)) (at q m) l.test (λ k. l.same (ltb-true q (length m) k))
    (none (at p (joined a b)) ∙ sym (none (at q m))))
    (λ k. ap (λ t. F t (at p (joined a b))) k ∙ none (at p (joined a b)))

-- what writes bytes to a place where a test passes that asks for the place
by_put : (j : List (List ℕ) → List (List ℕ)) (t u : Bool) (x y z w : List (List ℕ)) → t ≡ u → (u ≡ true → x ≡ j z) → y ≡ j w → cond t x y ≡ j (cond u z w)
by_put j t true x y z w e f n = ap (λ b. cond b x y) e ∙ f refl
by_put j t false x y z w e f n = ap (λ b. cond b x y) e ∙ n

writes : (F : Bool → Bool) → F false ≡ false → ((t : Bool) → F t ≡ true → t ≡ true) → (bs : List ℕ)
    → (a b : List (List ℕ)) (p : ℕ) (x y : List (List ℕ)) → length a ≤ 256
    → x ≡ first_after (λ q m. cond (F (is_place q m)) (set m q bs) m) p a
    → y ≡ second_after (λ q m. cond (F (is_place q m)) (set m q bs) m) p a b
    → joined x y ≡ cond (F (is_place p (joined a b))) (set (joined a b) p bs) (joined a b)
writes F none some bs a b p x y few ex ey =
    ap (λ t. joined t y) ex
    ∙ ap (joined (first_after (λ q m. cond (F (is_place q m)) (set m q bs) m) p a)) ey
    ∙ after_in (λ q m. cond (F (is_place q m)) (set m q bs) m) a b p few
    (λ m q j l. by_put j (F (is_place p (joined a b))) (F (is_place q m)) (set (joined a b) p bs) (joined a b) (set m q bs) m
    (ap F l.test) (λ k. l.put bs (ltb-true q (length m) (some (is_place q m) k))) l.whole)
    (λ k. ap (λ t. cond (F t) (set (joined a b) p bs) (joined a b)) k ∙ ap (λ t. cond t (set (joined a b) p bs) (joined a b)) none)

pub length_in : (a b : List (List ℕ)) (p : ℕ) (r : Result ℕ SpoolFault) → length a ≤ 256
    → r ≡ answer_in length_answer (Err NoPlace) p a b → r ≡ length_answer p (joined a b)
length_in = reads (λ t x. cond t (Ok (length x)) (Err NoPlace)) (Err NoPlace) (λ _. refl)

pub store_in : (bs : List ℕ) (a b : List (List ℕ)) (p : ℕ) (r : Result (Unit {0}) SpoolFault) → length a ≤ 256
    → r ≡ answer_in (λ q. store_answer q bs) (Err NoPlace) p a b → r ≡ store_answer p bs (joined a b)
store_in bs = reads (λ t _. cond t (cond (storable (length bs)) (Ok tt) (Err Unstorable)) (Err NoPlace)) (Err NoPlace) (λ _. refl)

pub stored_in : (bs : List ℕ) (a b : List (List ℕ)) (p : ℕ) (x y : List (List ℕ)) → length a ≤ 256
    → x ≡ first_after (λ q. stored q bs) p a → y ≡ second_after (λ q. stored q bs) p a b → joined x y ≡ stored p bs (joined a b)
stored_in bs = writes (λ t. t && storable (length bs)) refl (λ t k. (and_parts t (storable (length bs)) k).0) bs

pub clear_in : (a b : List (List ℕ)) (p : ℕ) (r : Result (Unit {0}) SpoolFault) → length a ≤ 256
    → r ≡ answer_in clear_answer (Err NoPlace) p a b → r ≡ clear_answer p (joined a b)
clear_in = reads (λ t _. cond t (Ok tt) (Err NoPlace)) (Err NoPlace) (λ _. refl)

pub cleared_in : (a b : List (List ℕ)) (p : ℕ) (x y : List (List ℕ)) → length a ≤ 256
    → x ≡ first_after cleared p a → y ≡ second_after cleared p a b → joined x y ≡ cleared p (joined a b)
cleared_in = writes (λ t. t) refl (λ t k. k) []

pub copy_in : (buf : List ℕ) (a b : List (List ℕ)) (p : ℕ) (r : Result ℕ SpoolFault) → length a ≤ 256
    → r ≡ answer_in (λ q. copy_answer q buf) (Err NoPlace) p a b → r ≡ copy_answer p buf (joined a b)
copy_in buf =
    reads (λ t x. cond t (cond (leb (length x) (length buf)) (Ok (length x)) (Err ShortBuffer)) (Err NoPlace)) (Err NoPlace) (λ _. refl)

pub copied_in : (buf : List ℕ) (a b : List (List ℕ)) (p : ℕ) (r : List ℕ) → length a ≤ 256
    → r ≡ answer_in (λ q. copied q buf) buf p a b → r ≡ copied p buf (joined a b)
copied_in buf = reads (λ t x. cond (t && leb (length x) (length buf)) (over_front x buf) buf) buf (λ _. refl)
