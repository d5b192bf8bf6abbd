-- Where a place of a joined spool lies.
use Rattle.std.proofs.Common.{◌≡◌, ℕ, ◌-◌, ◌<◌, ◌≤◌, false, cond, ltb, List, [], ◌++◌, length, take, set, sym, refl, ap, ◌∙◌, inl, inr, arith}
use Rattle.std.proofs.Math.Seq.{take-set-lt}
use Rattle.std.proofs.lemmas.List.{get_or-take, get_or_append_left, get_or-append_right, set-append_left, set-append_right}
use Rattle.std.proofs.lemmas.Bool.{lt-ltb, le-ltb, cases_lt, cond-true, cond-false}
use Rattle.spool.specs.Meaning.{is_place, at}
use Rattle.joined_spool.specs.Joins.{joined, answer_in, first_after, second_after, joined_count, joined_few}

same_test : (p m q n : ℕ) → (p < m → q < n) → (q < n → p < m) → ltb p m ≡ ltb q n
same_test p m q n f h =
    elim (cases_lt q n) [
      | inl l ↦ lt-ltb p m (h l) ∙ sym (lt-ltb q n l)
      | inr l ↦ elim (cases_lt p m) [
        | inl k ↦ absurd (let z : q < n = f k in omega arith)
        | inr k ↦ le-ltb p m k ∙ sym (le-ltb q n l)
      ]
    ]

-- place p lies in the spool m at q, and with x for m the joined spool is j x
pub record Lies (a b : List (List ℕ)) (p : ℕ) (m : List (List ℕ)) (q : ℕ) (j : List (List ℕ) → List (List ℕ)) : Type 0 where
  pub whole : joined a b ≡ j m
  pub test : is_place p (joined a b) ≡ is_place q m
  pub same : q < length m → at p (joined a b) ≡ at q m
  pub put : (x : List ℕ) → q < length m → set (joined a b) p x ≡ j (set m q x)

in_first : (a b : List (List ℕ)) (p : ℕ) → length a ≤ 256 → p < length a → Lies a b p a p (λ x. joined x b)
unfolding joined
in_first a b p few h = record {
  whole = refl;
  test = same_test p (length (joined a b)) p (length a) (λ _. h) (λ _. omega (arith, joined_count a b));
  same = λ _. get_or-take 256 (a ++ b) p [] (omega arith) ∙ get_or_append_left a b [] p h;
  put = λ x _. sym (take-set-lt 256 (a ++ b) p x (omega arith)) ∙ ap (take 256) (set-append_left a b p x h);
}

in_second : (a b : List (List ℕ)) (p : ℕ) → length a ≤ p → p < 256 → Lies a b p b (p - length a) (λ x. joined a x)
unfolding joined
in_second a b p h l = record {
  whole = refl;
  test = same_test p (length (joined a b)) (p - length a) (length b) (λ k. omega (arith, joined_count a b)) (λ k. omega (arith, joined_count a b));
  same = λ _. get_or-take 256 (a ++ b) p [] l ∙ get_or-append_right a b (length a) p [] refl h;
  put = λ x _. sym (take-set-lt 256 (a ++ b) p x l) ∙ ap (take 256) (set-append_right a b (length a) p x refl h);
}

past_all : (a b : List (List ℕ)) (p : ℕ) → 256 ≤ p → is_place p (joined a b) ≡ false
past_all a b p h = le-ltb p (length (joined a b)) (omega (arith, joined_few a b))

-- a call whose answer is that of the spool which the place lies in, and `past` where there is no such place
pub answer_in_lem : {X : Type 0} (call : ℕ → List (List ℕ) → X) (past : X) (a b : List (List ℕ)) (p : ℕ) → length a ≤ 256
    → ((m : List (List ℕ)) (q : ℕ) (j : List (List ℕ) → List (List ℕ)) → Lies a b p m q j → call p (joined a b) ≡ call q m)
    → (is_place p (joined a b) ≡ false → call p (joined a b) ≡ past)
    → answer_in call past p a b ≡ call p (joined a b)
answer_in_lem call past a b p few lies none =
    elim (cases_lt p (length a)) [
      | inl l ↦ cond-true _ _ _ (lt-ltb p (length a) l) ∙ sym (lies a p (λ x. joined x b) (in_first a b p few l))
      | inr l ↦ elim (cases_lt p 256) [
        | inl k ↦ cond-false _ _ _ (le-ltb p (length a) l) ∙ cond-true _ _ _ (lt-ltb p 256 k)
            ∙ sym (lies b (p - length a) (λ x. joined a x) (in_second a b p l k))
        | inr k ↦ cond-false _ _ _ (le-ltb p (length a) l) ∙ cond-false _ _ _ (le-ltb p 256 k) ∙ sym (none (past_all a b p k))
      ]
    ]

-- a change that is made in the spool which the place lies in, and in none where there is no such place
pub after_in : (change : ℕ → List (List ℕ) → List (List ℕ)) (a b : List (List ℕ)) (p : ℕ) → length a ≤ 256
    → ((m : List (List ℕ)) (q : ℕ) (j : List (List ℕ) → List (List ℕ)) → Lies a b p m q j → change p (joined a b) ≡ j (change q m))
    → (is_place p (joined a b) ≡ false → change p (joined a b) ≡ joined a b)
    → joined (first_after change p a) (second_after change p a b) ≡ change p (joined a b)
after_in change a b p few lies none =
    elim (cases_lt p (length a)) [
      | inl l ↦ ap (λ t. joined (cond t (change p a) a) (cond t b (cond (ltb p 256) (change (p - length a) b) b))) (lt-ltb p (length a) l)
          ∙ sym (lies a p (λ x. joined x b) (in_first a b p few l))
      | inr l ↦ ap (λ t. joined (cond t (change p a) a) (cond t b (cond (ltb p 256) (change (p - length a) b) b))) (le-ltb p (length a) l)
          ∙ elim (cases_lt p 256) [
            | inl k ↦ ap (joined a) (cond-true _ _ _ (lt-ltb p 256 k)) ∙ sym (lies b (p - length a) (λ x. joined a x) (in_second a b p l k))
            | inr k ↦ ap (joined a) (cond-false _ _ _ (le-ltb p 256 k)) ∙ sym (none (past_all a b p k))
          ]
    ]
