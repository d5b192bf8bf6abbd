-- What the laws of keys give: keys that are the same find the same row, a live row that was added is found again, and
-- the rows with other keys are found as before.
use Rattle.std.proofs.Common.{◌≡◌, ℕ, zero, suc, ◌+◌, ◌≤◌, Bool, true, false, cond, ◌&&◌, List, [], ◌∷◌, set, Some, None, Option, Result, sym, refl, ap, ◌∙◌, arith}
use Rattle.std.proofs.lemmas.Bool.Decides.{nat_tests}
use Rattle.ledger.specs.declared.fault.LedgerFault.{LedgerFault}
use Rattle.ledger.specs.Kinds.{Kind, Equivalence, live, has_key}
use Rattle.ledger.specs.Searches.{first_from, live_with, filled_with, spare, found, entered, or_else}
use Rattle.ledger.specs.Changes.{put, or_refused, added, rows_after_adding, rows_after_striking}
use Rattle.ledger.specs.Promises.{FoundAgain, OthersAsBefore}

bool_iff : (a b : Bool) → (a ≡ true → b ≡ true) → (b ≡ true → a ≡ true) → a ≡ b
bool_iff true b f h = sym (f refl)
bool_iff false true f h = h refl
bool_iff false false f h = refl

first_cong : {R : Type 0} (n : ℕ) (p q : R → Bool) (rows : List R) → ((r : R) → p r ≡ q r) → first_from n p rows ≡ first_from n q rows
first_cong n p q [] h = refl
first_cong n p q (r ∷ rs) h = rw (h r) (ap (λ o. cond (q r) (Some n) o) (first_cong (suc n) p q rs h))

-- a row that passes q passes p too: with nothing for p there is nothing for q
none_then : {R : Type 0} (n : ℕ) (p q : R → Bool) (rows : List R) → ((r : R) → q r ≡ true → p r ≡ true) → first_from n p rows ≡ None → first_from n q rows ≡ None
none_then n p q [] h e = refl
none_then n p q (r ∷ rs) h e = grind (arith, h r, none_then (suc n) p q rs h)

-- what is put where p's first was is q's first
put_first : {R : Type 0} (n i j : ℕ) (p q : R → Bool) (row : R) (rows : List R) → ((r : R) → q r ≡ true → p r ≡ true) → q row ≡ true → j ≡ n + i → first_from n p rows ≡ Some j → first_from n q (set rows i row) ≡ Some j
put_first n i j p q row [] h b d e = e
put_first n zero j p q row (r ∷ rs) h b d e = grind arith
put_first n (suc i) j p q row (r ∷ rs) h b d e =
    let d' : j ≡ suc n + i = omega arith in
    grind (arith, h r, put_first (suc n) i j p q row rs h b d')

-- and so it is where nothing passed q
put_spare : {R : Type 0} (n i j : ℕ) (p q : R → Bool) (row : R) (rows : List R) → first_from n q rows ≡ None → q row ≡ true → j ≡ n + i → first_from n p rows ≡ Some j → first_from n q (set rows i row) ≡ Some j
put_spare n i j p q row [] h b d e = e
put_spare n zero j p q row (r ∷ rs) h b d e = grind arith
put_spare n (suc i) j p q row (r ∷ rs) h b d e =
    let d' : j ≡ suc n + i = omega arith in
    grind (arith, put_spare (suc n) i j p q row rs)

first_least : {R : Type 0} (n j : ℕ) (p : R → Bool) (rows : List R) → first_from n p rows ≡ Some j → n ≤ j
first_least n j p [] e = let z : ◌≡◌ {A = ℕ} 0 1 = cc in omega arith
first_least n j p (r ∷ rs) e = grind (arith, first_least (suc n) j p rs)

-- what is put where p's first was changes nothing for q, where neither it nor what passes p passes q
put_aside : {R : Type 0} (n i j : ℕ) (p q : R → Bool) (row : R) (rows : List R) → ((r : R) → p r ≡ true → q r ≡ false) → q row ≡ false → j ≡ n + i → first_from n p rows ≡ Some j → first_from n q (set rows i row) ≡ first_from n q rows
put_aside n i j p q row [] h b d e = refl
put_aside n zero j p q row (r ∷ rs) h b d e = grind (arith, h r, first_least (suc n) j p rs)
put_aside n (suc i) j p q row (r ∷ rs) h b d e =
    let d' : j ≡ suc n + i = omega arith in
    grind (arith, put_aside (suc n) i j p q row rs h b d')

false_if : (b : Bool) → (b ≡ true → true ≡ false) → b ≡ false
false_if true h = h refl
false_if false h = refl

module _ {R K : Type 0} (m : Kind R K) (e : Equivalence m.same) where
  class : (j k : K) → m.same j k ≡ true → (r : R) → has_key m j r ≡ has_key m k r
  class j k s r = bool_iff _ _ (λ a. e.transitive (m.key r) j k a s) (λ a. e.transitive (m.key r) k j a (e.symmetric j k s))

  pub found_alike : (t : ℕ) (j k : K) (rows : List R) → m.same j k ≡ true → found m t k rows ≡ found m t j rows
  found_alike t j k rows s = first_cong 0 _ _ rows (λ r. ap (λ b. live m t r && b) (sym (class j k s r)))

  -- a live row that was added is the one that its key finds
  module _ (t : ℕ) (row : R) (rows : List R) (l : live m t row ≡ true) where
    filled_too : (r : R) → live_with m t (m.key row) r ≡ true → filled_with m (m.key row) r ≡ true
    filled_too r h = grind arith

    self : live_with m t (m.key row) row ≡ true
    self = rw (l, e.reflexive (m.key row))

    by_place : (u : ℕ) (o s : Option ℕ) → first_from 0 (filled_with m (m.key row)) rows ≡ o → first_from 0 (spare m u) rows ≡ s → first_from 0 (live_with m t (m.key row)) (put (or_else o s) row rows) ≡ or_else o s
    by_place u (Some i) s eo es = put_first 0 i i _ _ row rows filled_too self (omega arith) eo
    by_place u None (Some i) eo es = put_spare 0 i i _ _ row rows (none_then 0 _ _ rows filled_too eo) self (omega arith) es
    by_place u None None eo es = none_then 0 _ _ rows filled_too eo

  pub found_again : (time : ℕ) (row : R) (rows after : List R) (answer : Result ℕ LedgerFault) → answer ≡ added m time row rows → after ≡ rows_after_adding m time row rows → FoundAgain m row after answer
  found_again time row rows after answer a r t k l s =
      a ∙ ap or_refused (sym (by_place t row rows l time _ _ refl refl) ∙ found_alike t k (m.key row) (rows_after_adding m time row rows) s ∙ ap (found m t k) (sym r))

  -- a row with one key has no key that is not the same
  apart : (j k : K) → m.same k j ≡ false → (r : R) → has_key m j r ≡ true → has_key m k r ≡ false
  apart j k d r a = false_if _ (λ b. sym (e.transitive k (m.key r) j (e.symmetric (m.key r) k b) a) ∙ d)

  -- keys that are not the same find what they found, where a row that they do not find is put
  module _ (u : ℕ) (j k : K) (row : R) (rows : List R) (d : m.same k j ≡ false) (aside : live_with m u k row ≡ false) where
    not_filled : (r : R) → filled_with m j r ≡ true → live_with m u k r ≡ false
    not_filled r h = grind (arith, apart j k d r)

    not_spare : (t : ℕ) → t ≤ u → (r : R) → spare m t r ≡ true → live_with m u k r ≡ false
    not_spare t l r h = grind (arith, nat_tests)

    at_entered : (o : Option ℕ) → entered m j rows ≡ o → found m u k (put o row rows) ≡ found m u k rows
    at_entered (Some i) eo = put_aside 0 i i _ _ row rows not_filled aside (omega arith) eo
    at_entered None eo = refl

    at_place : (t : ℕ) → t ≤ u → (o s : Option ℕ) → entered m j rows ≡ o → first_from 0 (spare m t) rows ≡ s → found m u k (put (or_else o s) row rows) ≡ found m u k rows
    at_place t l (Some i) s eo es = at_entered (Some i) eo
    at_place t l None (Some i) eo es = put_aside 0 i i _ _ row rows (not_spare t l) aside (omega arith) es
    at_place t l None None eo es = refl

  pub others_added : (time : ℕ) (row : R) (rows after : List R) → after ≡ rows_after_adding m time row rows → OthersAsBefore m time (m.key row) rows after
  others_added time row rows after r u k l d =
      let own : has_key m k row ≡ false = apart (m.key row) k d row (e.reflexive (m.key row)) in
      let aside : live_with m u k row ≡ false = grind arith in
      ap (found m u k) r ∙ at_place u (m.key row) k row rows d aside time l _ _ refl refl

  pub others_struck : m.filled m.freed ≡ false → (key : K) (rows after : List R) → after ≡ rows_after_striking m key rows → OthersAsBefore m 0 key rows after
  others_struck f key rows after r u k l d =
      let aside : live_with m u k m.freed ≡ false = grind arith in
      ap (found m u k) r ∙ at_entered u key k m.freed rows d aside _ refl
