-- Two spools as one: the first's places, then the second's, none past 256.
use Rattle.std.specs.Prelude.{◌≡◌, ℕ, ◌+◌, ◌-◌, ◌≤◌, min, cond, List, ◌++◌, length, take, Ok, Err, Result, nat_lt}
use Rattle.std.proofs.Common.{arith, ◌∙◌, ap}
use Rattle.std.proofs.lemmas.List.{length-take, length-append}
use Rattle.spool.specs.declared.fault.SpoolFault.{SpoolFault}
use Rattle.spool.specs.declared.fault.SpoolFault.TheVariants.{NoPlace}
use Rattle.joined_spool.specs.declared.parts.Part.{Part}
use Rattle.joined_spool.specs.declared.parts.Part.TheVariants.{First, Second}
use Rattle.spool.specs.Short.{Short, short_take, short_append}

unfoldable pub joined : List (List ℕ) → List (List ℕ) → List (List ℕ)
joined a b = take 256 (a ++ b)

-- the part that place p falls in, and the place there, where the first part is a
abbrev pub part_answer : ℕ → List (List ℕ) → Result Part SpoolFault
part_answer p a = cond (nat_lt p (length a)) (Ok (First p)) (cond (nat_lt p 256) (Ok (Second (p - length a))) (Err NoPlace))

-- what the part answers that the place falls in: the first at p, or the second at p less the first's places; `past` at
-- a place past the last that a spool may have
abbrev pub answer_in : {X : Type 0} → (ℕ → List (List ℕ) → X) → X → ℕ → List (List ℕ) → List (List ℕ) → X
answer_in call past p a b = cond (nat_lt p (length a)) (call p a) (cond (nat_lt p 256) (call (p - length a) b) past)

-- what each part holds after a change at the place
abbrev pub first_after : (ℕ → List (List ℕ) → List (List ℕ)) → ℕ → List (List ℕ) → List (List ℕ)
first_after change p a = cond (nat_lt p (length a)) (change p a) a

abbrev pub second_after : (ℕ → List (List ℕ) → List (List ℕ)) → ℕ → List (List ℕ) → List (List ℕ) → List (List ℕ)
second_after change p a b = cond (nat_lt p (length a)) b (cond (nat_lt p 256) (change (p - length a) b) b)

abbrev pub count_in : List (List ℕ) → List (List ℕ) → ℕ
count_in a b = min 256 (length a + length b)

pub joined_count : (a b : List (List ℕ)) → length (joined a b) ≡ count_in a b
unfolding joined
joined_count a b = length-take 256 (a ++ b) ∙ ap (min 256) (length-append a b)

pub joined_few : (a b : List (List ℕ)) → length (joined a b) ≤ 256
joined_few a b = omega (arith, joined_count a b)

pub joined_short : (a b : List (List ℕ)) → Short a → Short b → Short (joined a b)
unfolding joined
joined_short a b ha hb = short_take 256 (a ++ b) (short_append a b ha hb)
