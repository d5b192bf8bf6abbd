-- Digits read one by one, with a stop where the number passes the greatest one, give the number that they write.
use Rattle.std.proofs.Common.{◌≡◌, ℕ, ◌+◌, ◌-◌, ◌*◌, ◌^◌, ◌<◌, ◌≤◌, Bool, true, false, cond, ◌&&◌, leb, List, [], ◌∷◌, length, get_or, drop, Some, None, decimal, Option, sym, refl, ap, ◌∙◌, ⊎_elim, arith, rules}
use Rattle.std.specs.Char.{is_ascii_digit}
use Rattle.std.specs.Str.{all_ascii_digits}
use Rattle.std.proofs.lemmas.Fmt.{decimal_nonempty, decimal_digit, first_decimal, digits_decimal, digits_value-decimal}
use Rattle.std.proofs.lemmas.List.{at_drop_more}
use Rattle.std.proofs.lemmas.Str.Parse.{IsNumeralModel, numerals_by_fold, tells_all_ascii_digits}
use Rattle.std.proofs.lemmas.Bool.{cases_lt, lt-leb, le-leb, leb-false}
use Rattle.digits.specs.Numbers.{value_after, value, number_of, digit_on}

-- what the rest of the digits gives after n
abbrev pub read_after : ℕ → ℕ → List ℕ → Option ℕ
read_after most n cs = cond (all_ascii_digits cs && leb (value_after n cs) most) (Some (value_after n cs)) None

abbrev pub and_read : ℕ → Option ℕ → List ℕ → Option ℕ
and_read most (Some n) cs = read_after most n cs
and_read most None cs = None

-- digits never make a number less
after_ge : (n : ℕ) (cs : List ℕ) → n ≤ value_after n cs
after_ge n [] = omega arith
after_ge n (c ∷ cs) = omega (arith, after_ge (10 * n + (c - 48)) cs)

refused : (b t : Bool) (x : Option ℕ) → t ≡ false → cond (b && t) x None ≡ None
refused true t x e = ap (λ (u : Bool). cond u x None) e
refused false t x e = refl

digit_at : (most m : ℕ) (cs : List ℕ) (t : Bool) → leb m most ≡ t → read_after most m cs ≡ and_read most (cond t (Some m) None) cs
digit_at most m cs true e = refl
digit_at most m cs false e = refused (all_ascii_digits cs) (leb (value_after m cs) most) (Some (value_after m cs)) (lt-leb (value_after m cs) most (omega (arith, after_ge m cs, leb-false m most e)))

step_at : (most m : ℕ) (cs : List ℕ) (d : Bool) → cond ((d && all_ascii_digits cs) && leb (value_after m cs) most) (Some (value_after m cs)) None ≡ and_read most (cond (d && leb m most) (Some m) None) cs
step_at most m cs true = digit_at most m cs (leb m most) refl
step_at most m cs false = refl

pub read_more : (most n : ℕ) (cs : List ℕ) (i : ℕ) (o : Option ℕ) → i < length cs → o ≡ digit_on most n (get_or cs i 0) → read_after most n (drop i cs) ≡ and_read most o (drop (i + 1) cs)
read_more most n cs i o h e =
    at_drop_more (read_after most n) cs i 0 h
    ∙ step_at most (10 * n + (get_or cs i 0 - 48)) (drop (i + 1) cs) (is_ascii_digit (get_or cs i 0))
    ∙ ap (λ (p : Option ℕ). and_read most p (drop (i + 1) cs)) (sym e)

own : IsNumeralModel (λ ds. all_ascii_digits ds ≡ true) value
own = numerals_by_fold _ tells_all_ascii_digits value_after (search rules)

-- the digits of a number are read as that number
pub reads_back : (n : ℕ) → n < 2 ^ 64 → (most : ℕ) → n ≤ most → number_of most (decimal n) ≡ Some n
reads_back n small most le =
    let some : leb 1 (length (decimal n)) ≡ true = le-leb 1 (length (decimal n)) (omega (arith, decimal_nonempty n small)) in
    let same : value (decimal n) ≡ n = digits_value-decimal own n small in
    let fits : leb (value (decimal n)) most ≡ true = le-leb (value (decimal n)) most (omega arith) in
    λ i. cond (some i && (digits_decimal own n small i && fits i)) (Some (same i)) None

-- a zero in front stands alone
pub zero_alone : (n : ℕ) → n < 2 ^ 64 → get_or (decimal n) 0 0 ≡ 48 → length (decimal n) ≡ 1
zero_alone n small z = ⊎_elim
    (λ l. ap length (decimal_digit n l))
    (λ g. absurd (omega (arith, first_decimal n (omega arith) small)))
    (cases_lt n 10)
