-- A change of the one last booked of those that fit.
use Rattle.std.proofs.Common.{◌≡◌, ℕ, Bool, true, false, cond, ◌⊎◌, List, [], ◌∷◌, refl, ap, inl, inr, arith}
use Rattle.account.specs.Laws.{All, Any, Pairs}
use Rattle.account.specs.Accounts.{Booked, change}

pub true_false : (v : Bool) → v ≡ true → v ≡ false → ⊥
true_false v p q = let z : ◌≡◌ {A = Bool} true false = cc in let y : ◌≡◌ {A = ℕ} 0 1 = cc in omega arith

pub all_map : (P Q : Booked → Type 0) → ((b : Booked) → P b → Q b) → (bs : List Booked) → All P bs → All Q bs
unfolding All
all_map P Q f [] h = tt
all_map P Q f (b ∷ bs) h = (f b h.0, all_map P Q f bs h.1)

pub all_both : (P Q : Booked → Type 0) (bs : List Booked) → All P bs → All Q bs → All (λ b. P b × Q b) bs
unfolding All
all_both P Q [] h k = tt
all_both P Q (b ∷ bs) h k = ((h.0, k.0), all_both P Q bs h.1 k.1)

pub pairs_map : (R Q : Booked → Booked → Type 0) → ((b c : Booked) → R b c → Q b c) → (bs : List Booked) → Pairs R bs → Pairs Q bs
unfolding Pairs
pairs_map R Q f [] h = tt
pairs_map R Q f (b ∷ bs) h = (all_map (R b) (Q b) (f b) bs h.0, pairs_map R Q f bs h.1)

-- someone of a list, each of which has P
pub any_in : (P N : Booked → Type 0) (C : Type 0) → ((b : Booked) → P b → N b → C) → (bs : List Booked) → All P bs → Any N bs → C
unfolding All Any
any_in P N C f [] h n = absurd n
any_in P N C f (b ∷ bs) h (inl n) = f b h.0 n
any_in P N C f (b ∷ bs) h (inr n) = any_in P N C f bs h.1 n

-- what a change is about: the one with N is the first that fits
pub record Aim (fits : Booked → Bool) (P N : Booked → Type 0) (R : Booked → Booked → Type 0) : Type 1 where
  pub only : (b c : Booked) → P b → fits b ≡ true → R b c → P c → N c → ⊥
  pub sure : (b : Booked) → P b → N b → fits b ≡ true

pub head_is : (fits : Booked → Bool) (P N : Booked → Type 0) (R : Booked → Booked → Type 0) → Aim fits P N R
    → (b : Booked) (bs : List Booked) → fits b ≡ true → All P (b ∷ bs) → Pairs R (b ∷ bs) → Any N (b ∷ bs) → N b
unfolding All Any Pairs
head_is fits P N R aim b bs e p r (inl n) = n
head_is fits P N R aim b bs e p r (inr n) =
    absurd (any_in (λ c. P c × R b c) N ⊥ (λ c pc nc. aim.only b c p.0 e pc.1 pc.0 nc) bs (all_both P (R b) bs p.1 r.0) n)

pub tail_has : (fits : Booked → Bool) (P N : Booked → Type 0) (R : Booked → Booked → Type 0) → Aim fits P N R
    → (b : Booked) (bs : List Booked) → fits b ≡ false → P b → Any N (b ∷ bs) → Any N bs
unfolding Any
tail_has fits P N R aim b bs e p (inl n) = absurd (true_false (fits b) (aim.sure b p n) e)
tail_has fits P N R aim b bs e p (inr n) = n

pub change_all : (fits : Booked → Bool) (u : Booked → Booked) (P Q N : Booked → Type 0) (R : Booked → Booked → Type 0)
    → Aim fits P N R
    → ((b : Booked) → P b → fits b ≡ false → Q b)
    → ((b : Booked) → P b → N b → Q (u b))
    → ((b c : Booked) → N b → R b c → P c → Q c)
    → (bs : List Booked) → All P bs → Pairs R bs → Any N bs → All Q (change fits u bs)
unfolding All Any Pairs change
change_all fits u P Q N R aim miss hit old [] p r n = tt
change_all fits u P Q N R aim miss hit old (b ∷ bs) p r n =
    let go : (v : Bool) → fits b ≡ v → All Q (cond v (u b ∷ bs) (b ∷ change fits u bs)) =
    elim [
      | true ↦ (λ e. let nb = head_is fits P N R aim b bs e p r n in
          (hit b p.0 nb, all_map (λ c. P c × R b c) Q (λ c h. old b c nb h.1 h.0) bs (all_both P (R b) bs p.1 r.0)))
      | false ↦ (λ e. (miss b p.0 e, change_all fits u P Q N R aim miss hit old bs p.1 r.1 (tail_has fits P N R aim b bs e p.0 n)))
    ]
    in go (fits b) refl

pub change_pairs : (fits : Booked → Bool) (u : Booked → Booked) (P N : Booked → Type 0) (R : Booked → Booked → Type 0)
    → Aim fits P N R
    → ((b c : Booked) → N b → R b c → R (u b) c)
    → ((b c : Booked) → N c → R b c → R b (u c))
    → (bs : List Booked) → All P bs → Pairs R bs → Any N bs → Pairs R (change fits u bs)
unfolding All Any Pairs change
change_pairs fits u P N R aim new old [] p r n = tt
change_pairs fits u P N R aim new old (b ∷ bs) p r n =
    let go : (v : Bool) → fits b ≡ v → Pairs R (cond v (u b ∷ bs) (b ∷ change fits u bs)) =
    elim [
      | true ↦ (λ e. let nb = head_is fits P N R aim b bs e p r n in
          (all_map (R b) (R (u b)) (λ c h. new b c nb h) bs r.0, r.1))
      | false ↦ (λ e. let nt = tail_has fits P N R aim b bs e p.0 n in (
        change_all fits u (λ c. P c × R b c) (R b) N R
            (record { only = λ x c px e' rxc pc nc. aim.only x c px.0 e' rxc pc.0 nc; sure = λ x px nx. aim.sure x px.0 nx })
            (λ c pc e'. pc.1) (λ c pc nc. old b c nc pc.1) (λ x c nx rxc pc. pc.1)
            bs (all_both P (R b) bs p.1 r.0) r.1 nt,
        change_pairs fits u P N R aim new old bs p.1 r.1 nt,
      ))
    ]
    in go (fits b) refl

pub change_any : (fits : Booked → Bool) (u : Booked → Booked) (P N M : Booked → Type 0) (R : Booked → Booked → Type 0)
    → Aim fits P N R
    → ((b : Booked) → N b → M b → M (u b))
    → (bs : List Booked) → All P bs → Pairs R bs → Any N bs → Any M bs → Any M (change fits u bs)
unfolding All Any Pairs change
change_any fits u P N M R aim hit [] p r n m = absurd n
change_any fits u P N M R aim hit (b ∷ bs) p r n m =
    let go : (v : Bool) → fits b ≡ v → Any M (b ∷ bs) → Any M (cond v (u b ∷ bs) (b ∷ change fits u bs)) =
    elim [
      | true ↦ (λ e. elim [ inl mb ↦ inl (hit b (head_is fits P N R aim b bs e p r n) mb) | inr mt ↦ inr mt ])
      | false ↦ (λ e. elim [
        | inl mb ↦ inl mb
        | inr mt ↦ inr (change_any fits u P N M R aim hit bs p.1 r.1 (tail_has fits P N R aim b bs e p.0 n) mt)
      ])
    ]
    in go (fits b) refl m

-- a change that leaves each of those that fit leaves the list
pub change_none : (fits : Booked → Bool) (u : Booked → Booked) (bs : List Booked) → All (λ b. fits b ≡ true → u b ≡ b) bs → change fits u bs ≡ bs
unfolding All change
change_none fits u [] h = refl
change_none fits u (b ∷ bs) h =
    let go : (v : Bool) → fits b ≡ v → cond v (u b ∷ bs) (b ∷ change fits u bs) ≡ b ∷ bs =
    elim [ true ↦ (λ e. ap (λ c. c ∷ bs) (h.0 e)) | false ↦ (λ e. ap (λ cs. b ∷ cs) (change_none fits u bs h.1)) ]
    in go (fits b) refl

-- two of a list are one, or a pair of it
abbrev pub Met : (Booked → Booked → Type 0) → Booked → Booked → Type 0
Met R b c = (c ≡ b) ⊎ (R b c ⊎ R c b)

pub all_meet : (R : Booked → Booked → Type 0) (bs : List Booked) → Pairs R bs → All (λ b. All (Met R b) bs) bs
unfolding All Pairs
all_meet R [] h = tt
all_meet R (b ∷ bs) h = (
  (inl refl, all_map (R b) (Met R b) (λ c r. inr (inl r)) bs h.0),
  all_map (λ c. R b c × All (Met R c) bs) (λ c. Met R c b × All (Met R c) bs) (λ c k. (inr (inr k.0), k.1)) bs
      (all_both (R b) (λ c. All (Met R c) bs) bs h.0 (all_meet R bs h.1)),
)
