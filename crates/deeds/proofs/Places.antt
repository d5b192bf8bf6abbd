-- A place of the relay that holds an envelope, and what changes there.
use Rattle.std.proofs.Common.{◌≡◌, ℕ, ◌<◌, Bool, true, false, cond, eqb, List, [], length, set, Some, None, Option, sym, refl, ap, ◌∙◌, subst, inl, inr, arith, get_or-set_other, get_or-set_same, lt-ltb, eqb-true}
use borrow.Author.Tests.{eqb-false}
use lib.Seq.{set-get_or}
use Rattle.std.proofs.lemmas.Bool.{cases_lt}
use Rattle.message_rows.specs.declared.message.MessageRow.{MessageRow}
use Rattle.spool.specs.Meaning.{at, stored, cleared, storable}
use Rattle.standing.specs.Standings.{standing_at, with_standing}
use Rattle.standing.specs.declared.standing.About.{About}
use Rattle.standing.specs.declared.standing.Standing.{Standing}
use Rattle.standing.specs.declared.standing.Standing.TheVariants.{Free}
use Rattle.relay.specs.States.{State}
use Rattle.relay.specs.Moves.{discharged}
use Rattle.account.specs.Accounts.{Account}
use Rattle.account.specs.Faith.{Faithful}
use Rattle.account.specs.Moves.{Changed, about_in}
use Rattle.deeds.specs.Ranges.{InRange, AllInRange}

pub none_some : {A : Type 0} (x : A) → ◌≡◌ {A = Option A} None (Some x) → ⊥
none_some x e = let z : ◌≡◌ {A = ℕ} 0 1 = cc in omega arith

module _ (a : Account) (s : State) (rows : List MessageRow) (f : Faithful a s rows) where
  -- a place that holds an envelope is one of the spool's
  pub busy_within : (p : ℕ) (about : About) → about_in (standing_at s.standings p) ≡ Some about → p < length s.places
  busy_within p about e =
      elim (cases_lt p (length s.places)) [
        | inl l ↦ l
        | inr l ↦ absurd (none_some about (ap about_in (sym (f.unused p l)) ∙ e))
      ]

  -- and one of the table's
  pub in_table : (p : ℕ) → p < length s.places → p < 256
  in_table p h = omega (arith, f.few, h)

  pub put_standing : (p : ℕ) (st : Standing) → p < length s.places → with_standing s.standings p st ≡ set s.standings p st
  put_standing p st h = ap (λ b. cond b (set s.standings p st) s.standings) (lt-ltb p 256 (in_table p h))

pub same_place : (places : List (List ℕ)) (p : ℕ) → p < length places → places ≡ set places p (at p places)
same_place places p h = sym (set-get_or places p [])

pub clear_is : (places : List (List ℕ)) (p : ℕ) → p < length places → cleared p places ≡ set places p []
clear_is places p h = ap (λ b. cond b (set places p []) places) (lt-ltb p (length places) h)

pub store_is : (places : List (List ℕ)) (p : ℕ) (rec : List ℕ) → p < length places → storable (length rec) ≡ true → stored p rec places ≡ set places p rec
store_is places p rec h e = rw (lt-ltb p (length places) h, e) refl

-- what is read nowhere is in range
pub empty_in_range : InRange []
empty_in_range w e = let z : ◌≡◌ {A = ℕ} 0 1 = cc in absurd (omega arith)

-- one place holds something else that is in range
pub set_in_range : (places : List (List ℕ)) (p : ℕ) (rec : List ℕ) → p < length places → AllInRange places → InRange rec → AllInRange (set places p rec)
set_in_range places p rec h all r q =
    let go : (b : Bool) → eqb q p ≡ b → InRange (at q (set places p rec)) =
    elim [
      | true ↦ (λ e. subst InRange (sym (ap (λ k. at k (set places p rec)) (eqb-true q p e) ∙ get_or-set_same places p rec [] h)) r)
      | false ↦ (λ e. subst InRange (sym (get_or-set_other places p q rec [] (eqb-false q p e))) (all q))
    ]
    in go (eqb q p) refl

-- a change at one place keeps every time in range
pub changed_in_range : (p : ℕ) (st : Standing) (rec : List ℕ) (s s' : State) → Changed p st rec s s' → AllInRange s.places → InRange rec → AllInRange s'.places
changed_in_range p st rec s s' c all r = subst AllInRange (sym c.places) (set_in_range s.places p rec c.within all r)

-- a place that holds an envelope is emptied and freed
pub discharge_changes : (a : Account) (s : State) (rows : List MessageRow) (p : ℕ) → Faithful a s rows → p < length s.places → Changed p Free [] s (discharged s p)
discharge_changes a s rows p f h = record {
  time = refl;
  address = refl;
  within = h;
  standings = put_standing a s rows f p Free h;
  places = clear_is s.places p h;
}
