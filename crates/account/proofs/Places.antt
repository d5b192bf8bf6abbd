-- A relay like another in all but one place.
use Rattle.std.proofs.Common.{◌≡◌, ℕ, ◌+◌, ◌<◌, ◌≤◌, Bool, true, false, cond, eqb, ltb, List, [], length, get_or, set, sym, refl, ap, ◌∙◌, subst, inl, inr, arith, length-set, get_or-set_other, get_or-set_same, lt-ltb, eqb-true}
use borrow.Author.Tests.{eqb-false}
use Rattle.message_rows.specs.declared.message.MessageRow.{MessageRow}
use Rattle.spool.specs.Meaning.{at}
use Rattle.standing.specs.Standings.{standing_at}
use Rattle.standing.specs.declared.standing.Standing.{Standing}
use Rattle.standing.specs.declared.standing.Standing.TheVariants.{Free}
use Rattle.relay.specs.States.{State}
use Rattle.account.specs.Records.{is_status, end_in}
use Rattle.account.specs.Accounts.{Booked}
use Rattle.account.specs.Laws.{whereabouts, one, statuses_in}
use Rattle.account.specs.Faith.{Matches, Listed, Sound}
use Rattle.account.specs.Moves.{Changed}
use Rattle.account.proofs.Balances.{statuses_after_set}

-- place p stands as st now and holds rec, and all else is as it was
pub record AllBut (p : ℕ) (st : Standing) (rec : List ℕ) (s s' : State) : Type 0 where
  pub time : s'.time ≡ s.time
  pub address : s'.address ≡ s.address
  pub within : p < length s.places
  pub table : length s'.standings ≡ length s.standings
  pub size : length s'.places ≡ length s.places
  pub bytes : at p s'.places ≡ rec
  pub stands : standing_at s'.standings p ≡ st
  pub other_bytes : (q : ℕ) → (q ≡ p → ⊥) → at q s'.places ≡ at q s.places
  pub other_stands : (q : ℕ) → (q ≡ p → ⊥) → standing_at s'.standings q ≡ standing_at s.standings q
  pub statuses : statuses_in s'.places + one (is_status (at p s.places)) ≡ statuses_in s.places + one (is_status rec)

-- in a table of n standings
module _ (n : ℕ) where
  stands_there : (ss : List Standing) (p : ℕ) (st : Standing) → length ss ≡ n → p < n → cond (ltb p n) (get_or (set ss p st) p Free) Free ≡ st
  stands_there ss p st e lt = ap (λ v. cond v (get_or (set ss p st) p Free) Free) (lt-ltb p n lt) ∙ get_or-set_same ss p st Free (omega (arith, e, lt))

  stands_elsewhere : (ss : List Standing) (p q : ℕ) (st : Standing) → (q ≡ p → ⊥)
      → cond (ltb q n) (get_or (set ss p st) q Free) Free ≡ cond (ltb q n) (get_or ss q Free) Free
  stands_elsewhere ss p q st ne = ap (λ x. cond (ltb q n) x Free) (get_or-set_other ss p q st Free ne)

pub all_but : (p : ℕ) (st : Standing) (rec : List ℕ) (s s' : State) → Changed p st rec s s' → length s.standings ≡ 256 → length s.places ≤ 256
    → AllBut p st rec s s'
all_but p st rec s s' c table few =
    record {
      time = c.time;
      address = c.address;
      within = c.within;
      table = ap length c.standings ∙ length-set s.standings p st;
      size = ap length c.places ∙ length-set s.places p rec;
      bytes = ap (at p) c.places ∙ get_or-set_same s.places p rec [] c.within;
      stands = ap (λ ss. standing_at ss p) c.standings ∙ stands_there 256 s.standings p st table (omega (arith, c.within, few));
      other_bytes = λ q ne. ap (at q) c.places ∙ get_or-set_other s.places p q rec [] ne;
      other_stands = λ q ne. ap (λ ss. standing_at ss q) c.standings ∙ stands_elsewhere 256 s.standings p q st ne;
      statuses = ap (λ ps. statuses_in ps + one (is_status (at p s.places))) c.places ∙ statuses_after_set s.places p rec c.within;
    }

module _ (p : ℕ) (st : Standing) (rec : List ℕ) (s s' : State) (but : AllBut p st rec s s') where
  pub unused_still : ((q : ℕ) → length s.places ≤ q → standing_at s.standings q ≡ Free)
      → (q : ℕ) → length s'.places ≤ q → standing_at s'.standings q ≡ Free
  unused_still h q le =
      let past : length s.places ≤ q = subst (λ n. n ≤ q) but.size le in
      but.other_stands q (λ e. omega (arith, e, past, but.within)) ∙ h q past

  pub matched_still : Matches st rec → ((q : ℕ) → q < length s.places → Matches (standing_at s.standings q) (at q s.places))
      → (q : ℕ) → q < length s'.places → Matches (standing_at s'.standings q) (at q s'.places)
  matched_still m h q lt =
      let go : (v : Bool) → eqb q p ≡ v → Matches (standing_at s'.standings q) (at q s'.places) =
      elim [
        | true ↦ (λ e. subst (λ k. Matches (standing_at s'.standings k) (at k s'.places)) (sym (eqb-true q p e))
            (subst (λ x. Matches x (at p s'.places)) (sym but.stands) (subst (λ x. Matches st x) (sym but.bytes) m)))
        | false ↦ (λ e. let ne = eqb-false q p e in
            subst (λ x. Matches x (at q s'.places)) (sym (but.other_stands q ne))
            (subst (λ x. Matches (standing_at s.standings q) x) (sym (but.other_bytes q ne)) (h q (subst (λ n. q < n) but.size lt))))
      ]
      in go (eqb q p) refl

  -- what is booked elsewhere, or has ended, is as sound as it was
  pub sound_elsewhere : (rows rows' : List MessageRow) (b : Booked) → (b.ends ≡ 0 → b.place ≡ p → ⊥)
      → (s.time < end_in b.rec → Listed rows b.rec → Listed rows' b.rec) → Sound s rows b → Sound s' rows' b
  sound_elsewhere rows rows' b away listed h =
      record {
        accounted = elim h.accounted [
          | inl e ↦ inl e
          | inr x ↦ inr (
            x.0,
            subst (λ n. b.place < n) (sym but.size) x.1,
            but.other_bytes b.place (away x.0) ∙ x.2,
            ap whereabouts (but.other_stands b.place (away x.0)) ∙ x.3,
          )
        ];
        message = h.message;
        lived = h.lived;
        listed = λ lt. let live : s.time < end_in b.rec = subst (λ t. t < end_in b.rec) but.time lt in listed live (h.listed live);
      }
