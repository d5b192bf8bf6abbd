-- What a sweep did was due at its place, and nothing is due at a lower one.
use Rattle.std.proofs.Common.{◌≡◌, ℕ, zero, suc, ◌+◌, ◌<◌, Bool, true, false, cond, leb, List, [], ◌∷◌, length, get_or, Some, None, Option, sym, refl, ap, ◌∙◌, subst, arith, lt-ltb}
use Rattle.envelope.specs.declared.parts.Kind.{Kind}
use Rattle.envelope.specs.declared.parts.Kind.TheVariants as kind
use Rattle.standing.specs.Standings.{standing_at}
use Rattle.searches.specs.Searches.{duty_at, duty_or, first_duty, ended}
use Rattle.searches.specs.declared.search.Duty.{Duty}
use Rattle.searches.specs.declared.search.Duty.TheVariants.{GiveUp}
use Rattle.searches.specs.declared.search.Task as search
use Rattle.standing.specs.declared.standing.About.{About}
use Rattle.standing.specs.declared.standing.Standing.{Standing}
use Rattle.standing.specs.declared.standing.Standing.TheVariants.{Free, Waiting, Out, Inbox, Notice}
use Rattle.relay.specs.States.{State}
use Rattle.ending.specs.declared.act.Task.{Task}
use Rattle.sweeping.specs.Sweeps.{chore, swept_by, swept_at, lowest_duty, LowestDue}

none_some : {A : Type 0} (x : A) → ◌≡◌ {A = Option A} None (Some x) → ⊥
none_some x e = let z : ◌≡◌ {A = ℕ} 0 1 = cc in omega arith

-- the first duty of the standings from place i on, and that none is before it
abbrev FirstDuty : ℕ → ℕ → List Standing → Option search.Task → Type 0
FirstDuty t i ss None = (k : ℕ) → k < length ss → duty_at t (get_or ss k Free) ≡ None
FirstDuty t i ss (Some task) =
    (p : ℕ) × (task.place ≡ i + p) × (p < length ss) × (duty_at t (get_or ss p Free) ≡ Some task.duty)
    × ((k : ℕ) → k < p → duty_at t (get_or ss k Free) ≡ None)

module _ (t i : ℕ) (s : Standing) (ss : List Standing) where
  none_before : duty_at t s ≡ None → (n : ℕ) → ((k : ℕ) → k < n → duty_at t (get_or ss k Free) ≡ None) → (k : ℕ) → k < suc n → duty_at t (get_or (s ∷ ss) k Free) ≡ None
  none_before e n h zero l = e
  none_before e n h (suc k) l = h k (omega arith)

  step : (o : Option Duty) (rest : Option search.Task) → duty_at t s ≡ o → FirstDuty t (i + 1) ss rest → FirstDuty t i (s ∷ ss) (duty_or i o rest)
  step (Some d) rest e h = (0, omega arith, omega arith, e, λ k l. absurd (omega arith))
  step None None e h = none_before e (length ss) h
  step None (Some task) e (p, is, within, here, before) = (suc p, omega (arith, is), omega (arith, within), here, none_before e p before)

first_duty_lem : (t i : ℕ) (ss : List Standing) → FirstDuty t i ss (first_duty t i ss)
first_duty_lem t i [] = λ k l. absurd (omega arith)
first_duty_lem t i (s ∷ ss) = step t i s ss (duty_at t s) (first_duty t (i + 1) ss) refl (first_duty_lem t (i + 1) ss)

-- a duty can be done where it was found
module _ (t : ℕ) (duty : Duty) where
  by_kind : (hop due failed : ℕ) (about : About) (k : Kind) → ended k ≡ duty → (task : Task) × (chore duty (Waiting hop due failed about) ≡ Some task)
  by_kind hop due failed about kind.Message e = subst (λ d. (task : Task) × (chore d (Waiting hop due failed about) ≡ Some task)) e (_, refl)
  by_kind hop due failed about kind.Status e = subst (λ d. (task : Task) × (chore d (Waiting hop due failed about) ≡ Some task)) e (_, refl)

  same_duty : (d : Duty) → ◌≡◌ {A = Option Duty} (Some d) (Some duty) → d ≡ duty
  same_duty d e = cc

  can : (st : Standing) → duty_at t st ≡ Some duty → (task : Task) × (chore duty st ≡ Some task)
  can Free e = absurd (none_some duty e)
  can (Waiting hop due failed about) e =
      let go : (b : Bool) → cond b (Some (ended about.kind)) None ≡ Some duty → ended about.kind ≡ duty =
      elim [ true ↦ (λ h. same_duty (ended about.kind) h) | false ↦ (λ h. absurd (none_some duty h)) ]
      in by_kind hop due failed about about.kind (go (leb about.end t) e)
  can (Out hop n since failed about) e =
      let go : (b : Bool) → cond b (Some GiveUp) None ≡ Some duty → GiveUp ≡ duty =
      elim [ true ↦ (λ h. same_duty GiveUp h) | false ↦ (λ h. absurd (none_some duty h)) ]
      in subst (λ d. (task : Task) × (chore d (Out hop n since failed about) ≡ Some task)) (go (leb (since + about.timeout) t) e) (_, refl)
  can (Inbox entered about) e = absurd (none_some duty e)
  can (Notice entered about) e = absurd (none_some duty e)

module _ (s : State) (table : length s.standings ≡ 256) where
  told : (o : Option search.Task) → FirstDuty s.time 0 s.standings o → LowestDue s.time s.standings (swept_at s o)
  told None h = h
  told (Some found) (p, is, within, here, before) =
      let e : found.place ≡ p = omega (arith, is) in
      let at_table : standing_at s.standings found.place ≡ get_or s.standings p Free =
      ap (λ b. cond b (get_or s.standings found.place Free) Free) (lt-ltb found.place 256 (omega (arith, table, within, e))) ∙ ap (λ k. get_or s.standings k Free) e in
      let c = can s.time found.duty (standing_at s.standings found.place) (ap (duty_at s.time) at_table ∙ here) in
      subst (λ o. LowestDue s.time s.standings (swept_by s found.place o)) (sym c.1)
      ((found.duty, subst (λ k. duty_at s.time (get_or s.standings k Free) ≡ Some found.duty) (sym e) here), λ k l. before k (omega (arith, e, l)))

  pub lowest : LowestDue s.time s.standings (swept_at s (lowest_duty s))
  lowest = told (lowest_duty s) (first_duty_lem s.time 0 s.standings)
