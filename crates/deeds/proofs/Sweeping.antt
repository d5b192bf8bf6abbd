-- What a sweep did.
use Rattle.std.proofs.Common.{◌≡◌, ℕ, suc, ◌+◌, ◌<◌, Bool, true, false, cond, leb, List, [], ◌∷◌, length, get_or, Some, None, Option, sym, refl, ap, ◌∙◌, subst, inl, arith, lt-ltb}
use Rattle.envelope.specs.declared.parts.Kind.{Kind}
use Rattle.envelope.specs.declared.parts.Kind.TheVariants as kind
use Rattle.message_rows.specs.declared.message.MessageRow.{MessageRow}
use Rattle.standing.specs.Standings.{standing_at}
use Rattle.standing.specs.declared.standing.About.{About}
use Rattle.standing.specs.declared.standing.Standing.{Standing}
use Rattle.standing.specs.declared.standing.Standing.TheVariants.{Free, Waiting, Out, Inbox, Notice}
use Rattle.relay.specs.States.{State}
use Rattle.account.specs.Accounts.{Account}
use Rattle.account.specs.Faith.{Faithful}
use Rattle.account.specs.Moves.{about_in}
use Rattle.deeds.specs.Ranges.{AllInRange, Done}
use Rattle.ending.specs.declared.act.Act.TheVariants.{WaitAgain, Report, DoubleFault}
use Rattle.ending.specs.declared.act.Task.{Task}
use Rattle.searches.specs.Searches.{duty_at, first_duty, duty_or, ended}
use Rattle.searches.specs.declared.search.Duty.{Duty}
use Rattle.searches.specs.declared.search.Duty.TheVariants.{GiveUp, Expire, EndStatus}
use Rattle.searches.specs.declared.search.Task as search
use Rattle.sweeping.specs.Sweeps as sweeps
use Rattle.deeds.specs.Told.{sweep_deed}
use Rattle.deeds.proofs.Places.{none_some}
use Rattle.deeds.proofs.Performing.{performed_did}

-- the place that a duty was found at
pub record FoundAt (t i : ℕ) (ss : List Standing) (task : search.Task) : Type 0 where
  pub k : ℕ
  pub is : task.place ≡ i + k
  pub within : k < length ss
  pub duty : duty_at t (get_or ss k Free) ≡ Some task.duty

found_duty : (t i : ℕ) (ss : List Standing) (task : search.Task) → first_duty t i ss ≡ Some task → FoundAt t i ss task
found_duty t i [] task e = absurd (none_some task e)
found_duty t i (s ∷ ss) task e =
    let go : (o : Option Duty) → duty_at t s ≡ o → duty_or i o (first_duty t (i + 1) ss) ≡ Some task → FoundAt t i (s ∷ ss) task =
    elim [
      | Some d ↦ (λ q h. let same : task ≡ record { place = i; duty = d } = cc in
          record { k = 0; is = ap (λ (x : search.Task). x.place) same ∙ omega arith; within = omega arith; duty = q ∙ ap (λ (x : search.Task). Some x.duty) (sym same) })
      | None ↦ (λ q h. let r = found_duty t (i + 1) ss task h in
          record { k = suc r.k; is = omega (arith, r.is); within = omega (arith, r.within); duty = r.duty })
    ]
    in go (duty_at t s) refl e

module _ (a : Account) (s : State) (rows : List MessageRow) (f : Faithful a s rows) (range : AllInRange s.places) where
  still : Done (sweep_deed None) s s rows rows
  still = record { did = (inl refl, refl); in_range = range }

  abbrev Did : ℕ → Option Task → Type 0
  Did p t = Done (sweep_deed (sweeps.swept_by s p t)) s (sweeps.left_by s p t) rows rows

  -- what a waiting envelope that is no longer live is due for
  over : (p hop due failed : ℕ) (about : About) (duty : Duty) (k : Kind) → about.kind ≡ k → standing_at s.standings p ≡ Waiting hop due failed about → ended k ≡ duty
      → Did p (sweeps.chore duty (Waiting hop due failed about))
  over p hop due failed about GiveUp k e q h = still
  over p hop due failed about Expire kind.Message e q h = performed_did a s rows f range p about (ap about_in q) (Report 405) (e, refl)
  over p hop due failed about Expire kind.Status e q h = let z : ◌≡◌ {A = ℕ} 0 1 = cc in absurd (omega arith)
  over p hop due failed about EndStatus kind.Message e q h = let z : ◌≡◌ {A = ℕ} 0 1 = cc in absurd (omega arith)
  over p hop due failed about EndStatus kind.Status e q h = performed_did a s rows f range p about (ap about_in q) DoubleFault e

  given_up : (p hop number since failed : ℕ) (about : About) (duty : Duty) → standing_at s.standings p ≡ Out hop number since failed about
      → Did p (sweeps.chore duty (Out hop number since failed about))
  given_up p hop number since failed about GiveUp q = performed_did a s rows f range p about (ap about_in q) (WaitAgain failed) (hop, number, since, q)
  given_up p hop number since failed about Expire q = still
  given_up p hop number since failed about EndStatus q = still

  same_some : (x y : Duty) → ◌≡◌ {A = Option Duty} (Some x) (Some y) → x ≡ y
  same_some x y e = cc

  at_standing : (p : ℕ) (duty : Duty) (st : Standing) → standing_at s.standings p ≡ st → duty_at s.time st ≡ Some duty → Did p (sweeps.chore duty st)
  at_standing p duty Free q d = absurd (none_some duty d)
  at_standing p duty (Waiting hop due failed about) q d =
      let go : (b : Bool) → cond b (Some (ended about.kind)) None ≡ Some duty → ended about.kind ≡ duty =
      elim [ true ↦ (λ h. same_some (ended about.kind) duty h) | false ↦ (λ h. absurd (none_some duty h)) ]
      in over p hop due failed about duty about.kind refl q (go (leb about.end s.time) d)
  at_standing p duty (Out hop n since failed about) q d = given_up p hop n since failed about duty q
  at_standing p duty (Inbox entered about) q d = absurd (none_some duty d)
  at_standing p duty (Notice entered about) q d = absurd (none_some duty d)

  swept : (o : Option search.Task) → first_duty s.time 0 s.standings ≡ o → Done (sweep_deed (sweeps.swept_at s o)) s (sweeps.left_at s o) rows rows
  swept None e = still
  swept (Some task) e =
      let r = found_duty s.time 0 s.standings task e in
      let k : r.k ≡ task.place = omega (arith, r.is) in
      let lt : task.place < 256 = omega (arith, f.table, r.within, k) in
      let at_table : standing_at s.standings task.place ≡ get_or s.standings task.place Free =
      ap (λ b. cond b (get_or s.standings task.place Free) Free) (lt-ltb task.place 256 lt) in
      at_standing task.place task.duty (standing_at s.standings task.place) refl
      (ap (duty_at s.time) at_table ∙ (subst (λ i. duty_at s.time (get_or s.standings i Free) ≡ Some task.duty) k r.duty))

  -- what the answer tells is what was done
  pub sweep_did : Done (sweep_deed (sweeps.swept_at s (sweeps.lowest_duty s))) s (sweeps.left_at s (sweeps.lowest_duty s)) rows rows
  sweep_did = swept (sweeps.lowest_duty s) refl
