-- Each step of an arrival at one ledger leaves what `Settled` says.
use Rattle.std.proofs.Common.{◌≡◌, ℕ, ◌<◌, min, Bool, true, false, cond, List, [], length, set, Some, None, Ok, Err, Option, Result, refl, ap, ◌∙◌, arith}
use Rattle.std.proofs.lemmas.List.{get_or-set_same, get_or-set_other}
use Rattle.std.proofs.lemmas.Bool.{lt-ltb, and_from, cond-true}
use Rattle.envelope.specs.Views.{Fields}
use Rattle.envelope_rows.specs.declared.kept.Kept.{Kept}
use Rattle.ledger.specs.Kinds.{Kind}
use Rattle.ledger.specs.Searches.{place_for}
use Rattle.ledger.specs.Changes.{rows_after_adding}
use Rattle.routing.specs.declared.row.Way.{Way}
use Rattle.routing.specs.declared.row.Way.TheVariants.{Local, Neighbour}
use Rattle.spool.specs.Meaning.{at, storable, stored}
use Rattle.standing.specs.declared.standing.About.{About}
use Rattle.relay.specs.States.{State}
use Rattle.arrival_checks.specs.declared.answer.Arrived.TheVariants.{Repeated}
use Rattle.arrival_checks.specs.declared.fault.ArrivalFault.{ArrivalFault}
use Rattle.arrival_checks.specs.declared.fault.ArrivalFault.TheVariants.{Different}
use Rattle.arrival_checks.specs.Repeats.{is_repeat, again_code}
use Rattle.intake.specs.Steps.{Taken, taken, go_on, unless_found}
use Rattle.intake.specs.TakingIn.{free_place, room_at, answer_for, taking_in}
use Rattle.relay.specs.Moves.{settled}
use Rattle.intake.specs.Promises.{StoredAt, Settled}
use Rattle.intake.proofs.Frees.{lowest_free}

module _ {R : Type 0} (bytes : List ℕ) (s : State) (rows : List R) where
  pub go_on_lem : {A : Type 0} (o : Result A ArrivalFault) (next : A → Taken R) → ((x : A) → Settled bytes s rows (next x)) → Settled bytes s rows (go_on s rows o next)
  go_on_lem (Ok x) next h = h x
  go_on_lem (Err fault) next h = (refl, refl)

  again : (b : Bool) (code : ℕ) → Settled bytes s rows (taken (cond b (Ok (Repeated code)) (Err Different)) s rows)
  again true code = (refl, refl)
  again false code = (refl, refl)

  pub unless_found_lem : (o : Option R) (kept : R → Kept) (f : Fields) (next : Taken R) → Settled bytes s rows next → Settled bytes s rows (unless_found s rows o kept f next)
  unless_found_lem (Some row) kept f next h = again (is_repeat (kept row) f) (again_code (kept row).first)
  unless_found_lem None kept f next h = h

module _ (bytes : List ℕ) (s : State) (takes : storable (length bytes) ≡ true) where
  stored_at : (place : ℕ) (on : Way) (about : About) → free_place s ≡ Some place → StoredAt bytes s (settled s place on about bytes) place
  stored_at place on about e =
      let l = lowest_free (min (length s.places) 256) place s.standings e in
      let w : place < length s.places = let y = l.0 in omega arith in
      let here : stored place bytes s.places ≡ set s.places place bytes = cond-true _ _ _ (and_from _ _ (lt-ltb place (length s.places) w) takes) in
      record {
        was_free = l.1.0;
        lowest = l.1.1;
        within = w;
        holds = ap (at place) here ∙ get_or-set_same s.places place bytes [] w;
        others = λ p n. ap (at p) here ∙ get_or-set_other s.places place p bytes [] n;
      }

  module _ {R : Type 0} (rows after : List R) (on : Way) (about : About) where
    by_way : (w : Way) (place : ℕ) → free_place s ≡ Some place → Settled bytes s rows (taken (Ok (answer_for w place)) (settled s place on about bytes) after)
    by_way Local place e = stored_at place on about e
    by_way (Neighbour n) place e = stored_at place on about e

    by_room : (row place : Option ℕ) → free_place s ≡ place → Settled bytes s rows (go_on s rows (room_at row place) (λ p. taken (Ok (answer_for on p)) (settled s p on about bytes) after))
    by_room None place e = (refl, refl)
    by_room (Some row) None e = (refl, refl)
    by_room (Some row) (Some place) e = by_way on place e

  pub taken_in : {R K : Type 0} (m : Kind R K) (row : R) (on : Way) (about : About) (rows : List R) → Settled bytes s rows (taking_in m s row on about bytes rows)
  unfolding taking_in
  taken_in m row on about rows = by_room rows (rows_after_adding m s.time row rows) on about (place_for m s.time (m.key row) rows) (free_place s) refl
