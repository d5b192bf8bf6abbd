-- What is done with the envelope at a place, as its answer tells it.
use Rattle.std.proofs.Common.{◌≡◌, ℕ, ◌<◌, Bool, true, false, cond, eqb, List, [], length, set, Some, sym, refl, ap, ◌∙◌, subst, inr, arith, eqb-true}
use Rattle.envelope.specs.Limits.{code_ok}
use Rattle.envelope.specs.declared.parts.Kind.{Kind}
use Rattle.envelope.specs.declared.parts.Kind.TheVariants as kind
use Rattle.message_rows.specs.declared.message.MessageRow.{MessageRow}
use Rattle.routing.specs.declared.row.Way.{Way}
use Rattle.routing.specs.declared.row.Way.TheVariants.{Local, Neighbour}
use Rattle.spool.specs.Meaning.{at}
use Rattle.standing.specs.Standings.{standing_at, with_standing, waiting_again}
use Rattle.standing.specs.declared.standing.About.{About}
use Rattle.standing.specs.declared.standing.Standing.{Standing}
use Rattle.standing.specs.declared.standing.Standing.TheVariants.{Free, Waiting, Out, Notice}
use Rattle.relay.specs.States.{State, holding}
use Rattle.relay.specs.Moves.{standing_on, settled, discharged}
use Rattle.ending.specs.Acts as acts
use Rattle.ending.specs.Retries.{due_again, one_more, waits_again}
use Rattle.ending.specs.Reports.{is_some, is_reported, with_report}
use Rattle.ending.specs.declared.act.Act.{Act}
use Rattle.ending.specs.declared.act.Act.TheVariants.{WaitAgain, PassOn, Report as report-act, DoubleFault}
use Rattle.ending.specs.declared.act.Done.TheVariants as done
use Rattle.account.specs.Accounts.{Account}
use Rattle.account.specs.Faith.{Faithful, Describes, Matches}
use Rattle.account.specs.Moves.{Changed, Cleared, about_in}
use Rattle.account.proofs.Known.{described}
use Rattle.deeds.specs.Told.{done_deed}
use Rattle.deeds.specs.Ranges.{AllInRange, Done}
use Rattle.deeds.proofs.Places.{busy_within, put_standing, same_place, store_is, changed_in_range, discharge_changes, empty_in_range}
use Rattle.deeds.proofs.Reports.{reportable}

-- what an act needs: only what is out waits again, only a message is reported, by a status's code, only a status is a double
-- fault
abbrev pub Suits : Standing → About → Act → Type 0
Suits st about (WaitAgain failed) = (hop : ℕ) × (number : ℕ) × (since : ℕ) × (st ≡ Out hop number since failed about)
Suits st about PassOn = Unit {0}
Suits st about (report-act code) = (about.kind ≡ kind.Message) × (code_ok 2 code ≡ true)
Suits st about DoubleFault = about.kind ≡ kind.Status

if_message : (v : Bool) → cond v kind.Message kind.Status ≡ kind.Message → v ≡ true
if_message true h = refl
if_message false h = let z : ◌≡◌ {A = ℕ} 0 1 = cc in absurd (omega arith)

module _ (a : Account) (s : State) (rows : List MessageRow) (f : Faithful a s rows) (range : AllInRange s.places) (p : ℕ) (about : About) (before : about_in (standing_at s.standings p) ≡ Some about) where
  within : p < length s.places
  within = busy_within a s rows f p about before

  known : Describes about (at p s.places)
  known = described (standing_at s.standings p) about (at p s.places) before (f.matched p within)

  clears : (k : Kind) → about.kind ≡ k → Cleared s (discharged s p) p k
  clears k e = ((about, before, e), discharge_changes a s rows p f within)

  cleared_range : AllInRange (discharged s p).places
  cleared_range = changed_in_range p Free [] s (discharged s p) (discharge_changes a s rows p f within) range empty_in_range

  -- it stands otherwise, and is the same envelope
  turns : (st : Standing) (s' : State) → about_in st ≡ Some about → s' ≡ holding s (set s.standings p st) s.places → Changed p st (at p s.places) s s'
  turns st s' e q = record {
    time = ap (λ (x : State). x.time) q;
    address = ap (λ (x : State). x.address) q;
    within = within;
    standings = ap (λ (x : State). x.standings) q;
    places = ap (λ (x : State). x.places) q ∙ same_place s.places p within;
  }

  turned_range : (st : Standing) (s' : State) → Changed p st (at p s.places) s s' → AllInRange s'.places
  turned_range st s' c = changed_in_range p st (at p s.places) s s' c range (range p)

  waits : (failed : ℕ) → Suits (standing_at s.standings p) about (WaitAgain failed) → Done (done_deed p (done.Waits (due_again s.time failed))) s (waits_again s p failed) rows rows
  waits failed (hop, number, since, is) =
      let st : Standing = Waiting hop (due_again s.time failed) (one_more failed) about in
      let e : waits_again s p failed ≡ holding s (set s.standings p st) s.places =
      ap (λ x. holding s (with_standing s.standings p (waiting_again (due_again s.time failed) (one_more failed) x)) s.places) is
      ∙ ap (λ x. holding s x s.places) (put_standing a s rows f p st within) in
      let c = turns st (waits_again s p failed) refl e in
      record {
        did = (record { st = st; about = about; before = before; after = refl; changed = c; stands = refl }, refl);
        in_range = turned_range st (waits_again s p failed) c;
      }

  passes_on : Done (done_deed p (done.PassedOn about.kind)) s (discharged s p) rows rows
  passes_on = record { did = (clears about.kind refl, refl); in_range = cleared_range }

  faults : about.kind ≡ kind.Status → (b : Bool) → about.notify ≡ b
      → Done (done_deed p (cond b done.Noticed (done.Dropped about.kind))) s (cond b (holding s (with_standing s.standings p (Notice s.time about)) s.places) (discharged s p)) rows rows
  faults k true e =
      let st : Standing = Notice s.time about in
      let s' = holding s (with_standing s.standings p st) s.places in
      let c = turns st s' refl (ap (λ x. holding s x s.places) (put_standing a s rows f p st within)) in
      record {
        did = (inr (p, (about, before, k), record { st = st; about = about; before = before; after = refl; changed = c; stands = refl }), refl);
        in_range = turned_range st s' c;
      }
  faults k false e = record { did = (k, (p, clears about.kind refl), refl); in_range = cleared_range }

  settles : (way : Way) (m : About) (rec : List ℕ) → Describes m rec → Matches (standing_on way s.time m) rec
  settles Local m rec d = d
  settles (Neighbour n) m rec d = d

  reports : (code : ℕ) → Suits (standing_at s.standings p) about (report-act code)
      → Done (done_deed p (acts.done_by s p about (report-act code))) s (acts.left_by s p about (report-act code)) rows rows
  reports code (k, c) =
      let w = known.0 in
      let w-kind : w.kind ≡ 1 = eqb-true w.kind 1 (if_message (eqb w.kind 1) (sym (ap (λ (x : About). x.kind) known.3) ∙ k)) in
      let r = reportable s.address code (at p s.places) w f.address c known.2 w-kind (range p) in
      let st : Standing = standing_on about.back s.time r.report.about in
      let s' = settled s p about.back r.report.about r.report.bytes in
      let change : Changed p st r.report.bytes s s' = record {
        time = refl;
        address = refl;
        within = within;
        standings = put_standing a s rows f p st within;
        places = store_is s.places p r.report.bytes within r.fits;
      } in
      let yes : is_reported s p code ≡ true = ap is_some r.is in
      let left : acts.left_by s p about (report-act code) ≡ s' = ap (with_report s p about.back) r.is in
      let told : acts.done_by s p about (report-act code) ≡ done.Reported code = ap (λ b. cond b (done.Reported code) (done.Dropped about.kind)) yes in
      subst (λ x. Done (done_deed p x) s (acts.left_by s p about (report-act code)) rows rows) (sym told)
      (subst (λ x. Done (done_deed p (done.Reported code)) s x rows rows) (sym left)
      (record {
        did = (record { st = st; rec = r.report.bytes; before = (about, before, k); changed = change; matched = settles about.back r.report.about r.report.bytes r.describes; status = r.status }, refl);
        in_range = changed_in_range p st r.report.bytes s s' change range r.in_range;
      }))

  pub performed_did : (act : Act) → Suits (standing_at s.standings p) about act → Done (done_deed p (acts.done_by s p about act)) s (acts.left_by s p about act) rows rows
  performed_did (WaitAgain failed) h = waits failed h
  performed_did PassOn h = passes_on
  performed_did (report-act code) h = reports code h
  performed_did DoubleFault h = faults h about.notify refl
