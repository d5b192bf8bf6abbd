-- What a collection and a notice did.
use Rattle.std.proofs.Common.{◌≡◌, ℕ, ◌<◌, Bool, true, false, cond, ◌&&◌, leb, List, [], length, get_or, take, drop, Some, None, Ok, Err, Option, Result, sym, refl, ap, ◌∙◌, subst, inl, arith, lt-ltb}
use Rattle.envelope.specs.declared.parts.Kind.{Kind}
use Rattle.envelope.specs.declared.parts.Kind.TheVariants as kind
use Rattle.message_rows.specs.declared.message.MessageRow.{MessageRow}
use Rattle.standing.specs.Standings.{standing_at}
use Rattle.standing.specs.declared.standing.About.{About}
use Rattle.standing.specs.declared.standing.Standing.{Standing}
use Rattle.standing.specs.declared.standing.Standing.TheVariants.{Free, Waiting, Out, Inbox, Notice}
use Rattle.relay.specs.States.{State}
use Rattle.account.specs.Accounts.{Account}
use Rattle.account.specs.Faith.{Faithful, Matches}
use Rattle.account.specs.Moves.{about_in}
use Rattle.deeds.specs.Ranges.{AllInRange, Done}
use Rattle.std.proofs.lemmas.List.{take_at}
use Rattle.spool.specs.Meaning.{at, copy_answer, copied, over_front}
use Rattle.spool.specs.declared.fault.SpoolFault.{SpoolFault}
use Rattle.spool.specs.declared.fault.SpoolFault.TheVariants.{NoPlace, ShortBuffer}
use Rattle.searches.specs.Earliest.{time_of, FirstOf, Wanted, Entry, Notified}
use Rattle.searches.specs.declared.search.Found.{Found}
use Rattle.searches.proofs.First.{first_of}
use Rattle.relay.specs.Moves.{discharged}
use Rattle.office.specs.Gifts.{kind_at, given_as, freed_if, taken_answer, taken_buffer, taken_state, oldest}
use Rattle.account.specs.Moves.{Cleared}
use Rattle.deeds.specs.Told.{collect_deed, notice_deed}
use Rattle.deeds.proofs.Places.{none_some, busy_within, discharge_changes, changed_in_range, empty_in_range}

-- the envelope at the place that a search for what is given finds
abbrev Gives : Wanted → Standing → Type 0
Gives w st = (about : About) × (about_in st ≡ Some about) × (kind_at st ≡ about.kind)

entry_gives : (time : ℕ) (st : Standing) → time_of Entry st ≡ Some time → Gives Entry st
entry_gives time Free e = absurd (none_some time e)
entry_gives time (Waiting hop due failed about) e = absurd (none_some time e)
entry_gives time (Out hop n since failed about) e = absurd (none_some time e)
entry_gives time (Inbox entered about) e = (about, refl, refl)
entry_gives time (Notice entered about) e = absurd (none_some time e)

notice_gives : (time : ℕ) (st : Standing) → time_of Notified st ≡ Some time → (entered : ℕ) × (about : About) × (st ≡ Notice entered about)
notice_gives time Free e = absurd (none_some time e)
notice_gives time (Waiting hop due failed about) e = absurd (none_some time e)
notice_gives time (Out hop n since failed about) e = absurd (none_some time e)
notice_gives time (Inbox entered about) e = absurd (none_some time e)
notice_gives time (Notice entered about) e = (entered, about, refl)

module _ (a : Account) (s : State) (rows : List MessageRow) (f : Faithful a s rows) (range : AllInRange s.places) (buf : List ℕ) where
  at_table : (p : ℕ) → p < length s.standings → standing_at s.standings p ≡ get_or s.standings p Free
  at_table p h = ap (λ b. cond b (get_or s.standings p Free) Free) (lt-ltb p 256 (omega (arith, f.table, h)))

  freed : (p : ℕ) (k : Kind) (g : Gives Entry (standing_at s.standings p)) → g.0.kind ≡ k → Cleared s (discharged s p) p k
  freed p k g e = ((g.0, g.1, e), discharge_changes a s rows p f (busy_within a s rows f p g.0 g.1))

  freed_range : (p : ℕ) → p < length s.places → AllInRange (discharged s p).places
  freed_range p h = changed_in_range p Free [] s (discharged s p) (discharge_changes a s rows p f h) range empty_in_range

  -- how a copy answers at a place of the spool
  module _ (p : ℕ) (h : p < length s.places) where
    fits : Bool
    fits = leb (length (at p s.places)) (length buf)

    copy_is : copy_answer p buf s.places ≡ cond (leb (length (at p s.places)) (length buf)) (Ok (length (at p s.places))) (Err ShortBuffer)
    copy_is = ap (λ b. cond {A = Result ℕ SpoolFault} b (cond (leb (length (at p s.places)) (length buf)) (Ok (length (at p s.places))) (Err ShortBuffer)) (Err NoPlace)) (lt-ltb p (length s.places) h)

    front_is : leb (length (at p s.places)) (length buf) ≡ true → take (length (at p s.places)) (copied p buf s.places) ≡ at p s.places
    front_is e =
        ap (λ b. take (length (at p s.places)) (cond b (over_front (at p s.places) buf) buf)) (λ i. lt-ltb p (length s.places) h i && e i)
        ∙ take_at (at p s.places) (drop (length (at p s.places)) buf) (length (at p s.places)) refl

  collects : (p : ℕ) → Gives Entry (standing_at s.standings p)
      → (b : Bool) → leb (length (at p s.places)) (length buf) ≡ b
      → (r : Result ℕ SpoolFault) → r ≡ cond b (Ok (length (at p s.places))) (Err ShortBuffer)
      → Done (collect_deed (given_as (kind_at (standing_at s.standings p)) r) (copied p buf s.places)) s (freed_if s p r) rows rows
  collects p g true e r q =
      let h = busy_within a s rows f p g.0 g.1 in
      subst (λ (x : Result ℕ SpoolFault). Done (collect_deed (given_as (kind_at (standing_at s.standings p)) x) (copied p buf s.places)) s (freed_if s p x) rows rows) (sym q)
      (record { did = ((p, front_is p h e, freed p (kind_at (standing_at s.standings p)) g (sym g.2)), refl); in_range = freed_range p h })
  collects p g false e r q =
      subst (λ (x : Result ℕ SpoolFault). Done (collect_deed (given_as (kind_at (standing_at s.standings p)) x) (copied p buf s.places)) s (freed_if s p x) rows rows) (sym q)
      (record { did = (inl refl, refl); in_range = range })

  collected_at : (o : Option Found) → FirstOf Entry s.standings o → Done (collect_deed (taken_answer s o buf) (taken_buffer s o buf)) s (taken_state s o buf) rows rows
  collected_at None h = record { did = (inl refl, refl); in_range = range }
  collected_at (Some found) h =
      let p = found.place in
      let g = entry_gives found.time (standing_at s.standings p) (ap (time_of Entry) (at_table p h.0.0) ∙ h.0.1) in
      collects p g (leb (length (at p s.places)) (length buf)) refl (copy_answer p buf s.places) (copy_is p (busy_within a s rows f p g.0 g.1))

  -- what the answer tells is what was done
  pub collect_did : Done (collect_deed (taken_answer s (oldest Entry s) buf) (taken_buffer s (oldest Entry s) buf)) s (taken_state s (oldest Entry s) buf) rows rows
  collect_did = collected_at (oldest Entry s) (first_of Entry s.standings (oldest Entry s) refl)

  notices : (p : ℕ) → (g : Gives Entry (standing_at s.standings p)) → g.0.kind ≡ kind.Status
      → (b : Bool) → (r : Result ℕ SpoolFault) → r ≡ cond b (Ok (length (at p s.places))) (Err ShortBuffer)
      → Done (notice_deed (given_as (kind_at (standing_at s.standings p)) r)) s (freed_if s p r) rows rows
  notices p g k true r q =
      let h = busy_within a s rows f p g.0 g.1 in
      subst (λ (x : Result ℕ SpoolFault). Done (notice_deed (given_as (kind_at (standing_at s.standings p)) x)) s (freed_if s p x) rows rows) (sym q)
      (record { did = (g.2 ∙ k, (p, freed p (kind_at (standing_at s.standings p)) g (sym g.2)), refl); in_range = freed_range p h })
  notices p g k false r q =
      subst (λ (x : Result ℕ SpoolFault). Done (notice_deed (given_as (kind_at (standing_at s.standings p)) x)) s (freed_if s p x) rows rows) (sym q)
      (record { did = (inl refl, refl); in_range = range })

  noticed_at : (o : Option Found) → FirstOf Notified s.standings o → Done (notice_deed (taken_answer s o buf)) s (taken_state s o buf) rows rows
  noticed_at None h = record { did = (inl refl, refl); in_range = range }
  noticed_at (Some found) h =
      let p = found.place in
      let n = notice_gives found.time (standing_at s.standings p) (ap (time_of Notified) (at_table p h.0.0) ∙ h.0.1) in
      let g : Gives Entry (standing_at s.standings p) = (n.1, ap about_in n.2, ap kind_at n.2) in
      let w = busy_within a s rows f p g.0 g.1 in
      let k : n.1.kind ≡ kind.Status = (subst (λ x. Matches x (at p s.places)) n.2 (f.matched p w)).1 in
      notices p g k (leb (length (at p s.places)) (length buf)) (copy_answer p buf s.places) (copy_is p w)

  pub notice_did : Done (notice_deed (taken_answer s (oldest Notified s) buf)) s (taken_state s (oldest Notified s) buf) rows rows
  notice_did = noticed_at (oldest Notified s) (first_of Notified s.standings (oldest Notified s) refl)
