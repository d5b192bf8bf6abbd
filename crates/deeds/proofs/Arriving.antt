-- What an arrival did.
use Rattle.std.proofs.Common.{◌≡◌, ℕ, suc, ◌+◌, ◌-◌, ◌<◌, min, true, false, cond, eqb, List, [], ◌∷◌, length, get_or, take, Some, None, Ok, Err, Option, Result, sym, refl, ap, ◌∙◌, subst, inl, inr, arith, length-take, lt-ltb}
use Rattle.std.proofs.lemmas.Option.{slice_get-get_or}
use Rattle.std.proofs.lemmas.List.{get_or-take}
use Rattle.std.proofs.lemmas.Bool.{le-leb, and_from}
use Rattle.std.proofs.lemmas.Bool.Decides.{nat_tests}
use Rattle.text.specs.Said.{Said}
use Rattle.envelope.specs.Views.{Whole, Fields, whole}
use Rattle.envelope.specs.Life.{end_of}
use Rattle.envelope.specs.Decoding.{decode}
use Rattle.envelope_reading.proofs.Laws.{laws}
use Rattle.ledger.specs.Searches.{found, place_for, row_at}
use Rattle.ledger.specs.Changes.{rows_after_adding}
use Rattle.short_text.specs.ShortTexts.{keeping}
use Rattle.short_text.proofs.Held.{holds}
use Rattle.envelope_rows.specs.Kepts.{kept_ok}
use Rattle.message_rows.specs.Messages.{messages, message_key, message_key_of, same_message, freed_message}
use Rattle.status_rows.specs.Statuses.{statuses, status_key_of}
use Rattle.envelope_rows.specs.declared.kept.Kept.{Kept}
use Rattle.message_rows.specs.declared.message.MessageKey.{MessageKey}
use Rattle.message_rows.specs.declared.message.MessageRow.{MessageRow}
use Rattle.status_rows.specs.declared.status.StatusKey.{StatusKey}
use Rattle.status_rows.specs.declared.status.StatusRow.{StatusRow}
use Rattle.routing.specs.declared.row.Way.{Way}
use Rattle.routing.specs.declared.row.Way.TheVariants.{Local, Neighbour}
use Rattle.routing.specs.declared.row.RouteRow.{RouteRow}
use Rattle.spool.specs.Meaning.{storable}
use Rattle.standing.specs.Standings.{standing_at}
use Rattle.standing.specs.Frees.{first_free, free_or}
use Rattle.standing.specs.declared.standing.About.{About}
use Rattle.standing.specs.declared.standing.Standing.{Standing}
use Rattle.standing.specs.declared.standing.Standing.TheVariants as standing
use Rattle.relay.specs.States.{State}
use Rattle.relay.specs.Abouts.{about_of}
use Rattle.arrival_checks.specs.declared.answer.Arrived.{Arrived}
use Rattle.arrival_checks.specs.declared.answer.Arrived.TheVariants.{Repeated, Unwanted}
use Rattle.arrival_checks.specs.declared.fault.ArrivalFault.{ArrivalFault}
use Rattle.arrival_checks.specs.declared.fault.ArrivalFault.TheVariants.{Different}
use Rattle.arrival_checks.specs.declared.ways.Ways.{Ways}
use Rattle.arrival_checks.specs.Repeats.{kept_of, answered_again, is_repeat, again_code}
use Rattle.arrival_checks.specs.Ways.{message_ways, status_ways}
use Rattle.arrival_checks.specs.Keys.{or_no_row}
use Rattle.intake.specs.TakingIn.{free_place, room_at, answer_for, taking_in}
use Rattle.relay.specs.Moves.{standing_on, settled}
use Rattle.intake.specs.Steps.{Taken, taken, go_on, unless_found}
use Rattle.message_rows.specs.Messages.{message_row_of}
use Rattle.message_arrival.specs.Messages.{message_taken}
use Rattle.status_rows.specs.Statuses.{status_row_of}
use Rattle.status_arrival.specs.Statuses.{is_unwanted, wanted_taken, status_taken}
use Rattle.account.specs.Accounts.{Account}
use Rattle.account.specs.Records.{is_message, is_status, end_in, end_read, kind_read}
use Rattle.account.specs.Faith.{Faithful, Describes, Matches, Answers}
use Rattle.account.specs.Moves.{TookIn, Changed}
use Rattle.account.specs.Laws.{whereabouts}
use Rattle.account.specs.Deeds.{Whereabouts}
use Rattle.account.specs.Deeds.Whereabouts.{waiting, inbox}
use Rattle.account.proofs.Known.{status_no_message}
use Rattle.account.proofs.Lists.{true_false}
use Rattle.account.proofs.Ledgers.{key_read, message_alike, found_within}
use Rattle.deeds.specs.Told.{arrival_deed}
use Rattle.deeds.specs.Ranges.{InRange, AllInRange, Done}
use Rattle.deeds.proofs.Places.{none_some, put_standing, store_is, changed_in_range}

-- the lowest free place is free
pub record FreeAt (i : ℕ) (ss : List Standing) (p : ℕ) : Type 0 where
  pub k : ℕ
  pub is : p ≡ i + k
  pub within : k < length ss
  pub free : get_or ss k standing.Free ≡ standing.Free

same_place : (i p : ℕ) → ◌≡◌ {A = Option ℕ} (Some i) (Some p) → p ≡ i
same_place i p e = cc

free_first : (i p : ℕ) (ss : List Standing) → first_free i ss ≡ Some p → FreeAt i ss p
free_first i p [] e = absurd (none_some p e)
free_first i p (s ∷ ss) e =
    let later : first_free (i + 1) ss ≡ Some p → FreeAt i (s ∷ ss) p =
    λ h. let r = free_first (i + 1) p ss h in record { k = suc r.k; is = omega (arith, r.is); within = omega (arith, r.within); free = r.free } in
    let go : (x : Standing) → s ≡ x → free_or i x (first_free (i + 1) ss) ≡ Some p → FreeAt i (s ∷ ss) p =
    elim [
      | standing.Free ↦ (λ q h. record { k = 0; is = same_place i p h ∙ omega arith; within = omega arith; free = q })
      | standing.Waiting hop due failed about ↦ (λ q h. later h)
      | standing.Out hop number since failed about ↦ (λ q h. later h)
      | standing.Inbox entered about ↦ (λ q h. later h)
      | standing.Notice entered about ↦ (λ q h. later h)
    ]
    in go s refl e

module _ (a : Account) (s : State) (rows : List MessageRow) (f : Faithful a s rows) (range : AllInRange s.places) (rec : List ℕ) (w : Whole) (e : ◌≡◌ {A = Result Whole Said} (decode rec) (Ok w)) (short : InRange rec) where
  pub free_place_lem : (p : ℕ) → free_place s ≡ Some p → (p < length s.places) × (standing_at s.standings p ≡ standing.Free)
  free_place_lem p h =
      let r = free_first 0 p (take (min (length s.places) 256) s.standings) h in
      let k : r.k ≡ p = omega (arith, r.is) in
      let few = f.few in
      let tab = f.table in
      let n = length-take (min (length s.places) 256) s.standings in
      let lt : r.k < min (length s.places) 256 = let q = r.within in omega arith in
      let free : get_or s.standings r.k standing.Free ≡ standing.Free = sym (get_or-take (min (length s.places) 256) s.standings r.k standing.Free lt) ∙ r.free in
      let at_table : standing_at s.standings p ≡ get_or s.standings p standing.Free = ap (λ b. cond b (get_or s.standings p standing.Free) standing.Free) (lt-ltb p 256 (omega arith)) in
      (omega arith, at_table ∙ subst (λ i. get_or s.standings i standing.Free ≡ standing.Free) k free)

  still : Done (arrival_deed {E = ArrivalFault} rec (Ok Unwanted)) s s rows rows
  still = record { did = (inl refl, refl); in_range = range }

  storable_record : storable (length rec) ≡ true
  storable_record =
      let l = (laws rec w e).placed.sized in
      and_from _ _ (le-leb 1 (length rec) (let x = l.least in omega arith)) (le-leb (length rec) 2048 l.most)

  matches : (on : Way) (about : About) → Describes about rec → Matches (standing_on on s.time about) rec
  matches Local about d = d
  matches (Neighbour n) about d = d

  abbrev on_way : Way → Whereabouts
  on_way Local = inbox
  on_way (Neighbour n) = waiting

  stands : (on : Way) (about : About) → whereabouts (standing_on on s.time about) ≡ Some (on_way on)
  stands Local about = refl
  stands (Neighbour n) about = refl

  -- what is taken in at a free place
  module _ (on : Way) (about : About) (d : Describes about rec) (live : s.time < end_in rec) (p : ℕ) (h : free_place s ≡ Some p) where
    changed : Changed p (standing_on on s.time about) rec s (settled s p on about rec)
    changed =
        let l = (free_place_lem p h).0 in
        record {
          time = refl;
          address = refl;
          within = l;
          standings = put_standing a s rows f p (standing_on on s.time about) l;
          places = store_is s.places p rec l storable_record;
        }

    pub ranged : AllInRange (settled s p on about rec).places
    ranged = changed_in_range p (standing_on on s.time about) rec s (settled s p on about rec) changed range short

    pub took_status : is_status rec ≡ true → TookIn s (settled s p on about rec) rows rows rec p (on_way on)
    took_status k = record {
      st = standing_on on s.time about;
      free = (free_place_lem p h).1;
      changed = changed;
      matched = matches on about d;
      stands = stands on about;
      live = live;
      status = inr (k, refl);
      message = λ m. absurd (true_false (is_message rec) m (status_no_message rec k));
    }

    pub took_message : is_message rec ≡ true → (row : MessageRow) → (key : MessageKey) → message_key_of w.fields.fr.bytes w.fields.on.bytes ≡ Some key
        → found messages s.time key rows ≡ None → (j : ℕ) → place_for messages s.time key rows ≡ Some j → message_key row ≡ key → Answers row rec
        → TookIn s (settled s p on about rec) rows (rows_after_adding messages s.time row rows) rec p (on_way on)
    took_message m row key k n j r q ans = record {
      st = standing_on on s.time about;
      free = (free_place_lem p h).1;
      changed = changed;
      matched = matches on about d;
      stands = stands on about;
      live = live;
      status = inl m;
      message = λ _. (w, key, row, e, k, n, (j, r), q, ans, refl);
    }

  -- the deed of what is taken in follows from its way
  deed_on : {rows' : List MessageRow} (on : Way) (p : ℕ) (s' : State) → TookIn s s' rows rows' rec p (on_way on) → AllInRange s'.places
      → Done (arrival_deed {E = ArrivalFault} rec (Ok (answer_for on p))) s s' rows rows'
  deed_on Local p s' t r = record { did = t; in_range = r }
  deed_on (Neighbour n) p s' t r = record { did = t; in_range = r }

  again : (kept : Kept) (f : Fields) → Done (arrival_deed rec (answered_again kept f)) s s rows rows
  again kept f = elim (is_repeat kept f) as (λ b. Done (arrival_deed rec (cond {A = Result Arrived ArrivalFault} b (Ok (Repeated (again_code kept.first))) (Err Different))) s s rows rows) [ true ↦ still | false ↦ still ]

  -- a message
  module _ (m : w.kind ≡ 1) (live : s.time < end_of w) where
    ends_is : end_in rec ≡ end_of w
    ends_is = ap end_read e

    is_message_lem : is_message rec ≡ true
    is_message_lem = ap (λ r. eqb (kind_read r) 1) e ∙ ap (λ k. eqb k 1) m

    abbrev its_key : MessageKey
    its_key = record { fr = keeping w.fields.fr.bytes; on = keeping w.fields.on.bytes }

    kept_ok_lem : (on : Way) → kept_ok (kept_of w.fields on) ≡ true
    kept_ok_lem Local = let l = (laws rec w e).lawful in let x = l.to_least in let y = l.to_most in let z = l.to_before in grind (arith, nat_tests)
    kept_ok_lem (Neighbour n) = let l = (laws rec w e).lawful in let x = l.to_least in let y = l.to_most in let z = l.to_before in grind (arith, nat_tests)

    same_read : (v : Whole) (r : Result Whole Said) → r ≡ Ok w → r ≡ Ok v → w ≡ v
    same_read v r p q = cc

    same_key : (x y : MessageKey) (o : Option MessageKey) → o ≡ Some x → o ≡ Some y → x ≡ y
    same_key x y o p q = cc

    answers : (on : Way) → Answers (message_row_of its_key (kept_of w.fields on)) rec
    answers on =
        let l = (laws rec w e).lawful in
        let fr = holds w.fields.fr.bytes (le-leb (length w.fields.fr.bytes) 64 l.fr_most) in
        let on_text = holds w.fields.on.bytes (le-leb (length w.fields.on.bytes) 64 (let x = l.on_length in omega arith)) in
        record {
          filled = and_from _ _ (fr.address ∙ l.fr) (and_from _ _ (on_text.operation_number ∙ l.on) (kept_ok_lem on));
          ends = sym (ends_is ∙ ap (λ k. cond (eqb k 1) (w.fields.todt - w.fields.to) (w.fields.todt + 604800)) m);
          key = λ v k d q.
              let vw : w ≡ v = same_read v (decode rec) e d in
              let kk : its_key ≡ k = same_key its_key k (message_key_of v.fields.fr.bytes v.fields.on.bytes) (ap (λ (x : Whole). message_key_of x.fields.fr.bytes x.fields.on.bytes) (sym vw) ∙ key_read rec w e) q in
              subst (λ x. same_message its_key x ≡ true) kk (message_alike.reflexive its_key);
        }

    abbrev its_about : Way → About
    its_about back = about_of (whole 1 0 w.fields) back

    describes : (back : Way) → Describes (its_about back) rec
    describes back = (w, back, e, sym (ap (λ k. about_of (whole k w.code w.fields) back) m))

    abbrev Did : Taken MessageRow → Type 0
    Did t = Done (arrival_deed rec t.answer) s t.state rows t.rows

    room : (on back : Way) → found messages s.time its_key rows ≡ None → (j p : Option ℕ) → place_for messages s.time its_key rows ≡ j → free_place s ≡ p
        → Did (go_on s rows (room_at j p) (λ place. taken (Ok (answer_for on place)) (settled s place on (its_about back) rec) (rows_after_adding messages s.time (message_row_of its_key (kept_of w.fields on)) rows)))
    room on back n None p q h = still
    room on back n (Some j) None q h = still
    room on back n (Some j) (Some p) q h =
        let lv : s.time < end_in rec = subst (λ x. s.time < x) (sym ends_is) live in
        deed_on on p (settled s p on (its_about back) rec)
        (took_message on (its_about back) (describes back) lv p h is_message_lem (message_row_of its_key (kept_of w.fields on)) its_key (key_read rec w e) n j q refl (answers on))
        (ranged on (its_about back) (describes back) lv p h)

    ways : found messages s.time its_key rows ≡ None → (r : Result Ways ArrivalFault)
        → Did (go_on s rows r (λ ways. taking_in messages s (message_row_of its_key (kept_of w.fields ways.on)) ways.on (its_about ways.back) rec rows))
    unfolding taking_in
    ways n (Err fault) = still
    ways n (Ok both) = room both.on both.back n (place_for messages s.time its_key rows) (free_place s) refl refl

    known : (o : Option ℕ) → found messages s.time its_key rows ≡ o → (next : Taken MessageRow) → (found messages s.time its_key rows ≡ None → Did next)
        → Did (unless_found s rows (row_at o rows) (λ (row : MessageRow). row.kept) w.fields next)
    known None q next h = h q
    known (Some i) q next h =
        let g = found_within s.time its_key rows i q in
        subst (λ r. Did (unless_found s rows r (λ (row : MessageRow). row.kept) w.fields next)) (sym (slice_get-get_or rows i freed_message g)) (again _ w.fields)

    pub message_did : (neighbour : ℕ) (routes : List RouteRow) → Did (message_taken s neighbour w.fields rec routes rows)
    unfolding message_taken
    message_did neighbour routes =
        subst (λ o. Did (go_on s rows (or_no_row o) (λ key.
        unless_found s rows (row_at (found messages s.time key rows) rows) (λ (row : MessageRow). row.kept) w.fields (
        go_on s rows (message_ways routes neighbour w.fields) (λ ways.
        taking_in messages s (message_row_of key (kept_of w.fields ways.on)) ways.on (about_of (whole 1 0 w.fields) ways.back) rec rows)))))
        (sym (key_read rec w e))
        (known (found messages s.time its_key rows) refl _ (λ n. ways n (message_ways routes neighbour w.fields)))

  -- a status: the ledger of messages stays as it is
  module _ (m : w.kind ≡ 2) (live : s.time < end_of w) (others : List StatusRow) where
    is_status_lem : is_status rec ≡ true
    is_status_lem = ap (λ r. eqb (kind_read r) 2) e ∙ ap (λ k. eqb k 2) m

    abbrev status_about : Way → About
    status_about back = about_of (whole 2 w.code w.fields) back

    status_describes : (back : Way) → Describes (status_about back) rec
    status_describes back = (w, back, e, sym (ap (λ k. about_of (whole k w.code w.fields) back) m))

    abbrev StatusDid : Taken StatusRow → Type 0
    StatusDid t = Done (arrival_deed rec t.answer) s t.state rows rows

    status_room : (row : StatusRow) (on back : Way) → (j p : Option ℕ) → free_place s ≡ p → StatusDid (go_on s others (room_at j p) (λ place. taken (Ok (answer_for on place)) (settled s place on (status_about back) rec) (rows_after_adding statuses s.time row others)))
    status_room row on back None p h = still
    status_room row on back (Some j) None h = still
    status_room row on back (Some j) (Some p) h =
        let lv : s.time < end_in rec = subst (λ x. s.time < x) (sym (ap end_read e)) live in
        deed_on on p (settled s p on (status_about back) rec)
        (took_status on (status_about back) (status_describes back) lv p h is_status_lem)
        (ranged on (status_about back) (status_describes back) lv p h)

    status_ways_lem : (key : StatusKey) (r : Result Ways ArrivalFault)
        → StatusDid (go_on s others r (λ ways. taking_in statuses s (status_row_of key (kept_of w.fields ways.on)) ways.on (status_about ways.back) rec others))
    unfolding taking_in
    status_ways_lem key (Err fault) = still
    status_ways_lem key (Ok both) = status_room (status_row_of key (kept_of w.fields both.on)) both.on both.back (place_for statuses s.time key others) (free_place s) refl

    status_known : (o : Option StatusRow) (next : Taken StatusRow) → StatusDid next → StatusDid (unless_found s others o (λ (row : StatusRow). row.kept) w.fields next)
    status_known None next h = h
    status_known (Some row) next h = again row.kept w.fields

    status_keyed : (o : Option StatusKey) (neighbour : ℕ) (routes : List RouteRow)
        → StatusDid (go_on s others (or_no_row o) (λ key.
        unless_found s others (row_at (found statuses s.time key others) others) (λ (row : StatusRow). row.kept) w.fields (
        go_on s others (status_ways routes neighbour w.fields) (λ ways.
        taking_in statuses s (status_row_of key (kept_of w.fields ways.on)) ways.on (about_of (whole 2 w.code w.fields) ways.back) rec others))))
    status_keyed None neighbour routes = still
    status_keyed (Some key) neighbour routes = status_known (row_at (found statuses s.time key others) others) _ (status_ways_lem key (status_ways routes neighbour w.fields))

    pub status_did : (neighbour : ℕ) (routes : List RouteRow) → StatusDid (status_taken s neighbour w.code w.fields rec routes others)
    unfolding status_taken
    status_did neighbour routes =
        elim (is_unwanted w.code w.fields) as (λ b. StatusDid (cond b (taken (Ok Unwanted) s others) (wanted_taken s neighbour w.code w.fields rec routes others))) [
          | true ↦ still
          | false ↦ status_keyed (status_key_of w.fields.fr.bytes w.fields.ad.bytes w.fields.on.bytes w.code) neighbour routes
        ]
