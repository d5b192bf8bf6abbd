-- A message that was taken in and has not expired keeps its row in the ledger, and so is known again.
use Rattle.std.proofs.Common.{◌≡◌, ℕ, zero, suc, ◌+◌, ◌<◌, ◌≤◌, Bool, true, false, cond, not, ◌&&◌, List, [], ◌∷◌, length, get_or, set, Some, None, Ok, Err, Option, Result, sym, refl, ap, ◌∙◌, subst, arith, length-set, get_or-set_other, get_or-set_same, lt-ltb}
use Rattle.std.proofs.lemmas.Bool.{and_parts, and_from, le-leb}
use Rattle.text.specs.Said.{Said}
use Rattle.text.specs.Forms.{same_text}
use Rattle.envelope.specs.Views.{Whole}
use Rattle.envelope.specs.Decoding.{decode}
use Rattle.envelope_reading.proofs.Laws.{laws}
use Rattle.ledger.specs.Kinds.{live, has_key, Equivalence}
use Rattle.ledger.specs.Searches.{first_from, found, entered, place_for, or_else}
use Rattle.ledger.specs.Changes.{put, rows_after_adding}
use Rattle.ledger.proofs.Equivalences.{both, through}
use Rattle.short_text.specs.ShortTexts.{keeping, text_of, same_short_text}
use Rattle.short_text.proofs.Held.{holds}
use Rattle.message_rows.specs.Messages.{messages, message_filled, message_end, message_key, message_key_of, freed_message, same_message}
use Rattle.message_rows.specs.declared.message.MessageKey.{MessageKey}
use Rattle.message_rows.specs.declared.message.MessageRow.{MessageRow}
use Rattle.envelope_rows.proofs.Alike.{text_alike, short_text_alike}
use Rattle.account.specs.Records.{alike, alike_read, end_in}
use Rattle.account.specs.Faith.{Answers, Listed}

some_none : {A : Type 0} (x : A) → ◌≡◌ {A = Option A} (Some x) None → ⊥
some_none x e = let z : ◌≡◌ {A = ℕ} 0 1 = cc in omega arith

true_false : (b : Bool) → b ≡ true → b ≡ false → ⊥
true_false b p q = let z : ◌≡◌ {A = Bool} true false = cc in let y : ◌≡◌ {A = ℕ} 0 1 = cc in omega arith

-- the first place that passes does, and where there is none no place does
module _ {R : Type 0} (p : R → Bool) (d : R) where
  none_passes : (n : ℕ) (rows : List R) (i : ℕ) → first_from n p rows ≡ None → i < length rows → p (get_or rows i d) ≡ true → ⊥
  none_passes n [] i e h t = absurd (omega arith)
  none_passes n (r ∷ rs) zero e h t = some_none n (rw t at e)
  none_passes n (r ∷ rs) (suc i) e h t =
      let go : (b : Bool) → p r ≡ b → cond b (Some n) (first_from (suc n) p rs) ≡ None → ⊥ =
      elim [ true ↦ (λ q f. some_none n f) | false ↦ (λ q f. none_passes (suc n) rs i f (omega arith) t) ]
      in go (p r) refl e

  first_passes : (n j : ℕ) (rows : List R) → first_from n p rows ≡ Some j → (i : ℕ) × (j ≡ n + i) × (i < length rows) × (p (get_or rows i d) ≡ true)
  first_passes n j [] e = absurd (some_none j (sym e))
  first_passes n j (r ∷ rs) e =
      let go : (b : Bool) → p r ≡ b → cond b (Some n) (first_from (suc n) p rs) ≡ Some j → (i : ℕ) × (j ≡ n + i) × (i < length (r ∷ rs)) × (p (get_or (r ∷ rs) i d) ≡ true) =
      elim [
        | true ↦ (λ q f. let k : n ≡ j = cc in (0, omega (arith, k), omega arith, q))
        | false ↦ (λ q f. let r = first_passes (suc n) j rs f in (suc r.0, omega (arith, r.1), omega (arith, r.2), r.3))
      ]
      in go (p r) refl e

  first_within : (j : ℕ) (rows : List R) → first_from 0 p rows ≡ Some j → (j < length rows) × (p (get_or rows j d) ≡ true)
  first_within j rows e =
      let f = first_passes 0 j rows e in
      let k : j ≡ f.0 = omega (arith, f.1) in
      (subst (λ i. i < length rows) (sym k) f.2, subst (λ i. p (get_or rows i d) ≡ true) (sym k) f.3)

-- the rows that a search looks for: live with a key, filled with a key, not live
abbrev is_live : ℕ → MessageKey → MessageRow → Bool
is_live t k row = live messages t row && has_key messages k row

abbrev is_filled : MessageKey → MessageRow → Bool
is_filled k row = message_filled row && has_key messages k row

abbrev is_spare : ℕ → MessageRow → Bool
is_spare t row = not (live messages t row)

pub message_alike : Equivalence same_message
message_alike = both (λ a b. same_short_text a.fr b.fr) (λ a b. same_short_text a.on b.on) (through same_short_text (λ (k : MessageKey). k.fr) short_text_alike) (through same_short_text (λ (k : MessageKey). k.on) short_text_alike)

-- a row that answers for a record is live as long as the record is
live_row : (t : ℕ) (row : MessageRow) (rec : List ℕ) → Answers row rec → t < end_in rec → live messages t row ≡ true
live_row t row rec a h = and_from _ _ a.filled (lt-ltb t (message_end row) (subst (λ e. t < e) (sym a.ends) h))

pub found_within : (t : ℕ) (k : MessageKey) (rows : List MessageRow) (i : ℕ) → found messages t k rows ≡ Some i → i < length rows
found_within t k rows i e = (first_within (is_live t k) freed_message i rows e).0

placed_within : (t : ℕ) (k : MessageKey) (rows : List MessageRow) (j : ℕ) → place_for messages t k rows ≡ Some j → j < length rows
placed_within t k rows j e =
    let go : (o q : Option ℕ) → entered messages k rows ≡ o → first_from 0 (is_spare t) rows ≡ q → or_else o q ≡ Some j → j < length rows =
    elim [
      | Some i ↦ (λ q f g h. let s : i ≡ j = cc in subst (λ x. x < length rows) s (first_within (is_filled k) freed_message i rows f).0)
      | None ↦ (λ q f g h. (first_within (is_spare t) freed_message j rows (g ∙ h)).0)
    ]
    in go (entered messages k rows) (first_from 0 (is_spare t) rows) refl refl e

pub listed_new : (t : ℕ) (row : MessageRow) (rec : List ℕ) (rows : List MessageRow) (j : ℕ)
    → place_for messages t (message_key row) rows ≡ Some j → Answers row rec → Listed (rows_after_adding messages t row rows) rec
listed_new t row rec rows j e a =
    let h = placed_within t (message_key row) rows j e in
    let r : rows_after_adding messages t row rows ≡ set rows j row = ap (λ o. put o row rows) e in
    subst (λ l. Listed l rec) (sym r)
    (j, subst (λ n. j < n) (sym (length-set rows j row)) h, subst (λ x. Answers x rec) (sym (get_or-set_same rows j row freed_message h)) a)

-- a row put at another place leaves the one that answers
elsewhere : (row : MessageRow) (rec : List ℕ) (rows : List MessageRow) (j : ℕ) (l : Listed rows rec) → (l.0 ≡ j → ⊥) → Listed (set rows j row) rec
elsewhere row rec rows j l ne =
    (l.0, subst (λ n. l.0 < n) (sym (length-set rows j row)) l.1, subst (λ x. Answers x rec) (sym (get_or-set_other rows j l.0 row freed_message ne)) l.2)

-- the row of a live record is not where a row whose key is not found is put
module _ (t : ℕ) (row : MessageRow) (rec : List ℕ) (rows : List MessageRow) (n : found messages t (message_key row) rows ≡ None) (h : t < end_in rec) (l : Listed rows rec) where
  here : MessageRow
  here = get_or rows l.0 freed_message

  not_entered : (j : ℕ) → entered messages (message_key row) rows ≡ Some j → l.0 ≡ j → ⊥
  not_entered j e k =
      let f = (first_within (is_filled (message_key row)) freed_message j rows e).1 in
      let g : is_filled (message_key row) (get_or rows l.0 freed_message) ≡ true = subst (λ i. is_filled (message_key row) (get_or rows i freed_message) ≡ true) (sym k) f in
      let s = and_parts (message_filled (get_or rows l.0 freed_message)) (has_key messages (message_key row) (get_or rows l.0 freed_message)) g in
      none_passes (is_live t (message_key row)) freed_message 0 rows l.0 n l.1 (and_from _ _ (live_row t (get_or rows l.0 freed_message) rec l.2 h) s.1)

  not_spare : (j : ℕ) → first_from 0 (is_spare t) rows ≡ Some j → l.0 ≡ j → ⊥
  not_spare j e k =
      let f = (first_within (is_spare t) freed_message j rows e).1 in
      let g : not (live messages t (get_or rows l.0 freed_message)) ≡ true = subst (λ i. not (live messages t (get_or rows i freed_message)) ≡ true) (sym k) f in
      true_false (not (live messages t (get_or rows l.0 freed_message))) g (ap not (live_row t (get_or rows l.0 freed_message) rec l.2 h))

  stays : (o s : Option ℕ) → entered messages (message_key row) rows ≡ o → first_from 0 (is_spare t) rows ≡ s → Listed (put (or_else o s) row rows) rec
  stays (Some j) s e f = elsewhere row rec rows j l (not_entered j e)
  stays None (Some j) e f = elsewhere row rec rows j l (not_spare j f)
  stays None None e f = l

pub listed_stays : (t : ℕ) (row : MessageRow) (rec : List ℕ) (rows : List MessageRow)
    → found messages t (message_key row) rows ≡ None → t < end_in rec → Listed rows rec → Listed (rows_after_adding messages t row rows) rec
listed_stays t row rec rows n h l = stays t row rec rows n h l (entered messages (message_key row) rows) (first_from 0 (is_spare t) rows) refl refl

-- the key of texts that a row can keep, and the texts in it
key_of : (fr on : List ℕ) → length fr ≤ 64 → length on ≤ 64 → message_key_of fr on ≡ Some (record { fr = keeping fr; on = keeping on })
key_of fr on f o = rw (le-leb (length fr) 64 f, le-leb (length on) 64 o) refl

pub key_read : (rec : List ℕ) (w : Whole) → ◌≡◌ {A = Result Whole Said} (decode rec) (Ok w)
    → message_key_of w.fields.fr.bytes w.fields.on.bytes ≡ Some (record { fr = keeping w.fields.fr.bytes; on = keeping w.fields.on.bytes })
key_read rec w e =
    let l = (laws rec w e).lawful in
    key_of w.fields.fr.bytes w.fields.on.bytes l.fr_most (omega (arith, l.on_length))

kept_text_lem : (bs : List ℕ) → length bs ≤ 64 → text_of (keeping bs) ≡ bs
kept_text_lem bs h = (holds bs (le-leb (length bs) 64 h)).text

pub not_found_not_alike : (t : ℕ) (rows : List MessageRow) (new old : List ℕ) (w : Whole) (key : MessageKey)
    → ◌≡◌ {A = Result Whole Said} (decode new) (Ok w) → message_key_of w.fields.fr.bytes w.fields.on.bytes ≡ Some key
    → found messages t key rows ≡ None → t < end_in old → Listed rows old → alike new old ≡ true → ⊥
not_found_not_alike t rows new old w key e k n h l a =
    let go : (o : Result Whole Said) → decode old ≡ o → alike_read (Ok w) o ≡ true → ⊥ =
    elim [
      | Ok v ↦ (λ f b.
          let lw = (laws new w e).lawful in
          let lv = (laws old v f).lawful in
          let same : key ≡ record { fr = keeping w.fields.fr.bytes; on = keeping w.fields.on.bytes } = let q = sym k ∙ key_read new w e in cc in
          let ts : same_message (record { fr = keeping v.fields.fr.bytes; on = keeping v.fields.on.bytes }) key ≡ true =
          let p = and_parts (same_text w.fields.fr.bytes v.fields.fr.bytes) (same_text w.fields.on.bytes v.fields.on.bytes) b in
          rw (same, kept_text_lem w.fields.fr.bytes lw.fr_most, kept_text_lem v.fields.fr.bytes lv.fr_most, kept_text_lem w.fields.on.bytes (omega (arith, lw.on_length)), kept_text_lem v.fields.on.bytes (omega (arith, lv.on_length)))
          (and_from _ _ (text_alike.symmetric w.fields.fr.bytes v.fields.fr.bytes p.0) (text_alike.symmetric w.fields.on.bytes v.fields.on.bytes p.1)) in
          let row = get_or rows l.0 freed_message in
          let own : same_message (message_key row) (record { fr = keeping v.fields.fr.bytes; on = keeping v.fields.on.bytes }) ≡ true = l.2.key v _ f (key_read old v f) in
          none_passes (is_live t key) freed_message 0 rows l.0 n l.1
          (and_from _ _ (live_row t row old l.2 h) (message_alike.transitive (message_key row) (record { fr = keeping v.fields.fr.bytes; on = keeping v.fields.on.bytes }) key own ts)))
      | Err r ↦ (λ f b. true_false false b refl)
    ]
    in go (decode old) refl (ap (λ x. alike_read x (decode old)) (sym e) ∙ a)
