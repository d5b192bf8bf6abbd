-- What the standing of a place and its bytes tell of each other.
use Rattle.std.proofs.Common.{◌≡◌, ℕ, Bool, true, false, cond, ◌||◌, eqb, List, [], Some, None, Ok, Err, Option, Result, sym, refl, ap, ◌∙◌, arith, eqb-true}
use Rattle.text.specs.Said.{Said, says}
use Rattle.envelope.specs.Integers.{u16_at}
use Rattle.envelope.specs.Limits.{length_ok, kind_ok}
use Rattle.envelope.specs.Layout.{rows, first_broken, fields}
use Rattle.envelope.specs.Views.{Whole, whole}
use Rattle.envelope.specs.Decoding.{decode, decode_kind, unless}
use Rattle.envelope.proofs.Oks.{ok_cond, ok_then, unless_ok}
use Rattle.envelope.specs.declared.parts.Kind.TheVariants.{Message, Status}
use Rattle.standing.specs.declared.standing.About.{About}
use Rattle.standing.specs.declared.standing.Standing.{Standing}
use Rattle.standing.specs.declared.standing.Standing.TheVariants.{Free, Waiting, Out, Inbox, Notice}
use Rattle.account.specs.Records.{kind_read, kind_in, is_message, is_status}
use Rattle.account.specs.Laws.{whereabouts}
use Rattle.account.specs.Faith.{Describes, Matches}
use Rattle.account.specs.Moves.{about_in}
use Rattle.account.proofs.Lists.{true_false}

pub none_some : {A : Type 0} (x : A) → ◌≡◌ {A = Option A} None (Some x) → ⊥
none_some x e = let z : ◌≡◌ {A = ℕ} 0 1 = cc in omega arith

same_some : {A : Type 0} (x y : A) → ◌≡◌ {A = Option A} (Some x) (Some y) → x ≡ y
same_some x y e = cc

pub empty_no_message : is_message [] ≡ false
empty_no_message = refl

pub empty_no_status : is_status [] ≡ false
empty_no_status = refl

same_ok : (x y : ℕ) → ◌≡◌ {A = Result ℕ Said} (Ok x) (Ok y) → x ≡ y
same_ok x y e = cc

kind_decoded : (r : List ℕ) (k : ℕ) → ◌≡◌ {A = Result ℕ Said} (decode_kind r) (Ok k) → kind_ok k ≡ true
kind_decoded r k h =
    let c = ok_cond (length_ok r) (cond (kind_ok (u16_at r 2)) (Ok (u16_at r 2)) (Err (says 402 []))) (says 401 []) k h in
    let d = ok_cond (kind_ok (u16_at r 2)) (Ok (u16_at r 2)) (says 402 []) k c.1 in
    ap kind_ok (sym (same_ok (u16_at r 2) k d.1)) ∙ d.0

pub record_kind : (r : List ℕ) (w : Whole) → ◌≡◌ {A = Result Whole Said} (decode r) (Ok w) → kind_ok w.kind ≡ true
record_kind r w h =
    let c = ok_then (decode_kind r) (λ k. unless (first_broken (rows r)) (whole k (u16_at r 12) (fields r))) w h in
    let u = unless_ok (first_broken (rows r)) (whole c.0 (u16_at r 12) (fields r)) w (sym c.2) in
    ap (λ (x : Whole). kind_ok x.kind) u.1 ∙ kind_decoded r c.0 c.1

pub message_no_status : (rec : List ℕ) → is_message rec ≡ true → is_status rec ≡ false
message_no_status rec h = ap (λ k. eqb k 2) (eqb-true (kind_in rec) 1 h)

pub status_no_message : (rec : List ℕ) → is_status rec ≡ true → is_message rec ≡ false
status_no_message rec h = ap (λ k. eqb k 1) (eqb-true (kind_in rec) 2 h)

if_message : (v : Bool) → cond v Message Status ≡ Message → v ≡ true
if_message true h = refl
if_message false h = let z : ◌≡◌ {A = ℕ} 0 1 = cc in absurd (omega arith)

if_status : (v : Bool) → cond v Message Status ≡ Status → v ≡ false
if_status true h = let z : ◌≡◌ {A = ℕ} 0 1 = cc in absurd (omega arith)
if_status false h = refl

pub or_right : (u v : Bool) → (u || v) ≡ true → u ≡ false → v ≡ true
or_right true v h e = absurd (true_false true refl e)
or_right false v h e = h

pub message_bytes : (about : About) (rec : List ℕ) → Describes about rec → about.kind ≡ Message → is_message rec ≡ true
message_bytes about rec (w, back, is, ab) k =
    ap (λ d. eqb (kind_read d) 1) is ∙ if_message (eqb w.kind 1) (sym (ap (λ (x : About). x.kind) ab) ∙ k)

pub status_bytes : (about : About) (rec : List ℕ) → Describes about rec → about.kind ≡ Status → is_status rec ≡ true
status_bytes about rec (w, back, is, ab) k =
    ap (λ d. eqb (kind_read d) 2) is
    ∙ or_right (eqb w.kind 1) (eqb w.kind 2) (record_kind rec w is) (if_status (eqb w.kind 1) (sym (ap (λ (x : About). x.kind) ab) ∙ k))

-- what is known at a standing that matches the bytes describes them
pub described : (st : Standing) (about : About) (rec : List ℕ) → about_in st ≡ Some about → Matches st rec → Describes about rec
described Free about rec e m = absurd (none_some about e)
described (Waiting hop due failed known) about rec e m = rw (sym (same_some known about e)) m
described (Out hop number since failed known) about rec e m = rw (sym (same_some known about e)) m
described (Inbox entered known) about rec e m = rw (sym (same_some known about e)) m
described (Notice entered known) about rec e m = rw (sym (same_some known about e)) m.0

pub matching : (st : Standing) (about : About) (rec : List ℕ) → about_in st ≡ Some about → Describes about rec
    → (whereabouts st ≡ None → about.kind ≡ Status) → Matches st rec
matching Free about rec e d n = absurd (none_some about e)
matching (Waiting hop due failed known) about rec e d n = rw (same_some known about e) d
matching (Out hop number since failed known) about rec e d n = rw (same_some known about e) d
matching (Inbox entered known) about rec e d n = rw (same_some known about e) d
matching (Notice entered known) about rec e d n = (rw (same_some known about e) d, ap (λ (x : About). x.kind) (same_some known about e) ∙ n refl)
