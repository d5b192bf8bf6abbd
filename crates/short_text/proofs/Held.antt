-- A short text gives back the bytes that it was made of.
use Rattle.std.proofs.Common.{◌≡◌, ℕ, Bool, true, false, cond, ◌&&◌, leb, List, length, IfSome, Some, None, refl}
use Rattle.std.proofs.lemmas.Bool.{leb-true}
use Rattle.text.specs.Forms.{is_address, is_operation_number}
use Rattle.text.proofs.Padded.{take-padded}
use Rattle.short_text.specs.ShortTexts.{keeping, kept_text, text_of, Holds}

pub holds : (bs : List ℕ) → leb (length bs) 64 ≡ true → Holds bs (keeping bs)
holds bs h =
    let text : text_of (keeping bs) ≡ bs = take-padded bs 64 (leb-true _ _ h) in
    record {
      text = text;
      address = λ i. h i && is_address (text i);
      operation_number = λ i. h i && is_operation_number (text i);
    }

at : (b : Bool) (bs : List ℕ) → leb (length bs) 64 ≡ b → IfSome (cond b (Some (keeping bs)) None) (Holds bs)
at true bs e = holds bs e
at false bs e = tt

pub kept_holds : (bs : List ℕ) → IfSome (kept_text bs) (Holds bs)
kept_holds bs = at (leb (length bs) 64) bs refl
