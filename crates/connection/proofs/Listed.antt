-- Whoever is admitted stands in a live row, and whoever is not stands in none.
use Rattle.std.proofs.Common.{◌≡◌, ℕ, zero, suc, ◌+◌, Bool, true, false, cond, ◌&&◌, List, [], ◌∷◌, Some, None, Ok, Err, Option, Result, refl, ap, ◌∙◌, subst, arith, MatchResult}
use Rattle.std.specs.List.{slice_get}
use Rattle.std.proofs.lemmas.Slice.Eq.{bytes_eq-Decides}
use Rattle.std.proofs.lemmas.Bool.{and_parts, and_from}
use Rattle.ledger.specs.Kinds.{live, has_key}
use Rattle.ledger.specs.Searches.{first_from, found, row_at}
use Rattle.client_rows.specs.WhiteLists.{white_list_kind}
use Rattle.client_rows.specs.declared.white_list.WhiteListRow.{WhiteListRow}
use Rattle.connection.specs.declared.admission.Open.{Open}
use Rattle.connection.specs.declared.admission.NotAdmitted.{NotAdmitted}
use Rattle.connection.specs.declared.admitted.Admitted.{Admitted}
use Rattle.connection.specs.Admissions.{admission, admission_by, GivesBack}
use Rattle.connection.specs.Listed.{ListedAs, Unlisted}

-- the row at the first place that passes, where places count from n, is one that passes; at no place none does
abbrev First : {R : Type 0} → ℕ → (R → Bool) → List R → Option ℕ → Type 0
First {R} n p rows None = (k : ℕ) (row : R) → slice_get rows k ≡ Some row → p row ≡ true → ⊥
First {R} n p rows (Some j) = (k : ℕ) × (j ≡ n + k) × (row : R) × (slice_get rows k ≡ Some row) × (p row ≡ true)

absent : {R : Type 0} (row : R) → None ≡ Some row → ⊥
absent row e = let z : ◌≡◌ {A = ℕ} 0 1 = cc in omega arith

module _ {R : Type 0} (p : R → Bool) where
  passed : (r row : R) → p r ≡ false → Some r ≡ Some row → p row ≡ true → ⊥
  passed r row e f t = let z : ◌≡◌ {A = Bool} true false = cc in let y : ◌≡◌ {A = ℕ} 0 1 = cc in omega arith

  none_either : (r : R) (rs : List R) → p r ≡ false → First 0 p rs None → (k : ℕ) (row : R) → slice_get (r ∷ rs) k ≡ Some row → p row ≡ true → ⊥
  none_either r rs e h zero row f t = passed r row e f t
  none_either r rs e h (suc k) row f t = h k row f t

  step : (n : ℕ) (r : R) (rs : List R) (b : Bool) (o : Option ℕ) → p r ≡ b → First (suc n) p rs o → First n p (r ∷ rs) (cond b (Some n) o)
  step n r rs true o e h = (0, omega arith, r, refl, e)
  step n r rs false None e h = none_either r rs e h
  step n r rs false (Some j) e h = (suc h.0, (let z = h.1 in omega arith), h.2, h.3, h.4)

  first : (n : ℕ) (rows : List R) → First n p rows (first_from n p rows)
  first n [] = λ k row e t. absent row e
  first n (r ∷ rs) = step n r rs (p r) (first_from (suc n) p rs) refl (first (suc n) rs)

module _ (o : Open) (t : ℕ) (rows : List WhiteListRow) where
  abbrev wanted : WhiteListRow → Bool
  wanted row = live white_list_kind t row && has_key white_list_kind o.fingerprint row

  abbrev Meant : Result Admitted NotAdmitted → Type 0
  Meant r = MatchResult r (ListedAs o t rows) (λ _. Unlisted o t rows)

  -- the row that was found, and what was admitted by it
  by_row : (place : ℕ) (row : WhiteListRow) (r : Result Admitted NotAdmitted) → slice_get rows place ≡ Some row → wanted row ≡ true → r ≡ admission_by o (Some row) → GivesBack (Some row) r → Meant r
  by_row place row (Ok a) e w f g =
      let s = and_parts (live white_list_kind t row) (has_key white_list_kind o.fingerprint row) w in
      record {
        place = place;
        row = row;
        at_place = e;
        is_live = s.0;
        same_fingerprint = (bytes_eq-Decides row.fingerprint o.fingerprint).0 s.1;
        same_neighbour = cc;
        same_class = cc;
        same_address = g;
      }
  by_row place row (Err n) e w f g = absurd g

  by_found : (at : Option ℕ) (r : Result Admitted NotAdmitted) → First 0 wanted rows at → r ≡ admission_by o (row_at at rows) → GivesBack (row_at at rows) r → Meant r
  by_found None (Ok a) h f g = absurd g
  by_found None (Err n) h f g = λ place row e l k. h place row e (and_from _ _ l ((bytes_eq-Decides row.fingerprint o.fingerprint).1 k))
  by_found (Some j) r h f g =
      let e : slice_get rows j ≡ Some h.2 = let z = h.1 in ap (slice_get rows) (omega arith) ∙ h.3 in
      by_row j h.2 r e h.4 (f ∙ ap (admission_by o) e) (subst (λ x. GivesBack x r) e g)

  pub listed : (r : Result Admitted NotAdmitted) → r ≡ admission o t rows → GivesBack (row_at (found white_list_kind t o.fingerprint rows) rows) r → Meant r
  listed r f g = by_found (found white_list_kind t o.fingerprint rows) r (first wanted 0 rows) f g
