-- Pieces added one after the other are one text behind what was there.
use Rattle.std.proofs.Common.{◌≡◌, ℕ, List, [], ◌∷◌, ◌++◌, sym, ap, ◌∙◌, append_assoc, append-nil}
use Rattle.answer_pieces.specs.Pieces.{appended, grouped, joined, joined_groups}

pub appended_is : (out : List ℕ) (ps : List (List ℕ)) → appended out ps ≡ out ++ joined ps
appended_is out [] = sym (append-nil out)
appended_is out (p ∷ ps) = appended_is (out ++ p) ps ∙ append_assoc out p (joined ps)

pub grouped_is : (out : List ℕ) (gs : List (List (List ℕ))) → grouped out gs ≡ out ++ joined_groups gs
grouped_is out [] = sym (append-nil out)
grouped_is out (g ∷ gs) = grouped_is (appended out g) gs ∙ ap (λ t. t ++ joined_groups gs) (appended_is out g) ∙ append_assoc out (joined g) (joined_groups gs)

-- a line: its number, a space, the groups, a line feed
pub line_is : (out n s : List ℕ) (gs : List (List (List ℕ))) (e : List ℕ) → grouped ((out ++ n) ++ s) gs ++ e ≡ out ++ (n ++ (s ++ (joined_groups gs ++ e)))
line_is out n s gs e =
    ap (λ t. t ++ e) (grouped_is ((out ++ n) ++ s) gs)
    ∙ append_assoc ((out ++ n) ++ s) (joined_groups gs) e
    ∙ append_assoc (out ++ n) s (joined_groups gs ++ e)
    ∙ append_assoc out n (s ++ (joined_groups gs ++ e))
