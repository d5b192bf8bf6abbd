-- What a call leaves that adds bytes all at once, or fails and adds none.
use Rattle.std.specs.Prelude.{ℕ, cond, List, ◌++◌, is_ok, Result}

abbrev pub appended : {T E : Type 0} → Result T E → List ℕ → List ℕ → List ℕ
appended r more before = cond (is_ok r) (before ++ more) before
