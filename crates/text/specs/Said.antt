-- What the case of an enum says to the outside: the number that stands for it, and the values that it carries, in order.
use Rattle.std.specs.Prelude.{ℕ, List}

pub record Said : Type 0 where
  pub number : ℕ
  pub values : List ℕ

abbrev pub says : ℕ → List ℕ → Said
says n vs = record { number = n; values = vs }
