-- Every line is one text behind what was there.
use Rattle.std.proofs.Common.{[], ◌∷◌, ◌++◌, codes, decimal, ap, ◌∙◌, append_assoc}
use Rattle.answer_pieces.specs.Pieces.{joined_groups}
use Rattle.answer_pieces.proofs.Groups.{grouped_is, line_is}
use Rattle.answers.specs.Answers.{answer_groups, end_groups, LinesStandBehind}

pub lines_stand_behind : LinesStandBehind
lines_stand_behind = record {
  answer = λ out n a. line_is out (decimal n) (codes " ") (answer_groups a) (10 ∷ []);
  end = λ out c. ap (λ t. t ++ (10 ∷ [])) (grouped_is out (end_groups c)) ∙ append_assoc out (joined_groups (end_groups c)) (10 ∷ []);
}
