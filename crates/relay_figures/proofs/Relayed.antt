-- The relay's figures, computed.
use Rattle.std.proofs.Common.{refl}
use Rattle.text.specs.Padding.{padded}
use Rattle.writing.specs.Answers.{write_answer}
use Rattle.intake.specs.TakingIn.{taking_in}
use Rattle.message_arrival.specs.Messages.{message_taken}
use Rattle.relay_figures.specs.RelayFigures.{Arriving, ArrivingAgain, Failing, SweptOut, Receipted, RelayFigures}

arriving : Arriving
unfolding padded taking_in message_taken
arriving = record {
  taken_at_the_last_second = refl;
  waits_for_neighbour_1 = refl;
  refused_at_its_expiry = refl;
  refused_moves_only_the_time = refl;
}

arriving_again : ArrivingAgain
unfolding padded taking_in message_taken
arriving_again = record {
  repeated_in_other_letters = refl;
  different_by_its_todt = refl;
}

failing : Failing
unfolding padded taking_in message_taken
failing = record {
  out_since_100 = refl;
  first_due_at_160 = refl;
  waits_until_160 = refl;
  second_due_at_320 = refl;
  waits_until_320 = refl;
  third_due_at_700 = refl;
  waits_until_700 = refl;
}

swept_out : SweptOut
unfolding padded taking_in message_taken
swept_out = record {
  not_given_up_at_159 = refl;
  out_at_159 = refl;
  given_up_at_160 = refl;
  waits_until_220 = refl;
}

receipted : Receipted
unfolding padded taking_in message_taken write_answer
receipted = record {
  reported = refl;
  report_goes_back = refl;
  report_length = refl;
  report_read = refl;
  passed_on_with_ar_0 = refl;
  nothing_left_with_ar_0 = refl;
}

pub relayed : RelayFigures
relayed = record {
  arriving = arriving;
  arriving_again = arriving_again;
  failing = failing;
  swept_out = swept_out;
  receipted = receipted;
}
