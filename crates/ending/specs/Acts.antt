-- What is done with an envelope, and what it leaves.
use Rattle.std.specs.Prelude.{ℕ, cond, [], ◌∷◌}
use Rattle.text.specs.Said.{Said, says}
use Rattle.envelope.specs.Views.{kind_number}
use Rattle.relay.specs.States.{State}
use Rattle.relay.specs.Moves.{discharged}
use Rattle.standing.specs.declared.standing.About.{About}
use Rattle.ending.specs.Retries.{due_again, waits_again}
use Rattle.ending.specs.DoubleFaults.{double_fault}
use Rattle.ending.specs.Reports.{is_reported, reported}
use Rattle.ending.specs.declared.act.Act.{Act}
use Rattle.ending.specs.declared.act.Act.TheVariants.{WaitAgain, PassOn, Report, DoubleFault}
use Rattle.ending.specs.declared.act.Done.{Done}
use Rattle.ending.specs.declared.act.Done.TheVariants.{Waits, PassedOn, Reported, Noticed, Dropped}
use Rattle.ending.specs.declared.act.Task.{Task}

-- what each says: numbered in this order, with the due time, the kind (1 a message, 2 a status) or the code
abbrev pub done_says : Done → Said
done_says (Waits due) = says 1 (due ∷ [])
done_says (PassedOn kind) = says 2 (kind_number kind ∷ [])
done_says (Reported code) = says 3 (code ∷ [])
done_says Noticed = says 4 []
done_says (Dropped kind) = says 5 (kind_number kind ∷ [])

abbrev pub done_by : State → ℕ → About → Act → Done
done_by s place about (WaitAgain failed) = Waits (due_again s.time failed)
done_by s place about PassOn = PassedOn about.kind
done_by s place about (Report code) = cond (is_reported s place code) (Reported code) (Dropped about.kind)
done_by s place about DoubleFault = cond about.notify Noticed (Dropped about.kind)

abbrev pub left_by : State → ℕ → About → Act → State
left_by s place about (WaitAgain failed) = waits_again s place failed
left_by s place about PassOn = discharged s place
left_by s place about (Report code) = reported s place code about.back
left_by s place about DoubleFault = double_fault s place about

abbrev pub done_as : State → ℕ → Task → Done
done_as s place task = done_by s place task.about task.act

abbrev pub performed : State → ℕ → Task → State
performed s place task = left_by s place task.about task.act
