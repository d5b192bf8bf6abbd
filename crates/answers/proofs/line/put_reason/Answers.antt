use Rattle.answers.proofs.line.put_reason.Goals as goal

pub returns-in-Record : goal.returns-in-Record
returns-in-Record c = rw c.in-Record.is c.put_part.ensures

pub returns-in-Sheet : goal.returns-in-Sheet
returns-in-Sheet c = rw c.in-Sheet.is c.put_part-in-Sheet.ensures
