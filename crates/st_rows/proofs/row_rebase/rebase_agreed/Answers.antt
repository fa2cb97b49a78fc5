use Rattle.st_rows.proofs.row_rebase.rebase_agreed.Goals as goal

pub returns-in-Err-Fault : goal.returns-in-Err-Fault
returns-in-Err-Fault c = λ p m a d h s k.
    let never = c.in-Err-Fault.ensures.rebased p m a d h s k in
    absurd (rw c.in-Err-Fault.field-0-is at never)
