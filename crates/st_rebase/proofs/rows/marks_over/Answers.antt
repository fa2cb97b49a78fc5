use Rattle.st_rebase.proofs.rows.marks_over.Goals as goal

pub returns-then-has_room : goal.returns-then-has_room
returns-then-has_room c = λ p m a d room w s k. c.rebase_agreed.ensures p m a d w s k
