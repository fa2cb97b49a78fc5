use Rattle.st_entry_texts.proofs.entry.push_told.Goals as goal

pub returns : goal.returns
returns c = (c.in_ok-change.change, c.in_ok-change.ensures, c.in_ok-push_change_of.ensures)
