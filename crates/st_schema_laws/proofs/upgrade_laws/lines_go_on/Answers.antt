use Rattle.st_schema_laws.proofs.Lines.{commit_goes_on, edit_goes_on, line_at_home, line_front, line_goes_on_longer, line_told, undo_goes_on, upgrade_goes_on}
use Rattle.st_schema_laws.proofs.upgrade_laws.lines_go_on.Goals as goal

pub returns : goal.returns
returns c = record {
  edit = edit_goes_on;
  upgrade = upgrade_goes_on;
  undo = undo_goes_on;
  commit = commit_goes_on;
  front = line_front;
  longer = line_goes_on_longer;
  told = λ T O Ns N new l fresh. line_told T O Ns l N fresh new;
  home = λ T O Ns N l fresh itself. line_at_home T O Ns l N fresh itself;
}
