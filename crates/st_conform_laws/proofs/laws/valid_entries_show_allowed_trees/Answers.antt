use Rattle.st_conform_laws.proofs.ValidEntries.{entries_conform, entries_show}
use Rattle.st_conform_laws.proofs.laws.valid_entries_show_allowed_trees.Goals as goal

pub returns : goal.returns
returns c = record {
  fit = λ s O Ls opened valid new room. (entries_conform s O Ls opened valid new room).0;
  tree = λ s O D Ls is_array d opened valid new room r tells shows. entries_show s O Ls opened valid new room D r is_array d tells shows;
}
