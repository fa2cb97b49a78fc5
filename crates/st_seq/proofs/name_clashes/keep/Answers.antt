use Rattle.std.proofs.Common.{ap, sym, ◌∙◌}
use Rattle.std.specs.BTreeMap.{get}
use Rattle.st_ids.specs.Order.{atom_cmp}
use Rattle.st_seq.specs.NamedApart.{same_atom}
use Rattle.st_seq.proofs.NamedCells.{kept_new, kept_old}
use Rattle.st_seq.proofs.name_clashes.keep.Goals as goal

pub returns-in_ok-insert-in-None : goal.returns-in_ok-insert-in-None
unfolding same_atom
returns-in_ok-insert-in-None c = λ a. c.in_ok-insert-in-None.ensures.updates.0 a ∙ kept_new (get atom_cmp c.args.names.now a) c.args.name a (λ e. ap (get atom_cmp c.args.names.now) (sym e) ∙ sym c.name_entry.ensures ∙ c.in-None.is)

pub returns-in-Some : goal.returns-in-Some
returns-in-Some c = λ a. kept_old (get atom_cmp c.args.names.now) c.args.name c.in-Some.field-0 a (sym c.name_entry.ensures ∙ c.in-Some.is)
