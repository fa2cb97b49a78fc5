use Rattle.std.proofs.Common.{◌||◌, List, false, ap, ◌∙◌}
use Rattle.std.specs.BTreeSet.{contains}
use Rattle.std.specs.List.{flat_map}
use Rattle.st_ids.specs.Order.{node_cmp}
use Rattle.st_marks.specs.declared.marks.RegMark.{RegMark}
use Rattle.st_marks.specs.Embedding.{is_among}
use Rattle.st_marks.specs.Listings.{one_or_none}
use Rattle.st_carry.proofs.NodesRead.{held_then, in_rows}
use Rattle.st_carry.proofs.found.add_places.Goals as goal

pub returns : goal.returns
returns c = λ n.
    held_then c.args.change.now.rows c.args.change.now.regs n (contains node_cmp c.args.set.now n) (contains node_cmp c.add_rows.new.set n) (contains node_cmp c.add_held.new.set n)
    (c.in_ok-add_rows.ensures n ∙ ap (λ l. contains node_cmp c.args.set.now n || is_among (in_rows false l) n) c.as_slice.ensures)
    (c.in_ok-add_held.ensures n ∙ ap (λ (l : List RegMark). contains node_cmp c.add_rows.new.set n || is_among (flat_map (λ (r : RegMark). one_or_none r.held) l) n) c.as_slice-2.ensures)
