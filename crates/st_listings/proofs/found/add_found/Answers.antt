use Rattle.std.proofs.Common.{◌||◌, List, ap, ◌∙◌}
use Rattle.std.specs.BTreeSet.{contains}
use Rattle.std.specs.List.{flat_map}
use Rattle.st_ids.specs.Order.{node_cmp}
use Rattle.st_marks.specs.declared.marks.Mark.{Mark}
use Rattle.st_marks.specs.declared.marks.RegStep.{RegStep}
use Rattle.st_marks.specs.declared.marks.RowMarks.{RowMarks}
use Rattle.st_marks.specs.Embedding.{is_among}
use Rattle.st_marks.specs.Listings.{one_or_none}
use Rattle.st_listings.specs.inside.Stood.{finds}
use Rattle.st_listings.proofs.NodesRead.{found_of}
use Rattle.st_listings.proofs.found.add_found.Goals as goal

pub returns : goal.returns
returns c = λ n.
    let in_rows = λ (rows : List RowMarks). is_among (flat_map (λ (r : RowMarks). flat_map (λ (m : Mark). one_or_none (finds m)) r.marks) rows) n in
    found_of c.args.step.now.rows c.args.step.now.regs n (contains node_cmp c.args.set.now n) (contains node_cmp c.add_rows.new.set n) (contains node_cmp c.add_registers.new.set n)
    (c.in_ok-add_rows.ensures n ∙ ap (λ l. contains node_cmp c.args.set.now n || in_rows l) c.as_slice.ensures)
    (c.in_ok-add_registers.ensures n ∙ ap (λ l. contains node_cmp c.add_rows.new.set n || is_among (flat_map (λ (r : RegStep). one_or_none r.before) l) n) c.as_slice-2.ensures)
