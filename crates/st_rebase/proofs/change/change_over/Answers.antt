use Rattle.std.proofs.Common.{ap, subst, sym}
use Rattle.std.specs.BTreeSet.{contains}
use Rattle.st_ids.specs.Order.{node_cmp}
use Rattle.st_marks.specs.declared.changes.Change.{Change}
use Rattle.st_marks.specs.Listings.{nodes_new}
use Rattle.st_rebase.specs.inside.Over.{AreRegistersOver}
use Rattle.st_rebase.specs.inside.Room.{AreRowsOver}
use Rattle.st_rebase.proofs.change.change_over.Goals as goal

pub returns : goal.returns
returns c =
    let e = c.change_with.ensures in
    record {
      commit = record {
        rev = ap (λ (y : Change). y.rev) e;
        under = ap (λ (y : Change). y.under) e;
        schema = ap (λ (y : Change). y.schema) e;
        need = ap (λ (y : Change). y.need) e;
        new = ap (λ (y : Change). y.new) e;
      };
      base_is = ap (λ (y : Change). y.base) e;
      rows = subst (AreRowsOver (contains node_cmp c.args.between.named) c.args.step.now.rows c.args.between.change.rows) (sym (ap (λ (y : Change). y.rows) e)) c.in_ok-fields.ensures.rows;
      regs = subst (AreRegistersOver c.args.between.change.rev (nodes_new c.args.between.change.new) c.args.step.now.regs c.args.between.change.regs) (sym (ap (λ (y : Change). y.regs) e)) c.in_ok-fields.ensures.regs;
      loose = ap (λ (y : Change). y.loose) e;
    }
