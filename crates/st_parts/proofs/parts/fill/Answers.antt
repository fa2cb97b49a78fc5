use Rattle.std.proofs.Common.{subst}
use Rattle.std.specs.BTreeSet.{contains}
use Rattle.st_ids.specs.Order.{node_cmp}
use Rattle.st_part_listings.specs.Together.{AreLooseOf, AreNeedsOf, AreRegistersOf, goes_of, known_by}
use Rattle.st_parts.specs.inside.OfParts.{AreNewOf, AreRowsOf}
use Rattle.st_parts.proofs.parts.fill.Goals as goal

pub returns : goal.returns
returns c = λ rev under base schema.
    let C = c.args.first.now in
    let X = c.args.second.now in
    let goes = goes_of c.args.tables.now in
    let known = known_by c.args.tables.now in
    let new = contains node_cmp c.args.tables.now.new in
    record {
      rev = rev;
      under = under;
      base = base;
      schema = schema;
      rows = subst (λ a. AreRowsOf a X.rows c.in_ok-change.field-0) c.as_slice.ensures (subst (λ b. AreRowsOf c.as_slice.result.now b c.in_ok-change.field-0) c.as_slice-2.ensures c.in_ok-change.ensures);
      regs = subst (λ a. AreRegistersOf goes a X.regs c.in_ok-change-2.field-0) c.as_slice-3.ensures (subst (λ b. AreRegistersOf goes c.as_slice-3.result.now b c.in_ok-change-2.field-0) c.as_slice-4.ensures c.in_ok-change-2.ensures);
      need = subst (λ a. AreNeedsOf new a X.need c.in_ok-change-3.field-0) c.as_slice-5.ensures (subst (λ b. AreNeedsOf new c.as_slice-5.result.now b c.in_ok-change-3.field-0) c.as_slice-6.ensures c.in_ok-change-3.ensures);
      new_nodes = subst (λ a. AreNewOf a X.new c.in_ok-change-4.field-0) c.as_slice-7.ensures (subst (λ b. AreNewOf c.as_slice-7.result.now b c.in_ok-change-4.field-0) c.as_slice-8.ensures c.in_ok-change-4.ensures);
      loose = subst (λ a. AreLooseOf goes known a X.loose c.in_ok-change-5.field-0) c.as_slice-9.ensures (subst (λ b. AreLooseOf goes known c.as_slice-9.result.now b c.in_ok-change-5.field-0) c.as_slice-10.ensures c.in_ok-change-5.ensures);
    }
