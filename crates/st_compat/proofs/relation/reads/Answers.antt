use Rattle.std.proofs.Common.{◌∙◌, sym}
use Rattle.st_schema.specs.Wider.{contains_all}
use Rattle.st_compat.proofs.Passing.{reached_pass}
use Rattle.st_compat.proofs.relation.reads.Goals as goal

pub returns-then-contains_all-clause-yes : goal.returns-then-contains_all-clause-yes
returns-then-contains_all-clause-yes c is = record {
  types = reached_pass c.args.stored.now c.args.view.now c.mark_reachable.result c.mark_reachable.ensures (c.passes.ensures.yes is);
  root = sym (c.contains_all.ensures ∙ (λ i. contains_all (c.root.ensures i) (c.root-2.ensures i))) ∙ c.if-contains_all.true;
}

pub returns-then-contains_all-clause-no : goal.returns-then-contains_all-clause-no
returns-then-contains_all-clause-no c is reads = c.passes.ensures.no is (λ k d at marked. reads.types d.0 (c.mark_reachable.ensures.only k d at marked))
