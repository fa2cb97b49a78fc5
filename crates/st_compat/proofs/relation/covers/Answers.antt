use Rattle.std.proofs.Common.{◌∙◌, sym}
use Rattle.st_schema.specs.Wider.{contains_all}
use Rattle.st_compat.proofs.Passing.{all_pass}
use Rattle.st_compat.proofs.relation.covers.Goals as goal

pub returns-then-contains_all-clause-yes : goal.returns-then-contains_all-clause-yes
returns-then-contains_all-clause-yes c is = record {
  types = all_pass c.args.stored.now c.args.view.now c.is_kept.ensures (c.passes.ensures.yes is);
  root = sym (c.contains_all.ensures ∙ (λ i. contains_all (c.root.ensures i) (c.root-2.ensures i))) ∙ c.if-contains_all.true;
}

pub returns-then-contains_all-clause-no : goal.returns-then-contains_all-clause-no
returns-then-contains_all-clause-no c is covers = c.passes.ensures.no is (λ k d at marked. covers.types d.0)
