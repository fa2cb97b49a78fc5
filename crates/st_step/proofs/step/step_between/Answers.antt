use Rattle.std.proofs.Common.{ap, sym, ◌∙◌, subst}
use Rattle.std.specs.BTreeSet.{contains}
use Rattle.st_ids.specs.Order.{node_cmp}
use Rattle.st_marks.specs.Embedding.{row_marks}
use Rattle.st_marks.specs.Step.{IsSchemaStep}
use Rattle.st_doc.specs.Doc.{document_of}
use Rattle.st_step.proofs.Growing.{row_grows, row_marks_are}
use Rattle.st_step.proofs.step.step_between.Goals as goal

pub returns : goal.returns
returns c =
    let D = document_of c.args.doc.now in
    let E = document_of c.args.later.now in
    let m = contains node_cmp c.in_ok-mentioned.mentioned in
    record {
      mentioned = m;
      which = c.in_ok-mentioned.ensures;
      schema = subst (λ l. IsSchemaStep l E.schemas c.in_ok-schema.schema) c.schemas.ensures (subst (λ l. IsSchemaStep c.schemas.result.now l c.in_ok-schema.schema) c.schemas-2.ensures c.in_ok-schema.ensures);
      new = c.in_ok-new.ensures;
      grows = row_grows D E c.requires;
      rows = record {
        rising = c.in_ok-rows.ensures.rising;
        at_each = λ n. c.in_ok-rows.ensures.at_each n ∙ ap (row_marks n) (sym (row_marks_are D E c.requires n m));
      };
      regs = c.in_ok-regs.ensures;
      loose = c.in_ok-loose.ensures;
    }
