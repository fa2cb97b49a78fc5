use Rattle.std.proofs.Common.{Ok, Err, ◌∙◌, ap, sym}
use Rattle.st_schema.specs.Wider.{contains_all, types_widen}
use Rattle.st_schema.specs.inside.Wider.{count_wider}
use Rattle.st_schema.proofs.Widening.{settled, wider_counted}
use Rattle.st_schema.proofs.upgrade.wider.Goals as goal

pub returns-in-Err : goal.returns-in-Err
returns-in-Err c = wider_counted c.args.old.now c.args.new.now (Err c.in-Err.fault) (c.in-Err.ensures ∙ (λ i. count_wider 0 (types_widen (c.parts.ensures.types i) (c.parts-2.ensures.types i))))

pub returns-then-contains_all : goal.returns-then-contains_all
returns-then-contains_all c =
    ap (settled (Ok c.in-Ok.at)) (sym c.if-contains_all.true ∙ c.contains_all.ensures ∙ (λ i. contains_all (c.parts-2.ensures.root i) (c.parts.ensures.root i)))
    ∙ wider_counted c.args.old.now c.args.new.now (Ok c.in-Ok.at) (c.in-Ok.ensures ∙ (λ i. count_wider 0 (types_widen (c.parts.ensures.types i) (c.parts-2.ensures.types i))))

pub returns-else-contains_all : goal.returns-else-contains_all
returns-else-contains_all c =
    ap (settled (Ok c.in-Ok.at)) (sym c.if-contains_all.false ∙ c.contains_all.ensures ∙ (λ i. contains_all (c.parts-2.ensures.root i) (c.parts.ensures.root i)))
    ∙ wider_counted c.args.old.now c.args.new.now (Ok c.in-Ok.at) (c.in-Ok.ensures ∙ (λ i. count_wider 0 (types_widen (c.parts.ensures.types i) (c.parts-2.ensures.types i))))
