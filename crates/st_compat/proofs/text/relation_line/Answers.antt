use Rattle.std.proofs.Common.{◌≡◌, IfOk, sym, subst}
use Rattle.st_compat.specs.RelationText.{relation_line}
use Rattle.st_compat.specs.declared.relation.Relation.{Relation}
use Rattle.st_compat.proofs.text.relation_line.Goals as goal

pub returns-in-Viewable : goal.returns-in-Viewable
returns-in-Viewable c = subst (λ (r : Relation). IfOk c.view_line-in-Viewable.result (λ t. t ≡ relation_line r)) (sym c.in-Viewable.is) c.view_line-in-Viewable.ensures
