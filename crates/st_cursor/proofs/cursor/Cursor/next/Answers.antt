use Rattle.std.proofs.Common.{◌∙◌, List, ap, subst, sym}
use Rattle.std.specs.Prelude.{Option, IfSome}
use Rattle.st_ids.specs.Root.{root}
use Rattle.st_marks.specs.Document.{Document}
use Rattle.st_cursor.specs.At.{IsBehind, IsIn, Leads}
use Rattle.st_cursor.specs.declared.hops.Hop.{Hop}
use Rattle.st_cursor.proofs.Ways.{gone_on, last_set, none_there}
use Rattle.st_cursor.proofs.cursor.Cursor.next.Goals as goal

pub returns-in-Some-clause-goes : goal.returns-in-Some-clause-goes
returns-in-Some-clause-goes c = λ D i.
    let b : IsBehind D c.args.self.now.hops c.in-Some.hop = subst (λ (o : Option Hop). IfSome o (λ h. (D : Document) → IsIn D c.args.self.now → IsBehind D c.args.self.now.hops h)) c.in-Some.is c.in_ok-next_hop.ensures.some D i in
    record {
      in_none = none_there c.args.self.now.field (sym c.is_some.ensures ∙ c.if-is_some.false);
      hop = c.in-Some.hop;
      next = b;
      goes = ap (λ (l : List Hop). record c.args.self.now { hops = l }) (c.set_last.ensures ∙ last_set c.args.self.now.hops b.front b.last c.in-Some.hop b.stands);
    }

pub returns-in-Some-clause-at : goal.returns-in-Some-clause-at
returns-in-Some-clause-at c = λ D i.
    let b : IsBehind D c.args.self.now.hops c.in-Some.hop = subst (λ (o : Option Hop). IfSome o (λ h. (D : Document) → IsIn D c.args.self.now → IsBehind D c.args.self.now.hops h)) c.in-Some.is c.in_ok-next_hop.ensures.some D i in
    record {
      tables = i.tables;
      way = subst (Leads D root) (sym (c.set_last.ensures ∙ last_set c.args.self.now.hops b.front b.last c.in-Some.hop b.stands)) (gone_on D c.args.self.now.hops c.in-Some.hop b i.way);
    }
