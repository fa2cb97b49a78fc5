use Rattle.std.proofs.Common.{subst}
use Rattle.std.specs.BTreeMap.{get}
use Rattle.st_ids.specs.Order.{node_cmp}
use Rattle.st_lemmas.proofs.Options.{IfOk-along}
use Rattle.st_marks.specs.declared.changes.Change.{Change}
use Rattle.st_marks.specs.declared.steps.Step.{Step}
use Rattle.st_puts.specs.Mentions.{place_in}
use Rattle.st_read_laws.specs.Reading.{read_step}
use Rattle.st_over.specs.inside.Fields.{AreOver, HasFields}
use Rattle.st_over.proofs.ReadFields.{fields_there}
use Rattle.st_over.proofs.Shown.{shown}
use Rattle.st_over.proofs.change.fields_with.Goals as goal

pub returns : goal.returns
returns g c = λ D E N x f h change step puts right.
    let l = g.R.Reading.listed in
    let P = get node_cmp c.args.puts.now in
    let named = c.in_ok-named.named in
    let w = c.in_ok-named.ensures D E N x f h (shown l D N c.args.change.now change) right in
    IfOk-along c.fields_over.result (λ q. AreOver l P (place_in c.args.places.now) named c.args.change.now c.args.step.now q.rows q.regs q.loose) (λ q. HasFields l E N q.rows q.regs q.loose)
    (λ q over. fields_there l D E N x f h change.0 step.0 change.1 step.1 P puts c.args.places.now right named w q.rows q.regs q.loose
    (subst (λ (C : Change). AreOver l P (place_in c.args.places.now) named C (read_step l step.0) q.rows q.regs q.loose) change.2
    (subst (λ (S : Step). AreOver l P (place_in c.args.places.now) named c.args.change.now S q.rows q.regs q.loose) step.2 over)))
    c.fields_over.ensures
