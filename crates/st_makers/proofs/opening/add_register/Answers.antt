use Rattle.std.proofs.Common.{◌≡◌, true, false, Some, None, cond, ap, sym, ◌∙◌}
use Rattle.std.specs.BTreeMap.{get}
use Rattle.std.specs.Option.{option_or}
use Rattle.st_ids.specs.Order.{node_cmp, same_rev}
use Rattle.st_ids.specs.Root.{opening}
use Rattle.st_lemmas.proofs.Options.{option_or-None}
use Rattle.st_doc.specs.Doc.{document_of}
use Rattle.st_makers.proofs.Openings.{stands_by}
use Rattle.st_makers.proofs.opening.add_register.Goals as goal

pub returns-in_ok-add_home : goal.returns-in_ok-add_home
returns-in_ok-add_home c = λ n.
    let node = c.in-Some.node in
    let t : same_rev node.0.rev opening ≡ true = sym c.is_same_rev.ensures ∙ c.if-is_same_rev.true in
    c.in_ok-add_home.ensures n
    ∙ ap (λ b. option_or (get node_cmp c.args.homes.now n) (cond b (Some c.args.field.now) None)) (sym (stands_by (document_of c.args.doc.now) c.args.field.now node n true (sym c.held.ensures ∙ c.in-Some.is) t))

pub returns-else-is_same_rev : goal.returns-else-is_same_rev
returns-else-is_same_rev c = λ n.
    let node = c.in-Some.node in
    let t : same_rev node.0.rev opening ≡ false = sym c.is_same_rev.ensures ∙ c.if-is_same_rev.false in
    sym (option_or-None (get node_cmp c.args.homes.now n))
    ∙ ap (λ b. option_or (get node_cmp c.args.homes.now n) (cond b (Some c.args.field.now) None)) (sym (stands_by (document_of c.args.doc.now) c.args.field.now node n false (sym c.held.ensures ∙ c.in-Some.is) t))
