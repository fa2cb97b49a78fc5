use Rattle.std.proofs.Common.{◌≡◌, ◌∙◌, ap, subst, sym}
use Rattle.std.specs.Prelude.{Some}
use Rattle.st_edits.specs.Paths.{child}
use Rattle.st_cursor.specs.At.{IsIn, node_of, place_at}
use Rattle.st_cursor.proofs.Ways.{entered_way}
use Rattle.st_cursor.proofs.cursor.Cursor.enter_node.Goals as goal

pub returns-in_ok-hop_down-in-Some-2-clause-at : goal.returns-in_ok-hop_down-in-Some-2-clause-at
returns-in_ok-hop_down-in-Some-2-clause-at c = λ D i.
    let place = place_at c.in_ok-key-in-Some.key c.args.index in
    let there : child D (node_of c.args.self.now) place ≡ Some c.in-Some-2.node =
    ap (λ n. child D n place) (sym c.node.ensures) ∙ sym (c.in_ok-item_at.ensures.item D i.tables) ∙ c.in-Some-2.is in
    subst (IsIn D) (sym c.in_ok-hop_down-in-Some-2.ensures.goes) (record { tables = i.tables; way = entered_way D c.args.self.now.hops place c.in-Some-2.node i.way there })
