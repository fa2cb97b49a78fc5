use Rattle.std.proofs.Common.{◌≡◌, ◌∙◌, ap, arith}
use Rattle.std.proofs.lemmas.List.{nil_from_length}
use Rattle.std.specs.Vec.Iter.{into_iter_items}
use Rattle.serde_json.specs.Data.{no_members}
use Rattle.serde_json.specs.View.{members_view}
use Rattle.std.specs.BTreeMap.Range.{entries_between}
use Rattle.std.specs.declared.ops.Bound.TheVariants.{Included, Unbounded}
use Rattle.st_ids.specs.Order.{field_cmp}
use Rattle.st_doc.specs.inside.LiveText.{seats_of}
use Rattle.st_export.proofs.InTurn.{puts, puts_more, puts_end, puts_in_order}
use Rattle.st_export.specs.inside.Members.{members_with}
use Rattle.st_export.proofs.registers.members_of.Goals as goal

pub loop-value-init : goal.loop-value-init
loop-value-init c = ap (λ es. puts c.range-registers.result (into_iter_items c.into_iter-value-iterator.result) (members_view es)) c.new-members.ensures.empty

pub loop-value-preserved : goal.loop-value-preserved
loop-value-preserved c =
    puts_more c.put_next.new.registers c.loop-value.registers (into_iter_items c.next.new.self) (into_iter_items c.loop-value.value-iterator) c.in-Some.value
    (members_view c.loop-value.members.entries) (members_view c.put_next.new.members.entries) (puts c.range-registers.result (into_iter_items c.into_iter-value-iterator.result) no_members)
    c.put_next.ensures.rest c.in-Some.ensures.steps.0 c.in_ok-put_next.ensures.members c.loop-value.invariant

pub returns-clause-members : goal.returns-clause-members
returns-clause-members c =
    let node = c.args.node in
    let entries = c.args.held.now.entries in
    let values = c.args.values.items in
    let ms = members_view c.loop-value.members.entries in
    let whole = puts c.range-registers.result (into_iter_items c.into_iter-value-iterator.result) no_members in
    let all : whole ≡ members_with (seats_of node entries) values =
    ap (λ es. puts es (into_iter_items c.into_iter-value-iterator.result) no_members) (c.range-registers.ensures.between tt)
    ∙ (λ i. puts (entries_between field_cmp (Included (c.first_name.ensures i)) Unbounded entries) (c.into_iter-value-iterator.ensures.into_iter_gives.0 i) no_members)
    ∙ puts_in_order node entries values c.range-registers.ensures.ordered c.requires in
    puts_end c.loop-value.registers (into_iter_items c.loop-value.value-iterator) ms whole
    (nil_from_length _ (omega (arith, c.in-None.ensures.steps.0, c.loop-value.value-iterator.rest.ok.0))) c.loop-value.invariant ∙ all
