-- what is written, and then the items that are left, are all items
use Rattle.std.proofs.Common.{◌≡◌, ◌++◌, false, map, drop}
use Rattle.serde_json.specs.View.{items_of}
use Rattle.serde_json.specs.Written.{items_text}
use Rattle.st_change_writer.proofs.lists.push_list.Given as goal

abbrev pub invariant-loop-item : goal.invariant-loop-item
invariant-loop-item g l =
    let told = g.W.PushItem.told l.writer in
    l.out ++ items_text l.later (items_of (map told (drop l.item-index l.items))) ≡ l.initial.out ++ items_text false (items_of (map told l.items))
