use Rattle.std.proofs.Common.{◌↔◌, ◌⊎◌, ◌++◌, IsTrue, List, subst, ap, ◌∙◌}
use Rattle.std.specs.List.{AllByRecursion, flat_map}
use Rattle.st_ids.specs.Listing.{Has}
use Rattle.st_ids.specs.declared.names.NodeId.{NodeId}
use Rattle.st_normal.specs.declared.entries.Found.{Found}
use Rattle.st_marks.specs.declared.marks.Loose.{Loose}
use Rattle.st_marks.specs.declared.marks.RegMark.{RegMark}
use Rattle.st_normal.specs.Rules.{HasListedField, found_in, found_loose, in_rows, kept_at, entries_of_change}
use Rattle.st_marks.specs.How.{is_stay}
use Rattle.st_normal.proofs.Tells.{all_staying}
use Rattle.st_normal.proofs.change_check.staying_are_mentioned.Goals as goal

pub returns : goal.returns
returns c =
    let C = c.args.look.now.lists.0.now in
    let P = λ (need : List NodeId) (n : NodeId). Has need n ⊎ HasListedField (entries_of_change C) n in
    let Q = λ (need : List NodeId) (fs : List Found). IsTrue c.each.result ↔ AllByRecursion (λ (f : Found). IsTrue (is_stay f.how) → P need f.node) fs in
    let need = c.of-need.result.walk.items.now in
    let a = subst (λ (xs : List Found). Q need (xs ++ (flat_map kept_at c.as_slice-2.result.now ++ found_loose c.as_slice-3.result.now))) (c.in_rows.ensures ∙ ap (in_rows found_in) c.as_slice-4.ensures) c.each.ensures in
    let b = subst (λ (rs : List RegMark). Q need (in_rows found_in C.rows ++ (flat_map kept_at rs ++ found_loose c.as_slice-3.result.now))) c.as_slice-2.ensures a in
    let d = subst (λ (ls : List Loose). Q need (in_rows found_in C.rows ++ (flat_map kept_at C.regs ++ found_loose ls))) c.as_slice-3.ensures b in
    let e = subst (λ (ns : List NodeId). Q ns (in_rows found_in C.rows ++ (flat_map kept_at C.regs ++ found_loose C.loose))) (ap (λ w. w.items.now) c.of-need.ensures.walk ∙ c.as_slice.ensures) d in
    let m = all_staying (P C.need) (in_rows found_in C.rows ++ (flat_map kept_at C.regs ++ found_loose C.loose)) in
    (λ t. m.0 (e.0 t), λ h. e.1 (m.1 h))
