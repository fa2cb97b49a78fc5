-- The nodes that stand above others, as a change shows them.
use Rattle.std.proofs.Common.{◌≡◌, ◌+◌, true, ◌||◌, List, ◌++◌, length, map, Option, Some, None, option_map, refl, ap, ◌∙◌, inl, inr, subst}
use Rattle.std.proofs.lemmas.Option.{same_Some}
use Rattle.std.proofs.lemmas.List.{length-map}
use Rattle.std.specs.List.{find, list_any}
use Rattle.std.specs.Option.{option_or}
use Rattle.st_ids.specs.Listing.{Has}
use Rattle.st_ids.specs.Order.{same_node}
use Rattle.st_ids.specs.declared.names.NodeId.{NodeId}
use Rattle.st_ids.proofs.Orders.{same_node-itself}
use Rattle.st_lemmas.proofs.Bools.{or-right}
use Rattle.st_lemmas.proofs.Lists.{length-append}
use Rattle.st_marks.specs.declared.changes.Change.{Change}
use Rattle.st_marks.specs.declared.marks.RegMark.{RegMark}
use Rattle.st_marks.specs.declared.marks.RowMarks.{RowMarks}
use Rattle.st_marks.specs.Intent.{same_option}
use Rattle.st_marks.specs.Row.{spread}
use Rattle.st_marks.proofs.Members.{append_left, append_right, first-has, has-any, has-append, has-map, map-has}
use Rattle.st_void.specs.declared.standing.When.{When}
use Rattle.st_void.specs.Standing.{above_shown, held_by, stands}

-- the nodes that a change shows above others
abbrev pub all_above : Change → List NodeId
all_above C = map (λ (r : RowMarks). r.node) C.rows ++ map (λ (r : RegMark). r.field.node) C.regs

pub count_above : (C : Change) → length (all_above C) ≡ length C.rows + length C.regs
count_above C = length-append (map (λ (r : RowMarks). r.node) C.rows) (map (λ (r : RegMark). r.field.node) C.regs)
    ∙ ap (λ k. k + length (map (λ (r : RegMark). r.field.node) C.regs)) (length-map C.rows (λ (r : RowMarks). r.node))
    ∙ ap (λ k. length C.rows + k) (length-map C.regs (λ (r : RegMark). r.field.node))

pub is_above_some : (w : When) (C : Change) (x q : NodeId) → above_shown w C x ≡ Some q → Has (all_above C) q
is_above_some w C x q e = go (find (λ (r : RowMarks). list_any (stands w x) (spread r.marks)) C.rows) refl (find (λ (r : RegMark). same_option same_node (held_by w r) (Some x)) C.regs) refl e
  where
    go : (o : Option RowMarks) → find (λ (r : RowMarks). list_any (stands w x) (spread r.marks)) C.rows ≡ o → (p : Option RegMark) → find (λ (r : RegMark). same_option same_node (held_by w r) (Some x)) C.regs ≡ p → option_or (option_map (λ (r : RowMarks). r.node) o) (option_map (λ (r : RegMark). r.field.node) p) ≡ Some q → Has (all_above C) q
    go (Some r) h p i e = append_left (map (λ (r : RowMarks). r.node) C.rows) (map (λ (r : RegMark). r.field.node) C.regs) q (subst (Has (map (λ (r : RowMarks). r.node) C.rows)) (same_Some r.node q e) (map-has (λ (r : RowMarks). r.node) C.rows r (first-has (λ (r : RowMarks). list_any (stands w x) (spread r.marks)) C.rows r h).0))
    go None h (Some r) i e = append_right (map (λ (r : RowMarks). r.node) C.rows) (map (λ (r : RegMark). r.field.node) C.regs) q (subst (Has (map (λ (r : RegMark). r.field.node) C.regs)) (same_Some r.field.node q e) (map-has (λ (r : RegMark). r.field.node) C.regs r (first-has (λ (r : RegMark). same_option same_node (held_by w r) (Some x)) C.regs r i).0))
    go None h None i e = cc

-- a node above another has something listed
pub listed_if_above : (C : Change) (q : NodeId) → Has (all_above C) q → (list_any (λ (r : RowMarks). same_node r.node q) C.rows || list_any (λ (r : RegMark). same_node r.field.node q) C.regs) ≡ true
listed_if_above C q h = elim (has-append (map (λ (r : RowMarks). r.node) C.rows) (map (λ (r : RegMark). r.field.node) C.regs) q h) [
  | inl w ↦ (
      let r = has-map (λ (r : RowMarks). r.node) C.rows q w in
      ap (λ b. b || list_any (λ (r : RegMark). same_node r.field.node q) C.regs) (has-any (λ (r : RowMarks). same_node r.node q) C.rows r.0 r.1 (ap (λ n. same_node n q) r.2 ∙ same_node-itself q))
      )
  | inr w ↦ (
      let r = has-map (λ (r : RegMark). r.field.node) C.regs q w in
      or-right (list_any (λ (r : RowMarks). same_node r.node q) C.rows) (list_any (λ (r : RegMark). same_node r.field.node q) C.regs) (has-any (λ (r : RegMark). same_node r.field.node q) C.regs r.0 r.1 (ap (λ n. same_node n q) r.2 ∙ same_node-itself q))
      )
]
