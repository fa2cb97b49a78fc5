-- The law of the kind of registers gives what is asked of a register over what is left of a step.
use Rattle.std.proofs.Common.{◌≡◌, Bool, false, List, Option, Some, sym, ap, ◌∙◌, subst}
use Rattle.std.specs.Option.{option_map_or}
use Rattle.st_ids.specs.declared.names.NodeId.{NodeId}
use Rattle.st_ids.specs.declared.names.Rev.{Rev}
use Rattle.st_marks.specs.declared.marks.RegMark.{RegMark}
use Rattle.st_marks.specs.declared.marks.RegStep.{RegStep}
use Rattle.st_marks.specs.Embedding.{is_among}
use Rattle.st_register.specs.Register.{RegPart, RegFits, RegKeeps, RegLeadsOver, reg_change_of}
use Rattle.st_register.specs.Readings.{as_mark}
use Rattle.st_register.specs.declared.values.RegChange.{RegChange}
use Rattle.st_register.specs.declared.values.RegHeld.{RegHeld}
use Rattle.st_register.specs.declared.values.RegSwap.{RegSwap}
use Rattle.st_rebase.specs.Registers.{IsRegPartOf, RegBecomes}

-- what a mark says of a register, as the change of a commit that makes these nodes
abbrev pub change_in : Rev → List NodeId → RegMark → RegChange
change_in rev new r = record {
  rev = rev;
  in_new = is_among new r.field.node;
  held = r.held;
  how = r.how;
  clear = r.clear;
  fill = r.fill;
  fill_new = option_map_or (is_among new) r.fill false;
}

-- what the law of registers says of a change, what is left of a step, and the change over it
abbrev pub IsLaw : RegChange → RegSwap → RegChange → Type 0
IsLaw change rest over = (p : RegPart) (c d : RegHeld) → RegFits p c → RegFits p d → RegKeeps p c d
    → change ≡ reg_change_of p c → RegLeadsOver c d rest → over ≡ reg_change_of p d

-- the change that the mark lists is that of the part
pub change_in-part : (rev : Rev) (new : List NodeId) (r : RegMark) (p : RegPart) (c : RegHeld) → IsRegPartOf rev new p → r ≡ as_mark p.field (reg_change_of p c) → change_in rev new r ≡ reg_change_of p c
change_in-part rev new r p c part e = λ i. record {
  rev = sym part.0 i;
  in_new = (ap (λ (q : RegMark). is_among new q.field.node) e ∙ sym (part.1 p.field.node)) i;
  held = (e i).held;
  how = (e i).how;
  clear = (e i).clear;
  fill = (e i).fill;
  fill_new = (ap (λ (q : RegMark). option_map_or (is_among new) q.fill false) e ∙ ap (λ (made : NodeId → Bool). option_map_or made (reg_change_of p c).fill false) (λ j n. sym (part.1 n) j)) i;
}

-- so the register becomes what is asked
pub register_law : (rev : Rev) (new : List NodeId) (r : RegMark) (s : RegStep) (over : RegChange)
    → IsLaw (change_in rev new r) (record { before = r.held; after = s.after }) over
    → RegBecomes rev new (Some s) r (as_mark r.field over)
register_law rev new r s over law = λ p c d part fc fd keeps mark leads.
    let held : r.held ≡ c.node = ap (λ (q : RegMark). q.held) mark in
    let rest : RegLeadsOver c d (record { before = r.held; after = s.after }) = subst (λ (h : Option NodeId). RegLeadsOver c d (record { before = h; after = s.after })) (sym held) leads in
    let same : over ≡ reg_change_of p d = law p c d fc fd keeps (change_in-part rev new r p c part mark) rest in
    λ i. as_mark ((ap (λ (q : RegMark). q.field) mark) i) (same i)
