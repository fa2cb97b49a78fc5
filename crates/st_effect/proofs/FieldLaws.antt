-- What the laws of the kinds of fields say of rows and registers that a change lists.
use Rattle.std.proofs.Common.{◌≡◌, Bool, true, false, List, [], ◌∷◌, map, refl, sym, ap, ◌∙◌, subst}
use Rattle.std.specs.Option.{option_map_or}
use Rattle.st_ids.specs.declared.names.NodeId.{NodeId}
use Rattle.st_ids.specs.declared.names.Rev.{Rev}
use Rattle.st_marks.specs.declared.marks.RegMark.{RegMark}
use Rattle.st_marks.specs.declared.marks.RowMarks.{RowMarks}
use Rattle.st_marks.specs.Embedding.{is_among}
use Rattle.st_marks.specs.Row.{embed_row, merge, spread}
use Rattle.st_register.specs.Readings.{as_mark}
use Rattle.st_register.specs.Register.{RegCanHold, RegFits, RegLeadsOver, RegPart, reg_carried, reg_change_of}
use Rattle.st_register.specs.declared.values.RegChange.{RegChange}
use Rattle.st_register.specs.declared.values.RegHeld.{RegHeld}
use Rattle.st_register.specs.declared.values.RegSwap.{RegSwap}
use Rattle.st_rows.specs.Cells.{effect_row, void_row}
use Rattle.st_rows.specs.Changes.{placed_by, void_part}
use Rattle.st_rows.specs.Sequence.{row_change_of}
use Rattle.st_rows.proofs.KindLaws.{spread_of}
use Rattle.st_rows.proofs.PartsThatFit.{change_is, old_placed}
use Rattle.st_rows.proofs.RowEffects.{effect_row-embed_row, grown_row}
use Rattle.st_rows.proofs.VoidRows.{void_row-embed_row}
use Rattle.st_effect.specs.inside.Done.{AreRowsDone, IsRegisterDone, IsRowDone, row_done}

-- ## Rows

-- what is done with a row says what a commit does to it, void or not
pub row_law : (void : Bool) (new : List NodeId) (r : RowMarks) → IsRowDone void new r (row_done void new r)
row_law false new r = λ p c own listed w says. record {
  grows = grown_row p.part c;
  says = ap merge (ap effect_row (spread_of r.marks (embed_row p.part c) says) ∙ effect_row-embed_row p.part c (change_is p c (row_change_of p c) w refl).mentions);
}
row_law true new r = λ p c own listed w says.
    let placed = placed_by p.in_new p.new in
    let same : placed_by (is_among new r.node) new ≡ placed = λ i. placed_by (sym own i) (sym listed i) in
    record {
      grows = grown_row (void_part placed p.part) c;
      says = ap merge ((λ i. void_row (same i) (spread r.marks)) ∙ ap (void_row placed) (spread_of r.marks (embed_row p.part c) says) ∙ void_row-embed_row placed p.part c (old_placed p.in_new p.new c w.old));
    }

pub rows_law : (void : Bool) (new : List NodeId) (rows done : List RowMarks) → done ≡ map (row_done void new) rows → AreRowsDone void new rows done
rows_law void new rows done e = subst (AreRowsDone void new rows) (sym e) (each rows)
  where
    each : (rows : List RowMarks) → AreRowsDone void new rows (map (row_done void new) rows)
    each [] = tt
    each (r ∷ rows) = (refl, row_law void new r, each rows)

-- ## Registers

-- what a mark says of a register, as the change of a commit that makes these nodes
abbrev pub change_in : Rev → List NodeId → RegMark → RegChange
change_in rev new r = record {
  rev = rev;
  in_new = is_among new r.field.node;
  held = r.held;
  how = r.how;
  clear = r.clear;
  fill = r.fill;
  fill_new = option_map_or (is_among new) r.fill false;
}

-- the change that the mark lists is that of the part
change_in-part : (rev : Rev) (new : List NodeId) (r : RegMark) (p : RegPart) (c : RegHeld) → p.rev ≡ rev → ((n : NodeId) → p.makes n ≡ is_among new n) → r ≡ as_mark p.field (reg_change_of p c) → change_in rev new r ≡ reg_change_of p c
change_in-part rev new r p c own makes e = λ i. record {
  rev = sym own i;
  in_new = (ap (λ (q : RegMark). is_among new q.field.node) e ∙ sym (makes p.field.node)) i;
  held = (e i).held;
  how = (e i).how;
  clear = (e i).clear;
  fill = (e i).fill;
  fill_new = (ap (λ (q : RegMark). option_map_or (is_among new) q.fill false) e ∙ ap (λ (made : NodeId → Bool). option_map_or made (reg_change_of p c).fill false) (λ j n. sym (makes n) j)) i;
}

-- what the law of registers says of a change
abbrev pub IsSwapLaw : Bool → RegChange → RegSwap → Type 0
IsSwapLaw void change s = (p : RegPart) (c : RegHeld) → RegFits p c → change ≡ reg_change_of p c → RegCanHold (reg_carried p void c) → RegLeadsOver c (reg_carried p void c) s

pub swap_law : (void : Bool) (rev : Rev) (new : List NodeId) (r : RegMark) (s : RegSwap) → IsSwapLaw void (change_in rev new r) s → IsRegisterDone void rev new r (record { field = r.field; before = s.before; after = s.after })
swap_law void rev new r s law = λ p c own makes w can mark.
    let l = law p c w (change_in-part rev new r p c own makes mark) can in
    λ i. record { field = (mark i).field; before = (l.swap i).before; after = (l.swap i).after }
