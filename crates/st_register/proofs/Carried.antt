-- What a change does to its register.
use Rattle.std.proofs.Common.{◌≡◌, Bool, true, false, ◌&&◌, Option, cond, refl, sym, ap, ◌∙◌}
use Rattle.std.specs.Option.{option_map_or}
use Rattle.st_ids.specs.declared.names.NodeId.{NodeId}
use Rattle.st_marks.specs.declared.marks.How.{How}
use Rattle.st_marks.specs.Register.{comes_in}
use Rattle.st_register.specs.declared.values.RegChange.{RegChange}
use Rattle.st_register.specs.declared.values.RegHeld.{RegHeld}
use Rattle.st_register.specs.declared.values.RegSwap.{RegSwap}
use Rattle.st_register.specs.Register.{RegPart, RegFits, RegKeeps, RegCanHold, RegLeadsOver, reg_carried, reg_change_of, held_void}
use Rattle.st_register.specs.Readings.{left_by}
use Rattle.st_register.specs.inside.Readings.{put_by, left_void_by, how_by, makes_by}
use Rattle.st_register.proofs.Registers.{put_is, left_is, void_is, how_is, new_is}

-- who is there after the part, void or whole
pub carried_is : (p : RegPart) (c : RegHeld) (void : Bool) (x : RegChange) → RegFits p c → x ≡ reg_change_of p c → cond void (left_void_by x) (left_by x) ≡ (reg_carried p void c).node
carried_is p c true x w e = ap left_void_by e ∙ void_is p c.node w
carried_is p c false x w e = ap left_by e ∙ left_is p c.node w

pub effect_is : (p : RegPart) (c : RegHeld) (void : Bool) (x : RegChange) (after : Option NodeId) → RegFits p c → x ≡ reg_change_of p c → after ≡ cond void (left_void_by x) (left_by x) → RegCanHold (reg_carried p void c)
    → RegLeadsOver c (reg_carried p void c) (record { before = x.held; after = after })
effect_is p c void x after w e a h = record {
  before = w.content;
  after = h;
  swap = λ i. record { before = (ap (λ (y : RegChange). y.held) e) i; after = (a ∙ carried_is p c void x w e) i };
}

-- ## The change after a step

module _ (p : RegPart) (c d : RegHeld) (x : RegChange) (held put : Option NodeId) (w : RegFits p c) (h : d.node ≡ held) (e : x ≡ reg_change_of p c) (r : put ≡ put_by x) where
  put_there : put ≡ p.part.fill
  put_there = r ∙ ap put_by e ∙ put_is p c.node w

  comes : (fill : Option NodeId) → fill ≡ comes_in held put → fill ≡ comes_in d.node p.part.fill
  comes fill f = f ∙ (λ i. comes_in (sym h i) (put_there i))

  is_new : (fill : Option NodeId) (b : Bool) → fill ≡ comes_in held put → b ≡ option_map_or (makes_by x) fill false → b ≡ option_map_or p.makes (comes_in d.node p.part.fill) false
  is_new fill b f n = n ∙ (λ i. option_map_or (makes_by (e i)) (comes fill f i) false) ∙ new_is p c.node d.node w

  pub moved_is : (how : How) (fill : Option NodeId) (fill_new : Bool) → RegKeeps p c d → how ≡ how_by x held → fill ≡ comes_in held put → fill_new ≡ option_map_or (makes_by x) fill false
      → ◌≡◌ {A = RegChange} (record { rev = x.rev; in_new = x.in_new; held = held; how = how; clear = x.clear; fill = fill; fill_new = fill_new }) (reg_change_of p d)
  moved_is how fill fill_new k g f n = λ i. record {
    rev = (e i).rev;
    in_new = (e i).in_new;
    held = sym h i;
    how = (g ∙ (λ j. how_by (e j) (sym h j)) ∙ how_is p c.node d.node w k) i;
    clear = (e i).clear;
    fill = comes fill f i;
    fill_new = is_new fill fill_new f n i;
  }

  pub moved_void : (how : How) (fill : Option NodeId) (fill_new : Bool) → RegFits p d → fill ≡ comes_in held put → fill_new ≡ option_map_or (makes_by x) fill false
      → left_void_by (record { rev = x.rev; in_new = x.in_new; held = held; how = how; clear = x.clear; fill = fill; fill_new = fill_new }) ≡ held_void p d.node
  moved_void how fill fill_new v f n = (λ i. cond ((e i).in_new && is_new fill fill_new f n i) (comes fill f i) (sym h i)) ∙ void_is p d.node v

-- ## The step after a change

pub bridged_is : (p : RegPart) (c d : RegHeld) (s : RegSwap) (x y : RegChange) (before after : Option NodeId) (was is : Bool) → RegFits p c → RegFits p d → (is ≡ false → RegKeeps p c d) → x ≡ reg_change_of p c → RegLeadsOver c d s
    → RegCanHold (reg_carried p was c) → RegCanHold (reg_carried p is d) → (RegKeeps p c d → d.node ≡ s.after → y ≡ reg_change_of p d) → (d.node ≡ s.after → left_void_by y ≡ held_void p d.node)
    → before ≡ cond was (left_void_by x) (left_by x) → after ≡ cond is (left_void_by y) (left_by y) → RegLeadsOver (reg_carried p was c) (reg_carried p is d) (record { before = before; after = after })
bridged_is p c d s x y before after was is w v k e l h g kept void b a = record {
  before = h;
  after = g;
  swap = λ i. record { before = (b ∙ carried_is p c was x w e) i; after = (a ∙ go is k) i };
}
  where
    to : d.node ≡ s.after
    to = sym (ap (λ (t : RegSwap). t.after) l.swap)

    go : (is : Bool) → (is ≡ false → RegKeeps p c d) → cond is (left_void_by y) (left_by y) ≡ (reg_carried p is d).node
    go true k = void to
    go false k = carried_is p d false y v (kept (k refl) to)
