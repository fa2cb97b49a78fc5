-- A part that fits has a change, and a step leads from each content to each other one.
use Rattle.std.proofs.Common.{◌≡◌, ◌≢◌, ◌||◌, Bool, true, false, not, Option, Some, None, cond, refl, sym, ◌∙◌, is_some}
use Rattle.std.specs.Option.{option_or}
use Rattle.st_ids.specs.Listing.{item_of}
use Rattle.st_ids.specs.Order.{field_cmp, same_node}
use Rattle.st_ids.specs.declared.names.FieldId.{FieldId}
use Rattle.st_ids.specs.declared.names.NodeId.{NodeId}
use Rattle.st_marks.specs.declared.changes.Change.{Change}
use Rattle.st_marks.specs.declared.intents.Intent.{Intent}
use Rattle.st_marks.specs.declared.intents.To.{To}
use Rattle.st_marks.specs.declared.marks.RegMark.{RegMark}
use Rattle.st_marks.specs.declared.marks.RegStep.{RegStep}
use Rattle.st_marks.specs.declared.steps.Step.{Step}
use Rattle.st_marks.specs.Document.{Document, IsSoundInForm}
use Rattle.st_ids.specs.Root.{root}
use Rattle.st_marks.specs.Embedding.{IsEmbedding}
use Rattle.st_marks.specs.Extends.{IsExtendedBy}
use Rattle.st_marks.specs.Intent.{Fits, same_option}
use Rattle.st_marks.specs.Register.{holds_mentioned}
use Rattle.st_marks.specs.Step.{IsStep}
use Rattle.st_register.specs.Existence.{HasChange, HasStep}
use Rattle.st_register.specs.Register.{RegCanHold, RegFits, RegPart, reg_carried, reg_change_of, only_made, reg_part_of, unless_put}
use Rattle.st_register.specs.Readings.{as_mark, as_step}
use Rattle.st_register.specs.declared.values.RegHeld.{RegHeld}
use Rattle.st_register.proofs.Documents.{can_hold, part_fits}

-- ## Over contents

module _ (p : RegPart) (c : RegHeld) (w : RegFits p c) where
  root_put : p.part.fill ≢ Some root
  root_put e = let bad : ◌≡◌ {A = Option To} None (Some (To.Register p.field)) = sym w.root_stays ∙ (w.put_here root).1 e in cc

  root_kept : (o : Option NodeId) → o ≢ Some root → unless_put p.part.target_of o ≢ Some root
  root_kept None h e = cc
  root_kept (Some n) h e = go (is_some (p.part.target_of n)) e
    where
      go : (b : Bool) → cond b None (Some n) ≡ Some root → ⊥
      go true e = cc
      go false e = h e

  whole_holds : RegCanHold (reg_carried p false c)
  whole_holds = go p.part.fill refl p.part.clear
    where
      go : (fill : Option NodeId) → p.part.fill ≡ fill → (b : Bool) → option_or fill (cond b None (unless_put p.part.target_of c.node)) ≢ Some root
      go (Some n) f b = λ e. root_put (f ∙ e)
      go None f true = λ e. cc
      go None f false = root_kept c.node w.content

  made_root : (fill : Option NodeId) → fill ≢ Some root → only_made p.makes fill ≢ Some root
  made_root None h e = cc
  made_root (Some n) h e = go (p.makes n) e
    where
      go : (b : Bool) → cond b (Some n) None ≡ Some root → ⊥
      go true e = h e
      go false e = cc

  void_holds : RegCanHold (reg_carried p true c)
  void_holds = go (p.makes p.field.node)
    where
      go : (b : Bool) → cond b (only_made p.makes p.part.fill) c.node ≢ Some root
      go true = made_root p.part.fill root_put
      go false = w.content

  pub has_change : HasChange p c
  has_change = record { change = reg_change_of p c; says = refl; whole = whole_holds; void = void_holds }

pub has_step : (c d : RegHeld) → RegCanHold c → RegCanHold d → HasStep c d
has_step c d w v = record { step = record { before = c.node; after = d.node }; leads = record { before = w; after = v; swap = refl } }

-- ## Over documents

-- what a register of a document holds
abbrev holding : Document → FieldId → RegHeld
holding D f = record { node = D.held f }

pub part_has_change : (D : Document) (N : Intent) (m : NodeId → Bool) (f : FieldId) → IsSoundInForm D → Fits D N → HasChange (reg_part_of m N f) (holding D f)
part_has_change D N m f x w = has_change (reg_part_of m N f) (holding D f) (part_fits D N m f x w)

pub change_there : (D : Document) (N : Intent) (C : Change) (f : FieldId) (e : IsEmbedding D N C) → IsSoundInForm D → Fits D N
    → RegFits (reg_part_of e.mentioned N f) (holding D f)
    × ((h : HasChange (reg_part_of e.mentioned N f) (holding D f))
    × (item_of field_cmp (λ (r : RegMark). r.field) C.regs f ≡ cond (h.change.clear || holds_mentioned e.mentioned h.change.held) (Some (as_mark f h.change)) None))
unfolding has_change
change_there D N C f e x w =
    let fits = part_fits D N e.mentioned f x w in
    (fits, (has_change (reg_part_of e.mentioned N f) (holding D f) fits, e.regs.at_each f))

pub step_between : (D E : Document) (f : FieldId) → IsExtendedBy D E → HasStep (holding D f) (holding E f)
step_between D E f x = has_step (holding D f) (holding E f) (can_hold D f x.before) (can_hold E f x.after)

pub step_there : (D E : Document) (S : Step) (f : FieldId) (s : IsStep D E S) → IsExtendedBy D E
    → (h : HasStep (holding D f) (holding E f))
    × (item_of field_cmp (λ (r : RegStep). r.field) S.regs f ≡ cond (not (same_option same_node h.step.before h.step.after) || holds_mentioned s.mentioned h.step.before) (Some (as_step f h.step)) None)
unfolding step_between has_step
step_there D E S f s x = (step_between D E f x, s.regs.at_each f)
