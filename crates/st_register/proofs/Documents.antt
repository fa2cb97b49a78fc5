-- A register of a document as a field.
use Rattle.std.proofs.Common.{◌≡◌, ℕ, Bool, true, false, ◌||◌, not, List, [], Option, Some, None, cond, refl, sym, ap, ◌∙◌, IfSome, IsSome, is_some}
use Rattle.std.specs.Option.{option_or, option_map_or}
use Rattle.st_ids.specs.Order.{same_node}
use Rattle.st_ids.specs.declared.names.FieldId.{FieldId}
use Rattle.st_ids.specs.declared.names.NodeId.{NodeId}
use Rattle.st_marks.specs.declared.changes.NewNode.{NewNode}
use Rattle.st_marks.specs.declared.intents.Intent.{Intent}
use Rattle.st_marks.specs.declared.intents.To.{To}
use Rattle.st_marks.specs.declared.places.Spot.{Spot}
use Rattle.st_marks.specs.Back.{retreat, unless_in}
use Rattle.st_marks.specs.CarryOut.{full, void, only_new}
use Rattle.st_marks.specs.CarryOut as carry
use Rattle.st_marks.specs.Document.{Document, IsSoundInForm}
use Rattle.st_ids.specs.Root.{root}
use Rattle.st_marks.specs.Extends.{IsExtendedBy}
use Rattle.st_marks.specs.Intent.{Fits, is_new, put_of, put_in, clears, same_option}
use Rattle.st_marks.specs.Register.{embed_register, holds_mentioned, step_register}
use Rattle.st_marks.proofs.Lookups.{put-has, has-put, put_in-has, has-put_in, put_clears}
use Rattle.st_register.specs.declared.values.RegHeld.{RegHeld}
use Rattle.st_register.specs.declared.values.RegSwap.{RegSwap}
use Rattle.st_register.specs.Register.{RegPart, RegCanHold, RegFits, RegLeadsOver, reg_carried, reg_change_of, reg_part_of, unless_put, only_made}
use Rattle.st_register.specs.Readings.{as_mark, as_step}
use Rattle.st_register.proofs.Occupants.{not_true}
use Rattle.st_marks.proofs.Shared.{new_node-rev, not_made}

-- ## What is listed

pub change_is : (p : RegPart) (c : RegHeld) → embed_register p.field p.part c.node ≡ cond (p.part.clear || holds_mentioned p.part.mentioned c.node) (Some (as_mark p.field (reg_change_of p c))) None
change_is p c = refl

pub step_is : (f : FieldId) (m : NodeId → Bool) (c d : RegHeld) (s : RegSwap) → RegLeadsOver c d s → step_register f m c.node d.node ≡ cond (not (same_option same_node c.node d.node) || holds_mentioned m c.node) (Some (as_step f s)) None
step_is f m c d s l = ap (λ (t : RegSwap). cond (not (same_option same_node c.node d.node) || holds_mentioned m c.node) (Some (as_step f t)) None) (sym l.swap)

-- no register of a document holds the root
pub can_hold : (D : Document) (f : FieldId) → IsSoundInForm D → RegCanHold (record { node = D.held f })
can_hold D f x e = let q : ◌≡◌ {A = Spot} Spot.Nowhere (Spot.Register f) = sym x.root_nowhere ∙ (x.one_held root f).0 e in cc

-- the step of a whole step leads from a register to the register after it
pub document_is : (D E : Document) (f : FieldId) → IsExtendedBy D E → RegLeadsOver (record { node = D.held f }) (record { node = E.held f }) (record { before = D.held f; after = E.held f })
document_is D E f x = record { before = can_hold D f x.before; after = can_hold E f x.after; swap = refl }

-- ## The part of an intent

pub if_some : (o : Option NodeId) (P : NodeId → Type 0) → ((n : NodeId) → o ≡ Some n → P n) → IfSome o P
if_some None P h = tt
if_some (Some n) P h = h n refl

pub part_fits : (D : Document) (N : Intent) (m : NodeId → Bool) (f : FieldId) → IsSoundInForm D → Fits D N → RegFits (reg_part_of m N f) (record { node = D.held f })
part_fits D N m f x w = record {
  content = λ e. let q : Spot.Nowhere ≡ Spot.Register f = sym x.root_nowhere ∙ (x.one_held root f).0 e in cc;
  cleared = if_some (put_in N f) (λ _. clears N f ≡ true) (λ n e. put_clears N w.itself n f (put_in-has N f n e));
  put_here = λ n. (λ e. has-put_in N w.itself n f (put-has N n (To.Register f) e), λ e. has-put N w.itself (record { node = n; to = To.Register f }) (put_in-has N f n e));
  root_stays = w.itself.root_stays;
  made = new_node-rev N w.itself;
  old = if_some (D.held f) (λ n. (is_new N n ≡ false) × (is_new N f.node ≡ false)) (λ n e. (not_made D N w n (x.held_known n f e).0, not_made D N w f.node (x.held_known n f e).1));
}

-- ## Carrying out

unless_put_is : (N : Intent) (o : Option NodeId) → carry.unless_put N o ≡ unless_put (put_of N) o
unless_put_is N None = refl
unless_put_is N (Some n) = refl

pub whole_is : (D : Document) (N : Intent) (m : NodeId → Bool) (f : FieldId) → (full D N).held f ≡ (reg_carried (reg_part_of m N f) false (record { node = D.held f })).node
whole_is D N m f = ap (λ (o : Option NodeId). option_or (put_in N f) (cond (clears N f) None o)) (unless_put_is N (D.held f))

only_made_is : (N : Intent) (o : Option NodeId) → only_new N o ≡ only_made (is_new N) o
only_made_is N None = refl
only_made_is N (Some n) = refl

pub void_is : (D : Document) (N : Intent) (m : NodeId → Bool) (f : FieldId) → Fits D N → (void D N).held f ≡ (reg_carried (reg_part_of m N f) true (record { node = D.held f })).node
void_is D N m f w = go N.schema w.itself.schema_alone
  where
    go : (s : Option (List ℕ)) → IfSome s (λ _. (N.new ≡ []) × (N.groups ≡ []) × (N.clear ≡ []) × (N.put ≡ []) × (N.need ≡ [])) → (option_map_or (λ _. D) s (carry.void_data D N)).held f ≡ cond (is_new N f.node) (only_made (is_new N) (put_in N f)) (D.held f)
    go None h = ap (λ (o : Option NodeId). cond (is_new N f.node) o (D.held f)) (only_made_is N (put_in N f))
    go (Some t) h =
        let none : is_new N f.node ≡ false = ap (λ (new : List NewNode). is_new (record N { new = new }) f.node) h.0 in
        sym (ap (λ (b : Bool). cond b (only_made (is_new N) (put_in N f)) (D.held f)) none)

pub back_is : (D E : Document) (f : FieldId) → IsSome (D.nodes f.node) → (retreat D E).held f ≡ D.held f
back_is D E f h = go (D.nodes f.node) refl h
  where
    go : (o : _) → D.nodes f.node ≡ o → IsSome o → cond (is_some (D.nodes f.node)) (D.held f) (unless_in D (E.held f)) ≡ D.held f
    go None e h = absurd (not_true {b = false} refl h)
    go (Some t) e h = rw e refl
