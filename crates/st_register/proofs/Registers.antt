-- What the change of a part tells of it.
use Rattle.std.proofs.Common.{◌≡◌, ◌≢◌, Bool, true, false, ◌&&◌, not, Option, Some, None, cond, refl, sym, ap, ◌∙◌, subst, IfSome, is_some}
use Rattle.std.specs.Option.{option_or, option_map_or}
use Rattle.st_ids.specs.Order.{same_node}
use Rattle.st_ids.specs.declared.names.NodeId.{NodeId}
use Rattle.st_ids.proofs.Orders.{same_node-true, same_node-itself}
use Rattle.st_marks.specs.declared.intents.To.{To}
use Rattle.st_marks.specs.declared.marks.How.{How}
use Rattle.st_marks.specs.declared.marks.How.TheVariants.{Stay, Here, Leave}
use Rattle.st_marks.specs.Intent.{same_option}
use Rattle.st_marks.specs.Register.{comes_in, how_held}
use Rattle.st_marks.specs.Row.{how}
use Rattle.st_marks.specs.How.{is_here, is_leave}
use Rattle.st_register.specs.declared.values.RegHeld.{RegHeld}
use Rattle.st_register.specs.Register.{RegPart, RegFits, RegKeeps, reg_change_of, held_whole, held_void, only_made}
use Rattle.st_register.specs.Readings.{left_by}
use Rattle.st_register.specs.inside.Readings.{put_by, left_void_by, how_by, makes_by}
use Rattle.st_register.proofs.Occupants.{not_true, comes_in-nobody, comes_in-other, here-to, to-here, stay-to, leave-to}
use Rattle.st_marks.proofs.Shared.{held-same, same-held}

-- a register that holds this
abbrev pub holding : Option NodeId → RegHeld
holding held = record { node = held }

-- ## Who is put there

pub here-fill : (p : RegPart) (c : RegHeld) → RegFits p c → (n : NodeId) → how (p.part.target_of n) (To.Register p.field) ≡ Here → p.part.fill ≡ Some n
here-fill p c w n e = (w.put_here n).0 (here-to (p.part.target_of n) p.field e)

pub fill-here : (p : RegPart) (c : RegHeld) → RegFits p c → (n : NodeId) → p.part.fill ≡ Some n → how (p.part.target_of n) (To.Register p.field) ≡ Here
fill-here p c w n e = to-here (p.part.target_of n) p.field ((w.put_here n).1 e)

put_some : (n : NodeId) (h : How) (fill : Option NodeId) → (h ≡ Here → fill ≡ Some n) → (fill ≡ Some n → h ≡ Here) → cond (is_here h) (Some n) (comes_in (Some n) fill) ≡ fill
put_some n Here fill a b = sym (a refl)
put_some n Stay fill a b = comes_in-other (Some n) fill (λ e. let h : Stay ≡ Here = b (sym e) in cc)
put_some n Leave fill a b = comes_in-other (Some n) fill (λ e. let h : Leave ≡ Here = b (sym e) in cc)

-- the node that the part puts there is read off its change
pub put_is : (p : RegPart) (o : Option NodeId) → RegFits p (holding o) → put_by (reg_change_of p (holding o)) ≡ p.part.fill
put_is p None w = comes_in-nobody p.part.fill
put_is p (Some n) w = put_some n (how (p.part.target_of n) (To.Register p.field)) p.part.fill (here-fill p (holding (Some n)) w n) (fill-here p (holding (Some n)) w n)

-- ## Who is there after it

left_none : (fill : Option NodeId) (clear : Bool) → option_or (comes_in None fill) (cond (clear && true) None None) ≡ option_or fill (cond clear None None)
left_none None true = refl
left_none None false = refl
left_none (Some q) clear = refl

-- the occupant, where it isn't put there
not_filled : (n : NodeId) (h : How) (fill : Option NodeId) (rest : Option NodeId) → (fill ≡ Some n → h ≡ Here) → h ≢ Here → option_or (comes_in (Some n) fill) rest ≡ option_or fill rest
not_filled n h fill rest b k = ap (λ (q : Option NodeId). option_or q rest) (comes_in-other (Some n) fill (λ e. k (b (sym e))))

left_some : (n : NodeId) (h : How) (fill : Option NodeId) (clear put : Bool) → (h ≡ Here → fill ≡ Some n) → (fill ≡ Some n → h ≡ Here) → (h ≡ Stay → put ≡ false) → (h ≡ Leave → put ≡ true)
    → option_or (comes_in (Some n) fill) (cond (is_leave h) None (cond (clear && not (is_here h)) None (Some n))) ≡ option_or fill (cond clear None (cond put None (Some n)))
left_some n Here fill clear put a b s l =
    subst (λ (q : Option NodeId). option_or (comes_in (Some n) q) (cond (clear && false) None (Some n)) ≡ option_or q (cond clear None (cond put None (Some n)))) (sym (a refl))
    (rw (same_node-itself n) (elim clear as (λ b. cond (b && false) None (Some n) ≡ Some n) [ true ↦ refl | false ↦ refl ]))
left_some n Stay fill true put a b s l = not_filled n Stay fill None b (λ e. cc)
left_some n Stay fill false put a b s l = rw (s refl) (not_filled n Stay fill (Some n) b (λ e. cc))
left_some n Leave fill true put a b s l = not_filled n Leave fill None b (λ e. cc)
left_some n Leave fill false put a b s l = rw (l refl) (not_filled n Leave fill None b (λ e. cc))

-- who is there after the part is read off its change
pub left_is : (p : RegPart) (o : Option NodeId) → RegFits p (holding o) → left_by (reg_change_of p (holding o)) ≡ held_whole p.part o
left_is p None w = left_none p.part.fill p.part.clear
left_is p (Some n) w =
    left_some n (how (p.part.target_of n) (To.Register p.field)) p.part.fill p.part.clear (is_some (p.part.target_of n)) (here-fill p (holding (Some n)) w n) (fill-here p (holding (Some n)) w n)
    (stay-to (p.part.target_of n) p.field) (leave-to (p.part.target_of n) p.field)

void_none : (fill : Option NodeId) (makes : NodeId → Bool) (new : Bool) → cond (new && option_map_or makes (comes_in None fill) false) (comes_in None fill) None ≡ cond new (only_made makes fill) None
void_none None makes true = refl
void_none None makes false = refl
void_none (Some q) makes true = refl
void_none (Some q) makes false = refl

-- the same where the part is void
pub void_is : (p : RegPart) (o : Option NodeId) → RegFits p (holding o) → left_void_by (reg_change_of p (holding o)) ≡ held_void p o
void_is p None w = void_none p.part.fill p.makes (p.makes p.field.node)
void_is p (Some n) w = rw (w.old.1) refl

-- ## After a step

otherwise_stays : (h : How) → h ≢ Here → h ≢ Leave → Stay ≡ h
otherwise_stays Stay a b = refl
otherwise_stays Here a b = absurd (a refl)
otherwise_stays Leave a b = absurd (b refl)

how_some : (p : RegPart) (o : Option NodeId) (n : NodeId) → RegFits p (holding o) → RegKeeps p (holding o) (holding (Some n))
    → cond (same_option same_node p.part.fill (Some n)) Here (cond (same_option same_node o (Some n)) (how_held p.field p.part o) Stay) ≡ how (p.part.target_of n) (To.Register p.field)
how_some p o n w k =
    elim (same_option same_node p.part.fill (Some n)) as (λ b. same_option same_node p.part.fill (Some n) ≡ b → cond b Here (cond (same_option same_node o (Some n)) (how_held p.field p.part o) Stay) ≡ how (p.part.target_of n) (To.Register p.field)) [
      | true ↦ λ e. sym (fill-here p (holding o) w n (same-held p.part.fill (Some n) e))
      | false ↦ λ e. elim (same_option same_node o (Some n)) as (λ b. same_option same_node o (Some n) ≡ b → cond b (how_held p.field p.part o) Stay ≡ how (p.part.target_of n) (To.Register p.field)) [
        | true ↦ λ f. ap (how_held p.field p.part) (same-held o (Some n) f)
        | false ↦ λ f. otherwise_stays (how (p.part.target_of n) (To.Register p.field)) (λ h. not_true e (held-same p.part.fill (Some n) (here-fill p (holding o) w n h))) (k (λ h. not_true f (held-same o (Some n) h)))
      ] refl
    ] refl

-- what becomes of the occupant that a step leaves is read off the change before it
pub how_is : (p : RegPart) (o d : Option NodeId) → RegFits p (holding o) → RegKeeps p (holding o) (holding d) → how_by (reg_change_of p (holding o)) d ≡ how_held p.field p.part d
how_is p o None w k = refl
how_is p o (Some n) w k = rw (put_is p o w) (how_some p o n w k)

-- whether the node that is put there is new, too
pub makes_is : (p : RegPart) (o : Option NodeId) (n : NodeId) → RegFits p (holding o) → p.part.fill ≡ Some n → makes_by (reg_change_of p (holding o)) n ≡ p.makes n
makes_is p o n w e =
    subst (λ (q : Option NodeId). (option_map_or p.makes (comes_in o q) false && same_option same_node (comes_in o q) (Some n)) ≡ p.makes n) (sym e) (go o w.old)
  where
    is : (b : Bool) → (b && true) ≡ b
    is true = refl
    is false = refl

    go : (o : Option NodeId) → IfSome o (λ m. (p.makes m ≡ false) × (p.makes p.field.node ≡ false)) → (option_map_or p.makes (comes_in o (Some n)) false && same_option same_node (comes_in o (Some n)) (Some n)) ≡ p.makes n
    go None h = rw (same_node-itself n) (is (p.makes n))
    go (Some m) h =
        elim (same_node m n) as (λ b. same_node m n ≡ b → (option_map_or p.makes (cond b None (Some n)) false && same_option same_node (cond b None (Some n)) (Some n)) ≡ p.makes n) [
          | true ↦ λ f. sym (ap p.makes (sym (same_node-true m n f)) ∙ h.0)
          | false ↦ λ f. rw (same_node-itself n) (is (p.makes n))
        ] refl

-- whoever comes in is put there
pub comes-fill : (d fill : Option NodeId) (n : NodeId) → comes_in d fill ≡ Some n → fill ≡ Some n
comes-fill d fill n e =
    elim (same_option same_node d fill) as (λ b. cond b None fill ≡ Some n → fill ≡ Some n) [ true ↦ λ h. cc | false ↦ λ h. h ] e

pub all_new : (f g : NodeId → Bool) (fill : Option NodeId) → ((n : NodeId) → fill ≡ Some n → f n ≡ g n) → option_map_or f fill false ≡ option_map_or g fill false
all_new f g None h = refl
all_new f g (Some n) h = h n refl

pub new_is : (p : RegPart) (o d : Option NodeId) → RegFits p (holding o) → option_map_or (makes_by (reg_change_of p (holding o))) (comes_in d p.part.fill) false ≡ option_map_or p.makes (comes_in d p.part.fill) false
new_is p o d w = all_new (makes_by (reg_change_of p (holding o))) p.makes (comes_in d p.part.fill) (λ n e. makes_is p o n w (comes-fill d p.part.fill n e))
