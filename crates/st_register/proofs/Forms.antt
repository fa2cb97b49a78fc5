-- A change keeps the rules exactly where it is that of some part.
use Rattle.std.proofs.Common.{◌≡◌, ◌≢◌, ◌↔◌, ◌+◌, Bool, true, false, ◌&&◌, ◌||◌, Option, Some, None, cond, refl, sym, ap, ◌∙◌, subst, IfSome, arith}
use Rattle.std.specs.Option.{option_map_or}
use Rattle.st_ids.specs.Order.{same_node}
use Rattle.st_ids.specs.declared.names.NodeId.{NodeId}
use Rattle.st_ids.proofs.Orders.{same_node-true, same_node-itself}
use Rattle.st_marks.specs.declared.intents.To.{To}
use Rattle.st_marks.specs.declared.marks.How.{How}
use Rattle.st_marks.specs.declared.marks.How.TheVariants.{Stay, Here, Leave}
use Rattle.st_ids.specs.Root.{root}
use Rattle.st_marks.specs.Intent.{same_option}
use Rattle.st_marks.specs.Register.{comes_in, how_held}
use Rattle.st_marks.specs.Row.{how}
use Rattle.st_marks.specs.How.{is_here, is_leave}
use Rattle.st_register.specs.declared.values.RegChange.{RegChange}
use Rattle.st_register.specs.declared.values.RegHeld.{RegHeld}
use Rattle.st_register.specs.inside.NormalForm.{IsNormalRegChange}
use Rattle.st_register.specs.Register.{RegPart, RegFits, RegCanHold, reg_change_of}
use Rattle.st_register.specs.inside.Readings.{put_by, makes_by}
use Rattle.st_register.proofs.Parts.{field_told, goes_told, told, other_number}
use Rattle.st_register.proofs.Occupants.{not_true, other_occupant, comes_in-other, comes_in-same, to-here}
use Rattle.st_marks.proofs.Shared.{held-same, same-held}
use Rattle.st_register.proofs.Registers.{holding, here-fill, comes-fill}
use Rattle.st_register.proofs.Documents.{if_some}

pub some_is : (o : Option NodeId) (P : NodeId → Type 0) (n : NodeId) → IfSome o P → o ≡ Some n → P n
some_is None P n h e = cc
some_is (Some m) P n h e = subst P (ap (λ (q : Option NodeId). option_map_or (λ k. k) q m) e) h

-- ## From a part

of_put : (p : RegPart) (o : Option NodeId) → RegFits p (holding o) → how_held p.field p.part o ≡ Here → (p.part.clear ≡ true) × (comes_in o p.part.fill ≡ None)
of_put p None w e = cc
of_put p (Some n) w e =
    let f : p.part.fill ≡ Some n = here-fill p (holding (Some n)) w n e in
    (some_is p.part.fill (λ _. p.part.clear ≡ true) n w.cleared f, comes_in-same (Some n) p.part.fill (sym f))

of_filled : (p : RegPart) (o : Option NodeId) → RegFits p (holding o) → (n : NodeId) → comes_in o p.part.fill ≡ Some n → (p.part.clear ≡ true) × (o ≢ Some n) × (n ≢ root)
of_filled p o w n e =
    let f : p.part.fill ≡ Some n = comes-fill o p.part.fill n e in (
      some_is p.part.fill (λ _. p.part.clear ≡ true) n w.cleared f,
      (λ h. let q : ◌≡◌ {A = Option NodeId} None (Some n) = sym (comes_in-same o p.part.fill (h ∙ sym f)) ∙ e in cc),
      (λ h. let q : ◌≡◌ {A = Option To} (Some (To.Register p.field)) None = sym ((w.put_here n).1 f) ∙ ap p.part.target_of h ∙ w.root_stays in cc),
    )

of_made : (p : RegPart) (o : Option NodeId) → RegFits p (holding o) → (fill : Option NodeId) → option_map_or p.makes fill false ≡ true → (n : NodeId) × (fill ≡ Some n) × (n.0.rev ≡ p.rev)
of_made p o w None e = cc
of_made p o w (Some n) e = (n, refl, w.made n e)

of_empty : (p : RegPart) (o : Option NodeId) → RegFits p (holding o) → p.makes p.field.node ≡ true → o ≡ None
of_empty p None w e = refl
of_empty p (Some n) w e = absurd (not_true w.old.1 e)

of_nobody : (p : RegPart) (o : Option NodeId) → o ≡ None → how_held p.field p.part o ≡ Stay
of_nobody p o e = rw e refl

change_keeps : (p : RegPart) (o : Option NodeId) → RegFits p (holding o) → IsNormalRegChange (reg_change_of p (holding o))
change_keeps p o w = record {
  nobody = of_nobody p o;
  put = of_put p o w;
  filled = if_some (comes_in o p.part.fill) _ (of_filled p o w);
  made = of_made p o w (comes_in o p.part.fill);
  empty = of_empty p o w;
}

pub keeps_rules : (p : RegPart) (c : RegHeld) (x : RegChange) → RegFits p c → x ≡ reg_change_of p c → IsNormalRegChange x
keeps_rules p c x w e = subst IsNormalRegChange (sym e) (change_keeps p c.node w)

-- ## To a part

module _ (x : RegChange) (w : IsNormalRegChange x) (h : x.held ≢ Some root) where
  put_cleared : IfSome (put_by x) (λ _. x.clear ≡ true)
  put_cleared =
      elim (is_here x.how) as (λ b. is_here x.how ≡ b → IfSome (cond b x.held x.fill) (λ _. x.clear ≡ true)) [
        | true ↦ λ e. if_some x.held (λ _. x.clear ≡ true) (λ n f. (w.put (is_put x.how e)).0)
        | false ↦ λ e. if_some x.fill (λ _. x.clear ≡ true) (λ n f. (some_is x.fill _ n w.filled f).0)
      ] refl
    where
      is_put : (k : How) → is_here k ≡ true → k ≡ Here
      is_put Stay e = cc
      is_put Here e = refl
      is_put Leave e = cc

  put_here : (n : NodeId) → (goes_told x n ≡ Some (To.Register (field_told x))) ↔ (put_by x ≡ Some n)
  put_here n = (to, from)
    where
      to : goes_told x n ≡ Some (To.Register (field_told x)) → put_by x ≡ Some n
      to e =
          elim (same_option same_node (put_by x) (Some n)) as (λ b. same_option same_node (put_by x) (Some n) ≡ b → cond b (Some (To.Register (field_told x))) (cond (is_leave x.how && same_option same_node x.held (Some n)) (Some To.Nowhere) None) ≡ Some (To.Register (field_told x)) → put_by x ≡ Some n) [
            | true ↦ λ f g. same-held (put_by x) (Some n) f
            | false ↦ λ f g. absurd (elim (is_leave x.how && same_option same_node x.held (Some n)) as (λ b. cond b (Some To.Nowhere) None ≡ Some (To.Register (field_told x)) → ⊥) [ true ↦ λ k. cc | false ↦ λ k. cc ] g)
          ] refl e

      from : put_by x ≡ Some n → goes_told x n ≡ Some (To.Register (field_told x))
      from e = rw (held-same (put_by x) (Some n) e) refl

  put_not_root : put_by x ≢ Some root
  put_not_root e =
      elim (is_here x.how) as (λ b. cond b x.held x.fill ≡ Some root → ⊥) [
        | true ↦ h
        | false ↦ λ f. (some_is x.fill _ root w.filled f).2 refl
      ] e

  root_stays : goes_told x root ≡ None
  root_stays = rw (other_occupant (put_by x) (Some root) put_not_root, other_occupant x.held (Some root) h) (elim (is_leave x.how) as (λ b. cond (b && false) (Some To.Nowhere) None ≡ None) [ true ↦ refl | false ↦ refl ])

  makes_fill : (n : NodeId) → makes_by x n ≡ true → (x.fill_new ≡ true) × (x.fill ≡ Some n)
  makes_fill n e =
      elim x.fill_new as (λ b. b && same_option same_node x.fill (Some n) ≡ true → (b ≡ true) × (x.fill ≡ Some n)) [
        | true ↦ λ f. (refl, same-held x.fill (Some n) f)
        | false ↦ λ f. cc
      ] e

  not_makes : (n : NodeId) → (x.fill ≡ Some n → ⊥) → makes_by x n ≡ false
  not_makes n k = rw (other_occupant x.fill (Some n) k) (elim x.fill_new as (λ b. (b && false) ≡ false) [ true ↦ refl | false ↦ refl ])

  -- the node of a new node's register
  abbrev new_node : NodeId
  new_node = record { 0 = record { rev = x.rev; at = other_number x.fill } }

  by_fill : (n : NodeId) → makes_by x n ≡ true → n.0.rev ≡ x.rev
  by_fill n g = go (w.made (makes_fill n g).0)
    where
      go : (m : NodeId) × (x.fill ≡ Some m) × (m.0.rev ≡ x.rev) → n.0.rev ≡ x.rev
      go (m, e, r) = subst (λ (q : Option NodeId). option_map_or (λ (k : NodeId). k.0.rev) q n.0.rev ≡ x.rev) (sym e ∙ (makes_fill n g).1) r

  made : (n : NodeId) → (told x).makes n ≡ true → n.0.rev ≡ x.rev
  made n e =
      elim x.in_new as (λ b. ((b && same_node (cond b new_node root) n) || makes_by x n) ≡ true → n.0.rev ≡ x.rev) [
        | true ↦ λ f. elim (same_node new_node n) as (λ b. same_node new_node n ≡ b → (b || makes_by x n) ≡ true → n.0.rev ≡ x.rev) [
          | true ↦ λ s g. ap (λ (k : NodeId). k.0.rev) (sym (same_node-true new_node n s))
          | false ↦ λ s g. by_fill n g
        ] refl f
        | false ↦ λ f. by_fill n f
      ] e

  old_new : (n : NodeId) → x.held ≡ Some n → x.in_new ≡ false
  old_new n e =
      elim x.in_new as (λ b. x.in_new ≡ b → b ≡ false) [
        | true ↦ λ f. let q : ◌≡◌ {A = Option NodeId} None (Some n) = sym (w.empty f) ∙ e in cc
        | false ↦ λ f. refl
      ] refl

  not_root : x.fill ≡ Some root → ⊥
  not_root f = (some_is x.fill _ root w.filled f).2 refl

  old : (n : NodeId) → x.held ≡ Some n → ((told x).makes n ≡ false) × ((told x).makes (field_told x).node ≡ false)
  old n e =
      rw (old_new n e, not_makes n (λ f. (some_is x.fill _ n w.filled f).1 e), not_makes root not_root) (refl, refl)

  pub told_fits : RegFits (told x) (holding x.held)
  told_fits = record {
    content = h;
    cleared = put_cleared;
    put_here = put_here;
    root_stays = root_stays;
    made = made;
    old = if_some x.held _ old;
  }

  -- ### The change of that part

  in_new_is : x.in_new ≡ (told x).makes (field_told x).node
  in_new_is =
      elim x.in_new as (λ b. b ≡ ((b && same_node (cond b new_node root) (cond b new_node root)) || makes_by x (cond b new_node root))) [
        | true ↦ rw (same_node-itself new_node) refl
        | false ↦ sym (not_makes root not_root)
      ]

  put_fill : is_here x.how ≡ false → put_by x ≡ x.fill
  put_fill e = rw e refl

  not_put : (n : NodeId) → x.held ≡ Some n → is_here x.how ≡ false → put_by x ≢ Some n
  not_put n e k f = (some_is x.fill _ n w.filled (sym (put_fill k) ∙ f)).1 e

  goes_stay : (n : NodeId) → x.held ≡ Some n → x.how ≡ Stay → goes_told x n ≡ None
  goes_stay n e k = rw (other_occupant (put_by x) (Some n) (not_put n e (ap is_here k))) (ap (λ (h : How). cond (is_leave h && same_option same_node x.held (Some n)) (Some To.Nowhere) None) k)

  goes_leave : (n : NodeId) → x.held ≡ Some n → x.how ≡ Leave → goes_told x n ≡ Some To.Nowhere
  goes_leave n e k =
      rw (other_occupant (put_by x) (Some n) (not_put n e (ap is_here k)), held-same x.held (Some n) e) (ap (λ (h : How). cond (is_leave h && true) (Some To.Nowhere) None) k)

  goes_here : (n : NodeId) → x.held ≡ Some n → x.how ≡ Here → goes_told x n ≡ Some (To.Register (field_told x))
  goes_here n e k = (put_here n).1 (ap (λ (h : How). cond (is_here h) x.held x.fill) k ∙ e)

  how_some : (n : NodeId) → x.held ≡ Some n → (k : How) → x.how ≡ k → k ≡ how (goes_told x n) (To.Register (field_told x))
  how_some n e Stay k = sym (ap (λ (g : Option To). how g (To.Register (field_told x))) (goes_stay n e k))
  how_some n e Here k = sym (to-here (goes_told x n) (field_told x) (goes_here n e k))
  how_some n e Leave k = sym (ap (λ (g : Option To). how g (To.Register (field_told x))) (goes_leave n e k))

  how_told : (o : Option NodeId) → x.held ≡ o → x.how ≡ how_held (field_told x) (told x).part o
  how_told None e = w.nobody e
  how_told (Some n) e = how_some n e x.how refl

  fill_stays : (fill : Option NodeId) → ((n : NodeId) → fill ≡ Some n → x.held ≢ Some n) → fill ≡ comes_in x.held fill
  fill_stays None k = elim (same_option same_node x.held None) as (λ b. ◌≡◌ {A = Option NodeId} None (cond b None None)) [ true ↦ refl | false ↦ refl ]
  fill_stays (Some n) k = sym (comes_in-other x.held (Some n) (k n refl))

  fill_told : x.fill ≡ comes_in x.held (put_by x)
  fill_told =
      elim (is_here x.how) as (λ b. is_here x.how ≡ b → x.fill ≡ comes_in x.held (cond b x.held x.fill)) [
        | true ↦ λ e. (w.put (here_is x.how e)).1 ∙ sym (comes_in-same x.held x.held refl)
        | false ↦ λ e. fill_stays x.fill (λ n f. (some_is x.fill _ n w.filled f).1)
      ] refl
    where
      here_is : (k : How) → is_here k ≡ true → k ≡ Here
      here_is Stay e = cc
      here_is Here e = refl
      here_is Leave e = cc

  another : (n : NodeId) → x.fill ≡ Some n → same_node new_node n ≡ false
  another n e =
      elim (same_node new_node n) as (λ b. same_node new_node n ≡ b → b ≡ false) [
        | true ↦ λ f.
            let at : other_number x.fill ≡ n.0.at = ap (λ (k : NodeId). k.0.at) (same_node-true new_node n f) in
            let more : n.0.at + 1 ≡ n.0.at = sym (ap other_number e) ∙ at in
            absurd (omega (arith, more))
        | false ↦ λ f. refl
      ] refl

  makes_told : (n : NodeId) → x.fill ≡ Some n → x.fill_new ≡ (told x).makes n
  makes_told n e =
      elim x.in_new as (λ b. x.fill_new ≡ ((b && same_node (cond b new_node root) n) || (x.fill_new && same_option same_node x.fill (Some n)))) [
        | true ↦ rw (another n e, held-same x.fill (Some n) e) (sym (is x.fill_new))
        | false ↦ rw (held-same x.fill (Some n) e) (sym (is x.fill_new))
      ]
    where
      is : (b : Bool) → (b && true) ≡ b
      is true = refl
      is false = refl

  fill_new_told : (o : Option NodeId) → x.fill ≡ o → x.fill_new ≡ option_map_or (told x).makes o false
  fill_new_told None e =
      elim x.fill_new as (λ b. x.fill_new ≡ b → b ≡ false) [
        | true ↦ λ f. absurd (none (w.made f))
        | false ↦ λ f. refl
      ] refl
    where
      none : (n : NodeId) × (x.fill ≡ Some n) × (n.0.rev ≡ x.rev) → ⊥
      none (n, f, r) = let q : ◌≡◌ {A = Option NodeId} None (Some n) = sym e ∙ f in cc
  fill_new_told (Some n) e = makes_told n e

  pub told_is : x ≡ reg_change_of (told x) (holding x.held)
  told_is = λ i. record {
    rev = x.rev;
    in_new = in_new_is i;
    held = x.held;
    how = how_told x.held refl i;
    clear = x.clear;
    fill = fill_told i;
    fill_new = (fill_new_told x.fill refl ∙ ap (λ (q : Option NodeId). option_map_or (told x).makes q false) fill_told) i;
  }

pub form_is_told : (x : RegChange) (c : RegHeld) → IsNormalRegChange x → x.held ≡ c.node → RegCanHold c → (p : RegPart) × RegFits p c × (x ≡ reg_change_of p c)
form_is_told x c w e h =
    let k : x.held ≢ Some root = λ f. h (sym e ∙ f) in
    subst (λ (d : RegHeld). (p : RegPart) × RegFits p d × (x ≡ reg_change_of p d)) (ap holding e) (told x, told_fits x w k, told_is x w k)
