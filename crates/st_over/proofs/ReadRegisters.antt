-- A register of documents, of which a change and a step list what they tell: over the step.
use Rattle.std.proofs.Common.{◌≡◌, Bool, true, false, ◌||◌, not, List, Option, Some, None, cond, refl, sym, ap, ◌∙◌, inl, inr, ◌⊎◌, IfSome}
use Rattle.st_ids.specs.Listing.{item_of}
use Rattle.st_ids.specs.Order.{field_cmp, same_node}
use Rattle.st_ids.proofs.Orders.{same_field-true, same_field-itself}
use Rattle.st_ids.specs.declared.names.FieldId.{FieldId}
use Rattle.st_ids.specs.declared.names.NodeId.{NodeId}
use Rattle.st_kind.specs.Named.{Nodes}
use Rattle.st_marks.specs.declared.intents.To.{To}
use Rattle.st_marks.specs.declared.marks.How.TheVariants.{Here, Leave}
use Rattle.st_marks.specs.declared.marks.RegMark.{RegMark}
use Rattle.st_marks.specs.declared.marks.RegStep.{RegStep}
use Rattle.st_marks.specs.How.{is_here}
use Rattle.st_marks.specs.Intent.{same_option}
use Rattle.st_marks.specs.Register.{RegisterPart, comes_in, embed_register, holds_mentioned, how_held, step_register}
use Rattle.st_marks.specs.Row.{how, same_to}
use Rattle.st_moves.specs.Carried.{goal_of, register_mark}
use Rattle.st_moves.proofs.CarriedRegister.{FitsRegister, same-true}
use Rattle.st_over.specs.inside.Registers.{register_beside, register_listed}

-- ## Names

picked : (f : FieldId) (b : Bool) (y r : RegMark) → y.field ≡ f → cond b (Some y) None ≡ Some r → r.field ≡ f
picked f true y r e h = ap at (sym h) ∙ e
  where
    at : Option RegMark → FieldId
    at None = y.field
    at (Some q) = q.field
picked f false y r e h = cc

pub register_named : (target_of : NodeId → Option To) (m : Nodes) (cs : List RegMark) (ss : List RegStep) (f : FieldId) (r : RegMark) → register_beside target_of m cs ss f ≡ Some r → r.field ≡ f
register_named target_of m cs ss f r h = go (item_of field_cmp (λ (r : RegMark). r.field) cs f) (item_of field_cmp (λ (r : RegStep). r.field) ss f) h
  where
    one : (c : Bool) (goal held : Option NodeId) → register_mark f target_of m c goal held ≡ Some r → r.field ≡ f
    one c goal held e = picked f (c || holds_mentioned m held) _ r refl e

    go : (c : Option RegMark) (s : Option RegStep) → register_listed f target_of m c s ≡ Some r → r.field ≡ f
    go None None e = cc
    go None (Some s) e = one false None s.after e
    go (Some c) None e = one c.clear (goal_of c) c.held e
    go (Some c) (Some s) e = one c.clear (goal_of c) s.after e

-- ## Over documents

here_there : (g : Option To) (f : FieldId) → is_here (how g (To.Register f)) ≡ true → g ≡ Some (To.Register f)
here_there None f e = cc
here_there (Some To.Nowhere) f e = cc
here_there (Some (To.Cell c)) f e = cc
here_there (Some (To.Register k)) f e = elim (same_to (To.Register k) (To.Register f)) as (λ b. same_to (To.Register k) (To.Register f) ≡ b → is_here (cond b Here Leave) ≡ true → Some (To.Register k) ≡ Some (To.Register f)) [
  | true ↦ (λ h q. ap (λ (g : FieldId). Some (To.Register g)) (same_field-true k f h))
  | false ↦ (λ h q. cc)
] refl e

there_here : (g : Option To) (f : FieldId) → g ≡ Some (To.Register f) → is_here (how g (To.Register f)) ≡ true
there_here g f e = rw e (ap (λ b. is_here (cond b Here Leave)) (same_field-itself f))

or_parts : (a b : Bool) → (a || b) ≡ false → (a ≡ false) × (b ≡ false)
or_parts true b e = cc
or_parts false b e = (refl, e)

not_parts : (a : Bool) → not a ≡ false → a ≡ true
not_parts true e = refl
not_parts false e = cc

module _ (f : FieldId) (p : RegisterPart) (w : FitsRegister f p) where
  -- whom the mark tells that it puts there
  goal_told : (h : Option NodeId) → goal_of (record { field = f; held = h; how = how_held f p h; clear = p.clear; fill = comes_in h p.fill }) ≡ p.fill
  goal_told None = empty p.fill
    where
      empty : (o : Option NodeId) → comes_in None o ≡ o
      empty None = refl
      empty (Some n) = refl
  goal_told (Some n) = elim (is_here (how (p.target_of n) (To.Register f))) as (λ b. is_here (how (p.target_of n) (To.Register f)) ≡ b → cond b (Some n) (comes_in (Some n) p.fill) ≡ p.fill) [
    | true ↦ (λ e. sym ((w.put_here n).0 (here_there (p.target_of n) f e)))
    | false ↦ (λ e. other e (same_option same_node (Some n) p.fill) refl)
  ] refl
    where
      other : is_here (how (p.target_of n) (To.Register f)) ≡ false → (b : Bool) → same_option same_node (Some n) p.fill ≡ b → comes_in (Some n) p.fill ≡ p.fill
      other e true h = let q : ◌≡◌ {A = Bool} false true = sym e ∙ there_here (p.target_of n) f ((w.put_here n).1 (sym (same-true (Some n) p.fill h))) in cc
      other e false h = ap (λ b. cond b None p.fill) h

  module _ (before named : Nodes) where
    abbrev mark : Option NodeId → RegMark
    mark h = record { field = f; held = h; how = how_held f p h; clear = p.clear; fill = comes_in h p.fill }

    abbrev entry : Option NodeId → Option NodeId → RegStep
    entry h a = record { field = f; before = h; after = a }

    -- nothing is said where neither lists it
    silent : (a : Option NodeId) → p.clear ≡ false → holds_mentioned p.mentioned a ≡ false → None ≡ embed_register f p a
    silent a e k = sym (ap (λ b. cond b (Some (mark a)) None) (ap (λ b. b || holds_mentioned p.mentioned a) e ∙ k))

    unnamed : (h : Option NodeId) → IfSome h (λ n. p.mentioned n ≡ true → (before n ≡ true) ⊎ (named n ≡ true)) → holds_mentioned before h ≡ false → holds_mentioned named h ≡ false → holds_mentioned p.mentioned h ≡ false
    unnamed None c e k = refl
    unnamed (Some n) c e k = go (p.mentioned n) refl
      where
        neither : (before n ≡ true) ⊎ (named n ≡ true) → ⊥
        neither (inl q) = let r : ◌≡◌ {A = Bool} false true = sym e ∙ q in cc
        neither (inr q) = let r : ◌≡◌ {A = Bool} false true = sym k ∙ q in cc

        go : (b : Bool) → p.mentioned n ≡ b → p.mentioned n ≡ false
        go true q = absurd (neither (c q))
        go false q = q

    told : (h a : Option NodeId) (c s : Bool) → (p.clear || holds_mentioned before h) ≡ c → (not (same_option same_node h a) || holds_mentioned named h) ≡ s
        → IfSome h (λ n. p.mentioned n ≡ true → (before n ≡ true) ⊎ (named n ≡ true))
        → register_listed f p.target_of p.mentioned (cond c (Some (mark h)) None) (cond s (Some (entry h a)) None) ≡ embed_register f p a
    told h a true true e k cov = ap (λ g. register_mark f p.target_of p.mentioned p.clear g a) (goal_told h)
    told h a true false e k cov =
        let same : h ≡ a = same-true h a (not_parts (same_option same_node h a) (or_parts (not (same_option same_node h a)) (holds_mentioned named h) k).0) in
        ap (λ g. register_mark f p.target_of p.mentioned p.clear g h) (goal_told h) ∙ ap (embed_register f p) same
    told h a false true e k cov =
        let free = (or_parts p.clear (holds_mentioned before h) e).0 in
        λ i. register_mark f p.target_of p.mentioned (sym free i) (sym (w.cleared free) i) a
    told h a false false e k cov =
        let free = or_parts p.clear (holds_mentioned before h) e in
        let quiet = or_parts (not (same_option same_node h a)) (holds_mentioned named h) k in
        let same : h ≡ a = same-true h a (not_parts (same_option same_node h a) quiet.0) in
        silent h free.0 (unnamed h cov free.1 quiet.1) ∙ ap (embed_register f p) same

    -- a register of the change after the step is told by the change's and the step's
    pub register_over : (h a : Option NodeId) → IfSome h (λ n. p.mentioned n ≡ true → (before n ≡ true) ⊎ (named n ≡ true))
        → register_listed f p.target_of p.mentioned (embed_register f (record { clear = p.clear; fill = p.fill; target_of = p.target_of; mentioned = before }) h) (step_register f named h a) ≡ embed_register f p a
    register_over h a cov = told h a (p.clear || holds_mentioned before h) (not (same_option same_node h a) || holds_mentioned named h) refl refl cov
