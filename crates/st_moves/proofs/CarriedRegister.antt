-- What a change says of a register of the document between.
use Rattle.std.proofs.Common.{◌≡◌, Bool, true, false, ◌||◌, not, Option, Some, None, cond, refl, sym, ap, ◌∙◌, inl, inr, ◌⊎◌, ◌↔◌, IfSome}
use Rattle.st_ids.specs.Order.{same_node}
use Rattle.st_ids.proofs.Orders.{same_node-true, same_node-itself, same_field-true, same_field-itself}
use Rattle.st_ids.specs.declared.names.FieldId.{FieldId}
use Rattle.st_ids.specs.declared.names.NodeId.{NodeId}
use Rattle.st_marks.specs.declared.intents.To.{To}
use Rattle.st_marks.specs.declared.marks.How.TheVariants.{Here, Leave}
use Rattle.st_marks.specs.declared.marks.RegMark.{RegMark}
use Rattle.st_marks.specs.declared.marks.RegStep.{RegStep}
use Rattle.st_marks.specs.Intent.{same_option}
use Rattle.st_marks.specs.Register.{RegisterPart, comes_in, embed_register, holds_mentioned, how_held, step_register}
use Rattle.st_marks.specs.Row.{how, same_to}
use Rattle.st_marks.specs.How.{is_here}
use Rattle.st_moves.specs.Between.{only_others}
use Rattle.st_moves.specs.Carried.{carried_register, goal_of, held_between, register_mark}

some_one : {x y : NodeId} → ◌≡◌ {A = Option NodeId} (Some x) (Some y) → x ≡ y
some_one {x} e = ap at e
  where
    at : Option NodeId → NodeId
    at None = x
    at (Some y) = y

pub same-true : (a b : Option NodeId) → same_option same_node a b ≡ true → a ≡ b
same-true None None e = refl
same-true None (Some y) e = cc
same-true (Some x) None e = cc
same-true (Some x) (Some y) e = ap (λ (k : NodeId). Some k) (same_node-true x y e)

same-itself : (a : Option NodeId) → same_option same_node a a ≡ true
same-itself None = refl
same-itself (Some x) = same_node-itself x

here_there : (g : Option To) (f : FieldId) → is_here (how g (To.Register f)) ≡ true → g ≡ Some (To.Register f)
here_there None f e = cc
here_there (Some To.Nowhere) f e = cc
here_there (Some (To.Cell c)) f e = cc
here_there (Some (To.Register k)) f e = elim (same_to (To.Register k) (To.Register f)) as (λ b. same_to (To.Register k) (To.Register f) ≡ b → is_here (cond b Here Leave) ≡ true → Some (To.Register k) ≡ Some (To.Register f)) [
  | true ↦ (λ h q. ap (λ (g : FieldId). Some (To.Register g)) (same_field-true k f h))
  | false ↦ (λ h q. cc)
] refl e

there_here : (g : Option To) (f : FieldId) → g ≡ Some (To.Register f) → is_here (how g (To.Register f)) ≡ true
there_here g f e = rw e (ap (λ b. is_here (cond b Here Leave)) (same_field-itself f))

-- the part of an intent that fits: it fills only what it clears, with the one node that is put there
pub record FitsRegister (f : FieldId) (p : RegisterPart) : Type 0 where
  pub cleared : p.clear ≡ false → p.fill ≡ None
  pub put_here : (n : NodeId) → (p.target_of n ≡ Some (To.Register f)) ↔ (p.fill ≡ Some n)

module _ (f : FieldId) (p : RegisterPart) (w : FitsRegister f p) where
  -- whom the mark tells that it puts there
  goal_told : (h : Option NodeId) → goal_of (record { field = f; held = h; how = how_held f p h; clear = p.clear; fill = comes_in h p.fill }) ≡ p.fill
  goal_told None = empty p.fill
    where
      empty : (o : Option NodeId) → comes_in None o ≡ o
      empty None = refl
      empty (Some n) = refl
  goal_told (Some n) = elim (is_here (how (p.target_of n) (To.Register f))) as (λ b. is_here (how (p.target_of n) (To.Register f)) ≡ b → cond b (Some n) (comes_in (Some n) p.fill) ≡ p.fill) [
    | true ↦ (λ e. sym ((w.put_here n).0 (here_there (p.target_of n) f e)))
    | false ↦ (λ e. other e (same_option same_node (Some n) p.fill) refl)
  ] refl
    where
      other : is_here (how (p.target_of n) (To.Register f)) ≡ false → (b : Bool) → same_option same_node (Some n) p.fill ≡ b → comes_in (Some n) p.fill ≡ p.fill
      other e true h = let q : ◌≡◌ {A = Bool} false true = sym e ∙ there_here (p.target_of n) f ((w.put_here n).1 (sym (same-true (Some n) p.fill h))) in cc
      other e false h = ap (λ b. cond b None p.fill) h

  abbrev before_part : (NodeId → Bool) → RegisterPart
  before_part k = record { clear = p.clear; fill = p.fill; target_of = p.target_of; mentioned = k }

  -- the target
  abbrev target : Option NodeId → Option NodeId → Option RegMark
  target h a = embed_register f p (held_between p.mentioned h a)

  or_parts : (a b : Bool) → (a || b) ≡ false → (a ≡ false) × (b ≡ false)
  or_parts true b e = cc
  or_parts false b e = (refl, e)

  not_parts : (a : Bool) → not a ≡ false → a ≡ true
  not_parts true e = refl
  not_parts false e = cc

  module _ (before named : NodeId → Bool) where
    abbrev mark : Option NodeId → RegMark
    mark h = record { field = f; held = h; how = how_held f p h; clear = p.clear; fill = comes_in h p.fill }

    abbrev entry : Option NodeId → Option NodeId → RegStep
    entry h a = record { field = f; before = h; after = a }

    abbrev listed : Option NodeId → Bool
    listed h = p.clear || holds_mentioned before h

    abbrev stepped : Option NodeId → Option NodeId → Bool
    stepped h a = not (same_option same_node h a) || holds_mentioned named h

    -- nothing is said where neither lists it
    silent : (h : Option NodeId) → p.clear ≡ false → holds_mentioned p.mentioned (held_between p.mentioned h h) ≡ false → None ≡ target h h
    silent h e k = sym (ap (λ b. cond b (Some (record { field = f; held = held_between p.mentioned h h; how = how_held f p (held_between p.mentioned h h); clear = p.clear; fill = comes_in (held_between p.mentioned h h) p.fill })) None) (ap (λ b. b || holds_mentioned p.mentioned (held_between p.mentioned h h)) e ∙ k))

    unnamed : (h : Option NodeId) → IfSome h (λ n. p.mentioned n ≡ true → (before n ≡ true) ⊎ (named n ≡ true)) → holds_mentioned before h ≡ false → holds_mentioned named h ≡ false → holds_mentioned p.mentioned (held_between p.mentioned h h) ≡ false
    unnamed None c e k = refl
    unnamed (Some n) c e k = go (p.mentioned n) refl
      where
        neither : (before n ≡ true) ⊎ (named n ≡ true) → ⊥
        neither (inl q) = let r : ◌≡◌ {A = Bool} false true = sym e ∙ q in cc
        neither (inr q) = let r : ◌≡◌ {A = Bool} false true = sym k ∙ q in cc

        go : (b : Bool) → p.mentioned n ≡ b → holds_mentioned p.mentioned (held_between p.mentioned (Some n) (Some n)) ≡ false
        go true q = absurd (neither (c q))
        go false q = rw q q

    told : (h a : Option NodeId) (c s : Bool) → listed h ≡ c → stepped h a ≡ s → IfSome h (λ n. p.mentioned n ≡ true → (before n ≡ true) ⊎ (named n ≡ true))
        → carried_register f p.target_of p.mentioned (cond c (Some (mark h)) None) (cond s (Some (entry h a)) None) ≡ target h a
    told h a true true e k cov = ap (λ g. register_mark f p.target_of p.mentioned p.clear g (held_between p.mentioned h a)) (goal_told h)
    told h a true false e k cov =
        let same : h ≡ a = same-true h a (not_parts (same_option same_node h a) (or_parts (not (same_option same_node h a)) (holds_mentioned named h) k).0) in
        ap (λ g. register_mark f p.target_of p.mentioned p.clear g (held_between p.mentioned h h)) (goal_told h) ∙ ap (target h) same
    told h a false true e k cov =
        let free = (or_parts p.clear (holds_mentioned before h) e).0 in
        λ i. register_mark f p.target_of p.mentioned (sym free i) (sym (w.cleared free) i) (held_between p.mentioned h a)
    told h a false false e k cov =
        let free = or_parts p.clear (holds_mentioned before h) e in
        let quiet = or_parts (not (same_option same_node h a)) (holds_mentioned named h) k in
        let same : h ≡ a = same-true h a (not_parts (same_option same_node h a) quiet.0) in
        silent h free.0 (unnamed h cov free.1 quiet.1) ∙ ap (target h) same

    -- a register of the change between is told by the change's and the step's
    pub carried_register-embed_register : (h a : Option NodeId) → IfSome h (λ n. p.mentioned n ≡ true → (before n ≡ true) ⊎ (named n ≡ true))
        → carried_register f p.target_of p.mentioned (embed_register f (before_part before) h) (step_register f named h a) ≡ embed_register f p (held_between p.mentioned h a)
    carried_register-embed_register h a cov = told h a (listed h) (stepped h a) refl refl cov

-- it is listed between exactly where it is later
pub alike_register : (m : NodeId → Bool) (h a : Option NodeId) → holds_mentioned m (held_between m h a) ≡ holds_mentioned m a
alike_register m h a = elim (holds_mentioned m a) as (λ b. holds_mentioned m a ≡ b → holds_mentioned m (cond b a (only_others m h)) ≡ b) [
  | true ↦ (λ e. e)
  | false ↦ (λ e. others h)
] refl
  where
    others : (h : Option NodeId) → holds_mentioned m (only_others m h) ≡ false
    others None = refl
    others (Some n) = elim (m n) as (λ b. m n ≡ b → holds_mentioned m (cond b None (Some n)) ≡ false) [ true ↦ (λ e. refl) | false ↦ (λ e. e) ] refl
