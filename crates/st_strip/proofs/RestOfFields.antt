-- Registers, new nodes and loose nodes behind a first part of a step.
use Rattle.std.proofs.Common.{◌≡◌, Bool, true, false, ◌||◌, ◌&&◌, not, Option, Some, None, MatchOption, cond, refl, sym, ap, ◌∙◌, subst}
use Rattle.st_ids.specs.Listing.{item_of}
use Rattle.st_ids.specs.Order.{field_cmp, same_node}
use Rattle.st_ids.specs.Root.{root}
use Rattle.st_ids.specs.declared.names.FieldId.{FieldId}
use Rattle.st_ids.specs.declared.names.NodeId.{NodeId}
use Rattle.st_kind.specs.Named.{Nodes}
use Rattle.st_marks.specs.declared.marks.How.TheVariants.{Stay, Leave}
use Rattle.st_marks.specs.declared.marks.Loose.{Loose}
use Rattle.st_marks.specs.declared.marks.RegStep.{RegStep}
use Rattle.st_marks.specs.declared.steps.Step.{Step}
use Rattle.st_marks.specs.Back.{is_in}
use Rattle.st_marks.specs.Document.{Document, NodeType}
use Rattle.st_marks.specs.Embedding.{is_nowhere}
use Rattle.st_marks.specs.Extends.{IsExtendedBy}
use Rattle.st_marks.specs.Intent.{same_option}
use Rattle.st_marks.specs.Register.{holds_mentioned, step_register}
use Rattle.st_marks.specs.Step.{IsStep, gained_node, step_loose}
use Rattle.st_marks.proofs.Shared.{held-same, same-held}
use Rattle.st_puts.proofs.ListedIf.{or_parts, shown-None, shown-Some}
use Rattle.st_strip.specs.Rest.{TellsRest, named_rest, rest_loose, rest_new, rest_register}
use Rattle.st_strip.proofs.RestCovered.{is_there}

-- ## Registers

module _ (D E F : Document) (S W : Step) (x : IsExtendedBy D E) (s : IsStep D E S) (t : IsStep D F W) (f : FieldId) where
  abbrev m : Nodes
  m = s.mentioned

  abbrev k : Nodes
  k = t.mentioned

  abbrev named : Nodes
  named = named_rest D F m k

  abbrev Listed : Option RegStep → Type 0
  Listed o = MatchOption o (step_register f named (E.held f) (F.held f) ≡ None) (λ r. r ≡ record { field = f; before = E.held f; after = F.held f })

  row_is : (w : Nodes) (a b : Option NodeId) (r : RegStep) → step_register f w a b ≡ Some r → r ≡ record { field = f; before = a; after = b }
  row_is w a b r e = shown-Some (not (same_option same_node a b) || holds_mentioned w a) (record { field = f; before = a; after = b }) r e

  -- a register that isn't listed stays, and holds none that is named
  quiet : (w : Nodes) (a b : Option NodeId) → step_register f w a b ≡ None → (a ≡ b) × (holds_mentioned w a ≡ false)
  quiet w a b e =
      let p = or_parts (not (same_option same_node a b)) (holds_mentioned w a) (shown-None (not (same_option same_node a b) || holds_mentioned w a) (record { field = f; before = a; after = b }) e) in
      (same-held a b (twice (same_option same_node a b) p.0), p.1)
    where
      twice : (b : Bool) → not b ≡ false → b ≡ true
      twice true e = refl
      twice false e = cc

  -- whoever is in the register was there
  none_named : (o : Option NodeId) → D.held f ≡ o → holds_mentioned m o ≡ false → holds_mentioned k o ≡ false → holds_mentioned named o ≡ false
  none_named None q a b = refl
  none_named (Some n) q a b =
      let old = is_there D n (x.before.held_known n f q).0 in
      (λ i. (a i || (is_in F n && not (old i))) || b i) ∙ none (is_in F n)
    where
      none : (b : Bool) → ((b && false) || false) ≡ false
      none true = refl
      none false = refl

  silent : (a b : Option NodeId) → a ≡ b → holds_mentioned named a ≡ false → step_register f named a b ≡ None
  silent a b e h = λ i. cond {A = Option RegStep} (not (held-same a b e i) || h i) (Some (record { field = f; before = a; after = b })) None

  listed : (p q : Option RegStep) → step_register f m (D.held f) (E.held f) ≡ p → step_register f k (D.held f) (F.held f) ≡ q → Listed (rest_register f p q)
  listed None None e g =
      let a = quiet m (D.held f) (E.held f) e in
      let b = quiet k (D.held f) (F.held f) g in
      silent (E.held f) (F.held f) (sym a.0 ∙ b.0) (ap (holds_mentioned named) (sym a.0) ∙ none_named (D.held f) refl a.1 b.1)
  listed (Some r) None e g = λ i. record { field = f; before = (row_is m (D.held f) (E.held f) r e i).after; after = ((λ j. (row_is m (D.held f) (E.held f) r e j).before) ∙ (quiet k (D.held f) (F.held f) g).0) i }
  listed None (Some w) e g = row_is k (D.held f) (F.held f) w g ∙ (λ i. record { field = f; before = (quiet m (D.held f) (E.held f) e).0 i; after = F.held f })
  listed (Some r) (Some w) e g = λ i. record { field = f; before = (row_is m (D.held f) (E.held f) r e i).after; after = (row_is k (D.held f) (F.held f) w g i).after }

  pub rest_register-listed : (o : Option RegStep) → o ≡ rest_register f (item_of field_cmp (λ (r : RegStep). r.field) S.regs f) (item_of field_cmp (λ (r : RegStep). r.field) W.regs f) → Listed o
  rest_register-listed o e =
      let says : o ≡ rest_register f (step_register f m (D.held f) (E.held f)) (step_register f k (D.held f) (F.held f)) = e ∙ (λ i. rest_register f (s.regs.at_each f i) (t.regs.at_each f i)) in
      subst Listed (sym says) (listed (step_register f m (D.held f) (E.held f)) (step_register f k (D.held f) (F.held f)) refl refl)

-- ## New nodes

pub rest_new-is : (D E F : Document) → IsExtendedBy D E → IsExtendedBy E F → (n : NodeId)
    → rest_new (gained_node n (D.nodes n) (E.nodes n)) (gained_node n (D.nodes n) (F.nodes n)) ≡ gained_node n (E.nodes n) (F.nodes n)
rest_new-is D E F x y n = go (D.nodes n) refl (E.nodes n) refl
  where
    go : (o : Option NodeType) → D.nodes n ≡ o → (p : Option NodeType) → E.nodes n ≡ p → rest_new (gained_node n o p) (gained_node n o (F.nodes n)) ≡ gained_node n p (F.nodes n)
    go None e None g = refl
    go None e (Some u) g = refl
    go (Some u) e None g = let bad : ◌≡◌ {A = Option NodeType} None (Some u) = sym g ∙ x.nodes n u e in cc
    go (Some u) e (Some v) g = refl

-- ## Loose nodes

module _ (D E F : Document) (m k told between last : Nodes) (tells : TellsRest D E F m k told between last) (n : NodeId) where
  abbrev naming : Nodes
  naming = named_rest D F m k

  -- a loose node, by whether it is named, nowhere between, not the root, and nowhere at last
  abbrev one : Bool → Bool → Bool → Bool → Option Loose
  one a b z c = cond (a && b && z) (Some (record { node = n; how = cond c Stay Leave })) None

  no_root : (a b c : Bool) → one a b false c ≡ None
  no_root true true c = refl
  no_root true false c = refl
  no_root false b c = refl

  others : same_node n root ≡ false → (a : Bool) → told n ≡ a → one a (between n) true (last n) ≡ one (naming n) (is_nowhere (E.place n)) true (is_nowhere (F.place n))
  others z true e = λ i. one ((sym e ∙ tells.told_so n z) i) (tells.between_so n z e i) true (tells.last_so n z e i)
  others z false e = λ i. one ((sym e ∙ tells.told_so n z) i) (is_nowhere (E.place n)) true (is_nowhere (F.place n))

  pub rest_loose-is : rest_loose (told n) (between n) (last n) n ≡ step_loose naming E F n
  rest_loose-is = go (same_node n root) refl
    where
      go : (z : Bool) → same_node n root ≡ z → one (told n) (between n) (not (same_node n root)) (last n) ≡ one (naming n) (is_nowhere (E.place n)) (not (same_node n root)) (is_nowhere (F.place n))
      go true z =
          (λ i. one (told n) (between n) (not (z i)) (last n)) ∙ no_root (told n) (between n) (last n)
          ∙ sym (no_root (naming n) (is_nowhere (E.place n)) (is_nowhere (F.place n))) ∙ (λ i. one (naming n) (is_nowhere (E.place n)) (not (sym z i)) (is_nowhere (F.place n)))
      go false z =
          (λ i. one (told n) (between n) (not (z i)) (last n)) ∙ others z (told n) refl
          ∙ (λ i. one (naming n) (is_nowhere (E.place n)) (not (sym z i)) (is_nowhere (F.place n)))
