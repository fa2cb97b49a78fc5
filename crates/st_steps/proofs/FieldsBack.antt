-- Registers, loose nodes and schemas on the way back over a step.
use Rattle.std.proofs.Common.{◌≡◌, Bool, true, false, ◌||◌, ◌&&◌, not, Option, Some, None, MatchOption, option_map, cond, refl, sym, ap, ◌∙◌, subst, IfSome, IsSome, is_some}
use Rattle.st_ids.specs.Listing.{item_of}
use Rattle.st_ids.specs.Order.{field_cmp, same_node}
use Rattle.st_ids.specs.Root.{root}
use Rattle.st_ids.specs.declared.names.FieldId.{FieldId}
use Rattle.st_ids.specs.declared.names.NodeId.{NodeId}
use Rattle.st_kind.specs.Named.{Nodes}
use Rattle.st_marks.specs.declared.marks.How.TheVariants.{Stay, Leave}
use Rattle.st_marks.specs.declared.marks.Loose.{Loose}
use Rattle.st_marks.specs.declared.marks.RegStep.{RegStep}
use Rattle.st_marks.specs.declared.places.Spot.{Spot}
use Rattle.st_marks.specs.declared.schemas.SchemaStep.{SchemaStep}
use Rattle.st_marks.specs.declared.steps.Step.{Step}
use Rattle.st_marks.specs.Back.{is_in, place_back, retreat, unless_in}
use Rattle.st_marks.specs.Document.{Document, NodeType}
use Rattle.st_marks.specs.Embedding.{is_nowhere}
use Rattle.st_marks.specs.Extends.{IsExtendedBy}
use Rattle.st_marks.specs.Intent.{same_option}
use Rattle.st_marks.specs.Register.{holds_mentioned, step_register}
use Rattle.st_marks.specs.Step.{IsSchemaStep, IsStep, step_loose}
use Rattle.st_marks.proofs.Climb.{placed_known}
use Rattle.st_marks.proofs.Retreat.{back_old}
use Rattle.st_marks.proofs.Shared.{held-same, same-held}
use Rattle.st_steps.specs.WayBack.{TellsBack, loose_back, named_back_of, only_new, register_back, schema_back}
use Rattle.st_puts.proofs.ListedIf.{or_parts, shown-None, shown-Some}

there : (A : Document) (k : NodeId) → IsSome (A.nodes k) → is_in A k ≡ true
there A k h = go (A.nodes k) h
  where
    go : (o : Option NodeType) → IsSome o → is_some o ≡ true
    go None h = cc
    go (Some u) h = refl

opposite : (b : Bool) → b ≡ true → b ≡ false → ⊥
opposite b e f = let bad : ◌≡◌ {A = Bool} true false = sym e ∙ f in cc

-- ## Registers

module _ (D E : Document) (S : Step) (x : IsExtendedBy D E) (s : IsStep D E S) (new : Nodes) (new_so : (n : NodeId) → new n ≡ (is_in E n && not (is_in D n))) (f : FieldId) where
  abbrev m : Nodes
  m = s.mentioned

  abbrev named : Nodes
  named = named_back_of D E m

  abbrev back : Document
  back = retreat D E

  abbrev Listed : Option RegStep → Type 0
  Listed o = MatchOption o (step_register f named (E.held f) (back.held f) ≡ None) (λ r. r ≡ record { field = f; before = E.held f; after = back.held f })

  first_row : (r : RegStep) → step_register f m (D.held f) (E.held f) ≡ Some r → r ≡ record { field = f; before = D.held f; after = E.held f }
  first_row r e = shown-Some (not (same_option same_node (D.held f) (E.held f)) || holds_mentioned m (D.held f)) (record { field = f; before = D.held f; after = E.held f }) r e

  quiet : step_register f m (D.held f) (E.held f) ≡ None → (D.held f ≡ E.held f) × (holds_mentioned m (D.held f) ≡ false)
  quiet e =
      let p = or_parts (not (same_option same_node (D.held f) (E.held f))) (holds_mentioned m (D.held f)) (shown-None (not (same_option same_node (D.held f) (E.held f)) || holds_mentioned m (D.held f)) (record { field = f; before = D.held f; after = E.held f }) e) in
      (same-held (D.held f) (E.held f) (twice (same_option same_node (D.held f) (E.held f)) p.0), p.1)
    where
      twice : (b : Bool) → not b ≡ false → b ≡ true
      twice true e = refl
      twice false e = cc

  -- a register of a node that isn't there holds nobody
  none_held : is_in D f.node ≡ false → D.held f ≡ None
  none_held e = go (D.held f) refl
    where
      go : (o : Option NodeId) → D.held f ≡ o → o ≡ None
      go None q = refl
      go (Some n) q = absurd (opposite (is_in D f.node) (there D f.node (x.before.held_known n f q).1) e)

  new_false : (n : NodeId) → is_in D n ≡ true → new n ≡ false
  new_false n e = new_so n ∙ ap (λ b. is_in E n && not b) e ∙ no (is_in E n)
    where
      no : (b : Bool) → (b && false) ≡ false
      no true = refl
      no false = refl

  -- whom the register holds on the way back
  after_is : cond (new f.node) (only_new new (E.held f)) (D.held f) ≡ back.held f
  after_is = go (is_in D f.node) refl (E.held f) refl
    where
      go : (b : Bool) → is_in D f.node ≡ b → (o : Option NodeId) → E.held f ≡ o → cond (new f.node) (only_new new o) (D.held f) ≡ cond b (D.held f) (unless_in D o)
      go true e o q = ap (λ b. cond b (only_new new o) (D.held f)) (new_false f.node e)
      go false e None q = either_way (new f.node)
        where
          either_way : (b : Bool) → cond b None (D.held f) ≡ None
          either_way true = refl
          either_way false = none_held e
      go false e (Some n) q =
          let k = x.after.held_known n f q in
          let young : new f.node ≡ true = new_so f.node ∙ (λ i. there E f.node k.1 i && not (e i)) in
          ap (λ b. cond b (only_new new (Some n)) (D.held f)) young ∙ one (is_in D n) refl
        where
          one : (b : Bool) → is_in D n ≡ b → cond (new n) (Some n) None ≡ cond b None (Some n)
          one true g = ap (λ c. cond {A = Option NodeId} c (Some n) None) (new_false n g)
          one false g = ap (λ c. cond {A = Option NodeId} c (Some n) None) (new_so n ∙ (λ i. there E n (x.after.held_known n f q).0 i && not (g i)))

  silent : step_register f m (D.held f) (E.held f) ≡ None → step_register f named (E.held f) (back.held f) ≡ None
  silent e =
      let q = quiet e in
      let same : E.held f ≡ back.held f = go (is_in D f.node) refl q.0 in
      λ i. cond {A = Option RegStep} (not (held-same (E.held f) (back.held f) same i) || unnamed q.0 q.1 (E.held f) refl i) (Some (record { field = f; before = E.held f; after = back.held f })) None
    where
      go : (b : Bool) → is_in D f.node ≡ b → D.held f ≡ E.held f → E.held f ≡ cond b (D.held f) (unless_in D (E.held f))
      go true g q = sym q
      go false g q = let none : E.held f ≡ None = sym q ∙ none_held g in none ∙ sym (ap (unless_in D) none)

      unnamed : D.held f ≡ E.held f → holds_mentioned m (D.held f) ≡ false → (o : Option NodeId) → E.held f ≡ o → holds_mentioned named o ≡ false
      unnamed q h None g = refl
      unnamed q h (Some n) g =
          let old = there D n (x.before.held_known n f (q ∙ g)).0 in
          (λ i. (ap (holds_mentioned m) (sym (q ∙ g)) ∙ h) i || (is_in E n && not (old i))) ∙ no (is_in E n)
        where
          no : (b : Bool) → (b && false) ≡ false
          no true = refl
          no false = refl

  listed : (p : Option RegStep) → step_register f m (D.held f) (E.held f) ≡ p → Listed (option_map (register_back new) p)
  listed None e = silent e
  listed (Some r) e = ap (register_back new) (first_row r e) ∙ (λ i. record { field = f; before = E.held f; after = after_is i })

  pub register_back-listed : (o : Option RegStep) → o ≡ option_map (register_back new) (item_of field_cmp (λ (r : RegStep). r.field) S.regs f) → Listed o
  register_back-listed o e =
      let says : o ≡ option_map (register_back new) (step_register f m (D.held f) (E.held f)) = e ∙ ap (option_map (register_back new)) (s.regs.at_each f) in
      subst Listed (sym says) (listed (step_register f m (D.held f) (E.held f)) refl)

-- ## Loose nodes

module _ (D E : Document) (m new stood : Nodes) (spots : NodeId → Option Spot) (x : IsExtendedBy D E) (tells : TellsBack D E m new stood spots) (n : NodeId) where
  abbrev naming : Nodes
  naming = named_back_of D E m

  -- a node that is nowhere goes back where it stood
  goes_back : E.place n ≡ Spot.Nowhere → naming n ≡ true → stood n ≡ not (is_nowhere (place_back D E n))
  goes_back here e = go (is_in D n) refl
    where
      stays : is_in D n ≡ false → place_back D E n ≡ Spot.Nowhere
      stays g = rw (g, here) refl

      go : (b : Bool) → is_in D n ≡ b → stood n ≡ not (is_nowhere (place_back D E n))
      go false g = none (stood n) refl ∙ ap (λ s. not (is_nowhere s)) (sym (stays g))
        where
          none : (b : Bool) → stood n ≡ b → b ≡ false
          none false q = refl
          none true q = absurd (opposite (is_in D n) (there D n (placed_known D x.before n (λ (w : D.place n ≡ Spot.Nowhere). opposite (is_nowhere (D.place n)) (ap is_nowhere w) (tells.stood_so n q)))) g)
      go true g = at (is_nowhere (D.place n)) refl ∙ ap (λ s. not (is_nowhere s)) (sym (back_old D E x n g))
        where
          mentioned : m n ≡ true
          mentioned = only (m n) (is_in E n) (sym (ap (λ b. m n || (is_in E n && not b)) g) ∙ e)
            where
              only : (a b : Bool) → (a || (b && false)) ≡ true → a ≡ true
              only true b h = refl
              only false true h = cc
              only false false h = cc

          at : (b : Bool) → is_nowhere (D.place n) ≡ b → stood n ≡ not (is_nowhere (D.place n))
          at true q = none (stood n) refl ∙ ap not (sym q)
            where
              none : (b : Bool) → stood n ≡ b → b ≡ false
              none false w = refl
              none true w = absurd (opposite (is_nowhere (D.place n)) q (tells.stood_so n w))
          at false q = tells.all_stood n mentioned q ∙ ap not (sym q)

  pub loose_back-is : loose_back (stood n) (spots n) n ≡ step_loose naming E (retreat D E) n
  loose_back-is = go (spots n) refl
    where
      turned : (b : Bool) → cond (not b) Leave Stay ≡ cond b Stay Leave
      turned true = refl
      turned false = refl

      told : (s : Spot) → E.place n ≡ s → naming n ≡ true → (z : Bool)
          → cond {A = Option Loose} (is_nowhere s && z) (Some (record { node = n; how = cond (stood n) Leave Stay })) None ≡ cond {A = Option Loose} (naming n && is_nowhere (E.place n) && z) (Some (record { node = n; how = cond (is_nowhere (place_back D E n)) Stay Leave })) None
      told Spot.Nowhere e g true =
          let how = ap (λ b. cond b Leave Stay) (goes_back e g) ∙ turned (is_nowhere (place_back D E n)) in
          (λ i. Some (record { node = n; how = how i }))
          ∙ (λ i. cond {A = Option Loose} (sym g i && is_nowhere (sym e i) && true) (Some (record { node = n; how = cond (is_nowhere (place_back D E n)) Stay Leave })) None)
      told Spot.Nowhere e g false = λ i. cond {A = Option Loose} (sym g i && is_nowhere (sym e i) && false) (Some (record { node = n; how = cond (is_nowhere (place_back D E n)) Stay Leave })) None
      told (Spot.Row r c) e g z = λ i. cond {A = Option Loose} (sym g i && is_nowhere (sym e i) && z) (Some (record { node = n; how = cond (is_nowhere (place_back D E n)) Stay Leave })) None
      told (Spot.Register k) e g z = λ i. cond {A = Option Loose} (sym g i && is_nowhere (sym e i) && z) (Some (record { node = n; how = cond (is_nowhere (place_back D E n)) Stay Leave })) None

      untold : (a b z : Bool) → naming n ≡ a → same_node n root ≡ z → spots n ≡ None → ◌≡◌ {A = Option Loose} None (cond (a && b && not z) (Some (record { node = n; how = cond (is_nowhere (place_back D E n)) Stay Leave })) None)
      untold false b z e g h = refl
      untold true true true e g h = refl
      untold true false z e g h = refl
      untold true true false e g h = absurd (none (spots n) h (tells.all_spots n e g))
        where
          none : (o : Option Spot) → o ≡ None → IsSome o → ⊥
          none None h w = cc
          none (Some s) h w = cc

      go : (o : Option Spot) → spots n ≡ o → loose_back (stood n) o n ≡ step_loose naming E (retreat D E) n
      go None e = untold (naming n) (is_nowhere (E.place n)) (same_node n root) refl refl e
      go (Some s) e =
          let w = subst (λ o. IfSome o (λ s. (E.place n ≡ s) × (naming n ≡ true))) e (tells.spots_so n) in
          told s w.0 w.1 (not (same_node n root))

-- ## Schemas

pub schema_back-is : (ds es : _) (s : Option SchemaStep) → IsSchemaStep ds es s → IsSchemaStep es ds (schema_back s)
schema_back-is ds es None h = sym h
schema_back-is ds es (Some s) h = (h.0, h.2, h.1, h.3, λ q. h.4 (sym q))
