-- What the lists of a change tell is what the intent whose change it is says.
use Rattle.std.proofs.Common.{◌≡◌, ◌≢◌, ◌↔◌, Bool, true, false, cond, ◌||◌, List, [], ◌∷◌, ◌++◌, Option, Some, None, refl, sym, ap, ◌∙◌, subst, inl, inr}
use Rattle.std.specs.FinMap.Entries.{below_all}
use Rattle.std.specs.List.{AllByRecursion, find, flat_map, list_any}
use Rattle.std.specs.Ordering.{is_lt}
use Rattle.st_ids.specs.Listing.{Has, IsRising, item_of, key_pairs}
use Rattle.st_ids.specs.Order.{field_cmp, node_cmp, same_field, same_node}
use Rattle.st_ids.specs.declared.names.CellId.{CellId}
use Rattle.st_ids.specs.declared.names.FieldId.{FieldId}
use Rattle.st_ids.specs.declared.names.NodeId.{NodeId}
use Rattle.st_ids.proofs.Listings.{has-item_of, item_of-has}
use Rattle.st_ids.proofs.Orders.{field_cmp_exact, field_cmp_total, node_cmp_exact, node_cmp_total, same_field-itself, same_node-itself, same_node-true}
use Rattle.st_marks.specs.declared.changes.Change.{Change}
use Rattle.st_marks.specs.declared.changes.NewNode.{NewNode}
use Rattle.st_marks.specs.declared.intents.Group.{Group}
use Rattle.st_marks.specs.declared.intents.Intent.{Intent}
use Rattle.st_marks.specs.declared.intents.Put.{Put}
use Rattle.st_marks.specs.declared.marks.RegMark.{RegMark}
use Rattle.st_marks.specs.Document.{Document, IsSoundInForm}
use Rattle.st_marks.specs.Embedding.{IsEmbedding, is_among, register_part}
use Rattle.st_marks.specs.Intent.{Fits, clears, new_node, put_in, put_of}
use Rattle.st_marks.specs.Register.{comes_in, holds_mentioned, how_held}
use Rattle.st_marks.proofs.Lookups.{clears-has}
use Rattle.st_marks.proofs.Members.{any-has, flat_map-has, has-any, has-flat_map}
use Rattle.st_same_laws.specs.Same.{LooksAlike}
use Rattle.st_lemmas.proofs.Bools.{and-both, and-true, both-ways-same, or-left}
use Rattle.st_lemmas.proofs.Options.{one_some}
use Rattle.st_meaning.specs.InOrder.{IsInOrder, place_cmp, place_of}
use Rattle.st_meaning.specs.inside.Made.{cleared_at, made_at, made_in_row, put_by}
use Rattle.st_meaning.proofs.Entries.{found_by}
use Rattle.st_meaning.proofs.MadeCells.{made-exact}

-- what is told, with these groups and puts
abbrev pub told : Change → List Group → List Put → Intent
told C gs ps = record { rev = C.rev; under = C.under; new = C.new; groups = gs; clear = flat_map cleared_at C.regs; put = ps; need = C.need; schema = C.schema }

-- ## Cleared registers rise as the registers do

below-cleared : (f : FieldId) (rs : List RegMark) → below_all field_cmp f (key_pairs (λ (r : RegMark). r.field) rs) ≡ true → below_all field_cmp f (key_pairs (λ (f : FieldId). f) (flat_map cleared_at rs)) ≡ true
below-cleared f [] e = refl
below-cleared f (r ∷ rs) e = let h = and-true _ _ e in go r.clear h.0 (below-cleared f rs h.1)
  where
    go : (b : Bool) → is_lt (field_cmp f r.field) ≡ true → below_all field_cmp f (key_pairs (λ (f : FieldId). f) (flat_map cleared_at rs)) ≡ true
        → below_all field_cmp f (key_pairs (λ (f : FieldId). f) (cond b (r.field ∷ []) [] ++ flat_map cleared_at rs)) ≡ true
    go true l rest = and-both _ _ l rest
    go false l rest = rest

cleared-rise : (rs : List RegMark) → IsRising field_cmp (λ (r : RegMark). r.field) rs → IsRising field_cmp (λ (f : FieldId). f) (flat_map cleared_at rs)
cleared-rise [] e = refl
cleared-rise (r ∷ rs) e = let h = and-true _ _ e in go r.clear (below-cleared r.field rs h.0) (cleared-rise rs h.1)
  where
    go : (b : Bool) → below_all field_cmp r.field (key_pairs (λ (f : FieldId). f) (flat_map cleared_at rs)) ≡ true → IsRising field_cmp (λ (f : FieldId). f) (flat_map cleared_at rs)
        → IsRising field_cmp (λ (f : FieldId). f) (cond b (r.field ∷ []) [] ++ flat_map cleared_at rs)
    go true l rest = and-both _ _ l rest
    go false l rest = rest

cleared-has : (r : RegMark) (f : FieldId) → Has (cleared_at r) f → (r.clear ≡ true) × (r.field ≡ f)
cleared-has r f h = go r.clear refl h
  where
    go : (b : Bool) → r.clear ≡ b → Has (cond b (r.field ∷ []) []) f → (r.clear ≡ true) × (r.field ≡ f)
    go true e (inl i) = (e, i)
    go true e (inr i) = absurd i
    go false e h = absurd h

has-cleared : (r : RegMark) → r.clear ≡ true → Has (cleared_at r) r.field
has-cleared r e = subst (λ b. Has (cond b (r.field ∷ []) []) r.field) (sym e) (inl refl)

module _ (D : Document) (N : Intent) (C : Change) (e : IsEmbedding D N C) where
  abbrev key : RegMark → FieldId
  key r = r.field

  -- what is listed of a register
  abbrev mark : FieldId → RegMark
  mark f = record { field = f; held = D.held f; how = how_held f (register_part e.mentioned N f) (D.held f); clear = clears N f; fill = comes_in (D.held f) (put_in N f) }

  reg-clear : (r : RegMark) → Has C.regs r → clears N r.field ≡ r.clear
  reg-clear r h = go (clears N r.field || holds_mentioned e.mentioned (D.held r.field)) (sym (has-item_of field_cmp field_cmp_total field_cmp_exact key C.regs r e.regs.rising h) ∙ e.regs.at_each r.field)
    where
      go : (b : Bool) → Some r ≡ cond b (Some (mark r.field)) None
          → clears N r.field ≡ r.clear
      go true q = sym (ap (λ (r : RegMark). r.clear) (one_some r (mark r.field) q))
      go false q = cc

  clear-listed : (f : FieldId) → clears N f ≡ true → (r : RegMark) × Has C.regs r × (r.field ≡ f)
  clear-listed f t = go (item_of field_cmp key C.regs f) refl
    where
      not-none : ◌≡◌ {A = Option RegMark} None (Some (mark f)) → ⊥
      not-none q = cc

      go : (q : Option RegMark) → item_of field_cmp key C.regs f ≡ q → (r : RegMark) × Has C.regs r × (r.field ≡ f)
      go None q = absurd (not-none (sym q ∙ e.regs.at_each f ∙ ap (λ b. cond b (Some (mark f)) None) (or-left (clears N f) (holds_mentioned e.mentioned (D.held f)) t)))
      go (Some r) q = let i = item_of-has field_cmp field_cmp_total field_cmp_exact key C.regs f r q in (r, i.0, i.1)

  clears-exact : (f : FieldId) → clears N f ≡ list_any (λ g. same_field g f) (flat_map cleared_at C.regs)
  clears-exact f = both-ways-same _ _ there back
    where
      there : clears N f ≡ true → list_any (λ g. same_field g f) (flat_map cleared_at C.regs) ≡ true
      there t =
          let r = clear-listed f t in
          let c : r.0.clear ≡ true = sym (reg-clear r.0 r.1) ∙ ap (clears N) r.2 ∙ t in
          has-any (λ g. same_field g f) (flat_map cleared_at C.regs) f (subst (Has (flat_map cleared_at C.regs)) r.2 (flat_map-has cleared_at C.regs r.0 r.0.field r.1 (has-cleared r.0 c))) (same_field-itself f)

      back : list_any (λ g. same_field g f) (flat_map cleared_at C.regs) ≡ true → clears N f ≡ true
      back t =
          let r = has-flat_map cleared_at C.regs f (clears-has (flat_map cleared_at C.regs) f t) in
          let c = cleared-has r.0 f r.2 in
          ap (clears N) (sym c.1) ∙ reg-clear r.0 r.1 ∙ c.0

  need-exact : (n : NodeId) → Has N.need n ↔ Has C.need n
  need-exact n = (there, back)
    where
      is_there : (b : Bool) → is_among N.need n ≡ b → item_of node_cmp (λ (n : NodeId). n) C.need n ≡ cond b (Some n) None
      is_there b q = e.need.at_each n ∙ ap (λ b. cond b (Some n) None) q

      there : Has N.need n → Has C.need n
      there h = (item_of-has node_cmp node_cmp_total node_cmp_exact (λ (n : NodeId). n) C.need n n (is_there true (has-any (λ m. same_node m n) N.need n h (same_node-itself n)))).0

      back : Has C.need n → Has N.need n
      back h = go (is_among N.need n) refl
        where
          not-none : ◌≡◌ {A = Option NodeId} None (Some n) → ⊥
          not-none q = cc

          go : (b : Bool) → is_among N.need n ≡ b → Has N.need n
          go true q = let r = any-has (λ m. same_node m n) N.need q in subst (Has N.need) (same_node-true r.0 n r.2) r.1
          go false q = absurd (not-none (sym (is_there false q) ∙ has-item_of node_cmp node_cmp_total node_cmp_exact (λ (n : NodeId). n) C.need n e.need.rising h))

  new-exact : (n : NodeId) → new_node N n ≡ find (λ (m : NewNode). same_node m.node n) C.new
  new-exact n = sym (e.new.at_each n) ∙ sym (found_by node_cmp node_cmp_total node_cmp_exact (λ (m : NewNode). m.node) (λ (m : NewNode). same_node m.node n) n
      (λ m t. same_node-true m.node n t) (λ m i. ap (λ k. same_node k n) i ∙ same_node-itself n) C.new)

  pub told-alike : (gs : List Group) (ps : List Put) → IsSoundInForm D → Fits D N → ((n : NodeId) (a : Option CellId) → made_at gs n a ≡ flat_map (made_in_row D n a) C.rows) → ((n : NodeId) → put_by ps n ≡ put_of N n) → LooksAlike N (told C gs ps)
  told-alike gs ps x f made put = record {
    rev = sym e.rev;
    under = sym e.under;
    schema = sym e.schema;
    new = new-exact;
    groups = λ n a. sym (made n a ∙ made-exact D N C x f e n a);
    puts = λ n. sym (put n);
    clear = clears-exact;
    needs = need-exact;
  }

  pub told-in_order : (gs : List Group) (ps : List Put) → IsRising place_cmp place_of gs → AllByRecursion (λ (g : Group). g.cells ≢ []) gs → IsRising node_cmp (λ (p : Put). p.node) ps → IsInOrder (told C gs ps)
  told-in_order gs ps r some s = record {
    new = e.new.rising;
    groups = r;
    groups_some = some;
    clear = cleared-rise C.regs e.regs.rising;
    put = s;
    need = e.need.rising;
  }
