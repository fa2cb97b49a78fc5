-- The easy half, in part: the rules on registers, and on the rows of new nodes.
use Rattle.std.proofs.Common.{◌≡◌, ◌≢◌, ◌||◌, Bool, true, false, List, [], ◌∷◌, Option, Some, None, IsSome, IsTrue, cond, refl, sym, ap, ◌∙◌, subst, inl, inr, ◌⊎◌}
use Rattle.st_ids.specs.Listing.{Has}
use Rattle.st_ids.specs.Order.{same_node}
use Rattle.st_ids.proofs.Orders.{same_node-itself}
use Rattle.st_ids.specs.declared.names.FieldId.{FieldId}
use Rattle.st_ids.specs.declared.names.NodeId.{NodeId}
use Rattle.st_marks.specs.declared.changes.Change.{Change}
use Rattle.st_marks.specs.declared.intents.Intent.{Intent}
use Rattle.st_marks.specs.declared.intents.To.{To}
use Rattle.st_marks.specs.declared.marks.RegMark.{RegMark}
use Rattle.st_marks.specs.declared.marks.RowMarks.{RowMarks}
use Rattle.st_marks.specs.declared.places.Slot.{Slot}
use Rattle.st_marks.specs.Document.{Document, IsSoundInForm, content, slot}
use Rattle.st_marks.specs.Embedding.{IsEmbedding, register_part}
use Rattle.st_marks.specs.Intent.{Fits, clears, put_of, put_in}
use Rattle.st_marks.specs.Register.{RegisterPart, comes_in, embed_register, holds_mentioned, how_held}
use Rattle.st_marks.specs.Row.{how, spread}
use Rattle.st_marks.specs.How.{is_here}
use Rattle.st_normal.specs.Rules.{Entries, entries_of_change, FilledRegistersAreCleared, KeysAreThere, NewRowsAreMade, RegisterMarksFit, RegistersTell}
use Rattle.st_marks.specs.Listings.{cells_before, CellView}
use Rattle.st_marks.proofs.Members.{all-has, has-map, has-all}
use Rattle.st_puts.specs.Seen.{AreAsSeen}
use Rattle.st_puts.specs.Meant.{IsOver}
use Rattle.st_marks.proofs.Lookups.{put-has, clears-has, has-put_in, put_clears, put_in-has}
use Rattle.st_puts.proofs.OverDocuments.{embedding_over, held-is, reg-look}
use Rattle.st_puts.proofs.PutsOfIntents.{is_here-put}
use Rattle.st_marks.specs.declared.marks.How.TheVariants.{Stay, Here}
use Rattle.st_puts.proofs.StayingNodes.{reg-how}
use Rattle.st_lemmas.proofs.Bools.{true-false}

here-put : (o : Option To) (t : To) → how o t ≡ Here → o ≡ Some t
here-put o t e = is_here-put o t (ap is_here e)

module _ (D : Document) (N : Intent) (C : Change) (x : IsSoundInForm D) (f : Fits D N) (emb : IsEmbedding D N C) where
  abbrev L : Entries
  L = entries_of_change C

  abbrev m : NodeId → Bool
  m = emb.mentioned

  o : IsOver D C
  o = embedding_over D N C x f emb

  abbrev part : FieldId → RegisterPart
  part k = register_part m N k

  reg-fill : (k : FieldId) (p : RegisterPart) (q : Option NodeId) (r : RegMark) → embed_register k p q ≡ Some r → comes_in q p.fill ≡ r.fill
  reg-fill k p q r e = go (p.clear || holds_mentioned p.mentioned q) refl
    where
      at : Option RegMark → Option NodeId
      at None = r.fill
      at (Some z) = z.fill

      go : (b : Bool) → (p.clear || holds_mentioned p.mentioned q) ≡ b → comes_in q p.fill ≡ r.fill
      go true g = ap at (ap (λ b. cond b (Some (record { field = k; held = q; how = how_held k p q; clear = p.clear; fill = comes_in q p.fill })) None) (sym g) ∙ e)
      go false g = let bad : None ≡ Some r = ap (λ b. cond b (Some (record { field = k; held = q; how = how_held k p q; clear = p.clear; fill = comes_in q p.fill })) None) (sym g) ∙ e in cc

  -- what a listed register says
  look : (r : RegMark) → Has C.regs r → embed_register r.field (part r.field) r.held ≡ Some r
  look r i = ap (embed_register r.field (part r.field)) (sym (o.held r i)) ∙ reg-look D N C x f emb r i

  pub how_is : (r : RegMark) → Has C.regs r → how_held r.field (part r.field) r.held ≡ r.how
  how_is r i = (reg-how D N C x f emb r.field (part r.field) r.held r (look r i)).0

  clear_is : (r : RegMark) → Has C.regs r → clears N r.field ≡ r.clear
  clear_is r i = (reg-how D N C x f emb r.field (part r.field) r.held r (look r i)).1

  fill_is : (r : RegMark) → Has C.regs r → comes_in r.held (put_in N r.field) ≡ r.fill
  fill_is r i = reg-fill r.field (part r.field) r.held r (look r i)

  tells_is : (r : RegMark) → Has C.regs r → (clears N r.field || holds_mentioned m r.held) ≡ true
  tells_is r i = (held-is D N C x f emb r.field (part r.field) r.held r (look r i)).1

  pub registers_tell : RegistersTell C
  registers_tell = has-all (λ (r : RegMark). IsTrue r.clear ⊎ IsSome r.held) C.regs (λ r i. go r (clears N r.field) (clear_is r i) r.held refl (tells_is r i))
    where
      go : (r : RegMark) (b : Bool) → b ≡ r.clear → (q : Option NodeId) → r.held ≡ q → (b || holds_mentioned m q) ≡ true → IsTrue r.clear ⊎ IsSome r.held
      go r true e q g t = inl (sym e)
      go r false e None g t = cc
      go r false e (Some n) g t = inr (rw g refl)

  -- who comes in is put there
  pub fill-put : (r : RegMark) (n : NodeId) → Has C.regs r → r.fill ≡ Some n → (put_in N r.field ≡ Some n) × (Some n ≢ r.held)
  fill-put r n i e = go (put_in N r.field) refl (fill_is r i ∙ e)
    where
      none : (q : Option NodeId) → comes_in q None ≡ None
      none None = refl
      none (Some k) = refl

      apart : (q : Option NodeId) (k : NodeId) → comes_in q (Some k) ≡ Some n → (k ≡ n) × (Some n ≢ q)
      apart None k g = let s : k ≡ n = cc in (s, λ h. cc)
      apart (Some j) k g = decide (same_node j k) refl g
        where
          decide : (b : Bool) → same_node j k ≡ b → cond b None (Some k) ≡ Some n → (k ≡ n) × (Some n ≢ Some j)
          decide true h g = cc
          decide false h g = let s : k ≡ n = cc in (s, λ w. let same : n ≡ j = cc in true-false (ap (same_node j) (s ∙ same) ∙ same_node-itself j) h)

      go : (p : Option NodeId) → put_in N r.field ≡ p → comes_in r.held p ≡ Some n → (put_in N r.field ≡ Some n) × (Some n ≢ r.held)
      go None g h = let bad : None ≡ Some n = sym (none r.held) ∙ h in cc
      go (Some k) g h = let a = apart r.held k h in (g ∙ ap (λ k. Some k) a.0, a.1)

  -- who is set there is put there
  here-there : (r : RegMark) → Has C.regs r → r.how ≡ Here → (n : NodeId) × (r.held ≡ Some n) × (put_in N r.field ≡ Some n)
  here-there r i e = go r.held refl (how_is r i ∙ e)
    where
      go : (q : Option NodeId) → r.held ≡ q → how_held r.field (part r.field) q ≡ Here → (n : NodeId) × (r.held ≡ Some n) × (put_in N r.field ≡ Some n)
      go None g h = cc
      go (Some n) g h = (n, g, has-put_in N f.itself n r.field (put-has N n (To.Register r.field) (here-put (put_of N n) (To.Register r.field) h)))

  pub filled_are_cleared : FilledRegistersAreCleared C
  filled_are_cleared = has-all (λ (r : RegMark). IsSome r.fill ⊎ (r.how ≡ Here) → IsTrue r.clear) C.regs (λ r i h. sym (clear_is r i) ∙ cleared r i h)
    where
      put : (r : RegMark) (n : NodeId) → put_in N r.field ≡ Some n → clears N r.field ≡ true
      put r n e = put_clears N f.itself n r.field (put_in-has N r.field n e)

      filled : (r : RegMark) → Has C.regs r → (q : Option NodeId) → r.fill ≡ q → IsSome q → clears N r.field ≡ true
      filled r i None e s = cc
      filled r i (Some n) e s = put r n (fill-put r n i e).0

      cleared : (r : RegMark) → Has C.regs r → IsSome r.fill ⊎ (r.how ≡ Here) → clears N r.field ≡ true
      cleared r i (inl s) = filled r i r.fill refl s
      cleared r i (inr e) = let h = here-there r i e in put r h.0 h.2

  pub marks_fit : RegisterMarksFit C
  marks_fit = has-all (λ (r : RegMark). (r.held ≡ None → r.how ≡ Stay) × (IsSome r.fill → r.fill ≢ r.held) × (r.how ≡ Here → r.fill ≡ None)) C.regs (λ r i. (
    λ e. sym (how_is r i) ∙ ap (how_held r.field (part r.field)) e,
    λ s. other r i r.fill refl s,
    λ e. (let h = here-there r i e in sym (fill_is r i) ∙ (λ z. comes_in (h.1 z) (h.2 z)) ∙ ap (λ b. cond b None (Some h.0)) (same_node-itself h.0)),
  ))
    where
      other : (r : RegMark) → Has C.regs r → (q : Option NodeId) → r.fill ≡ q → IsSome q → q ≢ r.held
      other r i None e s = cc
      other r i (Some n) e s = (fill-put r n i e).1

  pub keys_are_there : KeysAreThere L
  keys_are_there = has-all (λ (k : FieldId). k.key.0 ≢ []) L.registers (λ k h. let r = has-map (λ (r : RegMark). r.field) C.regs k h in subst (λ (k : FieldId). k.key.0 ≢ []) r.2 (go r.0 (clears N r.0.field) refl r.0.held (o.held r.0 r.1) (tells_is r.0 r.1)))
    where
      go : (r : RegMark) (b : Bool) → clears N r.field ≡ b → (q : Option NodeId) → D.held r.field ≡ q → (b || holds_mentioned m q) ≡ true → r.field.key.0 ≢ []
      go r true e q g t = all-has (λ (k : FieldId). k.key.0 ≢ []) N.clear r.field f.itself.register_keys (clears-has N.clear r.field e)
      go r false e None g t = cc
      go r false e (Some n) g t = x.register_key n r.field g

  pub new_rows_are_made : NewRowsAreMade L
  new_rows_are_made = has-all (λ (r : RowMarks). Has L.new r.node → cells_before (spread r.marks) ≡ []) C.rows (λ r i h. none (content D r.node) (cells_before (spread r.marks)) (o.rows r i) (λ s j. nobody r.node (o.new_nodes r.node h) s j))
    where
      none : (c : List Slot) (xs : List CellView) → AreAsSeen c xs → ((s : Slot) → Has c s → ⊥) → xs ≡ []
      none [] [] p h = refl
      none [] (y ∷ ys) p h = absurd p
      none (s ∷ c) xs p h = absurd (h s (inl refl))

      nobody : (n : NodeId) → D.nodes n ≡ None → (s : Slot) → Has (content D n) s → ⊥
      nobody n e s j = let q = has-map (slot D) (D.rows n) s j in let k = (x.cells_known n q.0 q.1).0 in let bad : ◌≡◌ {A = Bool} false true = rw e at k in cc
