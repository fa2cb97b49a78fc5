-- What an intent mentions stays the same over a step that moves none of it.
use Rattle.std.proofs.Common.{◌≡◌, ℕ, zero, suc, List, [], ◌∷◌, ◌++◌, map, Option, Some, None, refl, sym, ap, ◌∙◌, subst, IsSome, inl, inr, ◌⊎◌, option_and_then, is_some, true, false, Bool}
use Rattle.std.specs.List.{filter_map}
use Rattle.st_ids.specs.Listing.{Has}
use Rattle.st_ids.specs.declared.names.CellId.{CellId}
use Rattle.st_ids.specs.declared.names.FieldId.{FieldId}
use Rattle.st_ids.specs.declared.names.NodeId.{NodeId}
use Rattle.st_marks.specs.declared.intents.Group.{Group}
use Rattle.st_marks.specs.declared.intents.Intent.{Intent}
use Rattle.st_marks.specs.declared.intents.Put.{Put}
use Rattle.st_marks.specs.Document.{Document, node_of, above, climb, owned_cell}
use Rattle.st_marks.specs.Embedding.{IsMentionedByIntent, named_by_intent}
use Rattle.st_marks.specs.Extends.{IsExtendedBy}
use Rattle.st_marks.specs.Intent.{Fits, IsKnown, cell_of}
use Rattle.st_marks.proofs.Members.{all-has, has-append, has-map}
use Rattle.st_mention_laws.proofs.Mentions.{mentioned_above, same_names}
use Rattle.st_passing.specs.Whole.{LeavesMentioned}

module _ {A K : Type 0} (g : A → Option K) where
  of_filter_map : (xs : List A) (k : K) → Has (filter_map g xs) k → (x : A) × Has xs x × (g x ≡ Some k)
  of_filter_map [] k h = absurd h
  of_filter_map (y ∷ xs) k h = go (g y) refl (λ h. of_filter_map xs k h) h
    where
      go : (o : Option K) → g y ≡ o → (Has (filter_map g xs) k → (x : A) × Has xs x × (g x ≡ Some k)) → Has (filter_map g (y ∷ xs)) k → (x : A) × Has (y ∷ xs) x × (g x ≡ Some k)
      go None f rest h = let r = rest (rw f at h) in (r.0, inr r.1, r.2)
      go (Some j) f rest h = elim (the_head (rw f at h)) [ inl e ↦ (y, inl refl, f ∙ ap (λ i. Some i) e) | inr i ↦ (let r = rest i in (r.0, inr r.1, r.2)) ]
        where
          the_head : (j ≡ k) ⊎ Has (filter_map g xs) k → (j ≡ k) ⊎ Has (filter_map g xs) k
          the_head h = h

-- what an intent that fits names is there, or it makes it
module _ (D : Document) (N : Intent) (E : Document) (x : IsExtendedBy D E) (f : Fits D N) where
  of_row : (p : Put) (n : NodeId) → option_and_then D.row_of (cell_of p.to) ≡ Some n → IsSome (D.nodes n)
  of_row p n e = go (cell_of p.to) e
    where
      go : (o : Option CellId) → option_and_then D.row_of o ≡ Some n → IsSome (D.nodes n)
      go None e = cc
      go (Some c) e = let r = (x.before.one_row c n).0 e in (x.before.cells_known n (owned_cell c r.0) r.1).0

  pub named_known : (n : NodeId) → Has (named_by_intent D N) n → IsKnown D N n
  named_known n h = elim (has-append (puts ++ N.need ++ groups ++ targets) clears n h) [
    | inl a ↦ elim (has-append (puts ++ N.need ++ groups) targets n a) [
      | inl b ↦ elim (has-append (puts ++ N.need) groups n b) [
        | inl d ↦ elim (has-append puts N.need n d) [
          | inl i ↦ (let r = has-map (λ (p : Put). p.node) N.put n i in subst (IsKnown D N) r.2 (all-has _ N.put r.0 f.puts_known r.1).0)
          | inr i ↦ inr (all-has (λ m. IsSome (D.nodes m)) N.need n f.needs_known i)
        ]
        | inr i ↦ (let r = has-map (λ (g : Group). g.node) N.groups n i in subst (IsKnown D N) r.2 (all-has _ N.groups r.0 f.groups_known r.1).0)
      ]
      | inr i ↦ (let r = of_filter_map (λ (p : Put). option_and_then D.row_of (cell_of p.to)) N.put n i in inr (of_row r.0 n r.2))
    ]
    | inr i ↦ (let r = has-map (λ (f : FieldId). f.node) N.clear n i in subst (IsKnown D N) r.2 (all-has _ N.clear r.0 f.clears_known r.1))
  ]
    where
      puts : List NodeId
      puts = map (λ (p : Put). p.node) N.put

      groups : List NodeId
      groups = map (λ (g : Group). g.node) N.groups

      targets : List NodeId
      targets = filter_map (λ (p : Put). option_and_then D.row_of (cell_of p.to)) N.put

      clears : List NodeId
      clears = map (λ (f : FieldId). f.node) N.clear

module _ (D E : Document) (N : Intent) (x : IsExtendedBy D E) (f : Fits D N) (e : Fits E N) (stay : LeavesMentioned D E N) where
  same_above : (n : NodeId) → IsMentionedByIntent D N n → above E n ≡ above D n
  same_above n m = sym (ap node_of (stay n m))

  -- up from a mentioned node the way is the same
  back : (k : ℕ) (n q : NodeId) → IsMentionedByIntent D N n → climb (above E) k n ≡ Some q → IsMentionedByIntent D N q
  back zero n q m h = let same : n ≡ q = cc in subst (IsMentionedByIntent D N) same m
  back (suc k) n q m h = go (λ p w. back k p q w) (above E n) refl (same_above n m) h
    where
      go : ((p : NodeId) → IsMentionedByIntent D N p → climb (above E) k p ≡ Some q → IsMentionedByIntent D N q) → (o : Option NodeId) → above E n ≡ o → above E n ≡ above D n → option_and_then (climb (above E) k) o ≡ Some q → IsMentionedByIntent D N q
      go rest None i s h = cc
      go rest (Some p) i s h = rest p (mentioned_above D N n p (sym s ∙ i) m) h

  fore : (k : ℕ) (n q : NodeId) → IsMentionedByIntent D N n → climb (above D) k n ≡ Some q → climb (above E) k n ≡ Some q
  fore zero n q m h = h
  fore (suc k) n q m h = go (λ p w. fore k p q w) (above D n) refl (same_above n m) h
    where
      go : ((p : NodeId) → IsMentionedByIntent D N p → climb (above D) k p ≡ Some q → climb (above E) k p ≡ Some q) → (o : Option NodeId) → above D n ≡ o → above E n ≡ above D n → option_and_then (climb (above D) k) o ≡ Some q → option_and_then (climb (above E) k) (above E n) ≡ Some q
      go rest None i s h = cc
      go rest (Some p) i s h = ap (option_and_then (climb (above E) k)) (s ∙ i) ∙ rest p (mentioned_above D N n p i m) h

  was_there : (s : NodeId) → Has (named_by_intent D N) s → IsSome (E.nodes s) → IsSome (D.nodes s)
  was_there s h i = elim (named_known D N E x f s h) [
    | inl new ↦ absurd (none_some (E.nodes s) (e.fresh_nodes s new) i)
    | inr old ↦ old
  ]
    where
      none_some : {A : Type 0} (o : Option A) → o ≡ None → IsSome o → ⊥
      none_some o q k = let b : ◌≡◌ {A = Bool} false true = sym (ap is_some q) ∙ k in cc

  pub earlier : (n : NodeId) → IsMentionedByIntent E N n → IsMentionedByIntent D N n
  earlier n m =
      let named = subst (λ l. Has l m.0) (same_names D E N x f e) m.1 in
      back m.3 m.0 n (m.0, named, was_there m.0 named m.2, zero, refl) m.4

  pub later : ((s : NodeId) → IsSome (D.nodes s) → IsSome (E.nodes s)) → (n : NodeId) → IsMentionedByIntent D N n → IsMentionedByIntent E N n
  later kept n m =
      let named = subst (λ l. Has l m.0) (sym (same_names D E N x f e)) m.1 in
      (m.0, named, kept m.0 m.2, m.3, fore m.3 m.0 n (m.0, m.1, m.2, zero, refl) m.4)
