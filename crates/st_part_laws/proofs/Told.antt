-- What is told of one more commit changes nothing of documents and commits that don't have its revision.
use Rattle.std.proofs.Common.{◌≡◌, ◌≢◌, ℕ, Bool, true, false, ◌&&◌, List, [], ◌∷◌, ◌++◌, Option, Some, None, IsSome, IfSome, is_some, option_and_then, refl, sym, ap, ◌∙◌, subst, inl, inr, ◌⊎◌}
use mathlib.Core.Path.{fun_ext}
use Rattle.std.specs.List.{filter, list_any}
use Rattle.std.specs.Option.{option_or, option_map_or}
use Rattle.std.specs.Prelude.{if◌then◌else◌}
use Rattle.st_ids.specs.Listing.{Has}
use Rattle.st_ids.specs.Order.{same_rev}
use Rattle.st_ids.specs.declared.names.CellId.{CellId}
use Rattle.st_ids.specs.declared.names.FieldId.{FieldId}
use Rattle.st_ids.specs.declared.names.NodeId.{NodeId}
use Rattle.st_ids.specs.declared.names.Rev.{Rev}
use Rattle.st_ids.proofs.Orders.{same_rev-true, same_rev-itself}
use Rattle.st_ids.proofs.Shared.{no_members}
use Rattle.st_marks.specs.declared.intents.Group.{Group}
use Rattle.st_marks.specs.declared.intents.Intent.{Intent}
use Rattle.st_marks.specs.declared.intents.Owned.{Owned}
use Rattle.st_marks.specs.declared.intents.To.{To}
use Rattle.st_marks.specs.declared.places.Spot.{Spot}
use Rattle.st_marks.specs.declared.schemas.SchemaEntry.{SchemaEntry}
use Rattle.st_marks.specs.CarryOut.{spot_of, with_names}
use Rattle.st_marks.specs.Document.{Document, NodeType, IsSoundInForm, node_of, owned_cell, revs}
use Rattle.st_marks.specs.Intent.{Fits, IsKnown, group_cells, new_row_of, put_of}
use Rattle.st_marks.proofs.Climb.{above_known, placed_known, unknown_nowhere}
use Rattle.st_marks.proofs.Full.{known_put}
use Rattle.st_marks.proofs.Lookups.{group-new_row_of}
use Rattle.st_marks.proofs.Members.{all-has}
use Rattle.st_log_laws.specs.Names.{IsMadeUnder}
use Rattle.st_log_laws.proofs.Names.{new_node_rev}
use Rattle.st_part_laws.specs.Chains.{AreInLine, TellsChain, with_chain, with_under}
use Rattle.st_part_laws.specs.Parts.{IsClosedBy, NamesWithin, cells_by, has_cell, is_of_schemas, part_by, part_of_schemas}
use Rattle.st_part_laws.proofs.Chains.{last-has}

-- ## Two tests of nodes

filter-same : {A : Type 0} (f g : A → Bool) (xs : List A) → ((x : A) → Has xs x → f x ≡ g x) → filter f xs ≡ filter g xs
filter-same f g [] all = refl
filter-same f g (x ∷ xs) all = λ i. if all x (inl refl) i then x ∷ filter-same f g xs (λ y h. all y (inr h)) i else filter-same f g xs (λ y h. all y (inr h)) i

if-same : {A : Type 0} (x y : A) (b c : Bool) → (b ≡ c) ⊎ (x ≡ y) → (if b then x else y) ≡ (if c then x else y)
if-same x y b c (inl e) = ap (λ d. if d then x else y) e
if-same x y true true (inr e) = refl
if-same x y true false (inr e) = e
if-same x y false true (inr e) = sym e
if-same x y false false (inr e) = refl

-- tests that are the same for each node of a document
module _ (p q : NodeId → Bool) (D : Document) (s : IsSoundInForm D) (same : (n : NodeId) → IsSome (D.nodes n) → p n ≡ q n) where
  there_or_not : (n : NodeId) → (p n ≡ q n) ⊎ (D.nodes n ≡ None)
  there_or_not n = go (D.nodes n) refl
    where
      go : (o : Option NodeType) → D.nodes n ≡ o → (p n ≡ q n) ⊎ (D.nodes n ≡ None)
      go None e = inr e
      go (Some t) e = inl (same n (ap is_some e))

  either : {A : Type 0} (n : NodeId) (x y : A) → (D.nodes n ≡ None → x ≡ y) → (if p n then x else y) ≡ (if q n then x else y)
  either n x y none = if-same x y (p n) (q n) (elim (there_or_not n) [ inl e ↦ inl e | inr e ↦ inr (none e) ])

  not_there : (n : NodeId) → D.nodes n ≡ None → IsSome (D.nodes n) → ⊥
  not_there n e h = let bad : false ≡ true = subst (λ (o : Option NodeType). IsSome o) e h in cc

  cells_same : (n : NodeId) → cells_by p (D.rows n) ≡ cells_by q (D.rows n)
  cells_same n = filter-same (λ (o : Owned). p o.node) (λ (o : Owned). q o.node) (D.rows n) (λ o h. same o.node (s.cells_known n o h).1)

  no_row : (n : NodeId) → D.nodes n ≡ None → D.rows n ≡ []
  no_row n e = no_members (D.rows n) (λ o h. not_there n e (s.cells_known n o h).0)

  rows_same : (n : NodeId) → (part_by p D).rows n ≡ (part_by q D).rows n
  rows_same n = ap (λ l. if p n then l else []) (cells_same n) ∙ either n (cells_by q (D.rows n)) [] (λ e. ap (cells_by q) (no_row n e))

  row_of_same : (c : CellId) → (part_by p D).row_of c ≡ (part_by q D).row_of c
  row_of_same c = go (D.row_of c) refl
    where
      go : (o : Option NodeId) → D.row_of c ≡ o → option_and_then (λ n. if p n && has_cell (cells_by p (D.rows n)) c then Some n else None) o
          ≡ option_and_then (λ n. if q n && has_cell (cells_by q (D.rows n)) c then Some n else None) o
      go None e = refl
      go (Some n) e =
          let h = (s.one_row c n).0 e in
          λ i. if same n (s.cells_known n (owned_cell c h.0) h.1).0 i && has_cell (cells_same n i) c then Some n else None

  no_held : (f : FieldId) → D.nodes f.node ≡ None → D.held f ≡ None
  no_held f e = go (D.held f) refl
    where
      go : (o : Option NodeId) → D.held f ≡ o → D.held f ≡ None
      go None h = h
      go (Some m) h = absurd (not_there f.node e (s.held_known m f h).1)

  pub same_part : part_by p D ≡ part_by q D
  same_part =
      let nodes : (part_by p D).nodes ≡ (part_by q D).nodes = fun_ext (λ n. either n (D.nodes n) None (λ e. e)) in
      let rows : (part_by p D).rows ≡ (part_by q D).rows = fun_ext rows_same in
      let row_of : (part_by p D).row_of ≡ (part_by q D).row_of = fun_ext row_of_same in
      let place : (part_by p D).place ≡ (part_by q D).place = fun_ext (λ m. either m (D.place m) Spot.Nowhere (unknown_nowhere D s m)) in
      let held : (part_by p D).held ≡ (part_by q D).held = fun_ext (λ f. either f.node (D.held f) None (no_held f)) in
      λ i. record { nodes = nodes i; rows = rows i; row_of = row_of i; place = place i; held = held i; schemas = D.schemas }

  pub same_closed : IsClosedBy p D → IsClosedBy q D
  same_closed closed m n e = sym (same m (placed_known D s m (away (D.place m) refl e))) ∙ closed m n e ∙ same n (above_known D s m n e)
    where
      away : (x : Spot) → D.place m ≡ x → node_of x ≡ Some n → D.place m ≢ Spot.Nowhere
      away Spot.Nowhere at k = (let bad : None ≡ Some n = k in cc)
      away (Spot.Row r c) at k = λ h. (let bad : Spot.Row r c ≡ Spot.Nowhere = sym at ∙ h in cc)
      away (Spot.Register f) at k = λ h. (let bad : Spot.Register f ≡ Spot.Nowhere = sym at ∙ h in cc)

-- tests that are the same for each node that a document has or an intent makes
module _ (p q : NodeId → Bool) (D : Document) (M : Intent) (s : IsSoundInForm D) (f : Fits D M) (same : (n : NodeId) → IsKnown D M n → p n ≡ q n) where
  known_group : (g : Group) → Has M.groups g → IsKnown D M g.node
  known_group g h = (all-has (λ (g : Group). IsKnown D M g.node × IfSome g.after (λ c. D.row_of c ≡ Some g.node)) M.groups g f.groups_known h).0

  known_target : (m n : NodeId) (to : To) → put_of M m ≡ Some to → node_of (spot_of (with_names D M).row_of to) ≡ Some n → IsKnown D M n
  known_target m n To.Nowhere e k = let bad : None ≡ Some n = k in cc
  known_target m n (To.Register r) e k =
      let there : IsKnown D M r.node = (known_put D M f m (To.Register r) e).2 in
      let at : r.node ≡ n = cc in
      subst (IsKnown D M) at there
  known_target m n (To.Cell c) e k = go (D.row_of c) refl (new_row_of M c) refl k
    where
      go : (o : Option NodeId) → D.row_of c ≡ o → (r : Option NodeId) → new_row_of M c ≡ r → node_of (option_map_or (λ n. Spot.Row n c) (option_or o r) Spot.Nowhere) ≡ Some n → IsKnown D M n
      go (Some t) q r l k =
          let at : t ≡ n = cc in
          let h = (s.one_row c t).0 q in
          subst (IsKnown D M) at (inr (s.cells_known t (owned_cell c h.0) h.1).0)
      go None q None l k = let bad : None ≡ Some n = k in cc
      go None q (Some t) l k =
          let at : t ≡ n = cc in
          let g = group-new_row_of M c t l in
          subst (IsKnown D M) (g.2 ∙ at) (known_group g.0 g.1)

  pub same_within : NamesWithin p D M → NamesWithin q D M
  same_within w = record {
    new = λ n i. sym (same n (inl i)) ∙ w.new n i;
    groups = λ g h. sym (same g.node (known_group g h)) ∙ w.groups g h;
    owners = λ o h. sym (same o.node (all-has (λ (o : Owned). IsKnown D M o.node) (group_cells M) o f.owners_known h)) ∙ w.owners o h;
    anchors = λ g n o h e i. sym (same o.node (inr (s.cells_known n o i).1)) ∙ w.anchors g n o h e i;
    puts = λ m to e. sym (same m (known_put D M f m to e).0) ∙ w.puts m to e;
    targets = λ m n to e k. sym (same n (known_target m n to e k)) ∙ w.targets m n to e k;
    clears = λ r h. sym (same r.node (all-has (λ (r : FieldId). IsKnown D M r.node) M.clear r f.clears_known h)) ∙ w.clears r h;
    needs = λ n h. sym (same n (inr (all-has (λ n. IsSome (D.nodes n)) M.need n f.needs_known h))) ∙ w.needs n h;
  }

-- ## One more commit

module _ (under : Rev → Rev) (N : Intent) where
  pub told_under : with_under under N N.rev ≡ N.under
  told_under = rw (same_rev-itself N.rev) refl

  pub other_under : (r : Rev) → r ≢ N.rev → with_under under N r ≡ under r
  other_under r other = go (same_rev r N.rev) refl
    where
      go : (b : Bool) → same_rev r N.rev ≡ b → with_under under N r ≡ under r
      go true e = absurd (other (same_rev-true r N.rev e))
      go false e = rw e refl

  other_node : (rs : List Rev) (n : NodeId) → n.0.rev ≢ N.rev → is_of_schemas under rs n ≡ is_of_schemas (with_under under N) rs n
  other_node rs n other = ap (λ u. list_any (λ r. same_rev r u) rs) (sym (other_under n.0.rev other))

  module _ (rs ss : List Rev) (D : Document) (s : IsSoundInForm D) (made : IsMadeUnder ss D) (new : Has ss N.rev → ⊥) where
    old_node : (n : NodeId) → IsSome (D.nodes n) → is_of_schemas under rs n ≡ is_of_schemas (with_under under N) rs n
    old_node n h = other_node rs n (λ e. new (subst (Has ss) e (made.nodes n h)))

    pub told_part : part_of_schemas (with_under under N) rs D ≡ part_of_schemas under rs D
    told_part = sym (same_part (is_of_schemas under rs) (is_of_schemas (with_under under N) rs) D s old_node)

    pub told_closed : IsClosedBy (is_of_schemas under rs) D → IsClosedBy (is_of_schemas (with_under under N) rs) D
    told_closed closed = same_closed (is_of_schemas under rs) (is_of_schemas (with_under under N) rs) D s old_node closed

    pub told_within : (M : Intent) → M.rev ≢ N.rev → Fits D M → NamesWithin (is_of_schemas under rs) D M → NamesWithin (is_of_schemas (with_under under N) rs) D M
    told_within M other f w = same_within (is_of_schemas under rs) (is_of_schemas (with_under under N) rs) D M s f known w
      where
        known : (n : NodeId) → IsKnown D M n → is_of_schemas under rs n ≡ is_of_schemas (with_under under N) rs n
        known n (inl i) = other_node rs n (λ e. other (sym (new_node_rev M f.itself n i) ∙ e))
        known n (inr h) = old_node n h

module _ (chain : Rev → List Rev) (N : Intent) where
  told_line : with_chain chain N N.rev ≡ chain N.under ++ N.rev ∷ []
  told_line = rw (same_rev-itself N.rev) refl

  pub other_line : (r : Rev) → r ≢ N.rev → with_chain chain N r ≡ chain r
  other_line r other = go (same_rev r N.rev) refl
    where
      go : (b : Bool) → same_rev r N.rev ≡ b → with_chain chain N r ≡ chain r
      go true e = absurd (other (same_rev-true r N.rev e))
      go false e = rw e refl

  pub told_chain : N.under ≢ N.rev → TellsChain (with_chain chain N) N
  told_chain other = go N.schema
    where
      go : (o : Option (List ℕ)) → IfSome o (λ _. with_chain chain N N.rev ≡ with_chain chain N N.under ++ N.rev ∷ [])
      go None = tt
      go (Some t) = told_line ∙ ap (λ l. l ++ N.rev ∷ []) (sym (other_line N.under other))

  pub told_others : (M : Intent) → M.rev ≢ N.rev → M.under ≢ N.rev → TellsChain chain M → TellsChain (with_chain chain N) M
  told_others M rev under tells = go M.schema tells
    where
      go : (o : Option (List ℕ)) → IfSome o (λ _. chain M.rev ≡ chain M.under ++ M.rev ∷ []) → IfSome o (λ _. with_chain chain N M.rev ≡ with_chain chain N M.under ++ M.rev ∷ [])
      go None k = tt
      go (Some t) k = other_line M.rev rev ∙ k ∙ ap (λ l. l ++ M.rev ∷ []) (sym (other_line M.under under))

  pub told_entries : (entries : List SchemaEntry) → (Has (revs entries) N.rev → ⊥) → AreInLine chain entries → AreInLine (with_chain chain N) entries
  told_entries entries new k = record {
    last = λ r e. k.last r e ∙ sym (other_line r (λ same. new (subst (Has (revs entries)) same (last-has (revs entries) r e))));
    each = λ r s h i. k.each r s h (subst (λ l. Has l s) (other_line r (λ same. new (subst (Has (revs entries)) same h))) i);
  }
