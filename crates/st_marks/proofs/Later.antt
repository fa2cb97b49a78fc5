-- An intent that fits a document fits each that extends it and has none of the intent's new names.
use Rattle.std.proofs.Common.{◌≡◌, ◌≢◌, List, Option, Some, None, refl, sym, ◌∙◌, inl, inr, IsSome, IsTrue, IfSome}
use Rattle.std.specs.List.{AllByRecursion}
use Rattle.st_ids.specs.Listing.{Has}
use Rattle.st_ids.specs.declared.names.CellId.{CellId}
use Rattle.st_ids.specs.declared.names.FieldId.{FieldId}
use Rattle.st_ids.specs.declared.names.NodeId.{NodeId}
use Rattle.st_marks.specs.declared.intents.Group.{Group}
use Rattle.st_marks.specs.declared.intents.Intent.{Intent}
use Rattle.st_marks.specs.declared.intents.Owned.{Owned}
use Rattle.st_marks.specs.declared.intents.Put.{Put}
use Rattle.st_marks.specs.declared.schemas.SchemaEntry.{SchemaEntry}
use Rattle.st_marks.specs.Document.{Document, NodeType, owned_cell}
use Rattle.st_marks.specs.Extends.{IsExtendedBy, no_more, item_gained, item_kept}
use Rattle.st_marks.specs.Intent.{Fits, IsKnown, Owns, is_new, new_row_of, group_cells, cell_of, register_of}
use Rattle.st_marks.proofs.Members.{all-has, has-all}
use Rattle.st_marks.proofs.NewRows.{KeepsOrder}

pub has_later : {xs ys : List Owned} → KeepsOrder xs ys → (o : Owned) → Has xs o → Has ys o
has_later no_more o h = absurd h
has_later (item_gained g) o h = inr (has_later g o h)
has_later (item_kept e g) o (inl q) = inl (sym e ∙ q)
has_later (item_kept e g) o (inr h) = inr (has_later g o h)

pub node_later : (D E : Document) → IsExtendedBy D E → (n : NodeId) → IsSome (D.nodes n) → IsSome (E.nodes n)
node_later D E x n h = go (D.nodes n) refl h
  where
    go : (o : Option NodeType) → D.nodes n ≡ o → IsSome o → IsSome (E.nodes n)
    go None e h = cc
    go (Some t) e h = rw (x.nodes n t e) refl

module _ (D E : Document) (N : Intent) (x : IsExtendedBy D E) (f : Fits D N) where
  known_later : (n : NodeId) → IsKnown D N n → IsKnown E N n
  known_later n (inl h) = inl h
  known_later n (inr h) = inr (node_later D E x n h)

  pub row_later : (c : CellId) (n : NodeId) → D.row_of c ≡ Some n → E.row_of c ≡ Some n
  row_later c n e = let o = (x.before.one_row c n).0 e in (x.after.one_row c n).1 (o.0, has_later (x.rows n) (owned_cell c o.0) o.1)

  owns_later : (n : NodeId) (c : CellId) → Owns D N n c → Owns E N n c
  owns_later n c (inl h) = inl (h.0, has_later (x.rows h.0) (owned_cell c n) h.1)
  owns_later n c (inr h) = inr h

  if_some : {A : Type 0} (P Q : A → Type 0) → ((a : A) → P a → Q a) → (o : Option A) → IfSome o P → IfSome o Q
  if_some P Q h None p = tt
  if_some P Q h (Some a) p = h a p

  pub fits_later : ((n : NodeId) → IsTrue (is_new N n) → E.nodes n ≡ None) → ((c : CellId) → IsSome (new_row_of N c) → E.row_of c ≡ None) → IfSome N.schema (λ _. AllByRecursion (λ (e : SchemaEntry). e.rev ≢ N.rev) E.schemas) → Fits E N
  fits_later nodes cells schema = record {
    itself = f.itself;
    fresh_nodes = nodes;
    fresh_cells = cells;
    fresh_schema = schema;
    groups_known = has-all (λ (g : Group). IsKnown E N g.node × IfSome g.after (λ c. E.row_of c ≡ Some g.node)) N.groups (λ g h.
        let k = all-has (λ (g : Group). IsKnown D N g.node × IfSome g.after (λ c. D.row_of c ≡ Some g.node)) N.groups g f.groups_known h in
        (known_later g.node k.0, if_some (λ c. D.row_of c ≡ Some g.node) (λ c. E.row_of c ≡ Some g.node) (λ c e. row_later c g.node e) g.after k.1));
    owners_known = has-all (λ (o : Owned). IsKnown E N o.node) (group_cells N) (λ o h. known_later o.node (all-has (λ (o : Owned). IsKnown D N o.node) (group_cells N) o f.owners_known h));
    puts_known = has-all (λ (p : Put). IsKnown E N p.node × IfSome (cell_of p.to) (Owns E N p.node) × IfSome (register_of p.to) (λ f. IsKnown E N f.node)) N.put (λ p h.
        let k = all-has (λ (p : Put). IsKnown D N p.node × IfSome (cell_of p.to) (Owns D N p.node) × IfSome (register_of p.to) (λ f. IsKnown D N f.node)) N.put p f.puts_known h in (
          known_later p.node k.0,
          if_some (Owns D N p.node) (Owns E N p.node) (λ c e. owns_later p.node c e) (cell_of p.to) k.1,
          if_some (λ (f : FieldId). IsKnown D N f.node) (λ (f : FieldId). IsKnown E N f.node) (λ f e. known_later f.node e) (register_of p.to) k.2,
        ));
    clears_known = has-all (λ (f : FieldId). IsKnown E N f.node) N.clear (λ r h. known_later r.node (all-has (λ (f : FieldId). IsKnown D N f.node) N.clear r f.clears_known h));
    needs_known = has-all (λ n. IsSome (E.nodes n)) N.need (λ n h. node_later D E x n (all-has (λ n. IsSome (D.nodes n)) N.need n f.needs_known h));
  }
