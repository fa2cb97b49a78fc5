-- What can be told of a document, and of an intent, can be told of the document after it.
use Rattle.std.proofs.Common.{◌≡◌, Bool, true, false, List, Option, None, Some, IsSome, IfSome, cond, option_map, is_some, refl, ap, ◌∙◌, subst, inl, inr, ◌&&◌}
use Rattle.std.specs.List.{AllByRecursion}
use Rattle.std.specs.Option.{option_or, option_map_or}
use Rattle.st_ids.specs.Listing.{Has}
use Rattle.st_ids.specs.Order.{same_node}
use Rattle.st_ids.specs.declared.names.Atom.{Atom}
use Rattle.st_ids.specs.declared.names.CellId.{CellId}
use Rattle.st_ids.specs.declared.names.FieldId.{FieldId}
use Rattle.st_ids.specs.declared.names.NodeId.{NodeId}
use Rattle.st_ids.proofs.Orders.{same_node-true}
use Rattle.st_marks.specs.declared.changes.NewNode.{NewNode}
use Rattle.st_marks.specs.declared.intents.Intent.{Intent}
use Rattle.st_marks.specs.declared.intents.Owned.{Owned}
use Rattle.st_marks.specs.declared.intents.Put.{Put}
use Rattle.st_marks.specs.declared.intents.To.{To}
use Rattle.st_marks.specs.declared.places.Spot.{Spot}
use Rattle.st_marks.specs.declared.verdicts.Verdict.{Verdict}
use Rattle.st_marks.specs.CarryOut.{is_put_in_new, place_after, unless_cleared, void_data, with_names}
use Rattle.st_marks.specs.Document.{Document, NodeType}
use Rattle.st_marks.specs.Intent.{clears, group_cells, is_new, new_node, new_type, put_of, register_of}
use Rattle.st_marks.specs.Run.{Run, done, next}
use Rattle.st_marks.specs.Verdict.{carried_document}
use Rattle.st_marks.proofs.Lookups.{put-has}
use Rattle.st_marks.proofs.Members.{all-has, first-has}
use Rattle.st_marks.proofs.NewRows.{old_or_made}
use Rattle.st_log_laws.proofs.Names.{if_carried}
use Rattle.st_change_laws.specs.Within.{DocumentIsWithin, IntentIsWithin, KeyIsShort, NewIsWithin}

-- a new node's name is of the kind
pub new_within : (A : Atom → Type 0) (N : Intent) → IntentIsWithin A N → (n : NodeId) → IsSome (new_type N n) → A n.0
new_within A N i n h = go (new_node N n) refl h
  where
    go : (o : Option NewNode) → new_node N n ≡ o → IsSome (option_map (λ (m : NewNode). let t : NodeType = record { ty = m.ty; leaf = m.leaf } in t) o) → A n.0
    go None e h = cc
    go (Some m) e h =
        let r = first-has (λ (m : NewNode). same_node m.node n) N.new m e in
        subst (λ (k : NodeId). A k.0) (same_node-true m.node n r.1) (all-has (NewIsWithin A) N.new m i.new r.0).0

module _ (A : Atom → Type 0) (D : Document) (N : Intent) (d : DocumentIsWithin A D) (i : IntentIsWithin A N) where
  node_within : (n : NodeId) → IsSome ((with_names D N).nodes n) → A n.0
  node_within n h = go (D.nodes n) refl h
    where
      go : (o : Option NodeType) → D.nodes n ≡ o → IsSome (option_or o (new_type N n)) → A n.0
      go None e h = new_within A N i n h
      go (Some t) e h = d.nodes n (ap is_some e)

  cell_within : (n : NodeId) (o : Owned) → Has ((with_names D N).rows n) o → A o.cell.0
  cell_within n o h = elim (old_or_made D N n o h) [
    | inl j ↦ d.cells n o j
    | inr j ↦ all-has (λ (o : Owned). A o.cell.0) (group_cells N) o i.cells j
  ]

  put_key : (n : NodeId) (f : FieldId) → put_of N n ≡ Some (To.Register f) → KeyIsShort f
  put_key n f e = all-has (λ (p : Put). IfSome (register_of p.to) KeyIsShort) N.put (record { node = n; to = To.Register f }) i.puts (put-has N n (To.Register f) e)

  -- who isn't put stands in a register where it stood there
  unput : (s : Spot) (f : FieldId) → unless_cleared N s ≡ Spot.Register f → s ≡ Spot.Register f
  unput Spot.Nowhere f e = e
  unput (Spot.Row n c) f e = e
  unput (Spot.Register g) f e = go (clears N g) e
    where
      go : (b : Bool) → cond b Spot.Nowhere (Spot.Register g) ≡ Spot.Register f → Spot.Register g ≡ Spot.Register f
      go true e = cc
      go false e = e

  key_after : (row_of : CellId → Option NodeId) (n : NodeId) (f : FieldId) → place_after row_of N (put_of N n) (D.place n) ≡ Spot.Register f → KeyIsShort f
  key_after row_of n f e = go (put_of N n) refl e
    where
      in_cell : (c : CellId) (o : Option NodeId) → option_map_or (λ n. Spot.Row n c) o Spot.Nowhere ≡ Spot.Register f → KeyIsShort f
      in_cell c None e = cc
      in_cell c (Some n) e = cc

      go : (o : Option To) → put_of N n ≡ o → place_after row_of N o (D.place n) ≡ Spot.Register f → KeyIsShort f
      go None q e = d.keys n f (unput (D.place n) f e)
      go (Some To.Nowhere) q e = cc
      go (Some (To.Cell c)) q e = in_cell c (row_of c) e
      go (Some (To.Register g)) q e = let s : g ≡ f = cc in put_key n f (q ∙ ap (λ g. Some (To.Register g)) s)

  void_key : (n : NodeId) (f : FieldId) → (void_data D N).place n ≡ Spot.Register f → KeyIsShort f
  void_key n f e = go (is_new N n && is_put_in_new D N n) e
    where
      go : (b : Bool) → cond b (place_after (with_names D N).row_of N (put_of N n) (D.place n)) (D.place n) ≡ Spot.Register f → KeyIsShort f
      go true e = key_after (with_names D N).row_of n f e
      go false e = d.keys n f e

  pub carried_within : (v : Verdict) → DocumentIsWithin A (carried_document v D N)
  carried_within v = if_carried (DocumentIsWithin A) D N d
      (record { nodes = node_within; cells = cell_within; keys = key_after (with_names D N).row_of })
      (record { nodes = node_within; cells = cell_within; keys = void_key }) v

pub run_within : (A : Atom → Type 0) {D E : Document} {Ns : List Intent} → DocumentIsWithin A D → AllByRecursion (IntentIsWithin A) Ns → Run D Ns E → DocumentIsWithin A E
run_within A d is done = d
run_within A d is (next {D} {N = N} v a r) = run_within A (carried_within A D N d is.0 v) is.1 r
