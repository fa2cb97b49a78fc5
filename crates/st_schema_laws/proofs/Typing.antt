-- Typed intents keep documents as typed, and stay typed in later documents.
use Rattle.std.proofs.Common.{◌≡◌, ℕ, Bool, true, false, cond, List, Option, Some, None, IsSome, IsTrue, IfSome, refl, sym, ap, ◌∙◌, subst, inl, inr}
use Rattle.std.specs.Option.{option_or, option_map_or}
use Rattle.st_ids.specs.Listing.{Has}
use Rattle.st_ids.specs.declared.names.CellId.{CellId}
use Rattle.st_ids.specs.declared.names.FieldId.{FieldId}
use Rattle.st_ids.specs.declared.names.NodeId.{NodeId}
use Rattle.st_marks.specs.declared.intents.Group.{Group}
use Rattle.st_marks.specs.declared.intents.Intent.{Intent}
use Rattle.st_marks.specs.declared.intents.Owned.{Owned}
use Rattle.st_marks.specs.declared.intents.Put.{Put}
use Rattle.st_marks.specs.declared.intents.To.{To}
use Rattle.st_marks.specs.declared.verdicts.Verdict.{Verdict}
use Rattle.st_marks.specs.Document.{Document, NodeType, IsSoundInForm}
use Rattle.st_marks.specs.Intent.{Fits, IsKnown, Owns, cell_of, clears, group_at, is_new, new_type, put_in, register_of}
use Rattle.st_marks.specs.CarryOut.{full, only_new, unless_put, void, void_data, with_groups, with_names}
use Rattle.st_marks.specs.Verdict.{carried_document}
use Rattle.st_marks.proofs.Lookups.{group_at-group, put_in-has}
use Rattle.st_marks.proofs.Members.{all-has, has-append}
use Rattle.st_marks.proofs.NewRows.{with_groups-has}
use Rattle.st_schema_laws.specs.Typed.{IsAsTyped, IsFieldType, IsLeafTyped, IsRowType, IsTypedIntent}

-- ## They keep documents as typed

module _ (is_array : List ℕ → Bool) (D : Document) (N : Intent) (sound : IsSoundInForm D) (typed : IsAsTyped is_array D) (w : IsTypedIntent is_array D N) where
  abbrev E : Document
  E = with_names D N

  -- an old node has the type that it had
  was : (n : NodeId) (t : NodeType) → IsSome (D.nodes n) → E.nodes n ≡ Some t → D.nodes n ≡ Some t
  was n t known e = go (D.nodes n) refl known e
    where
      go : (o : Option NodeType) → D.nodes n ≡ o → IsSome o → option_or o (new_type N n) ≡ Some t → D.nodes n ≡ Some t
      go None q k f = absurd (cc)
      go (Some u) q k f = q ∙ f

  leaves_after : (n : NodeId) (t : NodeType) → E.nodes n ≡ Some t → IsLeafTyped t
  leaves_after n t e = go (D.nodes n) refl e
    where
      go : (o : Option NodeType) → D.nodes n ≡ o → option_or o (new_type N n) ≡ Some t → IsLeafTyped t
      go None q f = w.leaves n t f
      go (Some u) q f = typed.leaves n t (q ∙ f)

  cells_after : (n : NodeId) (o : Owned) (t : NodeType) → E.nodes n ≡ Some t → Has (E.rows n) o → IsRowType is_array t
  cells_after n o t e h = elim (has-append (group_at N n None) (with_groups N n (D.rows n)) o h) [
    | inl i ↦ made None i
    | inr i ↦ elim (with_groups-has N n (D.rows n) o i) [ inl j ↦ typed.cells n o t (was n t (sound.cells_known n o j).0 e) j | inr j ↦ made (Some j.0.cell) j.2 ]
  ]
    where
      made : (a : Option CellId) → Has (group_at N n a) o → IsRowType is_array t
      made a i = let g = group_at-group N n a o i in w.groups g.group t g.listed (ap E.nodes g.node ∙ e)

  put_typed : (f : FieldId) (m : NodeId) (t : NodeType) → E.nodes f.node ≡ Some t → put_in N f ≡ Some m → IsFieldType is_array t
  put_typed f m t e h = w.puts (record { node = m; to = To.Register f }) f t (put_in-has N f m h) refl e

  held_typed : (f : FieldId) (m : NodeId) (t : NodeType) → E.nodes f.node ≡ Some t → D.held f ≡ Some m → IsFieldType is_array t
  held_typed f m t e h = typed.registers f m t (was f.node t (sound.held_known m f h).1 e) h

  pub full_typed : IsAsTyped is_array (full D N)
  full_typed = record { leaves = leaves_after; cells = cells_after; registers = λ f m t e h. registers f m t e (put_in N f) refl h }
    where
      kept : (f : FieldId) (m : NodeId) (o : Option NodeId) → D.held f ≡ o → unless_put N o ≡ Some m → (x : NodeId) × (D.held f ≡ Some x)
      kept f m None q h = absurd (cc)
      kept f m (Some x) q h = (x, q)

      old : (f : FieldId) (m : NodeId) (b : Bool) → cond b None (unless_put N (D.held f)) ≡ Some m → (x : NodeId) × (D.held f ≡ Some x)
      old f m true h = absurd (cc)
      old f m false h = kept f m (D.held f) refl h

      registers : (f : FieldId) (m : NodeId) (t : NodeType) → E.nodes f.node ≡ Some t → (o : Option NodeId) → put_in N f ≡ o → option_or o (cond (clears N f) None (unless_put N (D.held f))) ≡ Some m → IsFieldType is_array t
      registers f m t e None q h = let x = old f m (clears N f) h in held_typed f x.0 t e x.1
      registers f m t e (Some x) q h = put_typed f x t e q

  data_typed : IsAsTyped is_array (void_data D N)
  data_typed = record { leaves = leaves_after; cells = cells_after; registers = λ f m t e h. registers f m t e (is_new N f.node) h }
    where
      placed : (f : FieldId) (m : NodeId) (o : Option NodeId) → put_in N f ≡ o → only_new N o ≡ Some m → (x : NodeId) × (put_in N f ≡ Some x)
      placed f m None q h = absurd (cc)
      placed f m (Some x) q h = (x, q)

      registers : (f : FieldId) (m : NodeId) (t : NodeType) → E.nodes f.node ≡ Some t → (b : Bool) → cond b (only_new N (put_in N f)) (D.held f) ≡ Some m → IsFieldType is_array t
      registers f m t e true h = let x = placed f m (put_in N f) refl h in put_typed f x.0 t e x.1
      registers f m t e false h = held_typed f m t e h

  pub void_typed : IsAsTyped is_array (void D N)
  void_typed = go N.schema
    where
      go : (o : Option (List ℕ)) → IsAsTyped is_array (option_map_or (λ _. D) o (void_data D N))
      go None = data_typed
      go (Some text) = typed

  pub carried_typed : (v : Verdict) → IsAsTyped is_array (carried_document v D N)
  carried_typed Verdict.Sound = full_typed
  carried_typed (Verdict.Need n) = void_typed
  carried_typed (Verdict.Cycle n) = void_typed
  carried_typed (Verdict.Schema u) = void_typed

-- ## They stay typed

module _ (is_array : List ℕ → Bool) (D E : Document) (N : Intent) (more : (n : NodeId) (t : NodeType) → D.nodes n ≡ Some t → E.nodes n ≡ Some t) (fits : Fits D N) (fresh : (n : NodeId) → IsTrue (is_new N n) → E.nodes n ≡ None) (w : IsTypedIntent is_array D N) where
  -- a node that the intent knows has one type in both
  same_type : (n : NodeId) (t : NodeType) → IsKnown D N n → (with_names E N).nodes n ≡ Some t → (with_names D N).nodes n ≡ Some t
  same_type n t (inl new) e = ap (λ o. option_or o (new_type N n)) (fits.fresh_nodes n new ∙ sym (fresh n new)) ∙ e
  same_type n t (inr old) e = go (D.nodes n) refl old
    where
      go : (o : Option NodeType) → D.nodes n ≡ o → IsSome o → option_or (D.nodes n) (new_type N n) ≡ Some t
      go None q k = absurd (cc)
      go (Some u) q k =
          ap (λ o. option_or o (new_type N n)) (q ∙ sym (more n u q)) ∙ e

  known_field : (p : Put) (f : FieldId) → p.to ≡ To.Register f → IfSome (register_of p.to) (λ f. IsKnown D N f.node) → IsKnown D N f.node
  known_field p f e h = subst (λ to. IfSome (register_of to) (λ f. IsKnown D N f.node)) e h

  pub typed_later : IsTypedIntent is_array E N
  typed_later = record {
    leaves = w.leaves;
    groups = λ g t h e. w.groups g t h
        (same_type g.node t (all-has (λ (g : Group). IsKnown D N g.node × IfSome g.after (λ c. D.row_of c ≡ Some g.node)) N.groups g fits.groups_known h).0 e);
    puts = λ p f t h q e. w.puts p f t h q
        (same_type f.node t (known_field p f q (all-has (λ (p : Put). IsKnown D N p.node × IfSome (cell_of p.to) (Owns D N p.node) × IfSome (register_of p.to) (λ f. IsKnown D N f.node)) N.put p fits.puts_known h).2) e);
  }
