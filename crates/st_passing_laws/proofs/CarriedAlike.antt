-- After an intent, in a document and in a later one, where the step between them moves no node that the intent mentions.
use Rattle.std.proofs.Common.{◌≡◌, ◌&&◌, ℕ, false, List, Option, Some, None, IsSome, IsTrue, cond, refl, sym, ap, ◌⊎◌}
use Rattle.std.specs.Option.{option_map_or, option_or}
use Rattle.st_ids.specs.declared.names.NodeId.{NodeId}
use Rattle.st_marks.specs.declared.intents.Intent.{Intent}
use Rattle.st_marks.specs.declared.intents.To.{To}
use Rattle.st_marks.specs.declared.places.Spot.{Spot}
use Rattle.st_marks.specs.declared.verdicts.Verdict.{Verdict}
use Rattle.st_marks.specs.CarryOut.{is_put_in_new, void, void_data, with_names, spot_of}
use Rattle.st_marks.specs.Document.{Document, NodeType, node_of}
use Rattle.st_marks.specs.Embedding.{IsMentionedByIntent}
use Rattle.st_marks.specs.Extends.{IsExtendedBy}
use Rattle.st_marks.specs.Intent.{Fits, is_new, new_type, put_of}
use Rattle.st_marks.specs.Step.{gained_node}
use Rattle.st_marks.specs.Verdict.{carried_document}
use Rattle.st_passing.specs.Whole.{LeavesMentioned}
use Rattle.st_passing_laws.proofs.VerdictsLeft.{place_alike, put_alike, stands_alike}

-- ## Where nodes stand

module _ (D E : Document) (N : Intent) (x : IsExtendedBy D E) (f : Fits D N) (e : Fits E N) (stay : LeavesMentioned D E N) (n : NodeId) (r : IsTrue (is_new N n) ⊎ IsMentionedByIntent D N n) where
  in_new_alike : is_put_in_new D N n ≡ is_put_in_new E N n
  in_new_alike = go (put_of N n) refl
    where
      go : (o : Option To) → put_of N n ≡ o
          → option_map_or (λ to. option_map_or (is_new N) (node_of (spot_of (with_names D N).row_of to)) false) o false ≡ option_map_or (λ to. option_map_or (is_new N) (node_of (spot_of (with_names E N).row_of to)) false) o false
      go None h = refl
      go (Some to) h = ap (λ (s : Spot). option_map_or (is_new N) (node_of s) false) (put_alike D E N x f e stay n to h)

  pub void_data_alike : (void_data D N).place n ≡ (void_data E N).place n
  void_data_alike = λ i. cond (is_new N n && in_new_alike i) (place_alike D E N x f e stay n r i) (stands_alike D E N x f e stay n r i)

  void_alike : (void D N).place n ≡ (void E N).place n
  void_alike = go N.schema
    where
      go : (o : Option (List ℕ)) → (option_map_or (λ _. D) o (void_data D N)).place n ≡ (option_map_or (λ _. E) o (void_data E N)).place n
      go None = void_data_alike
      go (Some text) = stands_alike D E N x f e stay n r

  pub stands_after : (v : Verdict) → (carried_document v D N).place n ≡ (carried_document v E N).place n
  stands_after Verdict.Sound = place_alike D E N x f e stay n r
  stands_after (Verdict.Need m) = void_alike
  stands_after (Verdict.Cycle m) = void_alike
  stands_after (Verdict.Schema u) = void_alike

-- ## Which nodes there are

gained_beside : (n : NodeId) (d e t : Option NodeType) → (IsSome t → (d ≡ None) × (e ≡ None)) → gained_node n (option_or d t) (option_or e t) ≡ gained_node n d e
gained_beside n (Some a) e t h = refl
gained_beside n None None None h = refl
gained_beside n None (Some b) None h = refl
gained_beside n None e (Some t) h = sym (ap (gained_node n None) (h refl).1)

module _ (D E : Document) (N : Intent) (f : Fits D N) (e : Fits E N) (n : NodeId) where
  pub named_alike : gained_node n (option_or (D.nodes n) (new_type N n)) (option_or (E.nodes n) (new_type N n)) ≡ gained_node n (D.nodes n) (E.nodes n)
  named_alike = gained_beside n (D.nodes n) (E.nodes n) (new_type N n) (λ h. (f.fresh_nodes n h, e.fresh_nodes n h))

  void_gained : gained_node n ((void D N).nodes n) ((void E N).nodes n) ≡ gained_node n (D.nodes n) (E.nodes n)
  void_gained = go N.schema
    where
      go : (o : Option (List ℕ)) → gained_node n ((option_map_or (λ _. D) o (void_data D N)).nodes n) ((option_map_or (λ _. E) o (void_data E N)).nodes n) ≡ gained_node n (D.nodes n) (E.nodes n)
      go None = named_alike
      go (Some text) = refl

  pub gained_after : (v : Verdict) → gained_node n ((carried_document v D N).nodes n) ((carried_document v E N).nodes n) ≡ gained_node n (D.nodes n) (E.nodes n)
  gained_after Verdict.Sound = named_alike
  gained_after (Verdict.Need m) = void_gained
  gained_after (Verdict.Cycle m) = void_gained
  gained_after (Verdict.Schema u) = void_gained
