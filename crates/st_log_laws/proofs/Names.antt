-- Names stay, and an intent that fits a document fits each other that has its names.
use Rattle.std.proofs.Common.{◌≡◌, ◌≢◌, ℕ, List, [], ◌∷◌, Option, Some, None, refl, sym, ap, ◌∙◌, subst, inl, inr, ◌⊎◌, is_some, IsSome, IsTrue, IfSome, option_map}
use Rattle.std.specs.List.{AllByRecursion, find, flat_map}
use Rattle.std.specs.Option.{option_or, option_map_or}
use Rattle.st_ids.specs.Listing.{Has}
use Rattle.st_ids.specs.Order.{same_node}
use Rattle.st_ids.specs.declared.names.CellId.{CellId}
use Rattle.st_ids.specs.declared.names.FieldId.{FieldId}
use Rattle.st_ids.specs.declared.names.NodeId.{NodeId}
use Rattle.st_ids.specs.declared.names.Rev.{Rev}
use Rattle.st_ids.proofs.Orders.{same_node-true}
use Rattle.st_marks.specs.declared.changes.NewNode.{NewNode}
use Rattle.st_marks.specs.declared.intents.Group.{Group}
use Rattle.st_marks.specs.declared.intents.Intent.{Intent}
use Rattle.st_marks.specs.declared.intents.Owned.{Owned}
use Rattle.st_marks.specs.declared.intents.Put.{Put}
use Rattle.st_marks.specs.declared.schemas.SchemaEntry.{SchemaEntry}
use Rattle.st_marks.specs.declared.verdicts.Verdict.{Verdict}
use Rattle.st_marks.specs.Document.{Document, NodeType, IsSoundInForm, owned_cell}
use Rattle.st_marks.specs.Extends.{IsExtendedBy}
use Rattle.st_marks.specs.Intent.{Fits, IsIntent, IsKnown, Owns, new_type, is_new, new_row_of, group_at, group_cells, cell_of, register_of}
use Rattle.st_marks.specs.CarryOut.{full, void_data, with_names, with_groups, with_schema}
use Rattle.st_marks.specs.Verdict.{carried_document}
use Rattle.st_marks.specs.Run.{Run, done, next}
use Rattle.st_marks.proofs.Members.{all-has, has-all, append_left, append_right, has-append, flat_map-has, first-has}
use Rattle.st_marks.proofs.Lookups.{group-new_row_of}
use Rattle.st_marks.proofs.NewRows.{with_groups-has, old_kept, made_kept, old_or_made}
use Rattle.st_marks.proofs.Later.{has_later}
use Rattle.st_log_laws.specs.Names.{HasNames, IsMadeUnder}

-- ## Names stay

pub names_itself : (D : Document) → HasNames D D
names_itself D = record { nodes = λ n t e. e; cells = λ n o h. h }

pub names_on : (D E F : Document) → HasNames D E → HasNames E F → HasNames D F
names_on D E F g h = record { nodes = λ n t e. h.nodes n t (g.nodes n t e); cells = λ n o i. h.cells n o (g.cells n o i) }

pub names_extended : (D E : Document) → IsExtendedBy D E → HasNames D E
names_extended D E x = record { nodes = x.nodes; cells = λ n o h. has_later (x.rows n) o h }

names_made : (D : Document) (N : Intent) → HasNames D (with_names D N)
names_made D N = record {
  nodes = λ n t e. rw e refl;
  cells = λ n o h. append_right (group_at N n None) (with_groups N n (D.rows n)) o (old_kept N n (D.rows n) o h);
}

-- what holds of a document before an intent, and of each with the intent's names, holds of the one after the intent
module _ (P : Document → Type 0) (D : Document) (N : Intent) (here : P D) (whole : P (full D N)) (data_of : P (void_data D N)) where
  if_void : (o : Option (List ℕ)) → P (option_map_or (λ _. D) o (void_data D N))
  if_void None = data_of
  if_void (Some t) = here

  pub if_carried : (v : Verdict) → P (carried_document v D N)
  if_carried Verdict.Sound = whole
  if_carried (Verdict.Need n) = if_void N.schema
  if_carried (Verdict.Cycle n) = if_void N.schema
  if_carried (Verdict.Schema u) = if_void N.schema

pub names_stay : (D : Document) (N : Intent) (v : Verdict) → HasNames D (carried_document v D N)
names_stay D N v =
    let m = names_made D N in
    if_carried (HasNames D) D N (names_itself D) (record { nodes = m.nodes; cells = m.cells }) (record { nodes = m.nodes; cells = m.cells }) v

pub names_in_run : {D E : Document} {Ns : List Intent} → Run D Ns E → HasNames D E
names_in_run (done {D}) = names_itself D
names_in_run {E = E} (next {D} {N = N} v a r) = names_on D (carried_document v D N) E (names_stay D N v) (names_in_run r)

-- ## Names of two documents

-- an intent that changes no schema makes its names, whatever its verdict
module _ (P : Document → Type 0) (D : Document) (N : Intent) (none : N.schema ≡ None) (whole : P (full D N)) (data_of : P (void_data D N)) where
  if_void_data : (o : Option (List ℕ)) → o ≡ None → P (option_map_or (λ _. D) o (void_data D N))
  if_void_data None e = data_of
  if_void_data (Some t) e = cc

  pub if_named : (v : Verdict) → P (carried_document v D N)
  if_named Verdict.Sound = whole
  if_named (Verdict.Need n) = if_void_data N.schema none
  if_named (Verdict.Cycle n) = if_void_data N.schema none
  if_named (Verdict.Schema u) = if_void_data N.schema none

made_beside : (D E : Document) (N : Intent) → HasNames D E → Fits E N → HasNames (with_names D N) (with_names E N)
made_beside D E N h f = record { nodes = nodes; cells = cells }
  where
    nodes : (n : NodeId) (t : NodeType) → (with_names D N).nodes n ≡ Some t → (with_names E N).nodes n ≡ Some t
    nodes n t e = go (D.nodes n) refl e
      where
        go : (o : Option NodeType) → D.nodes n ≡ o → option_or o (new_type N n) ≡ Some t → (with_names E N).nodes n ≡ Some t
        go None q e = rw (f.fresh_nodes n (ap is_some e), e) refl
        go (Some u) q e = rw (h.nodes n t (q ∙ e)) refl

    cells : (n : NodeId) (o : Owned) → Has ((with_names D N).rows n) o → Has ((with_names E N).rows n) o
    cells n o i = elim (has-append (group_at N n None) (with_groups N n (D.rows n)) o i) [
      | inl j ↦ append_left (group_at N n None) (with_groups N n (E.rows n)) o j
      | inr j ↦ append_right (group_at N n None) (with_groups N n (E.rows n)) o (elim (with_groups-has N n (D.rows n) o j) [
        | inl k ↦ old_kept N n (E.rows n) o (h.cells n o k)
        | inr k ↦ made_kept N n (E.rows n) k.0 o (h.cells n k.0 k.1) k.2
      ])
    ]

-- ## The revisions of new names

abbrev new_type_of : NewNode → NodeType
new_type_of m = record { ty = m.ty; leaf = m.leaf }

pub new_node_rev : (N : Intent) → IsIntent N → (n : NodeId) → IsTrue (is_new N n) → n.0.rev ≡ N.rev
new_node_rev N w n h = go (find (λ (m : NewNode). same_node m.node n) N.new) refl h
  where
    go : (o : Option NewNode) → find (λ (m : NewNode). same_node m.node n) N.new ≡ o → IsTrue (is_some (option_map (λ (m : NewNode). new_type_of m) o)) → n.0.rev ≡ N.rev
    go None e h = cc
    go (Some m) e h =
        let r = first-has (λ (m : NewNode). same_node m.node n) N.new m e in
        ap (λ (k : NodeId). k.0.rev) (sym (same_node-true m.node n r.1)) ∙ all-has (λ (m : NewNode). m.node.0.rev ≡ N.rev) N.new m w.new_rev r.0

pub new_cell_rev : (N : Intent) → IsIntent N → (o : Owned) → Has (group_cells N) o → o.cell.0.rev ≡ N.rev
new_cell_rev N w o h = all-has (λ (o : Owned). o.cell.0.rev ≡ N.rev) (group_cells N) o w.cell_rev h

-- ## Names after an intent in two documents

-- an intent that changes the schema makes no names
makes_nothing : (N : Intent) → IsIntent N → (t : List ℕ) → N.schema ≡ Some t → (N.new ≡ []) × (N.groups ≡ [])
makes_nothing N w t e =
    let k = subst (λ o. IfSome o (λ _. (N.new ≡ []) × (N.groups ≡ []) × (N.clear ≡ []) × (N.put ≡ []) × (N.need ≡ []))) e w.schema_alone in
    (k.0, k.1)

nothing_more : (D : Document) (N : Intent) → N.new ≡ [] → N.groups ≡ [] → HasNames (with_names D N) D
nothing_more D N new groups = record { nodes = nodes; cells = cells }
  where
    nodes : (n : NodeId) (t : NodeType) → (with_names D N).nodes n ≡ Some t → D.nodes n ≡ Some t
    nodes n t e = go (D.nodes n) refl e
      where
        go : (o : Option NodeType) → D.nodes n ≡ o → option_or o (new_type N n) ≡ Some t → D.nodes n ≡ Some t
        go (Some u) q e = q ∙ e
        go None q e =
            let none : new_type N n ≡ None = rw new refl in
            let bad : None ≡ Some t = sym none ∙ e in cc

    cells : (n : NodeId) (o : Owned) → Has ((with_names D N).rows n) o → Has (D.rows n) o
    cells n o i = elim (old_or_made D N n o i) [
      | inl j ↦ j
      | inr j ↦ absurd (subst (λ (gs : List Group). Has (flat_map (λ (g : Group). g.cells) gs) o) groups j)
    ]

pub names_beside : (D E : Document) (N : Intent) (v w : Verdict) → HasNames D E → Fits E N → HasNames (carried_document v D N) (carried_document w E N)
names_beside D E N v w h f = go N.schema refl
  where
    go : (o : Option (List ℕ)) → N.schema ≡ o → HasNames (carried_document v D N) (carried_document w E N)
    go None none =
        let m = made_beside D E N h f in
        if_named (λ C. HasNames C (carried_document w E N)) D N none
        (if_named (HasNames (full D N)) E N none (record { nodes = m.nodes; cells = m.cells }) (record { nodes = m.nodes; cells = m.cells }) w)
        (if_named (HasNames (void_data D N)) E N none (record { nodes = m.nodes; cells = m.cells }) (record { nodes = m.nodes; cells = m.cells }) w)
        v
    go (Some t) e =
        let k = makes_nothing N f.itself t e in
        let b = nothing_more D N k.0 k.1 in
        let later = names_on D E (carried_document w E N) h (names_stay E N w) in
        if_carried (λ C. HasNames C (carried_document w E N)) D N later
        (names_on (full D N) D (carried_document w E N) (record { nodes = b.nodes; cells = b.cells }) later)
        (names_on (void_data D N) D (carried_document w E N) (record { nodes = b.nodes; cells = b.cells }) later)
        v

-- the row of a new cell tells its revision
new_row_rev : (N : Intent) → IsIntent N → (c : CellId) → IsSome (new_row_of N c) → c.0.rev ≡ N.rev
new_row_rev N w c h = go (new_row_of N c) refl h
  where
    go : (o : Option NodeId) → new_row_of N c ≡ o → IsSome o → c.0.rev ≡ N.rev
    go None e h = cc
    go (Some n) e h =
        let g = group-new_row_of N c n e in
        ap (λ (c : CellId). c.0.rev) (sym g.3.2) ∙ new_cell_rev N w g.3.0 (flat_map-has (λ (g : Group). g.cells) N.groups g.0 g.3.0 g.1 g.3.1)

-- ## The revisions of a document's names

pub made_more : (rs ss : List Rev) (D : Document) → ((r : Rev) → Has rs r → Has ss r) → IsMadeUnder rs D → IsMadeUnder ss D
made_more rs ss D h m = record { nodes = λ n k. h n.0.rev (m.nodes n k); cells = λ n o k. h o.cell.0.rev (m.cells n o k); schemas = λ e k. h e.rev (m.schemas e k) }

made_names : (rs : List Rev) (D : Document) (N : Intent) → IsIntent N → IsMadeUnder rs D → IsMadeUnder (N.rev ∷ rs) (with_names D N)
made_names rs D N w m = record {
  nodes = λ n h. go n (D.nodes n) refl h;
  cells = λ n o h. elim (old_or_made D N n o h) [ inl i ↦ inr (m.cells n o i) | inr i ↦ inl (sym (new_cell_rev N w o i)) ];
  schemas = λ e i. inr (m.schemas e i);
}
  where
    go : (n : NodeId) (o : Option NodeType) → D.nodes n ≡ o → IsSome (option_or o (new_type N n)) → Has (N.rev ∷ rs) n.0.rev
    go n None e h = inl (sym (new_node_rev N w n h))
    go n (Some t) e h = inr (m.nodes n (ap is_some e))

pub made_after : (rs : List Rev) (D : Document) (N : Intent) (v : Verdict) → Fits D N → IsMadeUnder rs D → IsMadeUnder (N.rev ∷ rs) (carried_document v D N)
made_after rs D N v f m =
    let k = made_names rs D N f.itself m in
    if_carried (IsMadeUnder (N.rev ∷ rs)) D N (made_more rs (N.rev ∷ rs) D (λ r h. inr h) m)
    (record { nodes = k.nodes; cells = k.cells; schemas = λ e i. entry N.schema e i }) (record { nodes = k.nodes; cells = k.cells; schemas = k.schemas }) v
  where
    entry : (o : Option (List ℕ)) (e : SchemaEntry) → Has (with_schema N o D.schemas) e → Has (N.rev ∷ rs) e.rev
    entry None e i = inr (m.schemas e i)
    entry (Some t) e i = last (has-append D.schemas (record { rev = N.rev; text = t } ∷ []) e i)
      where
        last : Has D.schemas e ⊎ Has (record { rev = N.rev; text = t } ∷ []) e → Has (N.rev ∷ rs) e.rev
        last (inl j) = inr (m.schemas e j)
        last (inr (inl q)) = inl (ap (λ (e : SchemaEntry). e.rev) q)
        last (inr (inr j)) = absurd j

-- ## What fits a document fits another that has its names

module _ (rs : List Rev) (E : Document) (N : Intent) (m : IsMadeUnder rs E) (w : IsIntent N) (new : Has rs N.rev → ⊥) where
  no_node : (n : NodeId) → IsTrue (is_new N n) → E.nodes n ≡ None
  no_node n h = go (E.nodes n) refl
    where
      go : (o : Option NodeType) → E.nodes n ≡ o → E.nodes n ≡ None
      go None e = e
      go (Some t) e = absurd (new (subst (Has rs) (new_node_rev N w n h) (m.nodes n (ap is_some e))))

  no_cell : IsSoundInForm E → (c : CellId) → IsSome (new_row_of N c) → E.row_of c ≡ None
  no_cell s c h = go (E.row_of c) refl
    where
      go : (o : Option NodeId) → E.row_of c ≡ o → E.row_of c ≡ None
      go None e = e
      go (Some n) e = let p = (s.one_row c n).0 e in absurd (new (subst (Has rs) (new_row_rev N w c h) (m.cells n (owned_cell c p.0) p.1)))

module _ (D E : Document) (N : Intent) (h : HasNames D E) (s : IsSoundInForm D) (t : IsSoundInForm E) (f : Fits D N) where
  node_there : (n : NodeId) → IsSome (D.nodes n) → IsSome (E.nodes n)
  node_there n i = go (D.nodes n) refl i
    where
      go : (o : Option NodeType) → D.nodes n ≡ o → IsSome o → IsSome (E.nodes n)
      go None e i = cc
      go (Some k) e i = rw (h.nodes n k e) refl

  known_there : (n : NodeId) → IsKnown D N n → IsKnown E N n
  known_there n (inl i) = inl i
  known_there n (inr i) = inr (node_there n i)

  row_there : (c : CellId) (n : NodeId) → D.row_of c ≡ Some n → E.row_of c ≡ Some n
  row_there c n e = let o = (s.one_row c n).0 e in (t.one_row c n).1 (o.0, h.cells n (owned_cell c o.0) o.1)

  owns_there : (n : NodeId) (c : CellId) → Owns D N n c → Owns E N n c
  owns_there n c (inl i) = inl (i.0, h.cells i.0 (owned_cell c n) i.1)
  owns_there n c (inr i) = inr i

  if_some : {A : Type 0} (P Q : A → Type 0) → ((a : A) → P a → Q a) → (o : Option A) → IfSome o P → IfSome o Q
  if_some P Q k None p = tt
  if_some P Q k (Some a) p = k a p

  -- what an intent asks of one name
  abbrev AsksGroup : Document → Group → Type 0
  AsksGroup F g = IsKnown F N g.node × IfSome g.after (λ c. F.row_of c ≡ Some g.node)

  abbrev AsksPut : Document → Put → Type 0
  AsksPut F p = IsKnown F N p.node × IfSome (cell_of p.to) (Owns F N p.node) × IfSome (register_of p.to) (λ f. IsKnown F N f.node)

  group_there : (g : Group) → AsksGroup D g → AsksGroup E g
  group_there g k = (known_there g.node k.0, if_some (λ c. D.row_of c ≡ Some g.node) (λ c. E.row_of c ≡ Some g.node) (λ c e. row_there c g.node e) g.after k.1)

  put_there : (p : Put) → AsksPut D p → AsksPut E p
  put_there p k = (
    known_there p.node k.0,
    if_some (Owns D N p.node) (Owns E N p.node) (λ c e. owns_there p.node c e) (cell_of p.to) k.1,
    if_some (λ (f : FieldId). IsKnown D N f.node) (λ (f : FieldId). IsKnown E N f.node) (λ f e. known_there f.node e) (register_of p.to) k.2,
  )

  -- what holds of each, and so in the other document
  each_there : {A : Type 0} (P Q : A → Type 0) (xs : List A) → ((x : A) → P x → Q x) → AllByRecursion P xs → AllByRecursion Q xs
  each_there P Q xs k h = has-all Q xs (λ x i. k x (all-has P xs x h i))

  pub fits_there : ((n : NodeId) → IsTrue (is_new N n) → E.nodes n ≡ None) → ((c : CellId) → IsSome (new_row_of N c) → E.row_of c ≡ None) → IfSome N.schema (λ _. AllByRecursion (λ (e : SchemaEntry). e.rev ≢ N.rev) E.schemas) → Fits E N
  fits_there nodes cells entries = record {
    itself = f.itself;
    fresh_nodes = nodes;
    fresh_cells = cells;
    fresh_schema = entries;
    groups_known = each_there (AsksGroup D) (AsksGroup E) N.groups group_there f.groups_known;
    owners_known = each_there (λ (o : Owned). IsKnown D N o.node) (λ (o : Owned). IsKnown E N o.node) (group_cells N) (λ o k. known_there o.node k) f.owners_known;
    puts_known = each_there (AsksPut D) (AsksPut E) N.put put_there f.puts_known;
    clears_known = each_there (λ (g : FieldId). IsKnown D N g.node) (λ (g : FieldId). IsKnown E N g.node) N.clear (λ g k. known_there g.node k) f.clears_known;
    needs_known = each_there (λ n. IsSome (D.nodes n)) (λ n. IsSome (E.nodes n)) N.need node_there f.needs_known;
  }

  pub fits_beside : (rs : List Rev) → IsMadeUnder rs E → (Has rs N.rev → ⊥) → Fits E N
  fits_beside rs m new = fits_there (no_node rs E N m f.itself new) (no_cell rs E N m f.itself new t) (entries N.schema)
    where
      entries : (o : Option (List ℕ)) → IfSome o (λ _. AllByRecursion (λ (e : SchemaEntry). e.rev ≢ N.rev) E.schemas)
      entries None = tt
      entries (Some t) = has-all (λ (e : SchemaEntry). e.rev ≢ N.rev) E.schemas (λ e i q. new (subst (Has rs) q (m.schemas e i)))
