-- What two parts of one commit say of each name, told together, lists the change of both as one.
use Rattle.std.proofs.Common.{◌≡◌, ◌≢◌, ◌↔◌, inl, inr, zero, Bool, true, false, not, ◌&&◌, ◌||◌, List, [], ◌∷◌, Option, Some, None, MatchOption, IsSome, IsTrue, cond, is_some, option_map, refl, sym, ap, ◌∙◌, subst}
use Rattle.std.specs.FinMap.Entries.{below_all, is_sorted}
use Rattle.std.specs.List.{list_any}
use Rattle.std.specs.Option.{option_or}
use Rattle.std.specs.Ordering.{is_lt}
use Rattle.st_ids.specs.Listing.{Has, IsListing, item_of, key_pairs}
use Rattle.st_ids.specs.Order.{field_cmp, node_cmp, same_node}
use Rattle.st_ids.specs.declared.names.NodeId.{NodeId}
use Rattle.st_kind.specs.Named.{Nodes}
use Rattle.st_lemmas.proofs.Bools.{and-both, and-true, both-ways-same, not-true, or-cases, or-left, or-right}
use Rattle.st_marks.specs.declared.changes.Change.{Change}
use Rattle.st_marks.specs.declared.changes.NewNode.{NewNode}
use Rattle.st_marks.specs.declared.intents.Intent.{Intent}
use Rattle.st_marks.specs.declared.intents.To.{To}
use Rattle.st_marks.specs.declared.marks.RegMark.{RegMark}
use Rattle.st_marks.specs.declared.marks.RowMarks.{RowMarks}
use Rattle.st_marks.specs.declared.places.Slot.{Slot}
use Rattle.st_marks.specs.CarryOut.{full}
use Rattle.st_marks.specs.Document.{Document, IsSoundInForm, NodeType, content}
use Rattle.st_marks.specs.Embedding.{IsEmbedding, is_among, register_part, row_marks, row_part, tells}
use Rattle.st_marks.specs.Extends.{IsExtendedBy}
use Rattle.st_marks.specs.Intent.{Fits, new_node, put_of}
use Rattle.st_marks.specs.Join.{AreParts, IsJoin}
use Rattle.st_marks.specs.Listings.{nodes_new}
use Rattle.st_marks.specs.Register.{embed_register}
use Rattle.st_marks.specs.Row.{embed_row, merge}
use Rattle.st_marks.specs.Verdict.{HasBase, IsBaseInEffect}
use Rattle.st_normal.proofs.NoRings.{among_has}
use Rattle.st_rows.specs.Changes.{AreJoined, StandsIn, carried_row}
use Rattle.st_rows.specs.Sequence.{ListsNew}
use Rattle.st_rows.proofs.Documents.{is_slot}
use Rattle.st_rows.proofs.DocumentsAfter.{whole_is}
use Rattle.st_rows.proofs.DocumentsJoined.{parts_join}
use Rattle.st_rows.proofs.Existence.{lists_new}
use Rattle.st_rows.proofs.RisingNodes.{one_way}
use Rattle.st_parts.specs.Joined.{row_joined}
use Rattle.st_parts.specs.JoinedParts.{IsOfParts, TellsParts, loose_joined, named_by_parts, need_joined}
use Rattle.st_parts.specs.TrimmedChange.{ListsChange, mark_of}
use Rattle.st_parts.proofs.LooseOfParts.{loose_told}
use Rattle.st_parts.proofs.NamesOfParts.{parts_cover, put_names}
use Rattle.st_parts.proofs.RegistersOfParts.{register_told}
use Rattle.st_parts.proofs.RowsJoined.{row_joined-listed}

-- ## The new nodes of a listing

below_same : (a : NodeId) (xs : List NewNode) → below_all node_cmp a (key_pairs (λ (k : NewNode). k.node) xs) ≡ below_all node_cmp a (key_pairs (λ (n : NodeId). n) (nodes_new xs))
below_same a [] = refl
below_same a (x ∷ xs) = ap (λ b. is_lt (node_cmp a x.node) && b) (below_same a xs)

sorted_same : (xs : List NewNode) → is_sorted node_cmp (key_pairs (λ (k : NewNode). k.node) xs) ≡ is_sorted node_cmp (key_pairs (λ (n : NodeId). n) (nodes_new xs))
sorted_same [] = refl
sorted_same (x ∷ xs) = λ i. below_same x.node xs i && sorted_same xs i

item_among : (xs : List NewNode) (n : NodeId) → is_some (item_of node_cmp (λ (k : NewNode). k.node) xs n) ≡ is_among (nodes_new xs) n
item_among [] n = refl
item_among (x ∷ xs) n = (λ i. is_some (cond (one_way n x.node i) (Some x) (item_of node_cmp (λ (k : NewNode). k.node) xs n))) ∙ elim (same_node x.node n) as (λ b. is_some (cond b (Some x) (item_of node_cmp (λ (k : NewNode). k.node) xs n)) ≡ (b || is_among (nodes_new xs) n)) [
  | true ↦ refl
  | false ↦ item_among xs n
]

new_there : (o : Option NewNode) → is_some (option_map (λ (m : NewNode). let t : NodeType = record { ty = m.ty; leaf = m.leaf } in t) o) ≡ is_some o
new_there None = refl
new_there (Some m) = refl

lists_new_of : (N : Intent) (xs : List NewNode) → IsListing node_cmp (λ (k : NewNode). k.node) xs (new_node N) → ListsNew N (nodes_new xs)
lists_new_of N xs e = record {
  rising = sym (sorted_same xs) ∙ e.rising;
  each = λ n. sym (item_among xs n) ∙ ap is_some (e.at_each n) ∙ sym (new_there (new_node N n));
}

-- ## Over documents

-- a node is mentioned, if each put of it says so and there is one
some_put : (o : Option To) (b : Bool) → ((t : To) → o ≡ Some t → b ≡ true) → o ≢ None → b ≡ true
some_put None b f h = absurd (h refl)
some_put (Some t) b f h = f t refl

-- who stands in a row is there
standing_known : (D : Document) → IsSoundInForm D → (n y : NodeId) → StandsIn y (content D n) → IsSome (D.nodes y)
standing_known D x n y h =
    let s = at (content D n) h in
    let o = is_slot D n s.0 s.1 in
    subst (λ z. IsSome (D.nodes z)) (ap (λ (t : Slot). t.node) o.2 ∙ s.2) (x.cells_known n o.0 o.1).1
  where
    at : (d : List Slot) → StandsIn y d → (s : Slot) × Has d s × (s.node ≡ y)
    at [] w = absurd w
    at (s ∷ d) (inl e) = (s, inl refl, e.0)
    at (s ∷ d) (inr w) = let r = at d w in (r.0, inr r.1, r.2)

module _ (D : Document) (N M J : Intent) (C X G : Change) (x : IsExtendedBy D (full D N)) (p : AreParts D N M) (j : IsJoin N M J) (fits : Fits D J) (first : IsEmbedding D N C) (next : IsEmbedding (full D N) M X)
    (new known : Nodes) (goes : NodeId → Option To) (told : TellsParts D N M first.mentioned next.mentioned new known goes) (g : IsOfParts C X G new known goes) where
  abbrev E : Document
  E = full D N

  abbrev m : Nodes
  m = first.mentioned

  abbrev k : Nodes
  k = next.mentioned

  abbrev K : Nodes
  K = named_by_parts D m k

  so : (n : NodeId) → goes n ≡ put_of J n
  so n = told.goes_so n ∙ sym (j.puts n)

  put_first : (n : NodeId) (t : To) → put_of N n ≡ Some t → IsSome (D.nodes n) → m n ≡ true
  put_first n t e h = (first.which n).1 (n, put_names D N n t e, h, zero, refl)

  put_next : (n : NodeId) (t : To) → put_of M n ≡ Some t → IsSome (E.nodes n) → k n ≡ true
  put_next n t e h = (next.which n).1 (n, put_names E M n t e, h, zero, refl)

  -- ## New and needed nodes

  new_told : (n : NodeId) → option_or (item_of node_cmp (λ (m : NewNode). m.node) C.new n) (item_of node_cmp (λ (m : NewNode). m.node) X.new n) ≡ new_node J n
  new_told n = (λ i. option_or (first.new.at_each n i) (next.new.at_each n i)) ∙ sym (j.new_nodes n)

  needed : (n : NodeId) → (is_among N.need n || (not (new n) && is_among M.need n)) ≡ is_among J.need n
  needed n = both-ways-same (is_among N.need n || (not (new n) && is_among M.need n)) (is_among J.need n)
      (λ e. (among_has J.need n).1 ((j.needs n).1 (elim (or-cases (is_among N.need n) (not (new n) && is_among M.need n) e) [
        | inl i ↦ inl ((among_has N.need n).0 i)
        | inr i ↦ (let b = and-true (not (new n)) (is_among M.need n) i in inr ((among_has M.need n).0 b.1, sym (told.new_so n) ∙ not-true (new n) b.0))
      ])))
      (λ e. elim ((j.needs n).0 ((among_has J.need n).0 e)) [
        | inl i ↦ or-left (is_among N.need n) (not (new n) && is_among M.need n) ((among_has N.need n).1 i)
        | inr i ↦ or-right (is_among N.need n) (not (new n) && is_among M.need n) (and-both (not (new n)) (is_among M.need n) (ap not (told.new_so n ∙ i.1)) ((among_has M.need n).1 i.0))
      ])

  need_told : (n : NodeId) → need_joined (new n) (item_of node_cmp (λ (n : NodeId). n) C.need n) (item_of node_cmp (λ (n : NodeId). n) X.need n) ≡ cond (is_among J.need n) (Some n) None
  need_told n =
      (λ i. need_joined (new n) (first.need.at_each n i) (next.need.at_each n i)) ∙ go (is_among N.need n) (new n) (is_among M.need n)
      ∙ ap (λ b. cond {A = Option NodeId} b (Some n) None) (needed n)
    where
      go : (a c b : Bool) → need_joined c (cond a (Some n) None) (cond b (Some n) None) ≡ cond (a || (not c && b)) (Some n) None
      go true c b = refl
      go false true b = refl
      go false false b = refl

  -- ## Rows

  row_told : (n : NodeId) → MatchOption (row_joined n (item_of node_cmp (λ (r : RowMarks). r.node) C.rows n) (item_of node_cmp (λ (r : RowMarks). r.node) X.rows n))
      (list_any tells (embed_row (row_part K J n) (content D n)) ≡ false) (λ r. r.marks ≡ merge (embed_row (row_part K J n) (content D n)))
  row_told n =
      row_joined-listed (row_part m N n) (row_part k M n) (row_part K J n) (content D n) n joined
      (λ y h q. some_put (put_of N y) (m y) (λ t e. put_first y t e (standing_known D x.before n y h)) q)
      (λ y h q. some_put (put_of M y) (k y) (λ t e. put_next y t e (standing_known E x.after n y (subst (StandsIn y) (sym carried) h))) q)
      (item_of node_cmp (λ (r : RowMarks). r.node) C.rows n) (item_of node_cmp (λ (r : RowMarks). r.node) X.rows n)
      (sym (first.rows.at_each n)) (ap (λ c. row_marks n (embed_row (row_part k M n) c)) (sym carried) ∙ sym (next.rows.at_each n))
    where
      carried : content E n ≡ carried_row (row_part m N n) (content D n)
      carried = whole_is D N n x.before p.first_fits m (nodes_new C.new)

      listed : ListsNew J (nodes_new G.new)
      listed = lists_new_of J G.new (record { rising = g.new_nodes.rising; at_each = λ n. g.new_nodes.at_each n ∙ new_told n })

      joined : AreJoined (row_part m N n) (row_part k M n) (content D n) (row_part K J n)
      joined = (parts_join D N M J m k K (nodes_new C.new) (nodes_new X.new) (nodes_new G.new) n x.before p j (lists_new D N C first) (lists_new E M X next) listed
          (λ y h. ap (λ b. m y || b) (shown (k y) (standing_known D x.before n y h)))).part
        where
          shown : {c : Bool} (b : Bool) → c ≡ true → (b && c) ≡ b
          shown true e = e
          shown false e = refl

  -- ## All of it

  base : IsTrue C.base ↔ IsBaseInEffect D J
  base = subst (λ s. IsTrue C.base ↔ HasBase D.schemas s J.under) (p.no_schema.0 ∙ sym j.no_schema) (subst (λ u. IsTrue C.base ↔ HasBase D.schemas N.schema u) (sym j.under) first.base)

  pub parts_listed : ListsChange D J K G
  parts_listed = record {
    covers = parts_cover D N M J C X x p j fits first next;
    rev = g.rev ∙ first.rev ∙ sym j.rev;
    under = g.under ∙ first.under ∙ sym j.under;
    base = subst (λ b. IsTrue b ↔ IsBaseInEffect D J) (sym g.base) base;
    schema = g.schema ∙ sym j.no_schema;
    need = record { rising = g.need.rising; at_each = λ n. g.need.at_each n ∙ need_told n };
    new = record { rising = g.new_nodes.rising; at_each = λ n. g.new_nodes.at_each n ∙ new_told n };
    rows_rise = g.rows.rising;
    rows = λ n. subst (λ o. MatchOption o (list_any tells (embed_row (row_part K J n) (content D n)) ≡ false) (λ r. r.marks ≡ merge (embed_row (row_part K J n) (content D n)))) (sym (g.rows.at_each n)) (row_told n);
    regs_rise = g.regs.rising;
    regs = λ f. subst (λ o. MatchOption o (embed_register f (register_part K J f) (D.held f) ≡ None) (λ r. r ≡ mark_of D J f)) (sym (g.regs.at_each f))
        (register_told D N M J x.before p j goes so f m k put_first (item_of field_cmp (λ (r : RegMark). r.field) C.regs f) (item_of field_cmp (λ (r : RegMark). r.field) X.regs f) (sym (first.regs.at_each f)) (sym (next.regs.at_each f)));
    loose = record { rising = g.loose.rising; at_each = λ n. g.loose.at_each n ∙ (λ i. loose_joined goes (known n) n (first.loose.at_each n i) (next.loose.at_each n i)) ∙ loose_told D N M J m k new known goes told so put_first n };
  }
