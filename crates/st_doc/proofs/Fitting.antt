-- The tests tell whether an intent fits a document.
use Rattle.std.proofs.Common.{◌≡◌, ◌≢◌, ℕ, Bool, true, not, ◌&&◌, List, Option, Some, None, IsSome, IfSome, IsTrue, is_some, refl, sym, ap, ◌∙◌, subst}
use Rattle.std.specs.List.{list_any, AllByRecursion}
use Rattle.st_ids.specs.Listing.{Has}
use Rattle.st_ids.specs.Order.{same_rev, same_node, same_cell}
use Rattle.st_ids.specs.declared.names.CellId.{CellId}
use Rattle.st_ids.specs.declared.names.FieldId.{FieldId}
use Rattle.st_ids.specs.declared.names.NodeId.{NodeId}
use Rattle.st_ids.proofs.Orders.{same_node-true, same_node-itself, same_cell-true, same_cell-itself}
use Rattle.st_marks.specs.declared.changes.NewNode.{NewNode}
use Rattle.st_marks.specs.declared.intents.Group.{Group}
use Rattle.st_marks.specs.declared.intents.Intent.{Intent}
use Rattle.st_marks.specs.declared.intents.Owned.{Owned}
use Rattle.st_marks.specs.declared.intents.Put.{Put}
use Rattle.st_marks.specs.declared.intents.To.{To}
use Rattle.st_marks.specs.declared.schemas.SchemaEntry.{SchemaEntry}
use Rattle.st_marks.specs.Document.{Document, IsSoundInForm, owned_cell}
use Rattle.st_marks.specs.Intent.{IsIntent, Fits, IsKnown, Owns, is_new, new_row_of, group_cells, cell_of, register_of}
use Rattle.st_marks.proofs.Lookups.{made_there}
use Rattle.st_marks.proofs.Members.{any-has, has-any, all-has, has-all, has-flat_map, flat_map-has}
use Rattle.st_intent.proofs.Obeyed.{one_rev, made_is, is_none_tells}
use Rattle.st_intent.proofs.Scans.{is_new-listed}
use Rattle.st_intent.proofs.Tells.{Tells, tells_both, tells_either, tells_not, tells_as, tells_all, tells_parts}
use Rattle.st_doc.specs.inside.Fitting.{nodes_fresh, cells_fresh, schema_fresh, is_known, is_that, anchor_known, group_known, has_owned, owns_old, owns_new, owns, target_known, put_known, names_fresh, names_known, names_fit}
use Rattle.st_lemmas.proofs.Bools.{and-true}

-- ## New names

module _ (D : Document) (N : Intent) where
  nodes_tell : Tells (nodes_fresh D N) ((n : NodeId) → IsTrue (is_new N n) → D.nodes n ≡ None)
  nodes_tell = (to, from)
    where
      each : Tells (nodes_fresh D N) (AllByRecursion (λ (m : NewNode). D.nodes m.node ≡ None) N.new)
      each = tells_all (λ (m : NewNode). not (is_some (D.nodes m.node))) (λ (m : NewNode). D.nodes m.node ≡ None) (λ m. is_none_tells (D.nodes m.node)) N.new

      to : nodes_fresh D N ≡ true → (n : NodeId) → IsTrue (is_new N n) → D.nodes n ≡ None
      to e n new =
          let m = any-has (λ (m : NewNode). same_node m.node n) N.new (sym (is_new-listed N n) ∙ new) in
          subst (λ x. D.nodes x ≡ None) (same_node-true m.0.node n m.2) (all-has (λ (m : NewNode). D.nodes m.node ≡ None) N.new m.0 (each.0 e) m.1)

      from : ((n : NodeId) → IsTrue (is_new N n) → D.nodes n ≡ None) → nodes_fresh D N ≡ true
      from h = each.1 (has-all (λ (m : NewNode). D.nodes m.node ≡ None) N.new
          (λ m k. h m.node (is_new-listed N m.node ∙ has-any (λ (x : NewNode). same_node x.node m.node) N.new m k (same_node-itself m.node))))

  cells_tell : Tells (cells_fresh D N) ((c : CellId) → IsSome (new_row_of N c) → D.row_of c ≡ None)
  cells_tell = (to, from)
    where
      each : Tells (cells_fresh D N) (AllByRecursion (λ (o : Owned). D.row_of o.cell ≡ None) (group_cells N))
      each = tells_parts (λ (g : Group). g.cells) (λ (o : Owned). not (is_some (D.row_of o.cell))) (λ (o : Owned). D.row_of o.cell ≡ None) (λ o. is_none_tells (D.row_of o.cell)) N.groups

      to : cells_fresh D N ≡ true → (c : CellId) → IsSome (new_row_of N c) → D.row_of c ≡ None
      to e c made =
          let g = any-has (λ (g : Group). list_any (λ (o : Owned). same_cell o.cell c) g.cells) N.groups (sym (made_is N c) ∙ made) in
          let o = any-has (λ (o : Owned). same_cell o.cell c) g.0.cells g.2 in
          subst (λ x. D.row_of x ≡ None) (same_cell-true o.0.cell c o.2)
          (all-has (λ (o : Owned). D.row_of o.cell ≡ None) (group_cells N) o.0 (each.0 e) (flat_map-has (λ (g : Group). g.cells) N.groups g.0 o.0 g.1 o.1))

      from : ((c : CellId) → IsSome (new_row_of N c) → D.row_of c ≡ None) → cells_fresh D N ≡ true
      from h = each.1 (has-all (λ (o : Owned). D.row_of o.cell ≡ None) (group_cells N) (λ o k. h o.cell (made_there N o k)))

schema_tells : (D : Document) (N : Intent) (s : Option (List ℕ)) → Tells (schema_fresh D N s) (IfSome s (λ _. AllByRecursion (λ (e : SchemaEntry). e.rev ≢ N.rev) D.schemas))
schema_tells D N None = (λ e. tt, λ h. refl)
schema_tells D N (Some text) =
    tells_all (λ (e : SchemaEntry). not (same_rev e.rev N.rev)) (λ (e : SchemaEntry). e.rev ≢ N.rev) (λ e. tells_not (same_rev e.rev N.rev) (e.rev ≡ N.rev) (one_rev e.rev N.rev)) D.schemas

-- ## Old names

known_tells : (D : Document) (N : Intent) (n : NodeId) → Tells (is_known D N n) (IsKnown D N n)
known_tells D N n = tells_either (is_new N n) (is_some (D.nodes n)) (IsTrue (is_new N n)) (IsSome (D.nodes n)) (λ e. e, λ h. h) (λ e. e, λ h. h)

that_tells : (o : Option NodeId) (n : NodeId) → Tells (is_that o n) (o ≡ Some n)
that_tells None n = (λ e. cc, λ e. cc)
that_tells (Some m) n = (λ e. ap (λ x. Some x) (same_node-true m n e), λ e. let s : m ≡ n = cc in ap (same_node m) (sym s) ∙ same_node-itself m)

anchor_tells : (D : Document) (n : NodeId) (a : Option CellId) → Tells (anchor_known D n a) (IfSome a (λ c. D.row_of c ≡ Some n))
anchor_tells D n None = (λ e. tt, λ h. refl)
anchor_tells D n (Some c) = that_tells (D.row_of c) n

owned_tells : (c : CellId) (n : NodeId) (os : List Owned) → Tells (has_owned c n os) (Has os (owned_cell c n))
owned_tells c n os = (to, from)
  where
    to : has_owned c n os ≡ true → Has os (owned_cell c n)
    to e =
        let o = any-has (λ (o : Owned). same_cell o.cell c && same_node o.node n) os e in
        let b = and-true _ _ o.2 in
        subst (Has os) (λ i. record { cell = same_cell-true o.0.cell c b.0 i; node = same_node-true o.0.node n b.1 i }) o.1

    itself : (same_cell c c && same_node n n) ≡ true
    itself = rw (same_cell-itself c, same_node-itself n) refl

    from : Has os (owned_cell c n) → has_owned c n os ≡ true
    from h = has-any (λ (o : Owned). same_cell o.cell c && same_node o.node n) os (owned_cell c n) h itself

old_tells : (D : Document) (n : NodeId) (c : CellId) → IsSoundInForm D → Tells (owns_old D n c (D.row_of c)) ((r : NodeId) × Has (D.rows r) (owned_cell c n))
old_tells D n c sound = (to (D.row_of c), from)
  where
    to : (o : Option NodeId) → owns_old D n c o ≡ true → (r : NodeId) × Has (D.rows r) (owned_cell c n)
    to None e = cc
    to (Some r) e = (r, (owned_tells c n (D.rows r)).0 e)

    from : (r : NodeId) × Has (D.rows r) (owned_cell c n) → owns_old D n c (D.row_of c) ≡ true
    from h = subst (λ o. owns_old D n c o ≡ true) (sym ((sound.one_row c h.0).1 (n, h.1))) ((owned_tells c n (D.rows h.0)).1 h.1)

new_tells : (N : Intent) (n : NodeId) (c : CellId) → Tells (owns_new N n c) (Has (group_cells N) (owned_cell c n))
new_tells N n c = (to, from)
  where
    to : owns_new N n c ≡ true → Has (group_cells N) (owned_cell c n)
    to e =
        let g = any-has (λ (g : Group). has_owned c n g.cells) N.groups e in
        flat_map-has (λ (g : Group). g.cells) N.groups g.0 (owned_cell c n) g.1 ((owned_tells c n g.0.cells).0 g.2)

    from : Has (group_cells N) (owned_cell c n) → owns_new N n c ≡ true
    from h =
        let g = has-flat_map (λ (g : Group). g.cells) N.groups (owned_cell c n) h in
        has-any (λ (g : Group). has_owned c n g.cells) N.groups g.0 g.1 ((owned_tells c n g.0.cells).1 g.2)

owns_tells : (D : Document) (N : Intent) (n : NodeId) (c : CellId) → IsSoundInForm D → Tells (owns D N n c) (Owns D N n c)
owns_tells D N n c sound = tells_either (owns_old D n c (D.row_of c)) (owns_new N n c) ((r : NodeId) × Has (D.rows r) (owned_cell c n)) (Has (group_cells N) (owned_cell c n)) (old_tells D n c sound) (new_tells N n c)

abbrev IsTargetKnown : Document → Intent → NodeId → To → Type 0
IsTargetKnown D N n to = IfSome (cell_of to) (Owns D N n) × IfSome (register_of to) (λ f. IsKnown D N f.node)

target_tells : (D : Document) (N : Intent) (n : NodeId) (to : To) → IsSoundInForm D → Tells (target_known D N n to) (IsTargetKnown D N n to)
target_tells D N n To.Nowhere sound = (λ e. (tt, tt), λ h. refl)
target_tells D N n (To.Cell c) sound = let t = owns_tells D N n c sound in (λ e. (t.0 e, tt), λ h. t.1 h.0)
target_tells D N n (To.Register f) sound = let t = known_tells D N f.node in (λ e. (tt, t.0 e), λ h. t.1 h.1)

abbrev IsGroupKnown : Document → Intent → Group → Type 0
IsGroupKnown D N g = IsKnown D N g.node × IfSome g.after (λ c. D.row_of c ≡ Some g.node)

abbrev IsPutKnown : Document → Intent → Put → Type 0
IsPutKnown D N p = IsKnown D N p.node × IfSome (cell_of p.to) (Owns D N p.node) × IfSome (register_of p.to) (λ f. IsKnown D N f.node)

put_tells : (D : Document) (N : Intent) → IsSoundInForm D → (p : Put) → Tells (put_known D N p) (IsPutKnown D N p)
put_tells D N sound p = tells_as (put_known D N p) (IsKnown D N p.node × IsTargetKnown D N p.node p.to) (IsPutKnown D N p) (λ h. (h.0, h.1.0, h.1.1)) (λ h. (h.0, (h.1, h.2)))
    (tells_both (is_known D N p.node) (target_known D N p.node p.to) (IsKnown D N p.node) (IsTargetKnown D N p.node p.to) (known_tells D N p.node) (target_tells D N p.node p.to sound))

-- ## All

abbrev FreshNames : Document → Intent → Type 0
FreshNames D N =
    ((n : NodeId) → IsTrue (is_new N n) → D.nodes n ≡ None)
    × (((c : CellId) → IsSome (new_row_of N c) → D.row_of c ≡ None) × IfSome N.schema (λ _. AllByRecursion (λ (e : SchemaEntry). e.rev ≢ N.rev) D.schemas))

abbrev KnownNames : Document → Intent → Type 0
KnownNames D N =
    AllByRecursion (IsGroupKnown D N) N.groups
    × (AllByRecursion (λ (o : Owned). IsKnown D N o.node) (group_cells N)
    × (AllByRecursion (IsPutKnown D N) N.put × (AllByRecursion (λ (f : FieldId). IsKnown D N f.node) N.clear × AllByRecursion (λ (n : NodeId). IsSome (D.nodes n)) N.need)))

fresh_tells : (D : Document) (N : Intent) → Tells (names_fresh D N) (FreshNames D N)
fresh_tells D N = tells_both _ _ _ _ (nodes_tell D N) (tells_both _ _ _ _ (cells_tell D N) (schema_tells D N N.schema))

names_tell : (D : Document) (N : Intent) → IsSoundInForm D → Tells (names_known D N) (KnownNames D N)
names_tell D N sound =
    tells_both _ _ _ _ (tells_all (group_known D N) (IsGroupKnown D N) (λ g. tells_both _ _ _ _ (known_tells D N g.node) (anchor_tells D g.node g.after)) N.groups)
    (tells_both _ _ _ _ (tells_parts (λ (g : Group). g.cells) (λ (o : Owned). is_known D N o.node) (λ (o : Owned). IsKnown D N o.node) (λ o. known_tells D N o.node) N.groups)
    (tells_both _ _ _ _ (tells_all (put_known D N) (IsPutKnown D N) (put_tells D N sound) N.put)
    (tells_both _ _ _ _ (tells_all (λ (f : FieldId). is_known D N f.node) (λ (f : FieldId). IsKnown D N f.node) (λ f. known_tells D N f.node) N.clear)
    (tells_all (λ (n : NodeId). is_some (D.nodes n)) (λ (n : NodeId). IsSome (D.nodes n)) (λ n. (λ e. e, λ h. h)) N.need))))

fits_as : (D : Document) (N : Intent) → IsIntent N × (FreshNames D N × KnownNames D N) → Fits D N
fits_as D N h = record {
  itself = h.0;
  fresh_nodes = h.1.0.0;
  fresh_cells = h.1.0.1.0;
  fresh_schema = h.1.0.1.1;
  groups_known = h.1.1.0;
  owners_known = h.1.1.1.0;
  puts_known = h.1.1.1.1.0;
  clears_known = h.1.1.1.1.1.0;
  needs_known = h.1.1.1.1.1.1;
}

as_fits : (D : Document) (N : Intent) → Fits D N → IsIntent N × (FreshNames D N × KnownNames D N)
as_fits D N f = (f.itself, ((f.fresh_nodes, (f.fresh_cells, f.fresh_schema)), (f.groups_known, (f.owners_known, (f.puts_known, (f.clears_known, f.needs_known))))))

-- an intent fits where it obeys its own rules and all names fit
pub fits_tells : (D : Document) (N : Intent) (itself : Bool) → IsSoundInForm D → Tells itself (IsIntent N) → Tells (itself && names_fit D N) (Fits D N)
fits_tells D N itself sound t = tells_as _ _ _ (fits_as D N) (as_fits D N) (tells_both _ _ _ _ t (tells_both _ _ _ _ (fresh_tells D N) (names_tell D N sound)))
