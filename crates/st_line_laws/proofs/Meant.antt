-- What an edit means has the commit's revision and the last schema's, changes no schema, and puts somewhere only new nodes
-- and such as are live.
use Rattle.std.proofs.Common.{◌≡◌, inl, inr, ℕ, Bool, true, false, cond, nat_le, ◌&&◌, ◌==◌, ◌+◌, List, [], ◌∷◌, take, drop, Option, Some, None, Ok, Err, unwrap_or, refl, sym, ap, ◌∙◌, subst}
use Rattle.st_ids.specs.Listing.{Has}
use Rattle.st_ids.specs.Or.{and_then}
use Rattle.st_ids.specs.Order.{same_node}
use Rattle.st_ids.specs.Root.{opening, root}
use Rattle.st_ids.specs.declared.names.FieldId.{FieldId}
use Rattle.st_ids.specs.declared.names.Key.{Key}
use Rattle.st_ids.specs.declared.names.NodeId.{NodeId}
use Rattle.st_ids.specs.declared.names.Rev.{Rev}
use Rattle.st_ids.proofs.Orders.{same_node-itself}
use Rattle.st_ids.proofs.Shared.{filtered}
use Rattle.st_lemmas.proofs.Bools.{true-false}
use Rattle.st_lemmas.proofs.Options.{None-IsSome}
use Rattle.st_tree.specs.Node.{trees_view, view}
use Rattle.st_tree.specs.declared.edit.Edit.{Edit}
use Rattle.st_tree.specs.declared.edit.EditFault.TheVariants.{Range}
use Rattle.st_tree.specs.declared.flat.FlatNode.{FlatNode}
use Rattle.st_schema.specs.Schema.{SchemaView}
use Rattle.st_schema.specs.declared.names.KindName.{KindName}
use Rattle.st_schema.specs.declared.names.KindName.TheVariants.{Required, Optional, Sequence}
use Rattle.st_marks.specs.declared.changes.NewNode.{NewNode}
use Rattle.st_marks.specs.declared.intents.Intent.{Intent}
use Rattle.st_marks.specs.declared.intents.Owned.{Owned}
use Rattle.st_marks.specs.declared.intents.Put.{Put}
use Rattle.st_marks.specs.declared.intents.To.{To}
use Rattle.st_marks.specs.declared.places.Slot.{Slot}
use Rattle.st_marks.specs.Document.{Document, IsLive, IsSoundInForm, content, last_of, node_of, revs}
use Rattle.st_marks.specs.Intent.{Fits, is_new, new_node, put_of}
use Rattle.st_marks.specs.LiveTree.{live_slots}
use Rattle.st_marks.proofs.Climb.{stands}
use Rattle.st_marks.proofs.Lookups.{put-has}
use Rattle.st_marks.proofs.Members.{has-map, map-has, none-has}
use Rattle.st_edits.specs.New.{new_nodes, puts, to_at}
use Rattle.st_edits.specs.Paths.{field_at, items_from, or_refuse, row_length}
use Rattle.st_edits.specs.Resolve.{cells_for, intent_to_move, intent_to_remove, nodes_taken, resolve}
use Rattle.st_edits.specs.declared.names.NameCounters.{NameCounters}
use Rattle.st_edits.proofs.Fits.{has_drop, has_take, or_refuse-Ok, passed}
use Rattle.st_schema_laws.proofs.Along.{live_at}
use Rattle.st_schema_laws.proofs.Cleared.{is_clearing, is_need}
use Rattle.st_schema_laws.proofs.Filled.{is_setting}
use Rattle.st_schema_laws.proofs.Inserted.{is_insertion}
use Rattle.st_schema_laws.proofs.Moves.{is_move}
use Rattle.st_schema_laws.proofs.Removed.{is_removal}
use Rattle.st_line_laws.proofs.Revealing.{PutsLiveOnes, live_below}

pub record IsMeant (D : Document) (G : NameCounters) (N : Intent) : Type 0 where
  pub rev : N.rev ≡ G.rev
  pub under : N.under ≡ unwrap_or (last_of (revs D.schemas)) opening
  pub no_schema : N.schema ≡ None
  pub puts : PutsLiveOnes D N

-- ## New nodes

-- what new nodes are put, is new
put_is_new : (N : Intent) (into : Option FieldId) (xs : List FlatNode) → N.put ≡ puts into xs → N.new ≡ new_nodes xs → (n : NodeId) (to : To) → put_of N n ≡ Some to → is_new N n ≡ true
put_is_new N into xs put new n to e =
    let x = has-map (λ (x : FlatNode). record { node = x.node; to = to_at into x.at }) xs (record { node = n; to = to }) (subst (λ l. Has l (record { node = n; to = to })) put (put-has N n to e)) in
    let named : x.0.node ≡ n = ap (λ (p : Put). p.node) x.2 in
    let listed : Has N.new (record { node = x.0.node; ty = x.0.ty; leaf = x.0.leaf }) = subst (λ l. Has l (record { node = x.0.node; ty = x.0.ty; leaf = x.0.leaf })) (sym new) (map-has (λ (x : FlatNode). record { node = x.node; ty = x.ty; leaf = x.leaf }) xs x.0 x.1) in
    go x.0 named listed (new_node N n) refl
  where
    go : (x : FlatNode) → x.node ≡ n → Has N.new (record { node = x.node; ty = x.ty; leaf = x.leaf }) → (o : Option NewNode) → new_node N n ≡ o → is_new N n ≡ true
    go x named h None e = absurd (true-false (ap (λ m. same_node m n) named ∙ same_node-itself n) (none-has (λ (m : NewNode). same_node m.node n) N.new (record { node = x.node; ty = x.ty; leaf = x.leaf }) e h))
    go x named h (Some m) e = rw e refl

only_new : (D : Document) (N : Intent) → Fits D N → (into : Option FieldId) (xs : List FlatNode) → N.put ≡ puts into xs → N.new ≡ new_nodes xs → PutsLiveOnes D N
only_new D N fits into xs put new n to e known = absurd (None-IsSome (D.nodes n) (fits.fresh_nodes n (put_is_new N into xs put new n to e)) known)

-- ## Moved nodes

module _ (D : Document) (sound : IsSoundInForm D) where
  item_live : (n x : NodeId) (index count : ℕ) → Has (items_from D n index count) x → IsLive D n → IsLive D x
  item_live n x index count h live =
      let s = has-map (λ (s : Slot). s.node) (take count (drop index (live_slots D n))) x h in
      let f = filtered (λ (s : Slot). s.full) (content D n) s.0 (has_drop index (live_slots D n) s.0 (has_take count (drop index (live_slots D n)) s.0 s.1)) in
      let there : Has (content D n) (record { cell = s.0.cell; node = x; full = true }) = subst (Has (content D n)) (λ i. record { cell = s.0.cell; node = s.2 i; full = f.1 i }) f.0 in
      live_below D x n (ap node_of (stands D sound x n s.0.cell there)) live

  taken_live : (n : NodeId) (key : Key) (k : KindName) (index count : ℕ) (ns : List NodeId) → nodes_taken D (field_at n key) k index count ≡ Ok ns → IsLive D n → (x : NodeId) → Has ns x → IsLive D x
  taken_live n key Required index count ns e live x h = cc
  taken_live n key Optional index count ns e live x h = go (index == 0 && count == 1) e
    where
      go : (b : Bool) → cond b (and_then (or_refuse (D.held (field_at n key)) Range) (λ (m : NodeId). Ok (m ∷ []))) (Err Range) ≡ Ok ns → IsLive D x
      go false e = cc
      go true e =
          let m = passed (or_refuse (D.held (field_at n key)) Range) (λ (m : NodeId). Ok (m ∷ [])) ns e in
          let is : m.0 ∷ [] ≡ ns = cc in
          let held : D.held (field_at n key) ≡ Some m.0 = or_refuse-Ok (D.held (field_at n key)) Range m.0 m.1 in
          elim (subst (λ l. Has l x) (sym is) h) [
            | inl same ↦ subst (IsLive D) same (live_below D m.0 n (ap node_of ((sound.one_held m.0 (field_at n key)).0 held)) live)
            | inr none ↦ absurd none
          ]
  taken_live n key Sequence index count ns e live x h = go (nat_le (index + count) (row_length D n)) e
    where
      go : (b : Bool) → cond b (Ok (items_from D n index count)) (Err Range) ≡ Ok ns → IsLive D x
      go false e = cc
      go true e = let is : items_from D n index count ≡ ns = cc in item_live n x index count (subst (λ l. Has l x) (sym is) h) live

-- the owner of a new cell is moved
cell_owner : (rev : Rev) (c : ℕ) (ns : List NodeId) (o : Owned) → Has (cells_for rev c ns) o → Has ns o.node
cell_owner rev c [] o h = absurd h
cell_owner rev c (n ∷ ns) o (inl e) = inl (ap (λ (p : Owned). p.node) e)
cell_owner rev c (n ∷ ns) o (inr h) = inr (cell_owner rev (c + 1) ns o h)

-- what a move puts, it takes
put_is_taken : (D : Document) (G : NameCounters) (f : FieldId) (k : KindName) (index : ℕ) (ns : List NodeId) (n : NodeId) (to : To) → put_of (intent_to_move D G f k index ns) n ≡ Some to → Has ns n
put_is_taken D G f Required index ns n to e = let bad : None ≡ Some to = e in cc
put_is_taken D G f Optional index ns n to e =
    let m = has-map (λ (n : NodeId). record { node = n; to = To.Register f }) ns (record { node = n; to = to }) (put-has (intent_to_move D G f Optional index ns) n to e) in
    subst (Has ns) (ap (λ (p : Put). p.node) m.2) m.1
put_is_taken D G f Sequence index ns n to e =
    let o = has-map (λ (o : Owned). record { node = o.node; to = To.Cell o.cell }) (cells_for G.rev G.cells ns) (record { node = n; to = to }) (put-has (intent_to_move D G f Sequence index ns) n to e) in
    subst (Has ns) (ap (λ (p : Put). p.node) o.2) (cell_owner G.rev G.cells ns o.0 o.1)

move_is_meant : (D : Document) (G : NameCounters) (f : FieldId) (k : KindName) (index : ℕ) (ns : List NodeId) → ((x : NodeId) → Has ns x → IsLive D x) → IsMeant D G (intent_to_move D G f k index ns)
move_is_meant D G f Required index ns live = record { rev = refl; under = refl; no_schema = refl; puts = λ n to e known. inr (live n (put_is_taken D G f Required index ns n to e)) }
move_is_meant D G f Optional index ns live = record { rev = refl; under = refl; no_schema = refl; puts = λ n to e known. inr (live n (put_is_taken D G f Optional index ns n to e)) }
move_is_meant D G f Sequence index ns live = record { rev = refl; under = refl; no_schema = refl; puts = λ n to e known. inr (live n (put_is_taken D G f Sequence index ns n to e)) }

-- ## Any edit

pub meant : (D : Document) (s : SchemaView) (G : NameCounters) (edit : Edit) (N : Intent) → IsSoundInForm D → Fits D N → resolve D s G edit ≡ Ok N → IsMeant D G N
meant D s G (Edit.Insert at key index items) N sound fits e =
    let w = is_insertion D s G at key index (trees_view items) N e in
    record {
      rev = ap (λ (N : Intent). N.rev) (sym w.intent);
      under = ap (λ (N : Intent). N.under) (sym w.intent);
      no_schema = ap (λ (N : Intent). N.schema) (sym w.intent);
      puts = only_new D N fits None _ (ap (λ (N : Intent). N.put) (sym w.intent)) (ap (λ (N : Intent). N.new) (sym w.intent));
    }
meant D s G (Edit.Remove at key index count) N sound fits e =
    let w = is_removal D s G at key index count N e in
    subst (IsMeant D G) w.intent (record {
      rev = refl;
      under = refl;
      no_schema = refl;
      puts = λ n to p known. inl (let m = has-map (λ (n : NodeId). record { node = n; to = To.Nowhere }) (items_from D w.node index count) (record { node = n; to = to }) (put-has (intent_to_remove D G (items_from D w.node index count)) n to p) in sym (ap (λ (p : Put). p.to) m.2));
    })
meant D s G (Edit.Move at key index count to to_key to_index) N sound fits e =
    let w = is_move D s G at key index count to to_key to_index N e in
    subst (IsMeant D G) w.intent (move_is_meant D G (field_at w.target to_key) w.target_rule.kind to_index w.nodes
    (taken_live D sound w.node key w.source_rule.kind index count w.nodes w.taken_nodes (live_at D sound at 0 root w.node w.way)))
meant D s G (Edit.Put at key item) N sound fits e =
    let w = is_setting D s G at key (view item) N e in
    record {
      rev = ap (λ (N : Intent). N.rev) (sym w.intent);
      under = ap (λ (N : Intent). N.under) (sym w.intent);
      no_schema = ap (λ (N : Intent). N.schema) (sym w.intent);
      puts = only_new D N fits (Some (field_at w.node key)) _ (ap (λ (N : Intent). N.put) (sym w.intent)) (ap (λ (N : Intent). N.new) (sym w.intent));
    }
meant D s G (Edit.Clear at key) N sound fits e =
    let w = is_clearing D s G at key N e in
    subst (IsMeant D G) w.intent (record { rev = refl; under = refl; no_schema = refl; puts = λ n to p known. (let bad : None ≡ Some to = p in cc) })
meant D s G (Edit.Need at) N sound fits e =
    let w = is_need D G at N e in
    subst (IsMeant D G) w.2 (record { rev = refl; under = refl; no_schema = refl; puts = λ n to p known. (let bad : None ≡ Some to = p in cc) })
