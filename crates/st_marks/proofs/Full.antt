-- An intent carried out whole leaves a document that is sound in form and extends the one before, if it makes no ring.
use Rattle.std.proofs.Common.{◌≡◌, ◌≢◌, ◌↔◌, ◌<◌, ◌^◌, ℕ, Bool, true, false, List, [], ◌∷◌, ◌++◌, map, length, Option, Some, None, cond, refl, sym, ap, ◌∙◌, inl, inr, ◌⊎◌, is_some, IsSome, IfSome}
use Rattle.std.specs.List.{AllByRecursion}
use Rattle.std.specs.Option.{option_or, option_map_or}
use Rattle.st_ids.specs.Listing.{Has}
use Rattle.st_ids.specs.declared.names.CellId.{CellId}
use Rattle.st_ids.specs.declared.names.FieldId.{FieldId}
use Rattle.st_ids.specs.declared.names.NodeId.{NodeId}
use Rattle.st_marks.specs.declared.intents.Intent.{Intent}
use Rattle.st_marks.specs.declared.intents.Put.{Put}
use Rattle.st_marks.specs.declared.intents.To.{To}
use Rattle.st_marks.specs.declared.places.Spot.{Spot}
use Rattle.st_marks.specs.declared.schemas.SchemaEntry.{SchemaEntry}
use Rattle.st_marks.specs.Document.{Document, node_of, above, IsAncestor, ClimbsToAnEnd, CanBeInEffect, IsSoundInForm, owned_cell, first_of, revs}
use Rattle.st_ids.specs.Root.{root, opening}
use Rattle.st_marks.specs.Extends.{IsExtendedBy}
use Rattle.st_marks.specs.Intent.{put_of, put_in, clears, cell_of, register_of, IsIntent, Fits, IsKnown, Owns}
use Rattle.st_marks.specs.CarryOut.{full, with_names, spot_of, place_after, unless_cleared, unless_put, with_schema}
use Rattle.st_marks.proofs.Members.{all-has, map-has, distinct-append}
use Rattle.st_marks.proofs.Lookups.{put-has, has-put, put_in-has, has-put_in, put_clears, clears-has}
use Rattle.st_marks.proofs.NoRing.{no_ring_made}
use Rattle.st_marks.proofs.NewRows.{old_cell, known_after, row_cells, one_row_each, rows_once, owns_in_row, rows_grow}
use Rattle.st_lemmas.proofs.Bools.{true-false}

-- ## Where a put leads

pub put_to_register : (row_of : CellId → Option NodeId) (to : To) (f : FieldId) → spot_of row_of to ≡ Spot.Register f → to ≡ To.Register f
put_to_register row_of To.Nowhere f e = cc
put_to_register row_of (To.Cell c) f e = go (row_of c) e
  where
    go : (o : Option NodeId) → option_map_or (λ n. Spot.Row n c) o Spot.Nowhere ≡ Spot.Register f → To.Cell c ≡ To.Register f
    go None e = cc
    go (Some n) e = cc
put_to_register row_of (To.Register g) f e = let q : g ≡ f = cc in ap (λ f. To.Register f) q

pub put_to_cell : (row_of : CellId → Option NodeId) (to : To) (n : NodeId) (c : CellId) → spot_of row_of to ≡ Spot.Row n c → (to ≡ To.Cell c) × (row_of c ≡ Some n)
put_to_cell row_of To.Nowhere n c e = cc
put_to_cell row_of (To.Cell d) n c e = go (row_of d) refl e
  where
    go : (o : Option NodeId) → row_of d ≡ o → option_map_or (λ n. Spot.Row n d) o Spot.Nowhere ≡ Spot.Row n c → (To.Cell d ≡ To.Cell c) × (row_of c ≡ Some n)
    go None h e = cc
    go (Some r) h e = let q : d ≡ c = cc in let p : r ≡ n = cc in (ap (λ c. To.Cell c) q, ap row_of (sym q) ∙ h ∙ ap (λ n. Some n) p)
put_to_cell row_of (To.Register g) n c e = cc

-- a put is known: its node, the owner of its cell, the node of its register
pub known_put : (D : Document) (N : Intent) → Fits D N → (m : NodeId) (to : To) → put_of N m ≡ Some to → IsKnown D N m × IfSome (cell_of to) (Owns D N m) × IfSome (register_of to) (λ f. IsKnown D N f.node)
known_put D N f m to e = all-has (λ (p : Put). IsKnown D N p.node × IfSome (cell_of p.to) (Owns D N p.node) × IfSome (register_of p.to) (λ f. IsKnown D N f.node)) N.put (record { node = m; to = to }) f.puts_known (put-has N m to e)

-- ## Registers

unless_cleared-register : (N : Intent) (s : Spot) (f : FieldId) → unless_cleared N s ≡ Spot.Register f → (s ≡ Spot.Register f) × (clears N f ≡ false)
unless_cleared-register N Spot.Nowhere f e = cc
unless_cleared-register N (Spot.Row n c) f e = cc
unless_cleared-register N (Spot.Register g) f e = go (clears N g) refl e
  where
    go : (b : Bool) → clears N g ≡ b → cond b Spot.Nowhere (Spot.Register g) ≡ Spot.Register f → (Spot.Register g ≡ Spot.Register f) × (clears N f ≡ false)
    go true h e = cc
    go false h e = let q : g ≡ f = cc in (e, ap (clears N) (sym q) ∙ h)

unless_cleared-row : (N : Intent) (s : Spot) (n : NodeId) (c : CellId) → unless_cleared N s ≡ Spot.Row n c → s ≡ Spot.Row n c
unless_cleared-row N Spot.Nowhere n c e = e
unless_cleared-row N (Spot.Row r d) n c e = e
unless_cleared-row N (Spot.Register g) n c e = elim (clears N g) as (λ b. cond b Spot.Nowhere (Spot.Register g) ≡ Spot.Row n c → Spot.Register g ≡ Spot.Row n c) [ true ↦ λ e. cc | false ↦ λ e. cc ] e

-- each register holds the one node whose place it is
abbrev pub HoldsWhatIsPlaced : Document → Type 0
HoldsWhatIsPlaced D = (m : NodeId) (f : FieldId) → (D.held f ≡ Some m) ↔ (D.place m ≡ Spot.Register f)

placed_is_held : (D : Document) (N : Intent) → HoldsWhatIsPlaced D → IsIntent N → (m : NodeId) (f : FieldId) → (full D N).place m ≡ Spot.Register f → (full D N).held f ≡ Some m
placed_is_held D N one w m f e = go (put_of N m) refl e
  where
    kept : put_of N m ≡ None → (o : Option NodeId) → put_in N f ≡ o → D.held f ≡ Some m → clears N f ≡ false → option_or o (cond (clears N f) None (unless_put N (D.held f))) ≡ Some m
    kept none (Some x) i h c = absurd (true-false (put_clears N w x f (put_in-has N f x i)) c)
    kept none None i h c = rw (c, h, none) refl

    go : (o : Option To) → put_of N m ≡ o → place_after (with_names D N).row_of N o (D.place m) ≡ Spot.Register f → (full D N).held f ≡ Some m
    go (Some to) h e =
        let t = put_to_register (with_names D N).row_of to f e in
        rw (has-put_in N w m f (put-has N m (To.Register f) (h ∙ ap (λ t. Some t) t))) refl
    go None h e =
        let r = unless_cleared-register N (D.place m) f e in
        kept h (put_in N f) refl ((one m f).1 r.0) r.1

held_is_placed : (D : Document) (N : Intent) → HoldsWhatIsPlaced D → IsIntent N → (m : NodeId) (f : FieldId) → (full D N).held f ≡ Some m → (full D N).place m ≡ Spot.Register f
held_is_placed D N one w m f e = go (put_in N f) refl e
  where
    stayed : (o : Option NodeId) → D.held f ≡ o → clears N f ≡ false → unless_put N o ≡ Some m → (full D N).place m ≡ Spot.Register f
    stayed None h c e = cc
    stayed (Some x) h c e = more (put_of N x) refl e
      where
        more : (o : Option To) → put_of N x ≡ o → cond (is_some o) None (Some x) ≡ Some m → (full D N).place m ≡ Spot.Register f
        more (Some to) i e = cc
        more None i e =
            let q : x ≡ m = cc in
            let none : put_of N m ≡ None = ap (put_of N) (sym q) ∙ i in
            let at : D.place m ≡ Spot.Register f = (one m f).0 (h ∙ ap (λ x. Some x) q) in
            rw (none, at, c) refl

    open_clear : (b : Bool) → clears N f ≡ b → cond b None (unless_put N (D.held f)) ≡ Some m → (full D N).place m ≡ Spot.Register f
    open_clear true c e = cc
    open_clear false c e = stayed (D.held f) refl c e

    go : (o : Option NodeId) → put_in N f ≡ o → option_or o (cond (clears N f) None (unless_put N (D.held f))) ≡ Some m → (full D N).place m ≡ Spot.Register f
    go (Some x) h e =
        let q : x ≡ m = cc in
        let p = has-put N w (record { node = m; to = To.Register f }) (put_in-has N f m (h ∙ ap (λ x. Some x) q)) in
        rw p refl
    go None h e = open_clear (clears N f) refl e

pub full_one_held : (D : Document) (N : Intent) → HoldsWhatIsPlaced D → IsIntent N → HoldsWhatIsPlaced (full D N)
full_one_held D N one w m f = (held_is_placed D N one w m f, placed_is_held D N one w m f)

-- two documents with the same places hold the same
pub same_held : (D E : Document) → HoldsWhatIsPlaced D → HoldsWhatIsPlaced E → ((n : NodeId) → D.place n ≡ E.place n) → (f : FieldId) → D.held f ≡ E.held f
same_held D E d e same f = go (D.held f) refl (E.held f) refl
  where
    go : (o : Option NodeId) → D.held f ≡ o → (p : Option NodeId) → E.held f ≡ p → D.held f ≡ E.held f
    go None h None k = h ∙ sym k
    go (Some m) h p k = h ∙ sym ((e m f).1 (sym (same m) ∙ (d m f).0 h))
    go None h (Some m) k = (d m f).1 (same m ∙ (e m f).0 k) ∙ sym k

abbrev pub IsRegister : Document → NodeId → FieldId → Type 0
IsRegister D m f = IsSome (D.nodes m) × IsSome (D.nodes f.node) × (f.key.0 ≢ [])

-- a register that is filled is known, and has a key
pub known_put_in : (D : Document) (N : Intent) → Fits D N → IsSoundInForm D → (m : NodeId) (r : FieldId) → put_in N r ≡ Some m → IsRegister (with_names D N) m r
known_put_in D N f s m r h =
    let i = put_in-has N r m h in
    let p = known_put D N f m (To.Register r) (has-put N f.itself _ i) in
    let c = clears-has N.clear r (put_clears N f.itself m r i) in
    (known_after D N s f m p.0, known_after D N s f r.node p.2, all-has (λ (f : FieldId). f.key.0 ≢ []) N.clear r f.itself.register_keys c)

pub old_register : (D : Document) (N : Intent) → Fits D N → IsSoundInForm D → (m : NodeId) (r : FieldId) → D.held r ≡ Some m → IsRegister (with_names D N) m r
old_register D N f s m r h = let k = s.held_known m r h in (known_after D N s f m (inr k.0), known_after D N s f r.node (inr k.1), s.register_key m r h)

held_register : (D : Document) (N : Intent) → Fits D N → IsSoundInForm D → (m : NodeId) (r : FieldId) → (full D N).held r ≡ Some m → IsRegister (with_names D N) m r
held_register D N f s m r e = go (put_in N r) refl e
  where
    kept : (o : Option NodeId) → D.held r ≡ o → unless_put N o ≡ Some m → D.held r ≡ Some m
    kept None h e = cc
    kept (Some x) h e = elim (is_some (put_of N x)) as (λ b. cond b None (Some x) ≡ Some m → D.held r ≡ Some m) [ true ↦ λ e. cc | false ↦ λ e. h ∙ e ] e

    open_clear : (b : Bool) → cond b None (unless_put N (D.held r)) ≡ Some m → IsRegister (with_names D N) m r
    open_clear true e = cc
    open_clear false e = old_register D N f s m r (kept (D.held r) refl e)

    go : (o : Option NodeId) → put_in N r ≡ o → option_or o (cond (clears N r) None (unless_put N (D.held r))) ≡ Some m → IsRegister (with_names D N) m r
    go None h e = open_clear (clears N r) e
    go (Some x) h e = known_put_in D N f s m r (h ∙ e)

-- ## Places in rows, and rings

place_in_row : (D : Document) (N : Intent) → IsSoundInForm D → Fits D N → (m n : NodeId) (c : CellId) → (full D N).place m ≡ Spot.Row n c → Has ((with_names D N).rows n) (owned_cell c m)
place_in_row D N s f m n c e = go (put_of N m) refl e
  where
    go : (o : Option To) → put_of N m ≡ o → place_after (with_names D N).row_of N o (D.place m) ≡ Spot.Row n c → Has ((with_names D N).rows n) (owned_cell c m)
    go None h e = old_cell D N s f n _ (s.own_cell m n c (unless_cleared-row N (D.place m) n c e))
    go (Some to) h e =
        let t = put_to_cell (with_names D N).row_of to n c e in
        owns_in_row D N s f m n c (known_put D N f m (To.Cell c) (h ∙ ap (λ t. Some t) t.0)).1 t.1

-- a node that isn't put stays below the same node, or goes nowhere
pub unput_above : (D : Document) (N : Intent) (n : NodeId) → put_of N n ≡ None → (above (full D N) n ≡ None) ⊎ (above (full D N) n ≡ above D n)
unput_above D N n e = rw e (up (D.place n))
  where
    up : (t : Spot) → (node_of (unless_cleared N t) ≡ None) ⊎ (node_of (unless_cleared N t) ≡ node_of t)
    up Spot.Nowhere = inl refl
    up (Spot.Row n c) = inr refl
    up (Spot.Register f) = elim (clears N f) as (λ b. (node_of (cond b Spot.Nowhere (Spot.Register f)) ≡ None) ⊎ (node_of (cond b Spot.Nowhere (Spot.Register f)) ≡ Some f.node)) [ true ↦ inl refl | false ↦ inr refl ]

full_no_ring : (D : Document) (N : Intent) → IsSoundInForm D → ((p : NodeId) → IsSome (put_of N p) → IsAncestor (full D N) p p → ⊥) → (n : NodeId) → ClimbsToAnEnd (above (full D N)) n
full_no_ring D N s sound = no_ring_made (above (full D N)) (above D) (λ n. is_some (put_of N n)) follows s.no_ring (λ p h k e. sound p h (k, e)) (map (λ (p : Put). p.node) N.put) listed
  where
    follows : (n : NodeId) → is_some (put_of N n) ≡ false → (above (full D N) n ≡ None) ⊎ (above (full D N) n ≡ above D n)
    follows n e = unput_above D N n (go (put_of N n) e)
      where
        go : (o : Option To) → is_some o ≡ false → o ≡ None
        go (Some to) e = cc
        go None e = refl

    listed : (q : NodeId) → is_some (put_of N q) ≡ true → Has (map (λ (p : Put). p.node) N.put) q
    listed q e = go (put_of N q) refl e
      where
        go : (o : Option To) → put_of N q ≡ o → is_some o ≡ true → Has (map (λ (p : Put). p.node) N.put) q
        go None h e = cc
        go (Some to) h e = map-has (λ (p : Put). p.node) N.put (record { node = q; to = to }) (put-has N q to h)

-- ## Schemas

begun_more : (es : List SchemaEntry) (e : SchemaEntry) → first_of (revs es) ≡ Some opening → first_of (revs (es ++ e ∷ [])) ≡ Some opening
begun_more [] e h = cc
begun_more (d ∷ es) e h = h

same_first : (es : List SchemaEntry) (e : SchemaEntry) → first_of (revs es) ≡ Some opening → first_of es ≡ first_of (es ++ e ∷ [])
same_first [] e h = cc
same_first (d ∷ es) e h = refl

with_schema_in_effect : (N : Intent) (es : List SchemaEntry) (o : Option (List ℕ)) → CanBeInEffect es → IfSome o (λ _. AllByRecursion (λ (e : SchemaEntry). e.rev ≢ N.rev) es) → CanBeInEffect (with_schema N o es) × (first_of es ≡ first_of (with_schema N o es))
with_schema_in_effect N es None a h = (a, refl)
with_schema_in_effect N es (Some t) a h =
    let e : SchemaEntry = record { rev = N.rev; text = t } in (
      record {
        begun = begun_more es e a.begun;
        once = distinct-append (λ (e : SchemaEntry). e.rev) es (e ∷ []) a.once (tt, tt) (λ x y i j. elim j [ inl q ↦ (λ p. all-has (λ (e : SchemaEntry). e.rev ≢ N.rev) es x h i (sym p ∙ ap (λ (e : SchemaEntry). e.rev) (sym q))) | inr q ↦ absurd q ]);
      },
      same_first es e a.begun,
    )

-- ## Together

module _ (D : Document) (N : Intent) (s : IsSoundInForm D) (f : Fits D N) (short : (n : NodeId) → length ((full D N).rows n) < 2 ^ 32) (sound : (p : NodeId) → IsSome (put_of N p) → IsAncestor (full D N) p p → ⊥) where
  pub full_sound : IsSoundInForm (full D N)
  full_sound = record {
    root_known = known_after D N s f root (inr s.root_known);
    root_nowhere = rw (f.itself.root_stays, s.root_nowhere) refl;
    one_row = one_row_each D N s f;
    once = rows_once D N s f;
    short = short;
    own_cell = place_in_row D N s f;
    one_held = full_one_held D N s.one_held f.itself;
    cells_known = λ n o h. ((row_cells D N s f n o h).1, (row_cells D N s f n o h).2);
    held_known = λ m r e. ((held_register D N f s m r e).0, (held_register D N f s m r e).1);
    register_key = λ m r e. (held_register D N f s m r e).2;
    no_ring = full_no_ring D N s sound;
    in_effect = (with_schema_in_effect N D.schemas N.schema s.in_effect f.fresh_schema).0;
  }

  pub full_extends : IsExtendedBy D (full D N)
  full_extends = record {
    before = s;
    after = full_sound;
    nodes = λ n k e. rw e refl;
    rows = rows_grow D N;
    first_schema = (with_schema_in_effect N D.schemas N.schema s.in_effect f.fresh_schema).1;
  }
