-- Which names a seed has, and which it hasn't.
use Rattle.std.proofs.Common.{◌≡◌, ◌≢◌, ℕ, Bool, true, false, not, List, [], ◌∷◌, map, length, Option, Some, None, IsSome, cond, refl, sym, ap, ◌∙◌, subst, inl, inr, ◌⊎◌}
use Rattle.std.specs.Option.{option_map_or, option_or}
use Rattle.std.specs.List.{filter, find}
use Rattle.st_ids.specs.Listing.{Has}
use Rattle.st_ids.specs.Order.{same_node}
use Rattle.st_ids.specs.Root.{root}
use Rattle.st_ids.specs.declared.names.CellId.{CellId}
use Rattle.st_ids.specs.declared.names.NodeId.{NodeId}
use Rattle.st_marks.specs.declared.intents.Owned.{Owned}
use Rattle.st_marks.specs.declared.places.Slot.{Slot}
use Rattle.st_marks.specs.Document.{owned_cell}
use Rattle.st_marks.specs.Embedding.{is_among}
use Rattle.st_marks.specs.Listings.{CellView}
use Rattle.st_marks.proofs.Members.{append_left, first-has, has-append, has-flat_map, has-map}
use Rattle.st_ids.proofs.Shared.{filtered}
use Rattle.st_normal.proofs.NoRings.{among_has}
use Rattle.st_normal_laws.specs.Laid.{LaidRow, cells_at, laid_document, owned_at}
use Rattle.st_normal_laws.specs.Seed.{CanBeFound, Finds, FoundRow, IsBelow, cells_named, fresh_node, lay, lay_row, owners_laid, seed}
use Rattle.st_normal_laws.specs.Two.{cells_of_both, cells_of_row, joined_row, lists_row, rows_of_both}
use Rattle.st_normal_laws.proofs.LaidSound.{cell_found}
use Rattle.st_normal_laws.proofs.SeedSound.{cell_is, fresh-not, seed_layout, seed_sound}

-- ## Owners that are told

-- one of the cells is told to be this node's
abbrev pub IsOwnerTold : List CellView → NodeId → Type 0
IsOwnerTold xs n = (v : CellView) × Has xs v × (v.node ≡ Some n)

-- who owns a laid cell is told, is the root, or has a fresh name
lay-owner : (F : ℕ) (n : NodeId) (xs : List CellView) (s : Slot) → Has (lay F n xs) s → IsOwnerTold xs s.node ⊎ (s.node ≡ root) ⊎ ((k : ℕ) × (s.node ≡ fresh_node F n k))
lay-owner F n [] s h = absurd h
lay-owner F n (x ∷ xs) s (inl e) = go x.node refl x.full
    (ap (λ (t : Slot). t.node) (sym e))
  where
    go : (o : Option NodeId) → x.node ≡ o → (b : Bool) → s.node ≡ option_map_or (λ (m : NodeId). m) x.node (cond b (fresh_node F n (length xs)) root)
        → IsOwnerTold (x ∷ xs) s.node ⊎ (s.node ≡ root) ⊎ ((k : ℕ) × (s.node ≡ fresh_node F n k))
    go (Some m) q b e = inl (x, inl refl, q ∙ ap (λ m. Some m) (sym (e ∙ ap (λ o. option_map_or (λ (m : NodeId). m) o (cond b (fresh_node F n (length xs)) root)) q)))
    go None q true e = inr (inr (length xs, e ∙ ap (λ o. option_map_or (λ (m : NodeId). m) o (fresh_node F n (length xs))) q))
    go None q false e = inr (inl (e ∙ ap (λ o. option_map_or (λ (m : NodeId). m) o root) q))
lay-owner F n (x ∷ xs) s (inr h) = elim (lay-owner F n xs s h) [ inl r ↦ inl (r.0, inr r.1, r.2) | inr a ↦ inr a ]

-- whom the rows of two tell, one of the two tells
both-told : (xs ys : List CellView) (n : NodeId) → IsOwnerTold (cells_of_both xs ys) n → IsOwnerTold xs n ⊎ IsOwnerTold ys n
both-told [] ys n (v, h, e) = absurd h
both-told (x ∷ xs) [] n r = inl r
both-told (x ∷ xs) (y ∷ ys) n (v, inl q, e) = go x.node refl (ap (λ (z : CellView). z.node) q ∙ e)
  where
    go : (o : Option NodeId) → x.node ≡ o → option_or x.node y.node ≡ Some n → IsOwnerTold (x ∷ xs) n ⊎ IsOwnerTold (y ∷ ys) n
    go None f e = inr (y, inl refl, ap (λ o. option_or o y.node) (sym f) ∙ e)
    go (Some m) f e = inl (x, inl refl, f ∙ ap (λ o. option_or o y.node) (sym f) ∙ e)
both-told (x ∷ xs) (y ∷ ys) n (v, inr h, e) = elim (both-told xs ys n (v, h, e)) [
  | inl r ↦ inl (r.0, inr r.1, r.2)
  | inr r ↦ inr (r.0, inr r.1, r.2)
]

abbrev pub IsToldIn : List FoundRow → NodeId → Type 0
IsToldIn rows n = (r : FoundRow) × Has rows r × IsOwnerTold r.cells n

pub rows-told : (ps qs : List FoundRow) (n : NodeId) → IsToldIn (rows_of_both ps qs) n → IsToldIn ps n ⊎ IsToldIn qs n
rows-told ps qs n (r, h, t) = elim (has-append (map (joined_row qs) ps) (filter (λ (r : FoundRow). not (lists_row ps r.node)) qs) r h) [
  | inl i ↦ (let p = has-map (joined_row qs) ps r i in
      elim (both-told p.0.cells (cells_of_row qs p.0.node) n (subst (λ (r : FoundRow). IsOwnerTold r.cells n) (sym p.2) t)) [
        | inl u ↦ inl (p.0, p.1, u)
        | inr u ↦ inr (other p.0.node u)
      ])
  | inr i ↦ inr (r, (filtered (λ (r : FoundRow). not (lists_row ps r.node)) qs r i).0, t)
]
  where
    other : (k : NodeId) → IsOwnerTold (cells_of_row qs k) n → IsToldIn qs n
    other k u = go (find (λ (r : FoundRow). same_node r.node k) qs) refl u
      where
        go : (o : Option FoundRow) → find (λ (r : FoundRow). same_node r.node k) qs ≡ o → IsOwnerTold (option_map_or (λ (r : FoundRow). r.cells) o []) n → IsToldIn qs n
        go None e u = absurd u.1
        go (Some q) e u = (q, (first-has (λ (r : FoundRow). same_node r.node k) qs q e).0, u)

-- ## Nodes

module _ (F : ℕ) (W : Finds) where
  pub seed-knows : (n : NodeId) → Has W.known n → IsSome ((laid_document (seed F W)).nodes n)
  seed-knows n h = rw ((among_has (root ∷ (seed F W).known) n).1 (inr (append_left W.known (owners_laid F W.rows) n h))) refl

  pub seed-lacks : (n : NodeId) → IsBelow F n.0 → n ≢ root → (Has W.known n → ⊥) → (IsToldIn W.rows n → ⊥) → (laid_document (seed F W)).nodes n ≡ None
  seed-lacks n below unroot unknown untold = go (is_among (root ∷ (seed F W).known) n) refl
    where
      absent : Has (root ∷ (seed F W).known) n → ⊥
      absent (inl e) = unroot (sym e)
      absent (inr i) = elim (has-append W.known (owners_laid F W.rows) n i) [
        | inl j ↦ unknown j
        | inr j ↦ (let r = has-flat_map (λ (r : FoundRow). map (λ (s : Slot). s.node) (lay F r.node r.cells)) W.rows n j in
            let s = has-map (λ (s : Slot). s.node) (lay F r.0.node r.0.cells) n r.2 in
            elim (lay-owner F r.0.node r.0.cells s.0 s.1) [
              | inl t ↦ untold (r.0, r.1, subst (IsOwnerTold r.0.cells) s.2 t)
              | inr a ↦ elim a [ inl e ↦ unroot (sym s.2 ∙ e) | inr k ↦ fresh-not F r.0.node k.0 n.0 below (ap (λ (n : NodeId). n.0) (sym s.2 ∙ k.1)) ]
            ])
      ]

      go : (b : Bool) → is_among (root ∷ (seed F W).known) n ≡ b → (laid_document (seed F W)).nodes n ≡ None
      go false e = rw e refl
      go true e = absurd (absent ((among_has (root ∷ (seed F W).known) n).0 e))

-- ## Cells

pub seed-lacks_cell : (F : ℕ) (W : Finds) (w : CanBeFound F W) (c : CellId) → IsBelow F c.0 → ((r : FoundRow) → Has W.rows r → Has (cells_named r.cells) c → ⊥) → (laid_document (seed F W)).row_of c ≡ None
seed-lacks_cell F W w c below unnamed = go ((laid_document (seed F W)).row_of c) refl
  where
    bad : (r : FoundRow) → Has W.rows r → (s : Slot) → Has (lay F r.node r.cells) s → s.cell ≡ c → ⊥
    bad r i s j e = elim (cell_is F r.node r.cells s j) [
      | inl a ↦ unnamed r i (subst (Has (cells_named r.cells)) e a)
      | inr k ↦ fresh-not F r.node k.0 c.0 below (ap (λ (c : CellId). c.0) (sym e ∙ k.2))
    ]

    go : (q : Option NodeId) → (laid_document (seed F W)).row_of c ≡ q → (laid_document (seed F W)).row_of c ≡ None
    go None e = e
    go (Some n) e =
        let o = ((seed_sound F W w).one_row c n).0 e in
        let s = has-map owned_at (cells_at (seed F W).rows n) (owned_cell c o.0) o.1 in
        let r = cell_found (seed F W) (seed_layout F W w) n s.0 s.1 in
        let f = has-map (lay_row F) W.rows r.0 r.1 in
        absurd (bad f.0 f.1 s.0 (subst (λ (l : LaidRow). Has l.cells s.0) (sym f.2) r.2) (ap (λ (o : Owned). o.cell) s.2))
