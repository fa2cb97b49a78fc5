-- What the intent of a change mentions is exactly what the change lists as mentioned.
use Rattle.std.proofs.Common.{◌≡◌, ◌++◌, Bool, true, false, List, [], ◌∷◌, Some, None, cond, refl, sym, ap, ◌∙◌, subst, inl, inr, ◌⊎◌}
use Rattle.st_ids.specs.Listing.{Has}
use Rattle.st_ids.specs.declared.names.CellId.{CellId}
use Rattle.st_ids.specs.declared.names.NodeId.{NodeId}
use Rattle.st_marks.specs.declared.intents.Group.{Group}
use Rattle.st_marks.specs.declared.intents.Owned.{Owned}
use Rattle.st_marks.specs.declared.intents.Put.{Put}
use Rattle.st_marks.specs.declared.intents.To.{To}
use Rattle.st_normal.specs.declared.entries.Found.{Found}
use Rattle.st_marks.specs.declared.marks.How.{How}
use Rattle.st_marks.specs.declared.marks.How.TheVariants.{Stay, Here, Leave}
use Rattle.st_marks.specs.declared.places.Slot.{Slot}
use Rattle.st_marks.specs.Document.{owned_cell}
use Rattle.st_marks.specs.Row.{CellMark, Counted, Gap, Touch, Make, Fill}
use Rattle.st_marks.specs.How.{is_here, is_stay, is_leave}
use Rattle.st_normal.specs.Rules.{incoming_nodes, staying_nodes}
use Rattle.st_marks.specs.Listings.{cells_before}
use Rattle.st_marks.proofs.Members.{append_right}
use Rattle.st_puts.specs.Seen.{AreAsSeen}
use Rattle.st_puts.specs.ChangeMentions.{moving_nodes}
use Rattle.st_puts.specs.Meant.{along, group_of, groups_along, leaving_nodes, made_first, put_to, row_puts}

-- ## Lists

pub moving-has : (fs : List Found) (n : NodeId) → Has (moving_nodes fs) n → (f : Found) × Has fs f × (f.node ≡ n) × (is_stay f.how ≡ false)
moving-has [] n h = absurd h
moving-has (f ∷ fs) n h = go (is_stay f.how) refl (λ i. moving-has fs n i) h
  where
    go : (b : Bool) → is_stay f.how ≡ b → (Has (moving_nodes fs) n → (g : Found) × Has fs g × (g.node ≡ n) × (is_stay g.how ≡ false)) → Has (cond b (moving_nodes fs) (f.node ∷ moving_nodes fs)) n → (g : Found) × Has (f ∷ fs) g × (g.node ≡ n) × (is_stay g.how ≡ false)
    go true e rest i = let r = rest i in (r.0, inr r.1, r.2, r.3)
    go false e rest (inl q) = (f, inl refl, q, e)
    go false e rest (inr i) = let r = rest i in (r.0, inr r.1, r.2, r.3)

pub has-moving : (fs : List Found) (f : Found) → Has fs f → is_stay f.how ≡ false → Has (moving_nodes fs) f.node
has-moving [] f h e = absurd h
has-moving (g ∷ fs) f (inl q) e = subst (λ b. Has (cond b (moving_nodes fs) (g.node ∷ moving_nodes fs)) f.node) (sym (ap (λ (f : Found). is_stay f.how) q ∙ e)) (inl (ap (λ (f : Found). f.node) q))
has-moving (g ∷ fs) f (inr h) e = elim (is_stay g.how) as (λ b. Has (cond b (moving_nodes fs) (g.node ∷ moving_nodes fs)) f.node) [ true ↦ has-moving fs f h e | false ↦ inr (has-moving fs f h e) ]

pub has-staying : (fs : List Found) (f : Found) → Has fs f → is_stay f.how ≡ true → Has (staying_nodes fs) f.node
has-staying [] f h e = absurd h
has-staying (g ∷ fs) f (inl q) e = subst (λ b. Has (cond b (g.node ∷ staying_nodes fs) (staying_nodes fs)) f.node) (sym (ap (λ (f : Found). is_stay f.how) q ∙ e)) (inl (ap (λ (f : Found). f.node) q))
has-staying (g ∷ fs) f (inr h) e = elim (is_stay g.how) as (λ b. Has (cond b (g.node ∷ staying_nodes fs) (staying_nodes fs)) f.node) [ true ↦ inr (has-staying fs f h e) | false ↦ has-staying fs f h e ]

pub has-leaving : (fs : List Found) (f : Found) → Has fs f → is_leave f.how ≡ true → Has (leaving_nodes fs) f.node
has-leaving [] f h e = absurd h
has-leaving (g ∷ fs) f (inl q) e = subst (λ b. Has (cond b (g.node ∷ leaving_nodes fs) (leaving_nodes fs)) f.node) (sym (ap (λ (f : Found). is_leave f.how) q ∙ e)) (inl (ap (λ (f : Found). f.node) q))
has-leaving (g ∷ fs) f (inr h) e = elim (is_leave g.how) as (λ b. Has (cond b (g.node ∷ leaving_nodes fs) (leaving_nodes fs)) f.node) [ true ↦ inr (has-leaving fs f h e) | false ↦ has-leaving fs f h e ]

pub leaving-has : (fs : List Found) (n : NodeId) → Has (leaving_nodes fs) n → (f : Found) × Has fs f × (f.node ≡ n) × (is_leave f.how ≡ true)
leaving-has [] n h = absurd h
leaving-has (f ∷ fs) n h = go (is_leave f.how) refl (λ i. leaving-has fs n i) h
  where
    go : (b : Bool) → is_leave f.how ≡ b → (Has (leaving_nodes fs) n → (g : Found) × Has fs g × (g.node ≡ n) × (is_leave g.how ≡ true)) → Has (cond b (f.node ∷ leaving_nodes fs) (leaving_nodes fs)) n → (g : Found) × Has (f ∷ fs) g × (g.node ≡ n) × (is_leave g.how ≡ true)
    go false e rest i = let r = rest i in (r.0, inr r.1, r.2, r.3)
    go true e rest (inl q) = (f, inl refl, q, e)
    go true e rest (inr i) = let r = rest i in (r.0, inr r.1, r.2, r.3)

-- ## Puts by the marks

pub row_put-has : (ms : List CellMark) (p : Put) → Has (row_puts ms) p → (c : CellId) × (p.to ≡ To.Cell c) × (Has ms (Touch c p.node Here) ⊎ Has ms (Make c p.node true) ⊎ Has ms (Fill c p.node))
row_put-has [] p i = absurd i
row_put-has (Counted ∷ ms) p i = let r = row_put-has ms p i in (r.0, r.1, elim r.2 [ inl a ↦ inl (inr a) | inr b ↦ elim b [ inl a ↦ inr (inl (inr a)) | inr a ↦ inr (inr (inr a)) ] ])
row_put-has (Gap c ∷ ms) p i = let r = row_put-has ms p i in (r.0, r.1, elim r.2 [ inl a ↦ inl (inr a) | inr b ↦ elim b [ inl a ↦ inr (inl (inr a)) | inr a ↦ inr (inr (inr a)) ] ])
row_put-has (Touch c n h ∷ ms) p i = go h refl (λ i. row_put-has ms p i) i
  where
    more : ((d : CellId) × (p.to ≡ To.Cell d) × (Has ms (Touch d p.node Here) ⊎ Has ms (Make d p.node true) ⊎ Has ms (Fill d p.node)))
        → ((d : CellId) × (p.to ≡ To.Cell d) × (Has (Touch c n h ∷ ms) (Touch d p.node Here) ⊎ Has (Touch c n h ∷ ms) (Make d p.node true) ⊎ Has (Touch c n h ∷ ms) (Fill d p.node)))
    more r = (r.0, r.1, elim r.2 [ inl a ↦ inl (inr a) | inr b ↦ elim b [ inl a ↦ inr (inl (inr a)) | inr a ↦ inr (inr (inr a)) ] ])

    go : (g : How) → h ≡ g → (Has (row_puts ms) p → (d : CellId) × (p.to ≡ To.Cell d) × (Has ms (Touch d p.node Here) ⊎ Has ms (Make d p.node true) ⊎ Has ms (Fill d p.node)))
        → Has (cond (is_here g) (put_to n (To.Cell c) ∷ row_puts ms) (row_puts ms)) p
        → ((d : CellId) × (p.to ≡ To.Cell d) × (Has (Touch c n h ∷ ms) (Touch d p.node Here) ⊎ Has (Touch c n h ∷ ms) (Make d p.node true) ⊎ Has (Touch c n h ∷ ms) (Fill d p.node)))
    go Stay e rest i = more (rest i)
    go Leave e rest i = more (rest i)
    go Here e rest (inl q) = (c, ap (λ (p : Put). p.to) (sym q), inl (inl (λ i. Touch c (q i).node (e i))))
    go Here e rest (inr i) = more (rest i)
row_put-has (Make c n b ∷ ms) p i = go b refl (λ i. row_put-has ms p i) i
  where
    more : ((d : CellId) × (p.to ≡ To.Cell d) × (Has ms (Touch d p.node Here) ⊎ Has ms (Make d p.node true) ⊎ Has ms (Fill d p.node)))
        → ((d : CellId) × (p.to ≡ To.Cell d) × (Has (Make c n b ∷ ms) (Touch d p.node Here) ⊎ Has (Make c n b ∷ ms) (Make d p.node true) ⊎ Has (Make c n b ∷ ms) (Fill d p.node)))
    more r = (r.0, r.1, elim r.2 [ inl a ↦ inl (inr a) | inr b ↦ elim b [ inl a ↦ inr (inl (inr a)) | inr a ↦ inr (inr (inr a)) ] ])

    go : (g : Bool) → b ≡ g → (Has (row_puts ms) p → (d : CellId) × (p.to ≡ To.Cell d) × (Has ms (Touch d p.node Here) ⊎ Has ms (Make d p.node true) ⊎ Has ms (Fill d p.node)))
        → Has (cond g (put_to n (To.Cell c) ∷ row_puts ms) (row_puts ms)) p
        → ((d : CellId) × (p.to ≡ To.Cell d) × (Has (Make c n b ∷ ms) (Touch d p.node Here) ⊎ Has (Make c n b ∷ ms) (Make d p.node true) ⊎ Has (Make c n b ∷ ms) (Fill d p.node)))
    go false e rest i = more (rest i)
    go true e rest (inl q) = (c, ap (λ (p : Put). p.to) (sym q), inr (inl (inl (λ i. Make c (q i).node (e i)))))
    go true e rest (inr i) = more (rest i)
row_put-has (Fill c n ∷ ms) p (inl q) = (c, ap (λ (p : Put). p.to) (sym q), inr (inr (inl (λ i. Fill c (q i).node))))
row_put-has (Fill c n ∷ ms) p (inr i) = let r = row_put-has ms p i in (r.0, r.1, elim r.2 [ inl a ↦ inl (inr a) | inr b ↦ elim b [ inl a ↦ inr (inl (inr a)) | inr a ↦ inr (inr (inr a)) ] ])

pub here-put : (ms : List CellMark) (c : CellId) (n : NodeId) → Has ms (Touch c n Here) → Has (row_puts ms) (put_to n (To.Cell c))
here-put [] c n i = absurd i
here-put (Counted ∷ ms) c n (inl q) = cc
here-put (Counted ∷ ms) c n (inr i) = here-put ms c n i
here-put (Gap d ∷ ms) c n (inl q) = cc
here-put (Gap d ∷ ms) c n (inr i) = here-put ms c n i
here-put (Touch d m h ∷ ms) c n (inl q) = let a : d ≡ c = cc in let b : m ≡ n = cc in let e : h ≡ Here = cc in subst (λ g. Has (cond (is_here g) (put_to m (To.Cell d) ∷ row_puts ms) (row_puts ms)) (put_to n (To.Cell c))) (sym e) (inl (λ i. put_to (b i) (To.Cell (a i))))
here-put (Touch d m h ∷ ms) c n (inr i) = elim (is_here h) as (λ b. Has (cond b (put_to m (To.Cell d) ∷ row_puts ms) (row_puts ms)) (put_to n (To.Cell c))) [ true ↦ inr (here-put ms c n i) | false ↦ here-put ms c n i ]
here-put (Make d m b ∷ ms) c n (inl q) = cc
here-put (Make d m b ∷ ms) c n (inr i) = elim b as (λ b. Has (cond b (put_to m (To.Cell d) ∷ row_puts ms) (row_puts ms)) (put_to n (To.Cell c))) [ true ↦ inr (here-put ms c n i) | false ↦ here-put ms c n i ]
here-put (Fill d m ∷ ms) c n (inl q) = cc
here-put (Fill d m ∷ ms) c n (inr i) = inr (here-put ms c n i)

pub fill-put : (ms : List CellMark) (c : CellId) (n : NodeId) → Has ms (Fill c n) → Has (row_puts ms) (put_to n (To.Cell c))
fill-put [] c n i = absurd i
fill-put (Counted ∷ ms) c n (inl q) = cc
fill-put (Counted ∷ ms) c n (inr i) = fill-put ms c n i
fill-put (Gap d ∷ ms) c n (inl q) = cc
fill-put (Gap d ∷ ms) c n (inr i) = fill-put ms c n i
fill-put (Touch d m h ∷ ms) c n (inl q) = cc
fill-put (Touch d m h ∷ ms) c n (inr i) = elim (is_here h) as (λ b. Has (cond b (put_to m (To.Cell d) ∷ row_puts ms) (row_puts ms)) (put_to n (To.Cell c))) [ true ↦ inr (fill-put ms c n i) | false ↦ fill-put ms c n i ]
fill-put (Make d m b ∷ ms) c n (inl q) = cc
fill-put (Make d m b ∷ ms) c n (inr i) = elim b as (λ b. Has (cond b (put_to m (To.Cell d) ∷ row_puts ms) (row_puts ms)) (put_to n (To.Cell c))) [ true ↦ inr (fill-put ms c n i) | false ↦ fill-put ms c n i ]
fill-put (Fill d m ∷ ms) c n (inl q) = let a : d ≡ c = cc in let b : m ≡ n = cc in inl (λ i. put_to (b i) (To.Cell (a i)))
fill-put (Fill d m ∷ ms) c n (inr i) = inr (fill-put ms c n i)

pub incoming-put : (ms : List CellMark) (n : NodeId) → Has (incoming_nodes ms) n → (c : CellId) × Has (row_puts ms) (put_to n (To.Cell c))
incoming-put [] n i = absurd i
incoming-put (Counted ∷ ms) n i = incoming-put ms n i
incoming-put (Gap d ∷ ms) n i = incoming-put ms n i
incoming-put (Touch d m h ∷ ms) n i = let r = incoming-put ms n i in (r.0, elim (is_here h) as (λ b. Has (cond b (put_to m (To.Cell d) ∷ row_puts ms) (row_puts ms)) (put_to n (To.Cell r.0))) [ true ↦ inr r.1 | false ↦ r.1 ])
incoming-put (Make d m true ∷ ms) n (inl q) = (d, inl (ap (λ m. put_to m (To.Cell d)) q))
incoming-put (Make d m true ∷ ms) n (inr i) = let r = incoming-put ms n i in (r.0, inr r.1)
incoming-put (Make d m false ∷ ms) n i = incoming-put ms n i
incoming-put (Fill d m ∷ ms) n (inl q) = (d, inl (ap (λ m. put_to m (To.Cell d)) q))
incoming-put (Fill d m ∷ ms) n (inr i) = let r = incoming-put ms n i in (r.0, inr r.1)

-- a row that makes a cell has a group
next_made : (n : NodeId) (s : Slot) (c : List Slot) (ms : List CellMark) (d : CellId) (m : NodeId) → (Has (made_first ms) (owned_cell d m) ⊎ ((g : Group) × Has (groups_along n (along c ms)) g × (g.node ≡ n) × Has g.cells (owned_cell d m)))
    → (g : Group) × Has (group_of n (Some s.cell) (made_first ms) ++ groups_along n (along c ms)) g × (g.node ≡ n) × Has g.cells (owned_cell d m)
next_made n s c ms d m (inr g) = (g.0, append_right (group_of n (Some s.cell) (made_first ms)) (groups_along n (along c ms)) g.0 g.1, g.2, g.3)
next_made n s c ms d m (inl h) = go (made_first ms) h
  where
    go : (os : List Owned) → Has os (owned_cell d m) → (g : Group) × Has (group_of n (Some s.cell) os ++ groups_along n (along c ms)) g × (g.node ≡ n) × Has g.cells (owned_cell d m)
    go [] h = absurd h
    go (o ∷ os) h = (record { node = n; after = Some s.cell; cells = o ∷ os }, inl refl, refl, h)

pub along_made : (n : NodeId) (c : List Slot) (ms : List CellMark) (d : CellId) (m : NodeId) (b : Bool) → AreAsSeen c (cells_before ms) → Has ms (Make d m b)
    → Has (made_first ms) (owned_cell d m) ⊎ ((g : Group) × Has (groups_along n (along c ms)) g × (g.node ≡ n) × Has g.cells (owned_cell d m))
along_made n c [] d m b p i = absurd i
along_made n c (Make e k f ∷ ms) d m b p (inl q) = let x : e ≡ d = cc in let y : k ≡ m = cc in inl (inl (λ i. owned_cell (x i) (y i)))
along_made n c (Make e k f ∷ ms) d m b p (inr i) = elim (along_made n c ms d m b p i) [ inl h ↦ inl (inr h) | inr g ↦ inr g ]
along_made n [] (Counted ∷ ms) d m b p i = absurd p
along_made n (s ∷ c) (Counted ∷ ms) d m b p (inl q) = cc
along_made n (s ∷ c) (Counted ∷ ms) d m b p (inr i) = inr (next_made n s c ms d m (along_made n c ms d m b p.1 i))
along_made n [] (Gap e ∷ ms) d m b p i = absurd p
along_made n (s ∷ c) (Gap e ∷ ms) d m b p (inl q) = cc
along_made n (s ∷ c) (Gap e ∷ ms) d m b p (inr i) = inr (next_made n s c ms d m (along_made n c ms d m b p.1 i))
along_made n [] (Touch e k h ∷ ms) d m b p i = absurd p
along_made n (s ∷ c) (Touch e k h ∷ ms) d m b p (inl q) = cc
along_made n (s ∷ c) (Touch e k h ∷ ms) d m b p (inr i) = inr (next_made n s c ms d m (along_made n c ms d m b p.1 i))
along_made n [] (Fill e k ∷ ms) d m b p i = absurd p
along_made n (s ∷ c) (Fill e k ∷ ms) d m b p (inl q) = cc
along_made n (s ∷ c) (Fill e k ∷ ms) d m b p (inr i) = inr (next_made n s c ms d m (along_made n c ms d m b p.1 i))

pub row_made : (n : NodeId) (c : List Slot) (ms : List CellMark) (d : CellId) (m : NodeId) (b : Bool) → AreAsSeen c (cells_before ms) → Has ms (Make d m b)
    → (g : Group) × Has (group_of n None (made_first ms) ++ groups_along n (along c ms)) g × (g.node ≡ n) × Has g.cells (owned_cell d m)
row_made n c ms d m b p i = elim (along_made n c ms d m b p i) [
  | inl h ↦ go (made_first ms) h
  | inr g ↦ (g.0, append_right (group_of n None (made_first ms)) (groups_along n (along c ms)) g.0 g.1, g.2, g.3)
]
  where
    go : (os : List Owned) → Has os (owned_cell d m) → (g : Group) × Has (group_of n None os ++ groups_along n (along c ms)) g × (g.node ≡ n) × Has g.cells (owned_cell d m)
    go [] h = absurd h
    go (o ∷ os) h = (record { node = n; after = None; cells = o ∷ os }, inl refl, refl, h)
