-- Two intents that have one change in a document say the same.
use Rattle.std.proofs.Common.{◌≡◌, ◌≢◌, ◌↔◌, refl, sym, ap, ◌∙◌, subst, Bool, true, false, ◌||◌, List, [], ◌∷◌, Option, Some, None, IsSome, IfSome, IsTrue, inl, inr, if◌then◌else◌}
use Rattle.std.specs.List.{list_any}
use Rattle.st_ids.specs.Listing.{Has}
use Rattle.st_ids.specs.Order.{same_node}
use Rattle.st_ids.proofs.Orders.{same_cell-itself, same_node-true, same_node-itself, same_field-itself}
use Rattle.st_ids.specs.Root.{root}
use Rattle.st_ids.specs.declared.names.CellId.{CellId}
use Rattle.st_ids.specs.declared.names.FieldId.{FieldId}
use Rattle.st_ids.specs.declared.names.NodeId.{NodeId}
use Rattle.st_marks.specs.declared.changes.Change.{Change}
use Rattle.st_marks.specs.declared.intents.Group.{Group}
use Rattle.st_marks.specs.declared.intents.Intent.{Intent}
use Rattle.st_marks.specs.declared.intents.Owned.{Owned}
use Rattle.st_marks.specs.declared.intents.Put.{Put}
use Rattle.st_marks.specs.declared.intents.To.{To}
use Rattle.st_marks.specs.declared.marks.How.TheVariants.{Here, Leave}
use Rattle.st_marks.specs.declared.marks.Loose.{Loose}
use Rattle.st_marks.specs.declared.marks.RegMark.{RegMark}
use Rattle.st_marks.specs.declared.places.Slot.{Slot}
use Rattle.st_marks.specs.declared.places.Spot.{Spot}
use Rattle.st_marks.specs.Document.{Document, IsSoundInForm, content, is_cell, owned_cell, slot}
use Rattle.st_marks.specs.Embedding.{IsEmbedding, IsMentionedByIntent, embed_loose, is_among, is_loose, row_marks, row_part, register_part, tells}
use Rattle.st_marks.specs.How.{is_here}
use Rattle.st_marks.specs.Intent.{Fits, IsKnown, Owns, clears, group_at, group_cells, is_new, put_in, put_of, same_option}
use Rattle.st_marks.specs.Register.{comes_in, embed_register, holds_mentioned, how_held}
use Rattle.st_marks.specs.Row.{CellMark, Touch, Fill, embed_cell, embed_made, embed_row, how}
use Rattle.st_marks.proofs.Full.{known_put}
use Rattle.st_marks.proofs.Lookups.{group_at-group, group_found, has-put, put-has, put_clears, put_in-has, has-put_in}
use Rattle.st_marks.proofs.Members.{all-has, any-has, append_left, has-any, has-flat_map, map-has}
use Rattle.st_lemmas.proofs.Bools.{both-ways-same, or-left, or-right, refuted-false}
use Rattle.st_same_laws.specs.Same.{SaysTheSame}
use Rattle.st_same_laws.proofs.JoinsAndWaysBack.{says}
use Rattle.st_told.proofs.MarksOfARow.{AlikeAt, after_tells, cell_tells, cells_alike, empty_here, full_here, full_leave, here-put, leave-put, made_flags, made_same, rows_alike, split, start_tells}

-- two intents whose changes in a document list the same rows, registers and loose nodes
record Both (D : Document) (N M : Intent) : Type 0 where
  pub sound : IsSoundInForm D
  pub fit : Fits D N
  pub other_fit : Fits D M
  pub m : NodeId → Bool
  pub which : (n : NodeId) → (m n ≡ true) ↔ IsMentionedByIntent D N n
  pub k : NodeId → Bool
  pub other_which : (n : NodeId) → (k n ≡ true) ↔ IsMentionedByIntent D M n
  pub rows : (n : NodeId) → row_marks n (embed_row (row_part m N n) (content D n)) ≡ row_marks n (embed_row (row_part k M n) (content D n))
  pub regs : (f : FieldId) → embed_register f (register_part m N f) (D.held f) ≡ embed_register f (register_part k M f) (D.held f)
  pub loose : (n : NodeId) → embed_loose m D N n ≡ embed_loose k D M n

abbrev swapped : {D : Document} {N M : Intent} → Both D N M → Both D M N
swapped b = record {
  sound = b.sound;
  fit = b.other_fit;
  other_fit = b.fit;
  m = b.k;
  which = b.other_which;
  k = b.m;
  other_which = b.which;
  rows = λ n. sym (b.rows n);
  regs = λ f. sym (b.regs f);
  loose = λ n. sym (b.loose n);
}

-- ## Rows

same_row : {D : Document} {N M : Intent} (b : Both D N M) (n : NodeId) → list_any tells (embed_row (row_part b.m N n) (content D n)) ≡ true
    → embed_row (row_part b.m N n) (content D n) ≡ embed_row (row_part b.k M n) (content D n)
same_row {D} {N} {M} b n t = rows_alike n (embed_row (row_part b.m N n) (content D n)) (embed_row (row_part b.k M n) (content D n)) t (b.rows n)

same_at : {D : Document} {N M : Intent} (b : Both D N M) (n : NodeId) (s : Slot) → Has (content D n) s → list_any tells (embed_row (row_part b.m N n) (content D n)) ≡ true
    → AlikeAt (row_part b.m N n) (row_part b.k M n) s
same_at {D} {N} {M} b n s h t =
    cells_alike (row_part b.m N n) (row_part b.k M n) (content D n)
    (split (row_part b.m N n) (row_part b.k M n) (group_at N n None) (group_at M n None) (content D n) (same_row b n t)).1 s h

-- what is made at a row's start or after a cell
abbrev MadeAlike : {D : Document} {N M : Intent} → Both D N M → NodeId → Option CellId → Type 0
MadeAlike {D} {N} {M} b n a = embed_made (row_part b.m N n) (group_at N n a) ≡ embed_made (row_part b.k M n) (group_at M n a)

if_some : {A : Type 0} (o : Option A) (P : A → Type 0) (x : A) → o ≡ Some x → IfSome o P → P x
if_some o P x e h = rw e at h

-- a cell at which something is made is in the row
slot_at : {D : Document} {N : Intent} → IsSoundInForm D → Fits D N → (n : NodeId) (c : CellId) (o : Owned) → Has (group_at N n (Some c)) o → (s : Slot) × Has (content D n) s × (s.cell ≡ c)
slot_at {D} {N} sound fit n c o h =
    let g = group_at-group N n (Some c) o h in
    let known = all-has (λ (g : Group). IsKnown D N g.node × IfSome g.after (λ c. D.row_of c ≡ Some g.node)) N.groups g.group fit.groups_known g.listed in
    let row : D.row_of c ≡ Some n = if_some g.group.after (λ c. D.row_of c ≡ Some g.group.node) c g.after known.1 ∙ ap (λ n. Some n) g.node in
    let there = (sound.one_row c n).0 row in
    (slot D (owned_cell c there.0), map-has (slot D) (D.rows n) (owned_cell c there.0) there.1, refl)

made_start : {D : Document} {N M : Intent} (b : Both D N M) (n : NodeId) → MadeAlike b n None
made_start {D} {N} {M} b n = go (group_at N n None) (group_at M n None) refl refl
  where
    parts : list_any tells (embed_row (row_part b.m N n) (content D n)) ≡ true → MadeAlike b n None
    parts t = (split (row_part b.m N n) (row_part b.k M n) (group_at N n None) (group_at M n None) (content D n) (same_row b n t)).0

    parts_back : list_any tells (embed_row (row_part b.k M n) (content D n)) ≡ true → MadeAlike b n None
    parts_back t = sym (split (row_part b.k M n) (row_part b.m N n) (group_at M n None) (group_at N n None) (content D n) (same_row (swapped b) n t)).0

    go : (os ps : List Owned) → group_at N n None ≡ os → group_at M n None ≡ ps → MadeAlike b n None
    go [] [] e f = rw (e, f) refl
    go (o ∷ os) ps e f = parts (start_tells (row_part b.m N n) (content D n) o (rw e (inl refl)))
    go [] (o ∷ ps) e f = parts_back (start_tells (row_part b.k M n) (content D n) o (rw f (inl refl)))

made_after : {D : Document} {N M : Intent} (b : Both D N M) (n : NodeId) (c : CellId) → MadeAlike b n (Some c)
made_after {D} {N} {M} b n c = go (group_at N n (Some c)) (group_at M n (Some c)) refl refl
  where
    one : (o : Owned) → Has (group_at N n (Some c)) o → MadeAlike b n (Some c)
    one o h =
        let s = slot_at b.sound b.fit n c o h in
        let g : Has (group_at N n (Some s.0.cell)) o = subst (λ (a : CellId). Has (group_at N n (Some a)) o) (sym s.2) h in
        let alike = same_at b n s.0 s.1 (after_tells (row_part b.m N n) (content D n) s.0 o s.1 g) in
        subst (λ (a : CellId). MadeAlike b n (Some a)) s.2 alike.1

    other : (o : Owned) → Has (group_at M n (Some c)) o → MadeAlike b n (Some c)
    other o h =
        let s = slot_at b.sound b.other_fit n c o h in
        let g : Has (group_at M n (Some s.0.cell)) o = subst (λ (a : CellId). Has (group_at M n (Some a)) o) (sym s.2) h in
        let alike = same_at (swapped b) n s.0 s.1 (after_tells (row_part b.k M n) (content D n) s.0 o s.1 g) in
        sym (subst (λ (a : CellId). MadeAlike (swapped b) n (Some a)) s.2 alike.1)

    go : (os ps : List Owned) → group_at N n (Some c) ≡ os → group_at M n (Some c) ≡ ps → MadeAlike b n (Some c)
    go [] [] e f = rw (e, f) refl
    go (o ∷ os) ps e f = one o (rw e (inl refl))
    go [] (o ∷ ps) e f = other o (rw f (inl refl))

made_alike : {D : Document} {N M : Intent} (b : Both D N M) (n : NodeId) (a : Option CellId) → MadeAlike b n a
made_alike b n None = made_start b n
made_alike b n (Some c) = made_after b n c

group_same : {D : Document} {N M : Intent} (b : Both D N M) (n : NodeId) (a : Option CellId) → group_at N n a ≡ group_at M n a
group_same {D} {N} {M} b n a = made_same (row_part b.m N n) (row_part b.k M n) (group_at N n a) (group_at M n a) (made_alike b n a)

-- ## Puts into cells

is_mentioned : {D : Document} {N M : Intent} (b : Both D N M) (x : NodeId) (to : To) → put_of N x ≡ Some to → IsSome (D.nodes x) → b.m x ≡ true
is_mentioned {D} {N} b x to e there =
    (b.which x).1 (x, append_left _ _ x (append_left _ _ x (append_left _ _ x (append_left _ _ x (map-has (λ (p : Put). p.node) N.put (record { node = x; to = to }) (put-has N x to e))))), there, 0, refl)

old_cell : {D : Document} {N M : Intent} (b : Both D N M) (x : NodeId) (d : CellId) → put_of N x ≡ Some (To.Cell d) → (r : NodeId) → Has (D.rows r) (owned_cell d x) → put_of M x ≡ Some (To.Cell d)
old_cell {D} {N} {M} b x d e r h = by (is_cell d (D.place x)) refl
  where
    t : b.m x ≡ true
    t = is_mentioned b x (To.Cell d) e (b.sound.cells_known r (owned_cell d x) h).1

    there : Has (content D r) (slot D (owned_cell d x))
    there = map-has (slot D) (D.rows r) (owned_cell d x) h

    shows : (mark : CellMark) → embed_cell (row_part b.m N r) d x (is_cell d (D.place x)) ≡ mark → tells mark ≡ true → embed_cell (row_part b.k M r) d x (is_cell d (D.place x)) ≡ mark
    shows mark shown tell =
        let alike = same_at b r (slot D (owned_cell d x)) there (cell_tells (row_part b.m N r) (content D r) (slot D (owned_cell d x)) there (ap tells shown ∙ tell)) in
        sym alike.0 ∙ shown

    by : (f : Bool) → is_cell d (D.place x) ≡ f → put_of M x ≡ Some (To.Cell d)
    by true f =
        let other = shows (Touch d x Here) (rw (f, t, e, same_cell-itself d) refl) refl in
        here-put (put_of M x) (To.Cell d) (full_here (row_part b.k M r) d x (subst (λ (u : Bool). embed_cell (row_part b.k M r) d x u ≡ Touch d x Here) f other))
    by false f =
        let other = shows (Fill d x) (rw (f, e, same_cell-itself d) refl) refl in
        here-put (put_of M x) (To.Cell d) (empty_here (row_part b.k M r) d x (subst (λ (u : Bool). embed_cell (row_part b.k M r) d x u ≡ Fill d x) f other))

new_cell : {D : Document} {N M : Intent} (b : Both D N M) (x : NodeId) (d : CellId) → put_of N x ≡ Some (To.Cell d) → Has (group_cells N) (owned_cell d x) → put_of M x ≡ Some (To.Cell d)
new_cell {D} {N} {M} b x d e h =
    let g = has-flat_map (λ (g : Group). g.cells) N.groups (owned_cell d x) h in
    let n = g.0.node in
    let a = g.0.after in
    let p = row_part b.m N n in
    let q = row_part b.k M n in
    let there : Has (group_at N n a) (owned_cell d x) = subst (λ (l : List Owned). Has l (owned_cell d x)) (sym (group_found N b.fit.itself g.0 g.1)) g.2 in
    let flags = made_flags p q (group_at N n a) (made_alike b n a ∙ ap (embed_made q) (sym (group_same b n a))) (owned_cell d x) there in
    let put_here : is_here (how (put_of N x) (To.Cell d)) ≡ true = rw (e, same_cell-itself d) refl in
    here-put (put_of M x) (To.Cell d) (sym flags ∙ put_here)

put_cell : {D : Document} {N M : Intent} (b : Both D N M) (x : NodeId) (d : CellId) → put_of N x ≡ Some (To.Cell d) → put_of M x ≡ Some (To.Cell d)
put_cell {D} {N} {M} b x d e = by (known_put D N b.fit x (To.Cell d) e).1
  where
    by : Owns D N x d → put_of M x ≡ Some (To.Cell d)
    by (inl h) = old_cell b x d e h.0 h.1
    by (inr h) = new_cell b x d e h

-- ## Puts into registers

some_alike : {A : Type 0} (a c : Bool) (x y : A) → a ≡ true → ◌≡◌ {A = Option A} (if a then Some x else None) (if c then Some y else None) → x ≡ y
some_alike true true x y t e = cc
some_alike true false x y t e = cc
some_alike false c x y t e = cc

same_register : {D : Document} {N M : Intent} (b : Both D N M) (f : FieldId) → (clears N f || holds_mentioned b.m (D.held f)) ≡ true
    → ◌≡◌ {A = RegMark} (record { field = f; held = D.held f; how = how_held f (register_part b.m N f) (D.held f); clear = clears N f; fill = comes_in (D.held f) (put_in N f) })
    (record { field = f; held = D.held f; how = how_held f (register_part b.k M f) (D.held f); clear = clears M f; fill = comes_in (D.held f) (put_in M f) })
same_register {D} {N} {M} b f t = some_alike (clears N f || holds_mentioned b.m (D.held f)) (clears M f || holds_mentioned b.k (D.held f)) _ _ t (b.regs f)

clear_also : {D : Document} {N M : Intent} (b : Both D N M) (f : FieldId) → clears N f ≡ true → clears M f ≡ true
clear_also {D} {N} {M} b f t = sym (ap (λ (r : RegMark). r.clear) (same_register b f (or-left _ _ t))) ∙ t

comes-is : (held fill : Option NodeId) (x : NodeId) → comes_in held fill ≡ Some x → fill ≡ Some x
comes-is held fill x e = by (same_option same_node held fill) e
  where
    by : (s : Bool) → (if s then None else fill) ≡ Some x → fill ≡ Some x
    by true e = cc
    by false e = e

filled_there : {D : Document} {N M : Intent} (b : Both D N M) (x : NodeId) (f : FieldId) → put_in M f ≡ Some x → put_of M x ≡ Some (To.Register f)
filled_there {D} {N} {M} b x f e = has-put M b.other_fit.itself (record { node = x; to = To.Register f }) (put_in-has M f x e)

put_register : {D : Document} {N M : Intent} (b : Both D N M) (x : NodeId) (f : FieldId) → put_of N x ≡ Some (To.Register f) → put_of M x ≡ Some (To.Register f)
put_register {D} {N} {M} b x f e = by (D.held f) refl
  where
    h : Has N.put (record { node = x; to = To.Register f })
    h = put-has N x (To.Register f) e

    same : ◌≡◌ {A = RegMark} (record { field = f; held = D.held f; how = how_held f (register_part b.m N f) (D.held f); clear = clears N f; fill = comes_in (D.held f) (put_in N f) })
        (record { field = f; held = D.held f; how = how_held f (register_part b.k M f) (D.held f); clear = clears M f; fill = comes_in (D.held f) (put_in M f) })
    same = same_register b f (or-left _ _ (put_clears N b.fit.itself x f h))

    i : put_in N f ≡ Some x
    i = has-put_in N b.fit.itself x f h

    fills : comes_in (D.held f) (Some x) ≡ comes_in (D.held f) (put_in M f)
    fills = ap (comes_in (D.held f)) (sym i) ∙ ap (λ (r : RegMark). r.fill) same

    comes : comes_in (D.held f) (Some x) ≡ Some x → put_of M x ≡ Some (To.Register f)
    comes c = filled_there b x f (comes-is (D.held f) (put_in M f) x (sym fills ∙ c))

    stays : (y : NodeId) → D.held f ≡ Some y → (s : Bool) → same_node y x ≡ s → put_of M x ≡ Some (To.Register f)
    stays y held true s =
        let is : D.held f ≡ Some x = held ∙ ap (λ n. Some n) (same_node-true y x s) in
        let hows : how (put_of N x) (To.Register f) ≡ how (put_of M x) (To.Register f) = subst (λ (o : Option NodeId). how_held f (register_part b.m N f) o ≡ how_held f (register_part b.k M f) o) is (ap (λ (r : RegMark). r.how) same) in
        here-put (put_of M x) (To.Register f) (ap is_here (sym hows) ∙ rw (e, same_field-itself f) refl)
    stays y held false s = comes (rw (held, s) refl)

    by : (o : Option NodeId) → D.held f ≡ o → put_of M x ≡ Some (To.Register f)
    by None held = comes (rw held refl)
    by (Some y) held = stays y held (same_node y x) refl

-- ## Puts nowhere

is_old : {D : Document} {N : Intent} → Fits D N → (x : NodeId) → put_of N x ≡ Some To.Nowhere → IsSome (D.nodes x)
is_old {D} {N} fit x e = by (known_put D N fit x To.Nowhere e).0
  where
    somewhere : IsTrue (is_new N x) → To.Nowhere ≢ To.Nowhere
    somewhere = all-has (λ (p : Put). IsTrue (is_new N p.node) → p.to ≢ To.Nowhere) N.put (record { node = x; to = To.Nowhere }) fit.itself.new_somewhere (put-has N x To.Nowhere e)

    by : IsKnown D N x → IsSome (D.nodes x)
    by (inl new) = absurd (somewhere new refl)
    by (inr there) = there

put_somewhere : {D : Document} {N M : Intent} (b : Both D N M) (x : NodeId) → put_of N x ≡ Some To.Nowhere → (to : To) × (put_of M x ≡ Some to)
put_somewhere {D} {N} {M} b x e = by (D.place x) refl
  where
    t : b.m x ≡ true
    t = is_mentioned b x To.Nowhere e (is_old b.fit x e)

    other : same_node x root ≡ false
    other = refuted-false (same_node x root) (λ s. let r : put_of N root ≡ Some To.Nowhere = subst (λ (n : NodeId). put_of N n ≡ Some To.Nowhere) (same_node-true x root s) e in let none = b.fit.itself.root_stays in cc)

    by : (p : Spot) → D.place x ≡ p → (to : To) × (put_of M x ≡ Some to)
    by Spot.Nowhere p =
        let listed : is_loose b.m D x ≡ true = rw (t, p, other) refl in
        let same = some_alike (is_loose b.m D x) (is_loose b.k D x) _ _ listed (b.loose x) in
        let hows : how (put_of N x) To.Nowhere ≡ how (put_of M x) To.Nowhere = ap (λ (l : Loose). l.how) same in
        (To.Nowhere, here-put (put_of M x) To.Nowhere (ap is_here (sym hows) ∙ rw e refl))
    by (Spot.Row r c) p =
        let own = b.sound.own_cell x r c p in
        let there = map-has (slot D) (D.rows r) (owned_cell c x) own in
        let full : is_cell c (D.place x) ≡ true = rw p (same_cell-itself c) in
        let shown : embed_cell (row_part b.m N r) c x (is_cell c (D.place x)) ≡ Touch c x Leave = rw (full, t, e) refl in
        let alike = same_at b r (slot D (owned_cell c x)) there (cell_tells (row_part b.m N r) (content D r) (slot D (owned_cell c x)) there (ap tells shown)) in
        let shows : embed_cell (row_part b.k M r) c x true ≡ Touch c x Leave = subst (λ (u : Bool). embed_cell (row_part b.k M r) c x u ≡ Touch c x Leave) full (sym alike.0 ∙ shown) in
        leave-put (put_of M x) (To.Cell c) (full_leave (row_part b.k M r) c x shows)
    by (Spot.Register f) p =
        let held = (b.sound.one_held x f).1 p in
        let same = same_register b f (or-right (clears N f) (holds_mentioned b.m (D.held f)) (rw (held, t) refl)) in
        let hows : how (put_of N x) (To.Register f) ≡ how (put_of M x) (To.Register f) = subst (λ (o : Option NodeId). how_held f (register_part b.m N f) o ≡ how_held f (register_part b.k M f) o) held (ap (λ (r : RegMark). r.how) same) in
        leave-put (put_of M x) (To.Register f) (sym hows ∙ rw e refl)

put_nowhere : {D : Document} {N M : Intent} (b : Both D N M) (x : NodeId) → put_of N x ≡ Some To.Nowhere → put_of M x ≡ Some To.Nowhere
put_nowhere {D} {N} {M} b x e = let r = put_somewhere b x e in by r.0 r.1
  where
    by : (to : To) → put_of M x ≡ Some to → put_of M x ≡ Some To.Nowhere
    by To.Nowhere f = f
    by (To.Cell d) f = let bad = put_cell (swapped b) x d f in cc
    by (To.Register g) f = let bad = put_register (swapped b) x g f in cc

-- ## All of it

put_also : {D : Document} {N M : Intent} (b : Both D N M) (x : NodeId) (to : To) → put_of N x ≡ Some to → put_of M x ≡ Some to
put_also b x To.Nowhere e = put_nowhere b x e
put_also b x (To.Cell d) e = put_cell b x d e
put_also b x (To.Register f) e = put_register b x f e

put_same : {D : Document} {N M : Intent} (b : Both D N M) (x : NodeId) → put_of N x ≡ put_of M x
put_same {D} {N} {M} b x = by (put_of N x) (put_of M x) refl refl
  where
    by : (o p : Option To) → put_of N x ≡ o → put_of M x ≡ p → put_of N x ≡ put_of M x
    by None None e f = e ∙ sym f
    by (Some to) p e f = e ∙ sym (put_also b x to e)
    by None (Some to) e f = put_also (swapped b) x to f ∙ sym f

clear_same : {D : Document} {N M : Intent} (b : Both D N M) (f : FieldId) → clears N f ≡ clears M f
clear_same {D} {N} {M} b f = both-ways-same (clears N f) (clears M f) (clear_also b f) (clear_also (swapped b) f)

some_same : (a c : Bool) (n : NodeId) → ◌≡◌ {A = Option NodeId} (if a then Some n else None) (if c then Some n else None) → a ≡ c
some_same true true n e = refl
some_same false false n e = refl
some_same true false n e = cc
some_same false true n e = cc

both_of : (D : Document) (N M : Intent) (C : Change) → IsSoundInForm D → Fits D N → Fits D M → IsEmbedding D N C → IsEmbedding D M C → Both D N M
both_of D N M C sound fit other_fit e f = record {
  sound = sound;
  fit = fit;
  other_fit = other_fit;
  m = e.mentioned;
  which = e.which;
  k = f.mentioned;
  other_which = f.which;
  rows = λ n. sym (e.rows.at_each n) ∙ f.rows.at_each n;
  regs = λ r. sym (e.regs.at_each r) ∙ f.regs.at_each r;
  loose = λ n. sym (e.loose.at_each n) ∙ f.loose.at_each n;
}

need_also : (N M : Intent) (n : NodeId) → is_among N.need n ≡ is_among M.need n → Has N.need n → Has M.need n
need_also N M n e h =
    let r = any-has (λ m. same_node m n) M.need (sym e ∙ has-any (λ m. same_node m n) N.need n h (same_node-itself n)) in
    subst (Has M.need) (same_node-true r.0 n r.2) r.1

pub one_intent : (D : Document) (N M : Intent) (C : Change) → IsSoundInForm D → Fits D N → Fits D M → IsEmbedding D N C → IsEmbedding D M C → SaysTheSame N M
one_intent D N M C sound fit other_fit e f =
    let b = both_of D N M C sound fit other_fit e f in
    let among : (n : NodeId) → is_among N.need n ≡ is_among M.need n = λ n. some_same (is_among N.need n) (is_among M.need n) n (sym (e.need.at_each n) ∙ f.need.at_each n) in
    says N M fit.itself other_fit.itself (record {
      rev = sym e.rev ∙ f.rev;
      under = sym e.under ∙ f.under;
      schema = sym e.schema ∙ f.schema;
      new = λ n. sym (e.new.at_each n) ∙ f.new.at_each n;
      needs = λ n. (need_also N M n (among n), need_also M N n (sym (among n)));
      puts = put_same b;
      clear = clear_same b;
      groups = group_same b;
    })
