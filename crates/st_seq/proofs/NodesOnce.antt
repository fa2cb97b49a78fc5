-- Listings that are true of one row name a node that stands at one place.
use Rattle.std.proofs.Common.{◌≡◌, ◌≢◌, ◌⊎◌, inl, inr, ℕ, suc, Bool, true, false, List, [], ◌∷◌, Option, Some, None, cond, refl, sym, ap, ◌∙◌, subst}
use Rattle.st_ids.specs.Listing.{AreDistinct, Has}
use Rattle.st_ids.specs.declared.names.Atom.{Atom}
use Rattle.st_ids.specs.declared.names.NodeId.{NodeId}
use Rattle.st_kind.specs.Named.{Nodes}
use Rattle.st_marks.specs.declared.marks.Mark.{Mark}
use Rattle.st_marks.specs.declared.places.Slot.{Slot}
use Rattle.st_marks.specs.Row.{spread, step_row, embed_row}
use Rattle.st_marks.specs.Listings.{CellView, cells_after, cells_before}
use Rattle.st_marks.proofs.Members.{all-has, first-has, has-append}
use Rattle.st_rows.specs.Views.{row_views}
use Rattle.st_rows.proofs.KindLaws.{spread_of}
use Rattle.st_seq.specs.NamedApart.{NamedApart, named_apart, same_atom, stands_at, standing_at}
use Rattle.st_rows.specs.Sequence.{RowFits, RowLeadsOver, SeqPart, row_carried, row_change_of, standing_nodes}
use Rattle.st_seq.specs.declared.name_clashes.NamedAt.{NamedAt}
use Rattle.st_rows.specs.declared.values.RowChange.{RowChange}
use Rattle.st_rows.proofs.ViewsOfRows.{DescribeAll, IfTold, change_finds, change_leaves, step_finds, step_leaves}
use Rattle.st_rows.proofs.PartsThatFit.{change_is}
use Rattle.st_rows.proofs.RowsAfter.{row_itself}
use Rattle.st_seq.proofs.NamedCells.{same_atom-true}

-- ## What is true of a row

-- the node of a name
abbrev node_of_name : Atom → NodeId
node_of_name a = record { 0 = a }

-- the node stands at this place of the row, which is counted from the first number
abbrev StandsAt : List Slot → ℕ → NodeId → ℕ → Type 0
StandsAt [] k n i = ⊥
StandsAt (s ∷ c) k n i = ((s.node ≡ n) × (s.full ≡ true) × (k ≡ i)) ⊎ StandsAt c (suc k) n i

-- it is found, and stands where it is named
abbrev IsTrueOf : List Slot → ℕ → NamedAt → Type 0
IsTrueOf c k e = (e.made ≡ false) × StandsAt c k (node_of_name e.name) e.left

abbrev AreTrueOf : List Slot → ℕ → List NamedAt → Type 0
AreTrueOf c k names = (e : NamedAt) → Has names e → IsTrueOf c k e

stands_has : (c : List Slot) (k : ℕ) (n : NodeId) (i : ℕ) → StandsAt c k n i → Has (standing_nodes c) n
stands_has [] k n i h = h
stands_has (s ∷ c) k n i (inl e) = subst (λ b. Has (cond b (s.node ∷ standing_nodes c) (standing_nodes c)) n) (sym e.1) (inl e.0)
stands_has (s ∷ c) k n i (inr h) =
    let r = stands_has c (suc k) n i h in
    elim s.full as (λ b. Has (cond b (s.node ∷ standing_nodes c) (standing_nodes c)) n) [ true ↦ inr r | false ↦ r ]

behind : (b : Bool) (n : NodeId) (ns : List NodeId) → AreDistinct (λ (x : NodeId). x) (cond b (n ∷ ns) ns) → AreDistinct (λ (x : NodeId). x) ns
behind true n ns o = o.1
behind false n ns o = o

not_behind : (s : Slot) (c : List Slot) (k : ℕ) (n : NodeId) (i : ℕ) → AreDistinct (λ (x : NodeId). x) (standing_nodes (s ∷ c)) → s.full ≡ true → s.node ≡ n → StandsAt c k n i → ⊥
not_behind s c k n i o f e h =
    let all = subst (λ b. AreDistinct (λ (x : NodeId). x) (cond b (s.node ∷ standing_nodes c) (standing_nodes c))) f o in
    all-has (λ (x : NodeId). x ≢ s.node) (standing_nodes c) n all.0 (stands_has c k n i h) (sym e)

-- a node that stands once stands at one place
stands_once : (c : List Slot) (k : ℕ) (n : NodeId) (i j : ℕ) → AreDistinct (λ (x : NodeId). x) (standing_nodes c) → StandsAt c k n i → StandsAt c k n j → i ≡ j
stands_once [] k n i j o h w = absurd h
stands_once (s ∷ c) k n i j o (inl e) (inl f) = sym e.2 ∙ f.2
stands_once (s ∷ c) k n i j o (inl e) (inr w) = absurd (not_behind s c (suc k) n j o e.1 e.0 w)
stands_once (s ∷ c) k n i j o (inr h) (inl f) = absurd (not_behind s c (suc k) n i o f.1 f.0 h)
stands_once (s ∷ c) k n i j o (inr h) (inr w) = stands_once c (suc k) n i j (behind s.full s.node (standing_nodes c) o) h w

-- two listings that are true of one row don't name a node apart
true_together : (c : List Slot) → AreDistinct (λ (x : NodeId). x) (standing_nodes c) → (A B : List NamedAt) → AreTrueOf c 0 A → AreTrueOf c 0 B → (j : ℕ) → NamedApart A B j → ⊥
true_together c o A B h w j (named_apart e f first has not _ _) =
    let r = first-has (λ (g : NamedAt). same_atom g.name f.name) A e first in
    let one = ap node_of_name (same_atom-true e.name f.name r.1) in
    let x = h e r.0 in
    let y = w f has in
    not x.0 y.0 (stands_once c 0 (node_of_name f.name) e.left f.left o (subst (λ n. StandsAt c 0 n e.left) one x.1) y.1)

-- ## What listings name

first_true : (s : Slot) (c : List Slot) (k : ℕ) (b : Bool) (o : Option NodeId) → b ≡ s.full → IfTold o s.node → (e : NamedAt) → Has (stands_at b o k) e → IsTrueOf (s ∷ c) k e
first_true s c k b None f t e h = absurd h
first_true s c k true (Some n) f t e (inl q) = subst (IsTrueOf (s ∷ c) k) q (refl, inl (sym t, sym f, refl))
first_true s c k true (Some n) f t e (inr w) = absurd w
first_true s c k false (Some n) f t e h = absurd h

-- a listing that describes a row names the nodes that stand there
names_true : (c : List Slot) (X : List CellView) (k : ℕ) → DescribeAll c X → AreTrueOf c k (standing_at k X)
names_true [] [] k d e h = absurd h
names_true [] (x ∷ X) k d e h = absurd d
names_true (s ∷ c) [] k d e h = absurd d
names_true (s ∷ c) (x ∷ X) k d e h = elim (has-append (stands_at x.full x.node k) (standing_at (suc k) X) e h) [
  | inl w ↦ first_true s c k x.full x.node d.0.0 d.0.2 e w
  | inr w ↦ (let r = names_true c X (suc k) d.1 e w in (r.0, inr r.1))
]

-- two listings that describe one row don't name a node apart
described_together : (c : List Slot) (X Y : List CellView) → AreDistinct (λ (x : NodeId). x) (standing_nodes c) → DescribeAll c X → DescribeAll c Y → (j : ℕ) → NamedApart (standing_at 0 X) (standing_at 0 Y) j → ⊥
described_together c X Y o x y = true_together c o (standing_at 0 X) (standing_at 0 Y) (names_true c X 0 x) (names_true c Y 0 y)

-- ## Listings of one field

module _ (m : Nodes) (c d : List Slot) (marks : List Mark) (l : RowLeadsOver m c d marks) where
  step_before : DescribeAll c (cells_before (spread marks))
  step_before = subst (λ xs. DescribeAll c (cells_before xs)) (sym (spread_of marks (step_row m l.step.grows) l.step.says)) (step_finds m l.step.grows)

  step_after : DescribeAll d (cells_after (spread marks))
  step_after = subst (λ xs. DescribeAll d (cells_after xs)) (sym (spread_of marks (step_row m l.step.grows) l.step.says)) (step_leaves m l.step.grows)

module _ (p : SeqPart) (c : List Slot) (x : RowChange) (w : RowFits p c) (e : x ≡ row_change_of p c) where
  pub change_before : DescribeAll c (cells_before (spread x.marks))
  change_before = subst (λ xs. DescribeAll c (cells_before xs)) (sym (spread_of x.marks (embed_row p.part c) (ap (λ (y : RowChange). y.marks) e))) (change_finds p.part c)

  change_after : DescribeAll (row_carried p false c) (cells_after (spread x.marks))
  change_after = subst (λ xs. DescribeAll (row_carried p false c) (cells_after xs)) (sym (spread_of x.marks (embed_row p.part c) (ap (λ (y : RowChange). y.marks) e))) (change_leaves p.part c (change_is p c x w e).mentions)

-- a row and a step over it
pub stands_once-after : (m : Nodes) (c d : List Slot) (marks : List Mark) → RowLeadsOver m c d marks → (k : ℕ) → NamedApart (standing_at 0 (row_views c)) (standing_at 0 (cells_before (spread marks))) k → ⊥
stands_once-after m c d marks l = described_together c (row_views c) (cells_before (spread marks)) l.before.stand_once (row_itself c) (step_before m c d marks l)

-- two steps in turn
pub stands_once-compose : (m k : Nodes) (c d e : List Slot) (s t : List Mark) → RowLeadsOver m c d s → RowLeadsOver k d e t → (j : ℕ) → NamedApart (standing_at 0 (cells_after (spread s))) (standing_at 0 (cells_before (spread t))) j → ⊥
stands_once-compose m k c d e s t l r = described_together d (cells_after (spread s)) (cells_before (spread t)) r.before.stand_once (step_after m c d s l) (step_before k d e t r)

-- two changes in turn
pub stands_once-join : (p q : SeqPart) (c : List Slot) (x y : RowChange) → RowFits p c → x ≡ row_change_of p c → RowFits q (row_carried p false c) → y ≡ row_change_of q (row_carried p false c) → (j : ℕ) → NamedApart (standing_at 0 (cells_after (spread x.marks))) (standing_at 0 (cells_before (spread y.marks))) j → ⊥
stands_once-join p q c x y w e v f = described_together (row_carried p false c) (cells_after (spread x.marks)) (cells_before (spread y.marks)) v.content.stand_once (change_after p c x w e) (change_before q (row_carried p false c) y v f)

-- a change and a step over one row
pub stands_once-rebase : (p : SeqPart) (m : Nodes) (c d : List Slot) (x : RowChange) (s : List Mark) → RowFits p c → x ≡ row_change_of p c → RowLeadsOver m c d s → (j : ℕ) → NamedApart (standing_at 0 (cells_before (spread x.marks))) (standing_at 0 (cells_before (spread s))) j → ⊥
stands_once-rebase p m c d x s w e l = described_together c (cells_before (spread x.marks)) (cells_before (spread s)) l.before.stand_once (change_before p c x w e) (step_before m c d s l)
