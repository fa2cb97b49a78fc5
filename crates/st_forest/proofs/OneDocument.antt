-- A forest stands for one document.
use Rattle.std.proofs.Common.{◌≡◌, List, [], ◌∷◌, map, Option, Some, None, option_map, refl, sym, ap, ◌∙◌, subst}
use mathlib.Core.Path.{fun_ext}
use Rattle.st_ids.specs.Listing.{Has}
use Rattle.st_ids.specs.declared.names.CellId.{CellId}
use Rattle.st_ids.specs.declared.names.NodeId.{NodeId}
use Rattle.st_marks.specs.declared.intents.Owned.{Owned}
use Rattle.st_marks.specs.declared.places.Slot.{Slot}
use Rattle.st_marks.specs.Document.{Document, IsSoundInForm, NodeType, owned_cell, slot}
use Rattle.st_forest.specs.declared.forest.Forest.{Forest}
use Rattle.st_forest.specs.Stands.{StandsFor, named}

-- the type under a name
one_type : (n : NodeId) (a b : Option NodeType) → option_map (named n) a ≡ option_map (named n) b → a ≡ b
one_type n None None e = refl
one_type n None (Some u) e = cc
one_type n (Some t) None e = cc
one_type n (Some t) (Some u) e = let same : named n t ≡ named n u = cc in λ i. Some (record { ty = (same i).ty; leaf = (same i).leaf })

-- the cells of slots
owned : Slot → Owned
owned s = owned_cell s.cell s.node

cells_back : (D : Document) (os : List Owned) → map owned (map (slot D) os) ≡ os
unfolding owned
cells_back D [] = refl
cells_back D (o ∷ os) = λ i. o ∷ cells_back D os i

module _ (F : Forest) (D E : Document) (d : IsSoundInForm D) (e : IsSoundInForm E) (f : StandsFor F D) (g : StandsFor F E) where
  nodes_same : (n : NodeId) → D.nodes n ≡ E.nodes n
  nodes_same n = one_type n (D.nodes n) (E.nodes n) (sym (f.nodes n) ∙ g.nodes n)

  rows_same : (n : NodeId) → D.rows n ≡ E.rows n
  rows_same n = sym (cells_back D (D.rows n)) ∙ ap (map owned) (sym (f.rows n) ∙ g.rows n) ∙ cells_back E (E.rows n)

  -- a cell is in the row in which both have it
  row_there : (c : CellId) (n : NodeId) → D.row_of c ≡ Some n → E.row_of c ≡ Some n
  row_there c n h = let o = (d.one_row c n).0 h in (e.one_row c n).1 (o.0, subst (λ os. Has os (owned_cell c o.0)) (rows_same n) o.1)

  row_here : (c : CellId) (n : NodeId) → E.row_of c ≡ Some n → D.row_of c ≡ Some n
  row_here c n h = let o = (e.one_row c n).0 h in (d.one_row c n).1 (o.0, subst (λ os. Has os (owned_cell c o.0)) (sym (rows_same n)) o.1)

  row_of_same : (c : CellId) → D.row_of c ≡ E.row_of c
  row_of_same c = go (D.row_of c) (E.row_of c) refl refl
    where
      go : (o p : Option NodeId) → D.row_of c ≡ o → E.row_of c ≡ p → D.row_of c ≡ E.row_of c
      go (Some n) p h k = h ∙ sym (row_there c n h)
      go None (Some n) h k = row_here c n k ∙ sym k
      go None None h k = h ∙ sym k

  pub one_document : D ≡ E
  one_document = λ i. record {
    nodes = fun_ext nodes_same i;
    rows = fun_ext rows_same i;
    row_of = fun_ext row_of_same i;
    place = fun_ext (λ n. sym (f.places n) ∙ g.places n) i;
    held = fun_ext (λ r. sym (f.held r) ∙ g.held r) i;
    schemas = (sym f.schemas ∙ g.schemas) i;
  }
