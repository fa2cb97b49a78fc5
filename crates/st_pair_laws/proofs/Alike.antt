-- What two show that agree: one document, of which neither makes what the other names.
use Rattle.std.proofs.Common.{◌≡◌, ◌⊎◌, ℕ, List, Option, Some, IsTrue, sym, inl, inr}
use Rattle.std.specs.List.{AllZip}
use Rattle.st_ids.specs.declared.names.CellId.{CellId}
use Rattle.st_ids.specs.declared.names.FieldId.{FieldId}
use Rattle.st_ids.specs.declared.names.NodeId.{NodeId}
use Rattle.st_lemmas.proofs.Bools.{or-left}
use Rattle.st_marks.specs.declared.changes.Change.{Change}
use Rattle.st_marks.specs.declared.places.Spot.{Spot}
use Rattle.st_marks.specs.declared.steps.Step.{Step}
use Rattle.st_marks.specs.Agree.{Agrees, Differs, rows_differ, cell_twice, registers_differ, node_twice, IsSameView, node_again, cell_again, RebaseClash, field_of, row_field}
use Rattle.st_marks.specs.Listings.{CellView, Listing, ListsCell, Places, listing_before_change, listing_before_step}
use Rattle.st_pair_laws.proofs.Decided.{nodes, numbers, options, rows_alike, spots, stable}

-- rows, cells and registers that both show are the same
pub record ShowAlike (L M : Listing) : Type 0 where
  pub rows : (n : NodeId) (a b : List CellView) → L.row n ≡ Some a → M.row n ≡ Some b → AllZip IsSameView a b
  pub cells : (c : CellId) (n m : NodeId) (k l : ℕ) (o p : Option NodeId) → IsTrue (L.names.names_cell n c) → ListsCell L c n k o → ListsCell M c m l p → (n ≡ m) × (k ≡ l)
  pub registers : (f : FieldId) (a b : Option NodeId) → L.register f ≡ Some a → M.register f ≡ Some b → a ≡ b

-- a node that both show is at one place, and the second names nothing that the first makes
pub record IsApartFrom (L M : Listing) : Type 0 where
  pub places : (n : NodeId) (s t : Spot) (f : FieldId) → Places L n s → Places M n t → (field_of s ≡ Some f) ⊎ (field_of t ≡ Some f) → s ≡ t
  pub nodes : (n : NodeId) → IsTrue (L.names.makes_node n) → IsTrue (M.names.names_node n) → ⊥
  pub cells : (c : CellId) (q : NodeId) → IsTrue (L.names.makes_cell c) → IsTrue (M.names.names_cell q c) → ⊥

module _ (C : Change) (S : Step) (g : Agrees (RebaseClash C S)) where
  abbrev L : Listing
  L = listing_before_change C

  abbrev M : Listing
  M = listing_before_step S

  differs-not : (f : FieldId) → Differs L M f → ⊥
  differs-not f d = g f (inl d)

  pub show_alike : ShowAlike L M
  show_alike = record {
    rows = λ n a b e f. stable (AllZip IsSameView a b) (rows_alike a b) (λ apart. differs-not (row_field n) (rows_differ n a b e f apart));
    cells = λ c n m k l o p named v w. (
      stable (n ≡ m) (nodes n m) (λ apart. differs-not (row_field n) (cell_twice c n m k l o p v w (λ same. apart same.0) n (or-left _ _ named))),
      stable (k ≡ l) (numbers k l) (λ apart. differs-not (row_field n) (cell_twice c n m k l o p v w (λ same. apart same.1) n (or-left _ _ named))),
    );
    registers = λ f a b e h. stable (a ≡ b) (options nodes a b) (λ apart. differs-not f (registers_differ f a b e h apart));
  }

  one-place : (n : NodeId) (s t : Spot) (f : FieldId) → Places L n s → Places M n t → (field_of s ≡ Some f) ⊎ (field_of t ≡ Some f) → s ≡ t
  one-place n s t f p q h = stable (s ≡ t) (spots s t) (λ apart. differs-not f (node_twice n s t p q apart f h))

  pub change_apart : IsApartFrom L M
  change_apart = record {
    places = one-place;
    nodes = λ n made named. g (row_field n) (inr (inr (inl (node_again n made named))));
    cells = λ c q made named. g (row_field q) (inr (inr (inl (cell_again c q q made named (or-left _ _ named)))));
  }

  pub step_apart : IsApartFrom M L
  step_apart = record {
    places = λ n s t f p q h. sym (one-place n t s f q p (elim h [ inl a ↦ inr a | inr a ↦ inl a ]));
    nodes = λ n made named. g (row_field n) (inr (inl (node_again n made named)));
    cells = λ c q made named. g (row_field q) (inr (inl (cell_again c q q made named (or-left _ _ named))));
  }
