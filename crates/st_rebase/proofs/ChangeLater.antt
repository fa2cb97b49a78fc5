-- A change that is carried to the document between, and then put over what is left of the step, is the change of its intent in
-- the later document.
use Rattle.std.proofs.Common.{Bool, List, [], ◌∷◌, refl, sym, ◌∙◌, subst, inl, inr, ◌↔◌, IsTrue}
use Rattle.st_ids.specs.Listing.{Has, IsListing, item_of}
use Rattle.st_ids.specs.Order.{node_cmp}
use Rattle.st_ids.proofs.Listings.{has-item_of}
use Rattle.st_ids.proofs.Orders.{node_cmp_exact, node_cmp_total}
use Rattle.st_ids.specs.declared.names.NodeId.{NodeId}
use Rattle.st_kind.specs.Named.{Nodes}
use Rattle.st_marks.specs.declared.changes.Change.{Change}
use Rattle.st_marks.specs.declared.intents.Intent.{Intent}
use Rattle.st_marks.specs.declared.marks.RowMarks.{RowMarks}
use Rattle.st_marks.specs.declared.steps.Step.{Step}
use Rattle.st_marks.specs.Document.{Document, content}
use Rattle.st_marks.specs.Embedding.{IsEmbedding, row_marks, row_part}
use Rattle.st_marks.specs.Extends.{IsExtendedBy}
use Rattle.st_marks.specs.Intent.{Fits}
use Rattle.st_marks.specs.Listings.{nodes_new}
use Rattle.st_marks.specs.Row.{embed_row}
use Rattle.st_marks.specs.Step.{IsStep}
use Rattle.st_marks.specs.Verdict.{IsBaseInEffect}
use Rattle.st_rows.specs.Sequence.{ListsNew}
use Rattle.st_rows.proofs.Existence.{lists_new}
use Rattle.st_puts.specs.Mentions.{AreMentions}
use Rattle.st_moves.specs.Between.{between}
use Rattle.st_moves.specs.Changes.{IsChangeBetween}
use Rattle.st_moves.specs.Room.{HasRoomInRows}
use Rattle.st_rebase.specs.Exchanged.{AreExchanged}
use Rattle.st_rebase.specs.Rows.{RowBecomes}
use Rattle.st_rebase.specs.inside.Over.{IsChangeOver}
use Rattle.st_rebase.specs.inside.Room.{HasRoomOver, IsRowOver}
use Rattle.st_rebase.proofs.ChangeRebased.{change_rebased}
use Rattle.st_rebase.proofs.RoomLater.{room_later}

weaker : {K A : Type 0} (key : A → K) (P Q : A → A → Type 0) (xs ys : List A) → ((x : A) → Has xs x → (y : A) → P x y → Q x y) → AreExchanged key P xs ys → AreExchanged key Q xs ys
weaker key P Q [] [] f h = tt
weaker key P Q [] (y ∷ ys) f h = absurd h
weaker key P Q (x ∷ xs) [] f h = absurd h
weaker key P Q (x ∷ xs) (y ∷ ys) f h = (h.0, f x (inl refl) y h.1, weaker key P Q xs ys (λ z i. f z (inr i)) h.2)

module _ (D E : Document) (N : Intent) (x : IsExtendedBy D E) (f : Fits D N) (g : Fits E N) (C : Change) (S : Step) (room : HasRoomInRows C S) (change : IsEmbedding D N C) (step : IsStep D E S) (m : Nodes) (w : AreMentions E N m)
    (X : Change) (there : IsChangeBetween D E N m X) where
  abbrev new : List NodeId
  new = nodes_new X.new

  listed : ListsNew N new
  listed = lists_new (between m D E) N X there.0

  rows_there : IsListing node_cmp (λ (r : RowMarks). r.node) X.rows (λ n. row_marks n (embed_row (row_part m N n) (content (between m D E) n)))
  rows_there = subst (λ k. IsListing node_cmp (λ (r : RowMarks). r.node) X.rows (λ n. row_marks n (embed_row (row_part k N n) (content (between m D E) n)))) there.1 there.0.rows

  has_room : (r : RowMarks) → Has X.rows r → HasRoomOver r (item_of node_cmp (λ (s : RowMarks). s.node) S.rows r.node)
  has_room r h = room_later D E N x f C S change step m new listed r.node (room r.node) r
      (sym (rows_there.at_each r.node) ∙ has-item_of node_cmp node_cmp_total node_cmp_exact (λ (q : RowMarks). q.node) X.rows r rows_there.rising h)

  pub change_later : (base : Bool) (Y : Change) → IsTrue base ↔ IsBaseInEffect E N → IsChangeOver m X S base Y → IsEmbedding E N Y
  change_later base Y b over = change_rebased D E N x f g S step m w new listed X Y there.0 (record {
    commit = over.commit;
    base = subst (λ z. IsTrue z ↔ IsBaseInEffect E N) (sym over.base_is) b;
    rows = weaker (λ (r : RowMarks). r.node)
        (λ r t. IsRowOver m (item_of node_cmp (λ (s : RowMarks). s.node) S.rows r.node) r t)
        (λ r t. RowBecomes X.rev new m (item_of node_cmp (λ (s : RowMarks). s.node) S.rows r.node) r t)
        X.rows Y.rows (λ r h t q. q X.rev new (has_room r h)) over.rows;
    regs = over.regs;
    loose = over.loose;
  })
