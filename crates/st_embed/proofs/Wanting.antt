-- What is kept of an intent by name says what the intent says.
use Rattle.std.proofs.Common.{◌≡◌, Bool, true, false, cond, ◌||◌, List, [], ◌∷◌, Option, Some, None, refl, sym, ap, ◌∙◌}
use Rattle.std.specs.List.{find, list_any}
use Rattle.st_ids.specs.Order.{same_node}
use Rattle.st_ids.specs.declared.names.FieldId.{FieldId}
use Rattle.st_ids.specs.declared.names.NodeId.{NodeId}
use Rattle.st_ids.proofs.Orders.{same_node-true}
use Rattle.st_marks.specs.declared.changes.NewNode.{NewNode}
use Rattle.st_marks.specs.declared.intents.Intent.{Intent}
use Rattle.st_marks.specs.declared.intents.To.{To}
use Rattle.st_marks.specs.declared.marks.Loose.{Loose}
use Rattle.st_marks.specs.declared.marks.RegMark.{RegMark}
use Rattle.st_marks.specs.declared.marks.RowMarks.{RowMarks}
use Rattle.st_marks.specs.Document.{Document}
use Rattle.st_marks.specs.Embedding.{embed_loose, is_loose, register_part, row_marks, row_part, tells}
use Rattle.st_marks.specs.Intent.{new_node}
use Rattle.st_marks.specs.Register.{RegisterPart, embed_register, holds_mentioned}
use Rattle.st_marks.specs.Row.{CellMark, how}
use Rattle.st_marks.proofs.Members.{first-has}
use Rattle.st_embed.specs.declared.wants.Wants.{Wants}
use Rattle.st_embed.specs.inside.Wants.{AreWants, loose_in, part_in_register, part_in_row}

-- ## The names of what is listed

pub picked : {A K : Type 0} (key : A → K) (k : K) (b : Bool) (y x : A) → key y ≡ k → cond b (Some y) None ≡ Some x → key x ≡ k
picked key k true y x e h = let q : y ≡ x = cc in ap key (sym q) ∙ e
picked key k false y x e h = cc

pub row_named : (n : NodeId) (xs : List CellMark) (r : RowMarks) → row_marks n xs ≡ Some r → r.node ≡ n
row_named n xs r h = picked (λ (x : RowMarks). x.node) n (list_any tells xs) _ r refl h

pub register_named : (f : FieldId) (p : RegisterPart) (held : Option NodeId) (r : RegMark) → embed_register f p held ≡ Some r → r.field ≡ f
register_named f p held r h = picked (λ (x : RegMark). x.field) f (p.clear || holds_mentioned p.mentioned held) _ r refl h

pub loose_named : (w : Wants) (m : NodeId → Bool) (D : Document) (n : NodeId) (l : Loose) → loose_in w m D n ≡ Some l → l.node ≡ n
loose_named w m D n l h = picked (λ (x : Loose). x.node) n (is_loose m D n) _ l refl h

pub new_named : (N : Intent) (n : NodeId) (m : NewNode) → new_node N n ≡ Some m → m.node ≡ n
new_named N n m h = same_node-true m.node n (first-has (λ (x : NewNode). same_node x.node n) N.new m h).1

pub not_found : {A : Type 0} (p : A → Bool) (xs : List A) → list_any p xs ≡ false → find p xs ≡ None
not_found p [] e = refl
not_found {A} p (x ∷ xs) e = go (p x) e (λ f. not_found p xs f)
  where
    go : (b : Bool) → (b || list_any p xs) ≡ false → (list_any p xs ≡ false → find p xs ≡ None) → cond b (Some x) (find p xs) ≡ None
    go true f rest = cc
    go false f rest = rest f

-- ## The parts of an intent

module _ (N : Intent) (w : Wants) (h : AreWants N w) (m : NodeId → Bool) where
  pub row_same : (n : NodeId) → part_in_row w m n ≡ row_part m N n
  row_same n = λ i. record { new_cells = λ a. h.cells n a i; target_of = λ k. h.targets k i; mentioned = m }

  pub register_same : (f : FieldId) → part_in_register w m f ≡ register_part m N f
  register_same f = λ i. record { clear = h.clear f i; fill = h.fills f i; target_of = λ k. h.targets k i; mentioned = m }

  pub loose_same : (D : Document) (n : NodeId) → loose_in w m D n ≡ embed_loose m D N n
  loose_same D n = λ i. cond (is_loose m D n) (Some (record { node = n; how = how (h.targets n i) To.Nowhere })) None
