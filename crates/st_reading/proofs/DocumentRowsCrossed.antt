-- What a step says of the rows of documents after a change that stands beside it.
use Rattle.std.proofs.Common.{◌≡◌, ◌≢◌, Bool, true, false, ◌&&◌, List, Option, IsSome, cond, refl, sym, ap, subst, inl}
use Rattle.st_ids.specs.Listing.{Has}
use Rattle.st_ids.specs.declared.names.NodeId.{NodeId}
use Rattle.st_kind.specs.Named.{Nodes, named_beside}
use Rattle.st_marks.specs.declared.changes.Change.{Change}
use Rattle.st_marks.specs.declared.intents.Intent.{Intent}
use Rattle.st_marks.specs.declared.intents.To.{To}
use Rattle.st_marks.specs.declared.marks.How.TheVariants.{Stay, Here, Leave}
use Rattle.st_marks.specs.declared.places.Slot.{Slot}
use Rattle.st_marks.specs.declared.steps.Step.{Step}
use Rattle.st_marks.specs.declared.verdicts.Verdict.{Verdict}
use Rattle.st_marks.specs.Document.{Document, IsSoundInForm, content}
use Rattle.st_marks.specs.Embedding.{IsEmbedding, is_among, row_part}
use Rattle.st_marks.specs.Extends.{IsExtendedBy}
use Rattle.st_marks.specs.Intent.{Fits, is_new, put_of}
use Rattle.st_marks.specs.Row.{CellMark, Counted, Gap, Touch, Make, Fill, SameCell, embed_row, step_row}
use Rattle.st_marks.specs.Step.{IsStep}
use Rattle.st_marks.specs.Verdict.{carried_document}
use Rattle.st_rows.specs.Changes.{placed_by, row_after}
use Rattle.st_rows.specs.Sequence.{ListsNew}
use Rattle.st_rows.specs.Walks.{CellPiece, Both, First, Then}
use Rattle.st_rows.proofs.Documents.{is_slot, part_fits}
use Rattle.st_rows.proofs.DocumentsAfter.{void_is, whole_is}
use Rattle.st_rows.proofs.DocumentsListed.{moved_apart, names_moved}
use Rattle.st_reading.specs.Bridge.{crossed_piece, crossed_row, full_beside, full_beyond, is_void, stepped, target_by}
use Rattle.st_reading.specs.Pieces.{AreAlike, IsBlind, read_piece}
use Rattle.st_read_laws.specs.Reading.{read}
use Rattle.st_reading.proofs.CountedPieces.{alike_beside}
use Rattle.st_reading.proofs.RowsCrossed.{Led, row_crossed}
use Rattle.st_reading.proofs.DocumentRowsOver.{groups_are_old}
use Rattle.st_read_laws.proofs.Readings.{read-listed, read-twice}

-- ## The table sees no more than is read

stepped-thin : (g u : NodeId → Option To) (x y : CellMark) → read false (stepped (read false x) (read false y) (full_beside g (read false x) (read false y)) (full_beyond u (read false x) (read false y)))
    ≡ read false (stepped x y (full_beside g x y) (full_beyond u x y))
stepped-thin g u Counted Counted = refl
stepped-thin g u Counted (Gap d) = refl
stepped-thin g u Counted (Touch d m Stay) = refl
stepped-thin g u Counted (Touch d m Here) = refl
stepped-thin g u Counted (Touch d m Leave) = refl
stepped-thin g u Counted (Make d m e) = refl
stepped-thin g u Counted (Fill d m) = refl
stepped-thin g u (Gap c) Counted = refl
stepped-thin g u (Gap c) (Gap d) = refl
stepped-thin g u (Gap c) (Touch d m Stay) = refl
stepped-thin g u (Gap c) (Touch d m Here) = refl
stepped-thin g u (Gap c) (Touch d m Leave) = refl
stepped-thin g u (Gap c) (Make d m e) = refl
stepped-thin g u (Gap c) (Fill d m) = refl
stepped-thin g u (Touch c n h) Counted = refl
stepped-thin g u (Touch c n h) (Gap d) = refl
stepped-thin g u (Touch c n h) (Touch d m Stay) = refl
stepped-thin g u (Touch c n h) (Touch d m Here) = refl
stepped-thin g u (Touch c n h) (Touch d m Leave) = refl
stepped-thin g u (Touch c n h) (Make d m e) = refl
stepped-thin g u (Touch c n h) (Fill d m) = refl
stepped-thin g u (Make c n b) Counted = refl
stepped-thin g u (Make c n b) (Gap d) = refl
stepped-thin g u (Make c n b) (Touch d m Stay) = refl
stepped-thin g u (Make c n b) (Touch d m Here) = refl
stepped-thin g u (Make c n b) (Touch d m Leave) = refl
stepped-thin g u (Make c n b) (Make d m e) = refl
stepped-thin g u (Make c n b) (Fill d m) = refl
stepped-thin g u (Fill c n) Counted = refl
stepped-thin g u (Fill c n) (Gap d) = refl
stepped-thin g u (Fill c n) (Touch d m Stay) = refl
stepped-thin g u (Fill c n) (Touch d m Here) = refl
stepped-thin g u (Fill c n) (Touch d m Leave) = refl
stepped-thin g u (Fill c n) (Make d m e) = refl
stepped-thin g u (Fill c n) (Fill d m) = refl

piece_named : (p : CellPiece) → read_piece true p ≡ p
piece_named (Both x y) = λ i. Both (read-listed x i) (read-listed y i)
piece_named (First x) = λ i. First (read-listed x i)
piece_named (Then y) = λ i. Then (read-listed y i)

pub crossed_blind : (l was is : Bool) (placed : Nodes) (t : NodeId → Option To) → IsBlind l (λ p. read l (crossed_piece was is placed t p))
crossed_blind true was is placed t p = ap (λ r. read true (crossed_piece was is placed t r)) (piece_named p)
crossed_blind false was is placed t (Both x y) = go (was && is)
  where
    go : (b : Bool) → read false (cond b (read false y) (stepped (read false x) (read false y) (full_beside (target_by was placed t) (read false x) (read false y)) (full_beyond (target_by is placed t) (read false x) (read false y))))
        ≡ read false (cond b y (stepped x y (full_beside (target_by was placed t) x y) (full_beyond (target_by is placed t) x y)))
    go true = read-twice false y
    go false = stepped-thin (target_by was placed t) (target_by is placed t) x y
crossed_blind false was is placed t (First Counted) = refl
crossed_blind false was is placed t (First (Gap c)) = refl
crossed_blind false was is placed t (First (Touch c n h)) = refl
crossed_blind false was is placed t (First (Make c n b)) = refl
crossed_blind false was is placed t (First (Fill c n)) = refl
crossed_blind false was is placed t (Then Counted) = refl
crossed_blind false was is placed t (Then (Gap c)) = refl
crossed_blind false was is placed t (Then (Touch c n h)) = refl
crossed_blind false was is placed t (Then (Make c n b)) = refl
crossed_blind false was is placed t (Then (Fill c n)) = refl

-- ## Over documents

module _ (D E : Document) (N : Intent) (x : IsExtendedBy D E) (f : Fits D N) (g : Fits E N) (C : Change) (S : Step) (emb : IsEmbedding D N C) (step : IsStep D E S) (new : List NodeId) (listed : ListsNew N new) where
  abbrev placed : NodeId → Nodes
  placed n = placed_by (is_new N n) new

  -- what a row holds after the intent
  row_at : (v : Verdict) (F : Document) → IsSoundInForm F → Fits F N → (m : Nodes) (n : NodeId) → row_after (placed n) (row_part m N n) (is_void v) (content F n) ≡ content (carried_document v F N) n
  row_at Verdict.Sound F s w m n = sym (whole_is F N n s w m new)
  row_at (Verdict.Need k) F s w m n = sym (void_is F N n s w m new listed)
  row_at (Verdict.Cycle k) F s w m n = sym (void_is F N n s w m new listed)
  row_at (Verdict.Schema u) F s w m n = sym (void_is F N n s w m new listed)

  moved : (n : NodeId) (a b : Slot) → Has (content D n) a → Has (content E n) b → SameCell a b → a.full ≢ b.full → step.mentioned a.node ≡ true
  moved n a b v w same q =
      let o = is_slot D n a v in
      let known : IsSome (D.nodes a.node) = subst (λ k. IsSome (D.nodes k)) (ap (λ (t : Slot). t.node) o.2) (x.before.cells_known n o.0 o.1).1 in
      (step.which a.node).1 (a.node, (known, inl (moved_apart D E n a b v w same q)), 0, refl)

  unplaced : (n k : NodeId) → is_among new k ≡ false → placed n k ≡ false
  unplaced n k e = go (is_new N n)
    where
      go : (b : Bool) → (b && is_among new k) ≡ false
      go true = e
      go false = refl

  pub crossed : (l : Bool) (v u : Verdict) (n : NodeId) (xs ys : List CellMark) → AreAlike l xs (embed_row (row_part emb.mentioned N n) (content D n)) → AreAlike l ys (step_row step.mentioned (step.grows n))
      → Led l (named_beside step.mentioned emb.mentioned (is_among new) (is_void v) (is_void u)) (content (carried_document v D N) n) (content (carried_document u E N) n)
      (crossed_row l (is_void v) (is_void u) (placed n) (put_of N) xs ys)
  crossed l v u n xs ys a b =
      let p = row_part emb.mentioned N n in
      let k = named_beside step.mentioned emb.mentioned (is_among new) (is_void v) (is_void u) in
      let before = part_fits D N emb.mentioned new n x.before f listed (λ q w. (emb.which q).1 w) in
      let after = part_fits E N (λ _. true) new n x.after g listed (λ q w. refl) in
      let r = row_crossed l p step.mentioned (placed n) (is_among new) (is_void v) (is_void u) (unplaced n) before.mentions (step.grows n)
      (groups_are_old D E N x f g emb.mentioned n (step.grows n)) before.old after.old (names_moved step.mentioned (step.grows n) (moved n)) in
      let same = alike_beside l (λ r. read l (crossed_piece (is_void v) (is_void u) (placed n) (put_of N) r)) xs ys (embed_row p (content D n)) (step_row step.mentioned (step.grows n))
      (crossed_blind l (is_void v) (is_void u) (placed n) (put_of N)) a b in
      subst (λ (c : List Slot). Led l k c (content (carried_document u E N) n) (crossed_row l (is_void v) (is_void u) (placed n) (put_of N) xs ys)) (row_at v D x.before f emb.mentioned n)
      (subst (λ (d : List Slot). Led l k (row_after (placed n) p (is_void v) (content D n)) d (crossed_row l (is_void v) (is_void u) (placed n) (put_of N) xs ys)) (row_at u E x.after g emb.mentioned n)
      (subst (Led l k (row_after (placed n) p (is_void v) (content D n)) (row_after (placed n) p (is_void u) (content E n))) (sym same) r))

-- what both count stays counted
pub counted_stays : (l was is : Bool) (placed : Nodes) (t : NodeId → Option To) → read l (crossed_piece was is placed t (Both Counted Counted)) ≡ Counted
counted_stays l true true placed t = refl
counted_stays l true false placed t = refl
counted_stays l false true placed t = refl
counted_stays l false false placed t = refl
