-- A change lists no more cells of a row than the row has after the intent.
use Rattle.std.proofs.Common.{◌≡◌, ◌≤◌, ◌<◌, ◌^◌, ◌&&◌, ℕ, true, Bool, List, [], ◌∷◌, length, nat_lt, refl, ap, ◌∙◌, inl, inr, arith}
use Rattle.std.specs.List.{list_all}
use Rattle.std.proofs.lemmas.Bool.Decides.{nat_tests}
use Rattle.st_ids.specs.Listing.{Has}
use Rattle.st_ids.specs.declared.names.NodeId.{NodeId}
use Rattle.st_marks.specs.declared.changes.Change.{Change}
use Rattle.st_marks.specs.declared.intents.Intent.{Intent}
use Rattle.st_marks.specs.declared.marks.RowMarks.{RowMarks}
use Rattle.st_marks.specs.CarryOut.{full}
use Rattle.st_marks.specs.Document.{Document, IsSoundInForm}
use Rattle.st_marks.specs.Embedding.{IsEmbedding}
use Rattle.st_marks.specs.Intent.{Fits}
use Rattle.st_marks.specs.Listings.{cells_after, cells_before}
use Rattle.st_marks.specs.Row.{CellMark, Counted, Gap, Touch, Make, Fill, spread}
use Rattle.st_rows.proofs.ShortRows.{all_after}
use Rattle.st_puts.proofs.OverDocuments.{row-look}
use Rattle.st_normal_laws.proofs.Lengths.{row-length}
use Rattle.st_normal_laws.proofs.SchemaRules.{change_obeys}
use Rattle.st_normal_texts.specs.NormalTexts.{IsNormalText, row_is_short}

few_before : (ms : List CellMark) → length (cells_before ms) ≤ length ms
few_before [] = omega arith
few_before (Counted ∷ ms) = omega (arith, few_before ms)
few_before (Gap c ∷ ms) = omega (arith, few_before ms)
few_before (Touch c n h ∷ ms) = omega (arith, few_before ms)
few_before (Make c n b ∷ ms) = omega (arith, few_before ms)
few_before (Fill c n ∷ ms) = omega (arith, few_before ms)

all_true : {T : Type 0} (p : T → Bool) (xs : List T) → ((x : T) → Has xs x → p x ≡ true) → list_all p xs ≡ true
all_true p [] h = refl
all_true p (x ∷ xs) h = rw (h x (inl refl)) (all_true p xs (λ y i. h y (inr i)))

both_fewer : (a b most : ℕ) → a < most → b < most → (nat_lt a most && nat_lt b most) ≡ true
both_fewer a b most s t = grind (arith, nat_tests)

pub normal_text : (D : Document) (N : Intent) (C : Change) → IsSoundInForm D → Fits D N → ((n : NodeId) → length ((full D N).rows n) < 2 ^ 31) → IsEmbedding D N C → IsNormalText C
normal_text D N C x f short emb = (change_obeys D N C x f (λ n. omega (arith, short n)) emb, all_true row_is_short C.rows few)
  where
    few : (r : RowMarks) → Has C.rows r → row_is_short r ≡ true
    few r h =
        let long : length (spread r.marks) ≡ length ((full D N).rows r.node) = ap length (row-look D N C x f emb r h).0 ∙ row-length D N emb.mentioned r.node in
        let s = short r.node in
        let before : length (cells_before (spread r.marks)) < 2 ^ 31 = omega (arith, few_before (spread r.marks), long, s) in
        let after : length (cells_after (spread r.marks)) < 2 ^ 31 = omega (arith, all_after (spread r.marks), long, s) in
        both_fewer (length (cells_before (spread r.marks))) (length (cells_after (spread r.marks))) (2 ^ 31) before after
