-- Trimming doesn't see which empty cells a listing names: of listings that are alike but for that, so are the steps.
use Rattle.std.proofs.Common.{◌≡◌, ◌<◌, ◌^◌, Bool, true, false, List, [], ◌∷◌, ◌++◌, map, filter, length, Option, Some, None, option_map, cond, refl, sym, ap, ◌∙◌, subst}
use Rattle.std.proofs.lemmas.List.{length-map}
use Rattle.std.specs.List.{cons_option, filter_map, flat_map, list_any}
use Rattle.st_ids.specs.Listing.{Has}
use Rattle.st_ids.specs.declared.names.NodeId.{NodeId}
use Rattle.st_kind.specs.Named.{Nodes}
use Rattle.st_marks.specs.declared.marks.How.TheVariants.{Stay, Here, Leave}
use Rattle.st_marks.specs.declared.marks.Loose.{Loose}
use Rattle.st_marks.specs.declared.marks.Mark.{Mark}
use Rattle.st_marks.specs.declared.marks.RowMarks.{RowMarks}
use Rattle.st_marks.specs.declared.steps.Step.{Step}
use Rattle.st_marks.specs.Document.{Document}
use Rattle.st_marks.specs.Embedding.{is_among, row_marks, tells}
use Rattle.st_marks.specs.Extends.{IsExtendedBy}
use Rattle.st_marks.specs.Listings.{nodes_new, one_or_none}
use Rattle.st_marks.specs.Row.{CellMark, Counted, Gap, Touch, Make, Fill, merge, spread}
use Rattle.st_marks.proofs.Members.{has-map, map-has}
use Rattle.st_mention_laws.specs.Shown.{ShowsStep, thin_row, thin_step, unnamed}
use Rattle.st_mention_laws.proofs.ThinForms.{alike_step, flat_map-marks, flat_map-rows, flat_map-told, list_any-marks, list_any-unnamed, spread-thin}
use Rattle.st_puts.specs.inside.Spots.{stood_by}
use Rattle.st_rows.proofs.KindLaws.{spread-merge}
use Rattle.st_trim.specs.Trimmed.{AreMentionedByStep, ListsStep, trim_mark}
use Rattle.st_trim.specs.inside.Cut.{AreShort, IsCutTo, cut_row, tells_register}
use Rattle.st_trim.specs.inside.Told.{changes_by_register, changes_by_row, changes_told, differs, leaver, loose_leaver, stood_before, stood_in_register, unless_in}
use Rattle.st_trim.proofs.CutItems.{cut_trims}
use Rattle.st_trim.proofs.ListingItems.{rows_are_short}
use Rattle.st_trim.proofs.TrimmedSteps.{listing_trimmed}

-- ## What is read off a listing

stood_thin : (S : Step) → stood_before (thin_step S) ≡ stood_before S
stood_thin S = λ i. flat_map-told stood_by (λ n k. refl) (λ n c. refl) S.rows i ++ flat_map stood_in_register S.regs

pub same_stood : (X G : Step) → thin_step X ≡ thin_step G → stood_before X ≡ stood_before G
same_stood X G e = alike_step stood_before stood_thin X G e

row_changes : (new : Nodes) (r : RowMarks) → changes_by_row new (thin_row r) ≡ changes_by_row new r
row_changes new r = λ i. flat_map-marks (λ (m : Mark). one_or_none (leaver m)) (λ k. refl) (λ c. refl) r.marks i
    ++ one_or_none (cond (list_any-marks differs (λ k. refl) (λ c. refl) r.marks i) (unless_in new r.node) None)

-- all nodes that differ
abbrev all_changes : Step → List NodeId
all_changes S = changes_told (is_among (nodes_new S.new)) S

changes_thin : (S : Step) → all_changes (thin_step S) ≡ all_changes S
changes_thin S =
    let new = is_among (nodes_new S.new) in
    λ i. flat_map-rows (changes_by_row new) (row_changes new) S.rows i
    ++ flat_map (changes_by_register new) S.regs ++ flat_map (λ (l : Loose). one_or_none (loose_leaver new l)) S.loose

pub same_changes : (X G : Step) → thin_step X ≡ thin_step G → changes_told (is_among (nodes_new X.new)) X ≡ changes_told (is_among (nodes_new G.new)) G
same_changes X G e = alike_step all_changes changes_thin X G e

-- ## What is left of rows

mark_unnamed : (k : Nodes) (m : CellMark) → trim_mark k (unnamed m) ≡ unnamed (trim_mark k m)
mark_unnamed k Counted = refl
mark_unnamed k (Gap c) = refl
mark_unnamed k (Touch c n Stay) = go (k n)
  where
    go : (b : Bool) → cond b (Touch c n Stay) Counted ≡ unnamed (cond b (Touch c n Stay) Counted)
    go true = refl
    go false = refl
mark_unnamed k (Touch c n Here) = refl
mark_unnamed k (Touch c n Leave) = refl
mark_unnamed k (Make c n b) = refl
mark_unnamed k (Fill c n) = refl

cells_unnamed : (k : Nodes) (cells : List CellMark) → map (trim_mark k) (map unnamed cells) ≡ map unnamed (map (trim_mark k) cells)
cells_unnamed k [] = refl
cells_unnamed k (m ∷ ms) = λ i. mark_unnamed k m i ∷ cells_unnamed k ms i

marks_unnamed : (n : NodeId) (cells : List CellMark) → row_marks n (map unnamed cells) ≡ option_map thin_row (row_marks n cells)
marks_unnamed n cells = ap (λ b. cond b (Some (record { node = n; marks = merge (map unnamed cells) })) None) (list_any-unnamed tells refl (λ c. refl) cells) ∙ go (list_any tells cells)
  where
    go : (b : Bool) → cond {A = Option RowMarks} b (Some (record { node = n; marks = merge (map unnamed cells) })) None ≡ option_map thin_row (cond b (Some (record { node = n; marks = merge cells })) None)
    go true = λ i. Some (record { node = n; marks = merge (map unnamed (sym (spread-merge cells) i)) })
    go false = refl

row_cut : (k : Nodes) (r : RowMarks) → cut_row k (thin_row r) ≡ option_map thin_row (cut_row k r)
row_cut k r = ap (λ cells. row_marks r.node (map (trim_mark k) cells)) (spread-thin r.marks) ∙ ap (row_marks r.node) (cells_unnamed k (spread r.marks)) ∙ marks_unnamed r.node (map (trim_mark k) (spread r.marks))

rows_cut : (k : Nodes) (rows : List RowMarks) → filter_map (cut_row k) (map thin_row rows) ≡ map thin_row (filter_map (cut_row k) rows)
rows_cut k [] = refl
rows_cut k (r ∷ rows) = (λ i. cons_option (row_cut k r i) (rows_cut k rows i)) ∙ go (cut_row k r) (filter_map (cut_row k) rows)
  where
    go : (o : Option RowMarks) (xs : List RowMarks) → cons_option (option_map thin_row o) (map thin_row xs) ≡ map thin_row (cons_option o xs)
    go None xs = refl
    go (Some r) xs = refl

-- a row counts as many cells as before
length-thin : (r : RowMarks) → length (spread (thin_row r).marks) ≡ length (spread r.marks)
length-thin r = ap length (spread-thin r.marks) ∙ length-map (spread r.marks) unnamed

short_too : (xs rows : List RowMarks) → map thin_row xs ≡ map thin_row rows → AreShort rows → AreShort xs
short_too xs rows e short r h =
    let other = has-map thin_row rows (thin_row r) (subst (λ l. Has l (thin_row r)) e (map-has thin_row xs r h)) in
    subst (λ n. n < 2 ^ 32) (sym (length-thin other.0) ∙ ap (λ (q : RowMarks). length (spread q.marks)) other.2 ∙ length-thin r) (short other.0 other.1)

-- ## The whole listing

-- G with k alone named
abbrev cut_of : Nodes → Step → Step
cut_of k G = record { new = G.new; rows = filter_map (cut_row k) G.rows; regs = filter (tells_register k) G.regs; loose = filter (λ (l : Loose). k l.node) G.loose; schema = G.schema }

cut_thin : (k : Nodes) (G : Step) → thin_step (cut_of k G) ≡ cut_of k (thin_step G)
cut_thin k G = λ i. record { new = G.new; rows = sym (rows_cut k G.rows) i; regs = filter (tells_register k) G.regs; loose = filter (λ (l : Loose). k l.node) G.loose; schema = G.schema }

is_cut : (k : Nodes) (G T : Step) → AreShort G.rows → IsCutTo k G T → T ≡ cut_of k G
is_cut k G T short c = λ i. record { new = c.new i; rows = c.rows short i; regs = c.regs i; loose = c.loose i; schema = c.schema i }

module _ (D E : Document) (K k : Nodes) (G : Step) (x : IsExtendedBy D E) (l : ListsStep D E K G) (X T : Step) (e : thin_step X ≡ thin_step G) (cut : IsCutTo k X T) where
  same : T ≡ cut_of k X
  same = is_cut k X T (short_too X.rows G.rows (ap (λ (S : Step). S.rows) e) (rows_are_short D E K G x l)) cut

  -- what is left of X shows the step of which G tells
  pub trimmed_shows : AreMentionedByStep D E k → ShowsStep D E T
  trimmed_shows w = (
    cut_of k G,
    listing_trimmed D E K k G (cut_of k G) l w (cut_trims D E K k G (cut_of k G) x l (record { schema = refl; new = refl; rows = λ h. refl; regs = refl; loose = refl })),
    ap thin_step same ∙ cut_thin k X ∙ ap (cut_of k) e ∙ sym (cut_thin k G),
  )

  -- and names no empty cell where X names none
  pub trimmed_thin : thin_step X ≡ X → thin_step T ≡ T
  trimmed_thin h = ap thin_step same ∙ cut_thin k X ∙ ap (cut_of k) h ∙ sym same
