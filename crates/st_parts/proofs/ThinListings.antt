-- Trimming doesn't see which empty cells a listing names: of listings that are alike but for that, so are the changes.
use Rattle.std.proofs.Common.{◌≡◌, ◌↔◌, ◌<◌, ◌^◌, Bool, true, false, List, [], ◌∷◌, ◌++◌, map, filter, length, Option, Some, None, option_map, cond, refl, sym, ap, ◌∙◌, subst}
use Rattle.std.proofs.lemmas.List.{length-map}
use Rattle.std.specs.List.{AllByRecursion, cons_option, filter_map, flat_map, list_any}
use Rattle.st_ids.specs.declared.names.NodeId.{NodeId}
use Rattle.st_kind.specs.Named.{Nodes}
use Rattle.st_marks.specs.declared.changes.Change.{Change}
use Rattle.st_marks.specs.declared.intents.Intent.{Intent}
use Rattle.st_marks.specs.declared.marks.How.TheVariants.{Stay, Here, Leave}
use Rattle.st_marks.specs.declared.marks.Loose.{Loose}
use Rattle.st_marks.specs.declared.marks.RowMarks.{RowMarks}
use Rattle.st_marks.specs.Document.{Document, IsSoundInForm}
use Rattle.st_marks.specs.Embedding.{IsMentionedByIntent, row_marks, tells}
use Rattle.st_marks.specs.Row.{CellMark, Counted, Gap, Touch, Make, Fill, merge, spread}
use Rattle.st_mention_laws.specs.Shown.{Shows, thin, thin_row, unnamed}
use Rattle.st_mention_laws.proofs.ThinForms.{alike, flat_map-told, list_any-unnamed, spread-thin}
use Rattle.st_puts.specs.inside.Spots.{stood_by}
use Rattle.st_rows.proofs.KindLaws.{spread-merge}
use Rattle.st_trim.specs.Trimmed.{trim_mark}
use Rattle.st_trim.specs.inside.Cut.{cut_row}
use Rattle.st_change_listings.specs.Places.{places_told, stood_in_register}
use Rattle.st_parts.specs.Short.{HasShortRowsListed}
use Rattle.st_parts.specs.TrimmedChange.{ListsChange}
use Rattle.st_parts.specs.inside.Cut.{IsCutTo, tells_register}
use Rattle.st_parts.proofs.CutChanges.{cut_trims}
use Rattle.st_parts.proofs.TrimmedChanges.{trimmed_change}

-- ## Who stands where, as a listing tells

places_thin : (C : Change) → places_told (thin C) ≡ places_told C
places_thin C = λ i. flat_map-told stood_by (λ n k. refl) (λ n c. refl) C.rows i ++ flat_map stood_in_register C.regs

pub same_places : (X G : Change) → thin X ≡ thin G → places_told X ≡ places_told G
same_places X G e = alike places_told places_thin X G e

-- ## What is left of rows

mark_unnamed : (k : Nodes) (m : CellMark) → trim_mark k (unnamed m) ≡ unnamed (trim_mark k m)
mark_unnamed k Counted = refl
mark_unnamed k (Gap c) = refl
mark_unnamed k (Touch c n Stay) = go (k n)
  where
    go : (b : Bool) → cond b (Touch c n Stay) Counted ≡ unnamed (cond b (Touch c n Stay) Counted)
    go true = refl
    go false = refl
mark_unnamed k (Touch c n Here) = refl
mark_unnamed k (Touch c n Leave) = refl
mark_unnamed k (Make c n b) = refl
mark_unnamed k (Fill c n) = refl

cells_unnamed : (k : Nodes) (cells : List CellMark) → map (trim_mark k) (map unnamed cells) ≡ map unnamed (map (trim_mark k) cells)
cells_unnamed k [] = refl
cells_unnamed k (m ∷ ms) = λ i. mark_unnamed k m i ∷ cells_unnamed k ms i

marks_unnamed : (n : NodeId) (cells : List CellMark) → row_marks n (map unnamed cells) ≡ option_map thin_row (row_marks n cells)
marks_unnamed n cells = ap (λ b. cond b (Some (record { node = n; marks = merge (map unnamed cells) })) None) (list_any-unnamed tells refl (λ c. refl) cells) ∙ go (list_any tells cells)
  where
    go : (b : Bool) → cond {A = Option RowMarks} b (Some (record { node = n; marks = merge (map unnamed cells) })) None ≡ option_map thin_row (cond b (Some (record { node = n; marks = merge cells })) None)
    go true = λ i. Some (record { node = n; marks = merge (map unnamed (sym (spread-merge cells) i)) })
    go false = refl

row_cut : (k : Nodes) (r : RowMarks) → cut_row k (thin_row r) ≡ option_map thin_row (cut_row k r)
row_cut k r = ap (λ cells. row_marks r.node (map (trim_mark k) cells)) (spread-thin r.marks) ∙ ap (row_marks r.node) (cells_unnamed k (spread r.marks)) ∙ marks_unnamed r.node (map (trim_mark k) (spread r.marks))

rows_cut : (k : Nodes) (rows : List RowMarks) → filter_map (cut_row k) (map thin_row rows) ≡ map thin_row (filter_map (cut_row k) rows)
rows_cut k [] = refl
rows_cut k (r ∷ rows) = (λ i. cons_option (row_cut k r i) (rows_cut k rows i)) ∙ go (cut_row k r) (filter_map (cut_row k) rows)
  where
    go : (o : Option RowMarks) (xs : List RowMarks) → cons_option (option_map thin_row o) (map thin_row xs) ≡ map thin_row (cons_option o xs)
    go None xs = refl
    go (Some r) xs = refl

-- ## As many cells are listed

abbrev AreShort : List RowMarks → Type 0
AreShort rows = AllByRecursion (λ (r : RowMarks). length (spread r.marks) < 2 ^ 32) rows

length-thin : (r : RowMarks) → length (spread (thin_row r).marks) ≡ length (spread r.marks)
length-thin r = ap length (spread-thin r.marks) ∙ length-map (spread r.marks) unnamed

thin_short : (rows : List RowMarks) → AreShort rows → AreShort (map thin_row rows)
thin_short [] a = tt
thin_short (r ∷ rows) a = (subst (λ n. n < 2 ^ 32) (sym (length-thin r)) a.0, thin_short rows a.1)

short_thin : (rows : List RowMarks) → AreShort (map thin_row rows) → AreShort rows
short_thin [] a = tt
short_thin (r ∷ rows) a = (subst (λ n. n < 2 ^ 32) (length-thin r) a.0, short_thin rows a.1)

pub same_short : (X G : Change) → thin X ≡ thin G → HasShortRowsListed G → HasShortRowsListed X
same_short X G e short = short_thin X.rows (subst AreShort (ap (λ (C : Change). C.rows) (sym e)) (thin_short G.rows short))

-- ## The whole listing

-- G with k alone named
abbrev cut_of : Nodes → Change → Change
cut_of k G = record G { rows = filter_map (cut_row k) G.rows; regs = filter (tells_register k) G.regs; loose = filter (λ (l : Loose). k l.node) G.loose }

cut_thin : (k : Nodes) (G : Change) → thin (cut_of k G) ≡ cut_of k (thin G)
cut_thin k G = λ i. record (cut_of k G) { rows = sym (rows_cut k G.rows) i }

is_cut : (k : Nodes) (G T : Change) → IsCutTo k G T → T ≡ cut_of k G
is_cut k G T c = λ i. record { rev = c.rev i; under = c.under i; base = c.base i; need = c.need i; new = c.new i; rows = c.rows i; regs = c.regs i; loose = c.loose i; schema = c.schema i }

-- what is left of X shows the change of which G tells
pub trimmed_shows : (D : Document) (N : Intent) (K k : Nodes) (G : Change) → IsSoundInForm D → ListsChange D N K G → (X T : Change) → thin X ≡ thin G
    → ((n : NodeId) → (k n ≡ true) ↔ IsMentionedByIntent D N n) → IsCutTo k X T → Shows D N T
trimmed_shows D N K k G x l X T e which cut = (
  cut_of k G,
  trimmed_change D N K k G (cut_of k G) x l which (cut_trims D N K k G (cut_of k G) l (record { rev = refl; under = refl; base = refl; schema = refl; need = refl; new = refl; rows = refl; regs = refl; loose = refl })),
  ap thin (is_cut k X T cut) ∙ cut_thin k X ∙ ap (cut_of k) e ∙ sym (cut_thin k G),
)
