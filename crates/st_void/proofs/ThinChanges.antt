-- What a change shows, and its verdict, is the same where changes are alike but for which empty cells they name.
use Rattle.std.proofs.Common.{◌≡◌, ◌⊎◌, false, List, ◌++◌, map, Option, Some, option_map, refl, sym, ap, subst}
use Rattle.std.specs.List.{find, flat_map, list_any}
use Rattle.std.specs.Option.{option_or}
use Rattle.st_ids.specs.Listing.{Has}
use Rattle.st_ids.specs.Order.{same_node}
use Rattle.st_ids.specs.Root.{root}
use Rattle.st_ids.specs.declared.names.CellId.{CellId}
use Rattle.st_ids.specs.declared.names.NodeId.{NodeId}
use Rattle.st_marks.specs.declared.changes.Change.{Change}
use Rattle.st_marks.specs.declared.intents.Intent.{Intent}
use Rattle.st_marks.specs.declared.marks.RegMark.{RegMark}
use Rattle.st_marks.specs.declared.marks.RowMarks.{RowMarks}
use Rattle.st_marks.specs.Document.{Document, IsSoundInForm, Reaches}
use Rattle.st_marks.specs.Intent.{Fits, same_option}
use Rattle.st_marks.specs.Row.{Counted, Gap, spread}
use Rattle.st_marks.specs.Verdict.{IsAboveItself, IsUnmetNeed}
use Rattle.st_mention_laws.specs.Shown.{Shows, thin, thin_row}
use Rattle.st_mention_laws.proofs.ThinForms.{alike, find-rows, flat_map-cells, flat_map-rows, list_any-cells}
use Rattle.st_doc.specs.inside.Ahead.{IsLeastOf}
use Rattle.st_void.specs.declared.standing.When.{When}
use Rattle.st_void.specs.Standing.{IsShownLive, above_shown, held_by, stands}
use Rattle.st_void.specs.inside.Puts.{IsLeastRing, put_by, put_into, puts_shown}
use Rattle.st_void.proofs.VerdictTrue.{ring_true, unmet_true}

-- a counted cell and an empty one show no node
counted : (w : When) (n : NodeId) → stands w n Counted ≡ false
counted When.Before n = refl
counted When.After n = refl

empty : (w : When) (n : NodeId) (c : CellId) → stands w n (Gap c) ≡ false
empty When.Before n c = refl
empty When.After n c = refl

row_above : (w : When) (n : NodeId) (rows : List RowMarks)
    → option_map (λ (r : RowMarks). r.node) (find (λ (r : RowMarks). list_any (stands w n) (spread r.marks)) (map thin_row rows))
    ≡ option_map (λ (r : RowMarks). r.node) (find (λ (r : RowMarks). list_any (stands w n) (spread r.marks)) rows)
row_above w n rows = find-rows (λ (r : RowMarks). list_any (stands w n) (spread r.marks)) (λ (r : RowMarks). r.node) (λ r. list_any-cells (stands w n) (counted w n) (empty w n) r.marks) (λ r. refl) rows

above_thin : (w : When) (C : Change) → above_shown w (thin C) ≡ above_shown w C
above_thin w C = λ i n. option_or (row_above w n C.rows i)
    (option_map (λ (r : RegMark). r.field.node) (find (λ (r : RegMark). same_option same_node (held_by w r) (Some n)) C.regs))

-- the node above each node
pub same_above : (w : When) (x c : Change) → thin x ≡ thin c → above_shown w x ≡ above_shown w c
same_above w x c e = alike (above_shown w) (above_thin w) x c e

puts_thin : (C : Change) → puts_shown (thin C) ≡ puts_shown C
puts_thin C = λ i. flat_map-rows (λ (r : RowMarks). flat_map put_by (spread r.marks)) (λ r. flat_map-cells put_by refl (λ c. refl) r.marks) C.rows i ++ flat_map put_into C.regs

-- the nodes that are put
pub same_puts : (x c : Change) → thin x ≡ thin c → puts_shown x ≡ puts_shown c
same_puts x c e = alike puts_shown puts_thin x c e

pub base_of : (x c : Change) → thin x ≡ thin c → x.base ≡ c.base
base_of x c e = ap (λ (C : Change). C.base) e

pub under_of : (x c : Change) → thin x ≡ thin c → x.under ≡ c.under
under_of x c e = ap (λ (C : Change). C.under) e

-- ## What is decided from what shows a change is so in the document where it stands

module _ (D : Document) (N : Intent) (x : Change) (s : IsSoundInForm D) (f : Fits D N) (shows : Shows D N x) where
  -- whether a node is live
  pub to_live : (n : NodeId) → IsShownLive x n → IsShownLive shows.0 n
  to_live n = subst (λ up. (n ≡ root) ⊎ Reaches up n root) (same_above When.Before x shows.0 shows.2)

  pub from_live : (n : NodeId) → IsShownLive shows.0 n → IsShownLive x n
  from_live n = subst (λ up. (n ≡ root) ⊎ Reaches up n root) (sym (same_above When.Before x shows.0 shows.2))

  pub unmet_shown : (o : Option NodeId) → IsLeastOf (λ n. Has x.need n × (IsShownLive x n → ⊥)) o → IsLeastOf (IsUnmetNeed D N) o
  unmet_shown o h = unmet_true D N shows.0 s f shows.1 o (subst (λ (q : List NodeId × (NodeId → Option NodeId)). IsLeastOf (λ n. Has q.0 n × ((n ≡ root) ⊎ Reaches q.1 n root → ⊥)) o)
      (λ i. (ap (λ (C : Change). C.need) shows.2 i, same_above When.Before x shows.0 shows.2 i)) h)

  pub ring_shown : (o : Option NodeId) → IsLeastRing x (puts_shown x) o → IsLeastOf (IsAboveItself D N) o
  ring_shown o h = ring_true D N shows.0 s f shows.1 o (subst (λ (q : List NodeId × (NodeId → Option NodeId)). IsLeastOf (λ n. Has q.0 n × Reaches q.1 n n) o)
      (λ i. (same_puts x shows.0 shows.2 i, same_above When.After x shows.0 shows.2 i)) h)
