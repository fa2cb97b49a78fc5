-- Listings of changes that may name more than is asked, and what of them is said of fewer nodes.
use Rattle.std.specs.Prelude.{◌≡◌, ◌↔◌, ◌||◌, true, false, Option, Some, None, IsTrue, MatchOption, option_and_then, if◌then◌else◌}
use Rattle.std.specs.List.{list_any}
use Rattle.st_ids.specs.Listing.{IsListing, IsRising, item_of}
use Rattle.st_ids.specs.Order.{field_cmp, node_cmp}
use Rattle.st_ids.specs.declared.names.FieldId.{FieldId}
use Rattle.st_ids.specs.declared.names.NodeId.{NodeId}
use Rattle.st_kind.specs.Named.{Nodes}
use Rattle.st_marks.specs.declared.changes.Change.{Change}
use Rattle.st_marks.specs.declared.changes.NewNode.{NewNode}
use Rattle.st_marks.specs.declared.intents.Intent.{Intent}
use Rattle.st_marks.specs.declared.marks.Loose.{Loose}
use Rattle.st_marks.specs.declared.marks.RegMark.{RegMark}
use Rattle.st_marks.specs.declared.marks.RowMarks.{RowMarks}
use Rattle.st_marks.specs.Document.{Document, content}
use Rattle.st_marks.specs.Embedding.{IsMentionedByIntent, embed_loose, is_among, register_part, row_part, tells}
use Rattle.st_marks.specs.Intent.{clears, new_node, put_in}
use Rattle.st_marks.specs.Register.{comes_in, embed_register, holds_mentioned, how_held}
use Rattle.st_marks.specs.Row.{embed_row, merge}
use Rattle.st_marks.specs.Verdict.{IsBaseInEffect}
use Rattle.st_trim.specs.Trimmed.{trim_loose, trim_row}

-- what a change says of a register that it lists
abbrev pub mark_of : Document → Intent → FieldId → RegMark
mark_of D N f = record { field = f; held = D.held f; how = how_held f (register_part (λ n. true) N f) (D.held f); clear = clears N f; fill = comes_in (D.held f) (put_in N f) }

-- G lists the change of N in D with the nodes of K named, perhaps more than N mentions. A row or register may be listed though
-- it tells nothing; one that tells something is listed
pub record ListsChange (D : Document) (N : Intent) (K : Nodes) (G : Change) : Type 0 where
  pub covers : (n : NodeId) → IsMentionedByIntent D N n → K n ≡ true
  pub rev : G.rev ≡ N.rev
  pub under : G.under ≡ N.under
  pub base : IsTrue G.base ↔ IsBaseInEffect D N
  pub schema : G.schema ≡ N.schema
  pub need : IsListing node_cmp (λ (n : NodeId). n) G.need (λ n. if is_among N.need n then Some n else None)
  pub new : IsListing node_cmp (λ (m : NewNode). m.node) G.new (new_node N)
  pub rows_rise : IsRising node_cmp (λ (r : RowMarks). r.node) G.rows
  pub rows : (n : NodeId) → MatchOption (item_of node_cmp (λ (r : RowMarks). r.node) G.rows n)
      (list_any tells (embed_row (row_part K N n) (content D n)) ≡ false) (λ r. r.marks ≡ merge (embed_row (row_part K N n) (content D n)))
  pub regs_rise : IsRising field_cmp (λ (r : RegMark). r.field) G.regs
  pub regs : (f : FieldId) → MatchOption (item_of field_cmp (λ (r : RegMark). r.field) G.regs f)
      (embed_register f (register_part K N f) (D.held f) ≡ None) (λ r. r ≡ mark_of D N f)
  pub loose : IsListing node_cmp (λ (l : Loose). l.node) G.loose (embed_loose K D N)

-- a register, if it is cleared or holds one of k
abbrev pub trim_mark_of : Nodes → Option RegMark → Option RegMark
trim_mark_of k o = option_and_then (λ (r : RegMark). if r.clear || holds_mentioned k r.held then Some r else None) o

-- T is G with k alone named
pub record IsChangeTrimmedTo (k : Nodes) (G T : Change) : Type 0 where
  pub rev : T.rev ≡ G.rev
  pub under : T.under ≡ G.under
  pub base : T.base ≡ G.base
  pub schema : T.schema ≡ G.schema
  pub need : T.need ≡ G.need
  pub new : T.new ≡ G.new
  pub rows : IsListing node_cmp (λ (r : RowMarks). r.node) T.rows (λ n. trim_row k n (item_of node_cmp (λ (r : RowMarks). r.node) G.rows n))
  pub regs : IsListing field_cmp (λ (r : RegMark). r.field) T.regs (λ f. trim_mark_of k (item_of field_cmp (λ (r : RegMark). r.field) G.regs f))
  pub loose : IsListing node_cmp (λ (m : Loose). m.node) T.loose (λ n. trim_loose k (item_of node_cmp (λ (m : Loose). m.node) G.loose n))
