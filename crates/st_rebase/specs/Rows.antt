-- What a row of a change becomes over what is left of a step: what the law of rows says, for every part of the commit.
use Rattle.std.specs.Prelude.{◌≡◌, List, Option, Some, None}
use Rattle.st_ids.specs.declared.names.NodeId.{NodeId}
use Rattle.st_ids.specs.declared.names.Rev.{Rev}
use Rattle.st_kind.specs.Named.{Nodes}
use Rattle.st_marks.specs.declared.marks.RowMarks.{RowMarks}
use Rattle.st_marks.specs.declared.places.Slot.{Slot}
use Rattle.st_marks.specs.Embedding.{is_among}
use Rattle.st_marks.specs.Row.{embed_row, merge, spread}
use Rattle.st_rows.specs.Sequence.{SeqPart, RowFits, RowKeeps, RowLeadsOver}
use Rattle.st_rebase.specs.Rest.{rest_row}

-- the part is one of the commit of this revision that makes these nodes, of a node's row
abbrev pub IsRowPartOf : Rev → List NodeId → NodeId → SeqPart → Type 0
IsRowPartOf rev new n p = (p.rev ≡ rev) × (p.in_new ≡ is_among new n) × (p.new ≡ new)

-- what is left of a step's row, with the nodes of m there already, leads from one row to another and names k; of a row that
-- the step doesn't list nothing is left
abbrev pub RestLeads : Nodes → Nodes → Option RowMarks → List Slot → List Slot → Type 0
RestLeads m k None c d = c ≡ d
RestLeads m k (Some s) c d = RowLeadsOver k c d (merge (rest_row m (spread s.marks)))

-- a row of a change becomes another over what is left of a step's row: where it says what a part wants of one row, and the
-- rest leads from there to another, the other says what the part wants there
abbrev pub RowBecomes : Rev → List NodeId → Nodes → Option RowMarks → RowMarks → RowMarks → Type 0
RowBecomes rev new m step r t = (p : SeqPart) (k : Nodes) (c d : List Slot)
    → IsRowPartOf rev new r.node p → RowFits p c → RowFits p d → RowKeeps p.part c d
    → r.marks ≡ merge (embed_row p.part c) → RestLeads m k step c d → t.marks ≡ merge (embed_row p.part d)
