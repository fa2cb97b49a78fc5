-- A whole change laid beside a step: what it is in the document between.
use Rattle.std.specs.Prelude.{◌≡◌}
use Rattle.st_ids.specs.Listing.{IsListing, item_of}
use Rattle.st_ids.specs.Order.{field_cmp, node_cmp}
use Rattle.st_kind.specs.Named.{Nodes}
use Rattle.st_marks.specs.declared.changes.Change.{Change}
use Rattle.st_marks.specs.declared.intents.Intent.{Intent}
use Rattle.st_marks.specs.declared.marks.Loose.{Loose}
use Rattle.st_marks.specs.declared.marks.RegMark.{RegMark}
use Rattle.st_marks.specs.declared.marks.RegStep.{RegStep}
use Rattle.st_marks.specs.declared.marks.RowMarks.{RowMarks}
use Rattle.st_marks.specs.declared.steps.Step.{Step}
use Rattle.st_marks.specs.Document.{Document, content}
use Rattle.st_marks.specs.Embedding.{IsEmbedding, embed_loose, row_marks, row_part}
use Rattle.st_marks.specs.Intent.{put_of}
use Rattle.st_marks.specs.Row.{embed_row, step_row}
use Rattle.st_marks.specs.Step.{IsStep}
use Rattle.st_moves.specs.Between.{between}
use Rattle.st_moves.specs.Carried.{carried_register, carry_row}

-- two changes are of one commit: all is alike but what they say of fields and loose nodes, and of the schema in effect
pub record AreOfOneCommit (X Y : Change) : Type 0 where
  pub rev : Y.rev ≡ X.rev
  pub under : Y.under ≡ X.under
  pub schema : Y.schema ≡ X.schema
  pub need : Y.need ≡ X.need
  pub new : Y.new ≡ X.new

-- X is the change C laid beside the step S, field by field, so that the nodes of m go where the step puts them
pub record IsCarriedBy {D E : Document} {N : Intent} {C : Change} {S : Step} (change : IsEmbedding D N C) (step : IsStep D E S) (m : Nodes) (X : Change) : Type 0 where
  pub commit : AreOfOneCommit C X
  -- no schema has come into effect yet
  pub base : X.base ≡ C.base
  pub rows : IsListing node_cmp (λ (r : RowMarks). r.node) X.rows
      (λ n. row_marks n (carry_row (put_of N) m (embed_row (row_part change.mentioned N n) (content D n)) (step_row step.mentioned (step.grows n))))
  pub regs : IsListing field_cmp (λ (r : RegMark). r.field) X.regs
      (λ f. carried_register f (put_of N) m (item_of field_cmp (λ (r : RegMark). r.field) C.regs f) (item_of field_cmp (λ (r : RegStep). r.field) S.regs f))
  pub loose : IsListing node_cmp (λ (l : Loose). l.node) X.loose (embed_loose m E N)

-- X is the change of the intent in the document between, where the nodes of m stand as later, and mentions those
abbrev pub IsChangeBetween : Document → Document → Intent → Nodes → Change → Type 0
IsChangeBetween D E N m X = (e : IsEmbedding (between m D E) N X) × (e.mentioned ≡ m)
