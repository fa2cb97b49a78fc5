-- Two intents in turn, as one.
use Rattle.std.specs.Prelude.{◌≡◌, ◌↔◌, ◌⊎◌, Bool, false, ◌||◌, ◌++◌, Option, Some, None, option_and_then, if◌then◌else◌}
use Rattle.std.specs.Option.{option_or, option_map}
use Rattle.st_ids.specs.Listing.{Has}
use Rattle.st_ids.specs.declared.names.CellId.{CellId}
use Rattle.st_ids.specs.declared.names.FieldId.{FieldId}
use Rattle.st_ids.specs.declared.names.NodeId.{NodeId}
use Rattle.st_marks.specs.declared.intents.Intent.{Intent}
use Rattle.st_marks.specs.declared.intents.To.{To}
use Rattle.st_marks.specs.Document.{Document, above, ClimbsToAnEnd}
use Rattle.st_marks.specs.Intent.{IsIntent, Fits, new_node, is_new, put_of, clears, group_at, new_row_of}
use Rattle.st_marks.specs.CarryOut.{full, with_groups}

-- the node above in the document after both, where each of the two nodes is new in one of the intents
abbrev pub above_made : Document → Intent → Intent → NodeId → Option NodeId
above_made D N M n = if is_made n then option_and_then (λ p. if is_made p then Some p else None) (above (full (full D N) M) n) else None
  where
    is_made : NodeId → Bool
    is_made x = is_new N x || is_new M x

-- M is a later part of the commit of which N is the first
pub record AreParts (D : Document) (N M : Intent) : Type 0 where
  pub first_fits : Fits D N
  pub then_fits : Fits (full D N) M
  pub no_schema : (N.schema ≡ None) × (M.schema ≡ None)
  pub one_rev : M.rev ≡ N.rev
  pub one_under : M.under ≡ N.under
  -- the nodes that they make form no ring among themselves
  pub no_ring : (n : NodeId) → ClimbsToAnEnd (above_made D N M) n

-- a put of a node; one that would lead a new node nowhere is left out
abbrev pub put_unless_new : Bool → To → Option To
put_unless_new new To.Nowhere = if new then None else Some To.Nowhere
put_unless_new new (To.Cell c) = Some (To.Cell c)
put_unless_new new (To.Register f) = Some (To.Register f)

-- a put of the first part: one into a register that the second clears leads nowhere
abbrev pub unless_cleared_by : Intent → To → To
unless_cleared_by M To.Nowhere = To.Nowhere
unless_cleared_by M (To.Cell c) = To.Cell c
unless_cleared_by M (To.Register f) = if clears M f then To.Nowhere else To.Register f

-- where both parts together put a node: where the second puts it, or else where the first does
abbrev pub joined_put : Intent → Intent → NodeId → Option To
joined_put N M n = option_and_then (put_unless_new (is_new N n)) (option_or (put_of M n) (option_map (unless_cleared_by M) (put_of N n)))

-- a row's start, or a cell that the first part doesn't make
abbrev pub IsOldAnchor : Intent → Option CellId → Type 0
IsOldAnchor N None = Unit {0}
IsOldAnchor N (Some c) = new_row_of N c ≡ None

-- J is both parts in turn, as one intent
pub record IsJoin (N M J : Intent) : Type 0 where
  pub itself : IsIntent J
  pub rev : J.rev ≡ N.rev
  pub under : J.under ≡ N.under
  pub no_schema : J.schema ≡ None
  pub new_nodes : (n : NodeId) → new_node J n ≡ option_or (new_node N n) (new_node M n)
  -- after an anchor stands the second's group, and then the first's, in which the second's groups stand after their anchors
  pub groups : (n : NodeId) (a : Option CellId) → IsOldAnchor N a → group_at J n a ≡ group_at M n a ++ with_groups M n (group_at N n a)
  pub puts : (n : NodeId) → put_of J n ≡ joined_put N M n
  pub clears_both : (f : FieldId) → clears J f ≡ (clears N f || clears M f)
  -- a node that the first makes isn't needed
  pub needs : (n : NodeId) → Has J.need n ↔ (Has N.need n ⊎ (Has M.need n × (is_new N n ≡ false)))
