-- Two parts joined, by their lists.
use Rattle.std.specs.Prelude.{◌≡◌, ◌≢◌, ◌↔◌, ◌⊎◌, false, ◌||◌, [], ◌++◌, Option, Some, None, IfSome}
use Rattle.std.specs.List.{AllByRecursion, filter_map}
use Rattle.st_ids.specs.Listing.{AreDistinct, Has}
use Rattle.st_ids.specs.declared.names.CellId.{CellId}
use Rattle.st_ids.specs.declared.names.FieldId.{FieldId}
use Rattle.st_ids.specs.declared.names.NodeId.{NodeId}
use Rattle.st_marks.specs.declared.intents.Group.{Group}
use Rattle.st_marks.specs.declared.intents.Intent.{Intent}
use Rattle.st_marks.specs.declared.intents.Owned.{Owned}
use Rattle.st_marks.specs.declared.intents.Put.{Put}
use Rattle.st_marks.specs.Intent.{clears, group_cells, is_new, new_row_of, put_of}
use Rattle.st_marks.specs.Join.{joined_put}

-- an intent makes a cell in a node's row
abbrev pub IsMadeIn : Intent → NodeId → Owned → Type 0
IsMadeIn N n o = (new_row_of N o.cell ≡ Some n) × Has (group_cells N) o

pub record IsListedJoin (N M J : Intent) : Type 0 where
  pub rev : J.rev ≡ N.rev
  pub no_schema : J.schema ≡ None
  pub new : J.new ≡ N.new ++ M.new
  -- its cells are those of both
  pub cells : (g : Group) (o : Owned) → Has J.groups g → Has g.cells o → IsMadeIn N g.node o ⊎ IsMadeIn M g.node o
  pub first_cells : (o : Owned) → Has (group_cells N) o → Has (group_cells J) o
  pub second_cells : (o : Owned) → Has (group_cells M) o → Has (group_cells J) o
  pub cell_once : AreDistinct (λ (o : Owned). o.cell) (group_cells J)
  pub group_some : AllByRecursion (λ (g : Group). g.cells ≢ []) J.groups
  pub start_once : AreDistinct {K = NodeId × Option CellId} (λ (g : Group). (g.node, g.after)) J.groups
  pub anchor_once : AreDistinct (λ c. c) (filter_map (λ (g : Group). g.after) J.groups)
  pub anchors : AllByRecursion (λ (g : Group). IfSome g.after (λ c. (new_row_of N c ≡ None) × (new_row_of M c ≡ None))) J.groups
  pub put_once : AreDistinct (λ (q : Put). q.node) J.put
  pub puts : (n : NodeId) → put_of J n ≡ joined_put N M n
  pub clears_both : (f : FieldId) → clears J f ≡ (clears N f || clears M f)
  pub needs : (n : NodeId) → Has J.need n ↔ (Has N.need n ⊎ (Has M.need n × (is_new N n ≡ false)))
