-- What the tables tell of a node, and for which commits they stand.
use Rattle.std.specs.Prelude.{◌≡◌, List, Option, Some, option_map, if◌then◌else◌}
use Rattle.std.specs.BTreeMap.{get}
use Rattle.st_ids.specs.Order.{node_cmp, rev_cmp, same_rev}
use Rattle.st_ids.specs.Root.{opening}
use Rattle.st_ids.specs.declared.names.FieldId.{FieldId}
use Rattle.st_ids.specs.declared.names.NodeId.{NodeId}
use Rattle.st_ids.specs.declared.names.Rev.{Rev}
use Rattle.st_marks.specs.Document.{Document}
use Rattle.st_marks.specs.declared.intents.Intent.{Intent}
use Rattle.st_edits.specs.Keeping.{Made, home_of, made_of}
use Rattle.st_makers.specs.declared.makers.Makers.{Makers}

-- the schema under which a node was made: the opening's where the node is the opening's, and else by the table
abbrev pub under_told : Makers → NodeId → Option Rev
under_told makers n = if same_rev n.0.rev opening then Some opening else get rev_cmp makers.unders n.0.rev

-- a node's home, by the table
abbrev pub home_told : Makers → NodeId → Option FieldId
home_told makers n = get node_cmp makers.homes n

-- the tables know the makers of the nodes of an opening document and of some commits
pub record KnowsMakers (O : Document) (Ns : List Intent) (makers : Makers) : Type 0 where
  pub unders : (n : NodeId) → under_told makers n ≡ option_map (λ (m : Made). m.under) (made_of O Ns n)
  pub homes : (n : NodeId) → home_told makers n ≡ home_of O Ns n
