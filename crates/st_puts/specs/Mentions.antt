-- Where nodes stand, as a table of places tells, and the nodes above them.
use Rattle.std.specs.Prelude.{◌≡◌, ◌↔◌, Bool, true, Option, unwrap_or}
use Rattle.std.specs.BTreeMap.{BTreeMap, get}
use Rattle.st_ids.specs.Order.{node_cmp}
use Rattle.st_ids.specs.declared.names.NodeId.{NodeId}
use Rattle.st_marks.specs.declared.intents.Intent.{Intent}
use Rattle.st_marks.specs.declared.places.Spot.{Spot}
use Rattle.st_marks.specs.Document.{Document, node_of}
use Rattle.st_marks.specs.Embedding.{IsMentionedByIntent}

-- where a node stands, as the table tells; nowhere, if it tells nothing
abbrev pub place_in : BTreeMap NodeId Spot → NodeId → Spot
place_in places n = unwrap_or (get node_cmp places n) Spot.Nowhere

-- the node above, as the table tells
abbrev pub above_in : BTreeMap NodeId Spot → NodeId → Option NodeId
above_in places n = node_of (place_in places n)

-- the table tells where the nodes that an intent mentions stand in a document
abbrev pub PlacesMentioned : Document → Intent → BTreeMap NodeId Spot → Type 0
PlacesMentioned E N places = (n : NodeId) → IsMentionedByIntent E N n → place_in places n ≡ E.place n

-- m are the nodes that the intent mentions in the document
abbrev pub AreMentions : Document → Intent → (NodeId → Bool) → Type 0
AreMentions E N m = (n : NodeId) → (m n ≡ true) ↔ IsMentionedByIntent E N n
