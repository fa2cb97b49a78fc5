-- Where a cursor stands in the tree that a document shows.
use Rattle.std.specs.Prelude.{◌≡◌, ◌⊎◌, ◌+◌, ◌++◌, ℕ, List, [], ◌∷◌, Some, None, IsSome, MatchOption}
use Rattle.st_edits.specs.Paths.{child}
use Rattle.st_edits.specs.Resolve.{rule_at}
use Rattle.st_forest.specs.Stands.{StandsFor}
use Rattle.st_ids.specs.Root.{root}
use Rattle.st_ids.specs.declared.names.Key.{Key}
use Rattle.st_ids.specs.declared.names.NodeId.{NodeId}
use Rattle.st_ids.specs.declared.names.Place.{Place}
use Rattle.st_marks.specs.Document.{Document}
use Rattle.st_cursor.specs.declared.cursor.Cursor.{Cursor}
use Rattle.st_cursor.specs.declared.hops.Hop.{Hop}

-- each hop leads from the node before it to its own: that is what the document shows at its place
abbrev pub Leads : Document → NodeId → List Hop → Type 0
Leads D n [] = Unit {0}
Leads D n (h ∷ hs) = (child D n h.place ≡ Some h.node) × Leads D h.node hs

-- the node to which hops lead
abbrev pub end_of : NodeId → List Hop → NodeId
end_of n [] = n
end_of n (h ∷ hs) = end_of h.node hs

-- the node at which a cursor stands, or in whose field it is
abbrev pub node_of : Cursor → NodeId
node_of c = end_of root c.hops

-- it goes over the tables of the document, and its hops lead down from the root
pub record IsIn (D : Document) (c : Cursor) : Type 0 where
  pub tables : StandsFor c.forest.now D
  pub way : Leads D root c.hops

-- ## Into a field, and to an item

-- it can't go into a field under this key: it is in one already, or the schema knows no such field of its node
abbrev pub HasNoField : Document → Cursor → Key → Type 0
HasNoField D c key = IsSome c.field ⊎ (rule_at D c.schema.now (node_of c) key ≡ None)

-- the place in a field of this key and index
abbrev pub place_at : Key → ℕ → Place
place_at key index = record { key = key; index = index }

-- it goes from its field to the item of an index there
pub record EntersItem (D : Document) (c : Cursor) (index : ℕ) (d : Cursor) : Type 0 where
  pub key : Key
  pub node : NodeId
  pub in_field : c.field ≡ Some key
  pub there : child D (node_of c) (place_at key index) ≡ Some node
  pub goes : d ≡ record c { hops = c.hops ++ (record { place = place_at key index; node = node }) ∷ []; field = None }

-- there is no such item: it is in no field, or the field has none of that index
abbrev pub HasNoItem : Document → Cursor → ℕ → Type 0
HasNoItem D c index = MatchOption c.field (Unit {0}) (λ key. child D (node_of c) (place_at key index) ≡ None)

-- ## To the next item

-- the place behind one in the same field
abbrev pub behind : Place → Place
behind p = place_at p.key (p.index + 1)

-- the hops have a last one, and this hop leads from where that begins to the item behind its own
pub record IsBehind (D : Document) (hs : List Hop) (h : Hop) : Type 0 where
  pub front : List Hop
  pub last : Hop
  pub stands : hs ≡ front ++ last ∷ []
  pub place : h.place ≡ behind last.place
  pub there : child D (end_of root front) h.place ≡ Some h.node

-- there is none behind: the hops lead nowhere from the root, or to a last item
abbrev pub HasNoneBehind : Document → List Hop → Type 0
HasNoneBehind D hs = (hs ≡ []) ⊎ ((front : List Hop) × (last : Hop) × (hs ≡ front ++ last ∷ []) × (child D (end_of root front) (behind last.place) ≡ None))

-- from an item it goes to the one behind it in the same field
pub record GoesOn (D : Document) (c d : Cursor) : Type 0 where
  pub in_none : c.field ≡ None
  pub hop : Hop
  pub next : IsBehind D c.hops hop
  pub goes : d ≡ record c { hops = next.front ++ hop ∷ [] }

-- it can't: it is in a field, at the root, or at the last item
abbrev pub IsAtLast : Document → Cursor → Type 0
IsAtLast D c = IsSome c.field ⊎ HasNoneBehind D c.hops

-- ## Out

-- from a field to its node, and from an item to its field
abbrev pub GoesOut : Cursor → Cursor → Type 0
GoesOut c d = MatchOption c.field
    ((last : Hop) × (c.hops ≡ d.hops ++ last ∷ []) × (d ≡ record c { hops = d.hops; field = Some last.place.key }))
    (λ _. d ≡ record c { field = None })
