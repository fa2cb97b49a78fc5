-- The rule on nodes that one step leaves elsewhere than another finds them: L is what is left, M what is found.
use Rattle.std.specs.Prelude.{◌≡◌, ◌≢◌, ◌⊎◌, ◌↔◌, List, Some}
use Rattle.st_ids.specs.Listing.{Has}
use Rattle.st_ids.specs.declared.names.FieldId.{FieldId}
use Rattle.st_ids.specs.declared.names.NodeId.{NodeId}
use Rattle.st_marks.specs.declared.places.Spot.{Spot}
use Rattle.st_marks.specs.Agree.{field_of}
use Rattle.st_marks.specs.Listings.{Listing, Places}
use Rattle.st_turn_places.specs.declared.places.Placed.{Placed}

-- the listed places are those at which a node is shown
abbrev pub ArePlaces : List Placed → Listing → Type 0
ArePlaces ps L = (p : Placed) → Has ps p ↔ Places L p.node p.spot

-- a node that both show has two places; the fields of both are named
abbrev pub NodesTwice : Listing → Listing → FieldId → Type 0
NodesTwice L M f = (n : NodeId) × (s : Spot) × (t : Spot) × Places L n s × Places M n t × (s ≢ t) × ((field_of s ≡ Some f) ⊎ (field_of t ≡ Some f))

-- no node is shown at two places
abbrev pub IsPlacedOnce : Listing → Type 0
IsPlacedOnce L = (n : NodeId) (s t : Spot) → Places L n s → Places L n t → s ≡ t
