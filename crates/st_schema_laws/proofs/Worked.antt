-- Trees worked out by hand: what an edit makes of them.
use Rattle.std.proofs.Common.{◌≡◌, ℕ, List, [], ◌∷◌, codes, refl}
use Rattle.serde_json.specs.Data.{Data, string, array, object, no_members, member}
use Rattle.serde_json.specs.View.{items_of}
use Rattle.st_ids.specs.declared.names.Key.{Key}
use Rattle.st_ids.specs.declared.names.Place.{Place}
use Rattle.st_schema_laws.specs.Edited.{at_path, with_items, with_key, without_items, without_key}
use Rattle.st_schema_laws.specs.Moved.{moved_in}

abbrev a : Data
a = string (codes "a")

abbrev b : Data
b = string (codes "b")

abbrev c : Data
c = string (codes "c")

abbrev d : Data
d = string (codes "d")

-- a list with those items
abbrev list : List Data → Data
list ds = object (member (codes "list") (array (items_of ds)) no_members)

-- a card with a title, a list under "body" and a note
abbrev card : Data → Data → Data → Data
card body note title = object (member (codes "card") (object (member (codes "body") body (member (codes "note") note (member (codes "title") title no_members)))) no_members)

abbrev row : Key
row = record { 0 = [] }

abbrev body : Key
body = record { 0 = codes "body" }

abbrev note : Key
note = record { 0 = codes "note" }

-- the item of an index, and what stands under a key
abbrev nth : ℕ → Place
nth i = record { key = row; index = i }

abbrev under : Key → Place
under key = record { key = key; index = 0 }

-- ## Rows and fields

inserted : at_path [] (with_items 1 (d ∷ [])) (list (a ∷ b ∷ [])) ≡ list (a ∷ d ∷ b ∷ [])
inserted = refl

removed : at_path (nth 1 ∷ []) (without_items 0 2) (list (a ∷ list (b ∷ c ∷ d ∷ []) ∷ [])) ≡ list (a ∷ list (d ∷ []) ∷ [])
removed = refl

cleared : at_path [] (without_key note.0) (card (list []) a b) ≡ object (member (codes "card") (object (member (codes "body") (list []) (member (codes "title") b no_members))) no_members)
cleared = refl

-- in the order of keys
set_anew : at_path [] (with_key note.0 c) (object (member (codes "card") (object (member (codes "body") (list []) (member (codes "title") b no_members))) no_members)) ≡ card (list []) c b
set_anew = refl

set_again : at_path [] (with_key note.0 c) (card (list []) a b) ≡ card (list []) c b
set_again = refl

-- ## Moves

-- the index counts the row before the move
to_the_right : moved_in [] row 0 1 [] row 3 (list (a ∷ b ∷ c ∷ d ∷ [])) ≡ list (b ∷ c ∷ a ∷ d ∷ [])
to_the_right = refl

to_the_left : moved_in [] row 2 2 [] row 0 (list (a ∷ b ∷ c ∷ d ∷ [])) ≡ list (c ∷ d ∷ a ∷ b ∷ [])
to_the_left = refl

-- between the items that are moved is where they are
onto_itself : moved_in [] row 1 2 [] row 2 (list (a ∷ b ∷ c ∷ d ∷ [])) ≡ list (a ∷ b ∷ c ∷ d ∷ [])
onto_itself = refl

-- the target's path leads through the row from which an item is taken, past that item
past_the_taken : moved_in [] row 0 1 (nth 2 ∷ []) row 1 (list (a ∷ b ∷ list (c ∷ d ∷ []) ∷ [])) ≡ list (b ∷ list (c ∷ a ∷ d ∷ []) ∷ [])
past_the_taken = refl

-- out of a list, before it
out_of_a_list : moved_in (nth 1 ∷ []) row 0 1 [] row 1 (list (a ∷ list (b ∷ c ∷ []) ∷ [])) ≡ list (a ∷ b ∷ list (c ∷ []) ∷ [])
out_of_a_list = refl

-- from a field to a row beneath another field, and from a row to a field, in the place of what is there
field_to_row : moved_in [] note 0 1 (under body ∷ []) row 1 (card (list (b ∷ c ∷ [])) a d)
    ≡ object (member (codes "card") (object (member (codes "body") (list (b ∷ a ∷ c ∷ [])) (member (codes "title") d no_members))) no_members)
field_to_row = refl

row_to_field : moved_in (under body ∷ []) row 0 1 [] note 0 (card (list (b ∷ c ∷ [])) a d) ≡ card (list (c ∷ [])) b d
row_to_field = refl
