-- Words of the private functions behind `Rules`.
use Rattle.std.specs.Prelude.{ℕ, zero, suc, ◌+◌, nat_lt, Bool, true, false, not, ◌&&◌, ◌||◌, List, [], ◌∷◌, length, Option, Some, None}
use Rattle.std.specs.List.{list_any, list_all}
use Rattle.st_ids.specs.Order.{same_rev, same_node, same_cell, same_field}
use Rattle.st_ids.specs.declared.names.CellId.{CellId}
use Rattle.st_ids.specs.declared.names.FieldId.{FieldId}
use Rattle.st_ids.specs.declared.names.NodeId.{NodeId}
use Rattle.st_marks.specs.declared.changes.NewNode.{NewNode}
use Rattle.st_marks.specs.declared.intents.Group.{Group}
use Rattle.st_marks.specs.declared.intents.Intent.{Intent}
use Rattle.st_marks.specs.declared.intents.Owned.{Owned}
use Rattle.st_marks.specs.declared.intents.Put.{Put}
use Rattle.st_marks.specs.declared.intents.To.{To}
use Rattle.st_ids.specs.Root.{root}
use Rattle.st_marks.specs.Intent.{is_new, clears, cell_of, register_of, same_anchor, above_new}
use Rattle.st_intent.specs.Rules.{is_put, makes}

-- no item is the same as one before it
abbrev pub are_distinct : {A : Type 0} → (A → A → Bool) → List A → Bool
are_distinct same [] = true
are_distinct same (x ∷ xs) = not (list_any (λ y. same y x) xs) && are_distinct same xs

-- both are there, and the same
abbrev pub are_same : {A : Type 0} → (A → A → Bool) → Option A → Option A → Bool
are_same same None y = false
are_same same (Some x) None = false
are_same same (Some x) (Some y) = same x y

-- ## New nodes

-- the new nodes have the intent's revision, each another name
abbrev pub new_names_hold : Intent → Bool
new_names_hold N = list_all (λ (m : NewNode). same_rev m.node.0.rev N.rev) N.new && are_distinct (λ (m k : NewNode). same_node m.node k.node) N.new

-- ## Groups

-- each cell is there once, in all groups together
abbrev pub cells_are_distinct : List Group → Bool
cells_are_distinct [] = true
cells_are_distinct (g ∷ gs) = are_distinct (λ (o p : Owned). same_cell o.cell p.cell) g.cells && (list_all (λ (o : Owned). not (makes gs o.cell)) g.cells && cells_are_distinct gs)

-- whether an anchor is a new cell
abbrev pub anchor_made : Intent → Option CellId → Bool
anchor_made N None = false
anchor_made N (Some c) = makes N.groups c

-- a group by itself: new names, some cells, owners that are new or put, and an old anchor
abbrev pub group_holds : Intent → Group → Bool
group_holds N g =
    list_all (λ (o : Owned). same_rev o.cell.0.rev N.rev) g.cells
    && (nat_lt 0 (length g.cells) && (list_all (λ (o : Owned). is_new N o.node || is_put N o.node) g.cells && not (anchor_made N g.after)))

-- all groups obey the rules, no two at one place and no two after one cell
abbrev pub groups_hold : Intent → Bool
groups_hold N =
    list_all (group_holds N) N.groups
    && (cells_are_distinct N.groups
    && (are_distinct (λ (g h : Group). same_node g.node h.node && same_anchor g.after h.after) N.groups && are_distinct (λ (g h : Group). are_same same_cell g.after h.after) N.groups))

-- ## Puts

-- whether a put leads nowhere
abbrev pub is_nowhere : To → Bool
is_nowhere To.Nowhere = true
is_nowhere (To.Cell c) = false
is_nowhere (To.Register f) = false

-- a register that a put fills is cleared
abbrev pub fills_cleared : Intent → To → Bool
fills_cleared N To.Nowhere = true
fills_cleared N (To.Cell c) = true
fills_cleared N (To.Register f) = clears N f

-- a put by itself: a new node stands somewhere, and a register that is filled is cleared
abbrev pub put_holds : Intent → Put → Bool
put_holds N p = not (is_new N p.node && is_nowhere p.to) && fills_cleared N p.to

-- all puts obey the rules: not the root, each node once, no two into one place
abbrev pub puts_hold : Intent → Bool
puts_hold N =
    list_all (put_holds N) N.put
    && (not (is_put N root)
    && (are_distinct (λ (p q : Put). same_node p.node q.node) N.put
    && (are_distinct (λ (p q : Put). are_same same_cell (cell_of p.to) (cell_of q.to)) N.put && are_distinct (λ (p q : Put). are_same same_field (register_of p.to) (register_of q.to)) N.put)))

-- ## The rest

-- so many steps up lead to an end
abbrev pub ends_within : (NodeId → Option NodeId) → ℕ → NodeId → Bool
ends_within up zero n = false
ends_within up (suc k) n = elim (up n) [ None ↦ true | Some p ↦ ends_within up k p ]

-- from each new node, steps up by new nodes come to an end before they could have met all
abbrev pub no_ring_holds : Intent → Bool
no_ring_holds N = list_all (λ (m : NewNode). ends_within (above_new N) (length N.new + 1) m.node) N.new

-- whether a list has nothing
abbrev pub is_empty : {A : Type 0} → List A → Bool
is_empty [] = true
is_empty (x ∷ xs) = false

-- whether an intent has nothing but perhaps a schema
abbrev pub has_nothing : Intent → Bool
has_nothing N = is_empty N.new && (is_empty N.groups && (is_empty N.clear && (is_empty N.put && is_empty N.need)))

-- a change of schema has nothing else
abbrev pub schema_holds : Intent → Option (List ℕ) → Bool
schema_holds N None = true
schema_holds N (Some text) = has_nothing N

-- no cleared register has the empty key, no needed node is new, there is no ring, and a schema stands alone
abbrev pub others_hold : Intent → Bool
others_hold N =
    list_all (λ (f : FieldId). nat_lt 0 (length f.key.0)) N.clear
    && (list_all (λ (n : NodeId). not (is_new N n)) N.need && (no_ring_holds N && schema_holds N N.schema))

-- all rules
abbrev pub is_intent : Intent → Bool
is_intent N = new_names_hold N && (groups_hold N && (puts_hold N && others_hold N))
