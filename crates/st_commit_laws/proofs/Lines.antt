-- The trees of a step that a line can hold have numbers of 64 bits.
use Rattle.std.proofs.Common.{◌-◌, ◌^◌, ℕ, pos, negsuc, true, false, nat_le, nat_lt, List, [], ◌∷◌, length, Some, None, is_ok, option_map, option_and_then, subst, arith}
use Rattle.std.proofs.lemmas.Bool.Decides.{nat_tests}
use Rattle.serde_json.specs.Data.{Data, Items, Members, Num, array, boolean, float, item, member, negative, no_items, no_members, null, number, object, string, unsigned}
use Rattle.serde_json.specs.Find.{as_i64}
use Rattle.st_json.proofs.Rising.{Holds, Holds-and_then, Holds-map}
use Rattle.st_ids.specs.LeafText.{leaf_data}
use Rattle.st_ids.specs.declared.names.Leaf.{Leaf}
use Rattle.st_tree.specs.Node.{FieldNode, Fields, Node, Nodes, field, fields_of, first, no_fields, no_nodes, node, nodes_of}
use Rattle.st_tree.specs.Size.{check_of}
use Rattle.st_schema.specs.TreeText.{body_data, body_in, fields_in, keyed_data, leaf_in, leaf_node, leaf_of, members_data, node_in, tree_data, tree_in, trees_data, trees_in, within_limits}
use Rattle.st_schema.proofs.Holds.{Holds-cond}
use Rattle.st_schema.proofs.Sound.{Sound, SoundItems, SoundMembers, with_single}
use Rattle.st_script.specs.StepText.{AreShown, FitsAct, FitsEdit, FitsLine, IsShown}
use Rattle.st_script.specs.Steps.{ActView, EditView, StepView}
use Rattle.st_script.specs.Steps as step
use Rattle.st_change_laws.specs.Within.{IsShortNumber, LeafIsShort}
use Rattle.st_commit_laws.specs.Tellable.{AllLeavesAreShort, BringsShortLeaves, EditBringsShortLeaves, FieldLeavesAreShort, LeavesAreShort}

-- ## What is told of a tree tells each number below 0 as one

leaf_signed : (v : Leaf) → Sound (leaf_data v)
leaf_signed Leaf.Null = tt
leaf_signed (Leaf.Bool b) = tt
leaf_signed (Leaf.Int (pos n)) = tt
leaf_signed (Leaf.Int (negsuc n)) = tt
leaf_signed (Leaf.Words t) = tt

mutual
  tree_signed : (t : Node) → Sound (tree_data t)
  tree_signed (node ty (Some v) fs) = leaf_signed v
  tree_signed (node ty None fs) = (body_signed fs, tt)

  body_signed : (fs : Fields) → Sound (body_data fs)
  body_signed no_fields = tt
  body_signed (field key true items rest) = trees_signed items
  body_signed (field key false items rest) = keyed_signed key items (members_data rest) (members_signed rest)

  keyed_signed : (key : List ℕ) (items : Nodes) (ms : Members) → SoundMembers ms → SoundMembers (keyed_data key items ms)
  keyed_signed key no_nodes ms s = s
  keyed_signed key (first t ts) ms s = (tree_signed t, s)

  members_signed : (fs : Fields) → SoundMembers (members_data fs)
  members_signed no_fields = tt
  members_signed (field key row items rest) = keyed_signed key items (members_data rest) (members_signed rest)

  trees_signed : (ts : Nodes) → SoundItems (trees_data ts)
  trees_signed no_nodes = tt
  trees_signed (first t ts) = (tree_signed t, trees_signed ts)

-- ## What is read of such a value

abbrev AreShortTrees : List Node → Type 0
AreShortTrees ts = AllLeavesAreShort (nodes_of ts)

abbrev AreShortFields : List FieldNode → Type 0
AreShortFields gs = FieldLeavesAreShort (fields_of gs)

number_read : (x : Num) → Sound (number x) → Holds IsShortNumber (as_i64 x)
number_read (unsigned n) s = Holds-cond IsShortNumber (nat_lt n (2 ^ 63)) (Some (pos n)) None (λ e. grind (arith, nat_tests)) tt
number_read (negative (pos n)) s = absurd s
number_read (negative (negsuc n)) s = tt
number_read (float x) s = tt

leaf_read : (d : Data) → Sound d → Holds LeafIsShort (leaf_of d)
leaf_read null s = tt
leaf_read (boolean b) s = tt
leaf_read (number x) s = Holds-map IsShortNumber LeafIsShort Leaf.Int (λ z e. e) (as_i64 x) (number_read x s)
leaf_read (string t) s = tt
leaf_read (array ds) s = tt
leaf_read (object ms) s = tt

leaf_node_read : (d : Data) (n : ℕ) → Sound d → Holds LeavesAreShort (leaf_in d n)
leaf_node_read d n s = Holds-cond LeavesAreShort (nat_le 1 n) (option_map leaf_node (leaf_of d)) None (λ _. Holds-map LeafIsShort LeavesAreShort leaf_node (λ v e. (e, tt)) (leaf_of d) (leaf_read d s)) tt

mutual
  tree_read : (d : Data) (n : ℕ) → Sound d → Holds LeavesAreShort (tree_in d n)
  tree_read null n s = leaf_node_read null n s
  tree_read (boolean b) n s = leaf_node_read (boolean b) n s
  tree_read (number x) n s = leaf_node_read (number x) n s
  tree_read (string t) n s = leaf_node_read (string t) n s
  tree_read (array ds) n s = tt
  tree_read (object ms) n s = Holds-cond LeavesAreShort (nat_le 1 n) (node_in ms (n - 1)) None (λ _. node_read ms (n - 1) s) tt

  node_read : (ms : Members) (n : ℕ) → SoundMembers ms → Holds LeavesAreShort (node_in ms n)
  node_read no_members n s = tt
  node_read (member ty d no_members) n s = Holds-map FieldLeavesAreShort LeavesAreShort (node ty None) (λ fs e. (tt, e)) (body_in d n) (body_read d n s.0)
  node_read (member ty d (member k f ms)) n s = tt

  body_read : (d : Data) (n : ℕ) → Sound d → Holds FieldLeavesAreShort (body_in d n)
  body_read null n s = tt
  body_read (boolean b) n s = tt
  body_read (number x) n s = tt
  body_read (string t) n s = tt
  body_read (array ds) n s = Holds-map AreShortTrees FieldLeavesAreShort (λ (ts : List Node). field [] true (nodes_of ts) no_fields) (λ ts e. (e, tt)) (trees_in ds n) (items_read ds n s)
  body_read (object ms) n s = Holds-map AreShortFields FieldLeavesAreShort fields_of (λ gs e. e) (fields_in ms n) (fields_read ms n s)

  items_read : (ds : Items) (n : ℕ) → SoundItems ds → Holds AreShortTrees (trees_in ds n)
  items_read no_items n s = tt
  items_read (item d ds) n s =
      Holds-and_then LeavesAreShort AreShortTrees (λ (t : Node). option_map (λ (ts : List Node). t ∷ ts) (trees_in ds n))
      (λ t e. Holds-map AreShortTrees AreShortTrees (λ (ts : List Node). t ∷ ts) (λ ts f. (e, f)) (trees_in ds n) (items_read ds n s.1)) (tree_in d n) (tree_read d n s.0)

  fields_read : (ms : Members) (n : ℕ) → SoundMembers ms → Holds AreShortFields (fields_in ms n)
  fields_read no_members n s = tt
  fields_read (member key d ms) n s =
      Holds-cond AreShortFields (nat_le (length key) 64) (option_and_then (λ t. option_map (with_single key t) (fields_in ms n)) (tree_in d n)) None
      (λ _. Holds-and_then LeavesAreShort AreShortFields (λ t. option_map (with_single key t) (fields_in ms n))
      (λ t e. Holds-map AreShortFields AreShortFields (with_single key t) (λ gs f. ((e, tt), f)) (fields_in ms n) (fields_read ms n s.1))
      (tree_in d n) (tree_read d n s.0)) tt

-- ## Steps

shown_short : (t : Node) → IsShown t → LeavesAreShort t
shown_short t is =
    let within = Holds-and_then LeavesAreShort LeavesAreShort within_limits (λ u s. Holds-cond LeavesAreShort (is_ok (check_of u)) (Some u) None (λ _. s) tt) (tree_in (tree_data t) 48) (tree_read (tree_data t) 48 (tree_signed t)) in
    subst (Holds LeavesAreShort) is within

all_shown_short : (ts : List Node) → AreShown ts → AllLeavesAreShort (nodes_of ts)
all_shown_short [] are = tt
all_shown_short (t ∷ ts) are = (shown_short t are.0, all_shown_short ts are.1)

edit_short : (e : EditView) → FitsEdit e → EditBringsShortLeaves e
edit_short (step.insert at key index items) fits = all_shown_short items fits.2.2
edit_short (step.remove at key index count) fits = tt
edit_short (step.move at key index count to to_key to_index) fits = tt
edit_short (step.set at key tree) fits = shown_short tree fits.1
edit_short (step.clear at key) fits = tt

act_short : (branch : ℕ) (x : ActView) → FitsAct branch x → BringsShortLeaves x
act_short branch (step.join uuid) fits = tt
act_short branch (step.edit e) fits = edit_short e fits
act_short branch (step.need at) fits = tt
act_short branch step.begin fits = tt
act_short branch step.commit fits = tt
act_short branch step.abort fits = tt
act_short branch step.fork fits = tt
act_short branch step.rebase fits = tt
act_short branch step.merge fits = tt
act_short branch step.drop_branch fits = tt
act_short branch (step.undo rev) fits = tt
act_short branch (step.upgrade schema) fits = tt
act_short branch step.sequence fits = tt
act_short branch step.ack fits = tt
act_short branch step.deliver fits = tt
act_short branch step.leave fits = tt
act_short branch step.drop_client fits = tt
act_short branch step.reconnect fits = tt
act_short branch step.show fits = tt
act_short branch step.pending fits = tt

pub line_short : (s : StepView) → FitsLine s → BringsShortLeaves s.act
line_short s fits = act_short s.branch s.act fits.1
