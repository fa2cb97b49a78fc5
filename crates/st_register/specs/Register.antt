-- One register as a field of its own: the part of an intent that concerns it, what it holds after that part, and what a
-- change and a step say of it.
use Rattle.std.specs.Prelude.{◌≡◌, ◌≢◌, ◌↔◌, ℕ, Bool, true, false, Option, Some, None, IfSome, is_some, if◌then◌else◌}
use Rattle.std.specs.Option.{option_or, option_map_or}
use Rattle.st_ids.specs.declared.names.FieldId.{FieldId}
use Rattle.st_ids.specs.declared.names.NodeId.{NodeId}
use Rattle.st_ids.specs.declared.names.Rev.{Rev}
use Rattle.st_marks.specs.declared.intents.Intent.{Intent}
use Rattle.st_marks.specs.declared.intents.To.{To}
use Rattle.st_marks.specs.declared.marks.How.TheVariants.{Leave}
use Rattle.st_ids.specs.Root.{root}
use Rattle.st_marks.specs.Embedding.{register_part}
use Rattle.st_marks.specs.Intent.{is_new}
use Rattle.st_marks.specs.Register.{RegisterPart, how_held, comes_in}
use Rattle.st_marks.specs.Row.{how}
use Rattle.st_register.specs.declared.values.RegChange.{RegChange}
use Rattle.st_register.specs.declared.values.RegHeld.{RegHeld}
use Rattle.st_register.specs.declared.values.RegSwap.{RegSwap}

-- ## The part of an intent

-- the part of an intent that concerns one register
pub record RegPart : Type 0 where
  pub field : FieldId
  pub rev : Rev
  -- which nodes the intent makes
  pub makes : NodeId → Bool
  -- what it does with the register
  pub part : RegisterPart

-- the part of an intent that mentions these nodes
abbrev pub reg_part_of : (NodeId → Bool) → Intent → FieldId → RegPart
reg_part_of mentioned N f = record { field = f; rev = N.rev; makes = is_new N; part = register_part mentioned N f }

-- a register of a document can hold this: the root stands nowhere
abbrev pub RegCanHold : RegHeld → Type 0
RegCanHold c = c.node ≢ Some root

-- the part is that of an intent which fits where the register holds this
pub record RegFits (p : RegPart) (c : RegHeld) : Type 0 where
  pub content : RegCanHold c
  -- a register that is filled is cleared, and is filled with the one node that is put there
  pub cleared : IfSome p.part.fill (λ _. p.part.clear ≡ true)
  pub put_here : (n : NodeId) → (p.part.target_of n ≡ Some (To.Register p.field)) ↔ (p.part.fill ≡ Some n)
  -- the root isn't put
  pub root_stays : p.part.target_of root ≡ None
  -- a new node has the intent's revision
  pub made : (n : NodeId) → p.makes n ≡ true → n.0.rev ≡ p.rev
  -- who is there isn't new, nor is the node whose register it is
  pub old : IfSome c.node (λ n. (p.makes n ≡ false) × (p.makes p.field.node ≡ false))

-- ## Carrying out

-- the occupant, unless it is put
abbrev pub unless_put : (NodeId → Option To) → Option NodeId → Option NodeId
unless_put target_of None = None
unless_put target_of (Some n) = if is_some (target_of n) then None else Some n

-- who is there after the clear and then the puts
abbrev pub held_whole : RegisterPart → Option NodeId → Option NodeId
held_whole p held = option_or p.fill (if p.clear then None else unless_put p.target_of held)

-- the node, if it is new
abbrev pub only_made : (NodeId → Bool) → Option NodeId → Option NodeId
only_made makes None = None
only_made makes (Some n) = if makes n then Some n else None

-- who is there after a void part, which places new nodes inside new nodes alone
abbrev pub held_void : RegPart → Option NodeId → Option NodeId
held_void p held = if p.makes p.field.node then only_made p.makes p.part.fill else held

-- what the register holds after the part, void or whole
abbrev pub reg_carried : RegPart → Bool → RegHeld → RegHeld
reg_carried p void c = record { node = if void then held_void p c.node else held_whole p.part c.node }

-- ## Changes and steps

-- the change of the part where the register holds this
abbrev pub reg_change_of : RegPart → RegHeld → RegChange
reg_change_of p c = record {
  rev = p.rev;
  in_new = p.makes p.field.node;
  held = c.node;
  how = how_held p.field p.part c.node;
  clear = p.part.clear;
  fill = comes_in c.node p.part.fill;
  fill_new = option_map_or p.makes (comes_in c.node p.part.fill) false;
}

-- the step leads from one content to another
pub record RegLeadsOver (c d : RegHeld) (s : RegSwap) : Type 0 where
  pub before : RegCanHold c
  pub after : RegCanHold d
  pub swap : s ≡ record { before = c.node; after = d.node }

-- a node that comes in from one content to the other isn't put elsewhere
abbrev pub RegKeeps : RegPart → RegHeld → RegHeld → Type 0
RegKeeps p c d = IfSome d.node (λ n. c.node ≢ Some n → how (p.part.target_of n) (To.Register p.field) ≢ Leave)

-- the one place at which two sayings of who is there can differ
abbrev pub DifferAt : Option NodeId → Option NodeId → ℕ → Type 0
DifferAt a b k = (k ≡ 0) × (a ≢ b)
