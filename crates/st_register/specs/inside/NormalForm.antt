-- The rules of the change of one register.
use Rattle.std.specs.Prelude.{◌≡◌, ◌≢◌, true, Some, None, IfSome}
use Rattle.st_ids.specs.declared.names.NodeId.{NodeId}
use Rattle.st_marks.specs.declared.marks.How.TheVariants.{Stay, Here}
use Rattle.st_ids.specs.Root.{root}
use Rattle.st_register.specs.declared.values.RegChange.{RegChange}

-- a change that can stand where the register holds what it finds
pub record IsNormalRegChange (x : RegChange) : Type 0 where
  -- nobody stays
  pub nobody : x.held ≡ None → x.how ≡ Stay
  -- the occupant is put where it is only in a register that is cleared and that nobody else comes into
  pub put : x.how ≡ Here → (x.clear ≡ true) × (x.fill ≡ None)
  -- who comes in isn't there yet, isn't the root, and comes into a register that is cleared
  pub filled : IfSome x.fill (λ n. (x.clear ≡ true) × (x.held ≢ Some n) × (n ≢ root))
  -- a new node comes in, and has the commit's revision
  pub made : x.fill_new ≡ true → (n : NodeId) × (x.fill ≡ Some n) × (n.0.rev ≡ x.rev)
  -- the register of a new node is empty
  pub empty : x.in_new ≡ true → x.held ≡ None
