-- A change and a step that list one field alone, and what the rules on agreement name of them.
use Rattle.std.specs.Prelude.{◌≡◌, ◌⊎◌, List, [], ◌∷◌}
use Rattle.st_ids.specs.Listing.{AreDistinct}
use Rattle.st_ids.specs.declared.names.FieldId.{FieldId}
use Rattle.st_ids.specs.declared.names.NodeId.{NodeId}
use Rattle.st_marks.specs.Agree.{Differs, MadeAgain}
use Rattle.st_marks.specs.Listings.{Listing, cells_before, listing_before_change, listing_before_step}
use Rattle.st_marks.specs.Row.{CellMark}
use Rattle.st_marks.specs.declared.changes.Change.{Change}
use Rattle.st_marks.specs.declared.marks.Mark.{Mark}
use Rattle.st_marks.specs.declared.marks.RegMark.{RegMark}
use Rattle.st_marks.specs.declared.marks.RegStep.{RegStep}
use Rattle.st_marks.specs.declared.steps.Step.{Step}
use Rattle.st_seq.specs.NamedApart.{named_before, standing_at}
use Rattle.st_seq.specs.declared.name_clashes.NamedAt.{NamedAt}

-- a change that lists one row, or one register, and nothing else; and a step
pub record ListsRowAlone (n : NodeId) (marks : List Mark) (C : Change) : Type 0 where
  pub new : C.new ≡ []
  pub rows : C.rows ≡ record { node = n; marks = marks } ∷ []
  pub regs : C.regs ≡ []
  pub loose : C.loose ≡ []

pub record StepsRowAlone (n : NodeId) (marks : List Mark) (S : Step) : Type 0 where
  pub new : S.new ≡ []
  pub rows : S.rows ≡ record { node = n; marks = marks } ∷ []
  pub regs : S.regs ≡ []
  pub loose : S.loose ≡ []

pub record ListsRegisterAlone (r : RegMark) (C : Change) : Type 0 where
  pub rows : C.rows ≡ []
  pub regs : C.regs ≡ r ∷ []
  pub loose : C.loose ≡ []

pub record StepsRegisterAlone (r : RegStep) (S : Step) : Type 0 where
  pub rows : S.rows ≡ []
  pub regs : S.regs ≡ r ∷ []
  pub loose : S.loose ≡ []

-- a rule on what both show, or on names that one makes and the other has, names the field
abbrev pub IsNamedBeside : Change → Step → FieldId → Type 0
IsNamedBeside C S f = Differs L M f ⊎ MadeAgain L M f ⊎ MadeAgain M L f
  where
    L : Listing
    L = listing_before_change C

    M : Listing
    M = listing_before_step S

-- marks that name each cell once, and each node that stands in the row once, as those of a change in normal form do
pub record NamesOnce (marks : List CellMark) : Type 0 where
  pub cells : AreDistinct (λ (e : NamedAt). e.name) (named_before 0 marks)
  pub nodes : AreDistinct (λ (e : NamedAt). e.name) (standing_at 0 (cells_before marks))
