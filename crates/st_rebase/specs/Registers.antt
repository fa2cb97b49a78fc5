-- What a register of a change becomes over what is left of a step: what the law of registers says, for every part of the
-- commit.
use Rattle.std.specs.Prelude.{◌≡◌, List, Option, Some, None}
use Rattle.st_ids.specs.declared.names.NodeId.{NodeId}
use Rattle.st_ids.specs.declared.names.Rev.{Rev}
use Rattle.st_marks.specs.declared.marks.RegMark.{RegMark}
use Rattle.st_marks.specs.declared.marks.RegStep.{RegStep}
use Rattle.st_marks.specs.Embedding.{is_among}
use Rattle.st_register.specs.Register.{RegPart, RegFits, RegKeeps, RegLeadsOver, reg_change_of}
use Rattle.st_register.specs.Readings.{as_mark}
use Rattle.st_register.specs.declared.values.RegHeld.{RegHeld}

-- the part is one of the commit of this revision that makes these nodes
abbrev pub IsRegPartOf : Rev → List NodeId → RegPart → Type 0
IsRegPartOf rev new p = (p.rev ≡ rev) × ((n : NodeId) → p.makes n ≡ is_among new n)

-- what is left of a step's register leads from who is there to whom the step leaves there; of a register that the step
-- doesn't list nothing is left
abbrev pub RestSwaps : Option RegStep → RegHeld → RegHeld → Type 0
RestSwaps None c d = c ≡ d
RestSwaps (Some s) c d = RegLeadsOver c d (record { before = c.node; after = s.after })

-- a register of a change becomes another over what is left of a step's register: where it says what a part wants of one
-- register, and the rest leads from who is there to another, the other says what the part wants there
abbrev pub RegBecomes : Rev → List NodeId → Option RegStep → RegMark → RegMark → Type 0
RegBecomes rev new step r t = (p : RegPart) (c d : RegHeld)
    → IsRegPartOf rev new p → RegFits p c → RegFits p d → RegKeeps p c d
    → r ≡ as_mark p.field (reg_change_of p c) → RestSwaps step c d → t ≡ as_mark p.field (reg_change_of p d)
