-- A change over two steps taken together, and over the one and then the other.
use Rattle.std.proofs.Common.{◌≡◌, ℕ, List, Option, Some, None, refl}
use Rattle.std.specs.Prelude.{MatchOption}
use Rattle.st_marks.specs.declared.changes.Change.{Change}
use Rattle.st_marks.specs.declared.intents.Intent.{Intent}
use Rattle.st_marks.specs.declared.steps.Step.{Step}
use Rattle.st_marks.specs.Agree.{Agrees, ComposeClash, RebaseClash}
use Rattle.st_agree_laws.proofs.CellsOnce.{agree_over}
use Rattle.st_marks.specs.CarryOut.{full}
use Rattle.st_marks.specs.Document.{Document, HasShortRows}
use Rattle.st_moves.specs.Room.{HasRoomInRows}
use Rattle.st_pair_laws.proofs.RoomInRows.{row_kept}
use Rattle.st_marks.specs.Embedding.{IsEmbedding}
use Rattle.st_marks.specs.Extends.{IsExtendedBy}
use Rattle.st_marks.specs.Step.{IsStep}
use Rattle.st_marks.proofs.Turns.{extends_on}
use Rattle.st_marks.proofs.Unique.{one_embedding}
use Rattle.st_normal.specs.Rules.{ObeysChangeRules, ObeysDataRules, ObeysSchemaRules, ObeysStepRules}
use Rattle.st_normal_laws.proofs.StepRules.{step_obeys}
use Rattle.st_three_laws.proofs.SchemaOver.{schema_in_turn}
use Rattle.st_three_laws.proofs.Schemas.{HaveSchemasInTurn}
use Rattle.st_three_laws.proofs.SchemasTurn.{schemas_in_turn}
use Rattle.st_three_laws.specs.Over.{IsAfterwards, LeadsOverTwo, StandOverBoth}
use Rattle.st_three_laws.proofs.StandOver.{data_in_turn}

-- two steps in normal form that agree stand over documents
abbrev pub TwoStand : Type 0
TwoStand = (S T : Step) → ObeysStepRules S → ObeysStepRules T → Agrees (ComposeClash S T)
    → (D : Document) × (E : Document) × (F : Document) × IsExtendedBy D E × IsExtendedBy E F × IsStep D E S × IsStep E F T

pub stand_over_both : TwoStand → (C : Change) (a b u : Step) → ObeysChangeRules C → ObeysStepRules a → ObeysStepRules b
    → Agrees (ComposeClash a b) → LeadsOverTwo a b u → Agrees (RebaseClash C a) → Agrees (RebaseClash C u) → StandOverBoth C a b
stand_over_both stand C a b u wc wa wb g leads ga gu = go C.schema refl wc
  where
    p : (D : Document) × (E : Document) × (F : Document) × IsExtendedBy D E × IsExtendedBy E F × IsStep D E a × IsStep E F b
    p = stand a b wa wb g

    both : IsStep p.0 p.2 u
    both = leads p.0 p.1 p.2 p.3 p.4 p.5 p.6

    ends : IsExtendedBy p.0 p.2
    ends = extends_on p.0 p.1 p.2 p.3 p.4

    wu : ObeysStepRules u
    wu = step_obeys p.0 p.2 u ends both

    h : HaveSchemasInTurn C a b
    h = schemas_in_turn C a b u wc wa wu ga gu p.0.schemas p.1.schemas p.2.schemas p.3.before.in_effect p.3.after.in_effect p.4.after.in_effect p.5.schema p.6.schema both.schema

    go : (o : Option (List ℕ)) → C.schema ≡ o → MatchOption o (ObeysDataRules C) (λ _. ObeysSchemaRules C) → StandOverBoth C a b
    go None e r = data_in_turn C a b u r e wa wb wu ga gu p.0 p.1 p.2 p.3 p.4 ends p.5 p.6 both h.0 h.1 h.2 h.3 h.4 h.5
    go (Some text) e r = schema_in_turn C a b u r text e wa wb wu p.0 p.1 p.2 p.3 p.4 ends p.5 p.6 both h.0 h.1 h.2 h.3 h.4 h.5 h.6 h.7

pub over_parts_one : TwoStand → (C K L R : Change) (a b u : Step) → ObeysChangeRules C → ObeysStepRules a → ObeysStepRules b
    → Agrees (ComposeClash a b) → LeadsOverTwo a b u → Agrees (RebaseClash C u) → IsAfterwards C u L → Agrees (RebaseClash C a) → IsAfterwards C a K → IsAfterwards K b R → L ≡ R
over_parts_one stand C K L R a b u wc wa wb g leads gu left ga first next =
    let (D, E, F, N, x, y, fd, fe, ff, short, c, s, t) = stand_over_both stand C a b u wc wa wb g leads ga gu in
    one_embedding F N L R
    (left D F N (extends_on D E F x y) fd ff c (leads D E F x y s t))
    (next E F N y fe ff (first D E N x fd fe c s) t)

-- the change over the first agrees with the second
pub next_agrees : TwoStand → (C K : Change) (a b u : Step) → ObeysChangeRules C → ObeysStepRules a → ObeysStepRules b
    → Agrees (ComposeClash a b) → LeadsOverTwo a b u → Agrees (RebaseClash C u) → Agrees (RebaseClash C a) → IsAfterwards C a K → Agrees (RebaseClash K b)
next_agrees stand C K a b u wc wa wb g leads gu ga first =
    let (D, E, F, N, x, y, fd, fe, ff, short, c, s, t) = stand_over_both stand C a b u wc wa wb g leads ga gu in
    agree_over E F N K b y fe ff (first D E N x fd fe c s) t

-- and has room beside it, where the change has room beside both as one
pub next_room : TwoStand → ((D E : Document) (N : Intent) (C : Change) (S : Step) → HasShortRows (full E N) → IsEmbedding D N C → IsStep D E S → HasRoomInRows C S)
    → (C K : Change) (a b u : Step) → ObeysChangeRules C → ObeysStepRules a → ObeysStepRules b
    → Agrees (ComposeClash a b) → LeadsOverTwo a b u → Agrees (RebaseClash C u) → HasRoomInRows C u → Agrees (RebaseClash C a) → IsAfterwards C a K → HasRoomInRows K b
next_room stand rooms C K a b u wc wa wb g leads gu room ga first =
    let (D, E, F, N, x, y, fd, fe, ff, short, c, s, t) = stand_over_both stand C a b u wc wa wb g leads ga gu in
    rooms E F N K b (λ n. row_kept D F N C u (extends_on D E F x y) fd short c (leads D E F x y s t) room n) (first D E N x fd fe c s) t
