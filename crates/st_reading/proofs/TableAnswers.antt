-- Answers of functions.
use Rattle.std.proofs.Common.{◌≡◌, Bool, List, Option, ap}
use Rattle.std.specs.Prelude.{Result, Ok, Err, IfOk}
use Rattle.st_ids.specs.declared.names.NodeId.{NodeId}
use Rattle.st_kind.specs.Named.{Nodes}
use Rattle.st_marks.specs.declared.intents.To.{To}
use Rattle.st_marks.specs.Row.{CellMark}
use Rattle.st_reading.specs.Over.{over_row}

pub both_ok : {T E : Type 0} {A B P : T → Type 0} (r : Result T E) → IfOk r A → IfOk r B → ((v : T) → A v → B v → P v) → IfOk r P
both_ok (Ok v) a b f = f v a b
both_ok (Err e) a b f = tt

pub put_so : (l : Bool) (m : Nodes) (t u : NodeId → Option To) (xs ys : List CellMark) → t ≡ u → over_row l t m xs ys ≡ over_row l u m xs ys
put_so l m t u xs ys e = ap (λ k. over_row l k m xs ys) e
