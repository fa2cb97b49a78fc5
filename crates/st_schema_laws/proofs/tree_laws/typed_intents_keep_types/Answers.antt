use Rattle.st_schema_laws.proofs.Typing.{carried_typed, full_typed, typed_later}
use Rattle.st_schema_laws.proofs.tree_laws.typed_intents_keep_types.Goals as goal

pub returns : goal.returns
returns c = record {
  whole = λ is_array D N sound typed w. full_typed is_array D N sound typed w;
  carried = λ is_array D N v sound typed w. carried_typed is_array D N sound typed w v;
  later = λ is_array D E N more fits fresh w. typed_later is_array D E N more fits fresh w;
}
