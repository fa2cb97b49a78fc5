use Rattle.std.proofs.Common.{◌≡◌, ◌∙◌}
use Rattle.std.specs.BTreeMap.{get}
use Rattle.std.proofs.lemmas.Iterator.Adapters.{YieldsList-from_vec}
use Rattle.st_forest.proofs.MapsCopied.{map_from, made_of}
use Rattle.st_forest.proofs.copy.copy_map.Goals as goal

pub returns : goal.returns
returns g c =
    let entries = c.in_ok-copy_entries.field-0 in
    made_of _ _ _ c.from_iter.result entries.items (λ v. (q : _) → get g.K.Ord.cmp v q ≡ get g.K.Ord.cmp c.args.map.now q) (λ x a. YieldsList-from_vec entries.items a.0 (a.1 ∙ entries.ok.0))
    (λ v made q. map_from g.met.K.Ord.total c.args.map.now v entries.items c.in_ok-copy_entries.ensures.ordered c.in_ok-copy_entries.ensures.entries made.0 q) c.from_iter.ensures.ran
