use Rattle.std.proofs.Common.{rules, ◌≡◌, [], ◌∷◌, ◌++◌, ◌∙◌, Some, cond, unwrap_or, ap}
use Rattle.std.specs.BTreeMap.{get, is_at}
use Rattle.std.specs.Map.{lookup}
use Rattle.std.specs.Ordering.{is_eq}
use Rattle.st_meaning.proofs.places.push_at.Goals as goal

-- what is written is what was there, or nothing, with the item behind it
pub returns : goal.returns
returns g c = λ q.
    let cmp = g.K.Ord.cmp in
    let w = c.push.new.self in
    let was : c.or_insert-there.result.now ≡ unwrap_or (get cmp c.args.map.now c.args.key) [] =
    c.or_insert-there.ensures.value ∙ ap (λ o. unwrap_or o c.new.result) c.in_ok-map.ensures.value ∙ ap (unwrap_or (get cmp c.args.map.now c.args.key)) c.new.ensures in
    ap (lookup (is_at (cmp q))) (search rules) ∙ (c.in_ok-map.ensures.update.0 w).0 q
    ∙ ap (λ l. cond (is_eq (cmp c.args.key q)) (Some l) (get cmp c.args.map.now q)) (c.in_ok-push.ensures.ok ∙ ap (λ l. l ++ c.args.item ∷ []) was)
