use Rattle.std.proofs.Common.{◌≡◌, ◌∙◌, Option, Some, None, IsSome, is_some, option_map, true, refl}
use Rattle.serde_json.specs.View.{view}
use Rattle.st_doc.specs.LiveText.{is_among}
use Rattle.st_doc.proofs.LiveTexts.{shows_no_float}
use Rattle.st_forest.specs.Stands.{named}
use Rattle.st_export.proofs.text.export_at.Goals as goal

found : {A B C : Type 0} (f : A → C) (g : B → C) (r : Option A) (o : Option B) → is_some r ≡ true → option_map f r ≡ option_map g o → IsSome o
found f g None o h e = cc
found f g (Some x) None h e = cc
found f g (Some x) (Some y) h e = refl

pub returns-in_ok-to_string-in-Some-clause-text : goal.returns-in_ok-to_string-in-Some-clause-text
returns-in_ok-to_string-in-Some-clause-text c = λ D stands sound.
    let v = c.in-Some.value in
    let node = c.args.node in
    let known = found (λ x. x.now) (named node) c.node.result (D.nodes node) c.if-is_none.ensures (c.node.ensures D stands) in
    let shown = (rw c.in-Some.is at c.in_ok-value_at.ensures) D stands sound known in
    (view v, shown.1, c.from_string.ensures ∙ c.in_ok-to_string-in-Some.ensures.text (shows_no_float (is_among c.args.arrays.now) D node (view v) shown.1))
