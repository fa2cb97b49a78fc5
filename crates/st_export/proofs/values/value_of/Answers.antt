use Rattle.std.proofs.Common.{◌≡◌, ◌∙◌, IsSome, List, ℕ, Bool, sym}
use Rattle.serde_json.specs.View.{view, members_view}
use Rattle.serde_json.specs.declared.value.Value.{Array, Object, Value}
use Rattle.serde_json.proofs.Views.{view-Array, view-Object}
use Rattle.st_ids.specs.LeafText.{leaf_data}
use Rattle.st_ids.specs.declared.names.NodeId.{NodeId}
use Rattle.st_marks.specs.Document.{Document}
use Rattle.st_marks.specs.LiveTree.{Shows, one_member}
use Rattle.st_doc.proofs.LiveTexts.{leaf_shown}
use Rattle.st_doc.specs.LiveText.{is_among}
use Rattle.st_forest.specs.Stands.{StandsFor}
use Rattle.st_forest.specs.declared.forest.Forest.{Forest}
use Rattle.st_lemmas.proofs.Options.{IfOk-along}
use Rattle.st_export.specs.inside.Beneath.{AreShown, beneath}
use Rattle.st_export.proofs.Shown.{registers_shown, row_shown, seated_known}
use Rattle.st_export.proofs.values.value_of.Goals as goal

abbrev IsShown : (List ℕ → Bool) → Forest → NodeId → List Value → Value → Type 0
IsShown is_array F n values v = (D : Document) → StandsFor F D → IsSome (D.nodes n) → AreShown is_array D (beneath is_array F n) values → Shows is_array D n (view v)

pub returns-in-Some-leaf : goal.returns-in-Some-leaf
returns-in-Some-leaf c =
    let is = is_among c.args.arrays.now in
    let F = c.args.forest.now in
    let n = c.args.node in
    let s = c.in-Some.seated.now in
    let v = c.in-Some-leaf.leaf in
    IfOk-along c.leaf_value.result (λ x. view x ≡ leaf_data v) (IsShown is F n c.args.values.items)
    (λ x e D stands known shown. leaf_shown is D n s.node.ty s.node.leaf (seated_known F D stands n s (sym c.in-Some.ensures.value)) v (view x) c.in-Some-leaf.is e) c.leaf_value.ensures

pub returns-then-is_among : goal.returns-then-is_among
returns-then-is_among c =
    let is = is_among c.args.arrays.now in
    let F = c.args.forest.now in
    let n = c.args.node in
    let s = c.in-Some.seated.now in
    let values = c.args.values in
    IfOk-along c.one_member.result (λ x. view x ≡ one_member s.node.ty (view (Array values))) (IsShown is F n values.items)
    (λ x e D stands known shown. row_shown is F D stands n s (sym c.in-Some.ensures.value) c.in_default-leaf.is values.items (view (Array values)) (view x)
    (sym c.is_among.ensures ∙ c.if-is_among.true) shown (view-Array values) e) c.one_member.ensures

pub returns : goal.returns
returns c =
    let is = is_among c.args.arrays.now in
    let F = c.args.forest.now in
    let n = c.args.node in
    let s = c.in-Some.seated.now in
    let values = c.args.values in
    let members = c.in_ok-members.members in
    IfOk-along c.one_member-2.result (λ x. view x ≡ one_member s.node.ty (view (Object members))) (IsShown is F n values.items)
    (λ x e D stands known shown. registers_shown is F D stands n s (sym c.in-Some.ensures.value) c.in_default-leaf.is values.items (members_view members.entries) (view (Object members)) (view x)
    c.in_ok-members.ensures.ordered (sym c.is_among.ensures ∙ c.if-is_among.false) shown c.in_ok-members.ensures.members (view-Object members) e) c.one_member-2.ensures
