use Rattle.st_doc.proofs.LiveTexts.{on_any, leaf_shown, row_shown, registers_shown}
use Rattle.st_ids.specs.Listing.{AreDistinct, Has}
use Rattle.st_ids.specs.declared.names.NodeId.{NodeId}
use Rattle.st_marks.specs.Document.{Document, IsSoundInForm, above}
use Rattle.st_marks.specs.LiveTree.{register, one_member, Shows}
use Rattle.st_ids.specs.LeafText.{leaf_data}
use Rattle.st_marks.proofs.Members.{all-has, has-map}
use Rattle.std.specs.List.{AllByRecursion}
use Rattle.st_doc.specs.declared.seats.Seat.{Seat}
use Rattle.std.proofs.Common.{◌≡◌, ◌∙◌, List, Some, map, sym, ap, subst}
use Rattle.serde_json.specs.View.{view, members_view}
use Rattle.serde_json.specs.declared.value.Value.{Array, Object}
use Rattle.serde_json.proofs.Views.{view-Array, view-Object}
use Rattle.st_doc.specs.Doc.{document_of}
use Rattle.st_doc.specs.LiveText.{is_among}
use Rattle.st_doc.specs.inside.LiveText.{AllShown, AreMembers, seats_of}
use Rattle.st_doc.specs.Nodes.{type_of}
use Rattle.st_doc.proofs.KeyOrder.{keys_rising, keys_found}
use Rattle.st_doc.proofs.Children.{row_child, seat_child, seats_once}
use Rattle.st_doc.proofs.live_text.value_of.Goals as goal
use Rattle.st_lemmas.proofs.Options.{IfOk-along}

pub returns-in-Some-leaf-clause-shown : goal.returns-in-Some-leaf-clause-shown
returns-in-Some-leaf-clause-shown c =
    let D = document_of c.args.doc.now in
    let is = is_among c.args.arrays.now in
    let n = c.args.node in
    let new = c.in-Some.new.now in
    let v = c.in-Some-leaf.leaf in
    IfOk-along c.leaf_value.result (λ x. view x ≡ leaf_data v) (λ x. AllShown is D c.args.done.now → Shows is D n (view x))
    (λ x e all. leaf_shown is D n new.ty new.leaf (ap type_of (sym c.in-Some.ensures.value)) v (view x) c.in-Some-leaf.is e) c.leaf_value.ensures

pub returns-then-is_among-clause-shown : goal.returns-then-is_among-clause-shown
returns-then-is_among-clause-shown c =
    let D = document_of c.args.doc.now in
    let is = is_among c.args.arrays.now in
    let n = c.args.node in
    let new = c.in-Some.new.now in
    let values = c.in_ok-values.values in
    IfOk-along c.one_member.result (λ x. view x ≡ one_member new.ty (view (Array values))) (λ x. AllShown is D c.args.done.now → Shows is D n (view x))
    (λ x e all. row_shown is D n new.ty new.leaf (ap type_of (sym c.in-Some.ensures.value)) c.args.done.now values.items (view (Array values)) (view x) all c.in_default-leaf.is
    (sym c.is_among.ensures ∙ c.if-is_among.true) c.in_ok-values.ensures.values (view-Array values) e) c.one_member.ensures

pub returns-clause-shown : goal.returns-clause-shown
returns-clause-shown c =
    let D = document_of c.args.doc.now in
    let is = is_among c.args.arrays.now in
    let n = c.args.node in
    let new = c.in-Some.new.now in
    let entries = c.args.doc.now.held.entries in
    let members = c.in_ok-members.members in
    IfOk-along c.one_member-2.result (λ x. view x ≡ one_member new.ty (view (Object members))) (λ x. AllShown is D c.args.done.now → Shows is D n (view x))
    (λ x e all. registers_shown is D n new.ty new.leaf (ap type_of (sym c.in-Some.ensures.value)) c.args.done.now (seats_of n entries) (members_view members.entries) (view (Object members)) (view x) all c.in_default-leaf.is
    (sym c.is_among.ensures ∙ c.if-is_among.false) (record { rising = keys_rising (seats_of n entries) (c.requires.seats.rise n); at_each = keys_found n entries }) (c.requires.seats.holds n)
    (subst (λ ss. AreMembers c.args.done.now ss (members_view members.entries)) (c.seats_at.ensures ∙ c.requires.seats.listed n) c.in_ok-members.ensures.members) (view-Object members) e) c.one_member-2.ensures

pub row_values-requires-clause-made : goal.row_values-requires-clause-made
row_values-requires-clause-made c = λ m h. c.requires.made m (row_child (document_of c.args.doc.now) c.requires.sound c.args.node m h)

pub members_of-requires-clause-once : goal.members_of-requires-clause-once
members_of-requires-clause-once c =
    let n = c.args.node in
    let ss = c.seats_at.result.now in
    let listed = sym (c.seats_at.ensures ∙ c.requires.seats.listed n) in
    subst (AreDistinct (λ (s : Seat). s.node)) listed (seats_once (document_of c.args.doc.now) c.requires.sound n (seats_of n c.args.doc.now.held.entries) (c.requires.seats.rise n) (c.requires.seats.holds n))

seat_above : (D : Document) (sound : IsSoundInForm D) (n : NodeId) (ss ts : List Seat) → ss ≡ ts → AllByRecursion (λ (s : Seat). D.held (register n s.key) ≡ Some s.node) ts
    → (m : NodeId) → Has (map (λ (s : Seat). s.node) ss) m → above D m ≡ Some n
seat_above D sound n ss ts same holds m h =
    let t = has-map (λ (s : Seat). s.node) ts m (subst (λ (l : List Seat). Has (map (λ (s : Seat). s.node) l) m) same h) in
    seat_child D sound n m t.0.key (all-has (λ (s : Seat). D.held (register n s.key) ≡ Some s.node) ts t.0 holds t.1 ∙ ap (λ m. Some m) t.2)

pub members_of-requires-clause-made : goal.members_of-requires-clause-made
members_of-requires-clause-made c = λ m h.
    let n = c.args.node in
    c.requires.made m (seat_above (document_of c.args.doc.now) c.requires.sound n c.seats_at.result.now (seats_of n c.args.doc.now.held.entries) (c.seats_at.ensures ∙ c.requires.seats.listed n) (c.requires.seats.holds n) m h)

pub returns-then-is_among-clause-rest : goal.returns-then-is_among-clause-rest
returns-then-is_among-clause-rest c =
    on_any c.one_member.result _ (λ m out. c.in_ok-values.ensures.rest m (λ h. out (row_child (document_of c.args.doc.now) c.requires.sound c.args.node m h)))

pub returns-clause-rest : goal.returns-clause-rest
returns-clause-rest c =
    let n = c.args.node in
    on_any c.one_member-2.result _ (λ m out. c.in_ok-members.ensures.rest m (λ h. out (
    seat_above (document_of c.args.doc.now) c.requires.sound n c.seats_at.result.now (seats_of n c.args.doc.now.held.entries) (c.seats_at.ensures ∙ c.requires.seats.listed n) (c.requires.seats.holds n) m h)))
