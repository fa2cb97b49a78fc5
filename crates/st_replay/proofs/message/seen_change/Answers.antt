use Rattle.std.proofs.Common.{None, Some, ap, ◌∙◌}
use Rattle.serde_json.specs.View.{view}
use Rattle.st_change_reader.specs.Reading.{change_of}
use Rattle.st_clusters.specs.Ids.{ids_of}
use Rattle.st_lists.specs.Log.{ranges_in}
use Rattle.st_mark_reader.specs.OpSpace.{any_form, op_id_in}
use Rattle.st_valid_laws.specs.Shape.{IsChangeRead, IsReadSo, form_of_ids}
use Rattle.st_replay.proofs.MessagesRead.{change_seen, ok_along, refused_along}
use Rattle.st_replay.proofs.message.seen_change.Goals as goal

pub returns-clause-ok : goal.returns-clause-ok
returns-clause-ok c =
    let a = c.args in
    ok_along c.change_at.result (λ x. IsReadSo (change_of any_form (view a.value.now)) (change_of (form_of_ids (op_id_in (ids_of a.table.now).clusters c.in_ok-later.later a.session c.generated_with.result)) (view a.value.now)) (Some x))
    (λ x. IsChangeRead a.log.now a.session a.reference a.ids (view a.value.now) (Some x))
    (λ x h. change_seen a.log.now a.session a.reference a.ids (ids_of a.table.now) c.in_ok-later.later c.generated_with.result (view a.value.now) (Some x) c.requires (c.in_ok-later.ensures ∙ ap ranges_in c.entries_behind.ensures) c.generated_with.ensures h) c.change_at.ensures.ok

pub returns-clause-shape : goal.returns-clause-shape
returns-clause-shape c =
    let a = c.args in
    refused_along c.change_at.result (λ x. IsReadSo (change_of any_form (view a.value.now)) (change_of (form_of_ids (op_id_in (ids_of a.table.now).clusters c.in_ok-later.later a.session c.generated_with.result)) (view a.value.now)) None)
    (λ x. IsChangeRead a.log.now a.session a.reference a.ids (view a.value.now) None)
    (λ x h. change_seen a.log.now a.session a.reference a.ids (ids_of a.table.now) c.in_ok-later.later c.generated_with.result (view a.value.now) None c.requires (c.in_ok-later.ensures ∙ ap ranges_in c.entries_behind.ensures) c.generated_with.ensures h) c.change_at.ensures.shape
