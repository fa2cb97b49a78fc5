use Rattle.std.proofs.Common.{◌∙◌, ap}
use Rattle.serde_json.specs.Data.{put}
use Rattle.serde_json.specs.View.{view, members_view}
use Rattle.serde_json.proofs.Views.{members_view-insert_entry}
use Rattle.st_export.proofs.registers.put.Goals as goal

pub returns : goal.returns
returns c =
    let members = c.args.members.now.entries in
    let v = c.args.value in
    ap members_view c.in_ok-insert.ensures.entries ∙ members_view-insert_entry members c.in_ok-key.key v ∙ ap (λ k. put k (view v) (members_view members)) (c.in_ok-key.ensures.ok ∙ c.as_str.ensures)
