use Rattle.std.proofs.Common.{◌∙◌, sym, ap, ◌++◌}
use Rattle.serde_json.specs.Written.{compact_text}
use Rattle.st_change_writer.specs.Told.{change_data}
use Rattle.st_texts.specs.Names.{names_seen}
use Rattle.st_entry_texts.proofs.Telling.{upgrade_told}
use Rattle.st_entry_texts.proofs.entry.push_change_of.Goals as goal

pub returns : goal.returns
returns c = λ log at h.
    let names = names_seen log c.args.head.session at c.args.ids in
    let C = c.args.change.now in
    c.in_ok-push_commit.ensures (change_data names C) (c.is_some-upgrade.ensures ∙ sym (upgrade_told names C))
    (c.as_str.ensures ∙ c.in_ok-push_change.ensures log at h ∙ ap (λ t. t ++ compact_text (change_data names C)) c.new-text.ensures)
