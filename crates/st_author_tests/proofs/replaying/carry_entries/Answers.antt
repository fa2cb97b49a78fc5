use Rattle.std.proofs.Common.{length, refl}
use Rattle.std.proofs.lemmas.Option.{slice_get_read}
use Rattle.st_lists.specs.Log.{commits_in}
use Rattle.st_lists.proofs.Logs.{commits_append}
use Rattle.st_author_tests.proofs.Replays.{entry_on, nothing}
use Rattle.st_author_tests.proofs.replaying.carry_entries.Goals as goal

pub loop-entry-init : goal.loop-entry-init
loop-entry-init c = nothing c.args.doc.now c.requires

pub carry_entry-requires : goal.carry_entry-requires
carry_entry-requires c = c.loop-entry.invariant.leads.sound

pub loop-entry-preserved : goal.loop-entry-preserved
loop-entry-preserved c =
    let es = c.args.entries.now in
    let i = c.loop-entry.entry-index in
    let e = c.entry-item.result in
    let at = slice_get_read es (length es) i e refl c.loop-entry-test.true c.entry-item.is in
    entry_on commits_in commits_append c.args.doc.now c.loop-entry.doc c.carry_entry.new.doc es i e at c.loop-entry.invariant c.in_ok-carry_entry.ensures
