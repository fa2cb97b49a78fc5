use Rattle.std.proofs.Common.{length, refl}
use Rattle.std.proofs.lemmas.Option.{slice_get_read}
use Rattle.st_lists.specs.Log.{commits_by}
use Rattle.st_lists.proofs.Logs.{by_append}
use Rattle.st_author_tests.proofs.Replays.{entry_on, nothing}
use Rattle.st_author_tests.proofs.replaying.carry_own.Goals as goal

pub loop-entry-init : goal.loop-entry-init
loop-entry-init c = nothing c.args.doc.now c.requires

pub carry_own_entry-requires : goal.carry_own_entry-requires
carry_own_entry-requires c = c.loop-entry.invariant.leads.sound

pub loop-entry-preserved : goal.loop-entry-preserved
loop-entry-preserved c =
    let s = c.args.session in
    let es = c.args.entries.now in
    let i = c.loop-entry.entry-index in
    let e = c.entry-item.result in
    let at = slice_get_read es (length es) i e refl c.loop-entry-test.true c.entry-item.is in
    entry_on (commits_by s) (by_append s) c.args.doc.now c.loop-entry.doc c.carry_own_entry.new.doc es i e at c.loop-entry.invariant c.in_ok-carry_own_entry.ensures
