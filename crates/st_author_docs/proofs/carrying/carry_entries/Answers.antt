use Rattle.std.proofs.Common.{length, refl}
use Rattle.std.proofs.lemmas.Option.{slice_get_read}
use Rattle.st_marks.specs.Run.{done}
use Rattle.st_doc.specs.Doc.{document_of}
use Rattle.st_lists.specs.Log.{commits_in}
use Rattle.st_lists.proofs.Logs.{commits_append}
use Rattle.st_author_docs.proofs.Along.{next_fits, rest_fits, run_on}
use Rattle.st_author_docs.proofs.carrying.carry_entries.Goals as goal

pub loop-entry-init : goal.loop-entry-init
loop-entry-init c = record { run = done; sound = c.requires.sound; fit = c.requires.fit }

pub carry_entry-requires-clause-sound : goal.carry_entry-requires-clause-sound
carry_entry-requires-clause-sound c = c.loop-entry.invariant.sound

pub carry_entry-requires-clause-fit : goal.carry_entry-requires-clause-fit
carry_entry-requires-clause-fit c =
    let es = c.args.entries.now in
    let i = c.loop-entry.entry-index in
    let e = c.entry-item.result in
    let at = slice_get_read es (length es) i e refl c.loop-entry-test.true c.entry-item.is in
    next_fits commits_in commits_append es i e at (document_of c.loop-entry.doc) c.loop-entry.invariant.fit

pub loop-entry-preserved : goal.loop-entry-preserved
loop-entry-preserved c =
    let es = c.args.entries.now in
    let i = c.loop-entry.entry-index in
    let e = c.entry-item.result in
    let at = slice_get_read es (length es) i e refl c.loop-entry-test.true c.entry-item.is in
    let v = c.loop-entry.invariant in
    let D = document_of c.loop-entry.doc in
    let E = document_of c.carry_entry.new.doc in
    let one = c.in_ok-carry_entry.ensures in
    record {
      run = run_on commits_in commits_append es i e at (document_of c.args.doc.now) D E v.run one.run;
      sound = one.sound;
      fit = rest_fits commits_in commits_append es i e at D E v.fit one.run;
    }
