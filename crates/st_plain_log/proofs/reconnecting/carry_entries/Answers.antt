use Rattle.std.proofs.Common.{length, refl}
use Rattle.std.proofs.lemmas.Option.{slice_get_read}
use Rattle.st_marks.specs.Run.{done as nothing}
use Rattle.st_doc.specs.Doc.{document_of}
use Rattle.st_plain_log.proofs.Entries.{entry_fits, entry_on, entry_run}
use Rattle.st_plain_log.proofs.reconnecting.carry_entries.Goals as goal

pub loop-entry-init : goal.loop-entry-init
loop-entry-init c = record { run = nothing; sound = c.requires.sound; fit = c.requires.fit }

pub carry_entry-requires-clause-sound : goal.carry_entry-requires-clause-sound
carry_entry-requires-clause-sound c = c.loop-entry.invariant.sound

pub carry_entry-requires-clause-fits : goal.carry_entry-requires-clause-fits
carry_entry-requires-clause-fits c =
    let es = c.args.entries.now in
    let i = c.loop-entry.entry-index in
    let at = slice_get_read es (length es) i c.entry-item.result refl c.loop-entry-test.true c.entry-item.is in
    entry_fits (document_of c.loop-entry.doc) es i c.entry-item.result at c.loop-entry.invariant.fit

pub loop-entry-preserved : goal.loop-entry-preserved
loop-entry-preserved c =
    let es = c.args.entries.now in
    let i = c.loop-entry.entry-index in
    let e = c.entry-item.result in
    let v = c.loop-entry.invariant in
    let at = slice_get_read es (length es) i e refl c.loop-entry-test.true c.entry-item.is in
    let D = document_of c.loop-entry.doc in
    let E = document_of c.carry_entry.new.doc in
    let on = entry_on D E es i e at v.sound v.fit c.in_ok-carry_entry.ensures in
    record { run = entry_run (document_of c.args.doc.now) D E es i e at v.run c.in_ok-carry_entry.ensures; sound = on.0; fit = on.1 }
