use Rattle.std.proofs.Common.{◌-◌, ◌∷◌, [], take}
use Rattle.st_log_laws.proofs.Turns.{front}
use Rattle.st_valid.specs.Author.{author_list}
use Rattle.st_entry_texts.proofs.Telling.{commit_told, fits_there, leads_as}
use Rattle.st_entry_texts.proofs.entry.push_anew.Goals as goal

pub go_on-requires-clause-may : goal.go_on-requires-clause-may
go_on-requires-clause-may c =
    let may = c.requires.may in
    record { opening = may.0; is = may.1.is; fit = front (author_list (take (c.args.head.n - 1) c.args.log.now) c.args.head.session c.args.reference) (c.args.intent.now ∷ []) may.0 may.1.fit }

pub push_told-requires-clause-sound : goal.push_told-requires-clause-sound
push_told-requires-clause-sound c =
    let may = c.requires.may in
    (c.doc-doc.ensures may.0 c.args.log.now c.args.head.session (c.in_ok-go_on.ensures.is may.0 may.1.is).doc).sound

pub push_told-requires-clause-fits : goal.push_told-requires-clause-fits
push_told-requires-clause-fits c =
    let may = c.requires.may in
    let leads = leads_as may.0 c.args.log.now c.go_on.new.author c.doc-doc.result.now (c.args.head.n - 1) c.args.head.session c.args.reference c.in_ok-go_on.ensures.at c.in_ok-go_on.ensures.seen (c.doc-doc.ensures may.0 c.args.log.now c.args.head.session (c.in_ok-go_on.ensures.is may.0 may.1.is).doc) in
    fits_there may.0 (author_list (take (c.args.head.n - 1) c.args.log.now) c.args.head.session c.args.reference) c.args.intent.now c.doc-doc.result.now leads may.1.fit

pub returns-clause-told : goal.returns-clause-told
returns-clause-told c = λ O is.
    let told = c.in_ok-push_told.ensures in
    let leads = leads_as O c.args.log.now c.go_on.new.author c.doc-doc.result.now (c.args.head.n - 1) c.args.head.session c.args.reference c.in_ok-go_on.ensures.at c.in_ok-go_on.ensures.seen (c.doc-doc.ensures O c.args.log.now c.args.head.session (c.in_ok-go_on.ensures.is O is).doc) in
    commit_told O c.args.log.now c.doc-doc.result.now (c.args.head.n - 1) c.args.head.session c.args.reference c.args.head.n c.args.head.min c.args.ids c.args.intent.now told.0 c.args.out.now c.push_told.new.out c.requires.before leads told.1
    (told.2 c.args.log.now c.args.reference c.in_ok-go_on.ensures.numbers)
