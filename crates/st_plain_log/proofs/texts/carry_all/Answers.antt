use Rattle.std.proofs.Common.{◌++◌, drop, subst, sym}
use Rattle.std.proofs.lemmas.List.{drop_all}
use Rattle.st_doc.specs.Doc.{document_of}
use Rattle.st_world.specs.Texts.{AreTextsOf}
use Rattle.st_plain_log.proofs.TextsInTurn.{all_told, next_fits, rest_fits, text_behind}
use Rattle.st_plain_log.proofs.texts.carry_all.Goals as goal

pub loop-intent-init : goal.loop-intent-init
loop-intent-init c = record { goes_on = λ more h. subst (λ texts. AreTextsOf (document_of c.args.doc.now) c.args.intents.now (texts ++ more)) (sym c.new-texts.ensures) h; sound = c.requires.sound; fit = c.requires.fit }

pub loop-intent-preserved : goal.loop-intent-preserved
loop-intent-preserved c =
    let Ns = c.args.intents.now in
    let i = c.loop-intent.intent-index in
    let N = c.intent-item.result in
    let D = document_of c.loop-intent.doc in
    let E = document_of c.push_text.new.doc in
    let inside = c.loop-intent-test.true in
    let at = sym c.intent-item.is in
    let v = c.loop-intent.invariant in
    let text = c.in_ok-push_text.ensures.text in
    let after = c.in_ok-push_text.ensures.after in
    record {
      goes_on = text_behind Ns i N inside at (document_of c.args.doc.now) D E c.loop-intent.texts c.push_text.new.texts text.0 text.1 text.2 after v.goes_on;
      sound = c.in_ok-push_text.ensures.still_sound (next_fits Ns i N inside at D v.fit).1;
      fit = rest_fits Ns i N inside at D E v.fit after;
    }

pub returns : goal.returns
returns c =
    let Ns = c.args.intents.now in
    let i = c.loop-intent.intent-index in
    all_told (document_of c.args.doc.now) (document_of c.loop-intent.doc) Ns (drop i Ns) c.loop-intent.texts (drop_all i Ns c.loop-intent-test.false) c.loop-intent.invariant.goes_on
