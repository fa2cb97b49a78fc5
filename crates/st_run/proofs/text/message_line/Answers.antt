use Rattle.std.proofs.Common.{◌++◌, ◌∙◌, ap, codes, sym, subst}
use Rattle.serde_json.specs.Written.{compact_text}
use Rattle.st_doc.specs.Doc.{document_of}
use Rattle.st_entry_texts.specs.Authors.{AreAuthorsOf}
use Rattle.st_msg.specs.Messages.{message_data}
use Rattle.st_run.proofs.EntriesTold.{kept_as, known_as, least_as, line_is, message_as, told_few, told_fit}
use Rattle.st_run.proofs.text.message_line.Goals as goal

pub push_message-requires-clause-authors : goal.push_message-requires-clause-authors
push_message-requires-clause-authors c =
    let k = c.requires.under_way.0 in
    let h = c.requires.under_way.1 in
    let w = c.requires.under_way.2 in
    let u = c.requires.under_way.3 in
    subst (λ es. AreAuthorsOf es c.args.authors.now) (sym (c.log.ensures k h w u.stands)) u.kept.1

pub push_message-requires-clause-known : goal.push_message-requires-clause-known
push_message-requires-clause-known c =
    let k = c.requires.under_way.0 in
    let h = c.requires.under_way.1 in
    let w = c.requires.under_way.2 in
    let u = c.requires.under_way.3 in
    known_as h w c.args.authors.now c.log.result.now (c.log.ensures k h w u.stands) u.kept

pub push_message-requires-clause-min : goal.push_message-requires-clause-min
push_message-requires-clause-min c =
    let k = c.requires.under_way.0 in
    let h = c.requires.under_way.1 in
    let w = c.requires.under_way.2 in
    let u = c.requires.under_way.3 in
    let there = c.requires.there k h w u in
    least_as c.minimum_after.result c.in-Some.min c.args.n w c.log.result.now (c.log.ensures k h w u.stands) (c.minimum_after.ensures k h w u.stands there.0 there.1) c.in-Some.is

pub push_message-requires-clause-few : goal.push_message-requires-clause-few
push_message-requires-clause-few c =
    let k = c.requires.under_way.0 in
    let h = c.requires.under_way.1 in
    let w = c.requires.under_way.2 in
    let u = c.requires.under_way.3 in
    told_few k c.args.world.now _ h w u c.requires.under_way.4 c.log.result.now (c.log.ensures k h w u.stands)

pub push_message-requires-clause-fit : goal.push_message-requires-clause-fit
push_message-requires-clause-fit c =
    let k = c.requires.under_way.0 in
    let h = c.requires.under_way.1 in
    let w = c.requires.under_way.2 in
    let u = c.requires.under_way.3 in
    told_fit k c.args.world.now _ h w u c.requires.under_way.4 c.log.result.now (c.log.ensures k h w u.stands) (document_of c.args.authors.now.opening) u.kept.0

pub returns-clause-told : goal.returns-clause-told
returns-clause-told c = λ k h w u.
    let told = c.in_ok-push_message.ensures.told in (
      told.0,
      message_as h w c.args.authors.now c.log.result.now c.args.n told.0 (c.log.ensures k h w u.stands) u.kept told.1,
      c.in_ok-push_str.ensures.ok ∙ ap (λ t. t ++ codes ",\"ok\":\"text\"}\n") (told.2 ∙ ap (λ t. t ++ compact_text (message_data told.0)) c.in_ok-out.ensures) ∙ line_is told.0,
    )

pub returns-clause-kept : goal.returns-clause-kept
returns-clause-kept c = λ k h w u. kept_as h w c.args.authors.now c.push_message.new.self c.log.result.now (c.log.ensures k h w u.stands) u.kept c.in_ok-push_message.ensures.opening c.in_ok-push_message.ensures.authors c.in_ok-push_message.ensures.known
