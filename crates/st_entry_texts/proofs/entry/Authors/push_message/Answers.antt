use Rattle.std.proofs.Common.{◌-◌, refl}
use Rattle.st_doc.specs.Doc.{document_of}
use Rattle.st_lists.specs.declared.lists.Body.TheVariants as body
use Rattle.st_msg.specs.Messages.{Ack, Join, Leave}
use Rattle.st_entry_texts.proofs.Telling.{commit_said, known_of_entry, plain_told}
use Rattle.st_entry_texts.proofs.entry.Authors.push_message.Goals as goal

pub push_commit_of-requires-clause-known : goal.push_commit_of-requires-clause-known
push_commit_of-requires-clause-known c = (c.requires.fit (c.args.n - 1) c.entry_of-entry.result.now c.in-Commit.reference c.in-Commit.ids c.in-Commit.intent c.entry_of-entry.ensures c.in-Commit.is).known

pub push_commit_of-requires-clause-fit : goal.push_commit_of-requires-clause-fit
push_commit_of-requires-clause-fit c = (c.requires.fit (c.args.n - 1) c.entry_of-entry.result.now c.in-Commit.reference c.in-Commit.ids c.in-Commit.intent c.entry_of-entry.ensures c.in-Commit.is).fit

pub push_commit_of-requires-clause-told : goal.push_commit_of-requires-clause-told
push_commit_of-requires-clause-told c = λ C told.
    known_of_entry (document_of c.args.self.now.opening) c.args.log.now c.args.self.now.known (c.args.n - 1) c.entry_of-entry.result.now c.in-Commit.reference c.in-Commit.ids c.in-Commit.intent C c.requires.known c.entry_of-entry.ensures c.in-Commit.is told

pub returns-in-Join-clause-told : goal.returns-in-Join-clause-told
returns-in-Join-clause-told c =
    plain_told c.push_join.result (document_of c.args.self.now.opening) c.args.log.now c.args.n c.args.min c.entry_of-entry.result.now c.args.out.now c.push_join.new.out c.requires.counted c.entry_of-entry.ensures c.requires.min
    (body.Join c.in-Join.uuid) (Join c.in-Join.uuid) c.in-Join.is refl c.push_join.ensures

pub returns-in-Leave-clause-told : goal.returns-in-Leave-clause-told
returns-in-Leave-clause-told c =
    plain_told c.push_leave.result (document_of c.args.self.now.opening) c.args.log.now c.args.n c.args.min c.entry_of-entry.result.now c.args.out.now c.push_leave.new.out c.requires.counted c.entry_of-entry.ensures c.requires.min
    body.Leave Leave c.in-Leave.is refl c.push_leave.ensures

pub returns-in-Ack-clause-told : goal.returns-in-Ack-clause-told
returns-in-Ack-clause-told c =
    plain_told c.push_ack.result (document_of c.args.self.now.opening) c.args.log.now c.args.n c.args.min c.entry_of-entry.result.now c.args.out.now c.push_ack.new.out c.requires.counted c.entry_of-entry.ensures c.requires.min
    (body.Ack c.in-Ack.reference) (Ack c.in-Ack.reference) c.in-Ack.is refl c.push_ack.ensures

pub returns-in-Commit-clause-told : goal.returns-in-Commit-clause-told
returns-in-Commit-clause-told c =
    commit_said c.push_commit_of.result (document_of c.args.self.now.opening) c.args.log.now c.args.n c.args.min c.entry_of-entry.result.now c.args.out.now c.push_commit_of.new.out c.requires.counted c.entry_of-entry.ensures c.requires.min
    c.in-Commit.reference c.in-Commit.ids c.in-Commit.intent c.in-Commit.is c.push_commit_of.ensures.told
