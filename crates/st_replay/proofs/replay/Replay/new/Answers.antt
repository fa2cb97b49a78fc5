use Rattle.st_doc.specs.Doc.{document_of}
use Rattle.st_valid_laws.specs.Messages.{no_message}
use Rattle.st_replay.proofs.DocsKept.{opens}
use Rattle.st_replay.proofs.replay.Replay.new.Goals as goal

pub returns : goal.returns
returns c = record {
  opens = c.requires.opens;
  valid = no_message;
  entries = c.new.ensures;
  numbers = c.new-2.ensures;
  document = opens (document_of c.args.opening) c.in_ok-doc.doc c.in_ok-doc.ensures c.requires.opens.sound;
  authors = c.start-2.ensures;
  makers = c.in_ok-makers.ensures;
}
