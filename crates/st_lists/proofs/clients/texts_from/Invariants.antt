-- the texts so far, and how many ids they have taken
use Rattle.std.proofs.Common.{◌≡◌, take}
use Rattle.st_lists.specs.Clients.{taken_after, texts_from}
use Rattle.st_lists.proofs.clients.texts_from.Given as goal

abbrev pub invariant-loop-intent : goal.invariant-loop-intent
invariant-loop-intent l = record {
  written : l.texts ≡ texts_from l.reference l.session l.taken l.ids (take l.intent-index l.intents);
  so_far : l.before ≡ taken_after l.taken l.ids (take l.intent-index l.intents);
}
