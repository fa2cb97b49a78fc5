use Rattle.std.proofs.Common.{◌≡◌, take}
use Rattle.std.specs.List.{fold}
use Rattle.st_lists.specs.Clients.{KeepsIds, with_commit}
use Rattle.st_plain_branches.proofs.branches.enqueue_all.Given as goal

-- the commits so far are pending, and the client keeps to its ids
abbrev pub invariant-loop-intent : goal.invariant-loop-intent
invariant-loop-intent l = record {
  pending : l.client ≡ fold (λ d N. with_commit d N) l.initial.client (take l.intent-index l.intents);
  ids : l.client.ids ≡ l.initial.client.ids;
  taken : KeepsIds l.client;
}
