-- Each world is like itself.
use Rattle.std.proofs.Common.{refl}
use Rattle.st_lists.specs.declared.lists.Body.{Body}
use Rattle.st_lists.specs.declared.lists.Branch.{Branch}
use Rattle.st_lists.specs.declared.lists.Client.{Client}
use Rattle.st_lists.specs.declared.lists.Entry.{Entry}
use Rattle.st_lists.specs.declared.lists.Transaction.{Transaction}
use Rattle.st_lists.specs.declared.lists.WorldState.{WorldState}
use Rattle.st_lists.specs.Log.{commit_in}
use Rattle.st_one_laws.specs.AlikeWorlds.{AlikeBody, AlikeBranch, AlikeClient, AlikeEntry, AlikeTransaction, AreAlike, IsAlike}
use Rattle.st_one_laws.proofs.OneByOne.{each_itself, option_itself}
use Rattle.st_one_laws.proofs.AlikeIntents.{alike_itself}

body_itself : (b : Body) → AlikeBody b b
body_itself b = (refl, option_itself IsAlike alike_itself (commit_in b))

entry_itself : (e : Entry) → AlikeEntry e e
entry_itself e = record { n = refl; session = refl; body = body_itself e.body }

transaction_itself : (t : Transaction) → AlikeTransaction t t
transaction_itself t = record { rev = refl; under = refl; nodes = refl; cells = refl; joined = option_itself IsAlike alike_itself t.joined }

branch_itself : (b : Branch) → AlikeBranch b b
branch_itself b = record { number = refl; parent = refl; received = refl; base = each_itself IsAlike alike_itself b.base; own = each_itself IsAlike alike_itself b.own; transaction = option_itself AlikeTransaction transaction_itself b.transaction }

client_itself : (c : Client) → AlikeClient c c
client_itself c = record { plain = refl; pending = each_itself IsAlike alike_itself c.pending; transaction = option_itself AlikeTransaction transaction_itself c.transaction; queue = each_itself AlikeBody body_itself c.queue; branches = each_itself AlikeBranch branch_itself c.branches }

pub worlds_itself : (w : WorldState) → AreAlike w w
worlds_itself w = record { log = each_itself AlikeEntry entry_itself w.log; clients = each_itself AlikeClient client_itself w.clients }
