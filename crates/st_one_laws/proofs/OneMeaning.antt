-- In the lists of a sound world a step means one thing.
use Rattle.std.proofs.Common.{◌≡◌, ℕ, slice_get, zero, suc, Option, Some, None, IfSome, List, refl, subst, option_map, option_and_then}
use Rattle.st_marks.specs.declared.intents.Intent.{Intent}
use Rattle.st_marks.specs.Document.{Document}
use Rattle.st_marks.specs.Intent.{IsIntent}
use Rattle.st_marks.proofs.Members.{all-has}
use Rattle.st_ids.specs.declared.names.Rev.{Rev}
use Rattle.st_lists.specs.Open.{FitsSoFar}
use Rattle.st_script.specs.Header.{HeaderView}
use Rattle.st_lists.specs.declared.lists.Branch.{Branch}
use Rattle.st_lists.specs.declared.lists.Client.{Client}
use Rattle.st_lists.specs.declared.lists.Entry.{Entry}
use Rattle.st_lists.specs.declared.lists.Transaction.{Transaction}
use Rattle.st_lists.specs.declared.lists.WorldState.{WorldState}
use Rattle.st_lists.specs.Lines.{Line, branch_line, branch_of, edited_on, line_of, main_line}
use Rattle.st_world_laws.specs.Worlds.{IsBranch, IsClient, IsTransaction}
use Rattle.st_world_laws.proofs.Begun.{opened_start}
use Rattle.st_world_laws.proofs.BranchesAgree.{main_in_order}
use Rattle.st_world_laws.specs.Worlds.{IsWorld}
use Rattle.st_world_laws.proofs.Lookup.{branch_there}
use Rattle.st_world_laws.proofs.Everyone.{all_get}
use Rattle.st_world_laws.proofs.Forking.{line_received}
use Rattle.st_one_laws.specs.AlikeWorlds.{HasOneMeaning}
use Rattle.st_one_laws.specs.ClientActs.{StandsOnReceived}

so_far_intent : (D : Document) (rev under : Rev) (o : Option Intent) → FitsSoFar D rev under o → IfSome o IsIntent
so_far_intent D rev under None f = tt
so_far_intent D rev under (Some J) f = f.0.itself

open_intent : (h : HeaderView) (log : List Entry) (l : Line) (c : Client) (o : Option Transaction) → IfSome o (IsTransaction h log l c) → IfSome (option_and_then (λ (t : Transaction). t.joined) o) IsIntent
open_intent h log l c None t = tt
open_intent h log l c (Some t) is = so_far_intent is.before t.rev t.under t.joined is.so_far

line_intent : (h : HeaderView) (log : List Entry) (c : Client) (k : ℕ) (l : Line) → IsClient h log c → line_of c k ≡ Some l → IfSome (edited_on l) IsIntent
line_intent h log c zero l is e = subst (λ (o : Option Line). IfSome o (λ m. IfSome (edited_on m) IsIntent)) e (open_intent h log (main_line c) c c.transaction is.transaction)
line_intent h log c (suc k) l is e = subst (λ (o : Option Line). IfSome o (λ m. IfSome (edited_on m) IsIntent)) e (go (branch_of c (suc k)) refl)
  where
    go : (o : Option Branch) → branch_of c (suc k) ≡ o → IfSome (option_map branch_line o) (λ m. IfSome (edited_on m) IsIntent)
    go None f = tt
    go (Some b) f =
        let there = branch_there c (suc k) b f in
        let is_b : IsBranch h log c b = all-has (IsBranch h log c) c.branches b is.branches.each there.0 in
        open_intent h log (branch_line b) c b.transaction is_b.transaction

pub lists_mean_one : (h : HeaderView) (w : WorldState) → IsWorld h w → HasOneMeaning w
lists_mean_one h w s = record {
  once = λ c i. (main_in_order h (opened_start h s.header) w.log c (all-has (IsClient h w.log) w.clients c s.clients i)).1.once;
  intents = λ c k l i e. line_intent h w.log c k l (all-has (IsClient h w.log) w.clients c s.clients i) e;
}

-- no line of a client of a world stands on more entries than the client received
pub lines_stand_on_received : (h : HeaderView) (w : WorldState) (i : ℕ) (c : Client) → IsWorld h w → slice_get w.clients i ≡ Some c → StandsOnReceived c
lines_stand_on_received h w i c s at k l e = line_received h (opened_start h s.header) w.log c (all_get (IsClient h w.log) w.clients i c s.clients at) k l e
