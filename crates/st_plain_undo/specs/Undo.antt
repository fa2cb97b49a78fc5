-- What undoes a commit, by what is kept of it.
use Rattle.std.specs.Prelude.{◌≡◌, ◌==◌, ℕ, nat_le, Bool, not, List, position, slice_get, Option, Some, None, is_some, option_and_then, Result, Ok, Err, if◌then◌else◌}
use Rattle.std.specs.BTreeMap.{BTreeMap, get}
use Rattle.st_ids.specs.Order.{rev_cmp}
use Rattle.st_ids.specs.declared.names.Limit.{Limit}
use Rattle.st_ids.specs.declared.names.Rev.{Rev}
use Rattle.st_marks.specs.declared.intents.Intent.{Intent}
use Rattle.st_heads.specs.Remembered.{intent_of_way}
use Rattle.st_heads.specs.declared.ways.Carried.{Carried}
use Rattle.st_heads.specs.declared.ways.Way.{Way}
use Rattle.st_script.specs.declared.answer.Answer.{Answer}
use Rattle.st_script.specs.declared.answer.Answer.TheVariants as answer
use Rattle.st_script.specs.declared.refusal.Refusal.{Refusal}
use Rattle.st_script.specs.declared.refusal.Refusal.TheVariants as no
use Rattle.st_lists.specs.Clients.{next_rev, with_new_commit}
use Rattle.st_lists.specs.Limits.{pending_limit_passed}
use Rattle.st_lists.specs.declared.lists.Client.{Client}
use Rattle.st_lists.specs.declared.lists.Transaction.{Transaction}
use Rattle.st_world.specs.Undo.{has_rev}
use Rattle.st_plain_undo.specs.declared.logged.Logged.{Logged}
use Rattle.st_heads.specs.declared.replica.Replica.{Replica}
use Rattle.st_heads.specs.Replicas.{IsCommitted}

-- the way back over a commit, if one more can be pending
abbrev pub way_within : Client → Rev → Way → Option Limit → Result Intent Refusal
way_within c under back None = Ok (intent_of_way back (next_rev c) under)
way_within c under back (Some l) = Err (no.Limit l)

-- the way back over a commit that came out so
abbrev pub way_of : Client → Rev → Bool → Carried → Result Intent Refusal
way_of c under is_schema k = if k.void then Err no.VoidCommit else if is_schema then Err no.Kind else way_within c under k.back (pending_limit_passed c)

-- over one of the log
abbrev pub way_logged : ℕ → Client → Rev → Rev → Logged → Result Intent Refusal
way_logged floor c under rev l =
    if not (rev.session == c.session) then Err no.NotOwn else
    if nat_le l.n floor then Err (no.Gone floor) else way_of c under l.is_schema l.carried

-- over one that is pending
abbrev pub way_pending : Client → Rev → Rev → Option Intent → Option Carried → Result Intent Refusal
way_pending c under rev None k = Err no.NoCommit
way_pending c under rev (Some N) None = Err no.NoCommit
way_pending c under rev (Some N) (Some k) = if not (rev.session == c.session) then Err no.NotOwn else way_of c under (is_some N.schema) k

-- over the one at a place among those that are pending
abbrev pub way_at : Client → Rev → List Carried → Rev → Option ℕ → Result Intent Refusal
way_at c under own rev None = Err no.NoCommit
way_at c under own rev (Some j) = way_pending c under rev (slice_get c.pending j) (slice_get own j)

-- what is kept of the commit of a revision, if it is among the entries that were received
abbrev pub logged_within : ℕ → Logged → Option Logged
logged_within received l = if nat_le l.n received then Some l else None

abbrev pub logged_of : BTreeMap Rev Logged → ℕ → Rev → Option Logged
logged_of logged received rev = option_and_then (logged_within received) (get rev_cmp logged rev)

-- over the commit of a revision: one that was received, or one that is pending
abbrev pub way_over : ℕ → Client → Rev → List Carried → Rev → Option Logged → Result Intent Refusal
way_over floor c under own rev (Some l) = way_logged floor c under rev l
way_over floor c under own rev None = way_at c under own rev (position (has_rev rev) c.pending)

-- the client after it, and the answer
abbrev pub undone : Client → Result Intent Refusal → Client × Answer
undone c (Err r) = (c, answer.No r)
undone c (Ok B) = (with_new_commit c B, answer.Undo (next_rev c))

abbrev pub undo_in : Client → Option Transaction → Result Intent Refusal → Client × Answer
undo_in c (Some t) way = (c, answer.No no.Unfinished)
undo_in c None way = undone c way

-- and what is kept of it
abbrev pub HasGone : Replica → Result Intent Refusal → Replica → Type 0
HasGone old (Err r) new = new ≡ old
HasGone old (Ok B) new = IsCommitted old B new

abbrev pub HasUndone : Option Transaction → Replica → Result Intent Refusal → Replica → Type 0
HasUndone (Some t) old way new = new ≡ old
HasUndone None old way new = HasGone old way new
