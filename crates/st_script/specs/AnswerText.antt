-- The lines of answers.
use Rattle.std.specs.Prelude.{ℕ, List, [], ◌∷◌, ◌++◌, map, Option, None, Some, codes}
use Rattle.std.specs.List.{join_by}
use Rattle.serde_json.specs.Data.{Data, null, number, unsigned, string, array, object, no_members, member}
use Rattle.serde_json.specs.View.{items_of}
use Rattle.serde_json.specs.Written.{compact_text}
use Rattle.st_ids.specs.Names.{rev_text, atom_text}
use Rattle.st_ids.specs.declared.names.Rev.{Rev}
use Rattle.st_ids.specs.declared.names.Limit.{Limit}
use Rattle.st_ids.specs.declared.names.LimitOf.{LimitOf}
use Rattle.st_ids.specs.declared.names.LimitOf.TheVariants as limit
use Rattle.st_marks.specs.declared.verdicts.Verdict.{Verdict}
use Rattle.st_script.specs.declared.answer.Answer.{Answer}
use Rattle.st_script.specs.declared.answer.Answer.TheVariants as answer
use Rattle.st_script.specs.declared.refusal.Refusal.{Refusal}
use Rattle.st_script.specs.declared.refusal.Refusal.TheVariants as no

abbrev pub limit_word : LimitOf → List ℕ
limit_word limit.Clients = codes "clients"
limit_word limit.Log = codes "log"
limit_word limit.Names = codes "names"
limit_word limit.Commit = codes "commit"
limit_word limit.Pending = codes "pending"
limit_word limit.Branches = codes "branches"
limit_word limit.Branch = codes "branch"
limit_word limit.Unsequenced = codes "unsequenced"
limit_word limit.Schemas = codes "schemas"

-- `{"no":name}`
abbrev pub no_data : List ℕ → Data
no_data name = object (member (codes "no") (string name) no_members)

abbrev pub limit_data : Limit → Data
limit_data l = object (member (codes "kept") (number (unsigned l.kept)) (member (codes "no") (string (codes "Limit")) (member (codes "of") (string (limit_word l.of)) no_members)))

abbrev pub no_node_data : ℕ → Data
no_node_data depth = object (member (codes "depth") (number (unsigned depth)) (member (codes "no") (string (codes "NoNode")) no_members))

abbrev pub not_allowed_data : ℕ → Data
not_allowed_data at = object (member (codes "at") (number (unsigned at)) (member (codes "no") (string (codes "NotAllowed")) no_members))

abbrev pub gone_data : ℕ → Data
gone_data floor = object (member (codes "floor") (number (unsigned floor)) (member (codes "no") (string (codes "Gone")) no_members))

abbrev pub not_wider_data : ℕ → Data
not_wider_data at = object (member (codes "at") (number (unsigned at)) (member (codes "no") (string (codes "NotWider")) no_members))

abbrev pub refusal_data : Refusal → Data
refusal_data no.Taken = no_data (codes "Taken")
refusal_data no.Clash = no_data (codes "Clash")
refusal_data no.NoClient = no_data (codes "NoClient")
refusal_data no.NotConnected = no_data (codes "NotConnected")
refusal_data no.Connected = no_data (codes "Connected")
refusal_data no.NoBranch = no_data (codes "NoBranch")
refusal_data no.HasChildren = no_data (codes "HasChildren")
refusal_data (no.NoNode depth) = no_node_data depth
refusal_data no.Kind = no_data (codes "Kind")
refusal_data no.Range = no_data (codes "Range")
refusal_data no.Inside = no_data (codes "Inside")
refusal_data (no.NotAllowed at) = not_allowed_data at
refusal_data no.Unfinished = no_data (codes "Unfinished")
refusal_data no.NotBegun = no_data (codes "NotBegun")
refusal_data no.NoCommit = no_data (codes "NoCommit")
refusal_data no.NotOwn = no_data (codes "NotOwn")
refusal_data (no.Gone floor) = gone_data floor
refusal_data no.VoidCommit = no_data (codes "VoidCommit")
refusal_data no.NothingToSend = no_data (codes "NothingToSend")
refusal_data no.NothingNew = no_data (codes "NothingNew")
refusal_data (no.NotWider at) = not_wider_data at
refusal_data (no.Limit l) = limit_data l

-- `{"ok":word}`
abbrev pub ok_data : List ℕ → Data
ok_data word = object (member (codes "ok") (string word) no_members)

-- `{"ok":word,"rev":"s.n"}`
abbrev pub rev_data : List ℕ → Rev → Data
rev_data word rev = object (member (codes "ok") (string word) (member (codes "rev") (string (rev_text rev)) no_members))

-- null in place of the revision where no commit was made
abbrev pub commit_data : Option Rev → Data
commit_data None = object (member (codes "ok") (string (codes "commit")) (member (codes "rev") null no_members))
commit_data (Some rev) = rev_data (codes "commit") rev

abbrev pub join_data : ℕ → ℕ → Data
join_data n s = object (member (codes "n") (number (unsigned n)) (member (codes "ok") (string (codes "join")) (member (codes "s") (number (unsigned s)) no_members)))

abbrev pub sequence_data : ℕ → ℕ → Data
sequence_data least n = object (member (codes "min") (number (unsigned least)) (member (codes "n") (number (unsigned n)) (member (codes "ok") (string (codes "sequence")) no_members)))

abbrev pub ack_data : ℕ → Data
ack_data reference = object (member (codes "ok") (string (codes "ack")) (member (codes "ref") (number (unsigned reference)) no_members))

-- `{reason:name}`
abbrev pub reason_data : List ℕ → List ℕ → Data
reason_data reason name = object (member reason (string name) no_members)

-- why a commit is void, and null for one in effect
abbrev pub void_data : Verdict → Data
void_data Verdict.Sound = null
void_data (Verdict.Schema under) = reason_data (codes "schema") (rev_text under)
void_data (Verdict.Need node) = reason_data (codes "need") (atom_text node.0)
void_data (Verdict.Cycle node) = reason_data (codes "cycle") (atom_text node.0)

abbrev pub deliver_data : ℕ → Verdict → Data
deliver_data n verdict = object (member (codes "n") (number (unsigned n)) (member (codes "ok") (string (codes "deliver")) (member (codes "void") (void_data verdict) no_members)))

-- `{"n":n,"ok":word}`
abbrev pub entry_data : List ℕ → ℕ → Data
entry_data word n = object (member (codes "n") (number (unsigned n)) (member (codes "ok") (string word) no_members))

abbrev pub reconnect_data : ℕ → ℕ → Data
reconnect_data n sent = object (member (codes "n") (number (unsigned n)) (member (codes "ok") (string (codes "reconnect")) (member (codes "sent") (number (unsigned sent)) no_members)))

abbrev pub fork_data : ℕ → Data
fork_data branch = object (member (codes "branch") (number (unsigned branch)) (member (codes "ok") (string (codes "fork")) no_members))

abbrev pub revs_data : List Rev → Data
revs_data revs = array (items_of (map (λ rev. string (rev_text rev)) revs))

-- `{"ok":word,"void":[revisions]}`
abbrev pub void_revs_data : List ℕ → List Rev → Data
void_revs_data word void = object (member (codes "ok") (string word) (member (codes "void") (revs_data void) no_members))

-- the tree stands in its line as it is
abbrev pub show_text : List ℕ → List ℕ
show_text tree = codes "{\"ok\":\"show\",\"tree\":" ++ tree ++ codes "}"

-- the texts of changes stand in their line as they are, with a comma between each two
abbrev pub pending_text : List (List ℕ) → List Rev → List ℕ
pending_text texts void =
    codes "{\"ok\":\"pending\",\"pending\":[" ++ join_by (λ t. t) (codes ",") texts ++ codes "],\"void\":" ++ compact_text (revs_data void) ++ codes "}"

abbrev pub answer_text : Answer → List ℕ
answer_text answer.Header = compact_text (ok_data (codes "header"))
answer_text (answer.Join n s) = compact_text (join_data n s)
answer_text (answer.Insert rev) = compact_text (rev_data (codes "insert") rev)
answer_text (answer.Remove rev) = compact_text (rev_data (codes "remove") rev)
answer_text (answer.Move rev) = compact_text (rev_data (codes "move") rev)
answer_text (answer.Set rev) = compact_text (rev_data (codes "set") rev)
answer_text (answer.Clear rev) = compact_text (rev_data (codes "clear") rev)
answer_text (answer.Need rev) = compact_text (rev_data (codes "need") rev)
answer_text (answer.Begin rev) = compact_text (rev_data (codes "begin") rev)
answer_text (answer.Commit rev) = compact_text (commit_data rev)
answer_text answer.Abort = compact_text (ok_data (codes "abort"))
answer_text (answer.Fork branch) = compact_text (fork_data branch)
answer_text (answer.Rebase void) = compact_text (void_revs_data (codes "rebase") void)
answer_text (answer.Merge void) = compact_text (void_revs_data (codes "merge") void)
answer_text answer.DropBranch = compact_text (ok_data (codes "drop_branch"))
answer_text (answer.Undo rev) = compact_text (rev_data (codes "undo") rev)
answer_text (answer.Upgrade rev) = compact_text (rev_data (codes "upgrade") rev)
answer_text (answer.Sequence least n) = compact_text (sequence_data least n)
answer_text (answer.Ack reference) = compact_text (ack_data reference)
answer_text (answer.Deliver n verdict) = compact_text (deliver_data n verdict)
answer_text (answer.Leave n) = compact_text (entry_data (codes "leave") n)
answer_text (answer.Drop n) = compact_text (entry_data (codes "drop") n)
answer_text (answer.Reconnect n sent) = compact_text (reconnect_data n sent)
answer_text (answer.Show tree) = show_text tree
answer_text (answer.Pending texts void) = pending_text texts void
answer_text (answer.No refusal) = compact_text (refusal_data refusal)

abbrev pub answer_line : Answer → List ℕ
answer_line a = answer_text a ++ 10 ∷ []
