-- Words of the private functions on branches.
use Rattle.std.specs.Prelude.{◌≡◌, ℕ, zero, suc, ◌-◌, Bool, true, false, fold, List, [], ◌∷◌, ◌++◌, length, slice_get, slice_set, Option, Some, None, is_some, if◌then◌else◌}
use Rattle.std.specs.List.{remove}
use Rattle.st_ids.specs.declared.names.Rev.{Rev}
use Rattle.st_marks.specs.declared.intents.Intent.{Intent}
use Rattle.st_marks.specs.Document.{Document}
use Rattle.st_doc.specs.Doc.{document_of}
use Rattle.st_heads.specs.declared.heads.Head.{Head}
use Rattle.st_heads.specs.declared.ways.Carried.{Carried}
use Rattle.st_heads.specs.Remembered.{AreCarried}
use Rattle.st_script.specs.declared.answer.Answer.{Answer}
use Rattle.st_script.specs.declared.answer.Answer.TheVariants as answer
use Rattle.st_script.specs.declared.refusal.Refusal.{Refusal}
use Rattle.st_script.specs.declared.refusal.Refusal.TheVariants as no
use Rattle.st_lists.specs.Clients.{with_commit}
use Rattle.st_lists.specs.Lines.{Line}
use Rattle.st_lists.specs.Names.{names_on}
use Rattle.st_lists.specs.declared.lists.Branch.{Branch}
use Rattle.st_lists.specs.declared.lists.Client.{Client}
use Rattle.st_plain_branches.specs.declared.branches.Ground.{Ground}
use Rattle.st_plain_branches.specs.declared.branches.LineState.{LineState}
use Rattle.st_heads.specs.declared.replica.Replica.{Replica}
use Rattle.st_lists.specs.Lines.{branch_place}

-- of a line: whether a transaction is open on it, and how many commits of its own it has
abbrev pub state_of : Line → LineState
state_of l = record { is_open = is_some l.transaction; own = length l.own }

-- what a branch stands on that is made of a line
abbrev pub ground_of : Line → Ground
ground_of l = record { received = l.received; base = l.base ++ l.own }

-- a branch that begins there
abbrev pub branch_over : ℕ → ℕ → Ground → Branch
branch_over number parent g = record { number = number; parent = parent; received = g.received; base = g.base; own = []; transaction = None }

-- a branch on other ground
abbrev pub with_ground : Branch → Ground → Branch
with_ground b g = record b { received = g.received; base = g.base }

-- the revisions of the commits that came out void
abbrev pub void_among : List Intent → List Carried → List Rev
void_among [] ks = []
void_among (N ∷ Ns) [] = []
void_among (N ∷ Ns) (k ∷ ks) = if k.void then N.rev ∷ void_among Ns ks else void_among Ns ks

-- there is no line of the number: nothing changes
abbrev pub HasNoLine : Client → Replica → Client → Replica → Answer → Type 0
HasNoLine c old d new a = (d ≡ c) × (new ≡ old) × (a ≡ answer.No no.NoBranch)

-- the head of a branch that begins over a document
pub record IsNewHead (D : Document) (h : Head) : Type 0 where
  pub doc : document_of h.doc ≡ D
  pub own : h.own ≡ []
  pub edited : h.edited ≡ None

-- what is kept after a fork, by the head of the line that is forked
abbrev pub HasForkedOn : Option Head → Replica → Replica → Type 0
HasForkedOn None old new = new ≡ old
HasForkedOn (Some parent) old new = (h : Head) × IsNewHead (document_of parent.doc) h × (new ≡ record old { branches = old.branches ++ h ∷ [] })

abbrev pub HasForked : Option Head → Option Refusal → Replica → Replica → Type 0
HasForked parent None old new = HasForkedOn parent old new
HasForked parent (Some why) old new = new ≡ old

-- a client, and what is kept of it, after a rebase of the branch at a place onto its parent's line and that one's head
abbrev pub HasRebased : Client → Replica → ℕ → Branch → Line → Head → Option Refusal → Client → Replica → Answer → Type 0
HasRebased c old j b l p None d new a = (h : Head) × AreCarried (document_of p.doc) b.own h.own (document_of h.doc) × (h.edited ≡ None)
    × (d ≡ record c { branches = slice_set c.branches j (with_ground b (ground_of l)) }) × (new ≡ record old { branches = slice_set old.branches j h })
    × (a ≡ answer.Rebase (void_among b.own h.own))
HasRebased c old j b l p (Some why) d new a = (d ≡ c) × (new ≡ old) × (a ≡ answer.No why)

-- a client, and what is kept of it, without the branch at a place
abbrev pub without_place : Client → ℕ → Client
without_place c j = record c { branches = remove c.branches j }

abbrev pub without_head : Replica → ℕ → Replica
without_head k j = record k { branches = remove k.branches j }

-- commits were merged into the line of a number, over its head
abbrev pub HasMergedInto : Client → Replica → ℕ → Head → List Intent → Client → Replica → Answer → Type 0
HasMergedInto c old zero p Ns d new a = (h : Head) × (ks : List Carried) × AreCarried (document_of p.doc) Ns ks (document_of h.doc) × (h.own ≡ p.own ++ ks) × (h.edited ≡ p.edited)
    × (d ≡ fold (λ c N. with_commit c N) c Ns) × (new ≡ record old { main = h }) × (a ≡ answer.Merge (void_among Ns ks))
HasMergedInto c old (suc n) p Ns d new a = (j : ℕ) × (b : Branch) × (h : Head) × (ks : List Carried) × (branch_place (suc n) c.branches ≡ Some j) × (slice_get c.branches j ≡ Some b)
    × AreCarried (document_of p.doc) Ns ks (document_of h.doc) × (h.own ≡ p.own ++ ks) × (h.edited ≡ p.edited)
    × (d ≡ record c { branches = slice_set c.branches j (record b { own = b.own ++ Ns }) }) × (new ≡ record old { branches = slice_set old.branches j h }) × (a ≡ answer.Merge (void_among Ns ks))

-- the branch at a place was merged into its parent, over the head that is kept of that
abbrev pub HasMerged : Client → Replica → ℕ → Branch → Head → Option Refusal → Client → Replica → Answer → Type 0
HasMerged c old j b p None d new a = HasMergedInto (without_place c j) (without_head old j) b.parent p b.own d new a
HasMerged c old j b p (Some why) d new a = (d ≡ c) × (new ≡ old) × (a ≡ answer.No why)

-- the branch at a place was dropped, if it has no children
abbrev pub HasDropped : Client → Replica → ℕ → Branch → Bool → Client → Replica → Answer → Type 0
HasDropped c old j b true d new a = (d ≡ c) × (new ≡ old) × (a ≡ answer.No no.HasChildren)
HasDropped c old j b false d new a = (d ≡ without_place c j) × (new ≡ record old { branches = remove old.branches j; names = old.names - names_on b }) × (a ≡ answer.DropBranch)
