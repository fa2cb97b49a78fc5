-- Changes that are judged by what they mean in their author's document.
use Rattle.std.proofs.Common.{◌≡◌, ℕ, true, List, Option, Some, IfSome, Result, Ok, Err, IfOk, sym, subst, inr}
use Rattle.st_ids.specs.Or.{IfRefused}
use Rattle.st_ids.specs.declared.fault.Or.{Or}
use Rattle.st_ids.specs.declared.fault.Or.TheVariants.{Fault, NoMemory}
use Rattle.st_lists.specs.Log.{commits_in}
use Rattle.st_lists.specs.declared.lists.Entry.{Entry}
use Rattle.st_makers.specs.Makers.{KnowsMakers}
use Rattle.st_makers.specs.declared.makers.Makers.{Makers}
use Rattle.st_marks.specs.declared.changes.Change.{Change}
use Rattle.st_marks.specs.declared.intents.Intent.{Intent}
use Rattle.st_marks.specs.Document.{Document, IsSoundInForm}
use Rattle.st_marks.specs.Run.{Run}
use Rattle.st_marks.proofs.OneVerdict.{one_run}
use Rattle.st_valid.specs.Author.{author_list}
use Rattle.st_valid.specs.Context.{AuthorsIntent}
use Rattle.st_valid.specs.declared.message.ReplayCause.{ReplayCause}
use Rattle.st_valid.specs.declared.message.ReplayCause.TheVariants as cause
use Rattle.st_valid_laws.proofs.OneMeaning.{keeps_as_one}
use Rattle.st_replay.specs.Meant.{IsMeant}
use Rattle.st_replay.specs.inside.Judging.{IsJudged, IsTurnedDown, Keeps}

module _ (O D : Document) (log : List Entry) (session reference : ℕ) (C : Change) (N : Intent) (ran : Run O (author_list log session reference) D) (meant : IsMeant O log session reference C N) where
  abbrev a : AuthorsIntent O log session reference C
  a = meant.context.meant

  same : D ≡ a.document
  same = one_run ran a.ran

  there : Keeps O D (commits_in log) N → Keeps O a.document (commits_in log) a.intent
  there h = subst (λ (E : Document). Keeps O E (commits_in log) a.intent) same (subst (Keeps O D (commits_in log)) meant.intent h)

  back : Keeps O a.document (commits_in log) a.intent → Keeps O D (commits_in log) N
  back h = subst (Keeps O D (commits_in log)) (sym meant.intent) (subst (λ (E : Document). Keeps O E (commits_in log) a.intent) (sym same) h)

  pub passes : IsSoundInForm D → (C.base ≡ true → Keeps O D (commits_in log) N) → IsJudged O log session reference C N
  passes sound keeps = record {
    context = meant.context;
    intent = meant.intent;
    keeps = λ base. let k = there (keeps base) in keeps_as_one O log session reference C a (subst IsSoundInForm same sound) k.0 k.1;
  }

  pub fails : (c : ReplayCause) → c ≡ cause.Schema → ((C.base ≡ true → Keeps O D (commits_in log) N) → ⊥) → IsTurnedDown O log session reference C c
  fails c is not = inr (is, meant.context, λ h. not (λ base. let k = h base in back (k.keeps a, k.room a)))

-- ## What is answered

module _ (D : Document) (log : List Entry) (session reference : ℕ) (C : Change) (makers : Makers) (N : Intent) where
  abbrev IsTold : Option Intent → Type 0
  IsTold o = IfSome o (λ M. (O : Document) → Run O (author_list log session reference) D → IsMeant O log session reference C M)

  pub judged : (result : Result Intent (Or ReplayCause)) (o : Option Intent) → o ≡ Some N → IsTold o → IsSoundInForm D
      → IfOk result (λ M. M ≡ N) → IfOk result (λ _. (O : Document) (Ns : List Intent) → KnowsMakers O Ns makers → C.base ≡ true → Keeps O D Ns N)
      → IfOk result (λ M. (O : Document) → Run O (author_list log session reference) D → KnowsMakers O (commits_in log) makers → IsJudged O log session reference C M)
  judged (Ok M) o is told sound alike kept = λ O ran knows.
      subst (IsJudged O log session reference C) (sym alike) (passes O D log session reference C N ran (subst IsTold is told O ran) sound (kept O (commits_in log) knows))
  judged (Err e) o is told sound alike kept = tt

  pub turned_down : (result : Result Intent (Or ReplayCause)) (o : Option Intent) → o ≡ Some N → IsTold o
      → IfRefused result (λ c. c ≡ cause.Schema) → IfRefused result (λ _. (O : Document) (Ns : List Intent) → KnowsMakers O Ns makers → (C.base ≡ true → Keeps O D Ns N) → ⊥)
      → IfRefused result (λ c. (O : Document) → Run O (author_list log session reference) D → KnowsMakers O (commits_in log) makers → IsTurnedDown O log session reference C c)
  turned_down (Ok M) o is told schema not = tt
  turned_down (Err (Fault c)) o is told schema not = λ O ran knows. fails O D log session reference C N ran (subst IsTold is told O ran) c schema (not O (commits_in log) knows)
  turned_down (Err NoMemory) o is told schema not = tt
