-- Two worlds that are alike to a third are alike.
use Rattle.std.proofs.Common.{◌≡◌, ℕ, List, [], ◌∷◌, Option, Some, None, inl, inr, refl, sym, ◌∙◌, subst}
use Rattle.st_marks.specs.declared.intents.Intent.{Intent}
use Rattle.st_lists.specs.declared.lists.Entry.{Entry}
use Rattle.st_lists.specs.declared.lists.WorldState.{WorldState}
use Rattle.st_lists.specs.Log.{commit_in}
use Rattle.st_one_laws.specs.AlikeWorlds.{AlikeEntry, AreAlike, InBoth, IsAlike, OneByOne}
use Rattle.st_same_laws.specs.Same.{SaysTheSame}

says_across : (N M U : Intent) → SaysTheSame N U → SaysTheSame M U → SaysTheSame N M
says_across N M U a b = record {
  rev = a.rev ∙ sym b.rev;
  under = a.under ∙ sym b.under;
  schema = a.schema ∙ sym b.schema;
  new = λ n. a.new n ∙ sym (b.new n);
  groups = λ n c. a.groups n c ∙ sym (b.groups n c);
  rows = λ c. a.rows c ∙ sym (b.rows c);
  puts = λ n. a.puts n ∙ sym (b.puts n);
  fills = λ f. a.fills f ∙ sym (b.fills f);
  clear = λ f. a.clear f ∙ sym (b.clear f);
  needs = λ n. (λ h. (b.needs n).1 ((a.needs n).0 h), λ h. (a.needs n).1 ((b.needs n).0 h));
}

says_itself : (N : Intent) → SaysTheSame N N
says_itself N = record { rev = refl; under = refl; schema = refl; new = λ n. refl; groups = λ n c. refl; rows = λ c. refl; puts = λ n. refl; fills = λ f. refl; clear = λ f. refl; needs = λ n. (λ h. h, λ h. h) }

alike_across : (N M U : Intent) → IsAlike N U → IsAlike M U → IsAlike N M
alike_across N M U (inl e) (inl f) = inl (e ∙ sym f)
alike_across N M U (inl e) (inr (m, u, s)) = subst (λ X. IsAlike X M) (sym e) (inr (u, m, says_across U M U (says_itself U) s))
alike_across N M U (inr (n, u, s)) (inl f) = subst (λ X. IsAlike N X) (sym f) (inr (n, u, s))
alike_across N M U (inr (n, u, s)) (inr (m, v, r)) = inr (n, m, says_across N M U s r)

both_across : (o p q : Option Intent) → InBoth IsAlike o q → InBoth IsAlike p q → InBoth IsAlike o p
both_across None None q a b = tt
both_across None (Some y) None a b = absurd b
both_across None (Some y) (Some z) a b = absurd a
both_across (Some x) None None a b = absurd a
both_across (Some x) None (Some z) a b = absurd b
both_across (Some x) (Some y) None a b = absurd a
both_across (Some x) (Some y) (Some z) a b = alike_across x y z a b

entry_across : (e f u : Entry) → AlikeEntry e u → AlikeEntry f u → AlikeEntry e f
entry_across e f u a b = record {
  n = a.n ∙ sym b.n;
  session = a.session ∙ sym b.session;
  body = (a.body.0 ∙ sym b.body.0, both_across (commit_in e.body) (commit_in f.body) (commit_in u.body) a.body.1 b.body.1);
}

across : (es fs us : List Entry) → OneByOne AlikeEntry es us → OneByOne AlikeEntry fs us → OneByOne AlikeEntry es fs
across [] [] us a b = tt
across [] (f ∷ fs) [] a b = absurd b
across [] (f ∷ fs) (u ∷ us) a b = absurd a
across (e ∷ es) [] [] a b = absurd a
across (e ∷ es) [] (u ∷ us) a b = absurd b
across (e ∷ es) (f ∷ fs) [] a b = absurd a
across (e ∷ es) (f ∷ fs) (u ∷ us) a b = (entry_across e f u a.0 b.0, across es fs us a.1 b.1)

pub logs_alike : (w x u : WorldState) → AreAlike w u → AreAlike x u → OneByOne AlikeEntry w.log x.log
logs_alike w x u a b = across w.log x.log u.log a.log b.log
