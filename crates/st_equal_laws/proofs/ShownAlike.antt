-- Two clients that received the same entries, with nothing pending and no transaction open, show one tree.
use Rattle.std.proofs.Common.{◌≡◌, ℕ, List, [], ◌++◌, append-nil, Option, None, option_and_then, take, sym, ap, ◌∙◌, subst}
use Rattle.st_marks.specs.declared.intents.Intent.{Intent}
use Rattle.st_marks.specs.Document.{Document}
use Rattle.st_marks.specs.LiveTree.{IsTreeText}
use Rattle.st_marks.specs.Run.{Run}
use Rattle.st_marks.proofs.OneTree.{one_text}
use Rattle.st_marks.proofs.OneVerdict.{one_run}
use Rattle.st_edits.specs.ArrayTypes.{is_array_type}
use Rattle.st_edits.specs.InEffect.{schema_in_effect}
use Rattle.st_lists.specs.Lines.{main_line}
use Rattle.st_lists.specs.Log.{commits_in}
use Rattle.st_lists.specs.Open.{with_open}
use Rattle.st_lists.specs.declared.lists.Client.{Client}
use Rattle.st_lists.specs.declared.lists.Entry.{Entry}
use Rattle.st_lists.specs.declared.lists.Transaction.{Transaction}
use Rattle.st_lists.specs.declared.lists.WorldState.{WorldState}
use Rattle.st_script.specs.Header.{HeaderView}
use Rattle.st_script.specs.declared.answer.Answer.{Answer}
use Rattle.st_script.specs.declared.answer.Answer.TheVariants as answer
use Rattle.st_world.specs.World.{IsShown, opening_document}

-- the tree of the document to which so many entries lead is shown
record ShowsLog (O : Document) (entries : List Entry) (a : Answer) : Type 0 where
  document : Document
  text : List ℕ
  run : Run O (commits_in entries) document
  tree : IsTreeText (is_array_type (schema_in_effect document)) document text
  told : a ≡ answer.Show text

shows_log : (h : HeaderView) (w : WorldState) (c : Client) (a : Answer) → c.pending ≡ [] → c.transaction ≡ None → IsShown h w (main_line c) a
    → ShowsLog (opening_document h) (take c.received w.log) a
shows_log h w c a none closed (E, text, (D, head, is), tree, told) =
    let O = opening_document h in
    let whole : Run O (commits_in (take c.received w.log) ++ []) D = subst (λ (Ns : List Intent). Run O (commits_in (take c.received w.log) ++ Ns) D) none head in
    let run : Run O (commits_in (take c.received w.log)) D = subst (λ (Ns : List Intent). Run O Ns D) (append-nil (commits_in (take c.received w.log))) whole in
    let same : E ≡ D = is ∙ ap (λ (t : Option Transaction). with_open D (option_and_then (λ (x : Transaction). x.joined) t)) closed in
    record {
      document = D;
      text = text;
      run = run;
      tree = subst (λ (F : Document). IsTreeText (is_array_type (schema_in_effect F)) F text) same tree;
      told = told;
    }

one_shown : (O : Document) (entries : List Entry) (a b : Answer) → ShowsLog O entries a → ShowsLog O entries b → a ≡ b
one_shown O entries a b x y =
    let same : x.document ≡ y.document = one_run x.run y.run in
    let tree = subst (λ (F : Document). IsTreeText (is_array_type (schema_in_effect F)) F x.text) same x.tree in
    let text : x.text ≡ y.text = one_text (is_array_type (schema_in_effect y.document)) y.document x.text y.text tree y.tree in
    x.told ∙ ap (λ (t : List ℕ). answer.Show t) text ∙ sym y.told

pub show_alike : (h : HeaderView) (w : WorldState) (c d : Client) (a b : Answer) → c.received ≡ d.received → c.pending ≡ [] → d.pending ≡ [] → c.transaction ≡ None → d.transaction ≡ None
    → IsShown h w (main_line c) a → IsShown h w (main_line d) b → a ≡ b
show_alike h w c d a b many none nothing closed shut is was =
    let x = shows_log h w c a none closed is in
    one_shown (opening_document h) (take d.received w.log) a b (subst (λ (n : ℕ). ShowsLog (opening_document h) (take n w.log) a) many x) (shows_log h w d b nothing shut was)
