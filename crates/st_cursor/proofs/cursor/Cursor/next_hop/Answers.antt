use Rattle.std.proofs.Common.{◌≡◌, ◌∙◌, ◌-◌, List, ap, inr, subst, sym, length, take}
use Rattle.std.proofs.lemmas.Result.{IfOk-weaker}
use Rattle.std.specs.Prelude.{slice_get, Option, Some, None, IfSome}
use Rattle.st_edits.specs.Paths.{child}
use Rattle.st_forest.specs.Stands.{StandsFor}
use Rattle.st_ids.specs.Root.{root}
use Rattle.st_marks.specs.Document.{Document}
use Rattle.st_cursor.specs.At.{IsBehind, IsIn, behind, end_of}
use Rattle.st_cursor.specs.declared.hops.Hop.{Hop}
use Rattle.st_cursor.proofs.Ways.{both_ok, found_behind, last_split}
use Rattle.st_cursor.proofs.cursor.Cursor.next_hop.Goals as goal

pub returns-in-Some-clause-none : goal.returns-in-Some-clause-none
returns-in-Some-clause-none c =
    let hs = c.args.self.now.hops in
    let h = c.in-Some.last.now in
    let there : slice_get hs (length hs - 1) ≡ Some h = subst (λ (l : List Hop). slice_get l (length l - 1) ≡ Some h) c.as_slice.ensures (sym c.in-Some.ensures.value) in
    let over : c.above.result ≡ end_of root (take (length hs - 1) hs) = c.above.ensures ∙ ap (λ (l : List Hop). end_of root (take (length l - 1) l)) c.as_slice-in-Some.ensures in
    IfOk-weaker c.hop_behind.result _ _
    (λ o none e D i. inr (take (length hs - 1) hs, h, last_split hs h there, subst (λ n. child D n (behind h.place) ≡ None) over (none e D i.tables)))
    c.hop_behind.ensures.none

pub returns-in-Some-clause-some : goal.returns-in-Some-clause-some
returns-in-Some-clause-some c =
    let hs = c.args.self.now.hops in
    let h = c.in-Some.last.now in
    let there : slice_get hs (length hs - 1) ≡ Some h = subst (λ (l : List Hop). slice_get l (length l - 1) ≡ Some h) c.as_slice.ensures (sym c.in-Some.ensures.value) in
    let over : c.above.result ≡ end_of root (take (length hs - 1) hs) = c.above.ensures ∙ ap (λ (l : List Hop). end_of root (take (length l - 1) l)) c.as_slice-in-Some.ensures in
    both_ok c.hop_behind.result (λ o. IfSome o (λ n. n.place ≡ behind h.place)) (λ o. IfSome o (λ n. (D : Document) → StandsFor c.args.self.now.forest.now D → child D c.above.result n.place ≡ Some n.node))
    (λ o. IfSome o (λ n. (D : Document) → IsIn D c.args.self.now → IsBehind D hs n))
    (λ o place some. all o place some (λ D. found_behind D hs (take (length hs - 1) hs) h c.above.result (last_split hs h there) over))
    c.hop_behind.ensures.place c.hop_behind.ensures.some
  where
    all : (o : Option Hop) → IfSome o (λ n. n.place ≡ behind c.in-Some.last.now.place) → IfSome o (λ n. (D : Document) → StandsFor c.args.self.now.forest.now D → child D c.above.result n.place ≡ Some n.node)
        → ((D : Document) (o : Option Hop) → IfSome o (λ n. n.place ≡ behind c.in-Some.last.now.place) → IfSome o (λ n. child D c.above.result n.place ≡ Some n.node) → IfSome o (IsBehind D c.args.self.now.hops))
        → IfSome o (λ n. (D : Document) → IsIn D c.args.self.now → IsBehind D c.args.self.now.hops n)
    all None place some f = tt
    all (Some n) place some f = λ D i. f D (Some n) place (some D i.tables)
