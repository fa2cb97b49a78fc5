use Rattle.std.proofs.Common.{◌≡◌, ◌+◌, ◌∙◌, List, length, map, take, refl, sym, subst}
use Rattle.std.proofs.lemmas.List.{take_all}
use Rattle.std.proofs.lemmas.Option.{slice_get_read}
use Rattle.std.specs.List.{slice_get}
use Rattle.std.specs.Prelude.{Option, Some, IfSome}
use Rattle.st_edits.specs.Paths.{child}
use Rattle.st_forest.specs.Stands.{StandsFor}
use Rattle.st_marks.specs.Document.{Document}
use Rattle.st_cursor.specs.declared.hops.Hop.{Hop}
use Rattle.st_cursor.proofs.Ways.{OnTheWay, hopped, places_on}
use Rattle.st_cursor.proofs.walking.go_down.Goals as goal

pub loop-i-preserved : goal.loop-i-preserved
loop-i-preserved c =
    let ps = c.as_slice-place-items.result.now in
    let i = c.loop-i.i in
    let hs = c.loop-i.hops in
    let p = c.place-item.result in
    let h = c.in-Some.hop in
    let there : slice_get ps i ≡ Some p = slice_get_read ps (length ps) i p refl c.loop-i-test.true c.place-item.is in
    let is : h.place ≡ p = subst (λ (o : Option Hop). IfSome o (λ h. h.place ≡ p)) c.in-Some.is c.in_ok-hop_from.ensures.place in
    let more = c.in_ok-push-in-Some.ensures.ok in (
      subst (λ (l : List Hop). map (λ (h : Hop). h.place) l ≡ take (i + 1) ps) (sym more) (places_on ps i hs p h there is c.loop-i.invariant.0),
      λ D t.
          let leads : child D c.loop-i.node p ≡ Some h.node = subst (λ (o : Option Hop). IfSome o (λ h. (D : Document) → StandsFor c.args.forest.now D → child D c.loop-i.node p ≡ Some h.node)) c.in-Some.is c.in_ok-hop_from.ensures.some D t in
          subst (OnTheWay D ps (i + 1) h.node) (sym more) (hopped D ps i c.loop-i.node hs p h there is leads (c.loop-i.invariant.1 D t)),
    )

pub returns-clause-places : goal.returns-clause-places
returns-clause-places c = c.loop-i.invariant.0 ∙ take_all c.loop-i.i c.as_slice-place-items.result.now c.loop-i-test.false ∙ c.as_slice-place-items.ensures
