use Rattle.std.proofs.Common.{◌∙◌, ◌≢◌, [], sym, ap, subst}
use Rattle.std.specs.List.{AllByRecursion, filter_map}
use Rattle.st_ids.specs.Listing.{IsRising}
use Rattle.st_marks.specs.declared.intents.Group.{Group}
use Rattle.st_meaning.specs.InOrder.{place_cmp, place_of}
use Rattle.st_meaning.specs.inside.Made.{made_at}
use Rattle.st_meaning.proofs.Entries.{listed_all, listed_left}
use Rattle.st_meaning.proofs.Listed.{group_entry, groups_found, groups_rise, groups_some}
use Rattle.st_meaning.proofs.groups.listed.Goals as goal

pub loop-place-preserved : goal.loop-place-preserved
loop-place-preserved c = listed_left group_entry c.loop-place.groups c.push_group.new.groups (filter_map group_entry c.args.map.now.entries) c.loop-place.place-iterator c.next.new.self (c.in-Some.place.now, c.in-Some.made.now) c.in-Some.ensures.steps c.in_ok-push_group.ensures c.loop-place.invariant

pub returns-clause-found : goal.returns-clause-found
returns-clause-found c = λ n a.
    ap (λ gs. made_at gs n a) (listed_all group_entry c.loop-place.groups (filter_map group_entry c.args.map.now.entries) c.loop-place.place-iterator c.in-None.ensures.steps.0 c.loop-place.invariant)
    ∙ groups_found c.args.map.now.entries n a c.iter-place-items.ensures.ordered

pub returns-clause-rising : goal.returns-clause-rising
returns-clause-rising c =
    subst (IsRising place_cmp place_of) (sym (listed_all group_entry c.loop-place.groups (filter_map group_entry c.args.map.now.entries) c.loop-place.place-iterator c.in-None.ensures.steps.0 c.loop-place.invariant))
    (groups_rise c.args.map.now.entries c.iter-place-items.ensures.ordered)

pub returns-clause-some : goal.returns-clause-some
returns-clause-some c =
    subst (AllByRecursion (λ (g : Group). g.cells ≢ [])) (sym (listed_all group_entry c.loop-place.groups (filter_map group_entry c.args.map.now.entries) c.loop-place.place-iterator c.in-None.ensures.steps.0 c.loop-place.invariant))
    (groups_some c.args.map.now.entries)
