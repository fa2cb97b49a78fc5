-- Changes in normal form leave no node in two others.
use Rattle.std.proofs.Common.{◌≡◌, ◌↔◌, ◌+◌, ◌≤◌, ℕ, Bool, true, false, not, ◌&&◌, List, [], ◌++◌, Option, Some, None, refl, sym, ap, subst, arith, inl, inr, ◌⊎◌, if◌then◌else◌}
use Rattle.std.specs.Option.{option_or}
use Rattle.std.specs.Prelude.{MatchOption}
use Rattle.st_ids.specs.Listing.{AreDistinct, Has, IsRising}
use Rattle.st_ids.specs.Order.{field_cmp, node_cmp}
use Rattle.st_ids.specs.declared.names.FieldId.{FieldId}
use Rattle.st_ids.specs.declared.names.NodeId.{NodeId}
use Rattle.st_marks.specs.declared.changes.Change.{Change}
use Rattle.st_marks.specs.declared.changes.NewNode.{NewNode}
use Rattle.st_marks.specs.declared.marks.How.{How}
use Rattle.st_marks.specs.declared.marks.How.TheVariants.{Stay, Here, Leave}
use Rattle.st_marks.specs.declared.marks.Loose.{Loose}
use Rattle.st_marks.specs.declared.marks.RegMark.{RegMark}
use Rattle.st_marks.specs.declared.marks.RowMarks.{RowMarks}
use Rattle.st_marks.specs.declared.places.Spot.{Spot}
use Rattle.st_marks.specs.Agree.{MadeAt}
use Rattle.st_marks.specs.Document.{node_of}
use Rattle.st_marks.specs.How.{is_here, is_leave}
use Rattle.st_marks.specs.Listings.{Places, cells_after, held_after, listing_after_change, one_or_none}
use Rattle.st_marks.proofs.Members.{distinct-has}
use Rattle.st_normal.specs.declared.entries.Link.{Link}
use Rattle.st_normal.specs.inside.Links.{link, links_at, links_in, stands_after}
use Rattle.st_normal.specs.Rules.{NewNodesAreNotFound, NodesAreFoundOnce, NodesArePutOnce, ObeysChangeRules, ObeysDataRules, ObeysSchemaRules, PutNodesLeave, entries_by, found_at, found_held, put_at}
use Rattle.st_normal.proofs.Counts.{times}
use Rattle.st_normal.proofs.Linked.{link_node, says_linked}
use Rattle.st_normal.proofs.OnePlace.{lasting, once_after}
use Rattle.st_normal.proofs.ShownPlaces.{after_shows}
use Rattle.st_part_rings.specs.Under.{IsUnderOne}

-- a register is left with its occupant or with the one that comes in
mark-times : (n : NodeId) (fill held : Option NodeId) (h : How) (clear : Bool)
    → times n (one_or_none (option_or fill (if is_leave h then None else if clear && not (is_here h) then None else held))) ≤ times n (lasting (found_held held h)) + times n (one_or_none fill)
mark-times n (Some m) held h clear = omega arith
mark-times n None None Stay true = omega arith
mark-times n None None Stay false = omega arith
mark-times n None None Here true = omega arith
mark-times n None None Here false = omega arith
mark-times n None None Leave clear = omega arith
mark-times n None (Some m) Stay true = omega arith
mark-times n None (Some m) Stay false = omega arith
mark-times n None (Some m) Here true = omega arith
mark-times n None (Some m) Here false = omega arith
mark-times n None (Some m) Leave clear = omega arith

-- what a change lists, by the rules that say who is left where
record IsTidy (new : List NewNode) (rows : List RowMarks) (regs : List RegMark) (loose : List Loose) : Type 0 where
  pub found_once : NodesAreFoundOnce (entries_by found_at put_at (λ (r : RegMark). r.field) new rows regs loose)
  pub put_once : NodesArePutOnce (entries_by found_at put_at (λ (r : RegMark). r.field) new rows regs loose)
  pub put_leave : PutNodesLeave (entries_by found_at put_at (λ (r : RegMark). r.field) new rows regs loose)
  pub new_not_found : NewNodesAreNotFound (entries_by found_at put_at (λ (r : RegMark). r.field) new rows regs loose)
  pub rows_rise : IsRising node_cmp (λ (r : RowMarks). r.node) rows
  pub regs_rise : IsRising field_cmp (λ (r : RegMark). r.field) regs

nothing-tidy : IsTidy [] [] [] []
nothing-tidy = record { found_once = tt; put_once = tt; put_leave = tt; new_not_found = tt; rows_rise = refl; regs_rise = refl }

rules-tidy : (C : Change) → ObeysChangeRules C → IsTidy C.new C.rows C.regs C.loose
rules-tidy C w = go C.schema w
  where
    go : (o : Option (List ℕ)) → MatchOption o (ObeysDataRules C) (λ _. ObeysSchemaRules C) → IsTidy C.new C.rows C.regs C.loose
    go None d = record { found_once = d.common.found_once; put_once = d.common.put_once; put_leave = d.common.put_leave; new_not_found = d.common.new_not_found; rows_rise = d.rising.rows; regs_rise = d.rising.regs }
    go (Some t) d =
        subst (λ new. IsTidy new C.rows C.regs C.loose) (sym d.alone.1)
        (subst (λ rows. IsTidy [] rows C.regs C.loose) (sym d.alone.2)
        (subst (λ regs. IsTidy [] [] regs C.loose) (sym d.alone.3)
        (subst (λ loose. IsTidy [] [] [] loose) (sym d.alone.4) nothing-tidy)))

pub left_under_one : (C : Change) → ObeysChangeRules C → IsUnderOne (Places (listing_after_change C))
left_under_one C w n p q s t a b e f =
    ap (λ (l : Link). l.up) (distinct-has link_node links (link p n) (link q n) once ((shown n p).1 (s, a, e)) ((shown n q).1 (t, b, f)) refl)
  where
    d : IsTidy C.new C.rows C.regs C.loose
    d = rules-tidy C w

    field : RegMark → FieldId
    field r = r.field

    links : List Link
    links = links_in stands_after C.rows ++ links_at field held_after C.regs

    once : AreDistinct link_node links
    once = once_after found_at put_at field held_after (λ r n. mark-times n r.fill r.held r.how r.clear) C.new C.rows C.regs C.loose d.found_once d.put_once d.put_leave d.new_not_found

    shown : (n m : NodeId) → Has links (link m n) ↔ ((s : Spot) × Places (listing_after_change C) n s × (node_of s ≡ Some m))
    shown = says_linked (listing_after_change C) C.rows C.regs field held_after stands_after cells_after (after_shows (listing_after_change C) C.rows C.regs field held_after d.rows_rise d.regs_rise C.new (λ n. refl) (λ f. refl))

pub made_under_one : (C K : Change) → ObeysChangeRules C → ObeysChangeRules K → IsUnderOne (MadeAt C K)
made_under_one C K one other n p q s t a b e f = go a.2 b.2
  where
    go : (Places (listing_after_change K) n s ⊎ (((t : Spot) → Places (listing_after_change K) n t → ⊥) × Places (listing_after_change C) n s))
        → (Places (listing_after_change K) n t ⊎ (((t : Spot) → Places (listing_after_change K) n t → ⊥) × Places (listing_after_change C) n t)) → p ≡ q
    go (inl x) (inl y) = left_under_one K other n p q s t x y e f
    go (inl x) (inr y) = absurd (y.0 s x)
    go (inr x) (inl y) = absurd (x.0 t y)
    go (inr x) (inr y) = left_under_one C one n p q s t x.1 y.1 e f
