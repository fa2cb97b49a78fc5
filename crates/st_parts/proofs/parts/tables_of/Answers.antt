use Rattle.std.proofs.Common.{ap, ◌∙◌}
use Rattle.std.specs.List.{flat_map}
use Rattle.st_ids.specs.Listing.{item_of}
use Rattle.st_ids.specs.Order.{field_cmp}
use Rattle.st_marks.specs.declared.marks.RegMark.{RegMark}
use Rattle.st_marks.specs.CarryOut.{full}
use Rattle.st_marks.specs.Embedding.{is_among}
use Rattle.st_marks.specs.Listings.{nodes_new, one_or_none}
use Rattle.st_parts.proofs.TablesTell.{tables_tell}
use Rattle.st_parts.proofs.parts.tables_of.Goals as goal

pub returns : goal.returns
returns c = λ D N M x p d e.
    tables_tell D N M d.0 e.0 x p d.1 e.1 (record { first = c.in_ok-firsts.firsts; second = c.in_ok-seconds.seconds; regs = c.in_ok-regs.regs; new = c.in_ok-new.new; held = c.in_ok-held.held })
    (c.in_ok-firsts.ensures D N x.before p.first_fits d) (c.in_ok-seconds.ensures (full D N) M x.after p.then_fits e)
    (λ f. c.in_ok-regs.ensures f ∙ ap (λ l. item_of field_cmp (λ (r : RegMark). r.field) l f) c.as_slice.ensures ∙ (λ i. item_of field_cmp (λ (r : RegMark). r.field) (e.2 i).regs f))
    (λ n. c.in_ok-new.ensures n ∙ ap (λ l. is_among (nodes_new l) n) c.as_slice-2.ensures ∙ (λ i. is_among (nodes_new (d.2 i).new) n))
    (λ n. c.in_ok-held.ensures n ∙ ap (λ l. is_among (flat_map (λ (r : RegMark). one_or_none r.held) l) n) c.as_slice-3.ensures ∙ (λ i. is_among (flat_map (λ (r : RegMark). one_or_none r.held) (d.2 i).regs) n))
