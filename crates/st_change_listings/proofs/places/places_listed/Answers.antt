use Rattle.std.proofs.Common.{None, ap, ◌∙◌}
use Rattle.std.specs.BTreeMap.{get, is_at}
use Rattle.std.specs.List.{flat_map}
use Rattle.std.specs.Map.{lookup}
use Rattle.std.specs.Option.{option_or}
use Rattle.st_ids.specs.Order.{node_cmp}
use Rattle.st_puts.specs.inside.First.{first_at}
use Rattle.st_puts.proofs.Firsts.{kept_then}
use Rattle.st_change_listings.specs.Places.{stood_in_register, stood_in_row}
use Rattle.st_change_listings.proofs.places.places_listed.Goals as goal

pub returns : goal.returns
returns c = λ n.
    kept_then None (get node_cmp c.keep_rows.new.spots n) (get node_cmp c.keep_registers.new.spots n) (flat_map stood_in_row c.args.listing.now.rows) (flat_map stood_in_register c.args.listing.now.regs) n
    (c.in_ok-keep_rows.ensures n ∙ ap (λ l. option_or (get node_cmp c.new-spots.result n) (first_at (flat_map stood_in_row l) n)) c.as_slice.ensures
    ∙ ap (λ o. option_or o (first_at (flat_map stood_in_row c.args.listing.now.rows) n)) (ap (lookup (is_at (node_cmp n))) c.new-spots.ensures.empty))
    (c.in_ok-keep_registers.ensures n ∙ ap (λ l. option_or (get node_cmp c.keep_rows.new.spots n) (first_at (flat_map stood_in_register l) n)) c.as_slice-2.ensures)
