use Rattle.std.proofs.Common.{◌≡◌, List, true, false, ◌∙◌}
use Rattle.std.specs.BTreeSet.{contains}
use Rattle.std.specs.List.{filter_map}
use Rattle.st_ids.specs.Order.{node_cmp}
use Rattle.st_lemmas.proofs.Options.{IfOk-along}
use Rattle.st_marks.specs.declared.marks.Loose.{Loose}
use Rattle.st_marks.specs.Embedding.{is_among}
use Rattle.st_cross_laws.specs.Crossed.{loose_across}
use Rattle.st_carry.specs.inside.Listed.{loose_by}
use Rattle.st_carry.specs.inside.Standing.{placed_at}
use Rattle.st_carry.proofs.Listings.{loose_told}
use Rattle.st_carry.proofs.listing.loose_in.Goals as goal

pub returns-clause-loose : goal.returns-clause-loose
returns-clause-loose c =
    let stood = contains node_cmp c.in_ok-stood.stood in
    let stands = contains node_cmp c.in_ok-stands.stands in
    let names = c.args.names.now.keys in
    let rows = c.args.rows.now in
    let regs = c.args.regs.now in
    IfOk-along c.loose_nodes.result (λ (l : List Loose). l ≡ filter_map (loose_across stood stands) names) (λ (l : List Loose). l ≡ loose_by rows regs names)
    (λ l e. loose_told rows regs stood stands names l
    (λ n. c.in_ok-stood.ensures n ∙ (λ i. is_among (placed_at false (c.as_slice.ensures i) (c.as_slice-2.ensures i)) n))
    (λ n. c.in_ok-stands.ensures n ∙ (λ i. is_among (placed_at true (c.as_slice-3.ensures i) (c.as_slice-4.ensures i)) n)) e) c.loose_nodes.ensures.loose
