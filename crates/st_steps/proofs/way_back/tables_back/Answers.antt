use Rattle.std.proofs.Common.{◌≡◌, map, sym, ap, ◌∙◌}
use Rattle.std.specs.BTreeMap.{get}
use Rattle.std.specs.BTreeSet.{contains}
use Rattle.st_ids.specs.Order.{node_cmp}
use Rattle.st_ids.specs.declared.names.NodeId.{NodeId}
use Rattle.st_marks.specs.declared.marks.RegStep.{RegStep}
use Rattle.st_marks.specs.Embedding.{is_among}
use Rattle.st_marks.specs.Listings.{nodes_new, placed_before}
use Rattle.st_puts.proofs.ThinMarks.{same_listed}
use Rattle.st_steps.specs.inside.Back.{lists_node}
use Rattle.st_steps.proofs.NamesListed.{mentioned_stood}
use Rattle.st_steps.proofs.NodesFound.{found_stands, new_exactly, told_back-so, told_back-all}
use Rattle.st_steps.proofs.ShownInTurn.{same_placed}
use Rattle.st_steps.proofs.way_back.tables_back.Goals as goal

pub returns : goal.returns
returns c = λ D E x p listed lists.
    let S = p.0 in
    let s = p.1 in
    let stood : (n : NodeId) → contains node_cmp c.in_ok-stood.stood n ≡ is_among (placed_before S.rows (map (λ (r : RegStep). r.before) S.regs)) n
    = λ n. c.in_ok-stood.ensures n ∙ ap (λ l. is_among l n) (same_placed c.args.step.now S p.2) in
    let new : (n : NodeId) → contains node_cmp c.in_ok-new.new n ≡ is_among (nodes_new S.new) n
    = λ n. c.in_ok-new.ensures n ∙ ap (λ l. is_among (nodes_new l) n) c.as_slice.ensures ∙ (λ i. is_among (nodes_new (p.2 i).new) n) in
    let same : (n : NodeId) → lists_node c.args.step.now n ≡ lists_node S n = λ n. ap (λ l. is_among l n) (same_listed c.args.step.now S p.2) in
    let spots = get node_cmp c.in_ok-spots.spots in
    record {
      new_so = λ n. new n ∙ new_exactly D E S x s n;
      stood_so = λ n e. found_stands D E S x s n (sym (stood n) ∙ e);
      all_stood = λ n m k. stood n ∙ mentioned_stood D E S x s n m k;
      spots_so = λ n. told_back-so D E S x s listed spots (λ k. lists k ∙ same k) n (c.in_ok-spots.ensures.right D E x p n);
      all_spots = λ n m z. told_back-all D E S x s listed spots (λ k. lists k ∙ same k) n (λ q. c.in_ok-spots.ensures.listed D E x p n (same n ∙ q)) m z;
    }
