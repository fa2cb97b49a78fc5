use Rattle.std.proofs.Common.{◌≡◌, map, sym, ap, ◌∙◌}
use Rattle.std.specs.BTreeSet.{contains}
use Rattle.st_ids.specs.Order.{node_cmp}
use Rattle.st_ids.specs.declared.names.NodeId.{NodeId}
use Rattle.st_marks.specs.declared.marks.RegStep.{RegStep}
use Rattle.st_marks.specs.Embedding.{is_among}
use Rattle.st_marks.specs.Listings.{nodes_new, placed_before}
use Rattle.st_puts.proofs.ThinMarks.{same_listed}
use Rattle.st_steps.proofs.NamesListed.{mentioned_stood}
use Rattle.st_steps.proofs.NodesFound.{all_listed, found_stands, made_new, new_apart}
use Rattle.st_steps.proofs.ShownInTurn.{same_placed}
use Rattle.st_steps.proofs.listing.tables_of.Goals as goal

pub returns : goal.returns
returns c = λ D E F x y p q.
    let S = p.0 in
    let T = q.0 in
    let s = p.1 in
    let t = q.1 in
    let stood : (n : NodeId) → contains node_cmp c.in_ok-stood.stood n ≡ is_among (placed_before S.rows (map (λ (r : RegStep). r.before) S.regs)) n
    = λ n. c.in_ok-stood.ensures n ∙ ap (λ l. is_among l n) (same_placed c.args.first.now S p.2) in
    let new : (n : NodeId) → contains node_cmp c.in_ok-new.new n ≡ is_among (nodes_new S.new) n
    = λ n. c.in_ok-new.ensures n ∙ ap (λ l. is_among (nodes_new l) n) c.as_slice.ensures ∙ (λ i. is_among (nodes_new (p.2 i).new) n) in
    record {
      stood_so = λ n e. found_stands D E S x s n (sym (stood n) ∙ e);
      all_stood = λ n m k. stood n ∙ mentioned_stood D E S x s n m k;
      new_so = λ n e. new_apart D E S x s n (sym (new n) ∙ e);
      all_new = λ n e k. new n ∙ made_new D E S x s n e k;
      then_so = c.in_ok-spots.ensures.right E F y q;
      all_then = λ n m z. c.in_ok-spots.ensures.listed E F y q n (ap (λ l. is_among l n) (same_listed c.args.second.now T q.2) ∙ all_listed E F T y t n m z);
    }
