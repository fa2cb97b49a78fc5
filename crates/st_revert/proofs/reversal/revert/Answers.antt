use Rattle.std.proofs.Common.{◌≡◌, ◌↔◌, Bool, not, ap, sym, ◌∙◌, subst, IsTrue}
use Rattle.std.specs.BTreeSet.{contains}
use Rattle.st_ids.specs.Order.{node_cmp}
use Rattle.st_ids.specs.declared.names.NodeId.{NodeId}
use Rattle.st_lemmas.proofs.Options.{IfOk-along}
use Rattle.st_marks.specs.declared.changes.Change.{Change}
use Rattle.st_marks.specs.declared.steps.Step.{Step}
use Rattle.st_marks.specs.Embedding.{IsEmbedding, is_among}
use Rattle.st_marks.specs.Listings.{nodes_new}
use Rattle.st_marks.specs.Verdict.{IsBaseInEffect}
use Rattle.st_mention_laws.specs.Shown.{Shows, thin}
use Rattle.st_steps.proofs.NodesFound.{new_exactly}
use Rattle.st_revert.specs.Reversal.{takes_out}
use Rattle.st_revert.specs.inside.ReadBack.{read_back}
use Rattle.st_revert.proofs.Bases.{base_is}
use Rattle.st_revert.proofs.Reversals.{reverts}
use Rattle.st_revert.proofs.reversal.revert.Goals as goal

pub returns-clause-reverted : goal.returns-clause-reverted
returns-clause-reverted c = λ D E B x s b has.
    let S = c.args.step.now in
    let back = c.in_ok-back.back in
    let new = contains node_cmp c.in_ok-new.new in
    let names : (n : NodeId) → new n ≡ is_among (nodes_new S.new) n = λ n. c.in_ok-new.ensures n ∙ ap (λ l. is_among (nodes_new l) n) c.as_slice.ensures in
    let holds : IsTrue (not c.takes_out.result) ↔ IsBaseInEffect E B = subst (λ z. IsTrue (not z) ↔ IsBaseInEffect E B) (sym c.takes_out.ensures)
    (base_is D E B S.schema c.args.under x.before.in_effect s.schema b.nothing_new.3 b.rev_and_under.1 has) in
    IfOk-along c.change_of.result (λ (k : Change). k ≡ read_back new back c.args.rev c.args.under (not c.takes_out.result)) (IsEmbedding E B)
    (λ k e. subst (IsEmbedding E B) (sym e) (reverts D E x c.args.rev c.args.under B b back (c.in_ok-back.ensures.exact D E x s) new (λ n. names n ∙ new_exactly D E S x s n) (not c.takes_out.result) holds)) c.change_of.ensures

pub returns-clause-under_any : goal.returns-clause-under_any
returns-clause-under_any c = λ D E B x s b.
    let S = c.args.step.now in
    let back = c.in_ok-back.back in
    let new = contains node_cmp c.in_ok-new.new in
    let names : (n : NodeId) → new n ≡ is_among (nodes_new S.new) n = λ n. c.in_ok-new.ensures n ∙ ap (λ l. is_among (nodes_new l) n) c.as_slice.ensures in
    IfOk-along c.change_of.result (λ (k : Change). k ≡ read_back new back c.args.rev c.args.under (not c.takes_out.result)) (λ (k : Change). (z : Bool) → IsTrue z ↔ IsBaseInEffect E B → IsEmbedding E B (record k { base = z }))
    (λ k e z holds. subst (λ (q : Change). IsEmbedding E B (record q { base = z })) (sym e)
    (reverts D E x c.args.rev c.args.under B b back (c.in_ok-back.ensures.exact D E x s) new (λ n. names n ∙ new_exactly D E S x s n) z holds)) c.change_of.ensures

pub returns-clause-base : goal.returns-clause-base
returns-clause-base c =
    let back = c.in_ok-back.back in
    let new = contains node_cmp c.in_ok-new.new in
    IfOk-along c.change_of.result (λ (k : Change). k ≡ read_back new back c.args.rev c.args.under (not c.takes_out.result)) (λ (k : Change). k.base ≡ not (takes_out c.args.step.now.schema c.args.under))
    (λ k e. ap (λ (q : Change). q.base) e ∙ ap not c.takes_out.ensures) c.change_of.ensures

pub returns-clause-shown : goal.returns-clause-shown
returns-clause-shown c = λ D E B x s b has.
    let back = c.in_ok-back.back in
    let new = contains node_cmp c.in_ok-new.new in
    let base = not c.takes_out.result in
    let t = c.in_ok-back.ensures.shown D E x s in
    let names : (n : NodeId) → new n ≡ is_among (nodes_new s.0.new) n = λ n.
    c.in_ok-new.ensures n ∙ ap (λ l. is_among (nodes_new l) n) c.as_slice.ensures ∙ ap (λ (q : Step). is_among (nodes_new q.new) n) s.2 in
    let taken : c.takes_out.result ≡ takes_out s.0.schema c.args.under = c.takes_out.ensures ∙ ap (λ (q : Step). takes_out q.schema c.args.under) s.2 in
    let holds : IsTrue base ↔ IsBaseInEffect E B = subst (λ z. IsTrue (not z) ↔ IsBaseInEffect E B) (sym taken)
    (base_is D E B s.0.schema c.args.under x.before.in_effect s.1.schema b.nothing_new.3 b.rev_and_under.1 has) in
    IfOk-along c.change_of.result (λ (k : Change). k ≡ read_back new back c.args.rev c.args.under base) (Shows E B)
    (λ k e. (
      read_back new t.0 c.args.rev c.args.under base,
      reverts D E x c.args.rev c.args.under B b t.0 t.1 new (λ n. names n ∙ new_exactly D E s.0 x s.1 n) base holds,
      ap thin e ∙ ap (λ (q : Step). read_back new q c.args.rev c.args.under base) t.2,
    )) c.change_of.ensures
