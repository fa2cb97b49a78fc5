use Rattle.std.proofs.Common.{◌≡◌, ◌<◌, ℕ, List, length, Option, Some, inl, inr, arith, rules, subst}
use Rattle.std.proofs.lemmas.Result.{IfOk-weaker}
use Rattle.st_entry_texts.specs.declared.entry.Authors.{Authors}
use Rattle.st_answers.specs.Trace.{IsNoEntry}
use Rattle.st_lists.specs.declared.lists.Entry.{Entry}
use Rattle.st_lists.specs.declared.lists.WorldState.{WorldState}
use Rattle.st_script.specs.Header.{HeaderView}
use Rattle.st_run.specs.inside.Standing.{IsUnderWay}
use Rattle.st_run.proofs.EntriesTold.{kept_on, on_ok}
use Rattle.st_run.proofs.text.tell_entry.Goals as goal
use Rattle.st_run.proofs.text.tell_entry.Goals.{then-n-eq0-via-then-n-eq0, then-n-eq0-via-else-n-eq0+then-n-log}

pub message_line-requires-clause-under_way : goal.message_line-requires-clause-under_way
message_line-requires-clause-under_way c =
    let t = c.requires.under_way in
    let is : c.keep_authors.new.authors ≡ Some c.in-Some.authors = search rules in
    (t.0, t.1, t.2, subst (λ (o : Option Authors). IsUnderWay t.0 c.args.world.now o t.1 t.2) is (c.in_ok-keep_authors.ensures.under_way t.0 t.1 t.2 t.3), t.4)

pub returns-clause-told : goal.returns-clause-told
returns-clause-told c =
    let is : c.keep_authors.new.authors ≡ Some c.in-Some.authors = search rules in
    IfOk-weaker c.message_line.result _ _
    (λ t told k h w u. inr (told k h w (subst (λ (o : Option Authors). IsUnderWay k c.args.world.now o h w) is (c.in_ok-keep_authors.ensures.under_way k h w u)))) c.message_line.ensures.told

pub returns-clause-under_way : goal.returns-clause-under_way
returns-clause-under_way c =
    let is : c.keep_authors.new.authors ≡ Some c.in-Some.authors = search rules in
    on_ok c.message_line.result
    (λ kept k h w u.
    let v = subst (λ (o : Option Authors). IsUnderWay k c.args.world.now o h w) is (c.in_ok-keep_authors.ensures.under_way k h w u) in
    kept_on k c.args.world.now c.in-Some.authors c.message_line.new.authors h w v (kept k h w v)) c.message_line.ensures.kept

pub returns-then-n-eq0-clause-told : goal.returns-then-n-eq0-clause-told
returns-then-n-eq0-clause-told c = IfOk-weaker c.no_entry.result _ _ (λ t is k h w u. inl (none k h w u, is)) c.no_entry.ensures
  where
    none : (k : ℕ) (h : HeaderView) (w : WorldState) → IsUnderWay k c.args.world.now c.args.authors.now h w → IsNoEntry w.log c.args.n
    none k h w u = elim c.then-n-eq0.branch [
      | then-n-eq0-via-then-n-eq0 x ↦ inl x.if-n-eq0.true
      | then-n-eq0-via-else-n-eq0+then-n-log x ↦ inr (subst (λ (l : List Entry). length l < c.args.n) (x.log.ensures k h w u.stands) x.if-n-log.true)
    ]
