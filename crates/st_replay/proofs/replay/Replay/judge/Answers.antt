use Rattle.std.proofs.Common.{length, refl, sym, ap, subst, arith}
use Rattle.st_author_docs.specs.Authors.{LeadsTo}
use Rattle.st_valid.specs.Author.{author_list}
use Rattle.st_replay.specs.Stands.{AreAuthorsOf, StandsAt}
use Rattle.st_replay.specs.inside.Going.{CanGo}
use Rattle.st_replay.specs.inside.Taking.{opening_of}
use Rattle.st_replay.specs.declared.replay.Replay.{Replay}
use Rattle.st_replay.proofs.MessagesEntered.{can_go, judged_here, short, stays, turned_down_here}
use Rattle.st_replay.proofs.replay.Replay.judge.Goals as goal

pub go_to-requires-clause-few : goal.go_to-requires-clause-few
go_to-requires-clause-few c = omega (arith, ap length c.as_slice.ensures, short c.args.self.now c.requires.stands)

pub go_to-requires-clause-can : goal.go_to-requires-clause-can
go_to-requires-clause-can c =
    let r = c.args.self.now in
    subst (λ es. CanGo es c.args.session c.args.reference r.authors) (sym c.as_slice.ensures) (can_go r c.args.session c.args.reference c.requires.stands c.requires.known)

pub judge_change-requires : goal.judge_change-requires
judge_change-requires c =
    let r = c.args.self.now in
    let O = opening_of r in
    let es = c.as_slice.result.now in
    let are : AreAuthorsOf O es r.authors = subst (λ l. AreAuthorsOf O l r.authors) (sym c.as_slice.ensures) c.requires.stands.authors in
    record { sound = (c.in-Some.ensures.some O es c.args.reference (c.in_ok-go_to.ensures.are O are) c.in_ok-go_to.ensures.at).sound }

pub returns-clause-passed : goal.returns-clause-passed
returns-clause-passed c =
    let r = c.args.self.now in
    let O = opening_of r in
    let es = c.as_slice.result.now in
    let d = c.in-Some.doc.now in
    let are : AreAuthorsOf O es r.authors = subst (λ l. AreAuthorsOf O l r.authors) (sym c.as_slice.ensures) c.requires.stands.authors in
    let later = c.in_ok-go_to.ensures.are O are in
    let leads : LeadsTo O (author_list r.log c.args.session c.args.reference) d =
    subst (λ l. LeadsTo O (author_list l c.args.session c.args.reference) d) c.as_slice.ensures (c.in-Some.ensures.some O es c.args.reference later c.in_ok-go_to.ensures.at) in
    let t : Replay = record r { authors = c.go_to.new.self; schemas = c.judge_change.new.schemas } in
    let stands : StandsAt t O r.log = stays r t O r.log refl refl refl refl (subst (λ l. AreAuthorsOf O l c.go_to.new.self) c.as_slice.ensures later) c.requires.stands in
    judged_here r t c.as_slice-2.result.now d c.args.session c.args.reference c.args.change.now c.as_slice-2.ensures leads c.requires.stands stands c.judge_change.result c.judge_change.ensures.passed

pub returns-clause-refused : goal.returns-clause-refused
returns-clause-refused c =
    let r = c.args.self.now in
    let O = opening_of r in
    let es = c.as_slice.result.now in
    let d = c.in-Some.doc.now in
    let are : AreAuthorsOf O es r.authors = subst (λ l. AreAuthorsOf O l r.authors) (sym c.as_slice.ensures) c.requires.stands.authors in
    let later = c.in_ok-go_to.ensures.are O are in
    let leads : LeadsTo O (author_list r.log c.args.session c.args.reference) d =
    subst (λ l. LeadsTo O (author_list l c.args.session c.args.reference) d) c.as_slice.ensures (c.in-Some.ensures.some O es c.args.reference later c.in_ok-go_to.ensures.at) in
    let t : Replay = record r { authors = c.go_to.new.self; schemas = c.judge_change.new.schemas } in
    let stands : StandsAt t O r.log = stays r t O r.log refl refl refl refl (subst (λ l. AreAuthorsOf O l c.go_to.new.self) c.as_slice.ensures later) c.requires.stands in
    turned_down_here r t c.as_slice-2.result.now d c.args.session c.args.reference c.args.change.now c.as_slice-2.ensures leads c.requires.stands stands c.judge_change.result c.judge_change.ensures.refused
