-- A load has one line.
use Rattle.std.proofs.Common.{◌≡◌, ℕ, ◌+◌, List, [], ◌∷◌, length, map, None, Ok, codes, sym, ap, ◌∙◌, subst}
use Rattle.std.specs.List.{AllByRecursion}
use Rattle.st_lists.specs.Clients.{empty_state}
use Rattle.st_lists.specs.Log.{commit_of, commits_in}
use Rattle.st_lists.specs.declared.lists.WorldState.{WorldState}
use Rattle.st_script.specs.Header.{HeaderView, header_line}
use Rattle.st_script.specs.Steps.{ActView, StepView}
use Rattle.st_script.specs.Steps as step
use Rattle.st_script.specs.declared.answer.Answer.{Answer}
use Rattle.st_script.specs.declared.answer.Answer.TheVariants as answer
use Rattle.st_script.specs.declared.refusal.Refusal.{Refusal}
use Rattle.st_script.specs.declared.refusal.Refusal.TheVariants as no
use Rattle.st_script.proofs.OfForm.{header_line_kept}
use Rattle.st_world.specs.World.{IsNext, opening_document}
use Rattle.st_world_laws.specs.Worlds.{IsWorld, KeepsRules}
use Rattle.st_world_laws.proofs.Going.{begun_sound}
use Rattle.st_world_laws.proofs.GoingOn.{goes_on}
use Rattle.st_one_laws.specs.AlikeWorlds.{AlikeEntry, AreAlike, IsAlike}
use Rattle.st_one_laws.proofs.AlikeToItself.{worlds_itself}
use Rattle.st_one_laws.proofs.OneByOne.{as_long, filter_mapped}
use Rattle.st_one_laws.proofs.OneMeaning.{lists_mean_one}
use Rattle.st_one_laws.proofs.StepsOfWorlds.{next_alike}
use Rattle.st_one_laws.proofs.VoidCommits.{void_alike}
use Rattle.st_load_laws.specs.Load.{AreMade, EachUntil, IsMadeUntil, ends, goes, load_clients, refusals, step_by}
use Rattle.st_answers.proofs.LoadRules.{drawn_rules}
use Rattle.st_work.specs.Generator.{first_work, steps_of}
use Rattle.st_answers.specs.Work.{AreShown, IsTallied, IsWorkLine, are_same, load_header, work_line}
use Rattle.st_answers.specs.declared.tally.Tally.{Tally}

-- a world, and one like it that steps lead to
record ArePair (h : HeaderView) (w u : WorldState) : Type 0 where
  alike : AreAlike w u
  world : IsWorld h u

-- a step of both has one answer, and leads to such a pair
step_pair : (h : HeaderView) (w u v x : WorldState) (s : StepView) (a b : Answer) → ArePair h w u → KeepsRules s.act → IsNext h w s v a → IsNext h u s x b → (a ≡ b) × ArePair h v x
step_pair h w u v x s a b p rules is was =
    let r = next_alike h w u p.alike (lists_mean_one h u p.world) s v x a b is was in
    (r.0, record { alike = r.1; world = goes_on h u p.world x b s rules was })

made_pair : (h : HeaderView) (steps : List StepView) (w u v x : WorldState) (n m : ℕ) → ArePair h w u → AllByRecursion (λ (s : StepView). KeepsRules s.act) steps
    → AreMade h w steps v n → AreMade h u steps x m → (n ≡ m) × ArePair h v x
made_pair h [] w u v x n m p rules (same, none) (like, nothing) = (none ∙ sym nothing, subst (λ z. ArePair h z x) (sym same) (subst (ArePair h w) (sym like) p))
made_pair h (s ∷ steps) w u v x n m p rules (y, a, rest, is, more, e) (z, b, last, was, after, f) =
    let q = step_pair h w u y z s a b p rules.0 is was in
    let r = made_pair h steps y z v x rest last q.1 rules.1 more after in
    (e ∙ (λ i. refusals (q.0 i) + r.0 i) ∙ sym f, r.1)

until_pair : (h : HeaderView) (s : StepView) (last : Answer) (w u v x : WorldState) → ArePair h w u → KeepsRules s.act → IsMadeUntil h s last w v → IsMadeUntil h s last u x → ArePair h v x
until_pair h s last w u v x p rules (ends is) (ends was) = (step_pair h w u v x s last last p rules is was).1
until_pair h s last w u v x p rules (ends is) (goes {u = z} b other was more) = absurd (other (sym (step_pair h w u v z s last b p rules is was).0))
until_pair h s last w u v x p rules (goes {u = y} a other is more) (ends was) = absurd (other (step_pair h w u y x s a last p rules is was).0)
until_pair h s last w u v x p rules (goes {u = y} a other is more) (goes {u = z} b another was after) =
    until_pair h s last y z v x (step_pair h w u y z s a b p rules is was).1 rules more after

each_pair : (h : HeaderView) (act : ActView) (why : Refusal) (names : List (List ℕ)) (w u v x : WorldState) → ArePair h w u → KeepsRules act → EachUntil h act why names w v → EachUntil h act why names u x → ArePair h v x
each_pair h act why [] w u v x p rules same like = subst (λ z. ArePair h z x) (sym same) (subst (ArePair h w) (sym like) p)
each_pair h act why (name ∷ names) w u v x p rules (y, is, more) (z, was, after) =
    each_pair h act why names y z v x (until_pair h (step_by act name) (answer.No why) w u y z p rules is was) rules more after

text_of : (s t : List ℕ) → answer.Show s ≡ answer.Show t → s ≡ t
text_of s t e = cc

shown_one : (h : HeaderView) (names : List (List ℕ)) (w u : WorldState) (ss ts : List (List ℕ)) → ArePair h w u → AreShown h w names ss → AreShown h u names ts → ss ≡ ts
shown_one h [] w u ss ts p e f = e ∙ sym f
shown_one h (name ∷ names) w u ss ts p (s, rest, is, more, e) (t, last, was, after, f) =
    let q = step_pair h w u w u (step_by step.show name) (answer.Show s) (answer.Show t) p tt is was in
    let same = text_of s t q.0 in
    let others = shown_one h names w u rest last p more after in
    e ∙ (λ i. same i ∷ others i) ∙ sym f

tally_one : (h : HeaderView) (seed steps : ℕ) (s t : Tally) → IsWorld h empty_state → IsTallied h seed steps s → IsTallied h seed steps t → s ≡ t
tally_one h seed steps s t begun a b =
    let p0 : ArePair h empty_state empty_state = record { alike = worlds_itself empty_state; world = begun } in
    let p1 = made_pair h (map (step_by (step.join None)) load_clients) empty_state empty_state a.joined b.joined a.unjoined b.unjoined p0 (tt, (tt, (tt, (tt, tt)))) a.joins b.joins in
    let p2 = made_pair h (steps_of seed steps) a.joined b.joined a.drawn b.drawn s.refused t.refused p1.1 (drawn_rules (first_work seed) steps) a.draws b.draws in
    let p3 = each_pair h step.sequence no.NothingToSend load_clients a.drawn b.drawn a.sent b.sent p2.1 tt a.sends b.sends in
    let p4 = each_pair h step.deliver no.NothingNew load_clients a.sent b.sent a.last b.last p3 tt a.receives b.receives in
    let texts = shown_one h load_clients a.last b.last a.shown b.shown p4 a.shows b.shows in
    let void = void_alike (opening_document h) (commits_in a.last.log) (commits_in b.last.log) a.void b.void (filter_mapped AlikeEntry IsAlike commit_of commit_of (λ e f x. x.body.1) a.last.log b.last.log p4.alike.log) a.voids b.voids in
    let entries : s.entries ≡ t.entries = a.entries ∙ as_long AlikeEntry a.last.log b.last.log p4.alike.log ∙ sym b.entries in
    let equal : s.equal ≡ t.equal = a.equal ∙ ap are_same texts ∙ sym b.equal in
    let refused : s.refused ≡ t.refused = p2.0 in
    let made : s.steps ≡ t.steps = a.steps_made ∙ sym b.steps_made in
    let voided : s.voided ≡ t.voided = a.voided ∙ ap length void ∙ sym b.voided in
    λ i. record { entries = entries i; equal = equal i; refused = refused i; steps = made i; voided = voided i }

header_one : (g h : HeaderView) → header_line (codes "trace") load_header ≡ Ok g → header_line (codes "trace") load_header ≡ Ok h → g ≡ h
header_one g h e f = let both = sym e ∙ f in cc

pub work_line_one : (seed steps : ℕ) (s t : List ℕ) → IsWorkLine seed steps s → IsWorkLine seed steps t → s ≡ t
work_line_one seed steps s t a b =
    let same : a.header ≡ b.header = header_one a.header b.header a.opens b.opens in
    let kept = header_line_kept (codes "trace") load_header b.header b.opens in
    let begun : IsWorld b.header empty_state = begun_sound b.header (record { schema = kept.0; tree = kept.1 }) in
    let tally = tally_one b.header seed steps a.tally b.tally begun (subst (λ h. IsTallied h seed steps a.tally) same a.tallied) b.tallied in
    a.told ∙ ap work_line tally ∙ sym b.told
