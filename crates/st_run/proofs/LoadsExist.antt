-- Each load has a line.
use Rattle.std.proofs.Common.{◌≡◌, ◌⊎◌, inl, inr, ◌≤◌, ◌+◌, ℕ, zero, suc, List, [], ◌∷◌, length, map, None, Result, Ok, Err, codes, refl, subst, arith}
use Rattle.std.specs.List.{AllByRecursion}
use Rattle.st_json.specs.declared.fault.BadCause.{BadCause}
use Rattle.st_lists.specs.Clients.{empty_state}
use Rattle.st_lists.specs.Log.{commits_in}
use Rattle.st_lists.specs.declared.lists.WorldState.{WorldState}
use Rattle.st_script.specs.Header.{HeaderView, header_line}
use Rattle.st_script.specs.Steps.{ActView, StepView}
use Rattle.st_script.specs.Steps as step
use Rattle.st_script.specs.declared.answer.Answer.{Answer}
use Rattle.st_script.specs.declared.answer.Answer.TheVariants as answer
use Rattle.st_script.specs.declared.refusal.Refusal.TheVariants as no
use Rattle.st_script.proofs.OfForm.{header_line_kept}
use Rattle.st_world.specs.World.{IsNext, opening_document}
use Rattle.st_world_laws.specs.Worlds.{IsWorld, KeepsRules}
use Rattle.st_world_laws.proofs.Begun.{opened_start}
use Rattle.st_world_laws.proofs.Going.{begun_sound}
use Rattle.st_world_laws.proofs.Leading.{leads_on}
use Rattle.st_world_laws.proofs.LeadingBranches.{all_lead}
use Rattle.st_world_laws.proofs.Voids.{has_void}
use Rattle.st_load_laws.specs.Load.{AreMade, EachUntil, IsMadeUntil, ends, goes, load_clients, refusals, step_by}
use Rattle.st_load_laws.specs.Loaded.{EndsWithin, IsLoaded}
use Rattle.st_load_laws.proofs.Drawing.{drawn_goes}
use Rattle.st_load_laws.proofs.Ending.{received_loaded, receiving_ends_soon, sending_ends_soon, sent_loaded, shown}
use Rattle.st_load_laws.proofs.Finding.{IsAmong, all_among}
use Rattle.st_load_laws.proofs.Joining.{joins_load}
use Rattle.st_work.specs.Generator.{first_work, steps_of}
use Rattle.st_answers.proofs.LoadRules.{drawn_rules}
use Rattle.st_answers.specs.Work.{AreShown, IsWorkLine, are_same, load_header, work_line}
use Rattle.st_answers.specs.declared.tally.Tally.{Tally}
use Rattle.st_run.proofs.Loads.{loaded_more, opens_well}

-- ## Steps

made_exist : (h : HeaderView) (steps : List StepView) (w : WorldState) → AllByRecursion (λ (s : StepView). KeepsRules s.act) steps → IsWorld h w
    → (v : WorldState) × (refused : ℕ) × AreMade h w steps v refused × IsWorld h v
made_exist h [] w rules holds = (w, 0, (refl, refl), holds)
made_exist h (s ∷ steps) w rules holds =
    let r = leads_on h w holds (all_lead h w holds) s in
    let more = made_exist h steps r.0 rules.1 (r.3 rules.0) in
    (more.0, refusals r.1 + more.1, (r.0, r.1, more.1, r.2, more.2, refl), more.3)

-- ## Steps until an answer

until_exist : (n : ℕ) (h : HeaderView) (s : StepView) (last : Answer) (w : WorldState) → KeepsRules s.act → IsWorld h w → EndsWithin n h s last w
    → (v : WorldState) × IsMadeUntil h s last w v × IsWorld h v
until_exist zero h s last w rules holds soon = absurd soon
until_exist (suc n) h s last w rules holds soon =
    let r = leads_on h w holds (all_lead h w holds) s in
    go r.0 r.1 r.2 (r.3 rules) (soon r.0 r.1 r.2) (λ more. until_exist n h s last r.0 rules (r.3 rules) more)
  where
    go : (u : WorldState) (a : Answer) → IsNext h w s u a → IsWorld h u → (a ≡ last) ⊎ ((a ≡ last → ⊥) × EndsWithin n h s last u)
        → (EndsWithin n h s last u → (v : WorldState) × IsMadeUntil h s last u v × IsWorld h v) → (v : WorldState) × IsMadeUntil h s last w v × IsWorld h v
    go u a is after (inl e) on = (u, ends (subst (λ b. IsNext h w s u b) e is), after)
    go u a is after (inr (other, more)) on = let m = on more in (m.0, goes a other is m.1, m.2)

sends_exist : (h : HeaderView) (names : List (List ℕ)) (w : WorldState) → AllByRecursion (IsAmong load_clients) names → IsWorld h w → IsLoaded load_clients 60000 w
    → (v : WorldState) × EachUntil h step.sequence no.NothingToSend names w v × IsWorld h v × IsLoaded load_clients 60000 v
sends_exist h [] w among holds l = (w, refl, holds, l)
sends_exist h (name ∷ names) w among holds l =
    let soon = sending_ends_soon h name 60000 w among.0 (omega arith) l in
    let m = until_exist soon.0 h (step_by step.sequence name) (answer.No no.NothingToSend) w tt holds soon.2 in
    let rest = sends_exist h names m.0 among.1 m.2 (sent_loaded h name 60000 w m.0 among.0 l m.1) in
    (rest.0, (m.0, m.1, rest.1), rest.2, rest.3)

receives_exist : (h : HeaderView) (names : List (List ℕ)) (w : WorldState) → AllByRecursion (IsAmong load_clients) names → IsWorld h w → IsLoaded load_clients 60000 w
    → (v : WorldState) × EachUntil h step.deliver no.NothingNew names w v × IsWorld h v × IsLoaded load_clients 60000 v
receives_exist h [] w among holds l = (w, refl, holds, l)
receives_exist h (name ∷ names) w among holds l =
    let soon = receiving_ends_soon h name 60000 w among.0 (omega arith) l in
    let m = until_exist soon.0 h (step_by step.deliver name) (answer.No no.NothingNew) w tt holds soon.2 in
    let rest = receives_exist h names m.0 among.1 m.2 (received_loaded h name 60000 w m.0 among.0 l m.1) in
    (rest.0, (m.0, m.1, rest.1), rest.2, rest.3)

-- ## The line

shows_exist : (h : HeaderView) (names : List (List ℕ)) (w : WorldState) → AllByRecursion (IsAmong load_clients) names → IsWorld h w → IsLoaded load_clients 60000 w
    → (texts : List (List ℕ)) × AreShown h w names texts
shows_exist h [] w among holds l = ([], refl)
shows_exist h (name ∷ names) w among holds l =
    let r = leads_on h w holds (all_lead h w holds) (step_by step.show name) in
    let s = shown h 60000 w r.0 name r.1 l among.0 r.2 in
    let rest = shows_exist h names w among.1 holds l in
    let same : IsNext h w (step_by step.show name) w r.1 = subst (λ x. IsNext h w (step_by step.show name) x r.1) s.same r.2 in
    (s.text ∷ rest.0, (s.text, rest.0, subst (λ a. IsNext h w (step_by step.show name) w a) s.told same, rest.1, refl))

line_exists : (h : HeaderView) (seed steps : ℕ) → header_line (codes "trace") load_header ≡ Ok h → steps ≤ 50000 → (line : List ℕ) × IsWorkLine seed steps line
line_exists h seed steps opens few =
    let kept = header_line_kept (codes "trace") load_header h opens in
    let begun : IsWorld h empty_state = begun_sound h (record { schema = kept.0; tree = kept.1 }) in
    let joins = made_exist h (map (step_by (step.join None)) load_clients) empty_state (tt, (tt, (tt, (tt, tt)))) begun in
    let draws = made_exist h (steps_of seed steps) joins.0 (drawn_rules (first_work seed) steps) joins.3 in
    let loaded = loaded_more (4 + steps) draws.0 (omega (arith, few)) (drawn_goes h (first_work seed) steps 4 joins.0 draws.0 draws.1 (joins_load h joins.0 joins.1 joins.2) draws.2) in
    let sends = sends_exist h load_clients draws.0 all_among draws.3 loaded in
    let receives = receives_exist h load_clients sends.0 all_among sends.2 sends.3 in
    let shows = shows_exist h load_clients receives.0 all_among receives.2 receives.3 in
    let world = receives.2 in
    let void = has_void (opening_document h) (commits_in receives.0.log) (opened_start h world.header).sound world.log_fit in
    let tally : Tally = record { entries = length receives.0.log; equal = are_same shows.0; refused = draws.1; steps = steps; voided = length void.0 } in (
      work_line tally,
      record {
        header = h;
        opens = opens;
        tally = tally;
        tallied = record {
          joined = joins.0;
          unjoined = joins.1;
          joins = joins.2;
          drawn = draws.0;
          draws = draws.2;
          sent = sends.0;
          sends = sends.1;
          last = receives.0;
          receives = receives.1;
          shown = shows.0;
          shows = shows.1;
          equal = refl;
          void = void.0;
          voids = void.1;
          voided = refl;
          entries = refl;
          steps_made = refl;
        };
        told = refl;
      },
    )

pub work_line_exists : (seed steps : ℕ) → steps ≤ 50000 → (line : List ℕ) × IsWorkLine seed steps line
work_line_exists seed steps few = go (header_line (codes "trace") load_header) refl
  where
    go : (r : Result HeaderView BadCause) → header_line (codes "trace") load_header ≡ r → (line : List ℕ) × IsWorkLine seed steps line
    go (Ok h) e = line_exists h seed steps e few
    go (Err c) e = absurd (opens_well c e)
