-- Each sound world goes on.
use Rattle.std.proofs.Common.{◌≡◌, ℕ, true, List, [], ◌∷◌, refl, subst}
use Rattle.std.specs.List.{AllByRecursion}
use Rattle.st_schema.specs.Schema.{SchemaView, is_sound}
use Rattle.st_lists.specs.declared.lists.WorldState.{WorldState}
use Rattle.st_script.specs.Header.{HeaderView}
use Rattle.st_script.specs.StepText.{FitsAct}
use Rattle.st_script.specs.Steps.{ActView, StepView}
use Rattle.st_script.specs.Steps as step
use Rattle.st_script.specs.declared.answer.Answer.{Answer}
use Rattle.st_world.specs.World.{IsNext}
use Rattle.st_world_laws.specs.Worlds.{IsWorld}
use Rattle.st_world_laws.specs.Worlds.{KeepsRules}
use Rattle.st_world_laws.proofs.Leading.{leads_on}
use Rattle.st_world_laws.proofs.LeadingBranches.{all_lead}
use Rattle.st_one_laws.specs.AlikeWorlds.{HasOneMeaning}
use Rattle.st_one_laws.proofs.OneMeaning.{lists_mean_one}
use Rattle.st_one_answers.specs.StepAnswers.{HasSoundSchema}

-- each step leads to some world in which the next ones mean one thing
abbrev pub StepsGoOn : HeaderView → WorldState → List StepView → Type 0
StepsGoOn h w [] = Unit {0}
StepsGoOn h w (s ∷ steps) = HasOneMeaning w × ((v : WorldState) × (a : Answer) × IsNext h w s v a × StepsGoOn h v steps)

sound_rules : (x : ActView) → ((new : SchemaView) → x ≡ step.upgrade new → is_sound new ≡ true) → KeepsRules x
sound_rules (step.join uuid) h = tt
sound_rules (step.edit e) h = tt
sound_rules (step.need at) h = tt
sound_rules step.begin h = tt
sound_rules step.commit h = tt
sound_rules step.abort h = tt
sound_rules step.fork h = tt
sound_rules step.rebase h = tt
sound_rules step.merge h = tt
sound_rules step.drop_branch h = tt
sound_rules (step.undo rev) h = tt
sound_rules (step.upgrade new) h = h new refl
sound_rules step.sequence h = tt
sound_rules step.ack h = tt
sound_rules step.deliver h = tt
sound_rules step.leave h = tt
sound_rules step.drop_client h = tt
sound_rules step.reconnect h = tt
sound_rules step.show h = tt
sound_rules step.pending h = tt

-- the schema of a step that a line holds keeps the rules
pub fits_rules : (branch : ℕ) (x : ActView) → FitsAct branch x → KeepsRules x
fits_rules branch x h = sound_rules x (λ new e. (subst (FitsAct branch) e h).1)

pub steps_go_on : (h : HeaderView) (w : WorldState) (steps : List StepView) → IsWorld h w → AllByRecursion HasSoundSchema steps → StepsGoOn h w steps
steps_go_on h w [] s all = tt
steps_go_on h w (x ∷ steps) s all =
    let r = leads_on h w s (all_lead h w s) x in
    (lists_mean_one h w s, (r.0, r.1, r.2, steps_go_on h r.0 steps (r.3 (sound_rules x.act all.0)) all.1))
