use Rattle.std.proofs.Common.{◌≡◌, ◌∙◌, ◌++◌, codes, ℕ, List}
use Rattle.std.proofs.lemmas.Result.{on_ok_weaker}
use Rattle.serde_json.specs.Data.{string}
use Rattle.serde_json.specs.Written.{compact_text}
use Rattle.st_mark_reader.specs.Naming.{plain_naming}
use Rattle.st_script.specs.AnswerText.{void_data}
use Rattle.st_change_writer.specs.Told.{step_data}
use Rattle.st_requests.proofs.Lines.{effect_is}
use Rattle.st_requests.proofs.answer.push_effect_answer.Goals as goal

pub returns : goal.returns
returns c =
    let head : List ℕ = codes "{\"ok\":" ++ (compact_text (string c.args.word.now) ++ (codes ",\"step\":" ++ compact_text (step_data plain_naming c.args.step.now))) in
    let why = compact_text (void_data c.args.verdict) in
    let verdict : c.push_verdict.new.out ≡ c.push_str.new.self ++ why = c.in_ok-push_verdict.ensures in
    let word : c.push_str.new.self ≡ c.push_step_head.new.out ++ codes ",\"verdict\":" = c.in_ok-push_str.ensures.ok in
    let front : c.push_step_head.new.out ≡ c.args.out.now ++ head = c.in_ok-push_step_head.ensures in
    on_ok_weaker c.push_str-2.result (λ h. h
    ∙ (λ i. verdict i ++ codes "}\n")
    ∙ (λ i. (word i ++ why) ++ codes "}\n")
    ∙ (λ i. ((front i ++ codes ",\"verdict\":") ++ why) ++ codes "}\n")
    ∙ effect_is c.args.out.now c.args.word.now c.args.step.now c.args.verdict) c.push_str-2.ensures.ok
