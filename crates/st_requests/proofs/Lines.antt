-- The texts of answers, of pieces one after another.
use Rattle.std.proofs.Common.{◌≡◌, refl, ap, ◌∙◌, ℕ, List, [], ◌∷◌, ◌++◌, append_assoc, codes}
use Rattle.json.specs.Print.{escape_byte}
use Rattle.serde_json.specs.Data.{string}
use Rattle.serde_json.specs.Written.{compact_text}
use Rattle.st_ids.specs.declared.names.FieldId.{FieldId}
use Rattle.st_ids.specs.declared.names.NodeId.{NodeId}
use Rattle.st_ids.specs.declared.names.Rev.{Rev}
use Rattle.st_marks.specs.declared.changes.Change.{Change}
use Rattle.st_marks.specs.declared.steps.Step.{Step}
use Rattle.st_marks.specs.declared.verdicts.Verdict.{Verdict}
use Rattle.st_script.specs.AnswerText.{void_data}
use Rattle.st_mark_reader.specs.Naming.{plain_naming}
use Rattle.st_change_writer.specs.Told.{change_data, step_data}
use Rattle.st_requests.specs.Answers.{apart_answer, change_answer, line_of, step_answer, verdict_answer}

five : (o a b c d e : List ℕ) → ((((o ++ a) ++ b) ++ c) ++ d) ++ e ≡ o ++ (a ++ (b ++ (c ++ (d ++ e))))
five o a b c d e = simp append_assoc

-- the last piece is what closes a value and the line feed
closed : (a b c d e z : List ℕ) → a ++ (b ++ (c ++ (d ++ (e ++ z)))) ≡ (a ++ (b ++ (c ++ (d ++ e)))) ++ z
closed a b c d e z = simp append_assoc

pub change_is : (out word : List ℕ) (C : Change)
    → ((((out ++ codes "{\"change\":") ++ compact_text (change_data plain_naming C)) ++ codes ",\"ok\":") ++ compact_text (string word)) ++ codes "}\n"
    ≡ out ++ line_of (change_answer word C)
unfolding escape_byte
change_is out word C =
    five out (codes "{\"change\":") (compact_text (change_data plain_naming C)) (codes ",\"ok\":") (compact_text (string word)) (codes "}\n")
    ∙ ap (λ (x : List ℕ). out ++ x) (closed (codes "{\"change\":") (compact_text (change_data plain_naming C)) (codes ",\"ok\":") (compact_text (string word)) (codes "}") (codes "\n"))

three : (o a b c : List ℕ) → ((o ++ a) ++ b) ++ c ≡ o ++ (a ++ (b ++ c))
three o a b c = simp append_assoc

headed : (o a b c d e z : List ℕ) → (o ++ (a ++ (b ++ (c ++ d)))) ++ (e ++ z) ≡ o ++ ((a ++ (b ++ (c ++ (d ++ e)))) ++ z)
headed o a b c d e z = simp append_assoc

four : (o a b c d : List ℕ) → (((o ++ a) ++ b) ++ c) ++ d ≡ o ++ (a ++ (b ++ (c ++ d)))
four o a b c d = simp append_assoc

pub head_is : (out word : List ℕ) (S : Step)
    → (((out ++ codes "{\"ok\":") ++ compact_text (string word)) ++ codes ",\"step\":") ++ compact_text (step_data plain_naming S)
    ≡ out ++ (codes "{\"ok\":" ++ (compact_text (string word) ++ (codes ",\"step\":" ++ compact_text (step_data plain_naming S))))
head_is out word S = four out (codes "{\"ok\":") (compact_text (string word)) (codes ",\"step\":") (compact_text (step_data plain_naming S))

pub step_is : (out word : List ℕ) (S : Step)
    → (out ++ (codes "{\"ok\":" ++ (compact_text (string word) ++ (codes ",\"step\":" ++ compact_text (step_data plain_naming S))))) ++ codes "}\n"
    ≡ out ++ line_of (step_answer word S)
unfolding escape_byte
step_is out word S = headed out (codes "{\"ok\":") (compact_text (string word)) (codes ",\"step\":") (compact_text (step_data plain_naming S)) (codes "}") (codes "\n")

headed_on : (o a b c d e f g z : List ℕ) → (((o ++ (a ++ (b ++ (c ++ d)))) ++ e) ++ f) ++ (g ++ z) ≡ o ++ ((a ++ (b ++ (c ++ (d ++ (e ++ (f ++ g)))))) ++ z)
headed_on o a b c d e f g z = simp append_assoc

pub effect_is : (out word : List ℕ) (S : Step) (v : Verdict)
    → (((out ++ (codes "{\"ok\":" ++ (compact_text (string word) ++ (codes ",\"step\":" ++ compact_text (step_data plain_naming S))))) ++ codes ",\"verdict\":") ++ compact_text (void_data v)) ++ codes "}\n"
    ≡ out ++ line_of (verdict_answer word S v)
unfolding escape_byte
effect_is out word S v = headed_on out (codes "{\"ok\":") (compact_text (string word)) (codes ",\"step\":") (compact_text (step_data plain_naming S)) (codes ",\"verdict\":") (compact_text (void_data v)) (codes "}") (codes "\n")

pub need_is : (x : NodeId) → codes "{\"need\":" ++ (compact_text (plain_naming.atom x.0) ++ codes "}") ≡ compact_text (void_data (Verdict.Need x))
unfolding escape_byte
need_is x = refl

pub cycle_is : (x : NodeId) → codes "{\"cycle\":" ++ (compact_text (plain_naming.atom x.0) ++ codes "}") ≡ compact_text (void_data (Verdict.Cycle x))
unfolding escape_byte
cycle_is x = refl

pub schema_is : (r : Rev) → codes "{\"schema\":" ++ (compact_text (plain_naming.rev r) ++ codes "}") ≡ compact_text (void_data (Verdict.Schema r))
unfolding escape_byte
schema_is r = refl

field_closed : (a b rest z : List ℕ) → codes "{\"field\":[" ++ (a ++ (codes "," ++ (b ++ (93 ∷ (rest ++ z))))) ≡ (codes "{\"field\":[" ++ ((a ++ (44 ∷ (b ++ 93 ∷ []))) ++ rest)) ++ z
field_closed a b rest z = simp append_assoc

pub apart_is : (out : List ℕ) (f : FieldId)
    → ((((out ++ codes "{\"field\":[") ++ compact_text (plain_naming.atom f.node.0)) ++ codes ",") ++ compact_text (string f.key.0)) ++ codes "],\"no\":\"Apart\"}\n"
    ≡ out ++ line_of (apart_answer f)
unfolding escape_byte
apart_is out f = five out (codes "{\"field\":[") (compact_text (plain_naming.atom f.node.0)) (codes ",") (compact_text (string f.key.0)) (codes "],\"no\":\"Apart\"}\n")
    ∙ ap (λ (x : List ℕ). out ++ x) (field_closed (compact_text (plain_naming.atom f.node.0)) (compact_text (string f.key.0)) (codes ",\"no\":\"Apart\"}") (codes "\n"))
