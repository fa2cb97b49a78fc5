-- Replies to requests to the algebra of changes.
use Rattle.std.proofs.Common.{◌≡◌, ◌↔◌, ◌&&◌, ℕ, Bool, true, false, not, List, Option, Some, None, Ok, Err, refl, sym, ◌∙◌, ap, subst, IsTrue, MatchOption}
use Rattle.serde_json.specs.Data.{Data}
use Rattle.st_ids.specs.Listing.{Has}
use Rattle.st_ids.specs.Order.{same_rev}
use Rattle.st_ids.specs.declared.names.Rev.{Rev}
use Rattle.st_ids.proofs.Orders.{same_rev-itself, same_rev-true}
use Rattle.st_json.specs.Line.{line_value}
use Rattle.st_json.specs.declared.fault.BadCause.{BadCause}
use Rattle.st_marks.specs.Document.{revs}
use Rattle.st_marks.specs.declared.schemas.SchemaEntry.{SchemaEntry}
use Rattle.st_marks.specs.declared.schemas.SchemaStep.{SchemaStep}
use Rattle.st_marks.specs.declared.steps.Step.{Step}
use Rattle.st_marks.proofs.Members.{any-has, has-any, has-map, map-has}
use Rattle.st_pieces.specs.Told.{IsReply}
use Rattle.st_pieces.specs.declared.responder.Reply.{Reply}
use Rattle.st_pieces.specs.declared.responder.Reply.TheVariants.{Goes, Ends}
use Rattle.st_requests.specs.Form.{form_of}
use Rattle.st_requests.specs.Normal.{IsNormal}
use Rattle.st_requests.specs.Requests.{IsOfForm, IsOfValue, IsRequest}
use Rattle.st_requests.specs.declared.request.Request.{Request}
use Rattle.st_revert.specs.Reversal.{has_rev, takes_out}
use Rattle.st_answers.specs.Algebra.{AnswersRequest, TakesOut, algebra}
use Rattle.st_answers.specs.Meaning.{EndsAt}
use Rattle.st_answers.specs.declared.cause.EndCause.{EndCause}
use Rattle.st_run.specs.inside.Replies.{IsAnswerTo, IsTelling}

-- ## A request

of_form : (o : Option Request) (q : Request) → IsOfForm o (Ok q) → IsNormal q
of_form None q e = absurd (let f : Ok q ≡ Err BadCause.Shape = e in cc)
of_form (Some p) q h = subst IsNormal (sym h.0) h.1

of_value : (o : Option Data) (q : Request) → IsOfValue o (Ok q) → IsNormal q
of_value None q e = absurd (let f : Ok q ≡ Err BadCause.Json = e in cc)
of_value (Some d) q h = of_form (form_of d) q h

-- what a line is read as has normal arguments
pub request_normal : (line : List ℕ) (q : Request) → IsRequest line (Ok q) → IsNormal q
request_normal line q h = of_value (line_value line) q h

-- ## Its answer

module _ (q : Request) where
  -- a line is told that answers
  pub told_to : (told : List ℕ) (r : Reply EndCause) → AnswersRequest q told → IsTelling told r → IsAnswerTo q r
  told_to told (Goes text) is h = subst (AnswersRequest q) (sym h) is
  told_to told (Ends text e) is h = absurd h

-- a line that is a request is answered
pub request_taken : (n : ℕ) (line : List ℕ) (q : Request) (r : Reply EndCause) → IsRequest line (Ok q) → IsAnswerTo q r → IsReply (algebra.Takes tt n line) (EndsAt algebra tt n line) (λ t. Unit {0}) r
request_taken n line q (Goes text) is h = (tt, record { request = q; is = is; answered = h }, tt)
request_taken n line q (Ends text e) is h = absurd h

-- ## What a step takes out of effect

revs_has : (entries : List SchemaEntry) (u : Rev) → (has_rev entries u ≡ true) ↔ Has (revs entries) u
revs_has entries u = (to, from)
  where
    same : SchemaEntry → Bool
    same x = same_rev x.rev u

    to : has_rev entries u ≡ true → Has (revs entries) u
    to e = let c = any-has same entries e in subst (Has (revs entries)) (same_rev-true c.0.rev u c.2) (map-has (λ (x : SchemaEntry). x.rev) entries c.0 c.1)

    from : Has (revs entries) u → has_rev entries u ≡ true
    from h = let c = has-map (λ (x : SchemaEntry). x.rev) entries u h in has-any same entries c.0 c.1 (ap (λ r. same_rev r u) c.2 ∙ same_rev-itself u)

-- two tests and two facts
tests_out : (a b : Bool) (A B : Type 0) → (a ≡ true) ↔ A → (b ≡ true) ↔ B → (c : Bool) → c ≡ not (a && not b) → IsTrue c ↔ (A × (B → ⊥) → ⊥)
tests_out false b A B f g c e = (λ t h. let x = f.1 h.0 in cc, λ h. e)
tests_out true true A B f g c e = (λ t h. h.1 (g.0 refl), λ h. e)
tests_out true false A B f g c e = (λ t h. let x : ◌≡◌ {A = Bool} false true = sym e ∙ t in cc, λ h. absurd (h (f.0 refl, λ b. let x = g.1 b in cc)))

pub taken_out : (S : Step) (u : Rev) (c : Bool) → c ≡ not (takes_out S.schema u) → IsTrue c ↔ (TakesOut S u → ⊥)
taken_out S u c = by S.schema
  where
    by : (s : Option SchemaStep) → c ≡ not (takes_out s u) → IsTrue c ↔ (MatchOption s ⊥ (λ (p : SchemaStep). Has (revs p.cut) u × (Has (revs p.add) u → ⊥)) → ⊥)
    by None e = (λ t h. absurd h, λ h. e)
    by (Some p) e = tests_out (has_rev p.cut u) (has_rev p.add u) (Has (revs p.cut) u) (Has (revs p.add) u) (revs_has p.cut u) (revs_has p.add u) c e
